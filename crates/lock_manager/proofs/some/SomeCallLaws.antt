-- Each call on descriptors answers something and leaves some descriptors, where those that are open refer to descriptions that were made.
use Rattle.lock_manager.proofs.Common.{◌≡◌, ℕ, zero, suc, ◌+◌, ◌<◌, ◌≤◌, ◌==◌, Bool, true, false, MatchBool, Option, Some, None, IsSome, Result, Ok, Err, ℤ, refl, subst, ◌⊎◌, inl, inr, arith, List, [], ◌∷◌, length, option_map, get_or, Contains, common_steps, slice_get_cases, cases_lt}
use Rattle.lock_manager.proofs.Common.{Access, Limits, FdFault, BadFd, TooMany, Invalid, Taken, Descriptors, OpenFileDescription, SameDescriptors, description_numbered, with_descriptor, without_descriptors, AreReleased, ClosesFile, nothing, OpenGives, DupGives, DupToGives, CloseGives, EndGives, ForkGives, SeekGives, ResizeGives, AreMade}
use Rattle.std.proofs.Common.{pos, negsuc, ◌<ℤ◌}
use Rattle.std.proofs.lemmas.Int.{ints}
use Rattle.std.proofs.lemmas.List.Elements.{Contains-get_or, Contains-append_left, Contains-append_right, Contains-append_cases, Contains-push, Contains-push_cases}
use Rattle.fd_table.specs.declared.TheConstants.{FILES}
use Rattle.fd_table.specs.Descriptors.{IsFull, IsLowestFree, description_limit, descriptor_limit, with_description, with_child, with_offset, with_size}
use Rattle.fd_table.specs.Releases.{AreExactly, ClosesDescription}
use Rattle.fd_table.specs.Calls.{IsFreeProcess, Refers}
use Rattle.lock_manager.proofs.some.AtLeastOneLemmas.{AtLeastOne, SomePair, by_cases}

-- descriptors agree with themselves
same : (D : Descriptors) → SameDescriptors D D
same D = record { description_of = λ p fd. refl; descriptions = refl; sizes = λ file. refl; ever_alive = λ p. refl }

-- these numbers are all in the range of which the fact holds
abbrev AreBetween : (ℕ → Type 0) → ℕ → ℕ → List ℕ → Type 0
AreBetween Fact low high numbers = AreExactly numbers (λ x. (low ≤ x) × (x < high) × Fact x)

-- the range begins one lower, where the fact holds
one_more : (Fact : ℕ → Type 0) (low high : ℕ) (numbers : List ℕ) → low < high → Fact low → AreBetween Fact (low + 1) high numbers
    → AreBetween Fact low high (low ∷ numbers)
one_more Fact low high numbers within holds h = record {
  rising = elim [
    | zero ↦ λ more.
        let at = (h.each (get_or numbers 0 0)).0 (Contains-get_or numbers 0 0 (omega (arith, more))) in
        let above : low < get_or numbers 0 0 = omega (arith, at.0) in above
    | suc k ↦ λ more. let next : suc k + 1 ≡ suc (k + 1) = omega arith in rw next (h.rising k (omega (arith, more)))
  ];
  each = λ x. (
    λ there. elim (Contains-append_cases (low ∷ []) numbers x there) [
      | inl first ↦ grind (arith, common_steps, Contains-push_cases [] low x first)
      | inr later ↦ let at = (h.each x).0 later in (omega (arith, at.0), at.1, at.2)
    ],
    λ fact. elim (cases_lt low x) [
      | inl above ↦ Contains-append_right (low ∷ []) numbers x ((h.each x).1 (omega (arith, above), fact.1, fact.2))
      | inr first ↦
          let is : low ≡ x = omega (arith, fact.0) in
          subst (Contains (low ∷ numbers)) is (Contains-append_left (low ∷ []) numbers low (Contains-push [] low))
    ],
  );
}

-- where it doesn't
none_more : (Fact : ℕ → Type 0) (low high : ℕ) (numbers : List ℕ) → ¬ Fact low → AreBetween Fact (low + 1) high numbers
    → AreBetween Fact low high numbers
none_more Fact low high numbers fails h = record {
  rising = h.rising;
  each = λ x. (λ there. grind (arith, common_steps, h.each x), λ fact. grind (arith, common_steps, cases_lt, h.each x));
}

-- the numbers in a range of which a fact holds are some list
numbers_between : (Fact : ℕ → Type 0) (low high count : ℕ) → low + count ≡ high → AtLeastOne (AreBetween Fact low high)
numbers_between Fact low high zero is none =
    none []
    (record {
      rising = λ k more. absurd (omega (arith, more));
      each = λ x. ((λ there. absurd (let inside = there.1 in omega arith)), (λ fact. absurd (let from = fact.0 in let to = fact.1 in omega arith)));
    })
numbers_between Fact low high (suc count) is none =
    numbers_between Fact (low + 1) high count (omega (arith, is))
    (λ numbers h.
    by_cases (Fact low)
    (λ holds. none (low ∷ numbers) (one_more Fact low high numbers (omega (arith, is)) holds h))
    (λ fails. none numbers (none_more Fact low high numbers fails h)))

-- so are all of which it holds, where they lie below the bound
numbers_of : (Fact : ℕ → Type 0) (bound : ℕ) → ((x : ℕ) → Fact x → x < bound) → AtLeastOne (λ numbers. AreExactly numbers Fact)
numbers_of Fact bound low none =
    numbers_between Fact 0 bound bound (omega arith)
    (λ numbers h.
    none numbers
    (record { rising = h.rising; each = λ x. ((λ there. ((h.each x).0 there).2), (λ fact. (h.each x).1 (omega arith, low x fact, fact))) }))

-- a number above the files of all these descriptions
files_below : List OpenFileDescription → ℕ
files_below [] = 0
files_below (opened ∷ descriptions) = suc opened.file + files_below descriptions

file_below : (descriptions : List OpenFileDescription) (number file : ℕ)
    → option_map (λ opened. opened.file) (description_numbered descriptions number) ≡ Some file → file < files_below descriptions
unfolding files_below
file_below descriptions zero file e = cc
file_below [] (suc k) file e = cc
file_below (opened ∷ descriptions) (suc zero) file e = let is : opened.file ≡ file = cc in omega arith
file_below (opened ∷ descriptions) (suc (suc k)) file e = let h = file_below descriptions (suc k) file e in omega arith

-- the number of a description that was made
number_below : (descriptions : List OpenFileDescription) (number : ℕ) → IsSome (description_numbered descriptions number) → number < length descriptions + 1
number_below descriptions number h = grind (arith, common_steps, slice_get_cases)

-- a closing releases something
closing_some : (D E : Descriptors) (p : ℕ) (closed : ℕ → Bool) → AreMade D → AtLeastOne (AreReleased D E p closed)
closing_some D E p closed made none =
    numbers_of (ClosesFile D p closed) (files_below D.descriptions) (λ file h. file_below D.descriptions h.description file h.of_file)
    (λ files are_files.
    numbers_of (ClosesDescription D E) (length D.descriptions + 1)
    (λ number h. number_below D.descriptions number (made h.0.process h.0.fd number h.0.refers))
    (λ descriptions are_descriptions.
    none (record { files = files; descriptions = descriptions }) (record { files = are_files; descriptions = are_descriptions })))

-- a value, or none
pub some_or_none : {X : Type 0} (o : Option X) → ((x : X) × (o ≡ Some x)) ⊎ (o ≡ None)
some_or_none None = inr refl
some_or_none (Some x) = inl (x, refl)

-- the lowest number below the bound at which there is none, or there is one at each
lowest_none : {X : Type 0} (at : ℕ → Option X) (bound : ℕ)
    → ((n : ℕ) × (n < bound) × (at n ≡ None) × ((k : ℕ) → k < n → IsSome (at k))) ⊎ ((n : ℕ) → n < bound → IsSome (at n))
lowest_none at zero = inr (λ n within. absurd (omega arith))
lowest_none at (suc bound) = elim (lowest_none at bound) [
  | inl lowest ↦ inl (lowest.0, (let h = lowest.1 in omega arith), lowest.2, lowest.3)
  | inr full ↦ elim (some_or_none (at bound)) [
    | inr free ↦ inl (bound, omega arith, free, full)
    | inl taken ↦ inr (λ n within. grind (arith, common_steps, cases_lt, full))
  ]
]

free_or_full : (limits : Limits) (D : Descriptors) (p : ℕ) → ((fd : ℕ) × IsLowestFree limits D p fd) ⊎ IsFull limits D p
free_or_full limits D p = elim (lowest_none (D.description_of p) (descriptor_limit limits)) [
  | inl lowest ↦ inl (lowest.0, record { within = lowest.1; free = lowest.2; lowest = lowest.3 })
  | inr full ↦ inr full
]

pub OpenGives-some : (limits : Limits) (D : Descriptors) (p file : ℕ) (access : Access) → SomePair (OpenGives limits D p file access)
OpenGives-some limits D p file access none = elim (cases_lt file FILES) [
  | inr past ↦ none (Err Invalid) D (past, same D)
  | inl there ↦ elim (cases_lt (length D.descriptions) description_limit) [
    | inr many ↦ none (Err TooMany) D (there, inr many, same D)
    | inl few ↦ elim (free_or_full limits D p) [
      | inl free ↦ none (Ok free.0) (with_descriptor (with_description D file access) p free.0 (length D.descriptions + 1)) (there, few, free.1, same _)
      | inr full ↦ none (Err TooMany) D (there, inl full, same D)
    ]
  ]
]

pub DupGives-some : (limits : Limits) (D : Descriptors) (p fd : ℕ) → SomePair (DupGives limits D p fd)
DupGives-some limits D p fd none = elim (some_or_none (D.description_of p fd)) [
  | inr closed ↦ none (Err BadFd) D (closed, same D)
  | inl open_one ↦ elim (free_or_full limits D p) [
    | inl free ↦ none (Ok free.0) (with_descriptor D p free.0 open_one.0) (open_one.0, open_one.1, free.1, same _)
    | inr full ↦ none (Err TooMany) D (rw open_one.1 refl, full, same D)
  ]
]

moves_some : (D : Descriptors) (p to description : ℕ) (onto_itself : Bool) → AreMade D
    → SomePair (λ released E. MatchBool onto_itself ((released ≡ nothing) × SameDescriptors E D)
    (SameDescriptors E (with_descriptor D p to description) × AreReleased D E p (λ k. k == to) released))
moves_some D p to description true made none = none nothing D (refl, same D)
moves_some D p to description false made none =
    let E : Descriptors = with_descriptor D p to description in
    closing_some D E p (λ k. k == to) made (λ released h. none released E (same E, h))

pub DupToGives-some : (limits : Limits) (D : Descriptors) (p fd to : ℕ) → AreMade D → SomePair (DupToGives limits D p fd to)
DupToGives-some limits D p fd to made none = elim (some_or_none (D.description_of p fd)) [
  | inr closed ↦ none (Err BadFd) D (inl closed, same D)
  | inl open_one ↦ elim (cases_lt to (descriptor_limit limits)) [
    | inr past ↦ none (Err BadFd) D (inr past, same D)
    | inl within ↦ moves_some D p to open_one.0 (to == fd) made
        (λ released E h. none (Ok (to, released)) E (open_one.0, open_one.1, within, refl, h))
  ]
]

pub CloseGives-some : (D : Descriptors) (p fd : ℕ) → AreMade D → SomePair (CloseGives D p fd)
CloseGives-some D p fd made none = elim (some_or_none (D.description_of p fd)) [
  | inr closed ↦ none (Err BadFd) D (closed, same D)
  | inl open_one ↦
      let E : Descriptors = without_descriptors D p (λ k. k == fd) in
      closing_some D E p (λ k. k == fd) made (λ released h. none (Ok released) E (rw open_one.1 refl, same E, h))
]

pub EndGives-some : (D : Descriptors) (p : ℕ) → AreMade D → SomePair (EndGives D p)
EndGives-some D p made none =
    let E : Descriptors = without_descriptors D p (λ k. true) in
    closing_some D E p (λ k. true) made (λ released h. none released E (same E, h))

pub ForkGives-some : (processes : ℕ) (D : Descriptors) (p child : ℕ) → SomePair (ForkGives processes D p child)
ForkGives-some processes D p child none =
    by_cases (IsFreeProcess processes D child) (λ free. none (Ok tt) (with_child D p child) (free, same _)) (λ taken. none (Err Taken) D (taken, same D))

-- what an open descriptor refers to
refers_some : (D : Descriptors) (p fd number : ℕ) → AreMade D → D.description_of p fd ≡ Some number → (opened : OpenFileDescription) × Refers D p fd opened
refers_some D p fd number made is = elim (some_or_none (description_numbered D.descriptions number)) [
  | inl opened ↦ (opened.0, record { number = number; is = is; numbered = opened.1 })
  | inr nothing_there ↦ absurd (let h : IsSome {T = OpenFileDescription} None = subst IsSome nothing_there (made p fd number is) in cc)
]

-- a call that takes an offset or a size: the descriptor isn't open, or the number is below 0, or something is done
counted_some : (D : Descriptors) (p fd : ℕ) (count : ℤ) (Gives : Result (Unit {0}) FdFault → Descriptors → Type 0) → AreMade D
    → (D.description_of p fd ≡ None → Gives (Err BadFd) D)
    → (IsSome (D.description_of p fd) → count <ℤ pos 0 → Gives (Err Invalid) D)
    → ((opened : OpenFileDescription) → Refers D p fd opened → (n : ℕ) → count ≡ pos n → SomePair Gives) → SomePair Gives
counted_some D p fd count Gives made closed below done none = elim (some_or_none (D.description_of p fd)) [
  | inr missing ↦ none (Err BadFd) D (closed missing)
  | inl open_one ↦ signed count refl open_one.0 open_one.1
]
  where
    signed : (is : ℤ) → count ≡ is → (number : ℕ) → D.description_of p fd ≡ Some number → ⊥
    signed (pos n) same_count number is = let refers = refers_some D p fd number made is in done refers.0 refers.1 n same_count none
    signed (negsuc n) same_count number is = none (Err Invalid) D (below (rw is refl) (omega (arith, ints, same_count)))

pub SeekGives-some : (D : Descriptors) (p fd : ℕ) (offset : ℤ) → AreMade D → SomePair (SeekGives D p fd offset)
SeekGives-some D p fd offset made =
    counted_some D p fd offset (SeekGives D p fd offset) made (λ closed. (closed, same D)) (λ there below. (there, below, same D))
    (λ opened refers n is none. none (Ok tt) (with_offset D refers.number opened n) (opened, refers, n, is, same _))

pub ResizeGives-some : (D : Descriptors) (p fd : ℕ) (size : ℤ) → AreMade D → SomePair (ResizeGives D p fd size)
ResizeGives-some D p fd size made =
    counted_some D p fd size (ResizeGives D p fd size) made (λ closed. (closed, same D)) (λ there below. (there, below, same D))
    (λ opened refers n is none. none (Ok tt) (with_size D opened.file n) (opened, refers, n, is, same _))
