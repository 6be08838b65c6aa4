-- All that is kept of a table and of openings, one owner and one file after another: for `Holdings::of` and `Holdings::leave_file`.
use Rattle.lock_server.proofs.Common.{arith, ℕ, ◌≡◌, ◌≢◌, ◌+◌, ◌<◌, ◌≤◌, ◌∙◌, inl, inr, sym, ap, subst, refl, true, false, Bool, List, get_or, length, take, cases_eq, cases_lt, take_all, take_more, All-nil, All-push, Pending, Holdings, AreOfOthers, EntersOn, Keeps, LeavesFile, keeps}
use Rattle.lock_server.specs.HoldingsView.{EntersAll}

-- what is kept is kept on, where one more is
pub entered_more : (old new : Holdings) (owner file : ℕ) → Keeps old new owner file true → (other any : ℕ) → keeps old other any ≡ true → keeps new other any ≡ true
entered_more old new owner file enters other any before = elim (cases_eq other owner) [
  | inl same_owner ↦ elim (cases_eq any file) [
    | inl same_file ↦ ap (λ (o : ℕ). keeps new o any) same_owner ∙ ap (λ (f : ℕ). keeps new owner f) same_file ∙ enters.here
    | inr differs ↦ enters.apart.elsewhere other any differs ∙ before
  ]
  | inr differs ↦ enters.apart.others other any differs ∙ before
]

-- what wasn't kept was not kept before
pub not_before : (old new : Bool) → (old ≡ true → new ≡ true) → new ≡ false → old ≡ false
not_before true new more none = absurd (let no : true ≡ false = sym (more refl) ∙ none in cc)
not_before false new more none = refl

-- the owners below this one are entered, but for those of whom the rest holds
pub record IsEntering (old now : Holdings) (file : ℕ) (Rest : ℕ → Type 0) (next : ℕ) : Type 0 where
  pub more : (owner any : ℕ) → keeps old owner any ≡ true → keeps now owner any ≡ true
  pub rest : (owner : ℕ) → owner < next → keeps now owner file ≡ false → Rest owner

module _ (old : Holdings) (file : ℕ) (Rest : ℕ → Type 0) where
  pub entering_none : IsEntering old old file Rest 0
  entering_none = record { more = λ owner any kept. kept; rest = λ owner before. absurd (omega (arith, before)) }

  pub entering_more : (next : ℕ) (now : Holdings) (owner : ℕ) (then : Holdings) → IsEntering old now file Rest next
      → ((other : ℕ) → next ≤ other → other < owner → Rest other) → Keeps now then owner file true → IsEntering old then file Rest (owner + 1)
  entering_more next now owner then so_far least enters = record {
    more = λ other any kept. entered_more now then owner file enters other any (so_far.more other any kept);
    rest = λ other before unkept. elim (cases_eq other owner) [
      | inl is ↦ absurd (let no : true ≡ false = sym enters.here ∙ ap (λ (o : ℕ). keeps then o file) (sym is) ∙ unkept in cc)
      | inr differs ↦ elim (cases_lt other next) [
        | inl below ↦ so_far.rest other below (sym (enters.apart.others other file differs) ∙ unkept)
        | inr past ↦ least other past (omega (arith, before, differs))
      ]
    ];
  }

  pub all_entered : (next : ℕ) (now : Holdings) → IsEntering old now file Rest next → ((owner : ℕ) → next ≤ owner → Rest owner) → EntersOn old now file Rest
  all_entered next now so_far none = record {
    more = so_far.more;
    rest = λ owner unkept. elim (cases_lt owner next) [
      | inl below ↦ so_far.rest owner below unkept
      | inr past ↦ none owner past
    ];
  }

-- on the files below this one the owners are entered
pub record IsEnteringFiles (old now : Holdings) (Rest : ℕ → ℕ → Type 0) (next : ℕ) : Type 0 where
  pub more : (owner any : ℕ) → keeps old owner any ≡ true → keeps now owner any ≡ true
  pub rest : (owner file : ℕ) → file < next → keeps now owner file ≡ false → Rest owner file

module _ (old : Holdings) (Rest : ℕ → ℕ → Type 0) where
  pub files_none : IsEnteringFiles old old Rest 0
  files_none = record { more = λ owner any kept. kept; rest = λ owner file before. absurd (omega (arith, before)) }

  pub files_more : (next : ℕ) (now : Holdings) (file : ℕ) (then : Holdings) → IsEnteringFiles old now Rest next
      → ((owner any : ℕ) → next ≤ any → any < file → Rest owner any) → EntersOn now then file (λ owner. Rest owner file) → IsEnteringFiles old then Rest (file + 1)
  files_more next now file then so_far least enters = record {
    more = λ owner any kept. enters.more owner any (so_far.more owner any kept);
    rest = λ owner any before unkept. elim (cases_eq any file) [
      | inl is ↦ subst (λ (f : ℕ). Rest owner f) (sym is) (enters.rest owner (ap (λ (f : ℕ). keeps then owner f) (sym is) ∙ unkept))
      | inr differs ↦ elim (cases_lt any next) [
        | inl below ↦ so_far.rest owner any below (not_before (keeps now owner any) (keeps then owner any) (enters.more owner any) unkept)
        | inr past ↦ least owner any past (omega (arith, before, differs))
      ]
    ];
  }

  pub files_entered : (next : ℕ) (now : Holdings) → IsEnteringFiles old now Rest next → ((owner file : ℕ) → next ≤ file → Rest owner file) → EntersAll old now Rest
  files_entered next now so_far none = record {
    more = so_far.more;
    rest = λ owner file unkept. elim (cases_lt file next) [
      | inl below ↦ so_far.rest owner file below unkept
      | inr past ↦ none owner file past
    ];
  }

-- elsewhere nothing leaves
pub leaves_none : (holdings : Holdings) (file : ℕ) → LeavesFile holdings holdings file
leaves_none holdings file = record { elsewhere = λ owner any differs. refl }

pub leaves_more : (old now : Holdings) (file owner : ℕ) (then : Holdings) → LeavesFile old now file → Keeps now then owner file false → LeavesFile old then file
leaves_more old now file owner then so_far leaves = record {
  elsewhere = λ other any differs. leaves.apart.elsewhere other any differs ∙ so_far.elsewhere other any differs;
}

pub leaves_then : (old now then : Holdings) (file : ℕ) → LeavesFile old now file → LeavesFile now then file → LeavesFile old then file
leaves_then old now then file one other = record { elsewhere = λ owner any differs. other.elsewhere owner any differs ∙ one.elsewhere owner any differs }

-- the owners of the waits up to this place are entered
module _ (old : Holdings) (file : ℕ) (waits : List Pending) where
  pub waiting_none : EntersOn old old file (AreOfOthers (take 0 waits))
  waiting_none = record { more = λ owner any kept. kept; rest = λ owner unkept. All-nil (λ wait. wait.owner ≢ owner) }

  pub waiting_more : (place : ℕ) (now : Holdings) (d : Pending) (then : Holdings) → place < length waits
      → EntersOn old now file (AreOfOthers (take place waits)) → Keeps now then (get_or waits place d).owner file true
      → EntersOn old then file (AreOfOthers (take (place + 1) waits))
  waiting_more place now d then within so_far enters =
      let wait = get_or waits place d in record {
        more = λ owner any kept. entered_more now then wait.owner file enters owner any (so_far.more owner any kept);
        rest = λ owner unkept.
            (let Others : Pending → Type 0 = λ any. any.owner ≢ owner in
            let differs : wait.owner ≢ owner =
            λ same. (let no : true ≡ false = sym enters.here ∙ ap (λ (o : ℕ). keeps then o file) same ∙ unkept in cc) in
            let before = so_far.rest owner (not_before _ _ (entered_more now then wait.owner file enters owner file) unkept) in
            subst (λ (some : List Pending). AreOfOthers some owner) (sym (take_more waits place d within)) (All-push Others (take place waits) wait before differs));
      }

  pub waiting_all : (place : ℕ) (now : Holdings) → length waits ≤ place → EntersOn old now file (AreOfOthers (take place waits))
      → EntersOn old now file (AreOfOthers waits)
  waiting_all place now past so_far =
      subst (λ (some : List Pending). EntersOn old now file (AreOfOthers some)) (take_all place waits past) so_far
