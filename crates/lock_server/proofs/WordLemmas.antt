-- Words that are put into a buffer, one behind another.
use Rattle.lock_server.proofs.Common.{◌≡◌, ◌<◌, ◌≤◌, ◌+◌, ◌*◌, ◌^◌, ◌∙◌, sym, ap, subst, refl, arith, ℕ, suc, List, [], ◌∷◌, ◌++◌, length, get_or, take, drop, append_assoc, flat_map-append, w64, from_le_bytes, flat_map, length-append, length-take-le, take-append-drop, take_all, take_more, All-append, All-nil, All-head, All-tail, Puts, PutsSome, bytes_of, greatest, listed}
use Rattle.std.specs.Int.{to_le_bytes}
use Rattle.std.proofs.lemmas.List.{append-nil, flat_map_more, length-drop}
use Rattle.std.proofs.Math.Nat.{mul-suc, mul-zero}
use Rattle.std.proofs.lemmas.Nat.{from_le_bytes-to_le_bytes_8}
use Rattle.lock_server.specs.Words.{AreWords}

pub length-bytes_of : (words : List ℕ) → length (bytes_of words) ≡ 8 * length words
length-bytes_of [] = refl
length-bytes_of (word ∷ words) =
    let more = length-append (to_le_bytes w64 word) (bytes_of words) in
    let this : length (to_le_bytes w64 word) ≡ 8 = refl in
    let rest = length-bytes_of words in
    omega arith

-- no word
pub puts_none : (old : List ℕ) (at : ℕ) → at ≤ greatest → Puts [] old at old at
puts_none old at small = record {
  reaches = omega arith;
  writes = λ front room rest is length_front length_room large. (All-nil (λ word. word < 2 ^ 64), none front room rest is length_room);
}
  where
    none : (front room rest : List ℕ) → old ≡ front ++ (room ++ rest) → length room ≡ 0 → old ≡ front ++ ([] ++ rest)
    none front [] rest is empty = is
    none front (byte ∷ room) rest is empty = absurd (omega arith)

-- words behind others
pub puts_append : (words more old mid new : List ℕ) (at then next : ℕ) → Puts words old at mid then → Puts more mid then new next
    → Puts (words ++ more) old at new next
puts_append words more old mid new at then next first second = record {
  reaches = (let both = length-append words more in let one = first.reaches in let two = second.reaches in omega arith);
  writes = λ front room rest is length_front length_room small.
      let both = length-append words more in
      let n : ℕ = 8 * length words in
      let here = take n room in
      let there = drop n room in
      let split : room ≡ here ++ there = sym (take-append-drop n room) in
      let length_here : length here ≡ 8 * length words = length-take-le n room (omega arith) in
      let length_there : length there ≡ 8 * length more = (let d = length-drop n room in omega arith) in
      let one = first.writes front here (there ++ rest)
      (is ∙ ap (λ (l : List ℕ). front ++ (l ++ rest)) split ∙ ap (λ (l : List ℕ). front ++ l) (append_assoc here there rest))
      length_front length_here (omega arith) in
      let written = bytes_of words in
      let reached : length (front ++ written) ≡ then =
      length-append front written ∙ (let size = length-bytes_of words in let told = first.reaches in omega arith) in
      let two = second.writes (front ++ written) there rest
      (one.1 ∙ sym (append_assoc front written (there ++ rest))) reached length_there (omega arith) in (
        All-append (λ word. word < 2 ^ 64) words more one.0 two.0,
        two.1 ∙ append_assoc front written (bytes_of more ++ rest)
            ∙ ap (λ (l : List ℕ). front ++ l) (sym (append_assoc written (bytes_of more) rest))
            ∙ ap (λ (l : List ℕ). front ++ (l ++ rest)) (sym (flat_map-append (to_le_bytes w64) words more)),
      );
}

-- the bytes of words tell the words
pub one_spelling : (words more : List ℕ) → AreWords words → AreWords more → bytes_of words ≡ bytes_of more → words ≡ more
one_spelling [] [] fit fit_more same = refl
one_spelling [] (word ∷ more) fit fit_more same = absurd (let h : 0 ≡ length (bytes_of (word ∷ more)) = ap (λ (l : List ℕ). length l) same in let size = length-bytes_of (word ∷ more) in omega arith)
one_spelling (word ∷ words) [] fit fit_more same = absurd (let h : length (bytes_of (word ∷ words)) ≡ 0 = ap (λ (l : List ℕ). length l) same in let size = length-bytes_of (word ∷ words) in omega arith)
one_spelling (word ∷ words) (other ∷ more) fit fit_more same =
    let heads : to_le_bytes w64 word ≡ to_le_bytes w64 other = ap (λ (l : List ℕ). take 8 l) same in
    let tails : bytes_of words ≡ bytes_of more = ap (λ (l : List ℕ). drop 8 l) same in
    let P : ℕ → Type 0 = λ w. w < 2 ^ 64 in
    let first : word ≡ other =
    sym (from_le_bytes-to_le_bytes_8 word (All-head P word words fit))
    ∙ ap (λ (l : List ℕ). from_le_bytes w64 l) heads
    ∙ from_le_bytes-to_le_bytes_8 other (All-head P other more fit_more) in
    let rest : words ≡ more = one_spelling words more (All-tail P word words fit) (All-tail P other more fit_more) tails in
    cc

-- how many words a list of things takes, of which each takes so many
flat_length : {X : Type 0} (spell : X → List ℕ) (width : ℕ) → ((x : X) → length (spell x) ≡ width) → (xs : List X)
    → length (flat_map spell xs) ≡ width * length xs
flat_length spell width each [] = sym (mul-zero width)
flat_length spell width each (x ∷ xs) =
    let more = length-append (spell x) (flat_map spell xs) in
    let this = each x in
    let rest = flat_length spell width each xs in
    let product : width * suc (length xs) ≡ width * length xs + width = mul-suc width (length xs) in
    omega arith

-- the words behind a number, which is right where all has room
with_count : (count right : ℕ) (words old new : List ℕ) (at next : ℕ) → Puts (count ∷ words) old at new next
    → (at + 8 * (1 + length words) < greatest → count ≡ right) → Puts (right ∷ words) old at new next
with_count count right words old new at next puts exact = record {
  reaches = puts.reaches;
  writes = λ front room rest is length_front length_room small.
      let same : count ≡ right = exact (omega arith) in
      let written = puts.writes front room rest is length_front length_room small in
      subst (λ (n : ℕ). AreWords (n ∷ words) × (new ≡ front ++ (bytes_of (n ∷ words) ++ rest))) same written;
}

-- a list behind the number of its items, which a first round over it told
pub counted : {X : Type 0} (Are : List X → Type 0) → ((xs ys : List X) → Are xs → Are ys → xs ≡ ys) → (spell : X → List ℕ) (width : ℕ)
    → ((x : X) → length (spell x) ≡ width) → (empty left : List ℕ) (size count : ℕ) (old mid new : List ℕ) (at then next : ℕ)
    → PutsSome Are (flat_map spell) empty 0 left size → ((n : ℕ) → size ≡ 8 * (width * n) → count ≡ n) → Puts (count ∷ []) old at mid then
    → PutsSome Are (flat_map spell) mid then new next → PutsSome Are (listed spell) old at new next
counted {X} Are one spell width each empty left size count old mid new at then next first exact number second =
    let same : first.what ≡ second.what = one first.what second.what first.is second.is in
    let n = length second.what in
    let words = flat_map spell second.what in
    let long : length (flat_map spell first.what) ≡ width * n =
    flat_length spell width each first.what ∙ ap (λ (xs : List X). width * length xs) same in
    let long_too : length words ≡ width * n = flat_length spell width each second.what in
    let reached = first.puts.reaches in
    let right : at + 8 * (1 + length words) < greatest → count ≡ n = λ small. exact n (omega arith) in
    record {
      what = second.what;
      is = second.is;
      puts = with_count count n words old new at next (puts_append (count ∷ []) words old mid new at then next number second.puts) right;
    }

-- one more item of a list that is gone over by place, behind some words
pub items_more : {X : Type 0} (spell : X → List ℕ) (front : List ℕ) (xs : List X) (i : ℕ) (d : X) (old mid new : List ℕ) (at then next : ℕ)
    → i < length xs → Puts (front ++ flat_map spell (take i xs)) old at mid then → Puts (spell (get_or xs i d)) mid then new next
    → Puts (front ++ flat_map spell (take (i + 1) xs)) old at new next
items_more spell front xs i d old mid new at then next within first second =
    subst (λ (l : List ℕ). Puts l old at new next)
    (flat_map_more spell front (take i xs) (get_or xs i d) ∙ ap (λ l. front ++ flat_map spell l) (sym (take_more xs i d within)))
    (puts_append (front ++ flat_map spell (take i xs)) (spell (get_or xs i d)) old mid new at then next first second)

-- and all of them
pub items_all : {X : Type 0} (spell : X → List ℕ) (front : List ℕ) (xs : List X) (i : ℕ) (old new : List ℕ) (at next : ℕ)
    → length xs ≤ i → Puts (front ++ flat_map spell (take i xs)) old at new next → Puts (front ++ flat_map spell xs) old at new next
items_all spell front xs i old new at next beyond puts =
    subst (λ l. Puts (front ++ flat_map spell l) old at new next) (take_all i xs beyond) puts

-- one more item of a loop by value
pub item_more : {X : Type 0} (spell : X → List ℕ) (xs : List X) (x : X) (old mid new : List ℕ) (at then next : ℕ)
    → Puts (flat_map spell xs) old at mid then → Puts (spell x) mid then new next → Puts (flat_map spell (xs ++ x ∷ [])) old at new next
item_more spell xs x old mid new at then next first second =
    subst (λ (l : List ℕ). Puts l old at new next) (flat_map_more spell [] xs x) (puts_append (flat_map spell xs) (spell x) old mid new at then next first second)

-- one item by itself
pub item_alone : {X : Type 0} (spell : X → List ℕ) (x : X) (old new : List ℕ) (at next : ℕ) → Puts (spell x) old at new next
    → Puts (flat_map spell (x ∷ [])) old at new next
item_alone spell x old new at next puts = subst (λ (l : List ℕ). Puts l old at new next) (sym (append-nil (spell x))) puts
