-- Words that are read, whatever they tell: for `Reader` and `read`.
use Rattle.lock_server.proofs.Common.{ℕ, ◌≡◌, ◌∙◌, ◌<◌, ◌≤◌, ◌+◌, ◌*◌, ◌^◌, sym, ap, subst, refl, arith, suc, All, List, [], ◌∷◌, ◌++◌, length, map, take, drop, append-nil, append_assoc, Result, Ok, Err, w64, from_le_bytes, flat_map, length-append, map-append, Contains-append_right, file_words, flock_words, listed, lock_words, wait_words, FileEntry, itself, bytes_of}
use Rattle.std.proofs.Common.{◌%◌}
use Rattle.std.specs.Prelude.{Contains, IsErrAnd}
use Rattle.std.specs.Int.{to_le_bytes}
use Rattle.std.proofs.lemmas.Nat.{from_le_bytes-to_le_bytes_8}
use Rattle.std.proofs.Math.Nat.{mul-suc, mul-zero}
use Rattle.range_core.specs.declared.memory.Memory.{Memory as Wanting}
use Rattle.lock_server.specs.declared.ImportFault.{ImportFault}
use Rattle.lock_server.specs.declared.ImportFault.TheVariants.{Invalid, Memory}
use Rattle.lock_server.specs.Reading.{Reads, Succeeds}
use Rattle.lock_server.specs.Words.{AreWords}
use Rattle.lock_server.proofs.JustLemmas.{All-at, Contains-here}
use Rattle.lock_server.proofs.WordLemmas.{length-bytes_of}

-- what wants memory is no other fault, whatever was to be read
pub fails : {X Y : Type 0} (fault : ImportFault) (result : Result Y ImportFault) (P : X → Type 0) (Q : Y → Type 0) → IsErrAnd result (λ told. told ≡ fault)
    → Succeeds (Err fault) P → Succeeds result Q
fails (Memory memory) (Ok y) P Q err fine = absurd err
fails (Memory memory) (Err told) P Q err fine = subst (λ (other : ImportFault). Succeeds (Err other) Q) (sym err) tt
fails (Invalid invalid) result P Q err fine = absurd fine

-- want of memory is no other fault
pub wants : {Y : Type 0} (memory : Wanting) (result : Result Y ImportFault) (Q : Y → Type 0) → IsErrAnd result (λ told. told ≡ Memory memory)
    → Succeeds result Q
wants memory (Ok y) Q err = absurd err
wants memory (Err told) Q err = subst (λ (other : ImportFault). Succeeds (Err other) Q) (sym err) tt

pub map_itself : {X : Type 0} (xs : List X) → map itself xs ≡ xs
map_itself [] = refl
map_itself (x ∷ xs) = ap (λ (l : List _). x ∷ l) (map_itself xs)

-- how far a list was read: these are left of it
pub record IsReadTo {X Y : Type 0} (view : X → Y) (spell : Y → List ℕ) (items : List X) (left : List ℕ) (place count : ℕ) (ys : List Y) (rest : List ℕ) : Type 0 where
  pub more : List Y
  pub split : ys ≡ map view items ++ more
  pub left_is : left ≡ flat_map spell more ++ rest
  pub counted : place + length more ≡ count

-- the same of any list that may stand there
abbrev pub AreReadTo : {X Y : Type 0} → (X → Y) → (Y → List ℕ) → (Y → Type 0) → List ℕ → List X → List ℕ → ℕ → ℕ → Type 0
AreReadTo {X} {Y} view spell May old items left place count =
    (ys : List Y) (rest : List ℕ) → All May ys → old ≡ listed spell ys ++ rest → IsReadTo view spell items left place count ys rest

-- so many things of so many words at least take so many words at least
pub wide : {Y : Type 0} (spell : Y → List ℕ) (width : ℕ) → ((y : Y) → width ≤ length (spell y)) → (ys : List Y) (rest : List ℕ)
    → width * length ys ≤ length (flat_map spell ys ++ rest)
wide spell width each [] rest = (let none = mul-zero width in omega arith)
wide spell width each (y ∷ ys) rest =
    let this = each y in
    let behind = wide spell width each ys rest in
    let long : length (flat_map spell (y ∷ ys) ++ rest) ≡ length (spell y) + length (flat_map spell ys ++ rest) =
    ap (λ (l : List ℕ). length l) (append_assoc (spell y) (flat_map spell ys) rest) ∙ length-append (spell y) (flat_map spell ys ++ rest) in
    let product : width * suc (length ys) ≡ width * length ys + width = mul-suc width (length ys) in
    omega arith

-- a file takes its number and three counts at least
pub file_wide : (entry : FileEntry) → 4 ≤ length (file_words entry)
file_wide entry =
    let outer = length-append (listed lock_words entry.locks) (listed flock_words entry.flocks ++ listed wait_words entry.waits) in
    let inner = length-append (listed flock_words entry.flocks) (listed wait_words entry.waits) in
    omega arith

module _ {X Y : Type 0} (view : X → Y) (spell : Y → List ℕ) (May : Y → Type 0) where
  -- the count was read
  pub reads_none : (width : ℕ) → ((y : Y) → width ≤ length (spell y)) → (old left : List ℕ) (count : ℕ)
      → ((n : ℕ) (rest : List ℕ) → width * n ≤ length rest → old ≡ n ∷ rest → (count ≡ n) × (left ≡ rest))
      → AreReadTo view spell May old [] left 0 count
  reads_none width each old left count reads ys rest may is =
      let got = reads (length ys) (flat_map spell ys ++ rest) (wide spell width each ys rest) is in
      record { more = ys; split = refl; left_is = got.1; counted = (let same = got.0 in omega arith) }

  -- one thing more was read
  module _ (items : List X) (left : List ℕ) (place count : ℕ) (within : place < count) (ys : List Y) (rest : List ℕ) (may : All May ys) where
    next_is : (more : List Y) → ys ≡ map view items ++ more → place + length more ≡ count
        → (y : Y) × (behind : List Y) × (more ≡ y ∷ behind) × May y
    next_is [] split counted = absurd (omega arith)
    next_is (y ∷ behind) split counted = (
      y,
      behind,
      refl,
      All-at May ys may y (subst (λ (l : List Y). Contains l y) (sym split) (Contains-append_right (map view items) (y ∷ behind) y (Contains-here y behind))),
    )

    pub reads_more : (item : X) (next : List ℕ) → IsReadTo view spell items left place count ys rest → Reads view spell May left (Ok item) next
        → IsReadTo view spell (items ++ item ∷ []) next (place + 1) count ys rest
    reads_more item next before reads =
        let there = next_is before.more before.split before.counted in
        let y = there.0 in
        let behind = there.1 in
        let got = reads y (flat_map spell behind ++ rest) there.3
        (before.left_is ∙ ap (λ (l : List Y). flat_map spell l ++ rest) there.2 ∙ append_assoc (spell y) (flat_map spell behind) rest) in
        let sizes : length before.more ≡ suc (length behind) = ap (λ (l : List Y). length l) there.2 in
        let counts = before.counted in
        record {
          more = behind;
          split = before.split ∙ ap (λ (l : List Y). map view items ++ l) (there.2 ∙ ap (λ (z : Y). z ∷ behind) (sym got.0))
              ∙ sym (append_assoc (map view items) (view item ∷ []) behind)
              ∙ ap (λ (l : List Y). l ++ behind) (sym (map-append view items (item ∷ [])));
          left_is = got.1;
          counted = omega arith;
        }

    -- or wasn't, for want of memory
    pub reads_stop : {Z : Type 0} (fault : ImportFault) (result : Result Z ImportFault) (next : List ℕ) (Q : Z → Type 0)
        → IsErrAnd result (λ told. told ≡ fault) → IsReadTo view spell items left place count ys rest → Reads view spell May left (Err fault) next
        → Succeeds result Q
    reads_stop fault result next Q err before reads =
        let there = next_is before.more before.split before.counted in
        let y = there.0 in
        let behind = there.1 in
        fails fault result (λ x. (view x ≡ y) × (next ≡ flat_map spell behind ++ rest)) Q err
        (reads y (flat_map spell behind ++ rest) there.3
        (before.left_is ∙ ap (λ (l : List Y). flat_map spell l ++ rest) there.2 ∙ append_assoc (spell y) (flat_map spell behind) rest))

  -- all was read
  pub reads_all : (old : List ℕ) (items : List X) (left : List ℕ) (place count : ℕ) → count ≤ place → AreReadTo view spell May old items left place count
      → (ys : List Y) (rest : List ℕ) → All May ys → old ≡ listed spell ys ++ rest → (map view items ≡ ys) × (left ≡ rest)
  reads_all old items left place count past are ys rest may is =
      let to = are ys rest may is in
      all to.more to.split to.left_is to.counted
    where
      all : (more : List Y) → ys ≡ map view items ++ more → left ≡ flat_map spell more ++ rest → place + length more ≡ count
          → (map view items ≡ ys) × (left ≡ rest)
      all [] split left_is counted = (sym (split ∙ append-nil (map view items)), left_is)
      all (y ∷ more) split left_is counted = absurd (omega arith)

-- how far the words of some bytes were read: these are left
pub record IsWordsTo (items : List ℕ) (left : List ℕ) (words : List ℕ) : Type 0 where
  pub more : List ℕ
  pub split : words ≡ items ++ more
  pub left_is : left ≡ bytes_of more

-- the same of any bytes of words
abbrev pub AreWordsTo : List ℕ → List ℕ → List ℕ → Type 0
AreWordsTo bytes items left = (words : List ℕ) → AreWords words → bytes ≡ bytes_of words → IsWordsTo items left words

-- one word more
pub words_more : (items left words chunk behind : List ℕ) → AreWords words → 8 ≤ length left → chunk ≡ take 8 left → behind ≡ drop 8 left
    → IsWordsTo items left words → IsWordsTo (items ++ from_le_bytes w64 chunk ∷ []) behind words
words_more items left words chunk behind fit long chunk_is behind_is to = by to.more to.split to.left_is
  where
    by : (more : List ℕ) → words ≡ items ++ more → left ≡ bytes_of more → IsWordsTo (items ++ from_le_bytes w64 chunk ∷ []) behind words
    by [] split left_is = absurd (let size : length left ≡ 0 = ap (λ (l : List ℕ). length l) left_is in omega arith)
    by (word ∷ more) split left_is =
        let first : chunk ≡ to_le_bytes w64 word = chunk_is ∙ ap (λ (l : List ℕ). take 8 l) left_is in
        let there : Contains words word = subst (λ (l : List ℕ). Contains l word) (sym split) (Contains-append_right items (word ∷ more) word (Contains-here word more)) in
        let fits : word < 2 ^ 64 = All-at (λ w. w < 2 ^ 64) words fit word there in
        let told : from_le_bytes w64 chunk ≡ word = ap (λ (l : List ℕ). from_le_bytes w64 l) first ∙ from_le_bytes-to_le_bytes_8 word fits in
        record {
          more = more;
          split = split ∙ ap (λ (w : ℕ). items ++ w ∷ more) (sym told) ∙ sym (append_assoc items (from_le_bytes w64 chunk ∷ []) more);
          left_is = behind_is ∙ ap (λ (l : List ℕ). drop 8 l) left_is;
        }

-- all of them
pub words_all : (items left words : List ℕ) → length left < 8 → IsWordsTo items left words → items ≡ words
words_all items left words short to = by to.more to.split to.left_is
  where
    by : (more : List ℕ) → words ≡ items ++ more → left ≡ bytes_of more → items ≡ words
    by [] split left_is = sym (split ∙ append-nil items)
    by (word ∷ more) split left_is = absurd (
        let size : length left ≡ length (bytes_of (word ∷ more)) = ap (λ (l : List ℕ). length l) left_is in
        let bytes = length-bytes_of (word ∷ more) in omega arith)

-- bytes of words are whole words
pub whole_words : (bytes words : List ℕ) → bytes ≡ bytes_of words → length bytes % 8 ≡ 0
whole_words bytes words is =
    let size : length bytes ≡ length (bytes_of words) = ap (λ (l : List ℕ). length l) is in
    let long = length-bytes_of words in omega arith
