-- What is told of an order and of the locks that it leaves: for `push_order`, `push_state` and others.
use Rattle.std.proofs.Common.{◌≡◌, ◌≢◌, ◌<◌, ℕ, ◌+◌, ◌∙◌, sym, ap, refl, subst, arith, false, None, List, [], ◌∷◌, ◌++◌, map, drop, drop-cons, add-one, suc, zero, get_or, length, flat_map, append_assoc, append-nil}
use Rattle.std.specs.Prelude.{All}
use Rattle.std.specs.BTreeMap.{BTreeMap, get, is_at}
use Rattle.std.specs.Borrow.{Bor}
use Rattle.std.specs.Map.{lookup}
use Rattle.std.specs.Map.Iter.{deref_pair}
use Rattle.std.specs.Ordering.{nat_cmp}
use Rattle.std.proofs.lemmas.Grind.{common_steps, flat_map-append}
use Rattle.std.proofs.lemmas.List.{map-append}
use Rattle.std.proofs.lemmas.List.Elements.{All-push}
use Rattle.history_core.specs.declared.held_locks.HeldLocks.{HeldLocks}
use Rattle.history_core.specs.Locks.{FileLocks}
use Rattle.history_core.specs.Locks as one_file
use Rattle.history_judge.specs.declared.order.FileHappening.{FileHappening}
use Rattle.history_judge.specs.HeldView.{held_on}
use Rattle.history_judge.specs.HistoryOrders.{Leave, MayHappen, no_locks}
use Rattle.history_judge.proofs.FilesLemmas.{is_at-other}
use Rattle.history_judge.proofs.HeldLemmas.{same_left}
use Rattle.history_check.specs.declared.judging.LockStates.{LockStates}
use Rattle.history_check.proofs.TextLemmas.{joined_three}
use Rattle.history_check.specs.OrderTold.{FileText, IsFileText, IsOrderText, IsStateBehind, IsStateText, happening_line}

-- ---- the locks of all files

-- what was told so far of the locks, by files with these numbers
pub record TellsFiles (locks : ℕ → FileLocks) (files : List ℕ) (text : List ℕ) : Type 0 where
  pub told : List FileText
  pub are : All (λ one. IsFileText one.file (locks one.file) one.text) told
  pub by_file : map (λ one. one.file) told ≡ files
  pub is : text ≡ flat_map (λ one. one.text) told

-- one more file
pub file_more : (locks : ℕ → FileLocks) (files : List ℕ) (text : List ℕ) (file : ℕ) (more : List ℕ) → TellsFiles locks files text
    → IsFileText file (locks file) more → TellsFiles locks (files ++ file ∷ []) (text ++ more)
file_more locks files text file more so_far here =
    let one : FileText = record { file = file; text = more } in
    record {
      told = so_far.told ++ one ∷ [];
      are = All-push (λ (t : FileText). IsFileText t.file (locks t.file) t.text) so_far.told one so_far.are here;
      by_file = map-append (λ (t : FileText). t.file) so_far.told (one ∷ []) ∙ ap (λ fs. fs ++ file ∷ []) so_far.by_file;
      is = ap (λ t. t ++ more) so_far.is ∙ ap (λ t. flat_map (λ (o : FileText). o.text) so_far.told ++ t) (sym (append-nil more))
          ∙ sym (flat_map-append (λ (o : FileText). o.text) so_far.told (one ∷ []));
    }

-- a number that none of the entries has isn't found
none_there : (file : ℕ) (es : List (ℕ × HeldLocks)) → All (λ (k : ℕ). k ≢ file) (map (λ (e : ℕ × HeldLocks). e.0) es) → lookup (is_at (nat_cmp file)) es ≡ None
none_there file [] off = refl
none_there file (e ∷ es) off =
    let here : is_at (nat_cmp file) e.0 ≡ false = is_at-other file e.0 (off 0 0 (omega arith)) in
    let rest : lookup (is_at (nat_cmp file)) es ≡ None = none_there file es (λ k d below. off (suc k) d (omega (arith, below))) in
    grind (arith, common_steps, here, rest)

files_off : (file : ℕ) (told : List FileText) → All (λ (t : FileText). t.file ≢ file) told → (k d : ℕ) → k < length (map (λ (t : FileText). t.file) told)
    → get_or (map (λ (t : FileText). t.file) told) k d ≢ file
files_off file [] off k d below = absurd (omega (arith, below))
files_off file (t ∷ told) off zero d below = off 0 t (omega arith)
files_off file (t ∷ told) off (suc k) d below = files_off file told (λ j e lt. off (suc j) e (omega (arith, lt))) k d (omega (arith, below))

-- the numbers of what a loop over entries has come to
pub numbers_of : (xs : List (Bor ℕ × Bor HeldLocks)) → map (λ (e : ℕ × HeldLocks). e.0) (map deref_pair xs) ≡ map (λ (p : Bor ℕ × Bor HeldLocks). p.0.now) xs
numbers_of [] = refl
numbers_of (x ∷ xs) = ap (λ ns. x.0.now ∷ ns) (numbers_of xs)

-- all files were told
pub all_files : (locks : ℕ → FileLocks) (held : BTreeMap ℕ HeldLocks) (text : List ℕ) → ((file : ℕ) → held_on (get nat_cmp held file) ≡ locks file)
    → TellsFiles locks (map (λ (e : ℕ × HeldLocks). e.0) held.entries) text → IsStateText locks text
all_files locks held text are so_far = record {
  told = so_far.told;
  are = so_far.are;
  others = λ file off.
      let nothing : get nat_cmp held file ≡ None = none_there file held.entries
      (subst (λ ks. All (λ (k : ℕ). k ≢ file) ks) so_far.by_file (files_off file so_far.told off)) in
      sym (are file) ∙ ap held_on nothing;
  is = so_far.is;
}

-- ---- the lines of the order

-- what was told of the order so far, and what is left of it under these locks
pub record TellsOrder (states : LockStates) (order : List FileHappening) (at : ℕ) (locks : ℕ → FileLocks) (told : List ℕ) : Type 0 where
  pub whole : (rest : List ℕ) → IsOrderText states at locks (drop at order) rest → IsOrderText states 0 no_locks order (told ++ rest)
  pub leaves : (last : ℕ → FileLocks) → Leave no_locks order last → Leave locks (drop at order) last

-- nothing was
pub none_told : (states : LockStates) (order : List FileHappening) (locks : ℕ → FileLocks) → ((file : ℕ) → locks file ≡ no_locks file)
    → TellsOrder states order 0 locks []
none_told states order locks none =
    let same : locks ≡ no_locks = λ i. λ file. none file i in
    record {
      whole = λ rest is. subst (λ l. IsOrderText states 0 l order rest) same is;
      leaves = λ last leave. subst (λ l. Leave l order last) (sym same) leave;
    }

-- the next
pub next_of : (order : List FileHappening) (at : ℕ) (none : FileHappening) → at < length order → drop at order ≡ get_or order at none ∷ drop (at + 1) order
next_of order at none below = drop-cons order at none below ∙ ap (λ k. get_or order at none ∷ drop k order) (sym (add-one at))

-- and it was told
pub next_told : (states : LockStates) (order : List FileHappening) (at : ℕ) (locks next : ℕ → FileLocks) (told state : List ℕ) (happening : FileHappening)
    → drop at order ≡ happening ∷ drop (at + 1) order → TellsOrder states order at locks told → MayHappen locks happening next
    → IsStateBehind states (at + 1) next state → TellsOrder states order (at + 1) next ((told ++ happening_line happening) ++ state)
next_told states order at locks next told state happening cons so_far may behind = record {
  whole = λ rest text.
      subst (IsOrderText states 0 no_locks order)
      (ap (λ t. told ++ t) (append_assoc (happening_line happening) state rest)
      ∙ sym (append_assoc told (happening_line happening) (state ++ rest))
      ∙ sym (append_assoc (told ++ happening_line happening) state rest))
      (so_far.whole ((happening_line happening ++ state) ++ rest)
      (subst (λ (o : List FileHappening). IsOrderText states at locks o ((happening_line happening ++ state) ++ rest)) (sym cons)
      (next, may, state, behind, rest, text, refl)));
  leaves = λ last leave.
      let left = subst (λ (o : List FileHappening). Leave locks o last) cons (so_far.leaves last leave) in
      subst (λ l. Leave l (drop (at + 1) order) last) (same_left locks happening left.0 next left.1 may) left.2;
}

-- all was told
pub order_ends : (states : LockStates) (order : List FileHappening) (at : ℕ) (locks : ℕ → FileLocks) (told : List ℕ) → drop at order ≡ []
    → TellsOrder states order at locks told → IsOrderText states 0 no_locks order told
order_ends states order at locks told none so_far =
    subst (IsOrderText states 0 no_locks order) (append-nil told)
    (so_far.whole [] (subst (λ (o : List FileHappening). IsOrderText states at locks o []) (sym none) refl))

-- the text has the line of the next, and what is told behind it
pub more_told : (states : LockStates) (order : List FileHappening) (at : ℕ) (locks next : ℕ → FileLocks) (told state : List ℕ) (happening : FileHappening)
    (t0 t1 t2 t3 : List ℕ) → drop at order ≡ happening ∷ drop (at + 1) order → TellsOrder states order at locks told → MayHappen locks happening next
    → IsStateBehind states (at + 1) next state → t1 ≡ t0 ++ told → t2 ≡ t1 ++ happening_line happening → t3 ≡ t2 ++ state
    → (all : List ℕ) × TellsOrder states order (at + 1) next all × (t3 ≡ t0 ++ all)
more_told states order at locks next told state happening t0 t1 t2 t3 cons so_far may behind one two three = (
  (told ++ happening_line happening) ++ state,
  next_told states order at locks next told state happening cons so_far may behind,
  three ∙ ap (λ (t : List ℕ). t ++ state) (two ∙ ap (λ (t : List ℕ). t ++ happening_line happening) one)
      ∙ joined_three t0 told (happening_line happening) state,
)
