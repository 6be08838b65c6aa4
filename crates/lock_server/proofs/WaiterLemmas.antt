-- The entries of owners with detected waits: for `Waiters::end`, `Waiter::leave`, `Waiters::reserve` and `Waiters::sweep`.
use Rattle.lock_server.proofs.Common.{common_steps, ℕ, ◌≡◌, ◌≢◌, ◌==◌, ◌+◌, ◌<◌, ◌∙◌, sym, ap, subst, refl, arith, cond, suc, Bool, Option, Some, None, List, [], ◌∷◌, ◌++◌, All, length, get_or, take, drop, false, nat_cmp, UpdatesBy, MutBor, option_copied_mut, cases_eq, cases_lt, eqb-true, eq-eqb, ne_eqb, All-head, All-tail, sum_by-cons, Waiter, Waiters, waiter_of, files_of, crossed_of, times, Ends}
use Rattle.std.specs.BTreeMap.{WritesThrough}
use Rattle.std.specs.Prelude.{position}
use Rattle.std.proofs.lemmas.Bool.{lt-ltb}
use Rattle.std.proofs.lemmas.List.Quantifiers.{position-Some}
use Rattle.std.proofs.lemmas.List.Sums.{fails_before_first, sum_by-append}
use Rattle.lock_server.specs.WaitersView.{files_in, crossed_in, LeavesFile, Sweeps}
use Rattle.lock_server.proofs.LeaveLemmas.{split_at}
use Rattle.lock_server.proofs.TicketLemmas.{is_at-other}

-- new has this entry for the owner, and all others as old does
pub record PutsWaiter (old new : Waiters) (owner : ℕ) (waiter : Option Waiter) : Type 0 where
  pub here : waiter_of new owner ≡ waiter
  pub others : (other : ℕ) → other ≢ owner → waiter_of new other ≡ waiter_of old other

pub PutsWaiter-updates : (old new : Waiters) (owner : ℕ) (waiter : Option Waiter) → UpdatesBy nat_cmp (nat_cmp owner) old.owners new.owners waiter
    → PutsWaiter old new owner waiter
unfolding waiter_of
PutsWaiter-updates old new owner waiter updates = record { here = updates.1; others = λ other differs. updates.2 other (is_at-other owner other differs) }

-- what the entries tell of every owner
pub files-puts : (old new : Waiters) (owner : ℕ) (waiter : Option Waiter) → PutsWaiter old new owner waiter → files_of old owner ≡ files_in waiter
    → (other : ℕ) → files_of new other ≡ files_of old other
unfolding files_of
files-puts old new owner waiter puts same other = grind (arith, common_steps, cases_eq)

pub nil_from : (xs : List ℕ) → ¬ (xs ≢ []) → xs ≡ []
nil_from [] none = refl
nil_from (x ∷ xs) none = absurd (none (λ e. cc))

-- a file counts once more with one of its places
times_with : (files rest : List ℕ) (place there : ℕ) → place < length files → get_or files place there ≡ there
    → rest ≡ take place files ++ drop (suc place) files
    → (file : ℕ) → times file files ≡ times file rest + cond (there == file) 1 0
times_with files rest place there within is left file = grind (arith, common_steps, split_at, sum_by-append, sum_by-cons)

-- and not at all where it stands nowhere
times_none : (file : ℕ) (files : List ℕ) → All (λ other. (other == file) ≡ false) files → times file files ≡ 0
times_none file [] none = refl
times_none file (other ∷ files) none =
    let Differs : ℕ → Type 0 = λ any. (any == file) ≡ false in
    let one = λ (any : ℕ). cond (any == file) 1 0 in
    let head : times file (other ∷ files) ≡ cond (other == file) 1 0 + times file files = sum_by-cons one other files in
    let not_here : times file (other ∷ files) ≡ 0 + times file files =
    subst (λ b. times file (other ∷ files) ≡ cond b 1 0 + times file files) (All-head Differs other files none) head in
    let rest = times_none file files (All-tail Differs other files none) in
    omega arith

-- an entry from which one place of the file is removed
pub LeavesFile-removes : (old new : Waiter) (file place there : ℕ) → position (λ other. other == file) old.files.items ≡ Some place
    → get_or old.files.items place there ≡ there
    → new.files.items ≡ take place old.files.items ++ drop (suc place) old.files.items → new.crossed ≡ old.crossed → LeavesFile old new file
LeavesFile-removes old new file place there found is left crossed = grind (arith, common_steps, position-Some, eqb-true, times_with, eq-eqb, ne_eqb)

-- where no place is found nothing passes the test
none_passes : {X : Type 0} (p : X → Bool) (xs : List X) → position p xs ≡ None → All (λ x. p x ≡ false) xs
none_passes p xs none = grind (arith, common_steps, cases_lt, lt-ltb, fails_before_first)

-- and one where the file has no place
pub LeavesFile-none : (entry : Waiter) (file : ℕ) → position (λ other. other == file) entry.files.items ≡ None → LeavesFile entry entry file
LeavesFile-none entry file none = record {
  on_file = λ some. absurd (some (times_none file entry.files.items (none_passes (λ other. other == file) entry.files.items none)));
  elsewhere = λ other differs. refl;
  crossed = refl;
}

-- an owner without a detected wait has no entry any more
pub Sweeps-drops : (old new : Waiters) (owner : ℕ) → PutsWaiter old new owner None → files_of old owner ≡ [] → Sweeps old new owner
unfolding files_of crossed_of
Sweeps-drops old new owner puts none = grind (arith, common_steps, files-puts)

-- an owner whose entry lost one place of a file, and was then swept
pub Ends-left : (old mid new : Waiters) (owner file : ℕ) (was now : Waiter) → waiter_of old owner ≡ Some was → PutsWaiter old mid owner (Some now)
    → LeavesFile was now file → Sweeps mid new owner → Ends old new owner file
unfolding files_of crossed_of
Ends-left old mid new owner file was now is puts left swept =
    let had : files_of old owner ≡ was.files.items = ap files_in is in
    let has : files_of new owner ≡ now.files.items = swept.files owner ∙ ap files_in puts.here in
    record {
      others = λ other differs. swept.files other ∙ ap files_in (puts.others other differs);
      on_file = λ some.
          (let before : times file (files_of old owner) ≡ times file was.files.items = ap (times file) had in
          let after : times file (files_of new owner) ≡ times file now.files.items = ap (times file) has in
          let less = left.on_file (λ none. some (before ∙ none)) in omega arith);
      elsewhere = λ other differs. ap (times other) has ∙ left.elsewhere other differs ∙ sym (ap (times other) had);
      crossed = λ other differs. swept.others other differs ∙ ap crossed_in (puts.others other differs);
      still = λ some. swept.still (λ none. some (swept.files owner ∙ none)) ∙ ap crossed_in puts.here ∙ left.crossed ∙ sym (ap crossed_in is);
      none = λ none. swept.none (sym (swept.files owner) ∙ none);
    }

-- what a write through the entry that a map lent puts there
pub waiter_written : (old new : Waiters) (owner : ℕ) (lent : Option (MutBor Waiter)) (was : MutBor Waiter) (now : Waiter)
    → option_copied_mut lent ≡ waiter_of old owner → lent ≡ Some was
    → WritesThrough nat_cmp (nat_cmp owner) old.owners now new.owners → (waiter_of old owner ≡ Some was.now) × PutsWaiter old new owner (Some now)
unfolding waiter_of
waiter_written old new owner lent was now value is writes = grind (arith, common_steps, PutsWaiter-updates)
