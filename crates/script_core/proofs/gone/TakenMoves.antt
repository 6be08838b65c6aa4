-- What a close, dup2, exit or kill comes to: the locks at the places that its closing takes are gone, and so they are behind the settling.
use Rattle.script_core.proofs.Common.{arith, rules, ne_eqb, ◌≡◌, ◌≢◌, ℕ, ◌<◌, ◌≤◌, ◌==◌, ◌&&◌, ◌⊎◌, inl, inr, not, nat_lt, Bool, true, false, MatchBool, if◌then◌else◌, Option, Some, None, is_some, Ok, Err, List, [], ◌∷◌, refl, sym, ap, ◌∙◌, subst, eq-eqb, ⊎_elim, common_steps, option_and_then, and_from, and_parts, cases_Bool, cases_eq, eqb-true, false_from_ne_true, le-ltb}
use Rattle.script_core.proofs.Common.{Mode, Descriptors, OpenFileDescription, SameDescriptors, description_numbered, look_at, look_of, descriptor_limit, with_descriptor, Released, AreReleased, nothing, Owner, Process, Description, Change, sets_byte, mode_in, flock_mode_in, Family, Bytes, Whole, Policy, Wait, Rules, Note, DupTo, ProcState, Unborn, Live, Waiting, Ended, State, with_lock_of, with_process, Settles, granted, Outcome, answered, with_released, DupToComesTo, CloseComesTo, EndComesTo, KillOtherComesTo, without_wait, Closing, Nothing, OneOf, AllOf, closed_by, is_alive, stays_open}
use Rattle.std.specs.Prelude.{option_map}
use Rattle.std.specs.List.{AllByRecursion as Each}
use Rattle.std.proofs.lemmas.Bool.{lt-ltb}
use Rattle.fd_table.specs.declared.FdFault.TheVariants.{BadFd, TooMany, Invalid, Taken, Memory}
use Rattle.lock_manager.specs.declared.request.Reply.TheVariants as replies
use Rattle.lock_manager.specs.ProcessCalls.{KillComesTo}
use Rattle.lock_manager.specs.Sections.{BailComesTo}
use Rattle.script_core.specs.Losses.{killed}
use Rattle.script_core.proofs.FitLemmas.{each_both, each_middle}
use Rattle.script_core.proofs.OutcomeFitLemmas.{each_other, others_left}
use Rattle.script_core.proofs.explained.LossLaws.{goes_by, goes_with}
use Rattle.script_core.proofs.explained.ReportPlaceLemmas.{PlaceTest}
use Rattle.script_core.proofs.explained.WaitingMoves.{AreStanding, others_stand}
use Rattle.script_core.proofs.gone.GoneLaws.{Leaves}
use Rattle.script_core.proofs.gone.HolderMoves.{IsHolding, IsOpening, AreHeld, Keeps, sets_there, mode_push, flock_push, lock_of_keeps}
use Rattle.script_core.proofs.gone.ReleaseMoves.{IsClosing, look_made}
use Rattle.script_core.proofs.gone.ClosingMoves.{release_leaves, release_held, wait_spared}
use Rattle.script_core.proofs.gone.DescriptorMoves.{close_closes, end_closes, nothing_closes, move_closes}
use Rattle.script_core.proofs.gone.StepMoves.{Stays, refusal_stays, told_stays}

-- no wait is for a lock at a place that is taken
abbrev pub AreSpared : PlaceTest → List Wait → Type 0
AreSpared test waits = Each (λ wait. (whole : Bool) → test whole wait.file wait.owner ≡ false) waits

-- the outcome's state is as it should be, and the locks at the places that the closing takes are gone there
pub record IsTaken (processes limit : ℕ) (S : State) (closing : Closing) (outcome : Outcome) : Type 0 where
  pub held : AreHeld processes limit outcome.after
  pub leaves : Leaves (goes_with processes limit S closing) S outcome.after
  pub spared : AreSpared (goes_with processes limit S closing) outcome.after.waits

each_all : {X : Type 0} (P : X → Type 0) (xs : List X) → ((x : X) → P x) → Each P xs
each_all P [] f = tt
each_all P (x ∷ xs) f = (f x, each_all P xs f)

-- ---- where nothing is taken

pub keeps_leave : (test : PlaceTest) (S T : State) → ((whole : Bool) (file : ℕ) (owner : Owner) → test whole file owner ≡ false) → Keeps S T → Leaves test S T
keeps_leave test S T none keeps = record {
  bytes_gone = λ file owner byte is. absurd (let no = none false file owner in let bad : false ≡ true = sym no ∙ is in cc);
  bytes_kept = λ file owner byte no some. keeps.bytes file owner byte some;
  flocks_gone = λ file d is. absurd (let no = none true file (Description d) in let bad : false ≡ true = sym no ∙ is in cc);
  flocks_kept = λ file d no some. keeps.flocks file d some;
}

pub none_taken : (processes limit : ℕ) (S : State) (closing : Closing) (outcome : Outcome)
    → ((whole : Bool) (file : ℕ) (owner : Owner) → goes_with processes limit S closing whole file owner ≡ false) → Stays processes limit S outcome
    → IsTaken processes limit S closing outcome
none_taken processes limit S closing outcome none stays = record {
  held = stays.held;
  leaves = keeps_leave (goes_with processes limit S closing) S outcome.after none stays.keeps;
  spared = each_all _ outcome.after.waits (λ wait whole. none whole wait.file wait.owner);
}

not_open : (processes limit : ℕ) (S : State) (p fd : ℕ) → S.descriptors.description_of p fd ≡ None → (whole : Bool) (file : ℕ) (owner : Owner)
    → goes_with processes limit S (OneOf p fd) whole file owner ≡ false
not_open processes limit S p fd none whole file owner =
    let D = S.descriptors in
    ap (λ (found : Option ℕ). goes_by p (option_and_then (λ number. option_map (look_of D number) (description_numbered D.descriptions number)) found)
    (λ d. stays_open limit S (OneOf p fd) d processes) whole file owner) none

-- ---- where descriptors are closed

-- what a closing leaves
closed_taken : (processes limit : ℕ) (S T : State) (closing : Closing) (p : ℕ) (closed : ℕ → Bool) (E : Descriptors) (released : Released) (outcome : Outcome)
    → AreHeld processes limit S → IsClosing closing p closed S.descriptors E released → T.changes ≡ (with_released S E p released).changes
    → T.flock_changes ≡ (with_released S E p released).flock_changes → T.descriptors ≡ E → Each (IsHolding S.descriptors) T.waits
    → Each (λ wait. wait.p ≢ p) T.waits → ((q fd d : ℕ) → E.description_of q fd ≡ Some d → IsOpening limit T.states E q fd d)
    → ((q : ℕ) → is_alive (T.states q) ≡ true → (1 ≤ q) × (q ≤ processes)) → outcome.after ≡ T → IsTaken processes limit S closing outcome
closed_taken processes limit S T closing p closed E released outcome h is changes flock_changes descriptors waits others opened numbered after =
    let held = release_held processes limit S T closing p closed E released h is changes flock_changes descriptors waits others opened numbered in
    let leaves = release_leaves processes limit S closing p closed E released h is in
    by_state outcome.after (sym after)
    (record {
      held = held;
      leaves = record {
        bytes_gone = λ f o byte goes. ap (λ (l : List _). mode_in l f o byte) changes ∙ leaves.bytes_gone f o byte goes;
        bytes_kept = λ f o byte stays some none.
            leaves.bytes_kept f o byte stays some (ap (λ (l : List _). mode_in l f o byte) (sym changes) ∙ none);
        flocks_gone = λ f d goes. ap (λ (l : List _). flock_mode_in l f d) flock_changes ∙ leaves.flocks_gone f d goes;
        flocks_kept = λ f d stays some none.
            leaves.flocks_kept f d stays some (ap (λ (l : List _). flock_mode_in l f d) (sym flock_changes) ∙ none);
      };
      spared = each_both (λ wait. wait.p ≢ p) (IsHolding E) (λ wait. (whole : Bool) → goes_with processes limit S closing whole wait.file wait.owner ≡ false) T.waits
          (λ wait another holding. wait_spared processes limit S closing p closed E released wait h is another holding) others
          (subst (λ (D : Descriptors). Each (IsHolding D) T.waits) descriptors held.waits);
    })
  where
    by_state : (U : State) → T ≡ U
        → IsTaken processes limit S closing (record { told = []; after = T })
        → IsTaken processes limit S closing (record outcome { after = U })
    by_state U same taken =
        subst (λ (X : State). IsTaken processes limit S closing (record outcome { after = X })) same
        (record { held = taken.held; leaves = taken.leaves; spared = taken.spared })

-- a descriptor that wasn't closed is what it was
kept_opened : (limit : ℕ) (states now : ℕ → ProcState) (old new : Descriptors) (shut : ℕ → ℕ → Bool)
    → ((q k : ℕ) → new.description_of q k ≡ (if shut q k then None else old.description_of q k)) → new.descriptions ≡ old.descriptions
    → ((q k : ℕ) → shut q k ≡ false → is_alive (states q) ≡ true → is_alive (now q) ≡ true)
    → ((q k d : ℕ) → old.description_of q k ≡ Some d → IsOpening limit states old q k d)
    → (q k d : ℕ) → new.description_of q k ≡ Some d → IsOpening limit now new q k d
kept_opened limit states now old new shut same descriptions alive each q k d is = by_test (shut q k) refl (sym (same q k) ∙ is)
  where
    by_test : (b : Bool) → shut q k ≡ b → (if shut q k then None else old.description_of q k) ≡ Some d → IsOpening limit now new q k d
    by_test true at is = absurd (let bad : None ≡ Some d = rw at at is in cc)
    by_test false at is =
        let opening = each q k d (let from : old.description_of q k ≡ Some d = rw at at is in from) in
        record {
          within = opening.within;
          alive = alive q k at opening.alive;
          opened = opening.opened;
          made = ap (λ (l : List OpenFileDescription). description_numbered l d) descriptions ∙ opening.made;
        }

no_wait : (S : State) (p : ℕ) → AreStanding S → S.states p ≡ Live → Each (λ wait. wait.p ≢ p) S.waits
no_wait S p standing live = others_stand S p (λ e. let bad : Live ≡ Waiting = sym live ∙ e in cc) standing

pub close_taken : (processes limit : ℕ) (S : State) (p n fd : ℕ) (outcome : Outcome) → AreStanding S → AreHeld processes limit S → S.states p ≡ Live
    → CloseComesTo S p n fd outcome → IsTaken processes limit S (OneOf p fd) outcome
close_taken processes limit S p n fd outcome standing h live (Ok released, D, gives, is) =
    closed_taken processes limit S (with_released S D p released) (OneOf p fd) p (λ k. k == fd) D released outcome h
    (close_closes S.descriptors p fd released D gives) refl refl refl h.waits (no_wait S p standing live)
    (kept_opened limit S.states S.states S.descriptors D (λ q k. (q == p) && (k == fd)) gives.1.description_of gives.1.descriptions (λ q k no alive. alive) h.descriptors)
    h.numbered (ap (λ (o : Outcome). o.after) is)
close_taken processes limit S p n fd outcome standing h live (Err BadFd, D, gives, is) =
    none_taken processes limit S (OneOf p fd) outcome (not_open processes limit S p fd gives.0) (refusal_stays processes limit S p n BadFd outcome h is)
close_taken processes limit S p n fd outcome standing h live (Err TooMany, D, gives, is) = absurd gives
close_taken processes limit S p n fd outcome standing h live (Err Invalid, D, gives, is) = absurd gives
close_taken processes limit S p n fd outcome standing h live (Err Taken, D, gives, is) = absurd gives
close_taken processes limit S p n fd outcome standing h live (Err (Memory memory), D, gives, is) = absurd gives

-- ---- dup2

closing_is : (processes limit : ℕ) (S : State) (closing other : Closing) (outcome : Outcome) → closing ≡ other → IsTaken processes limit S other outcome
    → IsTaken processes limit S closing outcome
closing_is processes limit S closing other outcome same taken = subst (λ (c : Closing). IsTaken processes limit S c outcome) (sym same) taken

nothing_taken : (processes limit : ℕ) (S : State) (closing : Closing) (outcome : Outcome) → closing ≡ Nothing → Stays processes limit S outcome
    → IsTaken processes limit S closing outcome
nothing_taken processes limit S closing outcome same stays =
    closing_is processes limit S closing Nothing outcome same (none_taken processes limit S Nothing outcome (λ whole file owner. refl) stays)

pick : (one other third : Bool) (closing : Closing) → one ≡ true → other ≡ true → third ≡ false
    → (if one && other && not third then closing else Nothing) ≡ closing
pick one other third closing h h2 h3 = grind (arith, common_steps)

pick_none : (one other third : Bool) (closing : Closing) → (one ≡ false) ⊎ ((other ≡ false) ⊎ (third ≡ true))
    → (if one && other && not third then closing else Nothing) ≡ Nothing
pick_none one other third closing h = grind (arith, common_steps)

not_looked : (D : Descriptors) (p fd : ℕ) → D.description_of p fd ≡ None → is_some (look_at D p fd) ≡ false
not_looked D p fd none =
    ap (λ (found : Option ℕ). is_some (option_and_then (λ number. option_map (look_of D number) (description_numbered D.descriptions number)) found)) none

moved_held : (rules : Rules) (processes : ℕ) (S : State) (p n fd to description : ℕ) (released : Released) (D : Descriptors) (outcome : Outcome)
    → AreStanding S → AreHeld processes (descriptor_limit rules.limits) S → S.states p ≡ Live → S.descriptors.description_of p fd ≡ Some description
    → to < descriptor_limit rules.limits → (to == fd) ≡ false → SameDescriptors D (with_descriptor S.descriptors p to description)
    → AreReleased S.descriptors D p (λ k. k == to) released → outcome.after ≡ with_released S D p released
    → IsTaken processes (descriptor_limit rules.limits) S (OneOf p to) outcome
moved_held rules processes S p n fd to description released D outcome standing h live refers low apart same tells after =
    closed_taken processes (descriptor_limit rules.limits) S (with_released S D p released) (OneOf p to) p (λ k. k == to) D released outcome h
    (move_closes S.descriptors p fd to description released D refers apart same tells) refl refl refl h.waits (no_wait S p standing live)
    (λ q k d is. by_test q k d ((q == p) && (k == to)) refl (sym (same.description_of q k) ∙ is)) h.numbered after
  where
    made : (q k d : ℕ) → S.descriptors.description_of q k ≡ Some d → (x : OpenFileDescription) × (description_numbered D.descriptions d ≡ Some x)
    made q k d at =
        let opening = h.descriptors q k d at in
        (opening.opened, ap (λ (l : List OpenFileDescription). description_numbered l d) same.descriptions ∙ opening.made)

    by_test : (q k d : ℕ) (b : Bool) → ((q == p) && (k == to)) ≡ b
        → (if (q == p) && (k == to) then Some description else S.descriptors.description_of q k) ≡ Some d
        → IsOpening (descriptor_limit rules.limits) S.states D q k d
    by_test q k d true at is =
        let both = and_parts (q == p) (k == to) at in
        let moved : Some description ≡ Some d = rw at at is in
        let own = made p fd d (refers ∙ moved) in
        let number : k ≡ to = eqb-true k to both.1 in
        record {
          within = omega (arith, number, low);
          alive = ap (λ (r : ℕ). is_alive (S.states r)) (eqb-true q p both.0) ∙ ap is_alive live;
          opened = own.0;
          made = own.1;
        }
    by_test q k d false at is =
        let from : S.descriptors.description_of q k ≡ Some d = rw at at is in
        let opening = h.descriptors q k d from in
        let still = made q k d from in
        record { within = opening.within; alive = opening.alive; opened = still.0; made = still.1 }

pub dup_to_taken : (rules : Rules) (processes : ℕ) (S : State) (p n fd to : ℕ) (outcome : Outcome) → AreStanding S
    → AreHeld processes (descriptor_limit rules.limits) S → S.states p ≡ Live → DupToComesTo rules S p n fd to outcome
    → IsTaken processes (descriptor_limit rules.limits) S (closed_by rules.limits S p (DupTo fd to)) outcome
dup_to_taken rules processes S p n fd to outcome standing h live (Ok answer, D, (description, refers, low, told, moves), is) =
    by_same (to == fd) refl moves
  where
    limit : ℕ
    limit = descriptor_limit rules.limits

    by_same : (b : Bool) → (to == fd) ≡ b
        → MatchBool b ((answer.1 ≡ nothing) × SameDescriptors D S.descriptors)
        (SameDescriptors D (with_descriptor S.descriptors p to description) × AreReleased S.descriptors D p (λ k. k == to) answer.1)
        → IsTaken processes (descriptor_limit rules.limits) S (closed_by rules.limits S p (DupTo fd to)) outcome
    by_same true at (none, same) =
        closing_is processes (descriptor_limit rules.limits) S (closed_by rules.limits S p (DupTo fd to)) Nothing outcome
        (pick_none (is_some (look_at S.descriptors p fd)) (nat_lt to (descriptor_limit rules.limits)) (to == fd) (OneOf p to) (inr (inr at)))
        (closed_taken processes (descriptor_limit rules.limits) S (with_released S D p nothing) Nothing p (λ k. false) D nothing outcome h
        (nothing_closes S.descriptors p D same) refl refl refl h.waits (no_wait S p standing live)
        (kept_opened (descriptor_limit rules.limits) S.states S.states S.descriptors D (λ q k. false) same.description_of same.descriptions (λ q k no alive. alive) h.descriptors)
        h.numbered (ap (λ (o : Outcome). o.after) is ∙ ap (with_released S D p) none))
    by_same false at (same, tells) =
        let opening = h.descriptors p fd description refers in
        closing_is processes (descriptor_limit rules.limits) S (closed_by rules.limits S p (DupTo fd to)) (OneOf p to) outcome
        (pick (is_some (look_at S.descriptors p fd)) (nat_lt to (descriptor_limit rules.limits)) (to == fd) (OneOf p to)
        (ap is_some (look_made S.descriptors p fd description opening.opened refers opening.made)) (lt-ltb to (descriptor_limit rules.limits) low) at)
        (moved_held rules processes S p n fd to description answer.1 D outcome standing h live refers low at same tells (ap (λ (o : Outcome). o.after) is))
dup_to_taken rules processes S p n fd to outcome standing h live (Err BadFd, D, (why, same), is) =
    nothing_taken processes (descriptor_limit rules.limits) S (closed_by rules.limits S p (DupTo fd to)) outcome
    (pick_none (is_some (look_at S.descriptors p fd)) (nat_lt to (descriptor_limit rules.limits)) (to == fd) (OneOf p to)
    (⊎_elim (λ none. inl (not_looked S.descriptors p fd none)) (λ past. inr (inl (le-ltb to (descriptor_limit rules.limits) past))) why))
    (refusal_stays processes (descriptor_limit rules.limits) S p n BadFd outcome h is)
dup_to_taken rules processes S p n fd to outcome standing h live (Err TooMany, D, gives, is) = absurd gives
dup_to_taken rules processes S p n fd to outcome standing h live (Err Invalid, D, gives, is) = absurd gives
dup_to_taken rules processes S p n fd to outcome standing h live (Err Taken, D, gives, is) = absurd gives
dup_to_taken rules processes S p n fd to outcome standing h live (Err (Memory memory), D, gives, is) = absurd gives

-- ---- the end of a process

other_dies : (S : State) (p q : ℕ) → q ≢ p → is_alive (S.states q) ≡ true → is_alive (if q == p then Ended else S.states q) ≡ true
other_dies S p q other alive = ap (λ (b : Bool). is_alive (if b then Ended else S.states q)) (ne_eqb q p other) ∙ alive

pub end_taken : (processes limit : ℕ) (S : State) (p : ℕ) (told : List Note) (outcome : Outcome) → AreHeld processes limit S
    → EndComesTo S p told outcome → IsTaken processes limit S (AllOf p) outcome
end_taken processes limit S p told outcome h (released, D, gives, is) =
    closed_taken processes limit S (with_process (with_released (without_wait S p) D p released) p Ended) (AllOf p) p (λ k. true) D released outcome h
    (end_closes S.descriptors p released D gives) refl refl refl (each_other (IsHolding S.descriptors) S.waits p h.waits) (others_left S.waits p)
    (kept_opened limit S.states (λ q. if q == p then Ended else S.states q) S.descriptors D (λ q k. (q == p) && true) gives.0.description_of gives.0.descriptions
    (λ q k no alive. other_dies S p q (λ e. let own : ((q == p) && true) ≡ true = and_from (q == p) true (eq-eqb q p e) refl in
    let bad : false ≡ true = sym no ∙ own in cc) alive) h.descriptors)
    (λ q alive. elim (cases_eq q p) [
      | inl own ↦ absurd (let dead : is_alive (if q == p then Ended else S.states q) ≡ false = rw (eq-eqb q p own) refl in
          let bad : false ≡ true = sym dead ∙ alive in cc)
      | inr other ↦
          h.numbered q (sym (ap (λ (b : Bool). is_alive (if b then Ended else S.states q)) (ne_eqb q p other)) ∙ alive)
    ])
    (ap (λ (o : Outcome). o.after) is)

pub kill_taken : (processes limit : ℕ) (S : State) (p n target : ℕ) (outcome : Outcome) → AreHeld processes limit S → S.states p ≡ Live
    → KillComesTo S p n target outcome → IsTaken processes limit S (killed target (S.states target)) outcome
kill_taken processes limit S p n target outcome h live is =
    elim (cases_Bool (target == p)) [
      | inl own ↦
          (let same : target ≡ p = eqb-true target p own in
          closing_is processes limit S (killed target (S.states target)) (AllOf p) outcome
          (ap (λ (q : ℕ). killed q (S.states q)) same ∙ ap (killed p) live)
          (end_taken processes limit S p [] outcome h
          (subst (λ (b : Bool). MatchBool b (EndComesTo S p [] outcome) (KillOtherComesTo S p n target (S.states target) outcome)) own is)))
      | inr other ↦
          other_taken (S.states target)
          (subst (λ (b : Bool). MatchBool b (EndComesTo S p [] outcome) (KillOtherComesTo S p n target (S.states target) outcome)) other is)
    ]
  where
    other_taken : (state : ProcState) → KillOtherComesTo S p n target state outcome → IsTaken processes limit S (killed target state) outcome
    other_taken Unborn is = none_taken processes limit S Nothing outcome (λ whole file owner. refl) (told_stays processes limit S p n _ [] outcome h is)
    other_taken Ended is = none_taken processes limit S Nothing outcome (λ whole file owner. refl) (told_stays processes limit S p n _ [] outcome h is)
    other_taken Live is = end_taken processes limit S target _ outcome h is
    other_taken Waiting is = end_taken processes limit S target _ outcome h is

pub bail_taken : (processes limit : ℕ) (S : State) (p n : ℕ) (outcome : Outcome) → AreHeld processes limit S → BailComesTo S p n outcome
    → IsTaken processes limit S (if S.refused p then AllOf p else Nothing) outcome
bail_taken processes limit S p n outcome h is = by_test (S.refused p) is
  where
    by_test : (was_refused : Bool) → MatchBool was_refused (EndComesTo S p [] outcome) (outcome ≡ answered S p n replies.Ok)
        → IsTaken processes limit S (if was_refused then AllOf p else Nothing) outcome
    by_test true is = end_taken processes limit S p [] outcome h is
    by_test false is = none_taken processes limit S Nothing outcome (λ whole file owner. refl) (told_stays processes limit S p n _ [] outcome h is)

-- ---- behind the settling

lock_of_leaves : (family : Family) (owner : Owner) (test : PlaceTest) (S U : State) (wait : Wait) → Leaves test S U
    → ((whole : Bool) → test whole wait.file owner ≡ false) → Leaves test S (with_lock_of family owner U wait)
lock_of_leaves family owner test S U wait leaves spared = record {
  bytes_gone = gone_bytes family owner spared;
  bytes_kept = λ f o byte no some. keeps.bytes f o byte (leaves.bytes_kept f o byte no some);
  flocks_gone = gone_flocks family owner spared;
  flocks_kept = λ f d no some. keeps.flocks f d (leaves.flocks_kept f d no some);
}
  where
    keeps : Keeps U (with_lock_of family owner U wait)
    keeps = lock_of_keeps family owner U wait

    unset : (b : Bool) (mode : Mode) (found : Option Mode) → b ≡ false → found ≡ None → (if b then Some mode else found) ≡ None
    unset true mode found off none = absurd (cc)
    unset false mode found off none = none

    gone_bytes : (family : Family) (owner : Owner) → ((whole : Bool) → test whole wait.file owner ≡ false) → (f : ℕ) (o : Owner) (byte : ℕ)
        → test false f o ≡ true → mode_in (with_lock_of family owner U wait).changes f o byte ≡ None
    gone_bytes Bytes owner spared f o byte goes =
        let change : Change = record { file = wait.file; owner = owner; span = wait.span; mode = Some wait.mode } in
        mode_push None U.changes change f o byte
        ∙ unset (sets_byte change f o byte) wait.mode (mode_in U.changes f o byte)
        (false_from_ne_true (sets_byte change f o byte) (λ sets.
        let there = sets_there change f o byte sets in
        let here : test false f o ≡ false =
        subst (λ (x : Owner). test false f x ≡ false) there.of (subst (λ (n : ℕ). test false n owner ≡ false) there.on (spared false)) in
        let bad : false ≡ true = sym here ∙ goes in cc))
        (leaves.bytes_gone f o byte goes)
    gone_bytes Whole (Description d) spared f o byte goes = leaves.bytes_gone f o byte goes
    gone_bytes Whole (Process p) spared f o byte goes = leaves.bytes_gone f o byte goes

    gone_flocks : (family : Family) (owner : Owner) → ((whole : Bool) → test whole wait.file owner ≡ false) → (f e : ℕ)
        → test true f (Description e) ≡ true → flock_mode_in (with_lock_of family owner U wait).flock_changes f e ≡ None
    gone_flocks Bytes owner spared f e goes = leaves.flocks_gone f e goes
    gone_flocks Whole (Process p) spared f e goes = leaves.flocks_gone f e goes
    gone_flocks Whole (Description d) spared f e goes =
        flock_push None U.flock_changes (record { file = wait.file; description = d; mode = Some wait.mode }) f e
        ∙ unset ((wait.file == f) && (d == e)) wait.mode (flock_mode_in U.flock_changes f e)
        (false_from_ne_true ((wait.file == f) && (d == e)) (λ sets.
        let both = and_parts (wait.file == f) (d == e) sets in
        let here : test true f (Description e) ≡ false =
        subst (λ (x : ℕ). test true f (Description x) ≡ false) (eqb-true d e both.1)
        (subst (λ (n : ℕ). test true n (Description d) ≡ false) (eqb-true wait.file f both.0) (spared true)) in
        let bad : false ≡ true = sym here ∙ goes in cc))
        (leaves.flocks_gone f e goes)

pub settles_leave : (test : PlaceTest) (policy : Policy) (S U : State) (grants : List Note) (T : State) → Settles policy U grants T → Leaves test S U
    → AreSpared test U.waits → Leaves test S T
settles_leave test policy S U [] T settles leaves spared = subst (Leaves test S) (sym settles.1) leaves
settles_leave test policy S U (grant ∷ grants) T (before, wait, after, next, is, rest) leaves spared =
    let all = each_middle (λ (w : Wait). (whole : Bool) → test whole w.file w.owner ≡ false) before wait after (subst (AreSpared test) next.place spared) in
    let lock = lock_of_leaves wait.family wait.owner test S U wait leaves all.0 in
    settles_leave test policy S (granted U before wait after) grants T rest
    (record { bytes_gone = lock.bytes_gone; bytes_kept = lock.bytes_kept; flocks_gone = lock.flocks_gone; flocks_kept = lock.flocks_kept }) all.1
