-- Each step keeps who has what open; and what a request comes to that closes nothing takes no lock, but an unlock and a conversion by flock.
use Rattle.script_core.proofs.Common.{arith, rules, ne_eqb, ◌≡◌, ◌≢◌, ℕ, ◌≤◌, ◌==◌, ◌&&◌, ◌||◌, inl, inr, Bool, true, false, MatchBool, MatchOption, if◌then◌else◌, Option, Some, None, option_map, Ok, Err, List, [], ◌∷◌, refl, sym, ap, ◌∙◌, subst, eq-eqb, ⊎_elim, ℤ, common_steps, cases_eq}
use Rattle.script_core.proofs.Common.{Mode, Span, resolution, Access, FdFault, Look, Descriptors, SameDescriptors, OpenFileDescription, description_numbered, look_at, descriptor_limit, Owner, Process, Description, mode_in, flock_mode_in, Policy, Wait, Rules, Lock, LkCmd, GetLk, SetLk, SetLkW, OGetLk, OSetLk, OSetLkW, EINVAL, FlockOp, Sh, Ex, Un, Note, Reply, ProcState, Unborn, Live, Waiting, Ended, State, with_lock, with_byte_mode, with_flock_mode, with_process, Settles, granted, Outcome, IsRefusal, answered, answered_then, refused, waits_then, OpenComesTo, DupComesTo, SeekComesTo, ResizeComesTo, is_get, is_bad_argument, wanted_mode, permits, wanted_lock, held_reply, lock_owner, GetComesTo, SetComesTo, CommandComesTo, ModeComesTo, DescribedComesTo, FlockTestComesTo, FlockModeComesTo, FlockOpComesTo, ForkComesTo, SignalComesTo, without_wait, is_alive}
use Rattle.range_core.specs.declared.Mode.TheVariants.{Read, Write}
use Rattle.fd_table.specs.Descriptors.{with_child}
use Rattle.lock_manager.specs.declared.request.Reply.TheVariants as replies
use Rattle.lock_manager.specs.LockWords.{is_ofd}
use Rattle.lock_manager.specs.FlockCalls.{ConversionComesTo, wanted_flock, is_same_mode}
use Rattle.script_core.proofs.OutcomeFitLemmas.{by_bool, each_other, resolved_within}
use Rattle.script_core.proofs.DeadlockStepLemmas.{if_option, if_result}
use Rattle.script_core.proofs.explained.WaitingMoves.{AreStanding, same_stand, settles_stand}
use Rattle.script_core.proofs.gone.HolderMoves.{MayHold, IsHolding, IsOpening, AreHeld, Keeps, keeps_all, flock_push, lock_held, lock_keeps, unlocked_held, unflocked_held, waits_held, settles_held, settles_keep}
use Rattle.script_core.proofs.gone.ReleaseMoves.{look_refers}
use Rattle.script_core.proofs.gone.DescriptorMoves.{Widens, widened_held, opening_still, open_widens, open_opened, dup_widens, dup_opened, seek_widens, resize_widens, same_opened}

-- ---- nobody loses a lock

-- the outcome's state is as it should be, and who had a lock has one there still
pub record Stays (processes limit : ℕ) (S : State) (outcome : Outcome) : Type 0 where
  pub held : AreHeld processes limit outcome.after
  pub keeps : Keeps S outcome.after

stays_by : (processes limit : ℕ) (S T : State) (outcome : Outcome) → outcome.after ≡ T → AreHeld processes limit T → Keeps S T
    → Stays processes limit S outcome
stays_by processes limit S T outcome is held keeps =
    record { held = subst (AreHeld processes limit) (sym is) held; keeps = subst (Keeps S) (sym is) keeps }

answered_stays : (processes limit : ℕ) (S T : State) (p n : ℕ) (reply : Reply) (grants : List Note) (outcome : Outcome) → AreHeld processes limit T
    → Keeps S T → outcome ≡ answered_then T p n reply grants → Stays processes limit S outcome
answered_stays processes limit S T p n reply grants outcome held keeps is =
    stays_by processes limit S T outcome (ap (λ (o : Outcome). o.after) is) held keeps

pub told_stays : (processes limit : ℕ) (S : State) (p n : ℕ) (reply : Reply) (grants : List Note) (outcome : Outcome) → AreHeld processes limit S
    → outcome ≡ answered_then S p n reply grants → Stays processes limit S outcome
told_stays processes limit S p n reply grants outcome h is = answered_stays processes limit S S p n reply grants outcome h (keeps_all S) is

-- the caller is answered or refused, by a test
pub tested_stays : (processes limit : ℕ) (S : State) (p n : ℕ) (test : Bool) (outcome : Outcome) → AreHeld processes limit S
    → MatchBool test (outcome ≡ answered S p n replies.Ok) (outcome ≡ refused S p n EINVAL) → Stays processes limit S outcome
tested_stays processes limit S p n test outcome h is =
    by_bool test is (λ done. told_stays processes limit S p n _ [] outcome h done) (λ no. told_stays processes limit S p n _ [] outcome h no)

pub refusal_stays : (processes limit : ℕ) (S : State) (p n : ℕ) (fault : FdFault) (outcome : Outcome) → AreHeld processes limit S
    → IsRefusal S p n fault outcome → Stays processes limit S outcome
refusal_stays processes limit S p n fault outcome h is = grind (arith, common_steps, told_stays)

waits_stay : (processes limit : ℕ) (S : State) (wait : Wait) (grants : List Note) (outcome : Outcome) → AreHeld processes limit S
    → IsHolding S.descriptors wait → S.states wait.p ≡ Live → outcome ≡ waits_then S wait grants → Stays processes limit S outcome
waits_stay processes limit S wait grants outcome h holding live is = record {
  held = waits_held processes limit S wait grants outcome h holding live is;
  keeps = subst (λ (o : Outcome). Keeps S o.after) (sym is) (record { bytes = λ f o byte some. some; flocks = λ f d some. some });
}

lock_stays : (processes limit : ℕ) (S : State) (wait : Wait) (grants : List Note) (outcome : Outcome) → AreHeld processes limit S
    → IsHolding S.descriptors wait → outcome ≡ answered_then (with_lock S wait) wait.p wait.n replies.Ok grants → Stays processes limit S outcome
lock_stays processes limit S wait grants outcome h holding is =
    answered_stays processes limit S (with_lock S wait) wait.p wait.n replies.Ok grants outcome (lock_held processes limit S wait h holding) (lock_keeps S wait) is

-- ---- descriptors

widened_stays : (processes limit : ℕ) (S : State) (p n : ℕ) (D : Descriptors) (reply : Reply) (outcome : Outcome) → AreHeld processes limit S
    → Widens S.descriptors D → ((q k d : ℕ) → D.description_of q k ≡ Some d → IsOpening limit S.states D q k d)
    → outcome ≡ answered_then (record S { descriptors = D }) p n reply [] → Stays processes limit S outcome
widened_stays processes limit S p n D reply outcome h wide opened is =
    answered_stays processes limit S (record S { descriptors = D }) p n reply [] outcome
    (widened_held processes limit S (record S { descriptors = D }) h wide refl refl refl opened h.numbered)
    (record { bytes = λ f o byte some. some; flocks = λ f d some. some }) is

pub open_stays : (rules : Rules) (processes : ℕ) (S : State) (p n file : ℕ) (access : Access) (outcome : Outcome)
    → AreHeld processes (descriptor_limit rules.limits) S → S.states p ≡ Live → OpenComesTo rules S p n file access outcome
    → Stays processes (descriptor_limit rules.limits) S outcome
open_stays rules processes S p n file access outcome h live (Ok fd, D, gives, is) =
    widened_stays processes (descriptor_limit rules.limits) S p n D (replies.Fd fd) outcome h (open_widens rules.limits S.descriptors p file access fd D gives)
    (open_opened rules.limits S.states S.descriptors p file access fd D gives h.descriptors (ap is_alive live)) is
open_stays rules processes S p n file access outcome h live (Err fault, D, gives, is) =
    refusal_stays processes (descriptor_limit rules.limits) S p n fault outcome h is

pub dup_stays : (rules : Rules) (processes : ℕ) (S : State) (p n fd : ℕ) (outcome : Outcome)
    → AreHeld processes (descriptor_limit rules.limits) S → DupComesTo rules S p n fd outcome → Stays processes (descriptor_limit rules.limits) S outcome
dup_stays rules processes S p n fd outcome h (Ok free, D, gives, is) =
    widened_stays processes (descriptor_limit rules.limits) S p n D (replies.Fd free) outcome h (dup_widens rules.limits S.descriptors p fd free D gives)
    (dup_opened rules.limits S.states S.descriptors p fd free D gives h.descriptors) is
dup_stays rules processes S p n fd outcome h (Err fault, D, gives, is) = refusal_stays processes (descriptor_limit rules.limits) S p n fault outcome h is

pub seek_stays : (processes limit : ℕ) (S : State) (p n fd : ℕ) (offset : ℤ) (outcome : Outcome) → AreHeld processes limit S
    → SeekComesTo S p n fd offset outcome → Stays processes limit S outcome
seek_stays processes limit S p n fd offset outcome h (Ok done, D, gives, is) =
    let wide = seek_widens S.descriptors p fd offset done D gives in
    widened_stays processes limit S p n D replies.Ok outcome h wide (same_opened limit S.states S.descriptors D gives.4.description_of wide h.descriptors) is
seek_stays processes limit S p n fd offset outcome h (Err fault, D, gives, is) = refusal_stays processes limit S p n fault outcome h is

pub resize_stays : (processes limit : ℕ) (S : State) (p n fd : ℕ) (size : ℤ) (outcome : Outcome) → AreHeld processes limit S
    → ResizeComesTo S p n fd size outcome → Stays processes limit S outcome
resize_stays processes limit S p n fd size outcome h (Ok done, D, gives, is) =
    let wide = resize_widens S.descriptors p fd size done D gives in
    widened_stays processes limit S p n D replies.Ok outcome h wide (same_opened limit S.states S.descriptors D gives.4.description_of wide h.descriptors) is
resize_stays processes limit S p n fd size outcome h (Err fault, D, gives, is) = refusal_stays processes limit S p n fault outcome h is

-- ---- fork

never_alive : (S : State) (child : ℕ) → AreStanding S → S.descriptors.ever_alive child ≡ false → S.states child ≡ Unborn
never_alive S child standing never = by_state (S.states child) refl
  where
    by_state : (state : ProcState) → S.states child ≡ state → S.states child ≡ Unborn
    by_state Unborn at = at
    by_state Live at =
        absurd (let born = standing.born child (λ e. let bad : Live ≡ Unborn = sym at ∙ e in cc) in let bad : false ≡ true = sym never ∙ born in cc)
    by_state Waiting at =
        absurd (let born = standing.born child (λ e. let bad : Waiting ≡ Unborn = sym at ∙ e in cc) in let bad : false ≡ true = sym never ∙ born in cc)
    by_state Ended at =
        absurd (let born = standing.born child (λ e. let bad : Ended ≡ Unborn = sym at ∙ e in cc) in let bad : false ≡ true = sym never ∙ born in cc)

-- the state with the child
abbrev forked : State → Descriptors → ℕ → State
forked S D child = with_process (record S { descriptors = D }) child Live

fork_widens : (processes limit : ℕ) (S : State) (p child : ℕ) (D : Descriptors) → AreHeld processes limit S → S.states child ≡ Unborn
    → SameDescriptors D (with_child S.descriptors p child) → Widens S.descriptors D
fork_widens processes limit S p child D h unborn same = record {
  refers = λ q k d at. elim (cases_eq q child) [
    | inl own ↦
        (let alive = (h.descriptors q k d at).alive in
        let dead : is_alive (S.states q) ≡ false = ap (λ (r : ℕ). is_alive (S.states r)) own ∙ ap is_alive unborn in
        absurd (let bad : false ≡ true = sym dead ∙ alive in cc))
    | inr other ↦ same.description_of q k ∙ rw (ne_eqb q child other) at
  ];
  files = λ d f at.
      ap (λ (l : List OpenFileDescription). option_map (λ (o : OpenFileDescription). o.file) (description_numbered l d)) same.descriptions ∙ at;
}

child_alive : (S : State) (q child : ℕ) → q ≡ child → is_alive (if q == child then Live else S.states q) ≡ true
child_alive S q child own = rw (eq-eqb q child own) refl

pub other_alive : (S : State) (q child : ℕ) → q ≢ child → is_alive (if q == child then Live else S.states q) ≡ is_alive (S.states q)
other_alive S q child other = rw (ne_eqb q child other) refl

pub fork_stays : (processes limit : ℕ) (S : State) (p n child : ℕ) (outcome : Outcome) → AreStanding S → AreHeld processes limit S
    → ForkComesTo processes S p n child outcome → Stays processes limit S outcome
fork_stays processes limit S p n child outcome standing h (Err fault, D, gives, is) = refusal_stays processes limit S p n fault outcome h is
fork_stays processes limit S p n child outcome standing h (Ok done, D, (free, same), is) =
    let unborn = never_alive S child standing free.2 in
    let wide = fork_widens processes limit S p child D h unborn same in
    answered_stays processes limit S (forked S D child) p n replies.Ok [] outcome
    (widened_held processes limit S (forked S D child) h wide refl refl refl
    (λ q k d at. elim (cases_eq q child) [
      | inl own ↦
          (let from : S.descriptors.description_of p k ≡ Some d =
          sym (let e : (if q == child then S.descriptors.description_of p k else S.descriptors.description_of q k) ≡ S.descriptors.description_of p k =
          rw (eq-eqb q child own) refl in e) ∙ sym (same.description_of q k) ∙ at in
          let opening = opening_still limit S.states S.descriptors D p k d wide (h.descriptors p k d from) in
          record { within = opening.within; alive = child_alive S q child own; opened = opening.opened; made = opening.made })
      | inr other ↦
          (let from : S.descriptors.description_of q k ≡ Some d =
          sym (let e : (if q == child then S.descriptors.description_of p k else S.descriptors.description_of q k) ≡ S.descriptors.description_of q k =
          rw (ne_eqb q child other) refl in e) ∙ sym (same.description_of q k) ∙ at in
          let opening = opening_still limit S.states S.descriptors D q k d wide (h.descriptors q k d from) in
          record { within = opening.within; alive = other_alive S q child other ∙ opening.alive; opened = opening.opened; made = opening.made })
    ])
    (λ q alive. elim (cases_eq q child) [
      | inl own ↦ subst (λ (r : ℕ). (1 ≤ r) × (r ≤ processes)) (sym own) (free.0, free.1)
      | inr other ↦ h.numbered q (sym (other_alive S q child other) ∙ alive)
    ]))
    (record { bytes = λ f o byte some. some; flocks = λ f d some. some }) is

-- ---- signal

pub signal_stays : (processes limit : ℕ) (S : State) (p n target : ℕ) (state : ProcState) (outcome : Outcome) → AreHeld processes limit S
    → S.states target ≡ state → SignalComesTo S p n target state outcome → Stays processes limit S outcome
signal_stays processes limit S p n target Unborn outcome h at is = told_stays processes limit S p n _ [] outcome h is
signal_stays processes limit S p n target Ended outcome h at is = told_stays processes limit S p n _ [] outcome h is
signal_stays processes limit S p n target Live outcome h at is = told_stays processes limit S p n _ [] outcome h is
signal_stays processes limit S p n target Waiting outcome h at (wait, found, is) =
    answered_stays processes limit S (with_process (without_wait S target) target Live) p n replies.Ok _ outcome
    (record {
      bytes = h.bytes;
      flocks = h.flocks;
      waits = each_other (IsHolding S.descriptors) S.waits target h.waits;
      descriptors = λ q k d refers.
          let opening = h.descriptors q k d refers in
          record { within = opening.within; alive = lives q opening.alive; opened = opening.opened; made = opening.made };
      numbered = λ q alive. elim (cases_eq q target) [
        | inl own ↦ subst (λ (r : ℕ). (1 ≤ r) × (r ≤ processes)) (sym own) (h.numbered target (ap is_alive at))
        | inr other ↦ h.numbered q (sym (other_alive S q target other) ∙ alive)
      ];
    })
    (record { bytes = λ f o byte some. some; flocks = λ f d some. some }) is
  where
    lives : (q : ℕ) → is_alive (S.states q) ≡ true → is_alive (if q == target then Live else S.states q) ≡ true
    lives q alive = by_test (q == target)
      where
        by_test : (b : Bool) → is_alive (if b then Live else S.states q) ≡ true
        by_test true = refl
        by_test false = alive

-- ---- lock commands

-- the lock that is asked for is of an owner that the caller has open
owner_held : (D : Descriptors) (p fd : ℕ) (look : Look) (ofd : Bool) → look_at D p fd ≡ Some look
    → MayHold D p look.file (if ofd then Description look.desc else Process p)
owner_held D p fd look true opened =
    let refers = look_refers D p fd look opened in record { fd = fd; refers = refers.0; of_file = refers.1 }
owner_held D p fd look false opened =
    let refers = look_refers D p fd look opened in (refl, look.desc, record { fd = fd; refers = refers.0; of_file = refers.1 })

pub wanted_held : (D : Descriptors) (p n fd : ℕ) (cmd : LkCmd) (lock : Lock) (look : Look) (span : Span) (mode : Mode) → look_at D p fd ≡ Some look
    → resolution lock.whence lock.start lock.len look.offset look.size ≡ Ok span → IsHolding D (wanted_lock cmd p n look span mode)
wanted_held D p n fd cmd lock look span mode opened resolved =
    record { holder = owner_held D p fd look (is_ofd cmd) opened; within = (resolved_within lock look span resolved).1 }

pub flock_wanted_held : (D : Descriptors) (p n fd : ℕ) (look : Look) (mode : Mode) → look_at D p fd ≡ Some look → IsHolding D (wanted_flock p n look mode)
flock_wanted_held D p n fd look mode opened = record { holder = owner_held D p fd look true opened; within = omega arith }

get_stays : (processes limit : ℕ) (S : State) (wanted : Wait) (outcome : Outcome) → AreHeld processes limit S → GetComesTo S wanted outcome
    → Stays processes limit S outcome
get_stays processes limit S wanted outcome h is =
    ⊎_elim (λ held. told_stays processes limit S wanted.p wanted.n (held_reply held.1.0) [] outcome h held.1.2)
    (λ free. told_stays processes limit S wanted.p wanted.n replies.Free [] outcome h free.1) is

set_stays : (processes limit : ℕ) (S : State) (wanted : Wait) (outcome : Outcome) → AreHeld processes limit S → IsHolding S.descriptors wanted
    → SetComesTo S wanted outcome → Stays processes limit S outcome
set_stays processes limit S wanted outcome h holding is =
    ⊎_elim (λ no. told_stays processes limit S wanted.p wanted.n _ [] outcome h no.1) (λ yes. lock_stays processes limit S wanted [] outcome h holding yes.1) is

command_stays : (rules : Rules) (processes limit : ℕ) (S : State) (cmd : LkCmd) (wanted : Wait) (outcome : Outcome) → AreHeld processes limit S
    → IsHolding S.descriptors wanted → S.states wanted.p ≡ Live → CommandComesTo rules S cmd wanted outcome → Stays processes limit S outcome
command_stays rules processes limit S GetLk wanted outcome h holding live is = get_stays processes limit S wanted outcome h is
command_stays rules processes limit S OGetLk wanted outcome h holding live is = get_stays processes limit S wanted outcome h is
command_stays rules processes limit S SetLk wanted outcome h holding live is = set_stays processes limit S wanted outcome h holding is
command_stays rules processes limit S OSetLk wanted outcome h holding live is = set_stays processes limit S wanted outcome h holding is
command_stays rules processes limit S SetLkW wanted outcome h holding live is =
    ⊎_elim
    (λ blocked. ⊎_elim (λ no. told_stays processes limit S wanted.p wanted.n _ [] outcome h no.1)
    (λ waits. waits_stay processes limit S wanted [] outcome h holding live waits.1) blocked.1)
    (λ yes. lock_stays processes limit S wanted [] outcome h holding yes.1) is
command_stays rules processes limit S OSetLkW wanted outcome h holding live is =
    ⊎_elim (λ waits. waits_stay processes limit S wanted [] outcome h holding live waits.1)
    (λ yes. lock_stays processes limit S wanted [] outcome h holding yes.1) is

-- a lock command: what it comes to on a range, with a mode
ranged_stays : (rules : Rules) (processes limit : ℕ) (S : State) (p n fd : ℕ) (cmd : LkCmd) (lock : Lock) (look : Look) (span : Span) (mode : Mode)
    (outcome : Outcome) → AreHeld processes limit S → S.states p ≡ Live → look_at S.descriptors p fd ≡ Some look
    → resolution lock.whence lock.start lock.len look.offset look.size ≡ Ok span → ModeComesTo rules S p n cmd look span mode outcome
    → Stays processes limit S outcome
ranged_stays rules processes limit S p n fd cmd lock look span mode outcome h live opened resolved is =
    by_bool (is_get cmd || permits look.access mode) is
    (λ command. command_stays rules processes limit S cmd (wanted_lock cmd p n look span mode) outcome h
    (wanted_held S.descriptors p n fd cmd lock look span mode opened resolved) live command)
    (λ denied. told_stays processes limit S p n _ [] outcome h denied)

-- whether it unlocks or not, the state is as it should be
pub described_held : (rules : Rules) (processes limit : ℕ) (S : State) (p n fd : ℕ) (cmd : LkCmd) (lock : Lock) (look : Look) (outcome : Outcome)
    → AreHeld processes limit S → S.states p ≡ Live → look_at S.descriptors p fd ≡ Some look → DescribedComesTo rules S p n cmd lock look outcome
    → AreHeld processes limit outcome.after
described_held rules processes limit S p n fd cmd lock look outcome h live opened is =
    by_bool (is_bad_argument cmd lock) is (λ bad. (told_stays processes limit S p n _ [] outcome h bad).held)
    (λ good. if_result (resolution lock.whence lock.start lock.len look.offset look.size) _ _ (AreHeld processes limit outcome.after) good
    (λ span resolved ranged. if_option (wanted_mode lock.kind) _ _ (AreHeld processes limit outcome.after) ranged
    (λ unlocked. subst (λ (o : Outcome). AreHeld processes limit o.after) (sym unlocked) (unlocked_held processes limit S look.file (lock_owner cmd p look) span h))
    (λ mode kind wants. (ranged_stays rules processes limit S p n fd cmd lock look span mode outcome h live opened resolved wants).held))
    (λ fault no_range. (told_stays processes limit S p n _ [] outcome h no_range).held))

-- and where it asks for a lock nobody loses one
pub described_stays : (rules : Rules) (processes limit : ℕ) (S : State) (p n fd : ℕ) (cmd : LkCmd) (lock : Lock) (look : Look) (mode : Mode)
    (outcome : Outcome) → AreHeld processes limit S → S.states p ≡ Live → look_at S.descriptors p fd ≡ Some look → wanted_mode lock.kind ≡ Some mode
    → DescribedComesTo rules S p n cmd lock look outcome → Stays processes limit S outcome
described_stays rules processes limit S p n fd cmd lock look mode outcome h live opened kind is =
    by_bool (is_bad_argument cmd lock) is (λ bad. told_stays processes limit S p n _ [] outcome h bad)
    (λ good. if_result (resolution lock.whence lock.start lock.len look.offset look.size) _ _ (Stays processes limit S outcome) good
    (λ span resolved ranged.
    ranged_stays rules processes limit S p n fd cmd lock look span mode outcome h live opened resolved
    (subst (λ (found : Option Mode). MatchOption found (outcome ≡ answered (with_byte_mode S look.file (lock_owner cmd p look) span None) p n replies.Ok)
    (λ m. ModeComesTo rules S p n cmd look span m outcome)) kind ranged))
    (λ fault no_range. told_stays processes limit S p n _ [] outcome h no_range))

-- ---- flock

test_stays : (rules : Rules) (processes limit : ℕ) (S : State) (nb : Bool) (wanted : Wait) (grants : List Note) (outcome : Outcome)
    → AreHeld processes limit S → IsHolding S.descriptors wanted → S.states wanted.p ≡ Live → FlockTestComesTo rules S nb wanted grants outcome
    → Stays processes limit S outcome
test_stays rules processes limit S true wanted grants outcome h holding live is =
    ⊎_elim (λ no. told_stays processes limit S wanted.p wanted.n _ grants outcome h no.1)
    (λ yes. lock_stays processes limit S wanted grants outcome h holding yes.1) is
test_stays rules processes limit S false wanted grants outcome h holding live is =
    ⊎_elim (λ waits. waits_stay processes limit S wanted grants outcome h holding live waits.1)
    (λ yes. lock_stays processes limit S wanted grants outcome h holding yes.1) is

-- the descriptors are those before the settling
lock_same : (S : State) (wait : Wait) → (with_lock S wait).descriptors ≡ S.descriptors
lock_same S wait = grind (arith, common_steps)

settles_same : (policy : Policy) (S : State) (grants : List Note) (T : State) → Settles policy S grants T → T.descriptors ≡ S.descriptors
settles_same policy S [] T settles = ap (λ (X : State). X.descriptors) settles.1
settles_same policy S (grant ∷ grants) T (before, wait, after, next, is, rest) =
    settles_same policy (granted S before wait after) grants T rest ∙ lock_same S wait

-- who had a lock has one there still, but for the flock lock of this description on this file
pub record KeepsBut (file d : ℕ) (S T : State) : Type 0 where
  pub bytes : (f : ℕ) (owner : Owner) (byte : ℕ) → mode_in S.changes f owner byte ≢ None → mode_in T.changes f owner byte ≢ None
  pub flocks : (f e : ℕ) → ((file == f) && (d == e)) ≡ false → flock_mode_in S.flock_changes f e ≢ None → flock_mode_in T.flock_changes f e ≢ None

but_one : (file d : ℕ) (S T : State) → Keeps S T → KeepsBut file d S T
but_one file d S T keeps = record { bytes = keeps.bytes; flocks = λ f e apart some. keeps.flocks f e some }

pub but_then : (file d : ℕ) (S T U : State) → KeepsBut file d S T → Keeps T U → KeepsBut file d S U
but_then file d S T U first second = record {
  bytes = λ f o byte some. second.bytes f o byte (first.bytes f o byte some);
  flocks = λ f e apart some. second.flocks f e (first.flocks f e apart some);
}

removal_keeps : (S : State) (file d : ℕ) → KeepsBut file d S (with_flock_mode S file d None)
removal_keeps S file d = record {
  bytes = λ f o byte some. some;
  flocks = λ f e apart some none.
      some (sym (let same : (if (file == f) && (d == e) then None else flock_mode_in S.flock_changes f e) ≡ flock_mode_in S.flock_changes f e = rw apart refl in same)
      ∙ sym (flock_push None S.flock_changes (record { file = file; description = d; mode = None }) f e) ∙ none);
}

-- the outcome's state is as it should be, and but for that flock lock nobody loses one
pub record StaysBut (processes limit file d : ℕ) (S : State) (outcome : Outcome) : Type 0 where
  pub held : AreHeld processes limit outcome.after
  pub keeps : KeepsBut file d S outcome.after

pub stays_but : (processes limit file d : ℕ) (S : State) (outcome : Outcome) → Stays processes limit S outcome → StaysBut processes limit file d S outcome
stays_but processes limit file d S outcome stays = record { held = stays.held; keeps = but_one file d S outcome.after stays.keeps }

conversion_stays : (rules : Rules) (processes limit : ℕ) (S : State) (look : Look) (nb : Bool) (wanted : Wait) (outcome : Outcome) → AreStanding S
    → AreHeld processes limit S → IsHolding S.descriptors wanted → S.states wanted.p ≡ Live → ConversionComesTo rules S look nb wanted outcome
    → StaysBut processes limit look.file look.desc S outcome
conversion_stays rules processes limit S look nb wanted outcome standing h holding live (grants, settled, removes, test) =
    let U = with_flock_mode S look.file look.desc None in
    let held = unflocked_held processes limit S look.file look.desc h in
    let stands = same_stand S U standing (record { states = refl; waits = refl; alive = λ q. refl }) in
    let behind = settles_stand rules.policy U grants settled removes stands in
    let stays = test_stays rules processes limit settled nb wanted grants outcome (settles_held processes limit rules.policy U grants settled removes stands held)
    (subst (λ (D : Descriptors). IsHolding D wanted) (sym (settles_same rules.policy U grants settled removes)) holding) (behind.1 wanted.p live) test in
    record {
      held = stays.held;
      keeps = but_then look.file look.desc S settled outcome.after
          (but_then look.file look.desc S U settled (removal_keeps S look.file look.desc) (settles_keep rules.policy U grants settled removes)) stays.keeps;
    }

mode_stays : (rules : Rules) (processes limit : ℕ) (S : State) (look : Look) (nb : Bool) (wanted : Wait) (held : Option Mode) (outcome : Outcome)
    → AreStanding S → AreHeld processes limit S → IsHolding S.descriptors wanted → S.states wanted.p ≡ Live
    → FlockModeComesTo rules S look nb wanted held outcome → StaysBut processes limit look.file look.desc S outcome
mode_stays rules processes limit S look nb wanted None outcome standing h holding live is =
    stays_but processes limit look.file look.desc S outcome (test_stays rules processes limit S nb wanted [] outcome h holding live is)
mode_stays rules processes limit S look nb wanted (Some held) outcome standing h holding live is =
    by_bool (is_same_mode held wanted.mode) is
    (λ same. stays_but processes limit look.file look.desc S outcome (told_stays processes limit S wanted.p wanted.n _ [] outcome h same))
    (λ other. conversion_stays rules processes limit S look nb wanted outcome standing h holding live other)

-- a flock that asks for a lock
pub shared_stays : (rules : Rules) (processes limit : ℕ) (S : State) (p n fd : ℕ) (look : Look) (nb : Bool) (outcome : Outcome) → AreStanding S
    → AreHeld processes limit S → S.states p ≡ Live → look_at S.descriptors p fd ≡ Some look → FlockOpComesTo rules S p n look Sh nb outcome
    → StaysBut processes limit look.file look.desc S outcome
shared_stays rules processes limit S p n fd look nb outcome standing h live opened is =
    mode_stays rules processes limit S look nb (wanted_flock p n look Read) (flock_mode_in S.flock_changes look.file look.desc) outcome standing h
    (flock_wanted_held S.descriptors p n fd look Read opened) live is

pub exclusive_stays : (rules : Rules) (processes limit : ℕ) (S : State) (p n fd : ℕ) (look : Look) (nb : Bool) (outcome : Outcome) → AreStanding S
    → AreHeld processes limit S → S.states p ≡ Live → look_at S.descriptors p fd ≡ Some look → FlockOpComesTo rules S p n look Ex nb outcome
    → StaysBut processes limit look.file look.desc S outcome
exclusive_stays rules processes limit S p n fd look nb outcome standing h live opened is =
    mode_stays rules processes limit S look nb (wanted_flock p n look Write) (flock_mode_in S.flock_changes look.file look.desc) outcome standing h
    (flock_wanted_held S.descriptors p n fd look Write opened) live is

pub op_held : (rules : Rules) (processes limit : ℕ) (S : State) (p n fd : ℕ) (look : Look) (op : FlockOp) (nb : Bool) (outcome : Outcome) → AreStanding S
    → AreHeld processes limit S → S.states p ≡ Live → look_at S.descriptors p fd ≡ Some look → FlockOpComesTo rules S p n look op nb outcome
    → AreHeld processes limit outcome.after
op_held rules processes limit S p n fd look Sh nb outcome standing h live opened is =
    (shared_stays rules processes limit S p n fd look nb outcome standing h live opened is).held
op_held rules processes limit S p n fd look Ex nb outcome standing h live opened is =
    (exclusive_stays rules processes limit S p n fd look nb outcome standing h live opened is).held
op_held rules processes limit S p n fd look Un nb outcome standing h live opened is =
    subst (λ (o : Outcome). AreHeld processes limit o.after) (sym is) (unflocked_held processes limit S look.file look.desc h)
