-- Whatever a request comes to fits, one case for each request: the notes can be written, and there is no more than one for each process; for
-- `outputs_are_legal`.
use Rattle.script_core.proofs.Common.{length-append, rules, ◌≡◌, ◌≢◌, ℕ, ◌+◌, ◌^◌, ◌<◌, ◌≤◌, ◌==◌, ◌&&◌, ◌⊎◌, Bool, true, false, List, [], ◌∷◌, length, Option, Some, None, Result, Ok, Err, MatchBool, MatchOption, MatchResult, inl, ⊎_elim, refl, sym, ap, ◌∙◌, subst, arith, eq-eqb, ne_eqb, ℤ, pos, if◌then◌else◌, common_steps, cases_eq, eqb-true}
use Rattle.script_core.proofs.Common.{OFFMAX, Kind, Mode, Span, RangeFault, resolution, Owner, is_same_owner, Change, mode_from, Access, FdFault, Limits, Small, Look, Released, AreReleased, nothing, Descriptors, SameDescriptors, descriptor_limit, look_at, with_descriptor, description_limit, Wait, IsBlocked, Rules, Errno, EBADF, Lock, LkCmd, GetLk, SetLk, SetLkW, OGetLk, OSetLk, OSetLkW, FlockOp, Sh, Ex, Un, Request, OpenFile, Dup, DupTo, CloseFd, Seek, Resize, Lk, Flock, Fork, Exit, Signal, Kill, Enter, Leave, Bail, Note, Reply, ProcState, Unborn, Live, Waiting, Ended, State, locks_held, with_lock, with_byte_mode, with_flock_mode, with_process, IsSettled, Outcome, answered, answered_then, refused, waits_then, range_error, IsRefusal, with_released, OpenComesTo, DupComesTo, DupToComesTo, CloseComesTo, SeekComesTo, ResizeComesTo, is_bad_argument, wanted_mode, held_reply, lock_owner, DescribedComesTo, ModeComesTo, CommandComesTo, GetComesTo, SetComesTo, FlockOpComesTo, FlockModeComesTo, FlockTestComesTo, ForkComesTo, EndComesTo, SignalComesTo, KillOtherComesTo, without_wait, may_enter, may_leave, ComesTo, IsProcess, IsWritable, IsWritableNote, IsWritableReply}
use Rattle.std.proofs.Common.{int_lt}
use Rattle.std.proofs.lemmas.List.Sums.{length-filter, count_by-le-length}
use Rattle.std.specs.List.{AllByRecursion as Each}
use Rattle.std.proofs.lemmas.Int.{ints}
use Rattle.std.proofs.lemmas.Bool.{leb-true, ltb-false}
use Rattle.range_core.specs.Resolving.{range_between}
use Rattle.lock_book.specs.declared.Blocker.{Blocker}
use Rattle.lock_book.specs.Conflicts.{IsFirstBlocker}
use Rattle.fd_table.specs.declared.Limits.TheVariants.{Wide}
use Rattle.wait_core.specs.WaitsView.{wait_of, without_wait_of}
use Rattle.lock_manager.specs.declared.request.Reply.TheVariants as replies
use Rattle.lock_manager.specs.LockCommands.{RangeComesTo, SetOrWaitComesTo, WaitOrDeadlockComesTo}
use Rattle.lock_manager.specs.FlockCalls.{ConversionComesTo, is_same_mode}
use Rattle.script_core.proofs.FitLemmas.{IsSmallOwner, FitsChange, FitsFiles, FitsLocks, FitsWanted, FitsWait, FitsLook, AreApart, Fits, SameProcesses, each_append, each_both, apart_push, others_wait, few_processes, few_wait, same_locked, fits_same, released_locks, look_fits, same_files, moved_file, settles_fit, settles_settled, blocked_more}

-- a process of the limits, which lives, makes a request with such a number in a state that fits and is settled
pub record IsAtHand (rules : Rules) (S : State) (p n : ℕ) : Type 0 where
  pub fits : Fits rules.limits S
  pub settled : IsSettled rules.policy S
  pub live : S.states p ≡ Live
  pub process : IsProcess rules.limits p
  pub number : n < 2 ^ 64

-- the outcome fits: its notes and waits are 64 at most, or its notes are, and nothing is granted
pub record OutcomeFits (rules : Rules) (outcome : Outcome) : Type 0 where
  pub after : Fits rules.limits outcome.after
  pub told : Each (IsWritableNote rules.limits) outcome.told
  pub few : (length outcome.told + length outcome.after.waits ≤ 64) ⊎ ((length outcome.told ≤ 64) × IsSettled rules.policy outcome.after)

-- ---- answers

-- the caller is answered in a state with the same processes
answers_fit : (rules : Rules) (S T : State) (p n : ℕ) (reply : Reply) (outcome : Outcome) → IsAtHand rules S p n → SameProcesses S T
    → FitsLocks T → IsWritableReply reply → outcome ≡ answered T p n reply → OutcomeFits rules outcome
answers_fit rules S T p n reply outcome h same locks writable is =
    let few = few_wait rules.limits S p h.process h.live h.fits in
    let waits = ap length same.waits in
    subst (OutcomeFits rules) (sym is)
    (record {
      after = fits_same rules.limits S T h.fits same locks;
      told = ((h.process, h.number, writable), tt);
      few = inl (omega (arith, few, waits));
    })

pub same_all : (S : State) → SameProcesses S S
same_all S = record { states = refl; waits = refl; alive = λ p. refl }

refused_fits : (rules : Rules) (S : State) (p n : ℕ) (error : Errno) (outcome : Outcome) → IsAtHand rules S p n → outcome ≡ refused S p n error
    → OutcomeFits rules outcome
refused_fits rules S p n error outcome h is = answers_fit rules S S p n (replies.Err error) outcome h (same_all S) h.fits.locks tt is

refusal_fits : (rules : Rules) (S : State) (p n : ℕ) (fault : FdFault) (outcome : Outcome) → IsAtHand rules S p n → IsRefusal S p n fault outcome
    → OutcomeFits rules outcome
refusal_fits rules S p n fault outcome h h2 = grind (arith, common_steps, refused_fits)

-- ---- descriptors

small_descriptor : (limits : Limits) (fd : ℕ) → fd < descriptor_limit limits → fd < 2 ^ 32
small_descriptor Small fd within = omega (arith, within)
small_descriptor Wide fd within = omega (arith, within)

pub same_but : (S : State) (D : Descriptors) → ((p : ℕ) → D.ever_alive p ≡ S.descriptors.ever_alive p) → SameProcesses S (record S { descriptors = D })
same_but S D alive = record { states = refl; waits = refl; alive = alive }

-- other descriptors
with_files : (S : State) (D : Descriptors) → FitsLocks S → FitsFiles D → FitsLocks (record S { descriptors = D })
with_files S D locks files = record { changes = locks.changes; flocks = locks.flocks; files = files }

open_fits : (rules : Rules) (S : State) (p n file : ℕ) (access : Access) (outcome : Outcome) → IsAtHand rules S p n
    → OpenComesTo rules S p n file access outcome → OutcomeFits rules outcome
open_fits rules S p n file access outcome h h2 = grind (arith, common_steps, answers_fit, length-append, each_append, small_descriptor, refusal_fits)

dup_fits : (rules : Rules) (S : State) (p n fd : ℕ) (outcome : Outcome) → IsAtHand rules S p n → DupComesTo rules S p n fd outcome
    → OutcomeFits rules outcome
dup_fits rules S p n fd outcome h h2 = grind (arith, common_steps, answers_fit, same_files, small_descriptor, refusal_fits)

-- what is released leaves the processes
pub same_released : (S : State) (D : Descriptors) (p : ℕ) (released : Released) → ((q : ℕ) → D.ever_alive q ≡ S.descriptors.ever_alive q)
    → SameProcesses S (with_released S D p released)
same_released S D p released alive = record { states = refl; waits = refl; alive = alive }

pub moved_alive : (old : Descriptors) (p fd to description : ℕ) (released : Released) (new : Descriptors) (same : Bool)
    → MatchBool same ((released ≡ nothing) × SameDescriptors new old)
    (SameDescriptors new (with_descriptor old p to description) × AreReleased old new p (λ k. k == to) released)
    → (q : ℕ) → new.ever_alive q ≡ old.ever_alive q
moved_alive old p fd to description released new same is q = grind (arith, common_steps)

pub moved_descriptions : (old : Descriptors) (p fd to description : ℕ) (released : Released) (new : Descriptors) (same : Bool)
    → MatchBool same ((released ≡ nothing) × SameDescriptors new old)
    (SameDescriptors new (with_descriptor old p to description) × AreReleased old new p (λ k. k == to) released)
    → new.descriptions ≡ old.descriptions
moved_descriptions old p fd to description released new same is = grind (arith, common_steps)

dup_to_fits : (rules : Rules) (S : State) (p n fd to : ℕ) (outcome : Outcome) → IsAtHand rules S p n → DupToComesTo rules S p n fd to outcome
    → OutcomeFits rules outcome
dup_to_fits rules S p n fd to outcome h (Ok answer, D, gives, is) =
    let alive = moved_alive S.descriptors p fd to gives.0 answer.1 D (to == fd) gives.4 in
    let within : answer.0 < descriptor_limit rules.limits = subst (λ (k : ℕ). k < descriptor_limit rules.limits) (sym gives.3) gives.2 in
    answers_fit rules S (with_released S D p answer.1) p n (replies.Fd answer.0) outcome h (same_released S D p answer.1 alive)
    (released_locks S D p answer.1 (few_processes rules.limits p h.process) h.fits.locks
    (same_files S.descriptors D (moved_descriptions S.descriptors p fd to gives.0 answer.1 D (to == fd) gives.4) h.fits.locks.files)) (small_descriptor rules.limits answer.0 within) is
dup_to_fits rules S p n fd to outcome h (Err fault, D, gives, is) = refusal_fits rules S p n fault outcome h is

close_fits : (rules : Rules) (S : State) (p n fd : ℕ) (outcome : Outcome) → IsAtHand rules S p n → CloseComesTo S p n fd outcome
    → OutcomeFits rules outcome
close_fits rules S p n fd outcome h (Ok released, D, gives, is) =
    answers_fit rules S (with_released S D p released) p n replies.Ok outcome h (same_released S D p released gives.1.ever_alive)
    (released_locks S D p released (few_processes rules.limits p h.process) h.fits.locks
    (same_files S.descriptors D gives.1.descriptions h.fits.locks.files)) tt is
close_fits rules S p n fd outcome h (Err fault, D, gives, is) = refusal_fits rules S p n fault outcome h is

seek_fits : (rules : Rules) (S : State) (p n fd : ℕ) (offset : ℤ) (outcome : Outcome) → IsAtHand rules S p n → SeekComesTo S p n fd offset outcome
    → OutcomeFits rules outcome
seek_fits rules S p n fd offset outcome h h2 = grind (arith, common_steps, answers_fit, same_but, with_files, moved_file, refusal_fits)

resize_fits : (rules : Rules) (S : State) (p n fd : ℕ) (size : ℤ) (outcome : Outcome) → IsAtHand rules S p n → ResizeComesTo S p n fd size outcome
    → OutcomeFits rules outcome
resize_fits rules S p n fd size outcome h h2 = grind (arith, common_steps, answers_fit, same_files, refusal_fits)

-- ---- waits

-- the caller waits, behind these grants, where the waits before are blocked and it too
waits_fit : (rules : Rules) (S U : State) (wait : Wait) (grants : List Note) (outcome : Outcome) → IsAtHand rules S wait.p wait.n
    → Fits rules.limits U → IsSettled rules.policy U → U.states wait.p ≡ Live → Each (IsWritableNote rules.limits) grants → length grants ≤ 63
    → FitsWanted wait → IsBlocked rules.policy (locks_held U) U.waits wait → outcome ≡ waits_then U wait grants
    → OutcomeFits rules outcome
waits_fit rules S U wait grants outcome h fits settled live told few fit blocked is =
    grind (arith, common_steps, others_wait, each_append, each_both, eq-eqb, apart_push, cases_eq, blocked_more)

-- the caller's lock is set, behind these grants
locked_fits : (rules : Rules) (S U : State) (wait : Wait) (grants : List Note) (outcome : Outcome) → IsAtHand rules S wait.p wait.n
    → Fits rules.limits U → Each (IsWritableNote rules.limits) grants → length grants + length U.waits ≤ 63
    → FitsWanted wait → outcome ≡ answered_then (with_lock U wait) wait.p wait.n replies.Ok grants
    → OutcomeFits rules outcome
locked_fits rules S U wait grants outcome h fits told few fit is = grind (arith, common_steps, same_locked, fits_same, each_append)

-- ---- lock commands

-- no byte lies past the largest offset
abbrev pub IsWithin : Span → Type 0
IsWithin span = (span.first ≤ OFFMAX) × (span.last ≤ OFFMAX)

-- a mode that is held was set by a change, whose owner and bytes fit
same_owner : (one other : Owner) → is_same_owner one other ≡ true → IsSmallOwner one → IsSmallOwner other
same_owner one other h h2 = grind (arith, common_steps, eqb-true)

pub both_true : (a b : Bool) → a && b ≡ true → (a ≡ true) × (b ≡ true)
both_true a b h = grind (arith, common_steps)

pub mode_fits : (changes : List Change) (before : Option Mode) (file : ℕ) (owner : Owner) (byte : ℕ) (mode : Mode) → Each FitsChange changes
    → mode_from before changes file owner byte ≡ Some mode → (before ≡ Some mode → IsSmallOwner owner × (byte ≤ OFFMAX))
    → IsSmallOwner owner × (byte ≤ OFFMAX)
mode_fits [] before file owner byte mode fits is start = start is
mode_fits (change ∷ changes) before file owner byte mode fits is start = grind (arith, common_steps, both_true, leb-true, same_owner, mode_fits changes)

held_fits : (S : State) (wanted : Wait) (blocker : Blocker) → Each FitsChange S.changes
    → IsFirstBlocker ((locks_held S).bytes wanted.file) wanted.owner wanted.span wanted.mode blocker → IsWritableReply (held_reply blocker)
held_fits S wanted blocker changes is = grind (arith, common_steps, mode_fits)

get_fits : (rules : Rules) (S : State) (wanted : Wait) (outcome : Outcome) → IsAtHand rules S wanted.p wanted.n → GetComesTo S wanted outcome
    → OutcomeFits rules outcome
get_fits rules S wanted outcome h is =
    ⊎_elim
    (λ held. answers_fit rules S S wanted.p wanted.n (held_reply held.1.0) outcome h (same_all S) h.fits.locks
    (held_fits S wanted held.1.0 h.fits.locks.changes held.1.1) held.1.2)
    (λ free. answers_fit rules S S wanted.p wanted.n replies.Free outcome h (same_all S) h.fits.locks tt free.1) is

lock_fits : (rules : Rules) (S : State) (wanted : Wait) (outcome : Outcome) → IsAtHand rules S wanted.p wanted.n → FitsWanted wanted
    → outcome ≡ answered (with_lock S wanted) wanted.p wanted.n replies.Ok → OutcomeFits rules outcome
lock_fits rules S wanted outcome h fit is =
    let few = few_wait rules.limits S wanted.p h.process h.live h.fits in
    locked_fits rules S S wanted [] outcome h h.fits tt (omega (arith, few)) fit is

set_fits : (rules : Rules) (S : State) (wanted : Wait) (outcome : Outcome) → IsAtHand rules S wanted.p wanted.n → FitsWanted wanted
    → SetComesTo S wanted outcome → OutcomeFits rules outcome
set_fits rules S wanted outcome h fit is =
    ⊎_elim (λ no. refused_fits rules S wanted.p wanted.n _ outcome h no.1) (λ yes. lock_fits rules S wanted outcome h fit yes.1) is

joins_fit : (rules : Rules) (S : State) (wanted : Wait) (outcome : Outcome) → IsAtHand rules S wanted.p wanted.n → FitsWanted wanted
    → IsBlocked rules.policy (locks_held S) S.waits wanted → outcome ≡ waits_then S wanted [] → OutcomeFits rules outcome
joins_fit rules S wanted outcome h fit blocked is =
    waits_fit rules S S wanted [] outcome h h.fits h.settled h.live tt (omega arith) fit blocked is

set_or_wait_fits : (rules : Rules) (S : State) (wanted : Wait) (outcome : Outcome) → IsAtHand rules S wanted.p wanted.n → FitsWanted wanted
    → SetOrWaitComesTo rules S wanted outcome → OutcomeFits rules outcome
set_or_wait_fits rules S wanted outcome h fit is =
    ⊎_elim (λ waits. joins_fit rules S wanted outcome h fit waits.0 waits.1) (λ yes. lock_fits rules S wanted outcome h fit yes.1) is

wait_or_deadlock_fits : (rules : Rules) (S : State) (wanted : Wait) (outcome : Outcome) → IsAtHand rules S wanted.p wanted.n
    → FitsWanted wanted → WaitOrDeadlockComesTo rules S wanted outcome → OutcomeFits rules outcome
wait_or_deadlock_fits rules S wanted outcome h fit is =
    ⊎_elim
    (λ blocked. ⊎_elim (λ no. refused_fits rules S wanted.p wanted.n _ outcome h no.1)
    (λ waits. joins_fit rules S wanted outcome h fit blocked.0 waits.1) blocked.1)
    (λ yes. lock_fits rules S wanted outcome h fit yes.1) is

command_fits : (rules : Rules) (S : State) (cmd : LkCmd) (wanted : Wait) (outcome : Outcome) → IsAtHand rules S wanted.p wanted.n
    → FitsWanted wanted → CommandComesTo rules S cmd wanted outcome → OutcomeFits rules outcome
command_fits rules S GetLk wanted outcome h fit is = get_fits rules S wanted outcome h is
command_fits rules S OGetLk wanted outcome h fit is = get_fits rules S wanted outcome h is
command_fits rules S SetLk wanted outcome h fit is = set_fits rules S wanted outcome h fit is
command_fits rules S OSetLk wanted outcome h fit is = set_fits rules S wanted outcome h fit is
command_fits rules S SetLkW wanted outcome h fit is = wait_or_deadlock_fits rules S wanted outcome h fit is
command_fits rules S OSetLkW wanted outcome h fit is = set_or_wait_fits rules S wanted outcome h fit is

owner_fits : (cmd : LkCmd) (p : ℕ) (look : Look) → p ≤ 64 → FitsLook look → IsSmallOwner (lock_owner cmd p look)
owner_fits cmd p look few fit = grind (arith, common_steps)

pub by_bool : {Yes No R : Type 0} (b : Bool) → MatchBool b Yes No → (Yes → R) → (No → R) → R
by_bool b is hit miss = grind (arith, common_steps)

mode_comes_fit : (rules : Rules) (S : State) (p n : ℕ) (cmd : LkCmd) (look : Look) (span : Span) (mode : Mode) (outcome : Outcome) → IsAtHand rules S p n
    → FitsLook look → IsWithin span → ModeComesTo rules S p n cmd look span mode outcome → OutcomeFits rules outcome
mode_comes_fit rules S p n cmd look span mode outcome h fit within is =
    grind (arith, common_steps, by_bool, command_fits, owner_fits, few_processes, refused_fits)

range_fits : (rules : Rules) (S : State) (p n : ℕ) (cmd : LkCmd) (kind : Kind) (look : Look) (span : Span) (wanted : Option Mode) (outcome : Outcome)
    → IsAtHand rules S p n → FitsLook look → IsWithin span
    → MatchOption wanted (outcome ≡ answered (with_byte_mode S look.file (lock_owner cmd p look) span None) p n replies.Ok)
    (λ mode. ModeComesTo rules S p n cmd look span mode outcome) → OutcomeFits rules outcome
range_fits rules S p n cmd kind look span None outcome h fit within is =
    answers_fit rules S (with_byte_mode S look.file (lock_owner cmd p look) span None) p n replies.Ok outcome h
    (record { states = refl; waits = refl; alive = λ q. refl })
    (record {
      changes = each_append FitsChange S.changes _ h.fits.locks.changes (record { owner = owner_fits cmd p look (few_processes rules.limits p h.process) fit; last = within.1 }, tt);
      flocks = h.fits.locks.flocks;
      files = h.fits.locks.files;
    }) tt is
range_fits rules S p n cmd kind look span (Some mode) outcome h fit within is = mode_comes_fit rules S p n cmd look span mode outcome h fit within is

-- ---- a range lies within files

not_negative : (z : ℤ) → int_lt z (pos 0) ≡ false → (n : ℕ) × (z ≡ pos n)
not_negative z is = grind (arith, common_steps)

within_file : (n : ℕ) → int_lt (pos OFFMAX) (pos n) ≡ false → n ≤ OFFMAX
within_file n is = ltb-false OFFMAX n is

between : (first last : ℤ) (span : Span) (low high far : Bool) → int_lt first (pos 0) ≡ low → int_lt (pos OFFMAX) first ≡ high → int_lt (pos OFFMAX) last ≡ far
    → (int_lt first (pos 0) ≡ false → (n : ℕ) × (last ≡ pos n)) → range_between first last ≡ Ok span → IsWithin span
between first last span low high far h h2 h3 h4 h5 = grind (arith, common_steps, within_file)

pub resolved_within : (lock : Lock) (look : Look) (span : Span) → resolution lock.whence lock.start lock.len look.offset look.size ≡ Ok span → IsWithin span
resolved_within lock look span is = grind (arith, common_steps, between, not_negative, ints)

described_fits : (rules : Rules) (S : State) (p n : ℕ) (cmd : LkCmd) (lock : Lock) (look : Look) (outcome : Outcome) → IsAtHand rules S p n
    → FitsLook look → DescribedComesTo rules S p n cmd lock look outcome → OutcomeFits rules outcome
described_fits rules S p n cmd lock look outcome h fit is =
    by_bool (is_bad_argument cmd lock) is (λ bad. refused_fits rules S p n _ outcome h bad)
    (λ good. ranged (resolution lock.whence lock.start lock.len look.offset look.size) refl good)
  where
    ranged : (range : Result Span RangeFault) → resolution lock.whence lock.start lock.len look.offset look.size ≡ range
        → MatchResult range (λ span. RangeComesTo rules S p n cmd lock.kind look span outcome) (λ fault. outcome ≡ refused S p n (range_error fault))
        → OutcomeFits rules outcome
    ranged (Ok span) at is = range_fits rules S p n cmd lock.kind look span (wanted_mode lock.kind) outcome h fit (resolved_within lock look span at) is
    ranged (Err fault) at is = refused_fits rules S p n (range_error fault) outcome h is

lock_comes_fit : (rules : Rules) (S : State) (p n fd : ℕ) (cmd : LkCmd) (lock : Lock) (look : Option Look) (outcome : Outcome) → IsAtHand rules S p n
    → look_at S.descriptors p fd ≡ look
    → MatchOption look (outcome ≡ refused S p n EBADF) (λ look. DescribedComesTo rules S p n cmd lock look outcome) → OutcomeFits rules outcome
lock_comes_fit rules S p n fd cmd lock None outcome h at is = refused_fits rules S p n EBADF outcome h is
lock_comes_fit rules S p n fd cmd lock (Some look) outcome h at is =
    described_fits rules S p n cmd lock look outcome h (look_fits S.descriptors (S.descriptors.description_of p fd) look h.fits.locks.files at) is

-- ---- flock

-- with another flock mode of a description that may have been made
flock_locks : (S : State) (file description : ℕ) (mode : Option Mode) → description ≤ description_limit → FitsLocks S
    → FitsLocks (with_flock_mode S file description mode)
flock_locks S file description mode small locks = grind (arith, common_steps, each_append)

same_flock : (S : State) (file description : ℕ) (mode : Option Mode) → SameProcesses S (with_flock_mode S file description mode)
same_flock S file description mode = record { states = refl; waits = refl; alive = λ p. refl }

-- the test of a request behind these grants, in a state that fits, where the caller lives and no more wait than it leaves
test_fits : (rules : Rules) (S U : State) (nb : Bool) (wanted : Wait) (grants : List Note) (outcome : Outcome) → IsAtHand rules S wanted.p wanted.n
    → Fits rules.limits U → IsSettled rules.policy U → U.states wanted.p ≡ Live → Each (IsWritableNote rules.limits) grants
    → length grants + length U.waits ≤ 63 → FitsWanted wanted
    → FlockTestComesTo rules U nb wanted grants outcome → OutcomeFits rules outcome
test_fits rules S U true wanted grants outcome h fits settled live told few fit is = grind (arith, common_steps, locked_fits)
test_fits rules S U false wanted grants outcome h fits settled live told few fit is =
    ⊎_elim
    (λ waits. waits_fit rules S U wanted grants outcome h fits settled live told (omega (arith, few)) fit waits.0 waits.1)
    (λ yes. locked_fits rules S U wanted grants outcome h fits told few fit yes.1) is

at_once_fits : (rules : Rules) (S : State) (nb : Bool) (wanted : Wait) (outcome : Outcome) → IsAtHand rules S wanted.p wanted.n
    → FitsWanted wanted → FlockTestComesTo rules S nb wanted [] outcome → OutcomeFits rules outcome
at_once_fits rules S nb wanted outcome h fit is =
    let few = few_wait rules.limits S wanted.p h.process h.live h.fits in
    test_fits rules S S nb wanted [] outcome h h.fits h.settled h.live tt (omega (arith, few)) fit is

conversion_fits : (rules : Rules) (S : State) (look : Look) (nb : Bool) (wanted : Wait) (outcome : Outcome) → IsAtHand rules S wanted.p wanted.n
    → FitsLook look → FitsWanted wanted → ConversionComesTo rules S look nb wanted outcome → OutcomeFits rules outcome
conversion_fits rules S look nb wanted outcome h look_fit fit (grants, settled, removes, test) =
    let U = with_flock_mode S look.file look.desc None in
    let fits = fits_same rules.limits S U h.fits (same_flock S look.file look.desc None) (flock_locks S look.file look.desc None look_fit.1 h.fits.locks) in
    let all = settles_fit rules.limits rules.policy U grants settled fits removes in
    let few = few_wait rules.limits S wanted.p h.process h.live h.fits in
    let count = all.count in
    test_fits rules S settled nb wanted grants outcome h all.after (settles_settled rules.policy U grants settled removes) (all.live wanted.p h.live)
    all.told (omega (arith, few, count)) fit test

flock_mode_fits : (rules : Rules) (S : State) (look : Look) (nb : Bool) (wanted : Wait) (held : Option Mode) (outcome : Outcome)
    → IsAtHand rules S wanted.p wanted.n → FitsLook look → FitsWanted wanted
    → FlockModeComesTo rules S look nb wanted held outcome → OutcomeFits rules outcome
flock_mode_fits rules S look nb wanted None outcome h look_fit fit is = at_once_fits rules S nb wanted outcome h fit is
flock_mode_fits rules S look nb wanted (Some held) outcome h look_fit fit is =
    by_bool (is_same_mode held wanted.mode) is
    (λ same. answers_fit rules S S wanted.p wanted.n replies.Ok outcome h (same_all S) h.fits.locks tt same)
    (λ other. conversion_fits rules S look nb wanted outcome h look_fit fit other)

flock_op_fits : (rules : Rules) (S : State) (p n : ℕ) (look : Look) (op : FlockOp) (nb : Bool) (outcome : Outcome) → IsAtHand rules S p n
    → FitsLook look → FlockOpComesTo rules S p n look op nb outcome → OutcomeFits rules outcome
flock_op_fits rules S p n look Un nb outcome h fit is =
    answers_fit rules S (with_flock_mode S look.file look.desc None) p n replies.Ok outcome h (same_flock S look.file look.desc None)
    (flock_locks S look.file look.desc None fit.1 h.fits.locks) tt is
flock_op_fits rules S p n look Sh nb outcome h fit is = grind (arith, common_steps, flock_mode_fits)
flock_op_fits rules S p n look Ex nb outcome h fit is = grind (arith, common_steps, flock_mode_fits)

flock_fits : (rules : Rules) (S : State) (p n fd : ℕ) (op : FlockOp) (nb : Bool) (look : Option Look) (outcome : Outcome) → IsAtHand rules S p n
    → look_at S.descriptors p fd ≡ look
    → MatchOption look (outcome ≡ refused S p n EBADF) (λ look. FlockOpComesTo rules S p n look op nb outcome) → OutcomeFits rules outcome
flock_fits rules S p n fd op nb look outcome h h2 h3 = grind (arith, common_steps, refused_fits, flock_op_fits, look_fits)

-- ---- processes

-- a process that is born lives, and no wait was of it
fork_fits : (rules : Rules) (processes : ℕ) (S : State) (p n child : ℕ) (outcome : Outcome) → IsAtHand rules S p n
    → ForkComesTo processes S p n child outcome → OutcomeFits rules outcome
fork_fits rules processes S p n child outcome h h2 = grind (arith, common_steps, others_wait, few_wait, same_files, each_both, eq-eqb, cases_eq, refusal_fits)

-- the waits of all others
pub each_other : (P : Wait → Type 0) (waits : List Wait) (p : ℕ) → Each P waits → Each P (without_wait_of waits p)
each_other P [] p all = tt
each_other P (wait ∷ waits) p all = grind (arith, common_steps, each_other P waits)

pub others_left : (waits : List Wait) (p : ℕ) → Each (λ wait. wait.p ≢ p) (without_wait_of waits p)
others_left [] p = tt
others_left (wait ∷ waits) p = grind (arith, common_steps, eq-eqb, cases_eq, others_left waits)

pub apart_left : (waits : List Wait) (p : ℕ) → AreApart waits → AreApart (without_wait_of waits p)
apart_left [] p apart = tt
apart_left (wait ∷ waits) p apart = grind (arith, common_steps, each_other, apart_left waits)

pub fewer_left : (waits : List Wait) (p : ℕ) → length (without_wait_of waits p) ≤ length waits
fewer_left waits p = grind (arith, common_steps, length-filter, count_by-le-length)

-- the wait that a process has is one of them, and leaves one fewer
record IsWaitOf (P : Wait → Type 0) (waits : List Wait) (p : ℕ) (wait : Wait) : Type 0 where
  own : P wait
  process : wait.p ≡ p
  fewer : length (without_wait_of waits p) + 1 ≤ length waits

wait_found : (P : Wait → Type 0) (waits : List Wait) (p : ℕ) (wait : Wait) → Each P waits → wait_of waits p ≡ Some wait → IsWaitOf P waits p wait
wait_found P [] p wait all is = absurd cc
wait_found P (first ∷ waits) p wait all is = ⊎_elim
    (λ same.
    let rest = fewer_left waits p in
    let found : Some first ≡ Some wait = rw (eq-eqb first.p p same) at is in
    let this : first ≡ wait = cc in
    record {
      own = subst P this all.0;
      process = ap (λ (w : Wait). w.p) (sym this) ∙ same;
      fewer = rw (eq-eqb first.p p same) (omega (arith, rest));
    })
    (λ differs.
    let later : wait_of waits p ≡ Some wait = rw (ne_eqb first.p p differs) at is in
    let at = wait_found P waits p wait all.1 later in
    let fewer = at.fewer in
    record { own = at.own; process = at.process; fewer = rw (ne_eqb first.p p differs) (omega (arith, fewer)) })
    (cases_eq first.p p)

-- without its wait a process stands otherwise, and was alive
left_fits : (limits : Limits) (S T : State) (p : ℕ) (state : ProcState) → Fits limits S → S.states p ≢ Unborn
    → T.states ≡ (λ q. if q == p then state else S.states q) → T.waits ≡ without_wait_of S.waits p
    → ((q : ℕ) → T.descriptors.ever_alive q ≡ S.descriptors.ever_alive q) → FitsLocks T → Fits limits T
left_fits limits S T p state fits there states waits alive locks =
    grind (arith, common_steps, each_both, others_left, each_other, apart_left, cases_eq)

-- a process ends, and this was told: of that and of the others' waits there are 64 at most
end_fits : (rules : Rules) (S : State) (p : ℕ) (told : List Note) (outcome : Outcome) → Fits rules.limits S → S.states p ≢ Unborn → p ≤ 64
    → Each (IsWritableNote rules.limits) told → length told + length S.waits ≤ 64 → EndComesTo S p told outcome → OutcomeFits rules outcome
end_fits rules S p told outcome fits there small writable few (released, D, gives, is) =
    let T = with_process (with_released (without_wait S p) D p released) p Ended in
    let locks = released_locks S D p released small fits.locks (same_files S.descriptors D gives.0.descriptions fits.locks.files) in
    let ended : FitsLocks T = record { changes = locks.changes; flocks = locks.flocks; files = locks.files } in
    let fewer = fewer_left S.waits p in
    subst (OutcomeFits rules) (sym is)
    (record {
      after = left_fits rules.limits S T p Ended fits there refl refl gives.0.ever_alive ended;
      told = writable;
      few = inl (omega (arith, few, fewer));
    })

-- who was alive is one of the limits' processes: the target is one that a line may have
kill_fits : (rules : Rules) (S : State) (p n target : ℕ) (state : ProcState) (outcome : Outcome) → IsAtHand rules S p n → target ≤ 64
    → S.states target ≡ state → KillOtherComesTo S p n target state outcome → OutcomeFits rules outcome
kill_fits rules S p n target Unborn outcome h small at is = refused_fits rules S p n _ outcome h is
kill_fits rules S p n target Ended outcome h small at is = refused_fits rules S p n _ outcome h is
kill_fits rules S p n target Live outcome h small at is =
    let few = few_wait rules.limits S p h.process h.live h.fits in
    end_fits rules S target _ outcome h.fits (λ e. let bad : Live ≡ Unborn = sym at ∙ e in cc) small ((h.process, h.number, tt), tt) (omega (arith, few)) is
kill_fits rules S p n target Waiting outcome h small at is =
    let few = few_wait rules.limits S p h.process h.live h.fits in
    end_fits rules S target _ outcome h.fits (λ e. let bad : Waiting ≡ Unborn = sym at ∙ e in cc) small ((h.process, h.number, tt), tt) (omega (arith, few)) is

exit_fits : (rules : Rules) (S : State) (p n : ℕ) (outcome : Outcome) → IsAtHand rules S p n → EndComesTo S p [] outcome → OutcomeFits rules outcome
exit_fits rules S p n outcome h is =
    let few = few_wait rules.limits S p h.process h.live h.fits in
    end_fits rules S p [] outcome h.fits (λ e. let bad : Live ≡ Unborn = sym h.live ∙ e in cc) (few_processes rules.limits p h.process) tt (omega (arith, few)) is

-- the caller is answered, and nothing else
done_fits : (rules : Rules) (S : State) (p n : ℕ) (outcome : Outcome) → IsAtHand rules S p n → outcome ≡ answered S p n replies.Ok → OutcomeFits rules outcome
done_fits rules S p n outcome h is = answers_fit rules S S p n replies.Ok outcome h (same_all S) h.fits.locks tt is

signal_fits : (rules : Rules) (S : State) (p n target : ℕ) (state : ProcState) (outcome : Outcome) → IsAtHand rules S p n
    → S.states target ≡ state → SignalComesTo S p n target state outcome → OutcomeFits rules outcome
signal_fits rules S p n target Unborn outcome h at is = refused_fits rules S p n _ outcome h is
signal_fits rules S p n target Ended outcome h at is = refused_fits rules S p n _ outcome h is
signal_fits rules S p n target Live outcome h at is = done_fits rules S p n outcome h is
signal_fits rules S p n target Waiting outcome h at (wait, found, is) =
    let few = few_wait rules.limits S p h.process h.live h.fits in
    let own = wait_found (FitsWait rules.limits S.states) S.waits target wait h.fits.waits found in
    let fewer = own.fewer in
    let T = with_process (without_wait S target) target Live in
    subst (OutcomeFits rules) (sym is)
    (record {
      after = left_fits rules.limits S T target Live h.fits (λ e. let bad : Waiting ≡ Unborn = sym at ∙ e in cc) refl refl (λ q. refl)
          (record { changes = h.fits.locks.changes; flocks = h.fits.locks.flocks; files = h.fits.locks.files });
      told = ((h.process, h.number, tt), ((subst (IsProcess rules.limits) own.process own.own.process, own.own.number, tt), tt));
      few = inl (omega (arith, few, fewer));
    })

-- ---- each request

pub request_fits : (rules : Rules) (processes : ℕ) (S : State) (p n : ℕ) (request : Request) (outcome : Outcome) → IsAtHand rules S p n
    → IsWritable rules.limits request → ComesTo rules processes S p n request outcome → OutcomeFits rules outcome
request_fits rules processes S p n (OpenFile file access) outcome h writable is = open_fits rules S p n file access outcome h is
request_fits rules processes S p n (Dup fd) outcome h writable is = dup_fits rules S p n fd outcome h is
request_fits rules processes S p n (DupTo fd to) outcome h writable is = dup_to_fits rules S p n fd to outcome h is
request_fits rules processes S p n (CloseFd fd) outcome h writable is = close_fits rules S p n fd outcome h is
request_fits rules processes S p n (Seek fd offset) outcome h writable is = seek_fits rules S p n fd offset outcome h is
request_fits rules processes S p n (Resize fd size) outcome h writable is = resize_fits rules S p n fd size outcome h is
request_fits rules processes S p n (Lk fd cmd lock) outcome h writable is = lock_comes_fit rules S p n fd cmd lock (look_at S.descriptors p fd) outcome h refl is
request_fits rules processes S p n (Flock fd op nb) outcome h writable is = flock_fits rules S p n fd op nb (look_at S.descriptors p fd) outcome h refl is
request_fits rules processes S p n (Fork child) outcome h writable is = fork_fits rules processes S p n child outcome h is
request_fits rules processes S p n Exit outcome h writable is = exit_fits rules S p n outcome h is
request_fits rules processes S p n (Signal target) outcome h writable is = signal_fits rules S p n target (S.states target) outcome h refl is
request_fits rules processes S p n (Kill target) outcome h writable is =
    by_bool (target == p) is (λ own. exit_fits rules S p n outcome h own)
    (λ other. kill_fits rules S p n target (S.states target) outcome h (few_processes rules.limits target writable) refl other)
request_fits rules processes S p n (Enter section visit) outcome h writable is =
    by_bool (may_enter S.visits p section) is (λ done. done_fits rules S p n outcome h done) (λ no. refused_fits rules S p n _ outcome h no)
request_fits rules processes S p n (Leave section) outcome h writable is =
    by_bool (may_leave S.visits p section) is (λ done. done_fits rules S p n outcome h done) (λ no. refused_fits rules S p n _ outcome h no)
request_fits rules processes S p n Bail outcome h writable is =
    by_bool (S.refused p) is (λ ends. exit_fits rules S p n outcome h ends) (λ goes_on. done_fits rules S p n outcome h goes_on)
