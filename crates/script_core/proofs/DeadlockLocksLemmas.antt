-- The report of the locks and the list of waits tell who waits for whom: for `write_explained`, clause `ok`.
use Rattle.script_core.proofs.Common.{rules, ℕ, zero, suc, ◌≡◌, ◌+◌, ◌<◌, ◌≤◌, inl, inr, Option, Some, None, List, [], ◌∷◌, ◌++◌, All, Any, length, get_or, take, drop, refl, sym, ap, subst, ◌∙◌, arith, IsFalse, common_steps, drop-cons, take-append_seam, cases_lt, take-append-drop, All-append, get_or_from_slice_get, slice_get-get_or, slice_get_within}
use Rattle.script_core.proofs.Common.{Mode, Covers, Held, Owner, Process, ByteModes, FlockModes, IsFileReport, AreFileReports, IsHeldReport, Policy, Wait, Locks, Link, Wanted, IsLockAgainst, LeadsInReport, IsCycle, TellsCycleIfAny}
use Rattle.std.proofs.Math.Seq.{get_or-append_seam}
use Rattle.std.proofs.lemmas.List.{get_or_append_left, get_or-append-add, length-append}
use Rattle.range_core.specs.Ranges.{Conflict, HeldConflicts}
use Rattle.lock_book.specs.Conflicts.{ProcessBlocks}
use Rattle.wait_core.specs.Cycles.{IsBlockedByProcess, IsChain, WaitsFor, ClosesCycle}
use Rattle.script_core.specs.Deadlocks.{IsBlockedInReport, WaitsInReport, TellsCycle}

-- a line of a byte lock says what its owner has on each byte that it covers
abbrev SaysLock : (ℕ → ByteModes) → Held → Type 0
SaysLock bytes line = IsFalse line.whole → (byte : ℕ) → Covers line.span byte → bytes line.file line.owner byte ≡ Some line.mode

file_says : (file : ℕ) (bytes : ℕ → ByteModes) (flocks : FlockModes) (report : List Held) → IsFileReport file (bytes file) flocks report
    → All (SaysLock bytes) report
file_says file bytes flocks report h = grind (arith, common_steps, All-append)

lines_say : (file more : ℕ) (bytes : ℕ → ByteModes) (flocks : ℕ → FlockModes) (report : List Held) → AreFileReports file more bytes flocks report
    → All (SaysLock bytes) report
lines_say file zero bytes flocks report h = λ k line within. absurd (let none = ap length h in omega (arith, within))
lines_say file (suc more) bytes flocks report h =
    subst (All (SaysLock bytes)) (sym h.2)
    (All-append (SaysLock bytes) h.0 h.1 (file_says file bytes (flocks file) h.0 h.3) (lines_say (file + 1) more bytes flocks h.1 h.4))

-- the line says the lock of this owner there
abbrev SaysIt : ℕ → Owner → ℕ → Mode → Held → Type 0
SaysIt file owner byte mode line = IsFalse line.whole × (line.file ≡ file) × (line.owner ≡ owner) × (line.mode ≡ mode) × Covers line.span byte

pub any_left : (P : Held → Type 0) (xs ys : List Held) → Any P xs → Any P (xs ++ ys)
any_left P xs ys (k, x, within, is, holds) = (k, x, (let more = length-append xs ys in omega arith), get_or_append_left xs ys x k within ∙ is, holds)

pub any_right : (P : Held → Type 0) (xs ys : List Held) → Any P ys → Any P (xs ++ ys)
any_right P xs ys (k, x, within, is, holds) = (length xs + k, x, (let more = length-append xs ys in omega arith), get_or-append-add xs ys k x ∙ is, holds)

file_has : (file : ℕ) (bytes : ByteModes) (flocks : FlockModes) (report : List Held) (owner : Owner) (byte : ℕ) (mode : Mode)
    → IsFileReport file bytes flocks report → bytes owner byte ≡ Some mode → Any (SaysIt file owner byte mode) report
file_has file bytes flocks report owner byte mode h is = grind (arith, common_steps, any_left)

lines_have : (file more : ℕ) (bytes : ℕ → ByteModes) (flocks : ℕ → FlockModes) (report : List Held) (f : ℕ) (owner : Owner) (byte : ℕ) (mode : Mode)
    → AreFileReports file more bytes flocks report → file ≤ f → f < file + more → bytes f owner byte ≡ Some mode → Any (SaysIt f owner byte mode) report
lines_have file zero bytes flocks report f owner byte mode h from below is = absurd (omega (arith, from, below))
lines_have file (suc more) bytes flocks report f owner byte mode h from below is = elim (cases_lt file f) [
  | inl later ↦
      let next : file + 1 ≤ f = omega arith in
      let last : f < file + 1 + more = omega arith in
      subst (Any (SaysIt f owner byte mode)) (sym h.2)
      (any_right (SaysIt f owner byte mode) h.0 h.1 (lines_have (file + 1) more bytes flocks h.1 f owner byte mode h.4 next last is))
  | inr upto ↦
      let here : file ≡ f = omega arith in
      let own : IsFileReport f (bytes f) (flocks f) h.0 = subst (λ (n : ℕ). IsFileReport n (bytes n) (flocks n) h.0) here h.3 in
      subst (Any (SaysIt f owner byte mode)) (sym h.2)
      (any_left (SaysIt f owner byte mode) h.0 h.1 (file_has f (bytes f) (flocks f) h.0 owner byte mode own is))
]

-- what the report says is held
report_says : (bytes : ℕ → ByteModes) (flocks : ℕ → FlockModes) (report : List Held) → IsHeldReport bytes flocks report → All (SaysLock bytes) report
unfolding IsHeldReport
report_says bytes flocks report h = lines_say 0 64 bytes flocks report h

-- and what is held it says
pub report_has : (bytes : ℕ → ByteModes) (flocks : ℕ → FlockModes) (report : List Held) (file : ℕ) (owner : Owner) (byte : ℕ) (mode : Mode)
    → IsHeldReport bytes flocks report
    → file < 64 → bytes file owner byte ≡ Some mode → Any (SaysIt file owner byte mode) report
unfolding IsHeldReport
report_has bytes flocks report file owner byte mode h few is = lines_have 0 64 bytes flocks report file owner byte mode h (omega arith) (omega arith) is

-- a line against the wait says a lock that blocks it
line_blocks : (bytes : ℕ → ByteModes) (flocks : ℕ → FlockModes) (report : List Held) (wait : Wait) (q : ℕ) → IsHeldReport bytes flocks report
    → Any (IsLockAgainst q wait) report → ProcessBlocks (bytes wait.file) q wait.owner wait.span wait.mode
line_blocks bytes flocks report wait q h (k, line, within, is, against) =
    let says : SaysLock bytes line = subst (SaysLock bytes) is (report_says bytes flocks report h k line within) in
    let held = says against.of_bytes against.byte against.in_lock in
    let there : bytes wait.file (Process q) against.byte ≡ Some line.mode =
    ap (λ (f : ℕ). bytes f (Process q) against.byte) (sym against.file) ∙ ap (λ (o : Owner). bytes line.file o against.byte) (sym against.owner) ∙ held in
    record {
      byte = against.byte;
      covered = against.in_wait;
      blocks = record {
        another = λ own. against.another (against.owner ∙ own);
        conflicts = subst (λ (m : Option Mode). HeldConflicts m wait.mode) (sym there) against.conflicts;
      };
    }

-- and a lock that blocks it is said by one
block_told : (bytes : ℕ → ByteModes) (flocks : ℕ → FlockModes) (report : List Held) (wait : Wait) (q : ℕ) → IsHeldReport bytes flocks report → wait.file < 64
    → ProcessBlocks (bytes wait.file) q wait.owner wait.span wait.mode → Any (IsLockAgainst q wait) report
block_told bytes flocks report wait q h few b = by_mode (bytes wait.file (Process q) b.byte) refl b.blocks.conflicts
  where
    by_mode : (m : Option Mode) → bytes wait.file (Process q) b.byte ≡ m → HeldConflicts m wait.mode → Any (IsLockAgainst q wait) report
    by_mode None is conflicts = absurd conflicts
    by_mode (Some mode) is conflicts =
        let found = report_has bytes flocks report wait.file (Process q) b.byte mode h few is in (
          found.0,
          found.1,
          found.2,
          found.3,
          record {
            of_bytes = found.4.0;
            file = found.4.1;
            owner = found.4.2;
            another = λ own. b.blocks.another (sym found.4.2 ∙ own);
            byte = b.byte;
            in_lock = found.4.4;
            in_wait = b.covered;
            conflicts = subst (λ (m : Mode). Conflict m wait.mode) (sym found.4.3) conflicts;
          },
        )

-- the locks are those of the report
pub record AreReported (locks : Locks) (report : List Held) : Type 0 where
  pub is : IsHeldReport locks.bytes locks.flocks report

blocked_in_state : (policy : Policy) (locks : Locks) (report : List Held) (earlier : List Wait) (wait : Wait) (q : ℕ) → AreReported locks report
    → IsBlockedInReport policy report earlier wait q → IsBlockedByProcess policy locks earlier wait q
blocked_in_state policy locks report earlier wait q h h2 = grind (arith, common_steps, line_blocks)

blocked_in_report : (policy : Policy) (locks : Locks) (report : List Held) (earlier : List Wait) (wait : Wait) (q : ℕ) → AreReported locks report
    → wait.file < 64
    → IsBlockedByProcess policy locks earlier wait q → IsBlockedInReport policy report earlier wait q
blocked_in_report policy locks report earlier wait q h h2 h3 = grind (arith, common_steps, block_told)

waits_in_state : (policy : Policy) (locks : Locks) (report : List Held) (waits : List Wait) (p q : ℕ) → AreReported locks report
    → WaitsInReport policy report waits p q → WaitsFor policy locks waits p q
waits_in_state policy locks report waits p q told (place, b) =
    let within = slice_get_within waits place b.wait b.at in record {
      before = take place waits;
      wait = b.wait;
      after = drop (suc place) waits;
      place = sym (take-append-drop place waits)
          ∙ ap (λ (l : List Wait). take place waits ++ l) (drop-cons waits place b.wait within ∙ ap (λ (x : Wait). x ∷ drop (suc place) waits) (get_or_from_slice_get waits place b.wait b.wait b.at));
      detected = b.traditional;
      of_one = b.of_p;
      blocked = blocked_in_state policy locks report (take place waits) b.wait q told b.blocked;
    }

waits_in_report : (policy : Policy) (locks : Locks) (report : List Held) (waits : List Wait) (p q : ℕ) → AreReported locks report
    → All (λ wait. wait.file < 64) waits
    → WaitsFor policy locks waits p q → WaitsInReport policy report waits p q
waits_in_report policy locks report waits p q told few for =
    let sum = length-append for.before (for.wait ∷ for.after) in
    let whole = ap length for.place in
    let within : length for.before < length waits = omega arith in
    let here : get_or waits (length for.before) for.wait ≡ for.wait =
    ap (λ (l : List Wait). get_or l (length for.before) for.wait) for.place ∙ get_or-append_seam for.before for.wait for.after for.wait in
    let low : for.wait.file < 64 = subst (λ (x : Wait). x.file < 64) here (few (length for.before) for.wait within) in
    let front : take (length for.before) waits ≡ for.before = ap (take (length for.before)) for.place ∙ take-append_seam for.before (for.wait ∷ for.after) in (
      length for.before,
      record {
        wait = for.wait;
        at = slice_get-get_or waits (length for.before) for.wait within ∙ ap (λ (x : Wait). Some x) here;
        of_p = for.of_one;
        traditional = for.detected;
        blocked = grind (arith, common_steps, blocked_in_report);
      },
    )

chain_of : (R S : ℕ → ℕ → Type 0) → ((p q : ℕ) → R p q → S p q) → (p : ℕ) (through : List ℕ) (a : ℕ) → IsChain R p through a → IsChain S p through a
chain_of R S each p [] a step = each p a step
chain_of R S each p (next ∷ through) a chain = (each p next chain.0, chain_of R S each next through a chain.1)

-- a cycle of the state is one of the report
cycle_in_report : (policy : Policy) (locks : Locks) (report : List Held) (waits : List Wait) (wait : Wait) (blocker : ℕ) (through : List ℕ)
    → AreReported locks report
    → wait.file < 64 → All (λ v. v.file < 64) waits
    → IsCycle (IsBlockedByProcess policy locks waits wait) (WaitsFor policy locks waits) wait.p blocker through
    → IsCycle (LeadsInReport policy report waits (Wanted wait)) (WaitsInReport policy report waits) wait.p blocker through
cycle_in_report policy locks report waits wait blocker through told low few cycle = search (rules, blocked_in_report, chain_of, waits_in_report)

-- what is told of the report is told of the state
pub told_of_state : (policy : Policy) (locks : Locks) (report : List Held) (waits : List Wait) (wait : Wait) (links : List Link) → AreReported locks report
    → wait.file < 64 → All (λ v. v.file < 64) waits
    → TellsCycle policy report waits wait (LeadsInReport policy report waits (Wanted wait)) (WaitsInReport policy report waits) links
    → TellsCycle policy report waits wait (IsBlockedByProcess policy locks waits wait) (WaitsFor policy locks waits) links
told_of_state policy locks report waits wait links told low few h = record {
  blocker = h.blocker;
  through = h.through;
  closes = (
    blocked_in_state policy locks report waits wait h.blocker told h.closes.0,
    chain_of (WaitsInReport policy report waits) (WaitsFor policy locks waits) (λ p q. waits_in_state policy locks report waits p q told) h.blocker h.through wait.p h.closes.1,
  );
  shortest = λ other by cycle. h.shortest other by (cycle_in_report policy locks report waits wait other by told low few cycle);
  least = λ other by cycle. h.least other by (cycle_in_report policy locks report waits wait other by told low few cycle);
  told = h.told;
}

-- where the report has no cycle the wait closes none
pub none_of_state : (policy : Policy) (locks : Locks) (report : List Held) (waits : List Wait) (wait : Wait) → AreReported locks report
    → wait.file < 64 → All (λ v. v.file < 64) waits → TellsCycleIfAny policy report waits wait [] → ¬ ClosesCycle policy locks waits wait
none_of_state policy locks report waits wait told low few none closes =
    none closes.blocker closes.led.0
    (cycle_in_report policy locks report waits wait closes.blocker closes.led.0 told low few (closes.blocked, closes.led.1))
