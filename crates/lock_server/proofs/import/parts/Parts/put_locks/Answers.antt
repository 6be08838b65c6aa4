use Rattle.lock_server.proofs.Common.{◌≡◌, ◌<◌, ◌∙◌, List, ap, get_or, length, map, subst, FlockLock, Lock, FilePart, SetsOnFile, SetsEach, flock_lock_request, lock_request, table_state}
use Rattle.lock_server.specs.Restoring.{SetsBefore}
use Rattle.lock_server.proofs.ImportLemmas.{sets_next}
use Rattle.lock_server.proofs.RestoredLemmas.{flock_held, lock_held}
use Rattle.lock_server.proofs.import.parts.Parts.put_locks.Goals as goal

pub returns-in_err-place-2-clause-swept : goal.returns-in_err-place-2-clause-swept
returns-in_err-place-2-clause-swept c = λ swept. c.restore_flocks.ensures.swept (c.restore_locks.ensures.swept (c.loop-i.invariant.swept swept))

pub returns-in-Some-2-clause-swept : goal.returns-in-Some-2-clause-swept
returns-in-Some-2-clause-swept c = λ swept. c.restore_flocks.ensures.swept (c.restore_locks.ensures.swept (c.loop-i.invariant.swept swept))

pub loop-i-preserved : goal.loop-i-preserved
loop-i-preserved c =
    let files = c.args.self.now.files.items in
    let part = c.file-item.result in
    let M = table_state c.loop-i.table in
    let B = table_state c.restore_locks.new.self in
    let T = table_state c.restore_flocks.new.self in
    let within : c.loop-i.i < length files = subst (λ (l : List FilePart). c.loop-i.i < length l) c.deref-file-items.ensures.value c.loop-i-test.true in
    let is : part ≡ get_or files c.loop-i.i part = c.file-item.is ∙ ap (λ (l : List FilePart). get_or l c.loop-i.i part) c.deref-file-items.ensures.value in
    let locks = subst (λ (l : List Lock). SetsEach M part.number (map lock_request l) B) c.deref.ensures.value (rw c.in_default.is at c.in_ok-place.ensures.sets) in
    let flocks = subst (λ (l : List FlockLock). SetsEach B part.number (map flock_lock_request l) T) c.deref-in-loop-i.ensures.value
    (rw c.in_default-2.is at c.in_ok-place-2.ensures.sets) in
    let here : SetsOnFile M part T = record { between = B; locks = locks; flocks = flocks } in
    record {
      sets = sets_next (table_state c.args.table.now) files c.loop-i.i part M T within c.loop-i.invariant.sets (subst (λ (p : FilePart). SetsOnFile M p T) is here);
      swept = λ swept. c.restore_flocks.ensures.swept (c.restore_locks.ensures.swept (c.loop-i.invariant.swept swept));
    }

pub returns-in-Some-clause-again : goal.returns-in-Some-clause-again
returns-in-Some-clause-again c = λ S of compatible opened.
    let files = c.args.self.now.files.items in
    let part = c.file-item.result in
    let M = table_state c.loop-i.table in
    let N = table_state c.restore_locks.new.self in
    let within : c.loop-i.i < length files = subst (λ (l : List FilePart). c.loop-i.i < length l) c.deref-file-items.ensures.value c.loop-i-test.true in
    let is : part ≡ get_or files c.loop-i.i part = c.file-item.is ∙ ap (λ (l : List FilePart). get_or l c.loop-i.i part) c.deref-file-items.ensures.value in
    let stops = subst (λ (l : List Lock). SetsBefore lock_request M part.number l c.in-Some.place N) c.deref.ensures.value
    (rw c.in-Some.is at c.in_ok-place.ensures.sets) in
    absurd (lock_held S files of compatible (table_state c.args.table.now) opened c.loop-i.i part within M c.loop-i.invariant.sets c.in-Some.place N
    (subst (λ (p : FilePart). SetsBefore lock_request M p.number p.locks.items c.in-Some.place N) is stops))

pub returns-in-Some-2-clause-again : goal.returns-in-Some-2-clause-again
returns-in-Some-2-clause-again c = λ S of compatible opened.
    let files = c.args.self.now.files.items in
    let part = c.file-item.result in
    let M = table_state c.loop-i.table in
    let B = table_state c.restore_locks.new.self in
    let N = table_state c.restore_flocks.new.self in
    let within : c.loop-i.i < length files = subst (λ (l : List FilePart). c.loop-i.i < length l) c.deref-file-items.ensures.value c.loop-i-test.true in
    let is : part ≡ get_or files c.loop-i.i part = c.file-item.is ∙ ap (λ (l : List FilePart). get_or l c.loop-i.i part) c.deref-file-items.ensures.value in
    let locks = subst (λ (l : List Lock). SetsEach M part.number (map lock_request l) B) c.deref.ensures.value (rw c.in_default.is at c.in_ok-place.ensures.sets) in
    let stops = subst (λ (l : List FlockLock). SetsBefore flock_lock_request B part.number l c.in-Some-2.place N) c.deref-in-loop-i.ensures.value
    (rw c.in-Some-2.is at c.in_ok-place-2.ensures.sets) in
    absurd (flock_held S files of compatible (table_state c.args.table.now) opened c.loop-i.i part within M c.loop-i.invariant.sets B
    (subst (λ (p : FilePart). SetsEach M p.number (map lock_request p.locks.items) B) is locks) c.in-Some-2.place N
    (subst (λ (p : FilePart). SetsBefore flock_lock_request B p.number p.flocks.items c.in-Some-2.place N) is stops))
