use Rattle.lock_server.proofs.Common.{◌≡◌, ◌<◌, ◌∙◌, List, ap, get_or, length, subst, Pending, FilePart, JoinsEach, table_state}
use Rattle.lock_server.specs.Restoring.{JoinsBefore}
use Rattle.lock_server.proofs.ImportLemmas.{joins_next}
use Rattle.lock_server.proofs.RejoinedLemmas.{none_taken}
use Rattle.lock_server.proofs.import.parts.Parts.put_waits.Goals as goal

pub loop-i-preserved : goal.loop-i-preserved
loop-i-preserved c =
    let files = c.args.self.now.files.items in
    let part = c.file-item.result in
    let M = table_state c.loop-i.table in
    let T = table_state c.restore_waits.new.self in
    let within : c.loop-i.i < length files = subst (λ (l : List FilePart). c.loop-i.i < length l) c.deref-file-items.ensures.value c.loop-i-test.true in
    let is : part ≡ get_or files c.loop-i.i part = c.file-item.is ∙ ap (λ (l : List FilePart). get_or l c.loop-i.i part) c.deref-file-items.ensures.value in
    let here = subst (λ (l : List Pending). JoinsEach M part.number l T) c.deref.ensures.value (rw c.in_default.is at c.in_ok-place.ensures.joins) in
    record {
      joins = joins_next (table_state c.args.table.now) files c.loop-i.i part M T within c.loop-i.invariant.joins
          (subst (λ (p : FilePart). JoinsEach M p.number p.waits.items T) is here);
      swept = λ swept. c.restore_waits.ensures.swept (c.loop-i.invariant.swept swept);
    }

pub returns-in-Some-clause-again : goal.returns-in-Some-clause-again
returns-in-Some-clause-again c = λ S of once alone.
    let files = c.args.self.now.files.items in
    let part = c.file-item.result in
    let M = table_state c.loop-i.table in
    let N = table_state c.restore_waits.new.self in
    let within : c.loop-i.i < length files = subst (λ (l : List FilePart). c.loop-i.i < length l) c.deref-file-items.ensures.value c.loop-i-test.true in
    let is : part ≡ get_or files c.loop-i.i part = c.file-item.is ∙ ap (λ (l : List FilePart). get_or l c.loop-i.i part) c.deref-file-items.ensures.value in
    let stops = subst (λ (l : List Pending). JoinsBefore M part.number l c.in-Some.place N) c.deref.ensures.value (rw c.in-Some.is at c.in_ok-place.ensures.joins) in
    absurd (none_taken S files of (table_state c.args.table.now) alone once c.loop-i.i part within M c.loop-i.invariant.joins c.in-Some.place N
    (subst (λ (p : FilePart). JoinsBefore M p.number p.waits.items c.in-Some.place N) is stops))
