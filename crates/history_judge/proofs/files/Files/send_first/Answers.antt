use Rattle.history_judge.proofs.Common.{rules, ◌∙◌, refl, sym}
use Rattle.history_core.specs.Moments.{Sent}
use Rattle.history_judge.proofs.FilesLemmas.{counted_inserted, counted_same, exceeds_first, exceeds_full, fresh_free, on_err, puts_inserted, stays_same, takes_first}
use Rattle.history_judge.proofs.files.Files.send_first.Goals as goal

pub returns-then-room-eq0-clause-limit : goal.returns-then-room-eq0-clause-limit
returns-then-room-eq0-clause-limit c told =
    exceeds_full c.args.self.now c.args.file c.args.limit c.requires.free (sym c.room_beside-room.ensures ∙ c.if-room-eq0.true)

pub send-requires : goal.send-requires
send-requires c = fresh_free c.args.self.now.runs c.in_ok-history.history c.args.request.id c.in_ok-history.ensures.knows

pub returns-in_err-send-clause-limit : goal.returns-in_err-send-clause-limit
returns-in_err-send-clause-limit c told =
    exceeds_first c.args.self.now c.args.file c.in_ok-history.history c.args.limit c.room_beside-room.result c.requires.free c.in_ok-history.ensures.knows
    c.room_beside-room.ensures (c.in_err-send.ensures.limit (search rules))

pub invariant_of-self : goal.invariant_of-self
invariant_of-self c = record { counted = counted_same c.args.self.now c.put_file.new.files c.in_err-put_file.ensures.err }

pub returns-in_err-put_file-clause-err : goal.returns-in_err-put_file-clause-err
returns-in_err-put_file-clause-err c =
    on_err c.from_residual-in_err-put_file.result (stays_same c.args.self.now _ refl refl c.in_err-put_file.ensures.err)

pub invariant_of-self-2 : goal.invariant_of-self-2
invariant_of-self-2 c = record {
  counted = counted_inserted c.args.self.now c.put_file.new.files c.args.file c.count.result c.send.new.self c.in_ok-put_file.ensures.ordered c.requires.free
      c.in_ok-put_file.ensures.ok c.count.ensures;
}

pub returns-clause-ok : goal.returns-clause-ok
returns-clause-ok c =
    takes_first c.args.self.now _ c.args.file (Sent c.args.request) c.in_ok-history.history c.send.new.self
    (puts_inserted c.args.self.now _ c.args.file c.send.new.self c.in_ok-put_file.ensures.ok refl refl) c.requires.free c.in_ok-history.ensures.knows c.in_ok-send.ensures.ok
    (λ keeps. c.in_ok-send.ensures.order ∙ c.in_ok-history.ensures.keeps keeps)
