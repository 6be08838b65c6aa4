use Rattle.call_table.proofs.Common.{arith, ◌≡◌, ◌+◌, length, sym, ap, ◌∙◌, refl, DeskView, desk_knows, tally_at}
use Rattle.std.proofs.Common.{◌-◌}
use Rattle.call_table.proofs.Serving.{answer_six, fills_none, filled_so_far, goes_on, filled_more, filled_all, published_is}
use Rattle.call_table.proofs.desk.steps.publish.Goals as goal

pub loop-at-init : goal.loop-at-init
loop-at-init c = record {
  table = refl;
  view = fills_none (desk_knows c.args.seat.now) c.args.process 0 c.spell_answer-cell.result refl c.requires.process.1;
}

pub fill-requires-clause-next : goal.fill-requires-clause-next
fill-requires-clause-next c =
    let has = c.loop-at.invariant.view in
    let number : c.args.n - 1 ≡ (tally_at (desk_knows c.args.seat.now).tallies c.args.process).published =
    omega (arith, c.requires.number) in (
      number ∙ sym (ap (λ (v : DeskView). (tally_at v.tallies c.args.process).published) has.view),
      filled_so_far (desk_knows c.args.seat.now) (desk_knows c.loop-at.seat) c.args.process c.loop-at.at
          (c.args.n, c.args.reply, c.args.place) c.spell_answer-cell.result has c.spell_answer-cell.ensures.words c.loop-at-test.true,
    )

pub fill-requires-clause-word : goal.fill-requires-clause-word
fill-requires-clause-word c =
    goes_on (desk_knows c.args.seat.now) (desk_knows c.loop-at.seat) c.args.process c.loop-at.at (c.args.n, c.args.reply, c.args.place)
    c.spell_answer-cell.result c.loop-at.invariant.view c.requires.next c.spell_answer-cell.ensures.words c.loop-at-test.true

pub loop-at-preserved : goal.loop-at-preserved
loop-at-preserved c =
    let six : length c.spell_answer-cell.result ≡ 6 = ap length c.spell_answer-cell.ensures.words
    ∙ answer_six c.args.reply c.args.place in
    record {
      table = c.fill.ensures.same ∙ c.loop-at.invariant.table;
      view = filled_more (desk_knows c.args.seat.now) (desk_knows c.loop-at.seat) (desk_knows c.fill.new.self) c.args.process
          c.loop-at.at c.spell_answer-cell.result (omega arith) c.loop-at.invariant.view c.fill.ensures.view;
    }

pub publish-requires-clause-filled : goal.publish-requires-clause-filled
publish-requires-clause-filled c =
    filled_all (desk_knows c.args.seat.now) (desk_knows c.loop-at.seat) c.args.process c.loop-at.at
    (c.args.n, c.args.reply, c.args.place) c.spell_answer-cell.result (omega arith) c.loop-at.invariant.view c.requires.next
    c.spell_answer-cell.ensures.words c.spell_answer-cell.ensures.fits

pub publish-requires-clause-count : goal.publish-requires-clause-count
publish-requires-clause-count c =
    c.requires.number
    ∙ ap (λ (v : DeskView). (tally_at v.tallies c.args.process).published + 1) (sym c.loop-at.invariant.view.view)

pub returns-clause-view : goal.returns-clause-view
returns-clause-view c =
    published_is (desk_knows c.args.seat.now) (desk_knows c.loop-at.seat) (desk_knows c.publish.new.self) c.args.process c.loop-at.at
    c.spell_answer-cell.result c.loop-at.invariant.view c.publish.ensures.view
