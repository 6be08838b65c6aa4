use Rattle.script_core.proofs.Common.{common_steps, ◌≡◌, length, take, arith, ap, texts}
use Rattle.script_core.proofs.WordLemmas.{reached_byte, reached_space, reached_end}
use Rattle.script_core.proofs.words.first_words.Goals.{then-bytes-at-eq32, else-bytes-at-eq32}
use Rattle.script_core.proofs.words.first_words.Goals as goal

pub range-requires-clause-start_boundary : goal.range-requires-clause-start_boundary
range-requires-clause-start_boundary c = c.loop-at.invariant.0.cut

pub range_from-requires : goal.range_from-requires
range_from-requires c = c.loop-at.invariant.0.cut

pub loop-at-preserved : goal.loop-at-preserved
loop-at-preserved c = grind (arith, common_steps, then-bytes-at-eq32, reached_space, else-bytes-at-eq32, reached_byte)

pub returns : goal.returns
returns c =
    let line = c.args.line.now in
    let long : length c.as_bytes-bytes.result.now ≡ length line = ap length c.as_bytes-bytes.ensures.value in
    let all : c.loop-at.at ≡ length line = omega (arith, long, c.loop-at-test.false, c.loop-at.auto.at-end) in
    reached_end line (texts (take c.loop-at.count c.loop-at.room)) (texts (take c.put_word-count-2.result c.put_word-count-2.new.words)) c.loop-at.start c.loop-at.at all c.loop-at.invariant.0
    (rw c.range_from.ensures.value at c.put_word-count-2.ensures.put)
