use Rattle.diagnosis.proofs.PlaceLemmas.{begins_behind, more_words}
use Rattle.diagnosis.proofs.tokens.tokens.Goals as goal

pub loop-start-preserved : goal.loop-start-preserved
loop-start-preserved c = record {
  within = c.behind_spaces-start-in-loop-start.ensures.within.1;
  begins = λ within. begins_behind c.args.bars c.args.line.now c.word_end-end.result c.behind_spaces-start-in-loop-start.result
      c.behind_spaces-start-in-loop-start.ensures.within.0 within (c.behind_spaces-start-in-loop-start.ensures.no_space within)
      c.behind_spaces-start-in-loop-start.ensures.spaces c.word_end-end.ensures.ends;
  words = more_words c.args.bars c.args.line.now c.loop-start.tokens.items c.push.new.self.items _ c.in_ok-push.ensures.items
      (c.loop-start.invariant.begins c.loop-start-test.true) c.loop-start.invariant.words;
}
