use Rattle.replay_core.proofs.Common.{ap, sym, ◌∙◌, ClientView}
use Rattle.replay_core.proofs.caller.Caller.post.Goals as goal

pub posted-requires-clause-posted : goal.posted-requires-clause-posted
posted-requires-clause-posted g c = record {
  client = c.post.new.self;
  process = ap (λ (v : ClientView). v.process) c.in-Ok.ensures.ok.0 ∙ c.args.self.now.process_is;
  count = sym c.in-Ok.ensures.ok.1;
}
