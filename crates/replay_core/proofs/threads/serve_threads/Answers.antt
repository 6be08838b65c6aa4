use Rattle.replay_core.proofs.Common.{◌≡◌, ◌∙◌, sym, subst, List, map, vec_items, events_in, Caller, AreGathered, AreToldOf, started}
use Rattle.session_core.specs.declared.session.Session.{Session}
use Rattle.replay_core.specs.Callers.{AreReady}
use Rattle.replay_core.specs.Gathering.{AreAllTaken}
use Rattle.replay_core.proofs.threads.serve_threads.Goals as goal

pub gather_all-requires-clause-callers : goal.gather_all-requires-clause-callers
gather_all-requires-clause-callers g c κs within =
    let all : map started c.in_ok-served.field-0.items ≡ c.args.callers.items = c.in_ok-served.ensures.started in
    subst (AreReady c.args.hub.now) (sym all) c.requires.callers

pub returns-clause-ok : goal.returns-clause-ok
returns-clause-ok g c =
    let all : map started c.in_ok-served.field-0.items ≡ c.args.callers.items = c.in_ok-served.ensures.started in
    let report = c.gather_all.result in
    record {
      setup = c.gather_all.ensures.setup;
      holds = c.gather_all.ensures.holds;
      taken = subst (λ (s : Session). AreAllTaken s c.args.service.now.counts.items) (sym (c.gather_all.ensures.session ∙ c.close.ensures.session))
          c.in_ok-served.ensures.taken;
      gathered = subst (λ (l : List Caller). AreGathered (events_in report.session) l (map vec_items report.collected.items)) all
          c.gather_all.ensures.gathered;
      all_told = subst (λ (l : List Caller). AreToldOf (g.W.Watch.told c.args.watch.now) (events_in report.session) l) all c.gather_all.ensures.told;
    }
