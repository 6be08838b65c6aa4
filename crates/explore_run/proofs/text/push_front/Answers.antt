use Rattle.std.proofs.Common.{◌∙◌, ◌++◌, ℕ, List, [], Bool, refl, sym, ap, subst, append_assoc, append-nil}
use Rattle.std.proofs.lemmas.Result.{on_ok_weaker}
use Rattle.explore_run.specs.Explorations.{IsBehindEvents}
use Rattle.explore_run.proofs.TextLemmas.{front_of, front_told}
use Rattle.explore_run.proofs.text.push_front.Goals as goal

pub push_events-requires : goal.push_events-requires
push_events-requires c =
    let least = c.requires.run in
    let front = front_of c.args.script.now c.args.finding least.journal least.shows in
    (least.journal, front.0, front.1, c.in_ok-session.ensures least.journal front.0 front.1 least.in_turn)

pub returns-then-is_of_end : goal.returns-then-is_of_end
returns-then-is_of_end c =
    let script = c.args.script.now in
    let least = c.requires.run in
    let front = front_of script c.args.finding least.journal least.shows in
    let replayed = c.in_ok-session.ensures least.journal front.0 front.1 least.in_turn in
    let more = c.in_ok-push_events.ensures least.journal front.0 front.1 replayed in
    on_ok_weaker c.push_end.result
    (λ told.
    let end = told least.journal front.0 replayed in (
      more.0 ++ end.0,
      front_told c.args.states script c.args.finding c.args.run.now more.0 end.0 least front.0 front.1 more.1
          (subst (λ (b : Bool). IsBehindEvents b script least.journal front.0 end.0) (sym c.if-is_of_end.true ∙ c.is_of_end.ensures) end.1),
      end.2 ∙ ap (λ (l : List ℕ). l ++ end.0) more.2 ∙ append_assoc c.args.text.now.items more.0 end.0,
    ))
    c.push_end.ensures

pub returns : goal.returns
returns c =
    let script = c.args.script.now in
    let least = c.requires.run in
    let front = front_of script c.args.finding least.journal least.shows in
    let replayed = c.in_ok-session.ensures least.journal front.0 front.1 least.in_turn in
    let more = c.in_ok-push_events.ensures least.journal front.0 front.1 replayed in (
      more.0 ++ [],
      front_told c.args.states script c.args.finding c.args.run.now more.0 [] least front.0 front.1 more.1
          (subst (λ (b : Bool). IsBehindEvents b script least.journal front.0 []) (sym c.if-is_of_end.false ∙ c.is_of_end.ensures) refl),
      more.2 ∙ ap (λ (l : List ℕ). c.args.text.now.items ++ l) (sym (append-nil more.0)),
    )
