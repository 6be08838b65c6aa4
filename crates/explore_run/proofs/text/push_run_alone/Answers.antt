use Rattle.std.proofs.Common.{rules, ◌≡◌, ◌∙◌, ◌++◌, ℕ, List, Bor, Option, Some, ap, option_map, refl, subst, sym, append_assoc}
use Rattle.std.proofs.lemmas.Result.{on_ok_weaker}
use Rattle.replay_core.specs.Checks.{header_lines}
use Rattle.explore_run.specs.Explorations.{IsRunAlone, run_in}
use Rattle.explore_run.proofs.text.push_run_alone.Goals as goal

pub returns-in_ok-push_headers-in-Some : goal.returns-in_ok-push_headers-in-Some
returns-in_ok-push_headers-in-Some c =
    let script = c.args.script.now in
    let lines = header_lines script.rules in
    let headers : c.push_headers.new.text.items ≡ c.args.text.now.items ++ lines = search rules in
    let found : Some c.in-Some.run'.now ≡ run_in c.args.explored.now c.args.finding =
    sym (ap (option_map (λ (r : Bor (List ℕ)). r.now)) c.in-Some.is) ∙ c.run_in.ensures in
    on_ok_weaker c.push_front.result
    (λ told. (
      lines ++ told.0,
      subst (λ (r : Option (List ℕ)). IsRunAlone c.args.states script c.args.finding r (lines ++ told.0)) found (told.0, told.1, refl),
      told.2 ∙ ap (λ (l : List ℕ). l ++ told.0) headers ∙ append_assoc c.args.text.now.items lines told.0,
    ))
    c.push_front.ensures
