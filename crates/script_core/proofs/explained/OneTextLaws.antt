-- What explains a run, and a script, is one text.
use Rattle.script_core.proofs.Common.{arith, rules, ◌≡◌, ℕ, ◌+◌, List, [], ◌∷◌, ◌++◌, length, sym, ap, ◌∙◌, subst, common_steps, descriptor_limit, LocksHaveOneReport, Rules, State, opening_state, StepHasOneOutcome, Event, requests_sent, States, entry_line, Meaning, processes_in, IsReport, IsWithinFiles, closed_by, TellsState, Explains, ExplainsRun, untaken_lines}
use Rattle.session_core.specs.Draining.{IsDrain}
use Rattle.session_core.specs.OneDrain.{ArrivalsHaveOneDrain}
use Rattle.script_core.specs.Explaining.{RunsHaveOneExplanation, ScriptsHaveOneExplanation}
use Rattle.script_core.proofs.FilesLemmas.{opening_files, step_files}
use Rattle.script_core.proofs.OutputLaws.{one_meaning, one_report}
use Rattle.script_core.proofs.explained.CycleLaws.{TellsDeadlock-unique}
use Rattle.script_core.proofs.explained.LossLaws.{AreReleased-unique}
use Rattle.script_core.proofs.explained.ObstacleLaws.{StandsInTheWay-unique}
use Rattle.script_core.proofs.explained.StateTextLaws.{TellsState-unique}
use Rattle.script_core.proofs.explained.WaitingMoves.{AreStanding, opening_stands, step_stands}

-- what explains an event, from a state on files that there are, to one where no two waits are of one process
Explains-unique : LocksHaveOneReport → (rules : Rules) (processes : ℕ) (S : State) (event : Event) (T : State) (text other : List ℕ) → IsWithinFiles S
    → AreStanding T → Explains rules processes S event T text → Explains rules processes S event T other → text ≡ other
Explains-unique one rules processes S event T text other files standing h k =
    let released = AreReleased-unique one processes (descriptor_limit rules.limits) S (closed_by rules.limits S event.p event.request) h.released k.released
    files h.are_released k.are_released in
    let obstacle = StandsInTheWay-unique rules T event h.obstacle k.obstacle h.is_obstacle k.is_obstacle in
    let links = TellsDeadlock-unique one rules.policy T event h.links k.links standing.apart h.is_cycle k.is_cycle in
    grind (arith, common_steps)

ExplainsRun-unique : LocksHaveOneReport → StepHasOneOutcome → (states : States) (rules : Rules) (processes number : ℕ) (S : State) (events : List Event)
    (T U : State) (text other : List ℕ) → IsWithinFiles S → AreStanding S → ExplainsRun states rules processes number S events T text
    → ExplainsRun states rules processes number S events U other → text ≡ other
ExplainsRun-unique one outcome states rules processes number S [] T U text other files standing h k = h.1 ∙ sym k.1
ExplainsRun-unique one outcome states rules processes number S (event ∷ events) T U text other files standing h k =
    let between : h.0 ≡ k.0 = (outcome rules processes S event.p event.n event.request event.notes event.notes h.0 k.0 h.1 k.1).1 in
    let next_files = step_files rules processes S event.p event.n event.request event.notes k.0 k.1 files in
    let next_standing = step_stands rules processes S event.p event.n event.request event.notes k.0 standing k.1 in
    let own : h.2 ≡ k.2 = Explains-unique one rules processes S event k.0 h.2 k.2 files next_standing
    (subst (λ (X : State). Explains rules processes S event X h.2) between h.3) k.3 in
    let told : h.4 ≡ k.4 = TellsState-unique one states rules processes number S k.0 h.4 k.4
    (subst (λ (X : State). TellsState states rules processes number S X h.4) between h.5) k.5 in
    let rest : h.6 ≡ k.6 = ExplainsRun-unique one outcome states rules processes (number + 1) k.0 events T U h.6 k.6 next_files next_standing
    (subst (λ (X : State). ExplainsRun states rules processes (number + 1) X events T h.6) between h.7) k.7 in
    h.8 ∙ ap (λ (l : List ℕ). entry_line event ++ l ++ h.4 ++ h.6) own ∙ ap (λ (l : List ℕ). entry_line event ++ k.2 ++ l ++ h.6) told
    ∙ ap (λ (l : List ℕ). entry_line event ++ k.2 ++ k.4 ++ l) rest ∙ sym k.8

pub runs_have_one : LocksHaveOneReport → StepHasOneOutcome → RunsHaveOneExplanation
runs_have_one one outcome states rules processes journal S T text other h k =
    ExplainsRun-unique one outcome states rules processes 1 opening_state journal S T text other opening_files opening_stands h k

-- the texts of one script
same_text : LocksHaveOneReport → StepHasOneOutcome → (states : States) (script meaning : Meaning) (journal events : List Event) (S T : State)
    (explained other report another : List ℕ) → script ≡ meaning → journal ≡ events → S ≡ T
    → ExplainsRun states script.rules (processes_in script) 1 opening_state journal S explained
    → ExplainsRun states meaning.rules (processes_in meaning) 1 opening_state events T other → report ≡ another
    → explained ++ report ++ untaken_lines S.states journal (λ p. length (requests_sent p script.arrivals)) 1 (processes_in script)
    ≡ other ++ another ++ untaken_lines T.states events (λ p. length (requests_sent p meaning.arrivals)) 1 (processes_in meaning)
same_text one outcome states script meaning journal events S T explained other report another scripts journals ends h k reports =
    let first = subst (λ (s : Meaning). ExplainsRun states s.rules (processes_in s) 1 opening_state journal S explained) scripts h in
    let second = subst (λ (l : List Event). ExplainsRun states meaning.rules (processes_in meaning) 1 opening_state l S explained) journals first in
    let texts = runs_have_one one outcome states meaning.rules (processes_in meaning) events S T explained other second k in
    grind (arith, common_steps)

pub scripts_have_one : LocksHaveOneReport → ArrivalsHaveOneDrain → StepHasOneOutcome → ScriptsHaveOneExplanation
scripts_have_one one drain outcome states bytes text other h k =
    let scripts : h.script ≡ k.script = one_meaning bytes h.script k.script h.accepted k.accepted in
    let drained = subst (λ (s : Meaning). IsDrain s.rules (processes_in s) s.arrivals h.journal h.state) scripts h.drained in
    let same : (h.journal ≡ k.journal) × (h.state ≡ k.state) =
    drain k.script.rules (processes_in k.script) k.script.arrivals h.journal k.journal h.state k.state drained k.drained in
    let reported = subst (λ (s : Meaning). IsReport (processes_in s) h.state h.journal (λ p. length (requests_sent p s.arrivals)) h.report) scripts h.is_report in
    let reports : h.report ≡ k.report = one_report one (processes_in k.script) h.state k.state h.journal k.journal
    (λ p. length (requests_sent p k.script.arrivals)) h.report k.report same.1 same.0 reported k.is_report in
    h.is
    ∙ same_text one outcome states h.script k.script h.journal k.journal h.state k.state h.explained k.explained h.report k.report scripts same.0 same.1
    h.explains k.explains reports
    ∙ sym k.is
