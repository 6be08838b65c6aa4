-- What is known of the callers, one after another and all together: for `gather_all`, `make_callers` and `replay_threads`.
use Rattle.replay_core.proofs.Common.{common_steps, ◌≡◌, inl, inr, ℕ, zero, suc, ◌+◌, ◌-◌, ◌<◌, List, [], ◌∷◌, ◌++◌, Some, length, map, refl, sym, ap, ◌∙◌, subst, arith, length-append, slice_get, vec_items, length-map, slice_get_within}
use Rattle.replay_core.proofs.Common.{state_at, processes_of, Reply, Request, Rules, Event, IsRun, IsPrefixOf, requests_taken, requests_sent, answers_to, manager_of, events_in, Client, ClientView, Meaning, AreCounts, processes_in, Caller, SameCaller, AreOf, AreGathered}
use Rattle.std.proofs.Common.{option_map}
use Rattle.std.proofs.lemmas.Option.{get_or_from_slice_get, slice_get-map}
use Rattle.std.proofs.Math.Logic.{∥∥₁_map}
use Rattle.lock_manager.specs.ManagerView.{rules_of}
use Rattle.lock_manager.specs.declared.request.ProcState.TheVariants.{Live}
use Rattle.session_core.specs.Mail.{events_of}
use Rattle.session_core.specs.Headline.{Holds}
use Rattle.session_core.specs.SessionView.{sent_of}
use Rattle.call_table.specs.Shown.{hub_setup, IsClientOf, SameClient}
use Rattle.call_table.specs.declared.hub.Hub.{Hub}
use Rattle.table_steps.specs.declared.setup.Setup.{Setup}
use Rattle.call_table.specs.declared.desk.Desk.{Desk}
use Rattle.call_table.specs.Desks.{IsOpened}
use Rattle.script_core.specs.ScriptText.{IsProcess}
use Rattle.replay_core.specs.declared.threads.ThreadReport.{ThreadReport}
use Rattle.replay_core.specs.Callers.{AreReady, AreNew, IsOf}
use Rattle.replay_core.specs.Gathering.{IsGathered}
use Rattle.replay_core.specs.Interleaving.{IsThreadReport}
use Rattle.replay_core.specs.Rooms.{IsServed}
use Rattle.replay_core.proofs.CollectingLemmas.{front_is_all}
use Rattle.replay_core.proofs.ListLemmas.{item_of_grown}

-- the same client is of the same hub
pub still_of_hub : (hub : Hub) (old new : Client) → IsClientOf hub old → SameClient old new → IsClientOf hub new
still_of_hub hub old new of same = record { table = same.table ∙ of.table; setup = same.setup ∙ of.setup }

-- the callers of a hub just opened are ready
pub are_ready : (setup : Setup) (hub : Hub) (clients : List Client) (desk : Desk) (callers : List Caller) → IsOpened setup hub clients desk
    → map (λ (caller : Caller). caller.client) callers ≡ clients → AreReady hub callers
are_ready setup hub clients desk callers opened same = λ i caller here.
    let of = opened.client_of_hub i caller.client
    (ap (λ (l : List Client). slice_get l i) (sym same) ∙ slice_get-map (λ (x : Caller). x.client) callers i
    ∙ ap (option_map (λ (x : Caller). x.client)) here) in
    record { client = of.0; unposted = ap (λ (v : ClientView). v.posted) of.1 }

-- and its clients did nothing yet
pub are_new : (setup : Setup) (hub : Hub) (clients : List Client) (desk : Desk) → IsOpened setup hub clients desk → AreNew clients
are_new setup hub clients desk opened = λ i client here. (setup, (opened.client_of_hub i client here).1)

-- one more caller, of the next process
pub of_more : (arrivals : List (ℕ × Request)) (callers : List Caller) (caller : Caller) → AreOf arrivals callers
    → IsOf arrivals (length callers + 1) caller → AreOf arrivals (callers ++ caller ∷ [])
of_more arrivals callers caller each one = grind (arith, common_steps, item_of_grown)

-- what is gathered of a caller at its end is so of it before
pub gathered_before : (journal : List Event) (old new : Caller) (answers : List (ℕ × Reply × ℕ)) → SameCaller old new
    → IsGathered journal new answers → IsGathered journal old answers
gathered_before journal old new answers same gathered = grind (arith, common_steps)

-- one more caller and its answers
pub gathered_more : (journal : List Event) (done : List Caller) (caller : Caller) (collected : List (List (ℕ × Reply × ℕ)))
    (answers : List (ℕ × Reply × ℕ)) → AreGathered journal done collected → IsGathered journal caller answers
    → AreGathered journal (done ++ caller ∷ []) (collected ++ answers ∷ [])
gathered_more journal done caller collected answers before one = (
  length-append collected (answers ∷ []) ∙ ap (λ (n : ℕ). n + 1) before.0 ∙ sym (length-append done (caller ∷ [])),
  λ i c a here there. elim (item_of_grown done caller c i here) [
    | inl old ↦ elim (item_of_grown collected answers a i there) [
      | inl found ↦ before.1 i c a old found
      | inr last ↦ let below = slice_get_within done i c old in absurd (omega (arith, below, last.0, before.0))
    ]
    | inr new ↦ elim (item_of_grown collected answers a i there) [
      | inl found ↦ let below = slice_get_within collected i a found in absurd (omega (arith, below, new.0, before.0))
      | inr last ↦ subst (λ (x : Caller). IsGathered journal x a) (sym new.1)
          (subst (λ (l : List (ℕ × Reply × ℕ)). IsGathered journal caller l) (sym last.1) one)
    ]
  ],
)

-- an item of a list
pub some_at : {X : Type 0} (xs : List X) (i : ℕ) → i < length xs → (x : X) × (slice_get xs i ≡ Some x)
some_at [] i below = absurd (omega (arith, below))
some_at (x ∷ xs) zero below = (x, refl)
some_at (x ∷ xs) (suc i) below = some_at xs i (omega (arith, below))

-- what is gathered of the process
gathered_of : (journal : List Event) (arrivals : List (ℕ × Request)) (callers : List Caller) (collected : List (List (ℕ × Reply × ℕ)))
    → AreOf arrivals callers → AreGathered journal callers collected → (i : ℕ) (answers : List (ℕ × Reply × ℕ))
    → slice_get collected i ≡ Some answers
    → IsPrefixOf (requests_taken (i + 1) journal) (requests_sent (i + 1) arrivals) × (answers ≡ answers_to (i + 1) journal)
gathered_of journal arrivals callers collected each gathered i answers here =
    let below = slice_get_within collected i answers here in
    let caller = some_at callers i (omega (arith, below, gathered.0)) in
    let of = each i caller.0 caller.1 in
    let found = gathered.1 i caller.0 answers caller.1 here in (
      subst (λ (p : ℕ). IsPrefixOf (requests_taken p journal) (requests_sent (i + 1) arrivals)) of.process
          (subst (λ (l : List Request). IsPrefixOf (requests_taken caller.0.process journal) l) of.requests found.taken_in_order),
      found.all_answers ∙ ap (λ (p : ℕ). answers_to p journal) of.process,
    )

-- of each process so much is known
pub reports : (told : ℕ → ℕ → Type 0) (script : Meaning) (hub : Hub) (callers : List Caller) (counts : List ℕ) (report : ThreadReport)
    → (hub_setup hub).rules ≡ script.rules → (hub_setup hub).processes ≡ processes_in script
    → length callers ≡ processes_in script → AreOf script.arrivals callers
    → length counts ≡ processes_in script → AreCounts counts (λ p. length (requests_sent p script.arrivals))
    → IsServed told hub callers counts report → IsThreadReport script report
reports told script hub callers counts report rules processes all each one_each sent served =
    let journal = events_in report.session in
    let manager = manager_of report.session in
    let collected = map vec_items report.collected.items in
    let rules_are : rules_of manager ≡ script.rules = served.setup.rules_are ∙ rules in
    let processes_are : processes_of manager ≡ processes_in script = served.setup.processes_are ∙ processes in
    let count : length collected ≡ processes_in script = served.gathered.0 ∙ all in
    let taken : (p : ℕ) → IsProcess script.rules.limits p → IsPrefixOf (requests_taken p journal) (requests_sent p script.arrivals) =
    λ p range.
    let answers = some_at collected (p - 1) (omega (arith, range.0, range.1, count)) in
    subst (λ (q : ℕ). IsPrefixOf (requests_taken q journal) (requests_sent q script.arrivals)) (omega (arith, range.0))
    (gathered_of journal script.arrivals callers collected each served.gathered (p - 1) answers.0 answers.1).0 in
    let lengths : (p : ℕ) → IsProcess script.rules.limits p → state_at manager p ≡ Live
    → length (requests_taken p journal) ≡ length (requests_sent p script.arrivals) =
    λ p range live.
    let here = some_at counts (p - 1) (omega (arith, range.0, range.1, one_each)) in
    let is : (p - 1) + 1 ≡ p = omega (arith, range.0) in
    let told = served.taken (p - 1) here.0 here.1 (subst (λ (q : ℕ). state_at manager q ≡ Live) (sym is) live) in
    length-map (events_of p journal) (λ event. event.request)
    ∙ ap (λ (q : ℕ). length (events_of q journal)) (sym is) ∙ told
    ∙ sym (get_or_from_slice_get counts (p - 1) here.0 0 here.1) ∙ sent p range.0 (omega (arith, range.1, one_each)) in
    record {
      interleaves = ∥∥₁_map served.holds (λ (h : Holds manager (sent_of report.session) journal). (
        h.replayed.state,
        record {
          run = subst (λ (r : Rules). IsRun r (processes_in script) journal h.replayed.state) rules_are
              (subst (λ (n : ℕ). IsRun (rules_of manager) n journal h.replayed.state) processes_are h.replayed.run);
          taken_in_order = taken;
          all_taken = λ p range live. front_is_all (requests_taken p journal) (requests_sent p script.arrivals) (taken p range)
              (lengths p range (h.replayed.stands.states p ∙ live));
        },
        h.replayed.stands,
      ));
      processes = processes_are;
      collected = (count, λ i answers here. (gathered_of journal script.arrivals callers collected each served.gathered i answers here).1);
    }
