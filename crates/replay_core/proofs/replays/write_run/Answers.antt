use Rattle.replay_core.proofs.Common.{◌≡◌, ◌∙◌, ℕ, Option, Some, List, flat_map, ap, sym, subst, length, Err, [], ◌∷◌, ◌++◌, append-nil, append_assoc, arith, common_steps, process_limit, Request, Event, entry_line}
use Rattle.std.proofs.lemmas.Grind.{flat_map-append}
use Rattle.session_core.specs.declared.sequencer.Sequencer.{Sequencer}
use Rattle.session_core.specs.Deliveries.{HasRun}
use Rattle.script_core.specs.declared.reader.ScriptReader.{ScriptReader}
use Rattle.script_core.specs.ScriptView.{IsNext, HandsOut, rules_in}
use Rattle.replay_core.specs.Replays.{WritesRun}
use Rattle.replay_core.proofs.OutputLemmas.{sent_few}
use Rattle.replay_core.proofs.replays.write_run.Invariants.{RunsUpTo}
use Rattle.replay_core.proofs.replays.write_run.Goals as goal

-- the lines of further entries, behind those of a journal
behind : (journal more : List Event) (old mid : List ℕ) {new : List ℕ} → mid ≡ old ++ flat_map entry_line journal
    → new ≡ mid ++ flat_map entry_line more → new ≡ old ++ flat_map entry_line (journal ++ more)
behind journal more old mid was is = grind (arith, common_steps, append_assoc, flat_map-append)

-- the next arrival, where there is one
next_one : (bytes : List ℕ) (reader : ScriptReader) (next : Option (ℕ × Request)) (sequencer : Sequencer) (before after : List ℕ) (p : ℕ)
    (request : Request) → next ≡ Some (p, request) → (run : RunsUpTo bytes reader next sequencer before after)
    → IsNext bytes reader run.arrivals (p, request)
next_one bytes reader next sequencer before after p request is run = subst (HandsOut bytes reader run.arrivals) is run.hands

pub loop-next-init : goal.loop-next-init
loop-next-init c =
    let rules = c.rules-rules.result in
    let run : WritesRun rules (process_limit rules.limits) [] c.in_ok-sequencer.sequencer c.args.text.now.items c.args.text.now.items = record {
      journal = [];
      ran = subst (λ n. HasRun rules n [] c.in_ok-sequencer.sequencer []) c.processes.ensures c.in_ok-sequencer.ensures;
      written = sym (append-nil _);
    } in
    record {
      run = record {
        arrivals = [];
        run = subst (λ rules. WritesRun rules (process_limit rules.limits) [] c.in_ok-sequencer.sequencer c.args.text.now.items c.args.text.now.items) c.rules-rules.ensures run;
        hands = c.in_ok-next.ensures.next c.args.bytes.now [] c.in_ok-reader.ensures.opened;
      };
      written = c.new-told.ensures.items;
    }

pub loop-next-preserved : goal.loop-next-preserved
loop-next-preserved c =
    let so_far = c.loop-next.invariant.run in
    let run = so_far.run in
    let came = next_one _ _ _ _ _ _ _ _ c.in-Some.is so_far in
    let on = c.in-Ok.ensures.ok in
    let arrivals = so_far.arrivals ++ (c.in-Some.p, c.in-Some.request) ∷ [] in
    let rules = rules_in c.loop-next.reader in
    let more : WritesRun rules (process_limit rules.limits) arrivals c.deliver.new.self c.args.text.now.items c.write_entries.new.text.items = record {
      journal = run.journal ++ on.more;
      ran = on.runs _ _ so_far.arrivals run.journal run.ran;
      written = behind _ _ _ _ run.written (c.in_ok-write_entries-in-Ok.ensures ∙ ap (λ l. c.loop-next.text.items ++ flat_map entry_line l) (c.deref.ensures.value ∙ on.is ∙ ap (λ l. l ++ on.more) c.loop-next.invariant.written));
    } in
    record {
      run = record {
        arrivals = arrivals;
        run = subst (λ rules. WritesRun rules (process_limit rules.limits) arrivals c.deliver.new.self c.args.text.now.items c.write_entries.new.text.items) (sym (c.next_arrival-in-Some.ensures.rules c.args.bytes.now so_far.arrivals _ came.read)) more;
        hands = c.in_ok-next-2.ensures.next c.args.bytes.now arrivals came.read;
      };
      written = c.clear.ensures.items;
    }

pub deliver-requires : goal.deliver-requires
deliver-requires c =
    let so_far = c.loop-next.invariant.run in
    let came = next_one _ _ _ _ _ _ _ _ c.in-Some.is so_far in
    (came.process.0, rw so_far.run.ran.processes_are came.process.1)

-- no process of a script sends more than it may
pub unreachable-requires : goal.unreachable-requires
unreachable-requires c =
    let so_far = c.loop-next.invariant.run in
    let came = next_one _ _ _ _ _ _ _ _ c.in-Some.is so_far in
    let full = c.deliver.ensures.full (c.in-Err-Full.is ∙ ap Err c.in-Err-Full.field-0-is) so_far.run.journal so_far.run.ran.told in
    let sent = ap length (so_far.run.ran.sent c.in-Some.p) in
    let few = sent_few c.in-Some.p so_far.arrivals in
    omega (arith, full, sent, few, came.few)
