use Rattle.replay_core.proofs.Common.{◌≡◌, refl, ◌∙◌, ap, sym, subst, ℕ, ◌≤◌, List, [], ◌∷◌, ◌++◌, map, length, vec_len, arith, append-nil, vec_items, into_iter_items, length-map, map-append, nil_from_length, slice_get_within, Reply, Event, desk_view, Caller, AreGathered, AreToldOf, started, IsFor}
use Rattle.std.proofs.Common.{Vec, Global}
use Rattle.std.proofs.lemmas.List.Elements.{All-head, All-same, All-rest}
use Rattle.replay_core.specs.declared.threads.place.Place.{Place}
use Rattle.replay_core.specs.Gathering.{IsGathered, HasLeft}
use Rattle.replay_core.proofs.ListLemmas.{next_of, done_more}
use Rattle.replay_core.proofs.GatheringLemmas.{still_of_hub, gathered_before, gathered_more}
use Rattle.replay_core.proofs.WatchingLemmas.{watched_before, told_more}
use Rattle.replay_core.proofs.threads.gather_all.Goals as goal

pub end-caller-requires-clause-ready : goal.end-caller-requires-clause-ready
end-caller-requires-clause-ready g c κs within =
    let inv = c.loop-place.invariant in
    c.requires.callers (length inv.done) (started c.in-Some.place)
    (next_of inv.done (map started (into_iter_items c.loop-place.place-iterator)) (map started c.args.places.items)
    (started c.in-Some.place) (map started (into_iter_items c.next.new.self)) inv.all (ap (map started) c.in-Some.ensures.steps.0))

pub end-caller-requires-clause-watch : goal.end-caller-requires-clause-watch
end-caller-requires-clause-watch g c κs within =
    All-head (IsFor c.args.watch.now) c.in-Some.place (into_iter_items c.next.new.self)
    (All-same (IsFor c.args.watch.now) _ _ (sym c.in-Some.ensures.steps.0) c.loop-place.invariant.watch)

pub meet-met-requires-clause-client : goal.meet-met-requires-clause-client
meet-met-requires-clause-client g c =
    let inv = c.loop-place.invariant in
    still_of_hub c.args.hub.now (started c.in-Some.place).client c.end-caller.result.client
    (c.requires.callers (length inv.done) (started c.in-Some.place)
    (next_of inv.done (map started (into_iter_items c.loop-place.place-iterator)) (map started c.args.places.items)
    (started c.in-Some.place) (map started (into_iter_items c.next.new.self)) inv.all (ap (map started) c.in-Some.ensures.steps.0))).client
    c.end-caller.ensures.ended.same.client

pub push_reserved-requires : goal.push_reserved-requires
push_reserved-requires g c =
    let inv = c.loop-place.invariant in
    let collected = c.loop-place.collected in
    let places = c.args.places in
    let at = next_of inv.done (map started (into_iter_items c.loop-place.place-iterator)) (map started places.items)
    (started c.in-Some.place) (map started (into_iter_items c.next.new.self)) inv.all (ap (map started) c.in-Some.ensures.steps.0) in
    let below = slice_get_within (map started places.items) (length inv.done) (started c.in-Some.place) at in
    let all = length-map places.items started in
    let some = length-map collected.items vec_items in
    omega (arith, below, all, some, inv.gathered.0, inv.room, collected.ok.0, places.ok.0)

pub loop-place-init : goal.loop-place-init
loop-place-init g c = record {
  done = [];
  all = ap (map started) c.into_iter-place-iterator.ensures.into_iter_gives.0;
  room = c.requires.room;
  same = record { table = refl; setup = refl };
  session = refl;
  journal = refl;
  gathered = (
    ap (λ (l : List (Vec (ℕ × Reply × ℕ) Global)). length (map vec_items l)) c.requires.none,
    λ i caller answers none is. absurd (let below = slice_get_within [] i caller none in omega (arith, below)),
  );
  watch = All-same (IsFor c.args.watch.now) _ _ c.into_iter-place-iterator.ensures.into_iter_gives.0 c.requires.watch;
  told = λ i caller none. absurd (let below = slice_get_within [] i caller none in omega (arith, below));
}

pub loop-place-preserved : goal.loop-place-preserved
loop-place-preserved g c =
    let inv = c.loop-place.invariant in
    let caller : Caller = started c.in-Some.place in
    let J : List Event = (desk_view c.args.desk).journal in
    let answers = c.meet-met.result.1 in
    let met : IsGathered J c.end-caller.result answers.items =
    subst (λ (j : List Event). IsGathered j c.end-caller.result answers.items) inv.journal c.meet-met.ensures.gathered in
    record {
      done = inv.done ++ caller ∷ [];
      all = done_more inv.done (map started (into_iter_items c.loop-place.place-iterator)) (map started c.args.places.items)
          caller (map started (into_iter_items c.next.new.self)) inv.all (ap (map started) c.in-Some.ensures.steps.0);
      room = subst (λ (n : ℕ). vec_len c.args.places ≤ n) (sym c.push_reserved.ensures.capacity) inv.room;
      same = record {
        table = c.meet-met.ensures.same.table ∙ inv.same.table;
        setup = c.meet-met.ensures.same.setup ∙ inv.same.setup;
      };
      session = c.meet-met.ensures.session ∙ inv.session;
      journal = c.meet-met.ensures.journal ∙ inv.journal;
      gathered = subst (λ (l : List (List (ℕ × Reply × ℕ))). AreGathered J (inv.done ++ caller ∷ []) l)
          (sym (ap (map vec_items) c.push_reserved.ensures.items ∙ map-append vec_items c.loop-place.collected.items (answers ∷ [])))
          (gathered_more J inv.done caller (map vec_items c.loop-place.collected.items) answers.items inv.gathered
          (gathered_before J caller c.end-caller.result answers.items c.end-caller.ensures.ended.same met));
      watch = All-rest (IsFor c.args.watch.now) c.in-Some.place (into_iter_items c.next.new.self) _ c.in-Some.ensures.steps.0 inv.watch;
      told = told_more (g.W.Watch.told c.args.watch.now) J inv.done caller inv.told
          (watched_before (g.W.Watch.told c.args.watch.now) J caller c.end-caller.result c.end-caller.ensures.ended.same c.end-caller.ensures.told
          (subst (λ (j : List Event). HasLeft j c.end-caller.result) inv.journal c.meet-met.ensures.left));
    }

pub returns-clause-gathered : goal.returns-clause-gathered
returns-clause-gathered g c =
    let inv = c.loop-place.invariant in
    let left = c.loop-place.place-iterator in
    let none : into_iter_items left ≡ [] = nil_from_length (into_iter_items left) (omega (arith, c.in-None.ensures.steps.0, left.rest.ok.0)) in
    let all : inv.done ≡ map started c.args.places.items =
    sym (append-nil inv.done) ∙ ap (λ (l : List (Place _)). inv.done ++ map started l) (sym none) ∙ inv.all in
    subst (λ (j : List Event). AreGathered j (map started c.args.places.items) (map vec_items c.loop-place.collected.items))
    (sym (c.into_session-session.ensures.journal ∙ inv.journal))
    (subst (λ (l : List Caller). AreGathered (desk_view c.args.desk).journal l (map vec_items c.loop-place.collected.items)) all inv.gathered)

pub returns-clause-told : goal.returns-clause-told
returns-clause-told g c =
    let inv = c.loop-place.invariant in
    let left = c.loop-place.place-iterator in
    let none : into_iter_items left ≡ [] = nil_from_length (into_iter_items left) (omega (arith, c.in-None.ensures.steps.0, left.rest.ok.0)) in
    let all : inv.done ≡ map started c.args.places.items =
    sym (append-nil inv.done) ∙ ap (λ (l : List (Place _)). inv.done ++ map started l) (sym none) ∙ inv.all in
    subst (λ (j : List Event). AreToldOf (g.W.Watch.told c.args.watch.now) j (map started c.args.places.items))
    (sym (c.into_session-session.ensures.journal ∙ inv.journal))
    (subst (λ (l : List Caller). AreToldOf (g.W.Watch.told c.args.watch.now) (desk_view c.args.desk).journal l) all inv.told)
