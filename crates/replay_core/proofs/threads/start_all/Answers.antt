use Rattle.replay_core.proofs.Common.{◌≡◌, ◌∙◌, ap, sym, subst, ℕ, ◌≤◌, List, [], ◌∷◌, ◌++◌, map, length, vec_len, map-append, into_iter_items, Caller, started, IsFor}
use Rattle.std.proofs.lemmas.List.Elements.{All-push, All-same}
use Rattle.replay_core.specs.declared.threads.place.Place.{Place}
use Rattle.replay_core.proofs.ListLemmas.{next_of, done_more}
use Rattle.replay_core.proofs.threads.start_all.Goals as goal

pub start-requires-after_bounds : goal.start-requires-after_bounds
start-requires-after_bounds g c κs within =
    let done = map started c.loop-caller.places.items in
    c.requires.callers (length done) c.in-Some.caller
    (next_of done (into_iter_items c.loop-caller.caller-iterator) c.args.callers.items c.in-Some.caller
    (into_iter_items c.next.new.self) c.loop-caller.invariant.all c.in-Some.ensures.steps.0)

pub loop-caller-preserved : goal.loop-caller-preserved
loop-caller-preserved g c =
    let inv = c.loop-caller.invariant in
    let places = c.loop-caller.places.items in
    let place = c.in_ok-place.place in
    let rest = into_iter_items c.loop-caller.caller-iterator in
    let behind = into_iter_items c.next.new.self in
    let items : c.push_reserved.new.self.items ≡ places ++ place ∷ [] = c.push_reserved.ensures.items in
    let here : rest ≡ started place ∷ behind =
    c.in-Some.ensures.steps.0 ∙ ap (λ (caller : Caller). caller ∷ behind) (sym c.in_ok-place.ensures.started) in
    record {
      all = ap (λ (l : List (Place _)). map started l ++ behind) items
          ∙ ap (λ (l : List Caller). l ++ behind) (map-append started places (place ∷ []))
          ∙ done_more (map started places) rest c.args.callers.items (started place) behind inv.all here;
      room = subst (λ (n : ℕ). vec_len c.args.callers ≤ n) (sym c.push_reserved.ensures.capacity) inv.room;
      watch = All-same (IsFor c.args.watch.now) _ _ items
          (All-push (IsFor c.args.watch.now) places place inv.watch c.in_ok-place.ensures.watch);
    }
