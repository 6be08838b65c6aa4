use Rattle.lock_manager.proofs.Common.{arith, ◌≡◌, ◌∙◌, true, false, None, not, if◌then◌else◌, ap, sym, refl, ProcState, Seat, state_numbered, seat_in, visit_in, refused_in}
use Rattle.lock_manager.specs.Sections.{has_ended, is_live}
use Rattle.lock_manager.proofs.SectionLemmas.{stand_none, stand_next, stand_all, unborn_past, seat_past, state_here, gone_and}
use Rattle.lock_manager.proofs.sections.Sections.stand.Goals as goal

pub loop-place-init : goal.loop-place-init
unfolding seat_in
loop-place-init c =
    let states = c.args.states.now in
    let old = c.args.self.now in
    record {
      visits = λ q section. stand_none (λ p. visit_in old p section) (λ p. has_ended (state_numbered states p)) None (λ bad. let no : false ≡ true = bad in cc) q;
      refused = stand_none (refused_in old) (λ p. not (is_live (state_numbered states p))) false (λ ends. refl);
      all = refl;
    }

pub loop-place-preserved : goal.loop-place-preserved
loop-place-preserved c =
    let states = c.args.states.now in
    let old = c.args.self.now in
    let place = c.loop-place.place in
    let i = c.loop-place.invariant in
    let here = state_here states place _ c.loop-place-test.true in
    record {
      visits = λ q section. stand_next (λ p. visit_in old p section) (λ p. visit_in c.loop-place.self p section) (λ p. visit_in c.stand_one.new.self p section)
          (λ p. has_ended (state_numbered states p)) _ None place (ap (λ (state : ProcState). has_ended state) (sym here)) (λ p. i.visits p section)
          (λ p. c.stand_one.ensures.visits p section) q;
      refused = stand_next (refused_in old) (refused_in c.loop-place.self) (refused_in c.stand_one.new.self)
          (λ p. not (is_live (state_numbered states p))) _ false place (ap (λ (state : ProcState). not (is_live state)) (sym here)) i.refused
          c.stand_one.ensures.refused;
      all = c.stand_one.ensures.all ∙ i.all;
    }

pub returns-clause-visits : goal.returns-clause-visits
returns-clause-visits c q section =
    let states = c.args.states.now in
    let old = c.args.self.now in
    stand_all (λ p. visit_in old p section) (λ p. visit_in c.loop-place.self p section) (λ p. has_ended (state_numbered states p)) None c.loop-place.place
    (λ p. c.loop-place.invariant.visits p section)
    (λ p past. ap (λ (state : ProcState). if has_ended state then None else visit_in old p section) (sym (unborn_past states p (omega (arith, c.loop-place-test.false, past))))) q

pub returns-clause-refused : goal.returns-clause-refused
returns-clause-refused c q =
    let states = c.args.states.now in
    let old = c.args.self.now in
    stand_all (refused_in old) (refused_in c.loop-place.self) (λ p. not (is_live (state_numbered states p))) false c.loop-place.place
    c.loop-place.invariant.refused
    (λ p past.
    let none : refused_in old p ≡ false = ap (λ (seat : Seat). seat.refused) (seat_past old p (omega (arith, c.loop-place-test.false, c.requires, past))) in
    none ∙ ap (λ (state : ProcState). if not (is_live state) then false else refused_in old p) (sym (unborn_past states p (omega (arith, c.loop-place-test.false, past)))))
    q
    ∙ gone_and (is_live (state_numbered states q)) (refused_in old q)
