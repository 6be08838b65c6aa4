use Rattle.lock_server.proofs.Common.{arith, ℕ, ◌<◌, ◌≤◌, ◌∙◌, inl, inr, ap, refl, subst, None, cases_eq, cases_lt, Rules, rules_of, state_of, through_of}
use Rattle.lock_server.specs.Holding.{ForgetsThere, IsGone}
use Rattle.lock_server.proofs.ForgetLemmas.{above_from_next, all_forgotten, forgetting_more, forgetting_none, next_from_above, next_of}
use Rattle.lock_server.proofs.HoldingLemmas.{nothing_stranger, sees_of_others}
use Rattle.lock_server.proofs.StateLemmas.{SameState-itself}
use Rattle.lock_server.proofs.server.LockServer.forget.Goals as goal

pub loop-file-init : goal.loop-file-init
loop-file-init c = record {
  forgetting = forgetting_none (rules_of c.args.self.now).policy (state_of c.args.self.now) c.args.owner;
  rules = refl;
  none = λ file before. absurd (omega (arith, before));
  others = λ file other differs. refl;
}

pub loop-file-preserved : goal.loop-file-preserved
unfolding state_of through_of
loop-file-preserved c =
    let policy = (rules_of c.args.self.now).policy in
    let M = state_of c.loop-file.self in
    let T = state_of c.forget_on.new.self in
    let file = c.in-Some.file in
    let from = next_from_above c.loop-file.above file c.in-Some.ensures.above in
    let gone : (other : ℕ) → next_of c.loop-file.above ≤ other → other < file → IsGone M (through_of c.loop-file.self) c.args.owner other =
    λ other past before. c.loop-file.self.kept.gone c.args.owner other (c.in-Some.ensures.least other (above_from_next c.loop-file.above other past) before) in
    let there : ForgetsThere policy M file c.args.owner T =
    subst (λ (rules : Rules). ForgetsThere rules.policy M file c.args.owner T) c.loop-file.invariant.rules c.forget_on.ensures.forgets in record {
      forgetting = forgetting_more policy (state_of c.args.self.now) c.args.owner (next_of c.loop-file.above) M file there.between T T
          c.loop-file.invariant.forgetting from (λ other past before. nothing_stranger (M.files other) c.args.owner (gone other past before).nothing)
          there.forgets there.settles (SameState-itself T);
      rules = c.forget_on.ensures.rules ∙ c.loop-file.invariant.rules;
      none = λ other before. elim (cases_eq other file) [
        | inl is ↦ ap (λ (f : ℕ). through_of c.forget_on.new.self f c.args.owner) is ∙ c.forget_on.ensures.openings.here
        | inr differs ↦ c.forget_on.ensures.openings.elsewhere other c.args.owner differs ∙ (elim (cases_lt other (next_of c.loop-file.above)) [
          | inl below ↦ c.loop-file.invariant.none other below
          | inr past ↦ (gone other past (omega arith)).unseen
        ])
      ];
      others = λ other any differs. sees_of_others (through_of c.loop-file.self) (through_of c.forget_on.new.self) file c.args.owner None c.forget_on.ensures.openings other any differs
          ∙ c.loop-file.invariant.others other any differs;
    }

pub loop-file-smaller : goal.loop-file-smaller
loop-file-smaller c = let from = next_from_above c.loop-file.above c.in-Some.file c.in-Some.ensures.above in omega arith

pub returns-clause-forgets : goal.returns-clause-forgets
unfolding state_of through_of
returns-clause-forgets c =
    let T = state_of c.loop-file.self in
    all_forgotten (rules_of c.args.self.now).policy (state_of c.args.self.now) c.args.owner (next_of c.loop-file.above) T c.loop-file.invariant.forgetting
    (λ file from. nothing_stranger (T.files file) c.args.owner
    (c.loop-file.self.kept.gone c.args.owner file (c.in_default.ensures.none file (above_from_next c.loop-file.above file from))).nothing)

pub returns-clause-openings : goal.returns-clause-openings
unfolding state_of through_of
returns-clause-openings c = record {
  none = λ file. elim (cases_lt file (next_of c.loop-file.above)) [
    | inl below ↦ c.loop-file.invariant.none file below
    | inr past ↦ (c.loop-file.self.kept.gone c.args.owner file (c.in_default.ensures.none file (above_from_next c.loop-file.above file past))).unseen
  ];
  others = c.loop-file.invariant.others;
}
