use Rattle.lock_server.proofs.Common.{arith, ℕ, ◌≡◌, ◌≢◌, ◌≤◌, ◌∙◌, sym, ap, subst, refl, true, false, None, IsFromStart, Bound, is_within, keeps, pair_cmp, through_at}
use Rattle.lock_server.proofs.HoldingLemmas.{noted_left, seen_without, sees_of_others}
use Rattle.lock_server.proofs.PairLemmas.{from_owner, owner_behind, owner_upto, untrue, within_first, within_is, within_last}
use Rattle.lock_server.proofs.holdings.Holdings.leave_all.Goals as goal

pub loop-owner-init : goal.loop-owner-init
loop-owner-init c = record { others = λ owner file other. refl; noted = c.requires; seen = λ owner file other. refl }

pub loop-owner-preserved : goal.loop-owner-preserved
loop-owner-preserved c =
    let starts : Bound (ℕ × ℕ) → Type 0 = λ from. IsFromStart pair_cmp from (c.in-Some.owner, c.in-Some.file) in
    let from : c.args.owners.first ≤ c.in-Some.owner = owner_behind c.args.owners.first None c.in-Some.owner c.in-Some.file (subst starts c.behind.ensures c.in-Some.ensures.from) in
    let within = within_is c.args.owners.first c.args.owners.last c.in-Some.owner from (omega arith) in
    let differs : (owner : ℕ) → is_within c.args.owners.first c.args.owners.last owner ≡ false → owner ≢ c.in-Some.owner =
    λ owner other is. (let no : false ≡ true = sym other ∙ ap (λ (o : ℕ). is_within c.args.owners.first c.args.owners.last o) is ∙ within in cc) in
    let was = through_at c.loop-owner.openings in
    let now = through_at c.forget.new.self in
    record {
      others = λ owner file other. c.leave.ensures.keeps.apart.others owner file (differs owner other) ∙ c.loop-owner.invariant.others owner file other;
      noted = noted_left c.loop-owner.self c.leave.new.self was now c.in-Some.owner c.in-Some.file c.leave.ensures.keeps c.forget.ensures c.loop-owner.invariant.noted;
      seen = λ owner file other.
          sees_of_others was now c.in-Some.file c.in-Some.owner None c.forget.ensures file owner (differs owner other) ∙ c.loop-owner.invariant.seen owner file other;
    }

pub loop-owner-smaller : goal.loop-owner-smaller
unfolding keeps
loop-owner-smaller c = c.leave.ensures.fewer c.in-Some.ensures.kept

pub returns-then-owners-owner-clause-gone : goal.returns-then-owners-owner-clause-gone
unfolding keeps
returns-then-owners-owner-clause-gone c owner file within = untrue _ (λ kept.
    let starts : Bound (ℕ × ℕ) → Type 0 = λ from. IsFromStart pair_cmp from (owner, file) in
    let from = subst starts (sym c.behind.ensures) (from_owner c.args.owners.first owner file (within_first c.args.owners.first c.args.owners.last owner within)) in
    let upto = owner_upto c.in-Some.owner c.in-Some.file owner file (c.in-Some.ensures.least (owner, file) from kept) in
    let last = within_last c.args.owners.first c.args.owners.last owner within in
    omega arith)

pub returns-then-owners-owner-clause-notes : goal.returns-then-owners-owner-clause-notes
returns-then-owners-owner-clause-notes c =
    seen_without (through_at c.args.openings.now) (through_at c.loop-owner.openings) (is_within c.args.owners.first c.args.owners.last)
    (λ file owner within. c.loop-owner.invariant.noted owner file (returns-then-owners-owner-clause-gone c owner file within))
    (λ file owner other. c.loop-owner.invariant.seen owner file other)

pub returns-clause-gone : goal.returns-clause-gone
unfolding keeps
returns-clause-gone c owner file within =
    let starts : Bound (ℕ × ℕ) → Type 0 = λ from. IsFromStart pair_cmp from (owner, file) in
    let from = subst starts (sym c.behind.ensures) (from_owner c.args.owners.first owner file (within_first c.args.owners.first c.args.owners.last owner within)) in
    c.in_default.ensures.none (owner, file) from

pub returns-clause-notes : goal.returns-clause-notes
returns-clause-notes c =
    seen_without (through_at c.args.openings.now) (through_at c.loop-owner.openings) (is_within c.args.owners.first c.args.owners.last)
    (λ file owner within. c.loop-owner.invariant.noted owner file (returns-clause-gone c owner file within))
    (λ file owner other. c.loop-owner.invariant.seen owner file other)
