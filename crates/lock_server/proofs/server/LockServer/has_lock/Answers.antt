use Rattle.lock_server.proofs.Common.{◌≡◌, arith, refl, inl, inr, subst, ℕ, true, false, cases_eq, cases_lt, HaveLocksOn, state_of}
use Rattle.lock_server.proofs.ForgetLemmas.{above_from_next, next_from_above, next_of}
use Rattle.lock_server.proofs.HolderLemmas.{nothing_no_lock}
use Rattle.lock_server.proofs.server.LockServer.has_lock.Goals as goal

pub loop-file-init : goal.loop-file-init
loop-file-init c = λ file before. absurd (omega (arith, before))

pub returns-then-has_locks_on : goal.returns-then-has_locks_on
unfolding state_of
returns-then-has_locks_on c = (λ found. record { file = c.in-Some.file; on_file = c.has_locks_on.ensures.0 c.if-has_locks_on.true }, λ have. refl)

pub loop-file-preserved : goal.loop-file-preserved
unfolding state_of
loop-file-preserved c = λ file before have. elim (cases_lt file (next_of c.loop-file.above)) [
  | inl earlier ↦ c.loop-file.invariant file earlier have
  | inr later ↦ elim (cases_eq file c.in-Some.file) [
    | inl is ↦
        (let found = c.has_locks_on.ensures.1 (subst (λ (f : ℕ). HaveLocksOn ((state_of c.args.self.now).files f) c.args.owner c.args.owner) is have) in
        let missed = c.if-has_locks_on.false in cc)
    | inr differs ↦
        nothing_no_lock ((state_of c.args.self.now).files file) c.args.owner
        (c.args.self.now.kept.gone c.args.owner file (c.in-Some.ensures.least file (above_from_next c.loop-file.above file later) (omega (arith, before, differs)))).nothing have
  ]
]

pub loop-file-smaller : goal.loop-file-smaller
loop-file-smaller c = let from = next_from_above c.loop-file.above c.in-Some.file c.in-Some.ensures.above in omega arith

pub returns : goal.returns
unfolding state_of
returns c = (
  λ impossible. absurd (let h : false ≡ true = impossible in cc),
  λ have. absurd (elim (cases_lt have.file (next_of c.loop-file.above)) [
    | inl earlier ↦ c.loop-file.invariant have.file earlier have.on_file
    | inr later ↦
        nothing_no_lock ((state_of c.args.self.now).files have.file) c.args.owner
        (c.args.self.now.kept.gone c.args.owner have.file (c.in_default.ensures.none have.file (above_from_next c.loop-file.above have.file later))).nothing have.on_file
  ]),
)
