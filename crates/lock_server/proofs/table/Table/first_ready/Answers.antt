use Rattle.lock_server.proofs.Common.{ℕ, arith, inl, inr, subst, sym, cases_eq, cases_lt, IsSettled, table_state}
use Rattle.lock_server.proofs.ForgetLemmas.{above_from_next, next_from_above, next_of}
use Rattle.lock_server.proofs.RestoringLemmas.{settled_untouched, unsettled}
use Rattle.lock_server.proofs.table.Table.first_ready.Goals as goal

pub loop-file-init : goal.loop-file-init
loop-file-init c = λ file before. absurd (omega (arith, before))

pub returns-in-Some-next_ready-clause-some : goal.returns-in-Some-next_ready-clause-some
returns-in-Some-next_ready-clause-some c =
    unsettled c.args.policy ((table_state c.args.self.now).files c.in-Some.file) c.in-Some-next_ready.place c.in-Some-next_ready.ensures.ready

pub loop-file-preserved : goal.loop-file-preserved
loop-file-preserved c = λ file before.
    let S = table_state c.args.self.now in
    let policy = c.args.policy in
    elim (cases_lt file (next_of c.loop-file.above)) [
      | inl earlier ↦ c.loop-file.invariant file earlier
      | inr later ↦ elim (cases_eq file c.in-Some.file) [
        | inl is ↦ subst (λ (f : ℕ). IsSettled policy (S.files f)) (sym is) c.in_default-next_ready.ensures.settled
        | inr differs ↦
            settled_untouched policy (S.files file)
            (c.in-Some.ensures.least file (above_from_next c.loop-file.above file later) (omega (arith, before, differs)))
      ]
    ]

pub loop-file-smaller : goal.loop-file-smaller
loop-file-smaller c = let from = next_from_above c.loop-file.above c.in-Some.file c.in-Some.ensures.above in omega arith

pub returns-clause-none : goal.returns-clause-none
returns-clause-none c = λ file. elim (cases_lt file (next_of c.loop-file.above)) [
  | inl earlier ↦ c.loop-file.invariant file earlier
  | inr later ↦
      settled_untouched c.args.policy ((table_state c.args.self.now).files file)
      (c.in_default.ensures.none file (above_from_next c.loop-file.above file later))
]

pub next_ready-requires : goal.next_ready-requires
next_ready-requires c = c.nothing.ensures c.args.policy ((table_state c.args.self.now).files c.in-Some.file)
