use Rattle.lock_server.proofs.Common.{ℕ, inl, inr, SameFile, untouched, table_state}
use Rattle.lock_server.specs.HoldingsView.{AreUnkept, HasNoneOf}
use Rattle.lock_server.proofs.HolderLemmas.{least_then, none_then}
use Rattle.lock_server.proofs.table.Table.next_file_of.Goals as goal

pub returns-then-few-clause-least : goal.returns-then-few-clause-least
returns-then-few-clause-least c =
    least_then (AreUnkept c.args.holdings.now c.args.owners.first c.args.owners.last)
    (HasNoneOf c.args.holdings.now c.args.owners.first c.args.owners.last (table_state c.args.self.now)) c.args.above _ (λ file unkept. inl unkept) c.next_file_of.ensures.least

pub returns-then-few-clause-none : goal.returns-then-few-clause-none
returns-then-few-clause-none c =
    none_then (AreUnkept c.args.holdings.now c.args.owners.first c.args.owners.last)
    (HasNoneOf c.args.holdings.now c.args.owners.first c.args.owners.last (table_state c.args.self.now)) c.args.above _ (λ file unkept. inl unkept) c.next_file_of.ensures.none

pub returns-else-few-clause-least : goal.returns-else-few-clause-least
returns-else-few-clause-least c =
    least_then (λ (file : ℕ). SameFile untouched ((table_state c.args.self.now).files file))
    (HasNoneOf c.args.holdings.now c.args.owners.first c.args.owners.last (table_state c.args.self.now)) c.args.above _ (λ file nobody. inr nobody) c.next_file.ensures.least

pub returns-else-few-clause-none : goal.returns-else-few-clause-none
returns-else-few-clause-none c =
    none_then (λ (file : ℕ). SameFile untouched ((table_state c.args.self.now).files file))
    (HasNoneOf c.args.holdings.now c.args.owners.first c.args.owners.last (table_state c.args.self.now)) c.args.above _ (λ file nobody. inr nobody) c.next_file.ensures.none
