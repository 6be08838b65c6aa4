use Rattle.lock_server.proofs.Common.{◌≡◌, sym, true, false, is_some, entry_in, entry_of}
use Rattle.lock_server.proofs.EntryMoves.{none_from_test, opened_indexed, some_from_test}
use Rattle.lock_server.proofs.table.Table.open.Goals as goal

pub returns-then-contains_key-clause-entry : goal.returns-then-contains_key-clause-entry
unfolding entry_of
returns-then-contains_key-clause-entry c =
    let found = entry_in c.args.self.now.files c.args.file in
    let test : is_some found ≡ true = sym c.if-contains_key.ensures in
    let there = some_from_test found test in record { entry = there.0; is = there.1 }

pub invariant_of-self : goal.invariant_of-self
invariant_of-self c =
    let table = c.args.self.now in
    let found = entry_in table.files c.args.file in
    let test : is_some found ≡ false = sym c.if-contains_key.ensures in record {
      indexed = opened_indexed c.insert.result table.files c.insert.new.self table.tickets table.waiters c.args.file c.new.result (none_from_test found test)
          c.new.ensures.waits c.insert.ensures.ok c.insert.ensures.err table.indexed;
    }
