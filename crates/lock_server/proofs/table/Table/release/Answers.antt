use Rattle.lock_server.proofs.Common.{◌∙◌, ap, subst, sym, option_copied_mut, Bytes, Files, ReleasesOn, entry_of, table_state}
use Rattle.lock_server.proofs.IndexLemmas.{file_written}
use Rattle.lock_server.proofs.TableMoves.{state_by}
use Rattle.lock_server.proofs.EntryMoves.{kept_indexed, releases_by, releases_nothing}
use Rattle.lock_server.proofs.table.Table.release.Goals as goal

pub invariant_of-self : goal.invariant_of-self
invariant_of-self c =
    let table = c.args.self.now in
    let after = c.release.new.self in
    let written = file_written table.files (c.get_mut.follows.lender after) c.args.file _ c.in-Some.locks after c.get_mut.ensures.value c.in-Some.is (c.get_mut.follows.holds after) in record {
      indexed = kept_indexed table.files _ table.tickets table.waiters c.args.file c.in-Some.locks.now after written.0 written.1 table.indexed c.release.ensures.waits;
    }

pub returns-in-Some-clause-releases : goal.returns-in-Some-clause-releases
unfolding table_state entry_of
returns-in-Some-clause-releases c =
    let table = c.args.self.now in
    let after = c.release.new.self in
    let written = file_written table.files (c.get_mut.follows.lender after) c.args.file _ c.in-Some.locks after c.get_mut.ensures.value c.in-Some.is (c.get_mut.follows.holds after) in
    releases_by table.files _ table.tickets table.waiters c.args.file c.in-Some.locks.now after written.0 written.1 table.indexed c.release.ensures.waits
    Bytes c.args.owner c.release.ensures.unlocks

pub returns-in_default-clause-releases : goal.returns-in_default-clause-releases
unfolding table_state entry_of
returns-in_default-clause-releases c =
    let table = c.args.self.now in
    subst (λ (m : Files). ReleasesOn (state_by table.files table.tickets table.waiters) c.args.file Bytes c.args.owner (state_by m table.tickets table.waiters))
    (sym c.get_mut.follows.holds-at-none)
    (releases_nothing table.files table.tickets table.waiters c.args.file Bytes c.args.owner table.indexed (sym c.get_mut.ensures.value ∙ ap option_copied_mut c.in_default.is))
