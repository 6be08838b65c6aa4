use Rattle.lock_server.proofs.Common.{◌∙◌, ap, subst, sym, option_copied_mut, Whole, Files, ReleasesOn, entry_of, table_state}
use Rattle.lock_server.proofs.IndexLemmas.{file_written}
use Rattle.lock_server.proofs.TableMoves.{state_by}
use Rattle.lock_server.proofs.EntryMoves.{kept_indexed, releases_by, releases_nothing}
use Rattle.lock_server.proofs.table.Table.release_flock.Goals as goal

pub invariant_of-self : goal.invariant_of-self
invariant_of-self c =
    let table = c.args.self.now in
    let after = c.release_flock.new.self in
    let written = file_written table.files (c.get_mut.follows.lender after) c.args.file _ c.in-Some.locks after c.get_mut.ensures.value c.in-Some.is (c.get_mut.follows.holds after) in record {
      indexed = kept_indexed table.files _ table.tickets table.waiters c.args.file c.in-Some.locks.now after written.0 written.1 table.indexed c.release_flock.ensures.waits;
    }

pub returns-in-Some-clause-releases : goal.returns-in-Some-clause-releases
unfolding table_state entry_of
returns-in-Some-clause-releases c =
    let table = c.args.self.now in
    let after = c.release_flock.new.self in
    let written = file_written table.files (c.get_mut.follows.lender after) c.args.file _ c.in-Some.locks after c.get_mut.ensures.value c.in-Some.is (c.get_mut.follows.holds after) in
    releases_by table.files _ table.tickets table.waiters c.args.file c.in-Some.locks.now after written.0 written.1 table.indexed c.release_flock.ensures.waits
    Whole c.args.owner c.release_flock.ensures.unlocks

pub returns-in_default-clause-releases : goal.returns-in_default-clause-releases
unfolding table_state entry_of
returns-in_default-clause-releases c =
    let table = c.args.self.now in
    subst (λ (m : Files). ReleasesOn (state_by table.files table.tickets table.waiters) c.args.file Whole c.args.owner (state_by m table.tickets table.waiters))
    (sym c.get_mut.follows.holds-at-none)
    (releases_nothing table.files table.tickets table.waiters c.args.file Whole c.args.owner table.indexed (sym c.get_mut.ensures.value ∙ ap option_copied_mut c.in_default.is))
