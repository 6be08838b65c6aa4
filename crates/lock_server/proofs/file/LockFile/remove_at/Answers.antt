use Rattle.lock_server.proofs.Common.{◌∙◌, inl, inr, refl, sym, arith, get_or_from_slice_get, slice_get_cases, file_state, keeps_place}
use Rattle.lock_server.proofs.FileLemmas.{leaves_at, ranges_left, reserved_left, room_left}
use Rattle.lock_server.proofs.file.LockFile.remove_at.Goals as goal

pub unreachable-requires : goal.unreachable-requires
unfolding file_state
unreachable-requires c =
    let within = c.requires in
    let gone = sym c.take.ensures.item ∙ c.in-None.is in
    elim (slice_get_cases c.args.self.now.waits.items c.args.place).1 [
      | inl (wait, inside, some, is) ↦ (let h = sym gone ∙ some in absurd (cc))
      | inr (past, none) ↦ absurd (omega (arith, past, within))
    ]

pub invariant_of-self : goal.invariant_of-self
unfolding file_state
invariant_of-self c =
    let items = c.args.self.now.waits.items in
    let within = c.requires in
    elim (slice_get_cases items c.args.place).1 [
      | inl (wait, inside, some, is) ↦
          record {
            ranges = ranges_left items c.take.new.self.items c.args.place wait within is c.take.ensures.rest c.args.self.now.ranges;
            room = room_left items c.take.new.self.items c.args.place wait within is c.take.ensures.rest c.args.self.now.book c.args.self.now.room;
            numbers = c.args.self.now.numbers;
            in_file = c.args.self.now.in_file;
            known = c.args.self.now.known;
          }
      | inr (past, none) ↦ absurd (omega (arith, past, within))
    ]

pub returns-clause-is : goal.returns-clause-is
unfolding file_state
returns-clause-is c = sym c.take.ensures.item ∙ c.in-Some.is

pub returns-clause-leaves : goal.returns-clause-leaves
unfolding file_state
returns-clause-leaves c =
    let items = c.args.self.now.waits.items in
    let wait = c.in-Some.wait in
    let there = sym c.take.ensures.item ∙ c.in-Some.is in
    let is = get_or_from_slice_get items c.args.place wait wait there in
    leaves_at items c.take.new.self.items c.args.place wait c.requires is c.take.ensures.rest _ _ refl refl
    (record { bytes = λ owner byte. refl; flocks = λ owner. refl })

pub returns-clause-room : goal.returns-clause-room
unfolding file_state
returns-clause-room c =
    let items = c.args.self.now.waits.items in
    let wait = c.in-Some.wait in
    let there = sym c.take.ensures.item ∙ c.in-Some.is in
    let is = get_or_from_slice_get items c.args.place wait wait there in
    reserved_left items c.take.new.self.items c.args.place wait c.requires is c.take.ensures.rest _ wait.family refl c.args.self.now.room refl

pub returns-clause-kept : goal.returns-clause-kept
unfolding keeps_place
returns-clause-kept c = record { places = λ owner kept. kept; list = λ free. (let same = c.take.ensures.room in omega (arith, same, free)) }
