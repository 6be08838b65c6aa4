use Rattle.wait_core.proofs.Common.{◌≡◌, ◌∙◌, true, false, sym, arith, common_steps, All-nil, iter_end, locks_of}
use Rattle.std.specs.Map.Iter.{deref_pair}
use Rattle.wait_core.proofs.ListedLemmas.{IsToldIfBlocking, all_after_put, all_after_skip, lists_at, modes_in_loop, never_without_modes, only_after_put, told_at_description, told_at_end}
use Rattle.wait_core.proofs.ProcessLemmas.{none_in}
use Rattle.wait_core.proofs.Wait.blocking_by_lock.Goals as goal
use Rattle.wait_core.proofs.Wait.blocking_by_lock.Goals.{else-contains-via-then-contains+else-is_blocked_by_list, else-contains-via-else-contains}

pub loop-other-init : goal.loop-other-init
loop-other-init c =
    let wait = c.args.self.now in record {
      can_next = tt;
      is_finite = tt;
      only = λ q one few has. absurd (let none = none_in q in grind (arith, common_steps));
      each = All-nil (λ x. IsToldIfBlocking ((locks_of c.args.books.now).bytes wait.file) wait.owner wait.span wait.mode c.empty-blocking.result x.0.now);
    }

pub returns-in_default : goal.returns-in_default
returns-in_default c =
    let gives = c.into_iter-other-iterator.ensures.into_iter_gives in
    let lists = c.lists-other-items.result in
    let are = lists_at c.args.books.now c.from.result c.args.self.now.file c.index-books-from.result lists
    (omega (arith, c.requires.file, c.from.ensures)) c.index-books-from.is c.from.ensures c.lists-other-items.ensures.modes in
    told_at_description _ _ _ _ lists are
    c.loop-other.blocking c.loop-other.yielded _ _ _ _ (c.in-Some.other, c.in-Some.list)
    gives c.loop-other.yielded_by c.in-Some.is c.next.ensures.steps c.lists-other-items.ensures.rising
    c.in_default.field-0 c.in_default.is c.loop-other.invariant.only c.loop-other.invariant.each

pub loop-other-preserved-then-is_empty : goal.loop-other-preserved-then-is_empty
loop-other-preserved-then-is_empty c =
    let gives = c.into_iter-other-iterator.ensures.into_iter_gives in
    let lists = c.lists-other-items.result in
    let are = lists_at c.args.books.now c.from.result c.args.self.now.file c.index-books-from.result lists
    (omega (arith, c.requires.file, c.from.ensures)) c.index-books-from.is c.from.ensures c.lists-other-items.ensures.modes in
    let modes = modes_in_loop lists _ are c.loop-other.yielded _ _ _ _ (c.in-Some.other, c.in-Some.list)
    gives c.loop-other.yielded_by c.in-Some.is c.next.ensures.steps c.lists-other-items.ensures.found c.in-Process.process c.in-Process.is in
    let free = c.is_empty.ensures.free.0 c.if-is_empty.true in
    record {
      can_next = tt;
      is_finite = tt;
      only = c.loop-other.invariant.only;
      each = all_after_skip _ _ _ _ c.loop-other.blocking c.loop-other.yielded (c.in-Some.other, c.in-Some.list) c.in-Process.process c.in-Process.is
          (λ one few. never_without_modes _ _ _ _ c.in-Process.process (λ byte. sym (modes byte) ∙ free byte))
          c.loop-other.invariant.each;
    }

pub loop-other-preserved-then-is_blocked_by_list : goal.loop-other-preserved-then-is_blocked_by_list
loop-other-preserved-then-is_blocked_by_list c =
    let gives = c.into_iter-other-iterator.ensures.into_iter_gives in
    let lists = c.lists-other-items.result in
    let are = lists_at c.args.books.now c.from.result c.args.self.now.file c.index-books-from.result lists
    (omega (arith, c.requires.file, c.from.ensures)) c.index-books-from.is c.from.ensures c.lists-other-items.ensures.modes in
    let modes = modes_in_loop lists _ are c.loop-other.yielded _ _ _ _ (c.in-Some.other, c.in-Some.list)
    gives c.loop-other.yielded_by c.in-Some.is c.next.ensures.steps c.lists-other-items.ensures.found c.in-Process.process c.in-Process.is in
    let blocks = c.is_blocked_by_list.ensures ((locks_of c.args.books.now).bytes c.args.self.now.file) modes in
    record {
      can_next = tt;
      is_finite = tt;
      only = only_after_put _ _ _ _ c.loop-other.blocking c.with-blocking.result c.in-Process.process c.with-blocking.ensures.members
          (blocks.0 c.if-is_blocked_by_list.true) c.loop-other.invariant.only;
      each = all_after_put _ _ _ _ c.loop-other.blocking c.with-blocking.result c.in-Process.process c.with-blocking.ensures.members
          c.loop-other.yielded (c.in-Some.other, c.in-Some.list) c.in-Process.is c.loop-other.invariant.each;
    }

pub loop-other-preserved : goal.loop-other-preserved
loop-other-preserved c =
    let gives = c.into_iter-other-iterator.ensures.into_iter_gives in
    let lists = c.lists-other-items.result in
    let are = lists_at c.args.books.now c.from.result c.args.self.now.file c.index-books-from.result lists
    (omega (arith, c.requires.file, c.from.ensures)) c.index-books-from.is c.from.ensures c.lists-other-items.ensures.modes in
    let modes = modes_in_loop lists _ are c.loop-other.yielded _ _ _ _ (c.in-Some.other, c.in-Some.list)
    gives c.loop-other.yielded_by c.in-Some.is c.next.ensures.steps c.lists-other-items.ensures.found c.in-Process.process c.in-Process.is in
    record {
      can_next = tt;
      is_finite = tt;
      only = c.loop-other.invariant.only;
      each = all_after_skip _ _ _ _ c.loop-other.blocking c.loop-other.yielded (c.in-Some.other, c.in-Some.list) c.in-Process.process c.in-Process.is
          (λ one few conflict. elim c.else-contains.branch [
            | else-contains-via-then-contains+else-is_blocked_by_list w ↦
                (let blocks = w.is_blocked_by_list.ensures ((locks_of c.args.books.now).bytes c.args.self.now.file) modes in
                let yes = blocks.1 conflict in
                let no = w.if-is_blocked_by_list.false in
                absurd (let differ : true ≡ false = sym yes ∙ no in cc))
            | else-contains-via-else-contains w ↦ absurd (grind (arith, common_steps))
          ])
          c.loop-other.invariant.each;
    }

pub returns : goal.returns
returns c =
    let gives = c.into_iter-other-iterator.ensures.into_iter_gives in
    let lists = c.lists-other-items.result in
    let are = lists_at c.args.books.now c.from.result c.args.self.now.file c.index-books-from.result lists
    (omega (arith, c.requires.file, c.from.ensures)) c.index-books-from.is c.from.ensures c.lists-other-items.ensures.modes in
    let whole = (iter_end deref_pair lists c.loop-other.yielded _ _ _ _ gives c.loop-other.yielded_by c.in-None.is c.next.ensures.steps).0 in
    told_at_end _ _ _ _ lists are
    c.loop-other.blocking c.loop-other.yielded whole c.loop-other.invariant.only c.loop-other.invariant.each
