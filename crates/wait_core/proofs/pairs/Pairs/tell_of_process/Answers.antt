use Rattle.wait_core.proofs.Common.{ℕ, ◌≡◌, ◌∙◌, Some, ap, sym, subst, length, deref, iter_end, All-turn, slice_get-get_or, Process, Wait, byte_modes_at, locks_of, IsOff, IsOn, TellsPair, IsWellFormed}
use Rattle.std.proofs.Common.{slice_get}
use Rattle.wait_core.proofs.FileLemmas.{turn}
use Rattle.wait_core.proofs.PairLemmas.{Before, before_more, before_skip, before_all, tells_still}
use Rattle.wait_core.proofs.pairs.Pairs.tell_of_process.Goals as goal

pub tell_pair-requires-clause-wait : goal.tell_pair-requires-clause-wait
tell_pair-requires-clause-wait c =
    All-turn deref (IsWellFormed 64) c.args.waits c.loop-waiting.yielded _ _ _ _ c.in-Some-waiting.waiting c.requires.waits
    c.into_iter-waiting-iterator.ensures.into_iter_gives c.loop-waiting.yielded_by c.in-Some-waiting.is c.next.ensures.steps

pub loop-waiting-preserved-then-meets : goal.loop-waiting-preserved-then-meets
loop-waiting-preserved-then-meets c =
    let locks = locks_of c.args.books.now in
    let waits = c.args.waits in
    let wait = c.in-Some-waiting.waiting.now in
    let q = c.args.q in
    let On = IsOn c.args.file c.args.span in
    let here = turn waits c.loop-waiting.yielded _ _ _ _ c.in-Some-waiting.waiting c.into_iter-waiting-iterator.ensures.into_iter_gives c.loop-waiting.yielded_by c.in-Some-waiting.is c.next.ensures.steps in
    let on_file : wait.file ≡ c.args.file = subst (λ (w : Wait). w.file ≡ c.args.file) here.item (c.requires.on_file (length c.loop-waiting.yielded) wait here.within) in
    let books = c.args.books.now in
    let found = c.in-Some.ensures.lookup in
    let book = ap (λ b. Some b) found.1 ∙ sym (slice_get-get_or books c.from.result c.in-Some.book.now found.3.0) in
    let listed = λ (byte : ℕ). c.list-list.ensures byte ∙ ap (λ b. byte_modes_at b (Process q) byte)
    (book ∙ ap (slice_get books) (c.from.ensures ∙ sym on_file)) in
    record {
      can_next = tt;
      is_finite = tt;
      told = subst (λ (n : ℕ). Before (TellsPair c.tell_pair.new.self locks q) On waits n) (sym here.more)
          (before_more (TellsPair c.loop-waiting.self locks q) (TellsPair c.tell_pair.new.self locks q) On (length c.loop-waiting.yielded) waits wait c.requires.apart
          here.within here.item c.loop-waiting.invariant.told (c.tell_pair.ensures.told locks listed)
          (λ v another was. tells_still c.loop-waiting.self c.tell_pair.new.self locks q v (c.tell_pair.ensures.others v.p q c.requires.few
          (λ same. absurd (another same))) was));
      others = λ p r few off. c.tell_pair.ensures.others p r few
          (λ same itself. subst (IsOff p c.args.file c.args.span) here.item (off itself (length c.loop-waiting.yielded) wait here.within) (sym same)
          (on_file, c.meets.ensures.0 c.if-meets.true)) ∙
          c.loop-waiting.invariant.others p r few off;
    }

pub loop-waiting-preserved : goal.loop-waiting-preserved
loop-waiting-preserved c =
    let waits = c.args.waits in
    let here = turn waits c.loop-waiting.yielded _ _ _ _ c.in-Some-waiting.waiting c.into_iter-waiting-iterator.ensures.into_iter_gives c.loop-waiting.yielded_by c.in-Some-waiting.is c.next.ensures.steps in
    let P = TellsPair c.loop-waiting.self (locks_of c.args.books.now) c.args.q in
    record {
      can_next = tt;
      is_finite = tt;
      told = subst (λ (n : ℕ). Before P (IsOn c.args.file c.args.span) waits n) (sym here.more)
          (before_skip P (IsOn c.args.file c.args.span) (length c.loop-waiting.yielded) waits c.in-Some-waiting.waiting.now here.within here.item
          (λ on. (let yes = c.meets.ensures.1 on.1 in let no = c.if-meets.false in cc)) c.loop-waiting.invariant.told);
      others = c.loop-waiting.invariant.others;
    }

pub returns-clause-told : goal.returns-clause-told
returns-clause-told c =
    let P = TellsPair c.loop-waiting.self (locks_of c.args.books.now) c.args.q in
    let (whole, all) = iter_end deref c.args.waits c.loop-waiting.yielded _ _ _ _ c.into_iter-waiting-iterator.ensures.into_iter_gives c.loop-waiting.yielded_by c.in-None.is c.next.ensures.steps in
    before_all P (IsOn c.args.file c.args.span) c.args.waits (subst (λ (n : ℕ). Before P (IsOn c.args.file c.args.span) c.args.waits n) all c.loop-waiting.invariant.told)
