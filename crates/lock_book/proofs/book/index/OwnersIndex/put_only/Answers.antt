use Rattle.lock_book.proofs.Common.{◌≡◌, None, true, sym, subst, with_value, Run, holder_of, as_holder, holder_modes, is_outside}
use Rattle.std.specs.List.{find}
use Rattle.interval_index.specs.Contents.{RunContents}
use Rattle.interval_index.specs.Tests.{has_key}
use Rattle.lock_book.proofs.IndexLemmas.{none_of_owner}
use Rattle.lock_book.proofs.IndexedLemmas.{kept_lent, kept_new, only_put}
use Rattle.lock_book.proofs.book.index.OwnersIndex.put_only.Goals as goal

pub add-requires-clause-new : goal.add-requires-clause-new
add-requires-clause-new c =
    let none = none_of_owner c.args.span.first (as_holder c.args.owner) c.in-Some.index.value.runs (c.requires.new c.in-Some.index c.in-Some.is) in
    let lent = subst (λ (contents : RunContents). find (has_key c.args.span.first (as_holder c.args.owner)) contents.runs ≡ None) (sym c.as_mut-index.ensures.value) none in
    subst (λ (run : Run). find (has_key run.span.first (holder_of run)) c.as_mut-index.result.now.runs ≡ None) (sym c.run_of.ensures) lent

pub returns : goal.returns
returns c modes just kept block is =
    let outside = is_outside (as_holder c.args.owner) c.args.span in
    let lent = kept_lent (holder_modes modes) outside c.in-Some.index c.as_mut-index.result.now c.as_mut-index.ensures.value (kept c.in-Some.index c.in-Some.is) in
    kept_new (holder_modes modes) (λ other. true) (with_value c.in-Some.index c.add.new.self) block
    (only_put modes c.args.owner c.args.mode c.args.span c.as_mut-index.result.now.runs c.add.new.self.runs c.run_of.result c.requires.span.0 just c.run_of.ensures c.add.ensures.runs lent) is
