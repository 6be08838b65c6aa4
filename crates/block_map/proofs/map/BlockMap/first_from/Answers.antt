use Rattle.std.proofs.Common.{◌≡◌, None, Option, subst, sym, ◌∙◌}
use Rattle.std.specs.Prelude.{IfNone}
use Rattle.std.specs.Map.{lookup}
use Rattle.std.specs.BTreeMap.{is_at}
use Rattle.std.specs.BTreeMap.Range.{IsFromStart, range_contains}
use Rattle.std.specs.declared.ops.Bound.TheVariants.{Unbounded}
use Rattle.block_map.specs.Kept.{entries_in}
use Rattle.block_map.proofs.First.{first_found, first_least, first_passes, inside, none_found}
use Rattle.block_map.proofs.map.BlockMap.first_from.Goals as goal

pub returns-in_err-key-clause-none : goal.returns-in_err-key-clause-none
returns-in_err-key-clause-none g c =
    subst (λ (found : Option _). IfNone found ((other : g.row.K.Denot) → IsFromStart g.K.Ord.cmp c.args.from other → lookup (is_at (g.K.Ord.cmp other)) c.args.self.now ≡ None)) (sym c.from_residual.ensures)
    (rw (← c.self.view_is) (none_found g.met.K.Ord.total c.args.from (entries_in c.self.inside.blocks) (sym c.iter_from.ensures ∙ c.in_err-key.ensures.steps.0)))

pub returns-clause-from : goal.returns-clause-from
returns-clause-from g c =
    inside g.met.K.Ord.total c.args.from c.in_ok-key.key.now
    (first_passes g.met.K.Ord.total (range_contains g.K.Ord.cmp c.args.from Unbounded) (c.in_ok-key.key.now, c.in_ok-key.field-0-1.now) (entries_in c.self.inside.blocks) c.next.new.self
    (sym c.iter_from.ensures ∙ c.in_ok-key.ensures.steps))

pub returns-clause-found : goal.returns-clause-found
returns-clause-found g c =
    rw (← c.self.view_is) (first_found g.met.K.Ord.total (range_contains g.K.Ord.cmp c.args.from Unbounded) (c.in_ok-key.key.now, c.in_ok-key.field-0-1.now) (entries_in c.self.inside.blocks) c.next.new.self
    (sym c.iter_from.ensures ∙ c.in_ok-key.ensures.steps))

pub returns-clause-least : goal.returns-clause-least
returns-clause-least g c =
    rw (← c.self.view_is) (first_least g.met.K.Ord.total c.args.from (c.in_ok-key.key.now, c.in_ok-key.field-0-1.now) (entries_in c.self.inside.blocks) c.next.new.self c.self.invariant.0
    (sym c.iter_from.ensures ∙ c.in_ok-key.ensures.steps))
