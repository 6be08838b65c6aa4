use Rattle.std.proofs.Common.{◌-◌, length, take, drop, ap, ◌∙◌}
use Rattle.std.specs.List.{zip}
use Rattle.block_map.proofs.Zipped.{drop_is, rest_is}
use Rattle.block_map.proofs.block.Block.entries_from.Goals as goal

pub returns : goal.returns
returns g c =
    let place = c.place_from-place.result in
    let ks = c.self.inside.keys.items in
    let vs = c.self.inside.values.items in
    let values = c.deref-2.result.now in
    c.new.ensures
    ∙ (ap (λ keys. zip keys (take (length values - place) (drop place values))) (rest_is place c.deref.result.now ks c.deref.ensures.value)
    ∙ (ap (λ values. zip (drop place ks) values) (rest_is place values vs c.deref-2.ensures.value)
    ∙ (drop_is place ks vs ∙ (ap (drop place) c.self.view_is ∙ c.place_from-place.ensures.entries))))
