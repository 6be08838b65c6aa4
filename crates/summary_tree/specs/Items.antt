-- What a tree stands for.
use Rattle.summary_tree.specs.declared.tree.Items.{Items}
use Rattle.summary_tree.specs.declared.tree.Items.TheVariants.{Few, Many}
use Rattle.summary_tree.specs.Contents.{Contents}

-- the items in order, and the room, of the few or the many
abbrev pub contents_of : {T S : Type 0} → Items T S → Contents T
contents_of (Few few) = few
contents_of (Many many) = many
