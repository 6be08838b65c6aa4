-- The names that most proofs of this crate cite, passed on from one place. Declares nothing.
pub use Rattle.std.proofs.Common.{Bool, Contains, IsSome, List, None, Option, Some, [], ap, arith, cond, eqb, false, get_or, inl, inr, length, pos, refl, rules, set, subst, suc, sym, true, zero, ℕ, ◌++◌, ◌+◌, ◌<◌, ◌∙◌, ◌∷◌, ◌≡◌, ◌≢◌, ◌≤◌, ◌⊎◌}
pub use Rattle.std.proofs.lemmas.Bool.{cases_eq, cases_lt, eq-eqb, lt-ltb, ne_eqb}
pub use Rattle.std.proofs.lemmas.Grind.{common_steps}
pub use Rattle.std.proofs.lemmas.List.{get_or-set_other, get_or-set_same, get_or_past, length-set, length_push}
pub use Rattle.std.proofs.lemmas.Option.{none-some, same_Some}
pub use Rattle.std.specs.List.Sorted.{IsStrictlyIncreasing}
pub use Rattle.std.specs.Option.{option_map}
pub use Rattle.fd_table.specs.Descriptors.{Descriptors, SameDescriptors, description_numbered, descriptor_limit, with_descriptor, without_descriptors}
pub use Rattle.fd_table.specs.Releases.{AreExactly, ClosesOne, IsMarked, Released, without_one}
pub use Rattle.fd_table.specs.Rows.{Keys, has_row, is_place, key_at, row_at, users_in, users_of, with_key}
pub use Rattle.fd_table.specs.Soundness.{AreEntries, AreRows}
pub use Rattle.fd_table.specs.TablesView.{Numbered, StandFor, View, ViewStandsFor, numbered, seen_in}
unfoldable pub use Rattle.fd_table.specs.TablesView.{limits_of, view_of}
pub use Rattle.fd_table.specs.declared.Limits.{Limits}
pub use Rattle.fd_table.specs.declared.TheConstants.{FILES}
pub use Rattle.fd_table.specs.declared.tables.Opened.{Opened}
pub use Rattle.slab.proofs.SlabLemmas.{Updates-with_value}
pub use Rattle.slab.specs.Slab.{Slab, Updates, get}
