-- The names that most proofs of this crate cite, passed on from one place. Declares nothing.
pub use Rattle.std.proofs.Common.{Bool, List, None, Option, Some, [], ap, arith, false, get_or, if◌then◌else◌, inl, inr, length, max, refl, subst, suc, sym, take, true, zero, ℕ, ◌&&◌, ◌*◌, ◌++◌, ◌+◌, ◌<◌, ◌∙◌, ◌∷◌, ◌≡◌, ◌≢◌, ◌≤◌, ◌⊎◌}
pub use Rattle.std.proofs.Math.ListN.{get_or-append}
pub use Rattle.std.proofs.lemmas.Bool.Decides.{nat_tests}
pub use Rattle.std.proofs.lemmas.List.{append-nil, length-append, length-take-le}
pub use Rattle.std.proofs.lemmas.Option.{get_or_from_slice_get, slice_get_read, slice_get_within}
pub use Rattle.std.specs.Option.{option_to_list}
pub use Rattle.std.specs.Prelude.{slice_get}
pub use Rattle.cluster_protocol.specs.Clusters.{Cluster, Entry, IsBeginning, Purge, same_view, weight}
pub use Rattle.cluster_protocol.specs.Steps.{IsOfView}
pub use Rattle.cluster_protocol.specs.Worlds.{Acknowledges, Apart, Asks, Content, Copy, Counts, Hearing, History, Member, Message, NoProcess, Purges, Speaks, Taking, Word, World, after, after_all, hello_in, hellos_of, kept_after, kept_after_all, log_at, start_of}
pub use Rattle.cluster_view.specs.Decisions.{Decides}
pub use Rattle.cluster_view.specs.Views.{IsBefore}
pub use Rattle.cluster_view.specs.declared.decision.Decision.{Decision}
pub use Rattle.cluster_view.specs.declared.hello.Hello.{Hello}
pub use Rattle.cluster_view.specs.declared.view.View.{View}
