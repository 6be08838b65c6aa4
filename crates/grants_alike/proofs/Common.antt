-- The names that most proofs of this crate cite, passed on from one place. Declares nothing.
pub use Rattle.std.proofs.Common.{All, Bool, List, None, Option, Some, [], ap, eq-eqb, eqb-true, false, if◌then◌else◌, refl, subst, sym, true, ℕ, ◌&&◌, ◌++◌, ◌==◌, ◌∙◌, ◌∷◌, ◌≡◌}
pub use Rattle.std.proofs.lemmas.List.Elements.{All-cons, All-nil}
pub use Rattle.grants_alike.specs.Alike.{AreAlike, AreSameWaits, Numbers, SameLocks, SameWait, TellsApart, waits_on_file}
pub use Rattle.lock_book.specs.declared.Owner.{Owner}
pub use Rattle.lock_book.specs.declared.Owner.TheVariants.{Description, Process}
pub use Rattle.lock_manager.specs.State.{State, locks_held}
pub use Rattle.lock_server.specs.Files.{FileState}
pub use Rattle.lock_server.specs.Settling.{IsHeldBack}
pub use Rattle.lock_server.specs.declared.Pending.{Pending}
pub use Rattle.range_core.specs.Changes.{is_covered}
pub use Rattle.range_core.specs.declared.Mode.{Mode}
pub use Rattle.wait_core.specs.Blocking.{IsBlockedByLock}
pub use Rattle.wait_core.specs.declared.Family.{Family}
pub use Rattle.wait_core.specs.declared.Family.TheVariants.{Bytes, Whole}
pub use Rattle.wait_core.specs.declared.Wait.{Wait}
