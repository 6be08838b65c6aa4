-- The names that most proofs of this crate cite, passed on from one place. Declares nothing.
pub use Rattle.std.proofs.Common.{Bool, Err, List, None, Option, Some, [], ap, arith, eq-eqb, false, inl, inr, map, refl, rules, subst, sym, true, ℕ, ◌++◌, ◌+◌, ◌-◌, ◌<◌, ◌==◌, ◌∙◌, ◌∷◌, ◌≡◌, ◌≢◌}
pub use Rattle.std.proofs.lemmas.Bool.{cases_Bool, false≢true}
pub use Rattle.std.proofs.lemmas.Grind.{common_steps}
pub use Rattle.std.proofs.lemmas.List.{append_assoc}
pub use Rattle.std.specs.BTreeMap.{BTreeMap, UpdatesBy, get, is_at}
pub use Rattle.std.specs.List.{list_any}
pub use Rattle.std.specs.Map.{lookup}
pub use Rattle.std.specs.Map.Iter.{deref_pair}
pub use Rattle.std.specs.Ordering.{nat_cmp}
pub use Rattle.std.specs.Prelude.{All, if◌then◌else◌, option_map}
pub use Rattle.history_core.specs.Chains.{requests_of}
pub use Rattle.history_core.specs.FileView.{keeps_order}
pub use Rattle.history_core.specs.Moments.{FileLine, World, beginning}
pub use Rattle.history_core.specs.declared.file.FileHistory.{FileHistory}
pub use Rattle.history_core.specs.declared.order.Happening.{Happening}
pub use Rattle.history_core.specs.declared.request.Answer.{Answer}
pub use Rattle.history_core.specs.declared.request.Request.{Request}
pub use Rattle.history_judge.specs.FilesApart.{AreNamed, IsNamed, Sending, is_on, lines_of, none_open, open_behind}
pub use Rattle.history_judge.specs.FilesView.{file_in, keeps_in}
pub use Rattle.history_judge.specs.Histories.{Answered, HistoryLine, Moment, Sent, beginnings, line_of, lines_among}
pub use Rattle.history_judge.specs.Merging.{beyond, front, left_in, lefts_in}
pub use Rattle.history_judge.specs.declared.files.Files.{Files}
pub use Rattle.history_judge.specs.declared.order.FileHappening.{FileHappening}
pub use Rattle.history_judge.specs.declared.order.FileOrder.{FileOrder}
