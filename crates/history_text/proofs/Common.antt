-- The names that most proofs of this crate cite, passed on from one place. Declares nothing.
pub use Rattle.std.proofs.Common.{Bool, Err, List, MatchBool, None, Ok, Option, Result, Some, [], arith, codes, decimal, false, inl, inr, length, refl, rules, subst, sym, true, ℕ, ◌<◌, ◌^◌, ◌∷◌, ◌≡◌, ◌≤◌}
pub use Rattle.std.proofs.lemmas.Grind.{common_steps}
pub use Rattle.std.proofs.lemmas.Slice.Eq.{bytes_eq-Decides}
pub use Rattle.history_core.specs.declared.request.Action.{Action}
pub use Rattle.history_core.specs.declared.request.Action.TheVariants.{Close, Flock, FlockUnlock, Gone}
pub use Rattle.history_core.specs.declared.request.Answer.{Answer}
pub use Rattle.history_core.specs.declared.request.Answer.TheVariants.{Busy, Deadlock, Done, Error, Free, Held, Interrupted}
pub use Rattle.history_text.specs.HistoryReading.{AnswerIsGiven, ArgumentsGive, MayAnswer, MaySend, RequestIsGiven, SentGives, WordsGive, flock_request, whole_request}
pub use Rattle.history_text.specs.HistoryText.{AsksForSmallBytes, HasSmallBytes, HasSmallOwner, TellsSmallNumbers, action_words, is_turned_action, is_turned_answer, owner_word, request_word, span_words, told_words}
pub use Rattle.history_text.specs.declared.line.HistoryLine.{HistoryLine}
pub use Rattle.range_core.specs.declared.Mode.{Mode}
pub use Rattle.range_core.specs.declared.Span.{Span}
pub use Rattle.script_core.specs.Arguments.{Command}
pub use Rattle.script_core.specs.RequestText.{mode_word}
pub use Rattle.script_core.specs.Words.{begins_with_hash, is_printable, line_limit, texts, words_of}
pub use Rattle.script_core.specs.declared.script.Cause.{Cause}
pub use Rattle.script_core.specs.declared.script.Cause.TheVariants.{Number, Word}
