-- The words of a request: for `read_named`, `read_unlock_words` and others.
use Rattle.std.proofs.lemmas.Bool.{false_from_ne_true}
use Rattle.history_text.proofs.Common.{◌≡◌, ℕ, ◌^◌, ◌<◌, false, List, [], ◌∷◌, Result, Ok, Err, MatchBool, codes, decimal, refl, sym, inl, inr, bytes_eq-Decides, Cause, Word, Number, Command, Action, FlockUnlock, HistoryLine, request_word, action_words, is_turned_action, AsksForSmallBytes, ArgumentsGive, RequestIsGiven, whole_request}
use Rattle.std.specs.Str.{bytes_eq}
use Rattle.history_text.specs.declared.line.HistoryLine.TheVariants as lines

-- a word that differs from a request's isn't found under it
pub not_named : (name word : List ℕ) → (word ≡ name → ⊥) → bytes_eq name word ≡ false
not_named name word differ = false_from_ne_true (bytes_eq name word) (λ same. differ (sym ((bytes_eq-Decides name word).0 same)))

-- words that are those of a request, which may have turned bytes
pub request_given : (id : ℕ) (form : Command) (words arguments : List (List ℕ)) (file owner : ℕ) (action : Action) (result : Result HistoryLine Cause)
    → words ≡ request_word action ∷ decimal file ∷ decimal owner ∷ action_words action → file < 2 ^ 64 → owner < 2 ^ 64 → AsksForSmallBytes action
    → MatchBool (is_turned_action action) (result ≡ Err Number) (result ≡ Ok (lines.Sent file (record { id = id; owner = owner; action = action })))
    → ArgumentsGive id words form arguments result
request_given id form words arguments file owner action result are small_file small_owner small_bytes given = inr (
  file,
  record { id = id; owner = owner; action = action },
  refl,
  record { small_file = small_file; small_owner = small_owner; small_bytes = small_bytes },
  inl (are, given),
)

-- `nb` stands behind `un`
pub nb_given : (id : ℕ) (form : Command) (words arguments : List (List ℕ)) (file owner : ℕ)
    → words ≡ codes "flock" ∷ decimal file ∷ decimal owner ∷ codes "un" ∷ codes "nb" ∷ [] → file < 2 ^ 64 → owner < 2 ^ 64
    → ArgumentsGive id words form arguments (Err Word)
nb_given id form words arguments file owner are small_file small_owner = inr (
  file,
  record { id = id; owner = owner; action = FlockUnlock },
  refl,
  record { small_file = small_file; small_owner = small_owner; small_bytes = tt },
  inr (refl, are, refl),
)

-- a file and an owner are the words of a request on all that the owner has there
pub whole_given : (id : ℕ) (action : Action) (name : List ℕ) (arguments : List (List ℕ)) (file owner : ℕ) (result : Result HistoryLine Cause)
    → action_words action ≡ [] → AsksForSmallBytes action → name ≡ request_word action → arguments ≡ decimal file ∷ decimal owner ∷ []
    → file < 2 ^ 64 → owner < 2 ^ 64
    → MatchBool (is_turned_action action) (result ≡ Err Number) (result ≡ Ok (lines.Sent file (record { id = id; owner = owner; action = action })))
    → RequestIsGiven id (whole_request (request_word action)) name arguments result
whole_given id action name arguments file owner result none small_bytes is are small_file small_owner given =
    let words = decimal file ∷ decimal owner ∷ [] in
    let form = whole_request (request_word action) in
    rw (is, are)
    (request_given id form (request_word action ∷ words) words file owner action result (rw none refl) small_file small_owner small_bytes given)
