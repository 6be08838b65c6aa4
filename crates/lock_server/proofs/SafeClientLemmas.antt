-- What holds between two calls holds after a client or a file is gone: for the server's `forget_owners` and `forget_file`.
use Rattle.lock_server.proofs.Common.{ℕ, zero, suc, ◌≡◌, ◌<◌, ◌≤◌, ◌∙◌, inl, inr, sym, subst, refl, arith, not, Bool, Some, None, List, [], ◌∷◌, cases_eq, cases_lt, Policy, Pending, ForgetsFile, ForgetsOwners, SettlesBelow, Strips, StripsFile, is_within, IsFreeOfCycles, FileState, SameFile, untouched, owners_of, AreTicketsOnce, IsCompatible, IsSafe, IsSettled, Settles, SettlesFile, State}
use Rattle.lock_server.proofs.CompatibleLemmas.{still_held}
use Rattle.lock_server.proofs.SafeLemmas.{MovesFile, all_move_free, fewer_move, moves_free, moves_settled, safe_but, safe_moved, safe_with}
use Rattle.lock_server.proofs.StateLemmas.{SameFile-then, file_from_same, state_from_same}
use Rattle.lock_server.proofs.StepLemmas.{filtered_within, IsWithin}

-- settling ends in a settled file
settled_end : (policy : Policy) (F : FileState) (granted : List Pending) (G : FileState) → Settles policy F granted G → IsSettled policy G
settled_end policy F [] G settles = subst (λ (H : FileState). IsSettled policy H) (sym (file_from_same F G settles.1)) settles.0
settled_end policy F (wait ∷ granted) G settles = settled_end policy settles.0 granted G settles.2

-- owners that lose what they have on a file move nothing
pub strips_move : (F : FileState) (gone : ℕ → Bool) (G : FileState) → StripsFile F gone G → MovesFile [] F G
strips_move F gone G strips =
    fewer_move [] F G (record {
      bytes = λ owner byte mode is. still_held (gone owner) (F.bytes owner byte) mode (sym (strips.locks.bytes owner byte) ∙ is);
      flocks = λ owner mode is. still_held (gone owner) (F.flocks owner) mode (sym (strips.locks.flocks owner) ∙ is);
    })
    (subst (λ (waits : List Pending). IsWithin waits F.waits) (sym strips.waits) (filtered_within (λ wait. not (gone wait.owner)) F.waits))

-- no owners conflict, and no cycle is closed
record IsSound (policy : Policy) (S : State) : Type 0 where
  compatible : (file : ℕ) → IsCompatible (S.files file)
  free_of_cycles : IsFreeOfCycles policy S

sound_stripped : (policy : Policy) (S : State) (gone : ℕ → Bool) (T : State) → IsSafe policy S → Strips S gone T → IsSound policy T
sound_stripped policy S gone T safe strips = record {
  compatible = λ file. (strips_move (S.files file) gone (T.files file) (strips.files file)).compatible (safe.compatible file);
  free_of_cycles = all_move_free policy [] S T (λ file. strips_move (S.files file) gone (T.files file) (strips.files file)) strips.crossed safe.free_of_cycles;
}

-- settling a file leaves all sound
sound_settled : (policy : Policy) (S : State) (file : ℕ) (T : State) → IsSound policy S → SettlesFile policy S file T → IsSound policy T
sound_settled policy S file T sound settles =
    let moves = moves_settled policy S file T settles in record {
      compatible = λ other. elim (cases_eq other file) [
        | inl is ↦ subst (λ (f : ℕ). IsCompatible (T.files f)) (sym is) (moves.here.compatible (sound.compatible file))
        | inr differs ↦ subst (λ (F : FileState). IsCompatible F) (sym (file_from_same (S.files other) (T.files other) (moves.others other differs))) (sound.compatible other)
      ];
      free_of_cycles = moves_free policy (owners_of settles.granted) S file T moves sound.free_of_cycles;
    }

-- after the files below this number are settled, all is sound, these are settled, and the others are as they were
record IsAtRestBelow (policy : Policy) (bound : ℕ) (S T : State) : Type 0 where
  sound : IsSound policy T
  settled : (file : ℕ) → file < bound → IsSettled policy (T.files file)
  later : (file : ℕ) → bound ≤ file → SameFile (S.files file) (T.files file)

rests_below : (policy : Policy) (bound : ℕ) (S T : State) → IsSound policy S → SettlesBelow policy bound S T → IsAtRestBelow policy bound S T
rests_below policy zero S T sound same = record {
  sound = subst (λ (U : State). IsSound policy U) (sym (state_from_same S T same)) sound;
  settled = λ file before. absurd (omega (arith, before));
  later = λ file from. same.files file;
}
rests_below policy (suc file) S T sound (M, below, settles) =
    let rest = rests_below policy file S M sound below in record {
      sound = sound_settled policy M file T rest.sound settles;
      settled = λ other before. elim (cases_eq other file) [
        | inl is ↦ subst (λ (f : ℕ). IsSettled policy (T.files f)) (sym is) (settled_end policy (M.files file) settles.granted (T.files file) settles.settles)
        | inr differs ↦
            subst (λ (F : FileState). IsSettled policy F) (sym (file_from_same (M.files other) (T.files other) (settles.others other differs)))
            (rest.settled other (omega (arith, before, differs)))
      ];
      later = λ other from.
          SameFile-then (S.files other) (M.files other) (T.files other) (rest.later other (omega (arith, from)))
          (settles.others other (λ is. omega (arith, is, from)));
    }

pub safe_owners_forgotten : (policy : Policy) (S : State) (first last : ℕ) (T : State) → IsSafe policy S → ForgetsOwners policy S first last T
    → AreTicketsOnce T → IsSafe policy T
safe_owners_forgotten policy S first last T safe forgets once =
    let all = forgets.settles in
    let rest = rests_below policy all.bound forgets.between T (sound_stripped policy S (is_within first last) forgets.between safe forgets.strips) all.settles in record {
      compatible = rest.sound.compatible;
      settled = λ file. elim (cases_lt file all.bound) [
        | inl below ↦ rest.settled file below
        | inr past ↦
            subst (λ (F : FileState). IsSettled policy F) (sym (file_from_same (forgets.between.files file) (T.files file) (rest.later file past)))
            (all.beyond file past)
      ];
      free_of_cycles = rest.sound.free_of_cycles;
      once = once;
    }

-- a file without locks and waits moves nothing
gone_moves : (F G : FileState) → SameFile untouched G → MovesFile [] F G
gone_moves F G nothing =
    subst (λ (H : FileState). MovesFile [] F H) (sym (file_from_same untouched G nothing))
    (fewer_move [] F untouched (record { bytes = λ owner byte mode is. (let h : None ≡ Some mode = is in cc); flocks = λ owner mode is. (let h : None ≡ Some mode = is in cc) })
    (none_within F.waits))
  where
    none_within : (waits : List Pending) → IsWithin [] waits
    none_within [] = refl
    none_within (wait ∷ waits) = inl (none_within waits)

pub safe_file_forgotten : (policy : Policy) (S : State) (file : ℕ) (T : State) → IsSafe policy S → ForgetsFile S file T → AreTicketsOnce T → IsSafe policy T
safe_file_forgotten policy S file T safe forgets once =
    safe_with policy file T
    (safe_moved policy [] S file T
    (record { here = gone_moves (S.files file) (T.files file) forgets.nothing; others = forgets.changes.others; crossed = forgets.changes.crossed })
    (safe_but policy file S safe))
    (subst (λ (F : FileState). IsSettled policy F) (sym (file_from_same untouched (T.files file) forgets.nothing)) tt) once
