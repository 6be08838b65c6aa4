-- A history as a source gives it: for `ended`, `read_history` and `read_past`.
use Rattle.std.proofs.Common.{◌≡◌, ◌≤◌, ℕ, ◌+◌, Bool, List, [], ◌∷◌, ◌++◌, Option, Result, Ok, Err, IfOk, IfErr, IsErrAnd, MatchResult, length, take, refl, sym, subst, inl, inr, arith, append-nil, length-append}
use Rattle.std.specs.Io.KnownBytes.{Consumes, IsAtEnd}
use Rattle.std.proofs.KnownBytes.{Consumes-trans, Consumes-nil}
use Rattle.history_core.specs.declared.search.SearchFault.{SearchFault}
use Rattle.history_core.specs.declared.search.SearchFault.TheVariants as searches
use Rattle.history_check.specs.declared.check.HistoryCheck.{HistoryCheck}
use Rattle.history_check.specs.declared.judging.Judging.{Judging}
use Rattle.history_check.specs.Checked.{HasChecked, HasJudged, IsLimited, lines_in, verdict_in}
use Rattle.history_check.specs.Verdicts.{AreJudged, IsSound, history_limit}
use Rattle.history_run.specs.declared.runs.HistoryFault.{HistoryFault}
use Rattle.history_run.specs.declared.runs.HistoryFault.TheVariants as faults
use Rattle.history_run.specs.HistoryRuns.{Exceeds, IsEndFault, IsRead, IsReadFault, IsReadTo, fault_of}

-- nothing was read
pub nothing_read : (judging : Judging) (source : Option (List ℕ)) (check : HistoryCheck) (left : ℕ) → HasChecked judging check []
    → left ≡ history_limit → lines_in check ≡ 0 → IsReadTo judging source source check left
nothing_read judging source check left checked all none = record {
  input = [];
  consumed = Consumes-nil source;
  count = omega (arith, all);
  checked = checked;
  few = omega (arith, none);
}

-- some more was read and judged
pub more_read : (judging : Judging) (old mid new : Option (List ℕ)) (before after : HistoryCheck) (left rest : ℕ) (more : List ℕ)
    → IsReadTo judging old mid before left → Consumes mid new more → rest + length more ≡ left
    → ((front : List ℕ) → HasChecked judging before front → HasChecked judging after (front ++ more))
    → lines_in after ≤ lines_in before + length more → IsReadTo judging old new after rest
more_read judging old mid new before after left rest more so_far consumed count checked few =
    let all = length-append so_far.input more in record {
      input = so_far.input ++ more;
      consumed = Consumes-trans old mid new so_far.input more so_far.consumed consumed;
      count = omega (arith, so_far.count, count, all);
      checked = checked so_far.input so_far.checked;
      few = omega (arith, so_far.few, few, all);
    }

-- no byte more changes nothing
still_checked : (judging : Judging) (check : HistoryCheck) (front : List ℕ) → HasChecked judging check front → HasChecked judging check (front ++ [])
still_checked judging check front checked = subst (HasChecked judging check) (sym (append-nil front)) checked

short : (judging : Judging) (old new : Option (List ℕ)) (check : HistoryCheck) (left : ℕ) (so_far : IsReadTo judging old new check left)
    → length so_far.input ≤ history_limit
short judging old new check left so_far = omega (arith, so_far.count)

-- what was read decides
pub decided_read : (judging : Judging) (old new : Option (List ℕ)) (check : HistoryCheck) (left : ℕ) → IsReadTo judging old new check left
    → ((bytes : List ℕ) → length bytes ≤ history_limit → HasChecked judging check bytes → AreJudged judging bytes (verdict_in check))
    → IsSound judging (verdict_in check) → IsRead judging old new check
decided_read judging old new check left so_far decides sound = record {
  judged = record {
    input = so_far.input;
    consumed = so_far.consumed;
    judged = inr (decides so_far.input (short judging old new check left so_far) so_far.checked);
  };
  sound = sound;
  few = omega (arith, so_far.few, so_far.count);
}

-- it is all, and was judged to its end
pub whole_read : (judging : Judging) (old mid new : Option (List ℕ)) (check last : HistoryCheck) (left : ℕ) → IsReadTo judging old mid check left
    → Consumes mid new [] → IsAtEnd new
    → ((bytes : List ℕ) → length bytes ≤ history_limit → HasChecked judging check bytes → HasJudged judging last bytes)
    → lines_in last ≤ history_limit + 1
    → ((bytes : List ℕ) → HasChecked judging check bytes → IsSound judging (verdict_in last)) → IsRead judging old new last
whole_read judging old mid new check last left so_far consumed at_end judged few sound =
    let all = more_read judging old mid new check check left left [] so_far consumed (omega arith) (still_checked judging check) (omega arith) in record {
      judged = record {
        input = all.input;
        consumed = all.consumed;
        judged = inl (at_end, judged all.input (short judging old new check left all) all.checked);
      };
      sound = sound so_far.input so_far.checked;
      few = few;
    }

-- it is longer than a history may be
pub past_read : (judging : Judging) (old mid new : Option (List ℕ)) (check last : HistoryCheck) (byte : ℕ) → IsReadTo judging old mid check 0
    → Consumes mid new (byte ∷ [])
    → ((bytes : List ℕ) (byte : ℕ) → length bytes ≡ history_limit → HasChecked judging check bytes → AreJudged judging (bytes ++ byte ∷ []) (verdict_in last))
    → lines_in last ≡ lines_in check → IsSound judging (verdict_in last) → IsRead judging old new last
past_read judging old mid new check last byte so_far consumed cut few sound = record {
  judged = record {
    input = so_far.input ++ byte ∷ [];
    consumed = Consumes-trans old mid new so_far.input (byte ∷ []) so_far.consumed consumed;
    judged = inr (cut so_far.input byte (omega (arith, so_far.count)) so_far.checked);
  };
  sound = sound;
  few = omega (arith, few, so_far.few, so_far.count);
}

-- no byte was given
pub no_bytes : (mid new : Option (List ℕ)) (room : List ℕ) (count : ℕ) → count ≡ 0 → Consumes mid new (take count room) → Consumes mid new []
no_bytes mid new room count is consumed = subst (λ (n : ℕ). Consumes mid new (take n room)) is consumed

-- the limit is reached by what was read
pub limit_read : (judging : Judging) (old mid new : Option (List ℕ)) (check : HistoryCheck) (left : ℕ) (more : List ℕ)
    → IsReadTo judging old mid check left → Consumes mid new more
    → ((front : List ℕ) → HasChecked judging check front → IsLimited judging (front ++ more)) → Exceeds judging old new
limit_read judging old mid new check left more so_far consumed limit = record {
  input = so_far.input ++ more;
  consumed = Consumes-trans old mid new so_far.input more so_far.consumed consumed;
  limited = limit so_far.input so_far.checked;
}

-- ---- faults

-- why what was read can't be judged to its end
pub end_fault_read : (judging : Judging) (old mid new : Option (List ℕ)) (check : HistoryCheck) (left : ℕ) (failed : Bool) (fault : HistoryFault)
    → IsReadTo judging old mid check left → Consumes mid new []
    → ((bytes : List ℕ) → length bytes ≤ history_limit → HasChecked judging check bytes → IsEndFault judging bytes fault)
    → IsReadFault judging old new failed fault
end_fault_read judging old mid new check left failed faults.Limit so_far consumed is =
    let all = more_read judging old mid new check check left left [] so_far consumed (omega arith) (still_checked judging check) (omega arith) in
    record { input = all.input; consumed = all.consumed; limited = is all.input (short judging old new check left all) all.checked }
end_fault_read judging old mid new check left failed (faults.Memory memory) so_far consumed is = tt
end_fault_read judging old mid new check left failed faults.Read so_far consumed is =
    absurd (is so_far.input (short judging old mid check left so_far) so_far.checked)
end_fault_read judging old mid new check left failed faults.Write so_far consumed is =
    absurd (is so_far.input (short judging old mid check left so_far) so_far.checked)

-- why more bytes weren't judged
pub take_fault_read : (judging : Judging) (old mid new : Option (List ℕ)) (check : HistoryCheck) (left : ℕ) (failed : Bool) (more : List ℕ) (search : SearchFault)
    → IsReadTo judging old mid check left → Consumes mid new more
    → (search ≡ searches.Limit → (front rest : List ℕ) → HasChecked judging check front → IsLimited judging (front ++ more ++ rest))
    → IsReadFault judging old new failed (fault_of search)
take_fault_read judging old mid new check left failed more searches.Limit so_far consumed limit =
    limit_read judging old mid new check left more so_far consumed
    (λ front checked. subst (IsLimited judging) (append-nil (front ++ more)) (limit refl front [] checked))
take_fault_read judging old mid new check left failed more (searches.Memory memory) so_far consumed limit = tt

-- ---- where a call may have failed

-- what was read to its end
pub whole_where : (result : Result HistoryCheck HistoryFault) (judging : Judging) (old mid new : Option (List ℕ)) (check : HistoryCheck) (left : ℕ)
    → IsReadTo judging old mid check left → Consumes mid new [] → IsAtEnd new
    → ((bytes : List ℕ) → length bytes ≤ history_limit → HasChecked judging check bytes
    → MatchResult result (λ last. HasJudged judging last bytes) (IsEndFault judging bytes))
    → IfOk result (λ last. lines_in last ≤ history_limit + 1)
    → ((bytes : List ℕ) → HasChecked judging check bytes → IfOk result (λ last. IsSound judging (verdict_in last)))
    → IfOk result (IsRead judging old new)
whole_where (Ok last) judging old mid new check left so_far consumed at_end judged few sound =
    whole_read judging old mid new check last left so_far consumed at_end judged few sound
whole_where (Err fault) judging old mid new check left so_far consumed at_end judged few sound = tt

-- or why it wasn't judged
pub fault_where : (result : Result HistoryCheck HistoryFault) (judging : Judging) (old mid new : Option (List ℕ)) (check : HistoryCheck) (left : ℕ)
    (failed : Bool) → IsReadTo judging old mid check left → Consumes mid new []
    → ((bytes : List ℕ) → length bytes ≤ history_limit → HasChecked judging check bytes
    → MatchResult result (λ last. HasJudged judging last bytes) (IsEndFault judging bytes)) → IfErr result (IsReadFault judging old new failed)
fault_where (Ok last) judging old mid new check left failed so_far consumed judged = tt
fault_where (Err fault) judging old mid new check left failed so_far consumed judged =
    end_fault_read judging old mid new check left failed fault so_far consumed judged

-- or why more of it wasn't
pub take_where : (result : Result HistoryCheck HistoryFault) (judging : Judging) (old mid new : Option (List ℕ)) (check : HistoryCheck) (left : ℕ)
    (failed : Bool) (more : List ℕ) (search : SearchFault) → IsErrAnd result (λ fault. fault ≡ fault_of search)
    → IsReadTo judging old mid check left → Consumes mid new more
    → (search ≡ searches.Limit → (front rest : List ℕ) → HasChecked judging check front → IsLimited judging (front ++ more ++ rest))
    → IfErr result (IsReadFault judging old new failed)
take_where (Ok last) judging old mid new check left failed more search is so_far consumed limit = tt
take_where (Err fault) judging old mid new check left failed more search is so_far consumed limit =
    subst (IsReadFault judging old new failed) (sym is) (take_fault_read judging old mid new check left failed more search so_far consumed limit)
