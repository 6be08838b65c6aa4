-- What a lock and an unlock make of the modes, step by step.
use Rattle.std.proofs.Common.{ℕ, ◌≡◌, ◌+◌, ◌-◌, ◌<◌, ◌≤◌, inl, inr, refl, sym, ap, ◌∙◌, Some, None, arith}
use Rattle.std.proofs.lemmas.Bool.{cases_lt}
use Rattle.range_core.specs.declared.Mode.{Mode}
use Rattle.range_core.specs.declared.Span.{Span}
use Rattle.range_core.specs.Ranges.{Covers, IsConstant, IsRun, Modes, SplitsRun}
use Rattle.owner_runs.specs.Trees.{IsCutOut, IsFreedBehind, IsGapFor, IsNextRun, IsSetOn, IsShortened, IsWhole}

-- two modes of one byte are the same
pub one_mode : (modes : Modes) (byte : ℕ) (mode other : Mode) → modes byte ≡ Some mode → modes byte ≡ Some other → mode ≡ other
one_mode modes byte mode other first second = let both : Some mode ≡ Some other = sym first ∙ second in cc

-- and a byte that has one isn't free
pub not_free : (modes : Modes) (byte : ℕ) (mode : Mode) → modes byte ≡ Some mode → ¬ (modes byte ≡ None)
not_free modes byte mode has none = absurd (let no : Some mode ≡ None = sym has ∙ none in cc)

-- a run that is whole is the largest range of its mode round each of its bytes
pub run_of_whole : (modes : Modes) (run : Mode × Span) (byte : ℕ) → IsWhole modes run → Covers run.1 byte → IsRun modes byte run.0 run.1
run_of_whole modes run byte whole covers = record {
  covered = covers;
  constant = whole.constant;
  largest = λ other around same.
      let from = covers.0 in
      let upto = covers.1 in
      let from_other = around.0 in
      let upto_other = around.1 in (
        elim (cases_lt other.first run.1.first) [
          | inl lower ↦ absurd (whole.before (run.1.first - 1) (omega arith) (same (run.1.first - 1) (omega arith, omega arith)))
          | inr from_there ↦ from_there
        ],
        elim (cases_lt run.1.last other.last) [
          | inl higher ↦ absurd (whole.behind (same (run.1.last + 1) (omega arith, omega arith)))
          | inr upto_there ↦ upto_there
        ],
      );
}

-- a run that lies in the range is taken out
pub cut_whole : (old new : Modes) (run span : Span) → span.first ≤ run.first → run.last ≤ span.last → IsSetOn old new run None → IsCutOut old new run span
cut_whole old new run span from upto set = record {
  both = λ byte a b c d. set.inside byte c d;
  below = λ byte low. set.below byte (omega arith);
  above = λ byte high. set.above byte (omega arith);
  before = set.below;
  behind = set.above;
}

-- of one that reaches beyond it behind just that part stays
pub cut_left : (old new : Modes) (run span piece : Span) → span.first ≤ run.first → run.first ≤ span.last → span.last < run.last → piece ≡ record { first = span.last + 1; last = run.last } → IsShortened old new run piece → IsCutOut old new run span
cut_left old new run span piece from begins beyond is short =
    let piece_first : piece.first ≡ span.last + 1 = ap (λ (s : Span). s.first) is in
    let piece_last : piece.last ≡ run.last = ap (λ (s : Span). s.last) is in
    record {
      both = λ byte a b c d. short.before byte c (omega arith);
      below = λ byte low. short.below byte (omega arith);
      above = λ byte high. elim (cases_lt run.last byte) [
        | inl beyond ↦ short.above byte beyond
        | inr there ↦ short.within byte (omega arith) (omega arith)
      ];
      before = short.below;
      behind = short.above;
    }

-- of one that reaches beyond it before just that part stays
pub cut_right : (old new : Modes) (run span piece : Span) → run.first < span.first → run.last ≤ span.last → span.first ≤ run.last → piece ≡ record { first = run.first; last = span.first - 1 } → IsShortened old new run piece → IsCutOut old new run span
cut_right old new run span piece beyond upto reaches is short =
    let piece_first : piece.first ≡ run.first = ap (λ (s : Span). s.first) is in
    let piece_last : piece.last ≡ span.first - 1 = ap (λ (s : Span). s.last) is in
    record {
      both = λ byte a b c d. short.behind byte (omega arith) d;
      below = λ byte low. elim (cases_lt byte run.first) [
        | inl lower ↦ short.below byte lower
        | inr from ↦ short.within byte (omega arith) (omega arith)
      ];
      above = λ byte high. short.above byte (omega arith);
      before = short.below;
      behind = short.above;
    }

-- of one that reaches beyond it at both ends the part before it stays first, which leaves a gap for the part behind it
pub gap_for_rest : (old mid : Modes) (run : Mode × Span) (span piece rest : Span) → run.1.first < span.first → span.first ≤ span.last → span.last < run.1.last → piece ≡ record { first = run.1.first; last = span.first - 1 }
    → rest ≡ record { first = span.last + 1; last = run.1.last } → IsWhole old run → IsShortened old mid run.1 piece → IsGapFor mid run.0 rest
gap_for_rest old mid run span piece rest before some behind is rest_is whole short =
    let piece_last : piece.last ≡ span.first - 1 = ap (λ (s : Span). s.last) is in
    let rest_first : rest.first ≡ span.last + 1 = ap (λ (s : Span). s.first) rest_is in
    let rest_last : rest.last ≡ run.1.last = ap (λ (s : Span). s.last) rest_is in
    record {
      free = λ byte from upto. short.behind byte (omega arith) (omega arith);
      before = λ byte next has. not_free mid byte run.0 has (short.behind byte (omega arith) (omega arith));
      behind = λ has.
          let next : rest.last + 1 ≡ run.1.last + 1 = omega arith in
          let there : mid (run.1.last + 1) ≡ Some run.0 = rw next at has in
          whole.behind (sym (short.above (run.1.last + 1) (omega arith)) ∙ there);
    }

pub cut_both : (old mid new : Modes) (run : Mode × Span) (span piece rest : Span) → run.1.first < span.first → span.first ≤ span.last → span.last < run.1.last → piece ≡ record { first = run.1.first; last = span.first - 1 }
    → rest ≡ record { first = span.last + 1; last = run.1.last } → IsConstant old run.1 run.0 → IsShortened old mid run.1 piece → IsSetOn mid new rest (Some run.0) → IsCutOut old new run.1 span
cut_both old mid new run span piece rest before some behind is rest_is constant short set =
    let piece_first : piece.first ≡ run.1.first = ap (λ (s : Span). s.first) is in
    let piece_last : piece.last ≡ span.first - 1 = ap (λ (s : Span). s.last) is in
    let rest_first : rest.first ≡ span.last + 1 = ap (λ (s : Span). s.first) rest_is in
    let rest_last : rest.last ≡ run.1.last = ap (λ (s : Span). s.last) rest_is in
    record {
      both = λ byte a b c d. set.below byte (omega arith) ∙ short.behind byte (omega arith) d;
      below = λ byte low. set.below byte (omega arith) ∙ elim (cases_lt byte run.1.first) [
        | inl lower ↦ short.below byte lower
        | inr from ↦ short.within byte (omega arith) (omega arith)
      ];
      above = λ byte high. elim (cases_lt run.1.last byte) [
        | inl beyond ↦ set.above byte (omega arith) ∙ short.above byte beyond
        | inr there ↦ set.inside byte (omega arith) (omega arith) ∙ sym (constant byte (omega arith, there))
      ];
      before = λ byte low. set.below byte (omega arith) ∙ short.below byte low;
      behind = λ byte high. set.above byte (omega arith) ∙ short.above byte high;
    }

-- so far an unlock has removed the modes of the bytes before this one, and used up no room
pub record IsUnlockedUpto (initial old : Modes) (span : Span) (first : ℕ) : Type 0 where
  pub from : span.first ≤ first
  pub upto : first ≤ span.last
  pub done : (byte : ℕ) → span.first ≤ byte → byte < first → old byte ≡ None
  pub below : (byte : ℕ) → byte < span.first → old byte ≡ initial byte
  pub above : (byte : ℕ) → first ≤ byte → old byte ≡ initial byte

-- at first it has removed none
pub unlocked_none : (modes : Modes) (span : Span) → span.first ≤ span.last → IsUnlockedUpto modes modes span span.first
unlocked_none modes span some = record {
  from = omega arith;
  upto = some;
  done = λ byte from upto. absurd (omega arith);
  below = λ byte low. refl;
  above = λ byte from. refl;
}

-- a run is cut at both ends only by the whole range, and then it is split
pub splits_whole : (initial old : Modes) (span : Span) (first : ℕ) (run : Mode × Span) → IsUnlockedUpto initial old span first → IsNextRun old first run → run.1.first < first → span.last < run.1.last → SplitsRun initial span
splits_whole initial old span first run unlocked next before behind =
    let from = unlocked.from in
    let upto = unlocked.upto in
    let reaches = next.reaches in
    let whole = next.whole in
    let at_first : first ≡ span.first = elim (cases_lt span.first first) [
      | inl done ↦ absurd (elim (cases_lt run.1.first span.first) [
        | inl lower ↦ not_free old span.first run.0 (whole.constant span.first (omega arith, omega arith)) (unlocked.done span.first (omega arith) done)
        | inr higher ↦ not_free old run.1.first run.0 (whole.constant run.1.first (omega arith, omega arith)) (unlocked.done run.1.first higher before)
      ])
      | inr start ↦ omega arith
    ] in
    record {
      mode = run.0;
      around = run.1;
      before = omega arith;
      behind = behind;
      constant = λ byte covers.
          let same : old byte ≡ initial byte = elim (cases_lt byte span.first) [ inl low ↦ unlocked.below byte low | inr high ↦ unlocked.above byte (omega arith) ] in
          sym same ∙ whole.constant byte covers;
    }

-- a byte of the range that is left has no mode once the run is cut out, where it lies before the run or on it
cut_byte : (old new : Modes) (span left : Span) (run : Mode × Span) (byte : ℕ) → IsNextRun old left.first run → IsCutOut old new run.1 left → left.first ≤ byte → byte ≤ left.last → byte ≤ run.1.last → new byte ≡ None
cut_byte old new span left run byte next cut from upto upto_run = elim (cases_lt byte run.1.first) [
  | inl free ↦ cut.before byte free ∙ next.free byte from free
  | inr on ↦ cut.both byte from upto on upto_run
]

-- the next run is cut out, and the bytes behind it are left
pub unlocked_more : (initial old new : Modes) (span left : Span) (run : Mode × Span) → left.last ≡ span.last → IsUnlockedUpto initial old span left.first → IsNextRun old left.first run → IsCutOut old new run.1 left → run.1.last < span.last
    → IsUnlockedUpto initial new span (run.1.last + 1)
unlocked_more initial old new span left run last unlocked next cut more =
    let from_first = unlocked.from in
    let upto_last = unlocked.upto in
    let reaches = next.reaches in
    record {
      from = omega arith;
      upto = omega arith;
      done = λ byte from upto. elim (cases_lt byte left.first) [
        | inl low ↦ cut.below byte low ∙ unlocked.done byte from low
        | inr high ↦ cut_byte old new span left run byte next cut high (omega arith) (omega arith)
      ];
      below = λ byte low. cut.below byte (omega arith) ∙ unlocked.below byte low;
      above = λ byte from. cut.behind byte (omega arith) ∙ unlocked.above byte (omega arith);
    }

-- where it ends at the range's end or behind it, all is done
pub unlocked_last : (initial old new : Modes) (span left : Span) (run : Mode × Span) → left.last ≡ span.last → IsUnlockedUpto initial old span left.first → IsNextRun old left.first run → IsCutOut old new run.1 left → span.last ≤ run.1.last
    → IsSetOn initial new span None
unlocked_last initial old new span left run last unlocked next cut all =
    let from_first = unlocked.from in
    let upto_last = unlocked.upto in
    record {
      inside = λ byte from upto. elim (cases_lt byte left.first) [
        | inl low ↦ cut.below byte low ∙ unlocked.done byte from low
        | inr high ↦ cut_byte old new span left run byte next cut high (omega arith) (omega arith)
      ];
      below = λ byte low. cut.below byte (omega arith) ∙ unlocked.below byte low;
      above = λ byte high. cut.above byte (omega arith) ∙ unlocked.above byte (omega arith);
    }

-- and where no run meets what is left
pub unlocked_all : (initial old : Modes) (span : Span) (first : ℕ) → IsUnlockedUpto initial old span first → ((byte : ℕ) → first ≤ byte → byte ≤ span.last → old byte ≡ None) → IsSetOn initial old span None
unlocked_all initial old span first unlocked none =
    let upto_last = unlocked.upto in
    record {
      inside = λ byte from upto. elim (cases_lt byte first) [
        | inl low ↦ unlocked.done byte from low
        | inr high ↦ none byte high upto
      ];
      below = unlocked.below;
      above = λ byte high. unlocked.above byte (omega arith);
    }

-- the next run, which begins right behind the range, is taken out
pub freed_behind : (old new : Modes) (mode : Mode) (byte : ℕ) (run : Mode × Span) → run.0 ≡ mode → run.1.first ≡ byte + 1 → run.1.first ≤ run.1.last → IsWhole old run → IsSetOn old new run.1 None
    → IsFreedBehind old new mode byte run.1.last
freed_behind old new mode byte run is starts some whole set = record {
  ordered = omega arith;
  had = λ other from upto. whole.constant other (omega arith, upto) ∙ ap Some is;
  freed = λ other from upto. set.inside other (omega arith) upto;
  below = λ other upto. set.below other (omega arith);
  above = set.above;
  ends = λ has. whole.behind (sym (set.above (run.1.last + 1) (omega arith)) ∙ has ∙ ap Some (sym is));
}

-- modes that are the same on each byte have the same runs to split
pub splits_alike : (modes other : Modes) (span : Span) → ((byte : ℕ) → other byte ≡ modes byte) → SplitsRun other span → SplitsRun modes span
splits_alike modes other span same splits = record {
  mode = splits.mode;
  around = splits.around;
  before = splits.before;
  behind = splits.behind;
  constant = λ byte on. sym (same byte) ∙ splits.constant byte on;
}

-- where a run is split, its first byte in the range has its mode
pub split_has : (modes : Modes) (span : Span) → span.first ≤ span.last → (splits : SplitsRun modes span) → modes span.first ≡ Some splits.mode
split_has modes span some splits =
    let before = splits.before in
    let behind = splits.behind in
    splits.constant span.first (omega arith, omega arith)

-- and the run there reaches beyond it at both ends
pub split_reaches : (modes : Modes) (span : Span) (run : Mode × Span) → span.first ≤ span.last → SplitsRun modes span → IsNextRun modes span.first run → run.1.first ≤ span.first → (run.1.first < span.first) × (span.last < run.1.last)
split_reaches modes span run some splits next begins =
    let before = splits.before in
    let behind = splits.behind in
    let reaches = next.reaches in
    let same = one_mode modes span.first run.0 splits.mode (next.whole.constant span.first (begins, reaches)) (split_has modes span some splits) in (
      elim (cases_lt run.1.first span.first) [
        | inl less ↦ less
        | inr from ↦
            let prior : (run.1.first - 1) + 1 ≡ run.1.first = omega arith in
            absurd (next.whole.before (run.1.first - 1) prior (splits.constant (run.1.first - 1) (omega arith, omega arith) ∙ ap Some (sym same)))
      ],
      elim (cases_lt span.last run.1.last) [
        | inl more ↦ more
        | inr upto ↦ absurd (next.whole.behind (splits.constant (run.1.last + 1) (omega arith, omega arith) ∙ ap Some (sym same)))
      ],
    )
