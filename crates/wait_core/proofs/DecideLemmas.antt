-- Who waits for whom by a lock can be decided, and which waits are blocked. So what is told of it is known, where it is only known that it is told:
-- for `Waits::is_blocked_among`, `Waits::is_led_back`, `Waits::next_ready_among` and `Waits::next_ready_on_changed`.
use Rattle.wait_core.proofs.Common.{common_steps, ℕ, ◌≡◌, ◌≢◌, ◌⊎◌, inl, inr, arith, List, [], ◌∷◌, ◌++◌, Any, Option, Some, None, slice_get, ∥∥₁_elim, ∥∥₁_map, cases_eq, cases_lt, cases_Bool, Mode, Span, Owner, Bytes, Policy, Held, Queue, Wait, Waits, Locks, byte_modes_at, locks_of, IsBlocked, Meet, WaitsConflict, WaitsFor, IsBlockedWait, waits_of, has_pair, AreTold}
use Rattle.range_core.specs.Ranges.{Conflict}
use Rattle.lock_book.specs.declared.book.Book.{Book}
use Rattle.lock_book.specs.Conflicts.{ByteConflict, FlockConflict}
use Rattle.lock_book.specs.Decided.{ByteConflictIsDecided, FlockConflictIsDecided, ProcessBlocksIsDecided}
use Rattle.wait_core.specs.declared.Family.{Family}
use Rattle.wait_core.specs.declared.Family.TheVariants.{Whole}
use Rattle.wait_core.specs.Locks.{flock_modes_at}
use Rattle.wait_core.specs.Blocking.{IsBlockedIn}
use Rattle.wait_core.specs.Settled.{AllBlockedWhere}
use Rattle.wait_core.proofs.AnyLemmas.{Any-nil, Any-here, Any-there, Any-cons}
use Rattle.wait_core.proofs.PairLemmas.{blocked_wait, waits_by_lock}

-- two owners are one, or not
pub same_or_other : (one other : Owner) → (one ≡ other) ⊎ (one ≢ other)
same_or_other one other = grind (arith, common_steps, cases_eq)

-- two modes conflict, or not
conflict_or_not : (held wanted : Mode) → Conflict held wanted ⊎ ¬ Conflict held wanted
conflict_or_not held wanted = grind (arith, common_steps)

-- whether something holds of some wait
pub any_or_not : (P : Wait → Type 0) → ((wait : Wait) → P wait ⊎ ¬ P wait) → (waits : List Wait) → Any P waits ⊎ ¬ Any P waits
any_or_not P each [] = inr (Any-nil P)
any_or_not P each (wait ∷ waits) = elim (each wait) [
  | inl here ↦ inl (Any-here P wait waits here)
  | inr not_here ↦ elim (any_or_not P each waits) [
    | inl there ↦ inl (Any-there P wait waits there)
    | inr none ↦ inr (λ any. elim (Any-cons P wait waits any) [ inl here ↦ not_here here | inr there ↦ none there ])
  ]
]

blocked_wait_or_not : ProcessBlocksIsDecided → (locks : Locks) (p q : ℕ) (wait : Wait) → IsBlockedWait locks p q wait ⊎ ¬ IsBlockedWait locks p q wait
blocked_wait_or_not processes locks p q wait = grind (arith, common_steps, cases_eq, same_or_other)

-- whether a process waits for another by a lock
pub waits_or_not : ProcessBlocksIsDecided → (locks : Locks) (waits : List Wait) (p q : ℕ) → WaitsFor Held locks waits p q ⊎ ¬ WaitsFor Held locks waits p q
waits_or_not processes locks waits p q = elim (any_or_not (IsBlockedWait locks p q) (blocked_wait_or_not processes locks p q) waits) [
  | inl any ↦ inl (waits_by_lock locks waits p q any)
  | inr none ↦ inr (λ for. none (blocked_wait locks waits p q for))
]

-- so a table that is known to tell the pairs tells them
pub told_known : ProcessBlocksIsDecided → (waits : Waits) (locks : Locks) → ∥ AreTold waits locks ∥₁ → AreTold waits locks
told_known processes waits locks known = record {
  pairs = λ p q p_few q_one q_few. elim (waits_or_not processes locks (waits_of waits) p q) [
    | inl for ↦ (
      λ has. for,
      λ again. elim (cases_Bool (has_pair waits p q)) [
        | inl has ↦ has
        | inr missing ↦ absurd (∥∥₁_elim known (λ x y. absurd x) (λ told. (let has = (told.pairs p q p_few q_one q_few).1 for in cc)))
      ],
    )
    | inr none ↦ (
      λ has. absurd (∥∥₁_elim known (λ x y. absurd x) (λ told. none ((told.pairs p q p_few q_one q_few).0 has))),
      λ for. absurd (none for),
    )
  ];
}

-- whether the locks of a book, if there is one, block a lock
bytes_or_not : ByteConflictIsDecided → (book : Option Book) (owner : Owner) (span : Span) (wanted : Mode)
    → ByteConflict (byte_modes_at book) owner span wanted ⊎ ¬ ByteConflict (byte_modes_at book) owner span wanted
bytes_or_not bytes None owner span wanted = inr (λ conflict. conflict.blocks.conflicts)
bytes_or_not bytes (Some book) owner span wanted = bytes book owner span wanted

flocks_or_not : FlockConflictIsDecided → (book : Option Book) (owner : Owner) (wanted : Mode)
    → FlockConflict (flock_modes_at book) owner wanted ⊎ ¬ FlockConflict (flock_modes_at book) owner wanted
flocks_or_not flocks None owner wanted = inr (λ conflict. conflict.conflicts)
flocks_or_not flocks (Some book) owner wanted = flocks book owner wanted

blocked_in_or_not : ByteConflictIsDecided → FlockConflictIsDecided → (books : List Book) (family : Family) (wait : Wait)
    → IsBlockedIn family (locks_of books) wait ⊎ ¬ IsBlockedIn family (locks_of books) wait
blocked_in_or_not bytes flocks books Bytes wait = bytes_or_not bytes (slice_get books wait.file) wait.owner wait.span wait.mode
blocked_in_or_not bytes flocks books Whole wait = flocks_or_not flocks (slice_get books wait.file) wait.owner wait.mode

-- whether two ranges meet
meet_or_not : (family : Family) (one other : Span) → Meet family one other ⊎ ¬ Meet family one other
meet_or_not family one other = grind (arith, common_steps, cases_lt)

same_family_or_not : (one other : Family) → (one ≡ other) ⊎ (one ≢ other)
same_family_or_not one other = grind (arith, common_steps)

-- whether two waits conflict
pub waits_conflict_or_not : (v w : Wait) → WaitsConflict v w ⊎ ¬ WaitsConflict v w
waits_conflict_or_not v w = elim (cases_eq v.file w.file) [
  | inr differs ↦ inr (λ conflict. differs conflict.file)
  | inl file ↦ elim (same_family_or_not v.family w.family) [
    | inr differs ↦ inr (λ conflict. differs conflict.family)
    | inl family ↦ elim (same_or_other v.owner w.owner) [
      | inl same ↦ inr (λ conflict. conflict.owners same)
      | inr owners ↦ elim (conflict_or_not v.mode w.mode) [
        | inr none ↦ inr (λ conflict. none conflict.modes)
        | inl modes ↦ elim (meet_or_not w.family v.span w.span) [
          | inr apart ↦ inr (λ conflict. apart conflict.ranges)
          | inl ranges ↦ inl (record { file = file; family = family; owners = owners; modes = modes; ranges = ranges })
        ]
      ]
    ]
  ]
]

-- whether a wait is blocked
blocked_or_not : ByteConflictIsDecided → FlockConflictIsDecided → (policy : Policy) (books : List Book) (earlier : List Wait) (wait : Wait)
    → IsBlocked policy (locks_of books) earlier wait ⊎ ¬ IsBlocked policy (locks_of books) earlier wait
blocked_or_not bytes flocks Held books earlier wait = blocked_in_or_not bytes flocks books wait.family wait
blocked_or_not bytes flocks Queue books earlier wait = elim (blocked_in_or_not bytes flocks books wait.family wait) [
  | inl by_lock ↦ inl (inl by_lock)
  | inr no_lock ↦ elim (any_or_not (λ v. WaitsConflict v wait) (λ v. waits_conflict_or_not v wait) earlier) [
    | inl by_wait ↦ inl (inr by_wait)
    | inr no_wait ↦ inr (λ blocked. elim blocked [ inl by_lock ↦ no_lock by_lock | inr by_wait ↦ no_wait by_wait ])
  ]
]

-- what is decided holds where it is only known that it holds
known : {P : Type 0} → P ⊎ ¬ P → ∥ P ∥₁ → P
known (inl holds) merely = holds
known (inr not) merely = absurd (∥∥₁_elim merely (λ x y. absurd x) not)

-- so waits that are known to be blocked are
pub blocked_known : ByteConflictIsDecided → FlockConflictIsDecided → (Holds : Wait → Type 0) (policy : Policy) (books : List Book) (earlier waits : List Wait)
    → ∥ AllBlockedWhere Holds policy (locks_of books) earlier waits ∥₁ → AllBlockedWhere Holds policy (locks_of books) earlier waits
blocked_known bytes flocks Holds policy books earlier [] merely = tt
blocked_known bytes flocks Holds policy books earlier (wait ∷ waits) merely = (
  λ holds. known (blocked_or_not bytes flocks policy books earlier wait) (∥∥₁_map merely (λ all. all.0 holds)),
  blocked_known bytes flocks Holds policy books (earlier ++ wait ∷ []) waits (∥∥₁_map merely (λ all. all.1)),
)
