-- A last close, owner by owner: for `close` and the server's `release`.
use Rattle.lock_server.proofs.Common.{rules, ℕ, ◌≡◌, ◌≢◌, ◌+◌, ◌<◌, ◌≤◌, ◌∙◌, inl, inr, sym, ap, refl, subst, arith, Bool, true, false, Option, Some, None, [], common_steps, ◌&&◌, ◌||◌, if◌then◌else◌, cases_eq, cases_lt, eq-eqb, ne_eqb, Mode, Bytes, Whole, ReleasesOn, SeesOn, State, HasDetected, Crosses}
use Rattle.std.specs.Prelude.{◌==◌}
use Rattle.lock_server.specs.Closing.{ClosesOn, is_through}
use Rattle.lock_server.specs.Openings.{ForgetsThrough, is_number}
use Rattle.lock_server.proofs.CompatibleLemmas.{still_held}
use Rattle.lock_server.proofs.SafeLemmas.{Moves, fewer_move, same_waits}
use Rattle.lock_server.proofs.SettleLemmas.{crosses_then}
use Rattle.lock_server.proofs.StateLemmas.{SameFile-itself, SameFile-then}

-- nobody loses a lock where nothing changes
pub closes_nobody : (S : State) (file : ℕ) → Crosses S [] S → ClosesOn S file (λ other. false) None S
closes_nobody S file crossed = grind (arith, common_steps, SameFile-itself)

-- one owner is released
pub closes_one : (S : State) (file owner : ℕ) (T : State) → ReleasesOn S file Bytes owner T → ClosesOn S file (λ other. owner == other) None T
closes_one S file owner T releases = grind (arith, common_steps)

-- one flock owner is released
pub closes_flock : (S : State) (file owner : ℕ) (T : State) → ReleasesOn S file Whole owner T → ClosesOn S file (λ other. false) (Some owner) T
closes_flock S file owner T releases = grind (arith, common_steps)

-- the same owners, by another test
pub closes_for : (S : State) (file : ℕ) (gone same : ℕ → Bool) (flock_owner : Option ℕ) (T : State) → ((owner : ℕ) → same owner ≡ gone owner)
    → ClosesOn S file gone flock_owner T → ClosesOn S file same flock_owner T
closes_for S file gone same flock_owner T is closes = subst (λ (test : ℕ → Bool). ClosesOn S file test flock_owner T) (λ i owner. sym (is owner) i) closes

either_gone : (one more : Bool) (held : Option Mode) → (if more then None else (if one then None else held)) ≡ (if one || more then None else held)
either_gone one more held = grind (arith, common_steps)

-- who has a detected wait after a close had it before
detected_still : (M : State) (file : ℕ) (gone : ℕ → Bool) (flock_owner : Option ℕ) (T : State) → ClosesOn M file gone flock_owner T → (owner : ℕ)
    → HasDetected T owner → HasDetected M owner
detected_still M file gone flock_owner T closes owner has = search (rules, cases_eq)

-- one close behind another
pub closes_then : (S : State) (file : ℕ) (one more : ℕ → Bool) (flock_owner : Option ℕ) (M T : State) → ClosesOn S file one flock_owner M
    → ClosesOn M file more None T
    → ClosesOn S file (λ other. one other || more other) flock_owner T
closes_then S file one more flock_owner M T first next = grind (arith, common_steps, either_gone, SameFile-then, crosses_then, detected_still)

-- what an owner was seen through, unless it was the open file
abbrev pub left_of : ℕ → Option ℕ → Option ℕ
left_of open_file through = if is_number open_file through then None else through

-- the owners below this one that were seen through the open file have lost their byte locks, and are seen there no more
pub record IsClosing (S : State) (was : ℕ → ℕ → Option ℕ) (file open_file next : ℕ) (T : State) (now : ℕ → ℕ → Option ℕ) : Type 0 where
  pub gone : ℕ → Bool
  pub closes : ClosesOn S file gone None T
  pub earlier : (owner : ℕ) → owner < next → gone owner ≡ is_number open_file (was file owner)
  pub later : (owner : ℕ) → next ≤ owner → gone owner ≡ false
  pub seen_earlier : (owner : ℕ) → owner < next → now file owner ≡ left_of open_file (was file owner)
  pub seen_later : (owner : ℕ) → next ≤ owner → now file owner ≡ was file owner
  pub elsewhere : (other_file owner : ℕ) → other_file ≢ file → now other_file owner ≡ was other_file owner

-- at first none
pub closing_none : (S : State) (was : ℕ → ℕ → Option ℕ) (file open_file : ℕ) → Crosses S [] S → IsClosing S was file open_file 0 S was
closing_none S was file open_file crossed = record {
  gone = λ other. false;
  closes = closes_nobody S file crossed;
  earlier = λ owner none. absurd (omega (arith, none));
  later = λ owner from. refl;
  seen_earlier = λ owner none. absurd (omega (arith, none));
  seen_later = λ owner from. refl;
  elsewhere = λ other_file owner differs. refl;
}

or_false : (a b : Bool) → b ≡ false → (a || b) ≡ a
or_false true b none = refl
or_false false b none = none

and_true : (a b : Bool) → a ≡ true → (a && b) ≡ b
and_true a b is = ap (λ (t : Bool). t && b) is

and_false : (a b : Bool) → a ≡ false → (a && b) ≡ false
and_false a b isnt = ap (λ (t : Bool). t && b) isnt

or_left_false : (a b : Bool) → a ≡ false → (a || b) ≡ b
or_left_false a b isnt = ap (λ (t : Bool). t || b) isnt

-- who loses locks where one owner is looked at
abbrev pub closed_one : ℕ → Bool → ℕ → Bool
closed_one owner came other = owner == other && came

-- the next owner that is known
pub closing_more : (S : State) (was : ℕ → ℕ → Option ℕ) (file open_file next : ℕ) (M : State) (now : ℕ → ℕ
    → Option ℕ) (owner : ℕ) (T : State) (new : ℕ → ℕ → Option ℕ)
    → IsClosing S was file open_file next M now → next ≤ owner → ((other : ℕ) → next ≤ other → other < owner → now file other ≡ None)
    → ClosesOn M file (closed_one owner (is_number open_file (now file owner))) None T
    → SeesOn now new file owner (left_of open_file (now file owner)) → IsClosing S was file open_file (owner + 1) T new
closing_more S was file open_file next M now owner T new so_far from none closes sees = record {
  gone = λ other. so_far.gone other || closed_one owner came other;
  closes = closes_then S file so_far.gone (closed_one owner came) None M T so_far.closes closes;
  earlier = λ other before. elim (cases_lt other next) [
    | inl below ↦ another other (omega arith) ∙ so_far.earlier other below
    | inr past ↦ elim (cases_eq other owner) [
      | inl is ↦
          subst (λ (o : ℕ). (so_far.gone o || closed_one owner came o) ≡ is_number open_file (was file o)) (sym is)
          (or_left_false (so_far.gone owner) (closed_one owner came owner) (so_far.later owner from)
          ∙ and_true (owner == owner) came (eq-eqb owner owner refl) ∙ ap (is_number open_file) (so_far.seen_later owner from))
      | inr differs ↦ another other differs ∙ so_far.later other past ∙ ap (is_number open_file) (sym (none other past (omega arith)) ∙ so_far.seen_later other past)
    ]
  ];
  later = λ other past. another other (omega arith) ∙ so_far.later other (omega arith);
  seen_earlier = λ other before. elim (cases_lt other next) [
    | inl below ↦ sees.others other (omega arith) ∙ so_far.seen_earlier other below
    | inr past ↦ elim (cases_eq other owner) [
      | inl is ↦ subst (λ (o : ℕ). new file o ≡ left_of open_file (was file o)) (sym is) (sees.here ∙ ap (left_of open_file) (so_far.seen_later owner from))
      | inr differs ↦
          (let unknown = none other past (omega arith) in
          sees.others other differs ∙ unknown ∙ ap (left_of open_file) (sym unknown ∙ so_far.seen_later other past))
    ]
  ];
  seen_later = λ other past. sees.others other (omega arith) ∙ so_far.seen_later other (omega arith);
  elsewhere = λ other_file other differs. sees.elsewhere other_file other differs ∙ so_far.elsewhere other_file other differs;
}
  where
    came : Bool
    came = is_number open_file (now file owner)

    another : (other : ℕ) → other ≢ owner → (so_far.gone other || closed_one owner came other) ≡ so_far.gone other
    another other differs =
        or_false (so_far.gone other) (closed_one owner came other)
        (and_false (owner == other) came (ne_eqb owner other (λ is. differs (sym is))))

-- from here on no owner is known on the file
pub all_closed : (S : State) (was : ℕ → ℕ → Option ℕ) (file open_file next : ℕ) (T : State) (now : ℕ → ℕ → Option ℕ) → IsClosing S was file open_file next T now
    → ((owner : ℕ) → next ≤ owner → now file owner ≡ None) → ClosesOn S file (is_through (was file) open_file) None T
all_closed S was file open_file next T now so_far none = grind (arith, common_steps, closes_for, cases_lt)

pub all_forgotten_through : (S : State) (was : ℕ → ℕ → Option ℕ) (file open_file next : ℕ) (T : State) (now : ℕ → ℕ → Option ℕ)
    → IsClosing S was file open_file next T now
    → ((owner : ℕ) → next ≤ owner → now file owner ≡ None) → ForgetsThrough was now file open_file
all_forgotten_through S was file open_file next T now so_far none = grind (arith, common_steps, cases_lt)

and_right_true : (a b : Bool) → b ≡ true → (a && b) ≡ a
and_right_true true b is = is
and_right_true false b is = refl

and_right_false : (a b : Bool) → b ≡ false → (a && b) ≡ false
and_right_false true b isnt = isnt
and_right_false false b isnt = refl

-- an owner that came through the open file is released
pub closed_owner : (S : State) (file owner : ℕ) (came : Bool) (T : State) → came ≡ true → ReleasesOn S file Bytes owner T
    → ClosesOn S file (closed_one owner came) None T
closed_owner S file owner came T is releases =
    closes_for S file (λ other. owner == other) (closed_one owner came) None T (λ other. and_right_true (owner == other) came is) (closes_one S file owner T releases)

-- and one that came through another one isn't
pub spared_owner : (S : State) (file owner : ℕ) (came : Bool) → came ≡ false → Crosses S [] S → ClosesOn S file (closed_one owner came) None S
spared_owner S file owner came isnt crossed =
    closes_for S file (λ other. false) (closed_one owner came) None S (λ other. and_right_false (owner == other) came isnt) (closes_nobody S file crossed)

-- a close gives no lock and makes no conflict
pub moves_closed : (S : State) (file : ℕ) (gone : ℕ → Bool) (flock_owner : Option ℕ) (T : State) → ClosesOn S file gone flock_owner T → Moves [] S file T
moves_closed S file gone flock_owner T closes = grind (arith, common_steps, fewer_move, still_held, same_waits)
