-- Logs that are beginnings of others.
use Rattle.cluster_protocol.proofs.Common.{◌≡◌, ◌∙◌, ◌≤◌, ◌++◌, ◌∷◌, [], ℕ, Bool, true, false, List, length, take, arith, ap, inl, inr, refl, sym, subst, if◌then◌else◌, append-nil, length-append, View, Entry, IsBeginning, Purge}
use Rattle.std.proofs.Common.{drop}
use Rattle.std.proofs.Math.Seq.{take-append_seam}
use Rattle.std.proofs.lemmas.List.{append_assoc, take-append-drop, take-append-le}
use Rattle.cluster_protocol.specs.Clusters.{IsPurgedIn}
use Rattle.cluster_protocol.specs.Outliving.{Stays}

pub begin_itself : (log : List Entry) → IsBeginning log log
begin_itself log = ([], append-nil log)

pub begin_front : (log rest : List Entry) → IsBeginning log (log ++ rest)
begin_front log rest = (rest, refl)

pub begin_through : (a b c : List Entry) → IsBeginning a b → IsBeginning b c → IsBeginning a c
begin_through a b c p q = (p.0 ++ q.0, sym (append_assoc a p.0 q.0) ∙ ap (λ (log : List Entry). log ++ q.0) p.1 ∙ q.1)

pub begin_short : (a b : List Entry) → IsBeginning a b → length a ≤ length b
begin_short a b p = omega (arith, length-append a p.0, ap (λ (log : List Entry). length log) p.1)

-- a beginning is what the other has up to its length
pub begin_take : (a b : List Entry) → IsBeginning a b → take (length a) b ≡ a
begin_take a b p = subst (λ (log : List Entry). take (length a) log ≡ a) p.1 (take-append_seam a p.0)

pub take_begin : (n : ℕ) (log : List Entry) → IsBeginning (take n log) log
take_begin n log = (drop n log, take-append-drop n log)

pub begin_same : (a b c : List Entry) → a ≡ b → IsBeginning b c → IsBeginning a c
begin_same a b c same p = subst (λ (log : List Entry). IsBeginning log c) (sym same) p

-- of two beginnings of one log the shorter is a beginning of the longer
pub begin_both : (a b c : List Entry) → IsBeginning a c → IsBeginning b c → length a ≤ length b → IsBeginning a b
begin_both a b c p q le =
    let cut : take (length a) c ≡ take (length a) b =
    subst (λ (log : List Entry). take (length a) log ≡ take (length a) b) q.1 (take-append-le (length a) b q.0 le) in
    begin_same a (take (length a) b) b (sym (begin_take a c p) ∙ cut) (take_begin (length a) b)

pub begin_cut : (n : ℕ) (a b : List Entry) → n ≤ length a → IsBeginning a b → take n b ≡ take n a
begin_cut n a b le p = subst (λ (log : List Entry). take n log ≡ take n a) p.1 (take-append-le n a p.0 le)

pub purged_longer : (node : ℕ) (view : View) (a b : List Entry) → IsPurgedIn node view a → IsBeginning a b → IsPurgedIn node view b
purged_longer node view a b p q = record {
  before = p.before;
  behind = p.behind ++ q.0;
  is = sym (append_assoc p.before (Purge node view ∷ p.behind) q.0) ∙ ap (λ (log : List Entry). log ++ q.0) p.is ∙ q.1;
}

pub stays_longer : (view : View) (node : ℕ) (told a b : List Entry) → Stays view node told a → IsBeginning a b → Stays view node told b
stays_longer view node told a b (inl p) q = inl (begin_through told a b p q)
stays_longer view node told a b (inr p) q =
    inr (record { later = p.later; is_later = p.is_later; purged = purged_longer node p.later a b p.purged q })

pub begin_if : (test : Bool) (log a b : List Entry) → IsBeginning log a → IsBeginning log b → IsBeginning log (if test then a else b)
begin_if true log a b p q = p
begin_if false log a b p q = q
