-- Each place has a word of its own: for `Desk::close`, `Client::closed`, `make_clients` and `Desk::meet`.
use Rattle.table_steps.proofs.Common.{◌≡◌, ◌≢◌, ℕ, ◌+◌, ◌<◌, ◌≤◌, List, length, set, refl, sym, ap, ◌∙◌, subst, arith, Place, mark, posted, taken, answered, request, answer, index_of, words_of, IsProcess, IsPlace, word_at}
use Rattle.std.proofs.Common.{◌-◌, ◌*◌, get_or-set_other, get_or-set_same}
use Rattle.std.proofs.lemmas.Nat.{same_from_place, mul-add-lt}
use Rattle.std.proofs.Math.Nat.{mul_comm, mul_assoc}
use Rattle.table_steps.specs.Places.{cell_word, first_cell}

one_word : (base x y i j : ℕ) → i < 6 → j < 6 → base + 6 * x + i ≡ base + 6 * y + j → (x ≡ y) × (i ≡ j)
one_word base x y i j p q e = (omega arith, omega arith)

-- two cells of the table that are one have one process and one number
one_cell : (d p q a b : ℕ) → 1 ≤ p → 1 ≤ q → a < 2 * d → b < 2 * d → first_cell d p + a ≡ first_cell d q + b → (p ≡ q) × (a ≡ b)
one_cell d p q a b l m s t e = let both : (p - 1 ≡ q - 1) × (a ≡ b) = same_from_place (p - 1) a (q - 1) b (2 * d) s t e in
    let h : p - 1 ≡ q - 1 = both.0 in (omega arith, both.1)

shifted : (x d a : ℕ) → x + d + a ≡ x + (d + a)
shifted x d a = omega arith

module _ (P d : ℕ) where
  same_word : (p q a b i j : ℕ) → IsProcess P p → IsProcess P q → a < 2 * d → b < 2 * d → i < 6 → j < 6
      → cell_word P (first_cell d p + a) + i ≡ cell_word P (first_cell d q + b) + j → (p ≡ q) × (a ≡ b) × (i ≡ j)
  same_word p q a b i j l m s t u v e =
      let w = one_word (1 + 3 * P) (first_cell d p + a) (first_cell d q + b) i j u v e in
      let c = one_cell d p q a b l.0 m.0 s t w.0 in (c.0, c.1, w.1)

  -- beyond the counters
  beyond : (x i : ℕ) → 3 * P < cell_word P x + i
  beyond x i = omega arith

  pub one_place : (a b : Place) → IsPlace P d a → IsPlace P d b → index_of P d a ≡ index_of P d b → a ≡ b
  one_place mark mark s t e = refl
  one_place mark (posted q) s t e = absurd (omega (arith, t.0))
  one_place mark (taken q) s t e = absurd (omega (arith, t.0))
  one_place mark (answered q) s t e = absurd (omega (arith, t.0))
  one_place mark (request q c j) s t e = absurd (let k = beyond (first_cell d q + c) j in omega arith)
  one_place mark (answer q c j) s t e = absurd (let k = beyond (first_cell d q + d + c) j in omega arith)
  one_place (posted p) mark s t e = absurd (omega (arith, s.0))
  one_place (posted p) (posted q) s t e = ap posted e
  one_place (posted p) (taken q) s t e = absurd (omega (arith, s.1, t.0))
  one_place (posted p) (answered q) s t e = absurd (omega (arith, s.1, t.0))
  one_place (posted p) (request q c j) s t e = absurd (let k = beyond (first_cell d q + c) j in omega (arith, s.1))
  one_place (posted p) (answer q c j) s t e = absurd (let k = beyond (first_cell d q + d + c) j in omega (arith, s.1))
  one_place (taken p) mark s t e = absurd (omega (arith, s.0))
  one_place (taken p) (posted q) s t e = absurd (omega (arith, t.1, s.0))
  one_place (taken p) (taken q) s t e = ap taken (omega arith)
  one_place (taken p) (answered q) s t e = absurd (omega (arith, s.1, t.0))
  one_place (taken p) (request q c j) s t e = absurd (let k = beyond (first_cell d q + c) j in omega (arith, s.1))
  one_place (taken p) (answer q c j) s t e = absurd (let k = beyond (first_cell d q + d + c) j in omega (arith, s.1))
  one_place (answered p) mark s t e = absurd (omega (arith, s.0))
  one_place (answered p) (posted q) s t e = absurd (omega (arith, t.1, s.0))
  one_place (answered p) (taken q) s t e = absurd (omega (arith, t.1, s.0))
  one_place (answered p) (answered q) s t e = ap answered (omega arith)
  one_place (answered p) (request q c j) s t e = absurd (let k = beyond (first_cell d q + c) j in omega (arith, s.1))
  one_place (answered p) (answer q c j) s t e = absurd (let k = beyond (first_cell d q + d + c) j in omega (arith, s.1))
  one_place (request p c i) mark s t e = absurd (let k = beyond (first_cell d p + c) i in omega arith)
  one_place (request p c i) (posted q) s t e = absurd (let k = beyond (first_cell d p + c) i in omega (arith, t.1))
  one_place (request p c i) (taken q) s t e = absurd (let k = beyond (first_cell d p + c) i in omega (arith, t.1))
  one_place (request p c i) (answered q) s t e = absurd (let k = beyond (first_cell d p + c) i in omega (arith, t.1))
  one_place (request p c i) (request q b j) s t e =
      let w = same_word p q c b i j s.0 t.0 (omega (arith, s.1)) (omega (arith, t.1)) s.2 t.2 e in
      λ k. request (w.0 k) (w.1 k) (w.2 k)
  one_place (request p c i) (answer q b j) s t e =
      let w = same_word p q c (d + b) i j s.0 t.0 (omega (arith, s.1)) (omega (arith, t.1)) s.2 t.2 (e
      ∙ ap (λ (x : ℕ). cell_word P x + j) (shifted (first_cell d q) d b)) in
      absurd (omega (arith, w.1, s.1))
  one_place (answer p c i) mark s t e = absurd (let k = beyond (first_cell d p + d + c) i in omega arith)
  one_place (answer p c i) (posted q) s t e = absurd (let k = beyond (first_cell d p + d + c) i in omega (arith, t.1))
  one_place (answer p c i) (taken q) s t e = absurd (let k = beyond (first_cell d p + d + c) i in omega (arith, t.1))
  one_place (answer p c i) (answered q) s t e = absurd (let k = beyond (first_cell d p + d + c) i in omega (arith, t.1))
  one_place (answer p c i) (request q b j) s t e =
      let w = same_word p q (d + c) b i j s.0 t.0 (omega (arith, s.1)) (omega (arith, t.1)) s.2 t.2
      (ap (λ (x : ℕ). cell_word P x + i) (sym (shifted (first_cell d p) d c)) ∙ e) in
      absurd (omega (arith, w.1, t.1))
  one_place (answer p c i) (answer q b j) s t e =
      let w = same_word p q (d + c) (d + b) i j s.0 t.0 (omega (arith, s.1)) (omega (arith, t.1)) s.2 t.2
      (ap (λ (x : ℕ). cell_word P x + i) (sym (shifted (first_cell d p) d c)) ∙ e
      ∙ ap (λ (x : ℕ). cell_word P x + j) (shifted (first_cell d q) d b)) in
      let same : d + c ≡ d + b = w.1 in let cells : c ≡ b = omega arith in
      λ k. answer (w.0 k) (cells k) (w.2 k)

  cells_fit : (p a i : ℕ) → IsProcess P p → a < 2 * d → i < 6 → cell_word P (first_cell d p + a) + i < words_of P d
  cells_fit p a i l s u =
      let x : ℕ = first_cell d p + a in
      let y : ℕ = P * d in
      let in_all : x < (2 * d) * P = mul-add-lt (p - 1) (2 * d) a P (omega (arith, l.0, l.1)) s in
      let turn : (2 * d) * P ≡ 2 * y = mul_assoc 2 d P ∙ ap (λ (z : ℕ). 2 * z) (mul_comm d P) in
      let most : x < 2 * y = subst (λ (z : ℕ). x < z) turn in_all in
      let last : 1 + 3 * P + 6 * x + i < 1 + 3 * P + 12 * y = omega arith in last

  counter_fits : (p : ℕ) → IsProcess P p → 2 * P + p < words_of P d
  counter_fits p l = let y : ℕ = P * d in let last : 2 * P + p < 1 + 3 * P + 12 * y = omega (arith, l.0, l.1) in last

  pub inside : (a : Place) → IsPlace P d a → index_of P d a < words_of P d
  inside mark s = let y : ℕ = P * d in let last : 0 < 1 + 3 * P + 12 * y = omega arith in last
  inside (posted p) s = omega (arith, counter_fits p s)
  inside (taken p) s = omega (arith, counter_fits p s)
  inside (answered p) s = counter_fits p s
  inside (request p c i) s = cells_fit p c i s.0 (omega (arith, s.1)) s.2
  inside (answer p c i) s = subst (λ (x : ℕ). cell_word P x + i < words_of P d) (sym (shifted (first_cell d p) d c))
      (cells_fit p (d + c) i s.0 (omega (arith, s.1)) s.2)

  -- a word that is stored is found where it was stored
  pub stored_here : (words : List ℕ) (a : Place) (x : ℕ) → length words ≡ words_of P d → IsPlace P d a
      → word_at P d (set words (index_of P d a) x) a ≡ x
  stored_here words a x wide s = get_or-set_same words (index_of P d a) x 0
      (subst (λ (n : ℕ). index_of P d a < n) (sym wide) (inside a s))

  -- and the words of other places stay
  pub stored_else : (words : List ℕ) (a b : Place) (x : ℕ) → IsPlace P d a → IsPlace P d b → b ≢ a
      → word_at P d (set words (index_of P d a) x) b ≡ word_at P d words b
  stored_else words a b x s t apart = get_or-set_other words (index_of P d a) (index_of P d b) x 0
      (λ e. apart (one_place b a t s e))
