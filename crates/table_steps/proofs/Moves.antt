-- A step of one seat keeps the rule where it keeps what holds of each process: for `Desk::close`, `Client::closed`, `Client::collect` and others.
use Rattle.table_steps.proofs.Common.{◌≡◌, ◌≢◌, ℕ, ◌<◌, ◌≤◌, Bool, List, length, set, refl, sym, ap, ◌∙◌, subst, arith, ⊎_elim, eq-eqb, ℕ_discrete, dite, some, State, Setup, View, Spent, Client, Desk, Both, ClientView, DeskView, Place, mark, IsPlace, owner_of, word_at, Agrees, mark_of, Kept, IsRunOf}
use Rattle.std.proofs.Common.{eqb, cond, ne_eqb}
use lib.ListN.{get_elem?}
use Rattle.atomic_table.proofs.Lists.{at_set}
use Rattle.table_steps.specs.Rule.{ClientStands, DeskStands, Stands}
use Rattle.table_steps.proofs.Frames.{words_stay}

-- the clients, where process p has this one
abbrev pub with_client : (ℕ → ClientView) → ℕ → ClientView → ℕ → ClientView
with_client clients p c q = cond (eqb q p) c (clients q)

pub client_here : (clients : ℕ → ClientView) (p : ℕ) (c : ClientView) (q : ℕ) → q ≡ p → with_client clients p c q ≡ c
client_here clients p c q e = ap (λ (b : Bool). cond b c (clients q)) (eq-eqb q p e)

pub client_else : (clients : ℕ → ClientView) (p : ℕ) (c : ClientView) (q : ℕ) → q ≢ p → with_client clients p c q ≡ clients q
client_else clients p c q n = ap (λ (b : Bool). cond b c (clients q)) (ne_eqb q p n)

module _ (setup : Setup) (s : State (Unit {0}) View) (k : Kept setup s) where
  abbrev at : Place → ℕ
  at = word_at setup.processes setup.depth s.words

  abbrev now_at : List ℕ → Place → ℕ
  now_at words = word_at setup.processes setup.depth words

  -- a client's seat steps: its view becomes another of the same process, and only words of this process change
  pub client_moves : (id : ℕ) (c now : ClientView) (words : List ℕ) → get_elem? s.views id ≡ some (Client c)
      → now.process ≡ c.process → now.setup ≡ c.setup → length words ≡ length s.words
      → ((a : Place) → IsPlace setup.processes setup.depth a → owner_of a ≢ c.process → now_at words a ≡ at a)
      → (k.clients c.process ≡ c → Agrees setup.depth c.process at k.desk c
      → Agrees setup.depth c.process (now_at words) k.desk now)
      → Kept setup record { words = words; homes = s.homes; views = set s.views id (Client now) }
  client_moves id c now words here process told wide others mine =
      let mine_is : ClientStands k.desk.setup k.desk.made k.clients k.seats id c = k.stands id (Client c) here in
      let p : ℕ = c.process in
      let clients : ℕ → ClientView = with_client k.clients p now in
      let least : 1 ≤ p = mine_is.least in
      let most : p ≤ setup.processes = omega (arith, mine_is.most, k.made_most) in
      record {
        desk = k.desk;
        clients = clients;
        desk_seat = k.desk_seat;
        seats = k.seats;
        stands = λ j v e. ⊎_elim
            (λ (x : (j ≡ id) × (Client now ≡ v)). subst (λ (y : ℕ × View). Stands k.desk clients k.desk_seat k.seats y.0 y.1)
            (λ i. (sym x.0 i, x.1 i)) record {
              seat_is = mine_is.seat_is ∙ ap k.seats (sym process);
              view_is = sym (client_here k.clients p now now.process process);
              told = told ∙ mine_is.told;
              least = subst (λ (q : ℕ). 1 ≤ q) (sym process) mine_is.least;
              most = subst (λ (q : ℕ). q ≤ k.desk.made) (sym process) mine_is.most;
            })
            (λ (x : (j ≢ id) × (get_elem? s.views j ≡ some v)). stays j v x.0 (k.stands j v x.1))
            (at_set s.views id j (Client now) v e);
        told = k.told;
        made_most = k.made_most;
        unmade = λ q h. client_else k.clients p now q (λ e. let m = mine_is.most in omega arith) ∙ k.unmade q h;
        wide = wide ∙ k.wide;
        deep = k.deep;
        run = k.run;
        marked = others mark tt (λ e. let m = mine_is.least in omega arith) ∙ k.marked;
        each = λ q a b. dite (ℕ_discrete q p)
            (λ e. subst (λ (y : ℕ × ClientView). Agrees setup.depth y.0 (now_at words) k.desk y.1)
            (λ i. (sym e i, sym (client_here k.clients p now q e) i))
            (mine (sym mine_is.view_is) (subst (Agrees setup.depth p at k.desk) (sym mine_is.view_is) (k.each p least most))))
            (λ n. subst (Agrees setup.depth q (now_at words) k.desk) (sym (client_else k.clients p now q n))
            (words_stay setup.processes setup.depth q (a, b) k.deep at (now_at words)
            (λ place t o. others place t (λ e. n (sym o ∙ e))) k.desk (k.clients q) (k.each q a b)));
      }
    where
      kept_client : (j : ℕ) (u : ClientView) → j ≢ id → ClientStands k.desk.setup k.desk.made k.clients k.seats j u
          → ClientStands k.desk.setup k.desk.made (with_client k.clients c.process now) k.seats j u
      kept_client j u n t =
          let mine_is : ClientStands k.desk.setup k.desk.made k.clients k.seats id c = k.stands id (Client c) here in
          let view_is = t.view_is ∙ sym (client_else k.clients c.process now u.process (λ e. n (t.seat_is ∙ ap k.seats e ∙ sym mine_is.seat_is))) in
          assumption (t, view_is)

      stays : (j : ℕ) (v : View) → j ≢ id → Stands k.desk k.clients k.desk_seat k.seats j v
          → Stands k.desk (with_client k.clients c.process now) k.desk_seat k.seats j v
      stays j Spent n t = tt
      stays j (Client u) n t = kept_client j u n t
      stays j (Desk d) n t = t
      stays j (Both d u before) n t = (t.0, kept_client j u n t.1, t.2)

  -- the desk's seat steps: its view becomes another
  pub desk_moves : (id : ℕ) (d now : DeskView) (words : List ℕ) → get_elem? s.views id ≡ some (Desk d) → now.made ≡ d.made
      → now.setup ≡ d.setup → length words ≡ length s.words
      → (IsRunOf setup d.journal → IsRunOf setup now.journal)
      → (at mark ≡ mark_of d.closed → now_at words mark ≡ mark_of now.closed)
      → ((p : ℕ) → 1 ≤ p → p ≤ setup.processes → Agrees setup.depth p at d (k.clients p)
      → Agrees setup.depth p (now_at words) now (k.clients p))
      → Kept setup record { words = words; homes = s.homes; views = set s.views id (Desk now) }
  desk_moves id d now words here made told wide run marked each =
      let mine_is : DeskStands k.desk k.desk_seat id d = k.stands id (Desk d) here in
      let is : k.desk ≡ d = sym mine_is.view_is in
      let made_is : k.desk.made ≡ now.made = ap (λ (x : DeskView). x.made) is ∙ sym made in
      let told_is : k.desk.setup ≡ now.setup = ap (λ (x : DeskView). x.setup) is ∙ sym told in
      record {
        desk = now;
        clients = k.clients;
        desk_seat = k.desk_seat;
        seats = k.seats;
        stands = λ j v e. ⊎_elim
            (λ (x : (j ≡ id) × (Desk now ≡ v)). subst (λ (y : ℕ × View). Stands now k.clients k.desk_seat k.seats y.0 y.1)
            (λ i. (sym x.0 i, x.1 i)) record { seat_is = mine_is.seat_is; view_is = refl })
            (λ (x : (j ≢ id) × (get_elem? s.views j ≡ some v)). stays j v x.0 made_is told_is (k.stands j v x.1))
            (at_set s.views id j (Desk now) v e);
        told = sym told_is ∙ k.told;
        made_most = subst (λ (n : ℕ). n ≤ setup.processes) made_is k.made_most;
        unmade = λ q h. k.unmade q (subst (λ (n : ℕ). n < q) (sym made_is) h);
        wide = wide ∙ k.wide;
        deep = k.deep;
        run = run (subst (λ (x : DeskView). IsRunOf setup x.journal) is k.run);
        marked = marked (subst (λ (x : DeskView). at mark ≡ mark_of x.closed) is k.marked);
        each = λ q a b. each q a b (subst (λ (x : DeskView). Agrees setup.depth q at x (k.clients q)) is (k.each q a b));
      }
    where
      kept_client : (j : ℕ) (u : ClientView) → k.desk.made ≡ now.made → k.desk.setup ≡ now.setup
          → ClientStands k.desk.setup k.desk.made k.clients k.seats j u → ClientStands now.setup now.made k.clients k.seats j u
      kept_client j u made_is told_is t =
          let told = t.told ∙ told_is in
          let most = subst (λ (n : ℕ). u.process ≤ n) made_is t.most in
          assumption (t, told, most)

      stays : (j : ℕ) (v : View) → j ≢ id → k.desk.made ≡ now.made → k.desk.setup ≡ now.setup
          → Stands k.desk k.clients k.desk_seat k.seats j v → Stands now k.clients k.desk_seat k.seats j v
      stays j Spent n m o t = tt
      stays j (Client u) n m o t = kept_client j u m o t
      stays j (Desk u) n m o t = let mine_is : DeskStands k.desk k.desk_seat id d = k.stands id (Desk d) here in
          absurd (n (t.seat_is ∙ sym mine_is.seat_is))
      stays j (Both u w before) n m o t = let mine_is : DeskStands k.desk k.desk_seat id d = k.stands id (Desk d) here in
          absurd (n (t.0.seat_is ∙ sym mine_is.seat_is))
