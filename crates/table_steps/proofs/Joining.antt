-- The opening, and the steps by which seats are split and joined, keep the rule: for `Desk::meet` and `open_hub`.
use Rattle.table_steps.proofs.Common.{common_steps, ◌≡◌, ◌≢◌, ⊎_elim, ℕ, zero, suc, ◌+◌, ◌<◌, ◌≤◌, Bool, true, eq-eqb, List, [], ◌∷◌, length, get_or, set, refl, sym, ap, ◌∙◌, subst, arith, length-set, ℕ_discrete, dite, some, some-injective, some-ne-none, set-get_or}
use Rattle.table_steps.proofs.Common.{Step, keeps, Allows, IsRun, IsPrefixOf, requests_taken, answers_to, Setup, View, Spent, Client, Desk, Both, ClientView, DeskView, Tally, Place, mark, words_of, word_at, AreInTurn, client_of, desk_of, new_client, Agrees, mark_of, Kept, Seated, met_desk, met_client, before_meeting}
use Rattle.std.proofs.lemmas.Grind.{merely}
use Rattle.std.proofs.Common.{eqb, cond, ne_eqb}
use Rattle.std.specs.Prelude.{replicate}
use lib.ListN.{get_elem?, length-replicate}
use Rattle.atomic_table.specs.Table.{Splits, Joins, opening}
use Rattle.atomic_table.proofs.Lists.{at_set, set_else, set_again}
use Rattle.lock_manager.specs.State.{opening_state}
use Rattle.lock_manager.specs.State as manager
use Rattle.table_steps.specs.declared.before.Before.{Before}
use Rattle.table_steps.specs.Views.{new_desk, opening_view}
use Rattle.table_steps.specs.Rule.{ClientStands, DeskStands, Outgrows, Stands}
use Rattle.table_steps.specs.Steps.{Compares}
use Rattle.table_steps.proofs.Pushing.{at_push, tally_here, tally_else}
use Rattle.table_steps.proofs.Frames.{desk_stays, answers_found}
use Rattle.table_steps.proofs.Moves.{with_client, client_here, client_else}
use Rattle.table_steps.proofs.Collecting.{closing_found}

-- the seats, where process p has this one
abbrev with_seat : (ℕ → ℕ) → ℕ → ℕ → ℕ → ℕ
with_seat seats p id q = cond (eqb q p) id (seats q)

seat_here : (seats : ℕ → ℕ) (p id q : ℕ) → q ≡ p → with_seat seats p id q ≡ id
seat_here seats p id q e = ap (λ (b : Bool). cond b id (seats q)) (eq-eqb q p e)

seat_else : (seats : ℕ → ℕ) (p id q : ℕ) → q ≢ p → with_seat seats p id q ≡ seats q
seat_else seats p id q n = ap (λ (b : Bool). cond b id (seats q)) (ne_eqb q p n)

-- a client's seat may be split off the desk's
pub may_make : (setup : Setup) (id : ℕ) (d : DeskView) → d.made < setup.processes
    → Splits (Kept setup) id (Desk d) (Desk (record d { made = d.made + 1 })) (Client (new_client d.setup (d.made + 1)))
may_make setup id d room s k here =
    let mine_is : DeskStands k.desk k.desk_seat id d = k.stands id (Desk d) here in
    let is : k.desk ≡ d = sym mine_is.view_is in
    let now : DeskView = record d { made = d.made + 1 } in
    let p : ℕ = d.made + 1 in
    let fresh : ClientView = new_client d.setup p in
    let n : ℕ = length s.views in
    let made_is : k.desk.made ≡ d.made = ap (λ (x : DeskView). x.made) is in
    let told_is : k.desk.setup ≡ d.setup = ap (λ (x : DeskView). x.setup) is in
    let seats : ℕ → ℕ = with_seat k.seats p n in
    let keep_client : (j : ℕ) (u : ClientView) → ClientStands k.desk.setup k.desk.made k.clients k.seats j u
    → ClientStands now.setup now.made k.clients seats j u =
    λ j u t.
    let seat_is = t.seat_is ∙ sym (seat_else k.seats p n u.process (λ e. let m = t.most in omega arith)) in
    let told = t.told ∙ told_is in
    let most : u.process ≤ now.made = (let m = t.most in omega arith) in assumption (t, seat_is, told, most) in
    let keep : (j : ℕ) (v : View) → j ≢ id → Stands k.desk k.clients k.desk_seat k.seats j v
    → Stands now k.clients k.desk_seat seats j v =
    λ j v apart. elim v as (λ w. Stands k.desk k.clients k.desk_seat k.seats j w → Stands now k.clients k.desk_seat seats j w) [
      | Spent ↦ λ t. tt
      | Client u ↦ keep_client j u
      | Desk u ↦ λ t. absurd (apart (t.seat_is ∙ sym mine_is.seat_is))
      | Both u w before ↦ λ t. absurd (apart (t.0.seat_is ∙ sym mine_is.seat_is))
    ] in
    record {
      desk = now;
      clients = k.clients;
      desk_seat = k.desk_seat;
      seats = seats;
      stands = λ j v e. ⊎_elim
          (λ (old : get_elem? (set s.views id (Desk now)) j ≡ some v). ⊎_elim
          (λ (x : (j ≡ id) × (Desk now ≡ v)). subst (λ (y : ℕ × View). Stands now k.clients k.desk_seat seats y.0 y.1)
          (λ i. (sym x.0 i, x.1 i)) record { seat_is = mine_is.seat_is; view_is = refl })
          (λ (x : (j ≢ id) × (get_elem? s.views j ≡ some v)). keep j v x.0 (k.stands j v x.1))
          (at_set s.views id j (Desk now) v old))
          (λ (new : (j ≡ length (set s.views id (Desk now))) × (Client fresh ≡ v)).
          subst (λ (y : ℕ × View). Stands now k.clients k.desk_seat seats y.0 y.1)
          (λ i. (sym (new.0 ∙ length-set s.views id (Desk now)) i, new.1 i)) record {
            seat_is = sym (seat_here k.seats p n p refl);
            view_is = (λ i. new_client (sym told_is i) p) ∙ (λ i. new_client (k.told i) p) ∙ sym (k.unmade p (omega arith));
            told = refl;
            least = omega arith;
            most = omega arith;
          })
          (at_push (set s.views id (Desk now)) (Client fresh) v j e);
      told = sym told_is ∙ k.told;
      made_most = omega arith;
      unmade = λ q h. k.unmade q (omega arith);
      wide = k.wide;
      deep = k.deep;
      run = subst (λ (x : DeskView). ∥ ((T : manager.State) × IsRun setup.rules setup.processes x.journal T) ∥₁) is k.run;
      marked = subst (λ (x : DeskView). word_at setup.processes setup.depth s.words mark ≡ mark_of x.closed) is k.marked;
      each = λ q a b. desk_stays setup.depth q (word_at setup.processes setup.depth s.words) d now (k.clients q) refl refl refl
          refl (λ _. refl) (λ _. refl)
          (subst (λ (x : DeskView). Agrees setup.depth q (word_at setup.processes setup.depth s.words) x (k.clients q)) is
          (k.each q a b));
    }

-- joining, at the process of the client
meets_agree : (depth p : ℕ) (at : Place → ℕ) (d : DeskView) (c : ClientView) → c.process ≡ p → Agrees depth p at d c
    → Agrees depth p at (met_desk d c) (met_client d c)
meets_agree depth p at d c is g = grind (arith, common_steps, tally_here, answers_found, closing_found)

-- joining: neither knows less of the other than before
outgrows : (depth p : ℕ) (at : Place → ℕ) (d : DeskView) (c : ClientView) → c.process ≡ p → Agrees depth p at d c
    → Outgrows (met_desk d c) (met_client d c) (before_meeting d c)
outgrows depth p at d c is g = grind (arith, common_steps, tally_here)

pub may_join : (setup : Setup) (id other : ℕ) (d : DeskView) (c : ClientView)
    → Joins (Kept setup) id (Desk d) other (Client c) (Both (met_desk d c) (met_client d c) (before_meeting d c)) Spent
may_join setup id other d c s k here apart there =
    let mine_is : DeskStands k.desk k.desk_seat id d = k.stands id (Desk d) here in
    let there_is : get_elem? s.views other ≡ some (Client c) =
    sym (set_else s.views id other (Both (met_desk d c) (met_client d c) (before_meeting d c)) apart) ∙ there in
    let his : ClientStands k.desk.setup k.desk.made k.clients k.seats other c = k.stands other (Client c) there_is in
    let is : k.desk ≡ d = sym mine_is.view_is in
    let now : DeskView = met_desk d c in
    let his_now : ClientView = met_client d c in
    let p : ℕ = c.process in
    let made_is : k.desk.made ≡ d.made = ap (λ (x : DeskView). x.made) is in
    let told_is : k.desk.setup ≡ d.setup = ap (λ (x : DeskView). x.setup) is in
    let seats : ℕ → ℕ = with_seat k.seats p id in
    let clients : ℕ → ClientView = with_client k.clients p his_now in
    let at : Place → ℕ = word_at setup.processes setup.depth s.words in
    let before : (q : ℕ) → 1 ≤ q → q ≤ setup.processes → Agrees setup.depth q at d (k.clients q) =
    λ q a b. subst (λ (x : DeskView). Agrees setup.depth q at x (k.clients q)) is (k.each q a b) in
    let grown : Outgrows now his_now (before_meeting d c) = outgrows setup.depth p at d c refl
    (subst (λ (y : ClientView). Agrees setup.depth p at d y) (sym his.view_is) (before p his.least (let m = his.most in
    let n = k.made_most in omega arith))) in
    let keep_client : (j : ℕ) (u : ClientView) → j ≢ other → ClientStands k.desk.setup k.desk.made k.clients k.seats j u
    → ClientStands now.setup now.made clients seats j u =
    λ j u n t.
    let differ : u.process ≢ p = λ e. n (t.seat_is ∙ ap k.seats e ∙ sym his.seat_is) in
    let seat_is = t.seat_is ∙ sym (seat_else k.seats p id u.process differ) in
    let view_is = t.view_is ∙ sym (client_else k.clients p his_now u.process differ) in
    let told = t.told ∙ told_is in
    let most : u.process ≤ now.made = (let m = t.most in omega arith) in assumption (t, seat_is, view_is, told, most) in
    let keep : (j : ℕ) (v : View) → j ≢ id → j ≢ other → Stands k.desk k.clients k.desk_seat k.seats j v
    → Stands now clients k.desk_seat seats j v =
    λ j v n m. elim v as (λ w. Stands k.desk k.clients k.desk_seat k.seats j w → Stands now clients k.desk_seat seats j w) [
      | Spent ↦ λ t. tt
      | Client u ↦ keep_client j u m
      | Desk u ↦ λ t. absurd (n (t.seat_is ∙ sym mine_is.seat_is))
      | Both u w before ↦ λ t. absurd (n (t.0.seat_is ∙ sym mine_is.seat_is))
    ] in
    record {
      desk = now;
      clients = clients;
      desk_seat = k.desk_seat;
      seats = seats;
      stands = λ j v e. ⊎_elim
          (λ (x : (j ≡ other) × (Spent ≡ v)). subst (λ (y : View). Stands now clients k.desk_seat seats j y) x.1 tt)
          (λ (x : (j ≢ other) × (get_elem? (set s.views id (Both now his_now (before_meeting d c))) j ≡ some v)). ⊎_elim
          (λ (y : (j ≡ id) × (Both now his_now (before_meeting d c) ≡ v)). subst (λ (z : ℕ × View). Stands now clients k.desk_seat
          seats z.0 z.1) (λ i. (sym y.0 i, y.1 i)) (
            record { seat_is = mine_is.seat_is; view_is = refl },
            record {
              seat_is = sym (seat_here k.seats p id p refl);
              view_is = sym (client_here k.clients p his_now p refl);
              told = his.told ∙ told_is;
              least = his.least;
              most = let m = his.most in omega arith;
            },
            grown,
          ))
          (λ (y : (j ≢ id) × (get_elem? s.views j ≡ some v)). keep j v y.0 x.0 (k.stands j v y.1))
          (at_set s.views id j (Both now his_now (before_meeting d c)) v x.1))
          (at_set (set s.views id (Both now his_now (before_meeting d c))) other j Spent v e);
      told = sym told_is ∙ k.told;
      made_most = let m = k.made_most in omega arith;
      unmade = λ q h. client_else k.clients p his_now q (λ e. let m = his.most in omega arith) ∙ k.unmade q (omega arith);
      wide = k.wide;
      deep = k.deep;
      run = subst (λ (x : DeskView). ∥ ((T : manager.State) × IsRun setup.rules setup.processes x.journal T) ∥₁) is k.run;
      marked = subst (λ (x : DeskView). word_at setup.processes setup.depth s.words mark ≡ mark_of x.closed) is k.marked;
      each = λ q a b. dite (ℕ_discrete q p)
          (λ e. subst (λ (y : ClientView). Agrees setup.depth q at now y) (sym (client_here k.clients p his_now q e))
          (meets_agree setup.depth q at d c (sym e)
          (subst (λ (y : ClientView). Agrees setup.depth q at d y) (ap k.clients e ∙ sym his.view_is) (before q a b))))
          (λ n. subst (λ (y : ClientView). Agrees setup.depth q at now y) (sym (client_else k.clients p his_now q n))
          (desk_stays setup.depth q at d now (k.clients q) refl refl (ap (λ (t : Tally). t.looked) (tally_else d.tallies p q _ n))
          (ap (λ (t : Tally). t.published) (tally_else d.tallies p q _ n))
          (λ _. refl) (λ _. refl) (before q a b)));
    }

-- the joined seat may be split
pub may_part : (setup : Setup) (id : ℕ) (d : DeskView) (c : ClientView) (before : Before)
    → Splits (Kept setup) id (Both d c before) (Desk d) (Client c)
may_part setup id d c before s k here =
    let both : Stands k.desk k.clients k.desk_seat k.seats id (Both d c before) = k.stands id (Both d c before) here in
    let mine_is = both.0 in
    let his = both.1 in
    let p : ℕ = c.process in
    let n : ℕ = length s.views in
    let seats : ℕ → ℕ = with_seat k.seats p n in
    let keep_client : (j : ℕ) (u : ClientView) → j ≢ id → ClientStands k.desk.setup k.desk.made k.clients k.seats j u
    → ClientStands k.desk.setup k.desk.made k.clients seats j u =
    λ j u apart t.
    let seat_is = t.seat_is ∙ sym (seat_else k.seats p n u.process (λ e. apart (t.seat_is ∙ ap k.seats e ∙ sym his.seat_is))) in
    assumption (t, seat_is) in
    let keep : (j : ℕ) (v : View) → j ≢ id → Stands k.desk k.clients k.desk_seat k.seats j v
    → Stands k.desk k.clients k.desk_seat seats j v =
    λ j v apart. elim v as (λ w. Stands k.desk k.clients k.desk_seat k.seats j w → Stands k.desk k.clients k.desk_seat seats j w) [
      | Spent ↦ λ t. tt
      | Client u ↦ keep_client j u apart
      | Desk u ↦ λ t. t
      | Both u w before ↦ λ t. absurd (apart (t.0.seat_is ∙ sym mine_is.seat_is))
    ] in
    record {
      desk = k.desk;
      clients = k.clients;
      desk_seat = k.desk_seat;
      seats = seats;
      stands = λ j v e. ⊎_elim
          (λ (old : get_elem? (set s.views id (Desk d)) j ≡ some v). ⊎_elim
          (λ (x : (j ≡ id) × (Desk d ≡ v)). subst (λ (y : ℕ × View). Stands k.desk k.clients k.desk_seat seats y.0 y.1)
          (λ i. (sym x.0 i, x.1 i)) mine_is)
          (λ (x : (j ≢ id) × (get_elem? s.views j ≡ some v)). keep j v x.0 (k.stands j v x.1))
          (at_set s.views id j (Desk d) v old))
          (λ (new : (j ≡ length (set s.views id (Desk d))) × (Client c ≡ v)).
          subst (λ (y : ℕ × View). Stands k.desk k.clients k.desk_seat seats y.0 y.1)
          (λ i. (sym (new.0 ∙ length-set s.views id (Desk d)) i, new.1 i))
          (let seat_is = sym (seat_here k.seats p n p refl) in assumption (his, seat_is)))
          (at_push (set s.views id (Desk d)) (Client c) v j e);
      told = k.told;
      made_most = k.made_most;
      unmade = k.unmade;
      wide = k.wide;
      deep = k.deep;
      run = k.run;
      marked = k.marked;
      each = k.each;
    }

-- the opening
zeros : (n i : ℕ) → ◌≡◌ {A = ℕ} (get_or (replicate n 0) i 0) 0
zeros n i = grind (arith, common_steps)

opens_agree : (setup : Setup) (p : ℕ) → 1 ≤ p → p ≤ setup.processes
    → Agrees setup.depth p (word_at setup.processes setup.depth (replicate (words_of setup.processes setup.depth) 0)) (new_desk setup)
    (new_client setup p)
opens_agree setup p low high =
    let in_order : IsPrefixOf (requests_taken p (new_desk setup).journal) (new_client setup p).posted = ([], refl) in
    let seen : IsPrefixOf (new_client setup p).seen (new_desk setup).journal = ([], refl) in
    let in_turn : AreInTurn p (new_desk setup).journal = record { numbered = λ place. tt; most = omega arith } in
    grind (arith, common_steps, zeros)

pub opens : (setup : Setup) (words : List ℕ) → 1 ≤ setup.depth → words ≡ replicate (words_of setup.processes setup.depth) 0
    → Kept setup (opening {S = Unit {0}} words [] (opening_view setup))
opens setup words deep is =
    subst (λ (w : List ℕ). Kept setup (opening {S = Unit {0}} w [] (opening_view setup))) (sym is) record {
      desk = new_desk setup;
      clients = new_client setup;
      desk_seat = 0;
      seats = λ _. 0;
      stands = one;
      told = refl;
      made_most = omega arith;
      unmade = λ p h. refl;
      wide = length-replicate (words_of setup.processes setup.depth) 0;
      deep = deep;
      run = merely (opening_state, record { leads = refl; numbered = λ p place. tt });
      marked = zeros (words_of setup.processes setup.depth) 0;
      each = opens_agree setup;
    }
  where
    one : (id : ℕ) (v : View) → get_elem? (opening_view setup ∷ []) id ≡ some v
        → Stands (new_desk setup) (new_client setup) 0 (λ _. 0) id v
    one zero v e = subst (Stands (new_desk setup) (new_client setup) 0 (λ _. 0) 0) (some-injective _ _ e)
        record { seat_is = refl; view_is = refl }
    one (suc id) v e = absurd (some-ne-none v (sym e))

-- the load of the joined seat
pub may_compare : (setup : Setup) (slots id : ℕ) (me : Seated) (d : DeskView) (c : ClientView) (before : Before) (word : ℕ)
    (told : Step (Unit {0})) → me ≡ (Both d c before, []) → Allows (Kept setup) slots id me word (λ n. n) (Compares told me)
may_compare setup slots id me d c before word told is =
    subst (λ (y : Seated). Allows (Kept setup) slots id y word (λ n. n) (Compares told y)) (sym is)
    (λ s k wide here _.
    let both : Stands k.desk k.clients k.desk_seat k.seats id (Both d c before) = k.stands id (Both d c before) here in
    let at : Place → ℕ = word_at setup.processes setup.depth s.words in
    let g : Agrees setup.depth c.process at d c =
    subst (λ (y : DeskView × ClientView). Agrees setup.depth c.process at y.0 y.1)
    (λ i. (sym both.0.view_is i, sym both.1.view_is i))
    (k.each c.process both.1.least (let m = both.1.most in let n = k.made_most in omega arith)) in (
      Both d c before,
      keeps,
      tt,
      subst (λ (y : List ℕ × List View). Kept setup record { words = y.0; homes = s.homes; views = y.1 })
          (λ i. (sym (set-get_or s.words word 0) i, sym (set_again s.views id (Both d c before) here) i)) k,
      (
        refl,
        λ e u was f.
            let desk_same : d ≡ e = ap (λ (m : Seated). desk_of m.0) f in
            let client_same : c ≡ u = ap (λ (m : Seated). client_of m.0) f in
            let before_same : before ≡ was = ap (λ (m : Seated). before_in m.0) f in
            subst (λ (y : DeskView × ClientView × Before).
            IsPrefixOf (requests_taken y.1.process y.0.journal) y.1.posted
            × (y.1.drained ≡ true → y.1.collected ≡ length (answers_to y.1.process y.0.journal))
            × Outgrows y.0 y.1 y.2)
            (λ i. (desk_same i, client_same i, before_same i)) (g.requests.in_order, g.closing.drained_all, both.2),
      ),
    ))
  where
    -- what a joined seat remembers
    before_in : View → Before
    before_in Spent = before
    before_in (Client u) = before
    before_in (Desk e) = before
    before_in (Both e u was) = was
