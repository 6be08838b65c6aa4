-- Which tickets are taken, by what a table knows of them: for `is_taken`, `cancel` and the server's fact that each names one request.
use Rattle.lock_server.proofs.Common.{arith, ℕ, ◌≡◌, ◌==◌, ◌∙◌, inl, inr, sym, refl, subst, Option, Some, None, List, [], ◌∷◌, ◌++◌, Any, common_steps, ◌↔◌, IsTrue, IfSome, IfNone, OnErr, OnOk, Ok, Err, Result, eqb-true, eq-eqb, Pending, Table, Place, Reserved, Waits, Granted, Tickets, place_at, grants_of, SetsPlace, table_state, entry_of, AreTicketsOnce}
use Rattle.std.specs.Prelude.{Contains}
use Rattle.std.proofs.lemmas.List.Folds.{Any-from_list_any, list_any-from_Any}
use Rattle.lock_server.specs.TicketsView.{SameTickets}
use Rattle.lock_server.specs.States.{IsTaken, WaitsOn}
use Rattle.lock_server.proofs.ListLemmas.{Any-weaker}
use Rattle.lock_server.proofs.TicketMoves.{TicketsKnown, IsIdle, ticket_of, itself, has_key, tickets_fetched, tickets_queued}

waits_from_test : (ticket : ℕ) (waits : List Pending) → IsTrue (has_key ticket_of ticket waits) → Any (λ wait. wait.ticket ≡ ticket) waits
waits_from_test ticket waits test = grind (arith, common_steps, Any-weaker, eqb-true, Any-from_list_any)

test_from_waits : (ticket : ℕ) (waits : List Pending) → Any (λ wait. wait.ticket ≡ ticket) waits → IsTrue (has_key ticket_of ticket waits)
test_from_waits ticket waits any = grind (arith, common_steps, list_any-from_Any, Any-weaker, eq-eqb)

contains_from_test : (ticket : ℕ) (grants : List ℕ) → IsTrue (has_key itself ticket grants) → Contains grants ticket
contains_from_test ticket grants test = grind (arith, common_steps, Any-from_list_any, eqb-true)

test_from_contains : (ticket : ℕ) (grants : List ℕ) → Contains grants ticket → IsTrue (has_key itself ticket grants)
test_from_contains ticket grants (k, within, is) = list_any-from_Any (λ (grant : ℕ). grant == ticket) grants (k, ticket, within, is, eq-eqb ticket ticket refl)

module _ (table : Table) where
  -- a ticket is known to wait on a file where a wait there has it
  pub place_waits : (ticket file : ℕ) → WaitsOn (table_state table) file ticket → place_at table.tickets ticket ≡ Some (Waits file)
  unfolding table_state entry_of
  place_waits ticket file on = (table.indexed.pending ticket file).1 (test_from_waits ticket _ on)

  pub waits_place : (ticket file : ℕ) → place_at table.tickets ticket ≡ Some (Waits file) → WaitsOn (table_state table) file ticket
  unfolding table_state entry_of
  waits_place ticket file is = waits_from_test ticket _ ((table.indexed.pending ticket file).0 is)

  pub place_granted : (ticket : ℕ) → Contains (table_state table).grants ticket → place_at table.tickets ticket ≡ Some Granted
  unfolding table_state
  place_granted ticket among = (table.indexed.granted ticket).1 (test_from_contains ticket _ among)

  pub granted_place : (ticket : ℕ) → place_at table.tickets ticket ≡ Some Granted → Contains (table_state table).grants ticket
  unfolding table_state
  granted_place ticket is = contains_from_test ticket _ ((table.indexed.granted ticket).0 is)

  -- where a ticket stands so, it is taken
  pub taken_waiting : (ticket file : ℕ) → place_at table.tickets ticket ≡ Some (Waits file) → IsTaken (table_state table) ticket
  taken_waiting ticket file is = inl (record { file = file; waits = waits_place ticket file is })

  pub taken_granted : (ticket : ℕ) → place_at table.tickets ticket ≡ Some Granted → IsTaken (table_state table) ticket
  taken_granted ticket is = inr (granted_place ticket is)

  -- and where it stands as none of these, it isn't
  pub not_taken : (ticket : ℕ) → IsIdle (place_at table.tickets ticket) → ¬ IsTaken (table_state table) ticket
  not_taken ticket idle (inl pending) = idle.waits pending.file (place_waits ticket pending.file pending.waits)
  not_taken ticket idle (inr among) = idle.granted (place_granted ticket among)

  pub idle_from_free : (ticket : ℕ) → ¬ IsTaken (table_state table) ticket → IsIdle (place_at table.tickets ticket)
  idle_from_free ticket free = record { waits = λ file is. free (taken_waiting ticket file is); granted = λ is. free (taken_granted ticket is) }

  -- each ticket names one request
  pub tickets_once : AreTicketsOnce (table_state table)
  unfolding table_state entry_of
  tickets_once = record {
    on_one_file = λ file other ticket one more.
        (let here = place_waits ticket file one in let there = place_waits ticket other more in
        let same : Some (Waits file) ≡ Some (Waits other) = sym here ∙ there in cc);
    on_a_file = table.indexed.once_on_a_file;
    granted_once = table.indexed.granted_once;
    waits_or_granted = λ file ticket on among.
        (let here = place_waits ticket file on in let there = place_granted ticket among in
        let same : Some (Waits file) ≡ Some Granted = sym here ∙ there in cc);
  }

-- a ticket without a place, or with one that is only reserved, names no request
pub idle_none : IsIdle None
idle_none = record { waits = λ file e. (let h : None ≡ Some (Waits file) = e in cc); granted = λ e. (let h : None ≡ Some Granted = e in cc) }

pub idle_reserved : IsIdle (Some Reserved)
idle_reserved = record { waits = λ file e. (let h : Some Reserved ≡ Some (Waits file) = e in cc); granted = λ e. (let h : Some Reserved ≡ Some Granted = e in cc) }

-- the same tickets are known as well
pub known_same : (waits : ℕ → List Pending) (tickets after : Tickets) → TicketsKnown waits tickets → SameTickets tickets after → TicketsKnown waits after
known_same waits tickets after known same = record {
  pending = λ ticket file. subst (λ (place : Option Place). (place ≡ Some (Waits file)) ↔ IsTrue (has_key ticket_of ticket (waits file))) (sym (same.places ticket)) (known.pending ticket file);
  granted = λ ticket.
      subst (λ (place : Option Place). (place ≡ Some Granted) ↔ IsTrue (has_key itself ticket (grants_of after))) (sym (same.places ticket))
      (subst (λ (grants : List ℕ). (place_at tickets ticket ≡ Some Granted) ↔ IsTrue (has_key itself ticket grants)) (sym same.grants) (known.granted ticket));
  once_on_a_file = known.once_on_a_file;
  granted_once = rw same.grants known.granted_once;
}

-- the tickets after a grant was queued, or refused
pub known_queued : {X E : Type 0} (r : Result X E) (waits : ℕ → List Pending) (tickets after : Tickets) (ticket : ℕ) → TicketsKnown waits tickets
    → IsIdle (place_at tickets ticket) → OnOk r (SetsPlace tickets after ticket (Some Granted)) → OnOk r (grants_of after ≡ grants_of tickets ++ ticket ∷ [])
    → OnErr r (SameTickets tickets after) → TicketsKnown waits after
known_queued (Ok done) waits tickets after ticket known idle place grants same = tickets_queued waits tickets after ticket known idle place grants
known_queued (Err refused) waits tickets after ticket known idle place grants same = known_same waits tickets after known same

-- the tickets after a fetch
pub known_fetched : (waits : ℕ → List Pending) (tickets after : Tickets) (result : Option ℕ) → TicketsKnown waits tickets
    → IfSome result (λ ticket. (grants_of tickets ≡ ticket ∷ grants_of after) × SetsPlace tickets after ticket None)
    → IfNone result ((grants_of tickets ≡ []) × SameTickets tickets after) → TicketsKnown waits after
known_fetched waits tickets after (Some ticket) known some none = tickets_fetched waits tickets after ticket known some.0 some.1
known_fetched waits tickets after None known some none = known_same waits tickets after known none.1
