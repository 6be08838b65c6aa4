-- Servers that are told the same calls: for `replicas_agree` and `servers_are_safe`.
use Rattle.lock_server.proofs.Common.{ℕ, ◌≡◌, ◌∙◌, sym, ap, subst, refl, Some, None, List, [], ◌∷◌, ∥∥₁_map, Bytes, Whole, Rules, WaitAnswer, LockServer, Through, WaitComesTo, FlockWaitComesTo, byte_request, flock_request, is_within, SameOpenings, AreTicketsOnce, rules_of, state_of, through_of, IsSettled, Crosses, SameState, State}
use Rattle.lock_server.specs.Agreement.{Call, Get, Set, Wait, Cancel, Note, Flush, Forget, Flock, FlockWait, FlockRelease, Release, NextGrant, ForgetOwners, ForgetFile, HasLocks, CountsOf, CallComesTo, Reply, TellsAnswer, TellsCounts, TellsEnded, TellsGrant, TellsHaving, TellsLock, TellsWait, Runs, SameServer, Tells, WithTicket}
use Rattle.lock_server.proofs.CallLaws.{cancel_one, closes_one, forgets_one, forgets_owner_one, forgets_through_one, get_one, same_openings_one, sees_one}
use Rattle.lock_server.proofs.ClientLaws.{counts_one, file_forgotten_one, forgets_seen_on_one, forgets_seen_one, owners_forgotten_one}
use Rattle.lock_server.proofs.GrantedMoves.{crosses_itself}
use Rattle.lock_server.proofs.OutcomeLaws.{bool_one, fetch_one, flock_one, flock_wait_one, match_one, releases_one, set_one, unchanged_one, wait_one}
use Rattle.lock_server.proofs.StateLemmas.{SameState-itself, state_from_same}
use Rattle.lock_server.proofs.TakenLemmas.{tickets_once}

module _ (rules : Rules) (S : State) (through : Through) (reply reply' : Reply) (T U : State) (next next' : Through) where
  -- a request that may wait, with what it comes to once its ticket is free
  ticket_one : (ticket : ℕ) (comes comes' : WaitAnswer → Type 0)
      → ((answer answer' : WaitAnswer) → comes answer → comes' answer' → (answer' ≡ answer) × (U ≡ T))
      → WithTicket S through ticket reply T next comes → WithTicket S through ticket reply' U next' comes'
      → (reply' ≡ reply) × (U ≡ T) × SameOpenings next next'
  ticket_one ticket comes comes' one = match_one
      (λ h k. (k.0 ∙ sym h.0, unchanged_one S T U h.1.state k.1.state, same_openings_one through next next' h.1.openings k.1.openings))
      (λ h k. let both = one h.0 k.0 h.2 k.2 in (k.1 ∙ ap TellsWait both.0 ∙ sym h.1, both.1, same_openings_one through next next' h.3 k.3))

  -- a call tells one reply, and leaves one state and one note of each owner
  call_one : (call : Call) → AreTicketsOnce S → Crosses S [] S → ((file : ℕ) → ∥ IsSettled rules.policy (S.files file) ∥₁)
      → CallComesTo rules S through call reply T next → CallComesTo rules S through call reply' U next'
      → (reply' ≡ reply) × (U ≡ T) × SameOpenings next next'
  call_one (Get file owner span mode) once crossed settled h k = (
    k.1 ∙ ap TellsLock (get_one (S.files file) owner span mode h.0 k.0 h.2 k.2) ∙ sym h.1,
    unchanged_one S T U h.3.state k.3.state,
    same_openings_one through next next' h.3.openings k.3.openings,
  )
  call_one (Set file owner span mode) once crossed settled h k =
      let both = set_one rules.policy S file owner span mode h.0 T k.0 U h.2 k.2 in
      (k.1 ∙ ap TellsAnswer both.0 ∙ sym h.1, both.1, same_openings_one through next next' h.3 k.3)
  call_one (Wait ticket file owner span mode detect) once crossed settled h k =
      let wanted = byte_request ticket owner span mode detect in
      ticket_one ticket (λ answer. WaitComesTo rules.policy S file wanted answer T) (λ answer. WaitComesTo rules.policy S file wanted answer U)
      (λ answer answer' h k. wait_one rules.policy S file wanted answer T answer' U h k) h k
  call_one (Cancel ticket) once crossed settled h k =
      let both = cancel_one rules.policy S ticket h.0 T k.0 U once h.2 k.2 in
      (k.1 ∙ ap TellsEnded both.0 ∙ sym h.1, both.1, same_openings_one through next next' h.3 k.3)
  call_one (Note file owner open_file) once crossed settled h k =
      (k.0 ∙ sym h.0, unchanged_one S T U h.1 k.1, sees_one through next next' file owner (Some open_file) h.2 k.2)
  call_one (Flush file owner) once crossed settled h k =
      (k.0 ∙ sym h.0, releases_one rules.policy S file Bytes owner T U h.1 k.1, sees_one through next next' file owner None h.2 k.2)
  call_one (Forget owner) once crossed settled h k =
      (k.0 ∙ sym h.0, forgets_one rules.policy S owner T U crossed settled h.1 k.1, forgets_owner_one through next next' owner h.2 k.2)
  call_one (Flock file owner mode) once crossed settled h k =
      let both = flock_one rules S file owner mode h.0 T k.0 U h.2 k.2 in
      (k.1 ∙ ap TellsAnswer both.0 ∙ sym h.1, both.1, same_openings_one through next next' h.3 k.3)
  call_one (FlockWait ticket file owner mode) once crossed settled h k =
      let wanted = flock_request ticket owner mode in let held = (S.files file).flocks owner in
      ticket_one ticket (λ answer. FlockWaitComesTo rules S file wanted held answer T) (λ answer. FlockWaitComesTo rules S file wanted held answer U)
      (λ answer answer' h k. flock_wait_one rules S file wanted held answer T answer' U h k) h k
  call_one (FlockRelease file owner) once crossed settled h k =
      (k.0 ∙ sym h.0, releases_one rules.policy S file Whole owner T U h.1 k.1, same_openings_one through next next' h.2 k.2)
  call_one (Release file open_file flock_owner) once crossed settled h k =
      (k.0 ∙ sym h.0, closes_one rules.policy S through file open_file flock_owner T U h.1 k.1, forgets_through_one through next next' file open_file h.2 k.2)
  call_one NextGrant once crossed settled h k =
      let both = fetch_one S h.0 T k.0 U h.2 k.2 in
      (k.1 ∙ ap TellsGrant both.0 ∙ sym h.1, both.1, same_openings_one through next next' h.3 k.3)
  call_one (ForgetOwners first last) once crossed settled h k =
      (k.0 ∙ sym h.0, owners_forgotten_one rules.policy S first last T U h.1 k.1, forgets_seen_one through next next' (is_within first last) h.2 k.2)
  call_one (ForgetFile file) once crossed settled h k =
      (k.0 ∙ sym h.0, file_forgotten_one S file T U h.1 k.1, forgets_seen_on_one through next next' file h.2 k.2)
  call_one (HasLocks first last) once crossed settled h k = (
    k.1 ∙ ap TellsHaving (bool_one h.0 k.0 (λ has. k.2.1 (h.2.0 has)) (λ has. h.2.1 (k.2.0 has))) ∙ sym h.1,
    unchanged_one S T U h.3.state k.3.state,
    same_openings_one through next next' h.3.openings k.3.openings,
  )
  call_one (CountsOf first last) once crossed settled h k = (
    k.1 ∙ ap TellsCounts (counts_one S first last h.0 k.0 h.2 k.2) ∙ sym h.1,
    unchanged_one S T U h.3.state k.3.state,
    same_openings_one through next next' h.3.openings k.3.openings,
  )

-- what is known of any server's state
once_of : (server : LockServer) → AreTicketsOnce (state_of server)
unfolding state_of
once_of server = tickets_once server.table

crossed_of_server : (server : LockServer) → Crosses (state_of server) [] (state_of server)
unfolding state_of
crossed_of_server server = crosses_itself server.table

settled_of : (server : LockServer) (file : ℕ) → ∥ IsSettled (rules_of server).policy ((state_of server).files file) ∥₁
unfolding state_of rules_of
settled_of server file = ∥∥₁_map server.safe (λ safe. safe.settled file)

-- two servers in one state that are told one call
tells_one : (one other : LockServer) (call : Call) (reply reply' : Reply) (next next' : LockServer) → SameServer one other → Tells one call reply next
    → Tells other call reply' next' → (reply' ≡ reply) × SameServer next next'
tells_one one other call reply reply' next next' same tells tells' =
    let state : state_of other ≡ state_of one = state_from_same (state_of one) (state_of other) same.state in
    let through : through_of other ≡ through_of one = λ i file owner. same.openings.through file owner i in
    let by_rules = subst (λ (rules : Rules). CallComesTo rules (state_of other) (through_of other) call reply' (state_of next') (through_of next')) same.rules tells'.comes_to in
    let by_state = subst (λ (S : State). CallComesTo (rules_of one) S (through_of other) call reply' (state_of next') (through_of next')) state by_rules in
    let by_notes = subst (λ (notes : Through). CallComesTo (rules_of one) (state_of one) notes call reply' (state_of next') (through_of next')) through by_state in
    let both = call_one (rules_of one) (state_of one) (through_of one) reply reply' (state_of next) (state_of next') (through_of next) (through_of next') call
    (once_of one) (crossed_of_server one) (settled_of one) tells.comes_to by_notes in (
      both.0,
      record {
        rules = tells'.rules ∙ same.rules ∙ sym tells.rules;
        state = subst (λ (S : State). SameState (state_of next) S) (sym both.1) (SameState-itself (state_of next));
        openings = both.2;
      },
    )

-- and many
pub runs_one : (one other : LockServer) (calls : List Call) (replies answers : List Reply) (last end : LockServer) → SameServer one other
    → Runs one calls replies last → Runs other calls answers end → (answers ≡ replies) × SameServer last end
runs_one one other [] [] [] last end same h k =
    (refl, subst (λ (server : LockServer). SameServer server end) (sym h) (subst (λ (server : LockServer). SameServer one server) (sym k) same))
runs_one one other [] [] (answer ∷ answers) last end same h k = absurd k
runs_one one other [] (reply ∷ replies) answers last end same h k = absurd h
runs_one one other (call ∷ calls) [] answers last end same h k = absurd h
runs_one one other (call ∷ calls) (reply ∷ replies) [] last end same h k = absurd k
runs_one one other (call ∷ calls) (reply ∷ replies) (answer ∷ answers) last end same (next, tells, rest) (next', tells', rest') =
    let here = tells_one one other call reply answer next next' same tells tells' in
    let there = runs_one next next' calls replies answers last end here.1 rest rest' in
    let first : answer ∷ answers ≡ reply ∷ replies = ap (λ (r : Reply). r ∷ answers) here.0 ∙ ap (λ (rs : List Reply). reply ∷ rs) there.0 in
    (first, there.1)
