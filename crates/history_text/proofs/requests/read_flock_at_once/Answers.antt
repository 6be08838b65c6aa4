use Rattle.history_text.proofs.Common.{◌≡◌, ◌∷◌, [], ℕ, List, codes, rules, Flock, flock_request}
use Rattle.history_text.proofs.RequestLemmas.{request_given, nb_given}
use Rattle.history_text.proofs.requests.read_flock_at_once.Goals as goal

-- three words that are known, and a fourth
four_known : (file owner operation nb f o p n : List ℕ) → file ∷ owner ∷ operation ∷ [] ≡ f ∷ o ∷ p ∷ [] → nb ≡ n
    → codes "flock" ∷ file ∷ owner ∷ operation ∷ nb ∷ [] ≡ codes "flock" ∷ f ∷ o ∷ p ∷ n ∷ []
four_known file owner operation nb f o p n three fourth = cc

pub returns-in-Some : goal.returns-in-Some
returns-in-Some c =
    let flock = c.in_ok-flock.flock in
    let mode = c.in-Some.mode in
    let three = rw c.in-Some.is at c.in_ok-flock.ensures in
    request_given c.args.id flock_request _ (c.args.file.now ∷ c.args.owner.now ∷ c.args.operation.now ∷ c.args.nb.now ∷ [])
    flock.file flock.owner (Flock mode) c.sent.result
    (four_known c.args.file.now c.args.owner.now c.args.operation.now c.args.nb.now _ _ _ (codes "nb") three c.in_ok-read_nb.ensures)
    (search rules) (search rules) tt c.sent.ensures

pub returns-in-None : goal.returns-in-None
returns-in-None c =
    let flock = c.in_ok-flock.flock in
    let three = rw c.in-None.is at c.in_ok-flock.ensures in
    nb_given c.args.id flock_request _ (c.args.file.now ∷ c.args.owner.now ∷ c.args.operation.now ∷ c.args.nb.now ∷ []) flock.file flock.owner
    (four_known c.args.file.now c.args.owner.now c.args.operation.now c.args.nb.now _ _ (codes "un") (codes "nb") three c.in_ok-read_nb.ensures)
    (search rules) (search rules)
