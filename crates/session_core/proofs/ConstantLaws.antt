-- The constant is the number that the definitions write, by computation.
use Rattle.session_core.proofs.Common.{◌≡◌, refl, request_limit}
use Rattle.session_core.specs.declared.TheConstants.{N_MAX}

pub most_requests : N_MAX ≡ request_limit
most_requests = refl
