-- How the header lines of a script or a journal are read: each stands before all other lines, and once (this project's choice).
use Rattle.std.specs.Prelude.{◌≡◌, ℕ, ◌&&◌, ◌⊎◌, Bool, is_none, MatchBool, Some, None, unwrap_or, Result, Ok, Err, List, [], ◌∷◌, codes, bytes_eq}
use Rattle.fd_table.specs.declared.Limits.{Limits}
use Rattle.fd_table.specs.declared.Limits.TheVariants.{Small}
use Rattle.wait_core.specs.declared.Policy.TheVariants.{Held}
use Rattle.lock_manager.specs.declared.request.Rules.{Rules}
use Rattle.script_core.specs.declared.header.Header.{Header}
use Rattle.script_core.specs.declared.script.Cause.{Cause}
use Rattle.script_core.specs.HeaderText.{policy_word, limits_word}
use Rattle.script_core.specs.Arguments.{Argument, PolicyWord, LimitsWord, AreRefused}

-- no header line was read
abbrev pub no_header : Header
no_header = record { policy = None; limits = None }

-- the limits: small ones where no line said others
abbrev pub limits_said : Header → Limits
limits_said header = unwrap_or header.limits Small

-- the rules: the policy is held where no line said another
abbrev pub rules_said : Header → Rules
rules_said header = record { policy = unwrap_or header.policy Held; limits = limits_said header }

-- the line of this first word says the policy: no line said it, and header lines may stand there
abbrev pub says_policy : Header → Bool → List ℕ → Bool
says_policy header at_top first = bytes_eq first (codes "policy") && (is_none header.policy && at_top)

-- the line of this first word says the limits: no line said them, and header lines may stand there
abbrev pub says_limits : Header → Bool → List ℕ → Bool
says_limits header at_top first = bytes_eq first (codes "limits") && (is_none header.limits && at_top)

-- what follows the first word of a header line: one word, that of a value, with which it says this; or else it is refused
abbrev pub ValueGives : {A B : Type 0} → Argument → (A → List ℕ) → (A → B) → List (List ℕ) → Result B Cause → Type 0
ValueGives {A} {B} argument word said words result =
    ((cause : Cause) × AreRefused (argument ∷ []) words cause × (result ≡ Err cause))
    ⊎ ((value : A) × (words ≡ word value ∷ []) × (result ≡ Ok (said value)))

-- a first word, and what follows it: a header line, which says this of all header lines up to it; or another line, of which that holds
abbrev pub HeaderGives : {B : Type 0} → Header → Bool → (Header → B) → List ℕ → List (List ℕ) → Type 0 → Result B Cause → Type 0
HeaderGives {B} header at_top said first rest Other result =
    MatchBool (says_policy header at_top first)
    (ValueGives PolicyWord policy_word (λ policy. said (record header { policy = Some policy })) rest result)
    (MatchBool (says_limits header at_top first)
    (ValueGives LimitsWord limits_word (λ limits. said (record header { limits = Some limits })) rest result)
    Other)
