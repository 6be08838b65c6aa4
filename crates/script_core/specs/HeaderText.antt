-- The words of header lines (this project's choice).
use Rattle.std.specs.Prelude.{ℕ, List, codes}
use Rattle.fd_table.specs.declared.Limits.{Limits}
use Rattle.fd_table.specs.declared.Limits.TheVariants.{Small, Wide}
use Rattle.wait_core.specs.declared.Policy.{Policy}
use Rattle.wait_core.specs.declared.Policy.TheVariants.{Held, Queue}

-- the word of a policy
abbrev pub policy_word : Policy → List ℕ
policy_word Held = codes "held"
policy_word Queue = codes "queue"

-- the word of limits
abbrev pub limits_word : Limits → List ℕ
limits_word Small = codes "small"
limits_word Wide = codes "wide"
