-- The constants are the numbers that the definitions write, by computation.
use Rattle.script_core.proofs.Common.{◌≡◌, refl, line_limit, script_limit, entry_limit}
use Rattle.script_core.specs.declared.TheConstants.{LINE_MAX, ENTRY_MAX, SCRIPT_MAX}

pub longest_line : LINE_MAX ≡ line_limit
longest_line = refl

pub longest_script : SCRIPT_MAX ≡ script_limit
longest_script = refl

pub longest_entry : ENTRY_MAX ≡ entry_limit
longest_entry = refl
