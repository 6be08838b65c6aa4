-- Sets of files (the words are this project's choice).
use Rattle.std.specs.Prelude.{ℕ, suc, Bool}
use Rattle.wait_core.specs.declared.files.FileSet.{FileSet}
use Rattle.wait_core.specs.Processes.{is_member}

-- whether the file is in the set: files are numbered from 0, and stand where the processes from 1 on stand
unfoldable pub has_file : FileSet → ℕ → Bool
has_file set file = is_member set.places (suc file)
