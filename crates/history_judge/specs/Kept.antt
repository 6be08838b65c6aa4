-- How many possibilities are kept at once.
use Rattle.std.specs.Prelude.{ℕ}
use Rattle.std.specs.BTreeMap.{BTreeMap, values}
use Rattle.std.specs.List.{sum_by}
use Rattle.history_core.specs.declared.file.FileHistory.{FileHistory}
use Rattle.history_core.specs.FileView.{count_in}

-- how many possibilities these files keep together
abbrev pub kept_by : BTreeMap ℕ FileHistory → ℕ
kept_by files = sum_by count_in (values files)
