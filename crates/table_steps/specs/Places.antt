-- Where the words of the table stand: the mark and the counters first, then the cells (this project's choice).
use Rattle.std.specs.Prelude.{ℕ, ◌+◌, ◌-◌, ◌*◌, ◌<◌, ◌≤◌, List, slice_index}
use Rattle.table_steps.specs.declared.setup.Setup.{Setup}

-- the closing mark; the number of posted, taken and answered requests of a process; and a word of a cell of a process
pub data Place : Type 0 where
  mark : Place
  posted : ℕ → Place
  taken : ℕ → Place
  answered : ℕ → Place
  request : ℕ → ℕ → ℕ → Place
  answer : ℕ → ℕ → ℕ → Place

-- the first word of the cell with this number among all cells
abbrev pub cell_word : ℕ → ℕ → ℕ
cell_word processes cell = 1 + 3 * processes + 6 * cell

-- the number of the first cell of a process
abbrev pub first_cell : ℕ → ℕ → ℕ
first_cell depth p = (p - 1) * (2 * depth)

-- the index of a place, for so many processes and cells of this depth
abbrev pub index_of : ℕ → ℕ → Place → ℕ
index_of processes depth mark = 0
index_of processes depth (posted p) = p
index_of processes depth (taken p) = processes + p
index_of processes depth (answered p) = 2 * processes + p
index_of processes depth (request p cell i) = cell_word processes (first_cell depth p + cell) + i
index_of processes depth (answer p cell i) = cell_word processes (first_cell depth p + depth + cell) + i

-- how many words there are
abbrev pub words_of : ℕ → ℕ → ℕ
words_of processes depth = 1 + 3 * processes + 12 * (processes * depth)

-- it is the number of a process
abbrev pub IsProcess : ℕ → ℕ → Type 0
IsProcess processes p = (1 ≤ p) × (p ≤ processes)

-- a number of processes and a depth that a table may have
pub record IsSetup (setup : Setup) : Type 0 where
  pub processes : IsProcess 64 setup.processes
  pub depth_least : 1 ≤ setup.depth
  pub depth_most : setup.depth ≤ 32

-- it is a place of the table
abbrev pub IsPlace : ℕ → ℕ → Place → Type 0
IsPlace processes depth mark = Unit {0}
IsPlace processes depth (posted p) = IsProcess processes p
IsPlace processes depth (taken p) = IsProcess processes p
IsPlace processes depth (answered p) = IsProcess processes p
IsPlace processes depth (request p cell i) = IsProcess processes p × (cell < depth) × (i < 6)
IsPlace processes depth (answer p cell i) = IsProcess processes p × (cell < depth) × (i < 6)

-- whose place it is: that of the mark is nobody's
abbrev pub owner_of : Place → ℕ
owner_of mark = 0
owner_of (posted p) = p
owner_of (taken p) = p
owner_of (answered p) = p
owner_of (request p cell i) = p
owner_of (answer p cell i) = p

-- what the words have at a place
abbrev pub word_at : ℕ → ℕ → List ℕ → Place → ℕ
word_at processes depth words place = slice_index words (index_of processes depth place)
