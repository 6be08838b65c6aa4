-- The lines that tell the whole state behind an entry of a run: each begins with `#` (this project's choice).
use Rattle.std.specs.Prelude.{◌≡◌, ◌≢◌, ◌≤◌, ◌<◌, ◌^◌, ℕ, zero, suc, ◌==◌, ⊤, MatchBool, Option, Some, None, List, [], ◌∷◌, ◌++◌, slice_get, map, flat_map, codes, decimal}
use Rattle.range_core.specs.Facts.{MatchFact}
use Rattle.fd_table.specs.declared.TheConstants.{FILES}
use Rattle.fd_table.specs.declared.tables.Look.{Look}
use Rattle.fd_table.specs.Descriptors.{Descriptors, look_at, descriptor_limit}
use Rattle.lock_book.specs.declared.Held.{Held}
use Rattle.lock_book.specs.Changes.{mode_in, flock_mode_in}
use Rattle.lock_book.specs.Reports.{IsHeldReport}
use Rattle.lock_manager.specs.declared.request.ProcState.{ProcState}
use Rattle.lock_manager.specs.declared.request.ProcState.TheVariants.{Unborn, Live, Waiting, Ended}
use Rattle.lock_manager.specs.declared.request.TheConstants.{SECTIONS}
use Rattle.lock_manager.specs.declared.request.Visit.{Visit}
use Rattle.lock_manager.specs.declared.request.Rules.{Rules}
use Rattle.lock_manager.specs.State.{State, Visits}
use Rattle.script_core.specs.declared.state_lines.Opened.{Opened}
use Rattle.script_core.specs.declared.state_lines.StateLine.{StateLine}
use Rattle.script_core.specs.declared.state_lines.StateLine.TheVariants as lines
use Rattle.script_core.specs.declared.states.States.{States}
use Rattle.script_core.specs.declared.states.States.TheVariants as places
use Rattle.script_core.specs.RequestText.{access_word, visit_words}
use Rattle.script_core.specs.ReportText.{held_line, wait_line, state_word}

-- where a process stands
abbrev pub standing_text : ℕ → ProcState → List ℕ
standing_text p state = codes "proc " ++ decimal p ++ codes " " ++ state_word state ++ 10 ∷ []

-- the access mode, and the offset in bytes
abbrev pub access_text : Opened → List ℕ
access_text opened = codes " " ++ access_word opened.access ++ codes " offset " ++ decimal opened.offset

-- what a descriptor refers to: the description, the file, the access mode and the offset
abbrev pub opened_text : Opened → List ℕ
opened_text opened = codes " description " ++ decimal opened.description ++ codes " file " ++ decimal opened.file ++ access_text opened

-- a descriptor of a process: its number, and what it refers to
abbrev pub descriptor_text : ℕ → ℕ → Opened → List ℕ
descriptor_text p fd opened = codes "fd " ++ decimal p ++ codes " " ++ decimal fd ++ opened_text opened ++ 10 ∷ []

-- a file: its number, and its size in bytes
abbrev pub size_text : ℕ → ℕ → List ℕ
size_text file size = codes "file " ++ decimal file ++ codes " size " ++ decimal size ++ 10 ∷ []

-- a section, and a process that is in it, by a shared visit or not
abbrev pub visit_text : ℕ → ℕ → Visit → List ℕ
visit_text section p visit =
    codes "section " ++ decimal section ++ codes " process " ++ decimal p ++ flat_map (λ word. 32 ∷ word) (visit_words visit) ++ 10 ∷ []

-- what a line of the state tells, which ends the line
abbrev pub state_line_text : StateLine → List ℕ
state_line_text (lines.Held held) = held_line held
state_line_text (lines.Waits wait) = wait_line wait
state_line_text (lines.Process p state) = standing_text p state
state_line_text (lines.Descriptor p fd opened) = descriptor_text p fd opened
state_line_text (lines.Section section p visit) = visit_text section p visit
state_line_text (lines.File file size) = size_text file size

-- a line of the state behind a mark
abbrev pub marked_line : List ℕ → StateLine → List ℕ
marked_line mark line = mark ++ state_line_text line

-- the line of a process that stands so, where it was ever born
abbrev pub standing_line : ℕ → ProcState → List StateLine
standing_line p Unborn = []
standing_line p Live = lines.Process p Live ∷ []
standing_line p Waiting = lines.Process p Waiting ∷ []
standing_line p Ended = lines.Process p Ended ∷ []

-- what there is to tell of a descriptor that refers to this
abbrev pub opened_of : Look → Opened
opened_of look = record { description = look.desc; file = look.file; access = look.access; offset = look.offset }

-- the line of a descriptor of a process, where it is open
abbrev pub descriptor_line : ℕ → ℕ → Option Look → List StateLine
descriptor_line p fd None = []
descriptor_line p fd (Some look) = lines.Descriptor p fd (opened_of look) ∷ []

-- the line of a process in a section, where it is in it
abbrev pub visit_line : ℕ → ℕ → Option Visit → List StateLine
visit_line section p None = []
visit_line section p (Some visit) = lines.Section section p visit ∷ []

-- the line of a file of this size, where it isn't empty
abbrev pub size_line : ℕ → ℕ → List StateLine
size_line file zero = []
size_line file (suc more) = lines.File file (suc more) ∷ []

-- the lines of the processes from 1 on, so many of them
unfoldable pub standing_lines : (ℕ → ProcState) → ℕ → List StateLine
standing_lines states zero = []
standing_lines states (suc n) = standing_lines states n ++ standing_line (suc n) (states (suc n))

-- the lines of the descriptors of a process from 0 on, so many of them
unfoldable pub descriptor_lines : Descriptors → ℕ → ℕ → List StateLine
descriptor_lines D p zero = []
descriptor_lines D p (suc n) = descriptor_lines D p n ++ descriptor_line p n (look_at D p n)

-- those of the processes from 1 on, so many of them, with so many descriptors each
unfoldable pub all_descriptor_lines : Descriptors → ℕ → ℕ → List StateLine
all_descriptor_lines D descriptors zero = []
all_descriptor_lines D descriptors (suc n) = all_descriptor_lines D descriptors n ++ descriptor_lines D (suc n) descriptors

-- the lines of the processes from 1 on that are in the section, of so many
unfoldable pub visit_lines : Visits → ℕ → ℕ → List StateLine
visit_lines visits section zero = []
visit_lines visits section (suc n) = visit_lines visits section n ++ visit_line section (suc n) (visits (suc n) section)

-- those of the sections from 0 on, so many of them, of so many processes
unfoldable pub section_lines : Visits → ℕ → ℕ → List StateLine
section_lines visits processes zero = []
section_lines visits processes (suc n) = section_lines visits processes n ++ visit_lines visits n processes

-- the lines of the files from 0 on, so many of them
unfoldable pub size_lines : (ℕ → ℕ) → ℕ → List StateLine
size_lines sizes zero = []
size_lines sizes (suc n) = size_lines sizes n ++ size_line n (sizes n)

-- the lines of the whole state of so many processes with so many descriptors each: the locks that are held, the waits in order of arrival,
-- where each process stands that was ever born, each descriptor that is open, by process, who is in which section, by section, and each file that
-- isn't empty
pub record AreStateLines (processes descriptors : ℕ) (S : State) (told : List StateLine) : Type 0 where
  pub held : List Held
  pub is_held : IsHeldReport (mode_in S.changes) (flock_mode_in S.flock_changes) held
  pub is : told ≡ map lines.Held held ++ map lines.Waits S.waits ++ standing_lines S.states processes
      ++ all_descriptor_lines S.descriptors descriptors processes ++ section_lines S.visits processes SECTIONS ++ size_lines S.descriptors.sizes FILES

-- the text of these lines, each behind `#` and a space
abbrev pub IsStateText : ℕ → ℕ → State → List ℕ → Type 0
IsStateText processes descriptors S text =
    (told : List StateLine) × AreStateLines processes descriptors S told × (text ≡ flat_map (marked_line (codes "# ")) told)

-- the line is among these
abbrev pub IsAmong : List StateLine → StateLine → Type 0
IsAmong told line = (place : ℕ) × (slice_get told place ≡ Some line)

-- of the first lines these are missing among the others, in order
abbrev pub AreMissing : List StateLine → List StateLine → List StateLine → Type 0
AreMissing [] others missing = missing ≡ []
AreMissing (line ∷ told) others missing =
    MatchFact (IsAmong others line) (AreMissing told others missing) ((rest : List StateLine) × (missing ≡ line ∷ rest) × AreMissing told others rest)

-- the text of what changed between two states: first the lines that went, and then those that came
abbrev pub IsChangesText : List StateLine → List StateLine → List ℕ → Type 0
IsChangesText before after text =
    (gone : List StateLine) × AreMissing before after gone × (came : List StateLine) × AreMissing after before came
    × (text ≡ flat_map (marked_line (codes "# - ")) gone ++ flat_map (marked_line (codes "# + ")) came)

-- against these lines it is told what the entry of this number changed, which found the state S: behind the first entry against none
abbrev pub AreToldAgainst : Rules → ℕ → ℕ → State → List StateLine → Type 0
AreToldAgainst rules processes number S before =
    MatchBool (number == 1) (before ≡ []) (AreStateLines processes (descriptor_limit rules.limits) S before)

-- where changes are asked for, these lines are those against which they are told
abbrev pub IsKept : States → Rules → ℕ → ℕ → State → List StateLine → Type 0
IsKept places.Nowhere rules processes number S before = ⊤
IsKept (places.Behind place) rules processes number S before = ⊤
IsKept places.Everywhere rules processes number S before = ⊤
IsKept places.Changes rules processes number S before = AreToldAgainst rules processes number S before

-- what is told of the state behind the entry of this number, which led from S to T: nothing, the whole state, or what it changed
abbrev pub TellsState : States → Rules → ℕ → ℕ → State → State → List ℕ → Type 0
TellsState places.Nowhere rules processes number S T text = text ≡ []
TellsState (places.Behind place) rules processes number S T text =
    MatchBool (number == place) (IsStateText processes (descriptor_limit rules.limits) T text) (text ≡ [])
TellsState places.Everywhere rules processes number S T text = IsStateText processes (descriptor_limit rules.limits) T text
TellsState places.Changes rules processes number S T text =
    (before : List StateLine) × AreToldAgainst rules processes number S before
    × (after : List StateLine) × AreStateLines processes (descriptor_limit rules.limits) T after × IsChangesText before after text

-- the word asks for these states: `all` for the state behind each entry, `changes` for what each changed, and the number of an entry, from 1
-- on, for the state behind it
abbrev pub AsksForStates : List ℕ → States → Type 0
AsksForStates word places.Nowhere = ⊥
AsksForStates word (places.Behind place) = (1 ≤ place) × (word ≡ decimal place)
AsksForStates word places.Everywhere = word ≡ codes "all"
AsksForStates word places.Changes = word ≡ codes "changes"

-- the word asks for none
abbrev pub AsksForNoState : List ℕ → Type 0
AsksForNoState word = (word ≢ codes "all") × (word ≢ codes "changes") × ((place : ℕ) → 1 ≤ place → place < 2 ^ 64 → word ≢ decimal place)
