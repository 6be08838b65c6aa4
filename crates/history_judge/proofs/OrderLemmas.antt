-- The orders of the files are merged to one of the whole history.
use Rattle.history_judge.proofs.Common.{inl, inr, ℕ, ◌≡◌, ◌≢◌, ◌∙◌, ◌+◌, ◌<◌, sym, ap, refl, subst, arith, Bool, Option, Some, None, List, [], ◌∷◌, ◌++◌, map, eq-eqb, common_steps, option_map, if◌then◌else◌, Happening, FileLine, World, beginning, FileHappening, Answered, HistoryLine, Moment, Sent, beginnings, line_of, lines_among, Sending, AreNamed, IsNamed, lines_of, none_open, open_behind, beyond, front, left_in, lefts_in, true, BTreeMap, get, nat_cmp, FileHistory, Files, FileOrder, file_in, keeps_in, requests_of}
use Rattle.std.specs.Prelude.{⊤}
use Rattle.history_core.specs.Locks.{FileLocks}
use Rattle.history_core.specs.Moments as one_file
use Rattle.history_core.specs.Orders as file_orders
use Rattle.history_judge.specs.Histories.{Comes}
use Rattle.history_judge.specs.FilesApart.{AreNamedFrom, lines_from}
use Rattle.history_judge.specs.HistoryOrders.{IsLeft, Leave, OrderTo, Tells}
use Rattle.history_judge.specs.Merging.{Left, file_of, file_sent, files_from, files_of, left_behind, merged, pass, passed, told_as}
use Rattle.history_judge.proofs.NameLemmas.{Named, decide, named_same, neq-eqb}
use Rattle.history_judge.proofs.ApartLemmas.{Home, apart, home_answered, home_sent}
use Rattle.history_judge.proofs.MergeLemmas.{lines-append, named_first, new_of, with_world, world_here, world_off}
use Rattle.history_judge.specs.declared.judge.HistoryJudge.{HistoryJudge}
use Rattle.history_judge.specs.FileOrders.{AreMerged, AreOrders}
use Rattle.history_judge.specs.FilesView as all_files
use Rattle.history_judge.specs.JudgeView.{Knows, keeps_order}
use Rattle.history_judge.proofs.FilesLemmas.{keeps_entry, knows_entry, knows_none}
use Rattle.history_judge.proofs.MergeLemmas.{legal_apart}
use Rattle.history_core.proofs.ChainLemmas.{requests-acts}

-- the moments are none, or begin with a line
abbrev AtLine : List one_file.Moment → Type 0
AtLine [] = ⊤
AtLine (one_file.Line line ∷ moments) = ⊤
AtLine (one_file.Effects id ∷ moments) = ⊥
AtLine (one_file.LetsGo id ∷ moments) = ⊥

-- what comes behind more lines is none of the front
late : (runs : Bool) (b c : ℕ) (w : World) (moments : List one_file.Moment) (told : List Happening) (v : World) → b < c
    → file_orders.Tells runs w c moments told v → (front b told ≡ []) × (beyond b told ≡ told)
late runs b c w [] told v below tells = (ap (front b) tells.1, ap (beyond b) tells.1 ∙ sym tells.1)
late runs b c w (one_file.Line line ∷ moments) told v below tells = late runs b (c + 1) tells.0 moments told v (omega (arith, below)) tells.2
late runs b c w (one_file.Effects id ∷ moments) told v below tells = first_late b told (file_orders.effect_told c tells.1.0.request) tells.2 tells.3 below
  where
    first_late : (b : ℕ) (told : List Happening) (h : Happening) (rest : List Happening) → told ≡ h ∷ rest → b < h.behind
        → (front b told ≡ []) × (beyond b told ≡ told)
    first_late b told h rest is below = (grind (arith, common_steps, is, below), grind (arith, common_steps, is, below))
late runs b c w (one_file.LetsGo id ∷ moments) told v below tells = first_late b told (file_orders.loss_told c tells.1.0.request) tells.2 tells.3 below
  where
    first_late : (b : ℕ) (told : List Happening) (h : Happening) (rest : List Happening) → told ≡ h ∷ rest → b < h.behind
        → (front b told ≡ []) × (beyond b told ≡ told)
    first_late b told h rest is below = (grind (arith, common_steps, is, below), grind (arith, common_steps, is, below))

-- what happens now is the first of the front
soon : (b : ℕ) (told : List Happening) (h : Happening) (rest : List Happening) → told ≡ h ∷ rest → h.behind ≡ b
    → (front b told ≡ h ∷ front b rest) × (beyond b told ≡ beyond b rest)
soon b told h rest is now = (grind (arith, common_steps, is, now), grind (arith, common_steps, is, now))

-- the acts on a file before its next line come in the history
record Acts (runs : Bool) (f b n : ℕ) (worlds : ℕ → World) (lines : List FileLine) (told : List Happening) (v : World) : Type 0 where
  pub moments : List Moment
  pub none : lines_among moments ≡ []
  pub next : ℕ → World
  pub others : (g : ℕ) → g ≢ f → next g ≡ worlds g
  pub same : (g : ℕ) → requests_of (next g) ≡ requests_of (worlds g)
  pub rest : List one_file.Moment
  pub at_line : AtLine rest
  pub in_order : one_file.lines_among rest ≡ lines
  pub tells : file_orders.Tells runs (next f) b rest (beyond b told) v
  pub before : (later : List Moment) (more : List FileHappening) (last : ℕ → World) → Tells runs next n later more last
      → Tells runs worlds n (moments ++ later) (map (told_as n f) (front b told) ++ more) last

-- none come
no_acts : (runs : Bool) (f b n : ℕ) (worlds : ℕ → World) (moments : List one_file.Moment) (told : List Happening) (v : World) → AtLine moments
    → file_orders.Tells runs (worlds f) b moments told v → (front b told ≡ []) → (beyond b told ≡ told)
    → Acts runs f b n worlds (one_file.lines_among moments) told v
no_acts runs f b n worlds moments told v at_line tells none all = record {
  moments = [];
  none = refl;
  next = worlds;
  others = λ g off. refl;
  same = λ g. refl;
  rest = moments;
  at_line = at_line;
  in_order = refl;
  tells = subst (λ t. file_orders.Tells runs (worlds f) b moments t v) (sym all) tells;
  before = λ later more last rest. subst (λ (t : List Happening). Tells runs worlds n later (map (told_as n f) t ++ more) last) (sym none) rest;
}

-- one comes
one_act : (runs : Bool) (f b n : ℕ) (worlds : ℕ → World) (moment : one_file.Moment) (lines : List FileLine) (told rest : List Happening) (h : Happening) (v : World)
    (next : World) (comes : Comes runs worlds (record { file = f; what = moment }) (with_world worlds f next))
    → requests_of next ≡ requests_of (worlds f) → told ≡ h ∷ rest → h.behind ≡ b → lines_among (record { file = f; what = moment } ∷ []) ≡ []
    → ((later : List Moment) (more : List FileHappening) (last : ℕ → World) → Tells runs (with_world worlds f next) n later more last
    → Tells runs worlds n (record { file = f; what = moment } ∷ later) (told_as n f h ∷ more) last)
    → Acts runs f b n (with_world worlds f next) lines rest v → Acts runs f b n worlds lines told v
one_act runs f b n worlds moment lines told rest h v next comes same is now silent first acts =
    let parts = soon b told h rest is now in
    record {
      moments = (record { file = f; what = moment }) ∷ acts.moments;
      none = lines-append ((record { file = f; what = moment }) ∷ []) acts.moments ∙ ap (λ ls. ls ++ lines_among acts.moments) silent ∙ acts.none;
      next = acts.next;
      others = λ g off. acts.others g off ∙ world_off worlds f next g off;
      same = λ g. acts.same g ∙ elim (decide g f) [
        | inl here ↦ subst (λ x. requests_of (with_world worlds f next x) ≡ requests_of (worlds x)) (sym here) (ap requests_of (world_here worlds f next) ∙ same)
        | inr off ↦ ap requests_of (world_off worlds f next g off)
      ];
      rest = acts.rest;
      at_line = acts.at_line;
      in_order = acts.in_order;
      tells = subst (λ t. file_orders.Tells runs (acts.next f) b acts.rest t v) (sym parts.1) acts.tells;
      before = λ later more last tells.
          subst (λ (t : List Happening). Tells runs worlds n ((record { file = f; what = moment }) ∷ (acts.moments ++ later)) (map (told_as n f) t ++ more) last) (sym parts.0)
          (first (acts.moments ++ later) (map (told_as n f) (front b rest) ++ more) last (acts.before later more last tells));
    }

-- the acts before the next line
acts_first : (runs : Bool) (f b n : ℕ) (worlds : ℕ → World) (w : World) (moments : List one_file.Moment) (told : List Happening) (v : World) → worlds f ≡ w
    → file_orders.Tells runs w b moments told v → Acts runs f b n worlds (one_file.lines_among moments) told v
acts_first runs f b n worlds w [] told v from tells =
    no_acts runs f b n worlds [] told v tt (subst (λ u. file_orders.Tells runs u b [] told v) (sym from) tells)
    (ap (front b) tells.1) (ap (beyond b) tells.1 ∙ sym tells.1)
acts_first runs f b n worlds w (one_file.Line line ∷ moments) told v from tells =
    let none = late runs b (b + 1) tells.0 moments told v (omega arith) tells.2 in
    no_acts runs f b n worlds (one_file.Line line ∷ moments) told v tt
    (subst (λ u. file_orders.Tells runs u b (one_file.Line line ∷ moments) told v) (sym from) tells) none.0 none.1
acts_first runs f b n worlds w (one_file.Effects id ∷ moments) told v from tells =
    let next = with_world worlds f tells.0 in
    let here : next f ≡ tells.0 = world_here worlds f tells.0 in
    let one = tells.1.0 in
    let effect : one_file.HasEffect (worlds f) one (next f) =
    subst (λ u. one_file.HasEffect u one (next f)) (sym from) (subst (λ u. one_file.HasEffect w one u) (sym here) tells.1.2) in
    let is_open : one_file.IsOpen (worlds f) id one = subst (λ u. one_file.IsOpen u id one) (sym from) tells.1.1 in
    let comes : Comes runs worlds (record { file = f; what = one_file.Effects id }) next =
    record { comes = (one, is_open, effect); others = λ g off. world_off worlds f tells.0 g off; is_new = tt } in
    one_act runs f b n worlds (one_file.Effects id) (one_file.lines_among moments) told tells.2 (file_orders.effect_told b one.request) v tells.0 comes
    (requests-acts w one tells.0 (inl tells.1.2) ∙ ap requests_of (sym from)) tells.3 refl refl
    (λ later more last rest. (next, comes, more, refl, rest))
    (acts_first runs f b n next tells.0 moments tells.2 v here tells.4)
acts_first runs f b n worlds w (one_file.LetsGo id ∷ moments) told v from tells =
    let next = with_world worlds f tells.0 in
    let here : next f ≡ tells.0 = world_here worlds f tells.0 in
    let one = tells.1.0 in
    let loses : one_file.Loses (worlds f) one (next f) =
    subst (λ u. one_file.Loses u one (next f)) (sym from) (subst (λ u. one_file.Loses w one u) (sym here) tells.1.2) in
    let is_open : one_file.IsOpen (worlds f) id one = subst (λ u. one_file.IsOpen u id one) (sym from) tells.1.1 in
    let comes : Comes runs worlds (record { file = f; what = one_file.LetsGo id }) next =
    record { comes = (one, is_open, loses); others = λ g off. world_off worlds f tells.0 g off; is_new = tt } in
    one_act runs f b n worlds (one_file.LetsGo id) (one_file.lines_among moments) told tells.2 (file_orders.loss_told b one.request) v tells.0 comes
    (requests-acts w one tells.0 (inr tells.1.2) ∙ ap requests_of (sym from)) tells.3 refl refl
    (λ later more last rest. (next, comes, more, refl, rest))
    (acts_first runs f b n next tells.0 moments tells.2 v here tells.4)

-- what is left of a file's order leads through these lines
record RestOf (runs : Bool) (lines : List FileLine) (world : World) (left : Left) (last : World) : Type 0 where
  pub moments : List one_file.Moment
  pub at_line : AtLine moments
  pub in_order : one_file.lines_among moments ≡ lines
  pub tells : file_orders.Tells runs world left.lines moments left.told last

-- so it is where one is left, and else no line comes
abbrev FileRest : Bool → List FileLine → World → Option Left → World → Type 0
FileRest runs lines world None last = (lines ≡ []) × (last ≡ world)
FileRest runs lines world (Some left) last = RestOf runs lines world left last

-- the first of these lines comes
record FirstLine (runs : Bool) (here : FileLine) (lines : List FileLine) (world : World) (left : Left) (last : World) : Type 0 where
  pub next : World
  pub comes : one_file.Comes runs world (one_file.Line here) next
  pub moments : List one_file.Moment
  pub in_order : one_file.lines_among moments ≡ lines
  pub tells : file_orders.Tells runs next (left.lines + 1) moments left.told last

first_line : (runs : Bool) (here : FileLine) (lines : List FileLine) (world : World) (left : Left) (last : World) (moments : List one_file.Moment) → AtLine moments
    → one_file.lines_among moments ≡ here ∷ lines → file_orders.Tells runs world left.lines moments left.told last
    → FirstLine runs here lines world left last
first_line runs here lines world left last [] at_line in_order tells = absurd (let e : ⊥ = cc in e)
first_line runs here lines world left last (one_file.Line line ∷ moments) at_line in_order tells =
    let is : line ≡ here = cc in
    record {
      next = tells.0;
      comes = subst (λ l. one_file.Comes runs world (one_file.Line l) tells.0) is tells.1;
      moments = moments;
      in_order = cc;
      tells = tells.2;
    }
first_line runs here lines world left last (one_file.Effects id ∷ moments) at_line in_order tells = absurd at_line
first_line runs here lines world left last (one_file.LetsGo id ∷ moments) at_line in_order tells = absurd at_line

-- the home of a line is its file
record HomeAt (opens : ℕ → Option Sending) (line : HistoryLine) : Type 0 where
  pub home : Home opens line
  pub is_file : file_of opens line ≡ home.file

home_at : (opens : ℕ → Option Sending) (line : HistoryLine) → IsNamed opens line → HomeAt opens line
home_at opens (Sent f request) named = record { home = home_sent opens f request; is_file = refl }
home_at opens (Answered id answer) named = go (opens id) refl
  where
    go : (s : Option Sending) → opens id ≡ s → HomeAt opens (Answered id answer)
    go None none = absurd (named none)
    go (Some s) is = record { home = home_answered opens s.file id answer s is refl; is_file = ap file_sent is }

-- one order of these lines, and what happens
record MergedTo (runs : Bool) (worlds : ℕ → World) (n : ℕ) (lines : List HistoryLine) (told : List FileHappening) (last : ℕ → World) : Type 0 where
  pub moments : List Moment
  pub in_order : lines_among moments ≡ lines
  pub tells : Tells runs worlds n moments told last

-- what is left of the other files stays
passes_off : (f : ℕ) (lefts : ℕ → Option Left) (g : ℕ) → g ≢ f → pass f lefts g ≡ lefts g
passes_off f lefts g off = ap (λ b. if b then left_behind (lefts g) else lefts g) (neq-eqb g f off)

passes_here : (f : ℕ) (lefts : ℕ → Option Left) → pass f lefts f ≡ left_behind (lefts f)
passes_here f lefts = ap (λ b. if b then left_behind (lefts f) else lefts f) (eq-eqb f f refl)

-- what is left of all files leads through these lines
abbrev AllRest : Bool → (ℕ → Option Sending) → List HistoryLine → (ℕ → World) → (ℕ → Option Left) → (ℕ → World) → Type 0
AllRest runs opens lines worlds lefts last = (g : ℕ) → FileRest runs (lines_from opens g lines) (worlds g) (lefts g) (last g)

nothing_left : (runs : Bool) (world : World) (left : Option Left) (last : World) → FileRest runs [] world left last → last ≡ world
nothing_left runs world None last rest = rest.1
nothing_left runs world (Some left) last rest = none rest.moments rest.at_line rest.in_order rest.tells
  where
    none : (moments : List one_file.Moment) → AtLine moments → one_file.lines_among moments ≡ [] → file_orders.Tells runs world left.lines moments left.told last
        → last ≡ world
    none [] at_line in_order tells = tells.0
    none (one_file.Line line ∷ moments) at_line in_order tells = absurd (let e : ⊥ = cc in e)
    none (one_file.Effects id ∷ moments) at_line in_order tells = absurd at_line
    none (one_file.LetsGo id ∷ moments) at_line in_order tells = absurd at_line

-- a line comes, and what happens on its file up to the next
module _ (runs : Bool) (opens : ℕ → Option Sending) (line : HistoryLine) (lines : List HistoryLine) (n : ℕ) (worlds last : ℕ → World) (lefts : ℕ → Option Left)
    (named : Named opens worlds) (is_named : IsNamed opens line) (home : Home opens line) (rests : AllRest runs opens (line ∷ lines) worlds lefts last)
    (more : (next : ℕ → World) → Named (open_behind opens line) next → AllRest runs (open_behind opens line) lines next (pass home.file lefts) last
    → MergedTo runs next (n + 1) lines (merged (n + 1) (pass home.file lefts) (files_from (open_behind opens line) lines)) last) where
  with_left : (left : Left) → lefts home.file ≡ Some left → RestOf runs (lines_from opens home.file (line ∷ lines)) (worlds home.file) left (last home.file)
      → MergedTo runs worlds n (line ∷ lines)
      (passed (n + 1) home.file (lefts home.file) ++ merged (n + 1) (pass home.file lefts) (files_from (open_behind opens line) lines)) last
  with_left left is rest =
      let f = home.file in
      let split = first_line runs home.here (lines_from (open_behind opens line) f lines) (worlds f) left (last f) rest.moments rest.at_line
      (rest.in_order ∙ ap (λ ls. ls ++ lines_from (open_behind opens line) f lines) home.on) rest.tells in
      let middle = with_world worlds f split.next in
      let here : middle f ≡ split.next = world_here worlds f split.next in
      let moment : Moment = record { file = f; what = one_file.Line home.here } in
      let new = new_of opens worlds f home.here named (subst (λ l. IsNamed opens l) (sym home.is) is_named) in
      let comes : Comes runs worlds moment middle = record {
        comes = subst (λ u. one_file.Comes runs (worlds f) (one_file.Line home.here) u) (sym here) split.comes;
        others = λ g off. world_off worlds f split.next g off;
        is_new = new;
      } in
      let still : Named (open_behind opens line) middle =
      subst (λ l. Named (open_behind opens l) middle) home.is (apart runs opens worlds (moment ∷ []) middle named (middle, comes, λ g. refl)).still in
      let acts = acts_first runs f (left.lines + 1) (n + 1) middle split.next split.moments left.told (last f) here split.tells in
      let others_rest : AllRest runs (open_behind opens line) lines acts.next (pass f lefts) last = λ g. elim (decide g f) [
        | inl same ↦ subst (λ x. FileRest runs (lines_from (open_behind opens line) x lines) (acts.next x) (pass f lefts x) (last x)) (sym same)
            (subst (λ o. FileRest runs (lines_from (open_behind opens line) f lines) (acts.next f) o (last f)) (sym (passes_here f lefts ∙ ap left_behind is))
            (record { moments = acts.rest; at_line = acts.at_line; in_order = acts.in_order ∙ split.in_order; tells = acts.tells }))
        | inr off ↦ subst (λ o. FileRest runs (lines_from (open_behind opens line) g lines) (acts.next g) o (last g)) (sym (passes_off f lefts g off))
            (subst (λ u. FileRest runs (lines_from (open_behind opens line) g lines) u (lefts g) (last g))
            (sym (acts.others g off ∙ world_off worlds f split.next g off))
            (subst (λ ls. FileRest runs ls (worlds g) (lefts g) (last g)) (ap (λ ls. ls ++ lines_from (open_behind opens line) g lines) (home.off g off))
            (rests g)))
      ] in
      let rest_of = more acts.next (named_same (open_behind opens line) middle acts.next still acts.same) others_rest in
      let told = merged (n + 1) (pass f lefts) (files_from (open_behind opens line) lines) in
      record {
        moments = moment ∷ (acts.moments ++ rest_of.moments);
        in_order = ap (λ ls. line_of f home.here ∷ ls) (lines-append acts.moments rest_of.moments)
            ∙ ap (λ ls. line_of f home.here ∷ (ls ++ lines_among rest_of.moments)) acts.none
            ∙ ap (λ ls. line_of f home.here ∷ ls) rest_of.in_order
            ∙ ap (λ l. l ∷ lines) home.is;
        tells = subst (λ o. Tells runs worlds n (moment ∷ (acts.moments ++ rest_of.moments)) (passed (n + 1) f o ++ told) last) (sym is)
            (middle, comes, map (told_as (n + 1) f) (front (left.lines + 1) left.told) ++ told, refl, acts.before rest_of.moments told last rest_of.tells);
      }

  line_merged : MergedTo runs worlds n (line ∷ lines)
      (passed (n + 1) home.file (lefts home.file) ++ merged (n + 1) (pass home.file lefts) (files_from (open_behind opens line) lines)) last
  line_merged = go (lefts home.file) refl (rests home.file)
    where
      go : (o : Option Left) → lefts home.file ≡ o → FileRest runs (lines_from opens home.file (line ∷ lines)) (worlds home.file) (lefts home.file) (last home.file)
          → MergedTo runs worlds n (line ∷ lines)
          (passed (n + 1) home.file (lefts home.file) ++ merged (n + 1) (pass home.file lefts) (files_from (open_behind opens line) lines)) last
      go None none rest =
          let no = subst (λ o. FileRest runs (lines_from opens home.file (line ∷ lines)) (worlds home.file) o (last home.file)) none rest in
          absurd (never (sym (ap (λ ls. ls ++ lines_from (open_behind opens line) home.file lines) home.on) ∙ no.0))
        where
          never : home.here ∷ lines_from (open_behind opens line) home.file lines ≡ [] → ⊥
          never e = cc
      go (Some left) is rest = with_left left is (subst (λ o. FileRest runs (lines_from opens home.file (line ∷ lines)) (worlds home.file) o (last home.file)) is rest)

-- the orders that are left are merged to one of the lines
merge_told : (runs : Bool) (lines : List HistoryLine) (opens : ℕ → Option Sending) (n : ℕ) (worlds last : ℕ → World) (lefts : ℕ → Option Left)
    → Named opens worlds → AreNamedFrom opens lines → AllRest runs opens lines worlds lefts last
    → MergedTo runs worlds n lines (merged n lefts (files_from opens lines)) last
merge_told runs [] opens n worlds last lefts named names rests = record {
  moments = [];
  in_order = refl;
  tells = (λ g. nothing_left runs (worlds g) (lefts g) (last g) (rests g), refl);
}
merge_told runs (line ∷ lines) opens n worlds last lefts named names rests =
    let at = home_at opens line names.0 in
    subst (λ x. MergedTo runs worlds n (line ∷ lines) (passed (n + 1) x (lefts x) ++ merged (n + 1) (pass x lefts) (files_from (open_behind opens line) lines)) last)
    (sym at.is_file)
    (line_merged runs opens line lines n worlds last lefts named names.0 at.home rests
    (λ next still all. merge_told runs lines (open_behind opens line) (n + 1) next last (pass at.home.file lefts) still names.1 all))

-- nothing happens before the first line
at_first : (runs : Bool) (moments : List one_file.Moment) (told : List Happening) (last : World) → file_orders.Tells runs beginning 0 moments told last → AtLine moments
at_first runs [] told last tells = tt
at_first runs (one_file.Line line ∷ moments) told last tells = tt
at_first runs (one_file.Effects id ∷ moments) told last tells = absurd (nothing id tells.1.0 tells.1.1)
  where
    nothing : (id : ℕ) (one : one_file.Open) → one_file.IsOpen beginning id one → ⊥
    nothing id one is_open = absurd (grind (arith, common_steps, is_open))
at_first runs (one_file.LetsGo id ∷ moments) told last tells = absurd (nothing id tells.1.0 tells.1.1)
  where
    nothing : (id : ℕ) (one : one_file.Open) → one_file.IsOpen beginning id one → ⊥
    nothing id one is_open = absurd (grind (arith, common_steps, is_open))

-- the locks of the worlds
abbrev locks_at : (ℕ → World) → ℕ → FileLocks
locks_at worlds g = (worlds g).locks

-- a line changes no lock
line_locks : (runs : Bool) (w : World) (line : FileLine) (v : World) → one_file.Comes runs w (one_file.Line line) v → v.locks ≡ w.locks
line_locks runs w (one_file.Sent request) v comes = ap (λ u. u.locks) comes.behind
line_locks runs w (one_file.Answered id answer) v comes = ap (λ u. u.locks) comes.behind

-- what happens may happen under the locks of the worlds, and leaves theirs
leaves_told : (runs : Bool) (worlds : ℕ → World) (n : ℕ) (moments : List Moment) (told : List FileHappening) (last : ℕ → World)
    → Tells runs worlds n moments told last → Leave (locks_at worlds) told (locks_at last)
leaves_told runs worlds n [] told last tells = subst (λ t. Leave (locks_at worlds) t (locks_at last)) (sym tells.1) (λ g. ap (λ u. u.locks) (tells.0 g))
leaves_told runs worlds n (moment ∷ moments) told last tells = at moment.file moment.what tells.0 tells.1.comes tells.1.others tells.2 tells.3
    (leaves_told runs tells.0 _ moments tells.2 last tells.4)
  where
    at : (f : ℕ) (what : one_file.Moment) (next : ℕ → World) (comes : one_file.Comes runs (worlds f) what (next f)) → ((g : ℕ) → g ≢ f → next g ≡ worlds g)
        → (rest : List FileHappening) → told ≡ Rattle.history_judge.specs.HistoryOrders.told_at runs (worlds f) f n what (next f) comes ++ rest
        → Leave (locks_at next) rest (locks_at last) → Leave (locks_at worlds) told (locks_at last)
    at f (one_file.Line line) next comes others rest is leave =
        let same : locks_at next ≡ locks_at worlds = λ i. λ g. (elim (decide g f) as (λ _. locks_at next g ≡ locks_at worlds g) [
          | inl here ↦ subst (λ x. locks_at next x ≡ locks_at worlds x) (sym here) (line_locks runs (worlds f) line (next f) comes)
          | inr off ↦ ap (λ u. u.locks) (others g off)
        ]) i in
        subst (λ t. Leave (locks_at worlds) t (locks_at last)) (sym is) (subst (λ l. Leave l rest (locks_at last)) same leave)
    at f (one_file.Effects id) next comes others rest is leave =
        subst (λ t. Leave (locks_at worlds) t (locks_at last)) (sym is) (
          locks_at next,
          record {
            may_do = (comes.2.effect, comes.2.may_have, ap (λ u. u.locks) comes.2.behind);
            others = λ g off. ap (λ u. u.locks) (others g off);
          },
          leave,
        )
    at f (one_file.LetsGo id) next comes others rest is leave =
        subst (λ t. Leave (locks_at worlds) t (locks_at last)) (sym is) (
          locks_at next,
          record {
            may_do = (comes.2.converts, ap (λ u. u.locks) comes.2.behind);
            others = λ g off. ap (λ u. u.locks) (others g off);
          },
          leave,
        )

-- an order of a file's lines, or no line and none
abbrev pub Begins : Bool → List FileLine → Option Left → World → Type 0
Begins runs lines None last = (lines ≡ []) × (last ≡ beginning)
Begins runs lines (Some left) last = (left.lines ≡ 0) × file_orders.OrderTo runs lines left.told last

begins : (runs : Bool) (lines : List FileLine) (left : Option Left) (last : World) → Begins runs lines left last → FileRest runs lines beginning left last
begins runs lines None last rest = rest
begins runs lines (Some left) last rest = record {
  moments = rest.1.moments;
  at_line = at_first runs rest.1.moments left.told last rest.1.tells;
  in_order = rest.1.in_order;
  tells = subst (λ c. file_orders.Tells runs beginning c rest.1.moments left.told last) (sym rest.0) rest.1.tells;
}

-- the orders of the files are merged to one of the history
pub merged_order : (runs : Bool) (lines : List HistoryLine) (last : ℕ → World) (lefts : ℕ → Option Left) → AreNamed lines
    → ((g : ℕ) → Begins runs (lines_of g lines) (lefts g) (last g)) → IsLeft runs lines (merged 0 lefts (files_of lines))
merged_order runs lines last lefts names each =
    let all = merge_told runs lines none_open 0 beginnings last lefts named_first names (λ g. begins runs (lines_of g lines) (lefts g) (last g) (each g)) in
    record {
      last = last;
      order = record { moments = all.moments; in_order = all.in_order; tells = all.tells };
      leave = leaves_told runs beginnings 0 all.moments (merged 0 lefts (files_of lines)) last all.tells;
    }

-- the order of each file, as it was kept
begins_of : (runs : Bool) (files : Files) (orders : BTreeMap ℕ FileOrder) (lines : ℕ → List FileLine) (g : ℕ) → all_files.Knows runs files lines
    → keeps_in files ≡ true → AreOrders files.files orders → (last : World) × Begins runs (lines g) (lefts_in orders g) last
begins_of runs files orders lines g knows keeps are = go (file_in files g) refl (get nat_cmp orders g) refl
  where
    none_some : (h : FileHistory) → file_in files g ≡ None → file_in files g ≡ Some h → ⊥
    none_some h none some = absurd (grind (arith, common_steps, none, some))

    go : (file : Option FileHistory) → file_in files g ≡ file → (order : Option FileOrder) → get nat_cmp orders g ≡ order
        → (last : World) × Begins runs (lines g) (lefts_in orders g) last
    go None none None nothing = (beginning, subst (λ o. Begins runs (lines g) o beginning) (sym (ap (option_map left_in) nothing)) (knows_none runs files lines g knows none, refl))
    go None none (Some order) is = let found = are.sound g order is in absurd (none_some found.0 none found.1)
    go (Some h) some None nothing = absurd (are.complete g h some (keeps_entry runs files lines g h knows some keeps) nothing)
    go (Some h) some (Some order) is =
        let found = are.sound g order is in
        let told = found.2.is_order runs (lines g) (knows_entry runs files lines g found.0 knows found.1) in
        (told.0, subst (λ o. Begins runs (lines g) o told.0) (sym (ap (option_map left_in) is)) (found.2.none_came, told.1))

-- what is merged is an order of the history
pub order_merged : (runs : Bool) (judge : HistoryJudge) (lines : List HistoryLine) (told : List FileHappening) → keeps_order judge ≡ true
    → AreMerged judge.files.files judge.line_files.items told → Knows runs judge lines → IsLeft runs lines told
order_merged runs judge lines told keeps are knows =
    let each : (g : ℕ) → (last : World) × Begins runs (lines_of g lines) (lefts_in are.0 g) last =
    λ g. begins_of runs judge.files are.0 (λ h. lines_of h lines) g knows.known.files_known keeps are.1 in
    let order = merged_order runs lines (λ g. (each g).0) (lefts_in are.0) ((legal_apart runs lines).0 knows.known.legal).0 (λ g. (each g).1) in
    subst (λ t. IsLeft runs lines t) (sym (are.2 ∙ ap (merged 0 (lefts_in are.0)) (knows.logged keeps))) order
