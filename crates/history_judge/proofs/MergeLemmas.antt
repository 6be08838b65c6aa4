-- Orders of each file's lines are merged to one of the whole history.
use Rattle.history_judge.proofs.Common.{inl, inr, ℕ, ◌≡◌, ◌≢◌, ◌∙◌, ◌==◌, sym, ap, refl, subst, arith, Bool, Option, Some, None, List, [], ◌∷◌, ◌++◌, eq-eqb, common_steps, append_assoc, if◌then◌else◌, Request, FileLine, World, beginning, Answered, HistoryLine, Moment, Sent, beginnings, line_of, lines_among, Sending, AreNamed, IsNamed, is_on, lines_of, none_open}
use Rattle.std.proofs.lemmas.List.{append-nil}
use Rattle.history_core.specs.Moments as one_file
use Rattle.history_core.specs.Chains.{Chain}
use Rattle.history_core.proofs.LineLemmas.{LastLine, moment_of, reached_before, reached_first}
use Rattle.history_judge.specs.Histories.{IsNew, Leads, Reaches, lines_at}
use Rattle.history_judge.specs.FilesApart.{EndsApart, LegalApart, ReachedApart, line_on, open_after}
use Rattle.history_judge.proofs.NameLemmas.{Named, decide, has_free, neq-eqb}
use Rattle.history_judge.proofs.ApartLemmas.{Apart, Home, apart, home_answered, home_sent, lines-from-append, named-parts}

-- worlds that are the same on each file are the same
pub same_worlds : (a b : ℕ → World) → ((g : ℕ) → a g ≡ b g) → a ≡ b
same_worlds a b same = λ i. λ g. same g i

-- what holds of no line, and of one line more, holds of all
snoc : {X : Type 0} (P : List X → Type 0) → P [] → ((xs : List X) (x : X) → P xs → P (xs ++ x ∷ [])) → (ys : List X) → P ys
snoc {X = X} P none more ys = go [] none ys
  where
    go : (xs : List X) → P xs → (ys : List X) → P (xs ++ ys)
    go xs front [] = subst P (sym (append-nil xs)) front
    go xs front (y ∷ ys) = subst P (append_assoc xs (y ∷ []) ys) (go (xs ++ y ∷ []) (more xs y front) ys)

-- the worlds, but this one on the file
abbrev pub with_world : (ℕ → World) → ℕ → World → ℕ → World
with_world worlds f world g = if g == f then world else worlds g

pub world_here : (worlds : ℕ → World) (f : ℕ) (world : World) → with_world worlds f world f ≡ world
world_here worlds f world = ap (λ b. if b then world else worlds f) (eq-eqb f f refl)

pub world_off : (worlds : ℕ → World) (f : ℕ) (world : World) (g : ℕ) → g ≢ f → with_world worlds f world g ≡ worlds g
world_off worlds f world g off = ap (λ b. if b then world else worlds g) (neq-eqb g f off)

leads-append : (runs : Bool) (a : ℕ → World) (first : List Moment) (b : ℕ → World) (moments : List Moment) (c : ℕ → World) → Leads runs a first b
    → Leads runs b moments c → Leads runs a (first ++ moments) c
leads-append runs a [] b moments c same leads = subst (λ w. Leads runs w moments c) (same_worlds b a same) leads
leads-append runs a (m ∷ ms) b moments c leads rest = (leads.0, leads.1, leads-append runs leads.0 ms b moments c leads.2 rest)

pub lines-append : (first moments : List Moment) → lines_among (first ++ moments) ≡ lines_among first ++ lines_among moments
lines-append [] moments = refl
lines-append (m ∷ ms) moments =
    ap (λ ls. lines_at m.file m.what ++ ls) (lines-append ms moments) ∙ sym (append_assoc (lines_at m.file m.what) (lines_among ms) (lines_among moments))

-- what brings no line to a file brings none to the history, and needs no new ID
no_line : (worlds : ℕ → World) (f : ℕ) (what : one_file.Moment) → one_file.lines_among (what ∷ []) ≡ [] → (lines_at f what ≡ []) × IsNew worlds what
no_line worlds f (one_file.Line line) none = absurd (grind (arith, common_steps, none))
no_line worlds f (one_file.Effects id) none = (refl, tt)
no_line worlds f (one_file.LetsGo id) none = (refl, tt)

-- effects on one file are effects in the history
pub record Spread (runs : Bool) (worlds last : ℕ → World) : Type 0 where
  pub moments : List Moment
  pub no_lines : lines_among moments ≡ []
  pub leads : Leads runs worlds moments last

spread : (runs : Bool) (f : ℕ) (worlds last : ℕ → World) (w : World) (rs : List Request) (v : World) → worlds f ≡ w → last f ≡ v
    → ((g : ℕ) → g ≢ f → last g ≡ worlds g) → Chain w rs v → Spread runs worlds last
spread runs f worlds last w [] v from to others same = record {
  moments = [];
  no_lines = refl;
  leads = λ g. elim (decide g f) [
    | inl here ↦ subst (λ x. last x ≡ worlds x) (sym here) (to ∙ same ∙ sym from)
    | inr off ↦ others g off
  ];
}
spread runs f worlds last w (r ∷ rs) v from to others chain =
    let next = with_world worlds f chain.0 in
    let here : next f ≡ chain.0 = world_here worlds f chain.0 in
    let moment = moment_of runs w r chain.0 chain.1 in
    let silent = no_line worlds f moment.0 moment.2 in
    let rest = spread runs f next last chain.0 rs v here to (λ g off. others g off ∙ sym (world_off worlds f chain.0 g off)) chain.2 in
    let comes : one_file.Comes runs (worlds f) moment.0 (next f) =
    subst (λ u. one_file.Comes runs u moment.0 (next f)) (sym from) (subst (λ u. one_file.Comes runs w moment.0 u) (sym here) moment.1) in
    record {
      moments = (record { file = f; what = moment.0 }) ∷ rest.moments;
      no_lines = ap (λ ls. ls ++ lines_among rest.moments) silent.0 ∙ rest.no_lines;
      leads = (next, record { comes = comes; others = λ g off. world_off worlds f chain.0 g off; is_new = silent.1 }, rest.leads);
    }

-- a line whose ID is used as it should is one of one file
pub home_of : (opens : ℕ → Option Sending) (line : HistoryLine) → IsNamed opens line → Home opens line
home_of opens (Sent f request) named = home_sent opens f request
home_of opens (Answered id answer) named = go (opens id) refl
  where
    go : (s : Option Sending) → opens id ≡ s → Home opens (Answered id answer)
    go None none = absurd (named none)
    go (Some s) is = home_answered opens s.file id answer s is refl

-- and a request that is sent is new
pub new_of : (opens : ℕ → Option Sending) (worlds : ℕ → World) (f : ℕ) (line : FileLine) → Named opens worlds → IsNamed opens (line_of f line)
    → IsNew worlds (one_file.Line line)
new_of opens worlds f (one_file.Sent request) named is = λ g. has_free (worlds g) request.id (named g request.id ∙ ap (λ s. is_on s g) is)
new_of opens worlds f (one_file.Answered id answer) named is = tt

-- nobody has an ID at the beginning
pub named_first : Named none_open beginnings
named_first g id = refl

-- nothing happens before the first line
from_beginning : (rs : List Request) (v : World) → Chain beginning rs v → v ≡ beginning
from_beginning [] v same = same
from_beginning (r ∷ rs) v chain = absurd (nothing chain.1.one chain.1.is_open)
  where
    nothing : (one : one_file.Open) → one_file.IsOpen beginning r.id one → ⊥
    nothing one is_open = absurd (grind (arith, common_steps, is_open))

-- orders of each file's lines
abbrev AllReach : Bool → List HistoryLine → (ℕ → World) → Type 0
AllReach runs lines last = (g : ℕ) → one_file.Reaches runs (lines_of g lines) (last g)

-- are merged to one
abbrev IsMerged : Bool → List HistoryLine → Type 0
IsMerged runs lines = (last : ℕ → World) → AreNamed lines → AllReach runs lines last → Reaches runs lines last

merged_none : (runs : Bool) → IsMerged runs []
merged_none runs last named reach = record {
  moments = [];
  in_order = refl;
  leads = λ g. let chain = reached_first runs (last g) (reach g) in from_beginning chain.0 (last g) chain.1;
}

-- the lines of a file behind one line more
pub lines_more : (g : ℕ) (lines : List HistoryLine) (line : HistoryLine) → lines_of g (lines ++ line ∷ []) ≡ lines_of g lines ++ line_on (open_after lines) g line
lines_more g lines line = lines-from-append none_open g lines (line ∷ []) ∙ ap (λ ls. lines_of g lines ++ ls) (append-nil (line_on (open_after lines) g line))

merged_more : (runs : Bool) (lines : List HistoryLine) (line : HistoryLine) → IsMerged runs lines → IsMerged runs (lines ++ line ∷ [])
merged_more runs lines line merged last named reach =
    let names = named-parts none_open lines (line ∷ []) named in
    let home = home_of (open_after lines) line names.1.0 in
    let f = home.file in
    let split : LastLine runs beginning (lines_of f lines) home.here (last f) =
    reached_before runs (lines_of f lines) home.here (last f)
    (subst (λ ls. one_file.Reaches runs ls (last f)) (lines_more f lines line ∙ ap (λ ls. lines_of f lines ++ ls) home.on) (reach f)) in
    let before = with_world last f split.before in
    let after = with_world last f split.after in
    let here : before f ≡ split.before = world_here last f split.before in
    let there : after f ≡ split.after = world_here last f split.after in
    let reach_before : AllReach runs lines before = λ g. elim (decide g f) [
      | inl same ↦ subst (λ x. one_file.Reaches runs (lines_of x lines) (before x)) (sym same)
          (subst (λ u. one_file.Reaches runs (lines_of f lines) u) (sym here)
          (record { moments = split.moments; in_order = split.in_order; leads = split.leads }))
      | inr off ↦ subst (λ u. one_file.Reaches runs (lines_of g lines) u) (sym (world_off last f split.before g off))
          (subst (λ ls. one_file.Reaches runs ls (last g))
          (lines_more g lines line ∙ ap (λ ls. lines_of g lines ++ ls) (home.off g off) ∙ append-nil (lines_of g lines)) (reach g))
    ] in
    let first = merged before names.0 reach_before in
    let still : Named (open_after lines) before =
    subst (λ ls. Named (open_after ls) before) first.in_order (apart runs none_open beginnings first.moments before named_first first.leads).still in
    let comes : one_file.Comes runs (before f) (one_file.Line home.here) (after f) =
    subst (λ u. one_file.Comes runs u (one_file.Line home.here) (after f)) (sym here)
    (subst (λ u. one_file.Comes runs split.before (one_file.Line home.here) u) (sym there) split.comes) in
    let rest = spread runs f after last split.after split.requests (last f) there refl (λ g off. sym (world_off last f split.after g off)) split.chain in
    let is_new = new_of (open_after lines) before f home.here still (subst (λ l. IsNamed (open_after lines) l) (sym home.is) names.1.0) in
    let others : (g : ℕ) → g ≢ f → after g ≡ before g = λ g off. world_off last f split.after g off ∙ sym (world_off last f split.before g off) in
    let moment : Moment = record { file = f; what = one_file.Line home.here } in
    record {
      moments = first.moments ++ moment ∷ rest.moments;
      in_order = lines-append first.moments (moment ∷ rest.moments)
          ∙ ap (λ ls. ls ++ line_of f home.here ∷ lines_among rest.moments) first.in_order
          ∙ ap (λ ls. lines ++ line_of f home.here ∷ ls) rest.no_lines
          ∙ ap (λ l. lines ++ l ∷ []) home.is;
      leads = leads-append runs beginnings first.moments before (moment ∷ rest.moments) last first.leads
          (after, record { comes = comes; others = others; is_new = is_new }, rest.leads);
    }

pub merge : (runs : Bool) (lines : List HistoryLine) → IsMerged runs lines
merge runs = snoc (IsMerged runs) (merged_none runs) (merged_more runs)

pub reached_apart : ReachedApart
reached_apart runs lines last = (
  λ reaches.
      let parts = subst (λ ls. Apart runs none_open beginnings ls last) reaches.in_order
      (apart runs none_open beginnings reaches.moments last named_first reaches.leads) in
      (parts.named, λ g. let part = parts.parts g in record { moments = part.moments; in_order = part.in_order; leads = part.leads }),
  λ both. merge runs lines last both.0 both.1,
)

pub legal_apart : LegalApart
legal_apart runs lines = (
  λ legal. let parts = (reached_apart runs lines legal.0).0 legal.1 in (parts.0, λ g. (legal.0 g, parts.1 g)),
  λ both. let last : ℕ → World = λ g. (both.1 g).0 in (last, merge runs lines last both.0 (λ g. (both.1 g).1)),
)

pub ends_apart : EndsApart
ends_apart runs lines = (
  λ may. let parts = (reached_apart runs lines may.last).0 may.reaches in
      (parts.0, λ g. record { last = may.last g; reaches = parts.1 g; wait = may.wait g }),
  λ both. let last : ℕ → World = λ g. (both.1 g).last in
      record { last = last; reaches = merge runs lines last both.0 (λ g. (both.1 g).reaches); wait = λ g. (both.1 g).wait },
)
