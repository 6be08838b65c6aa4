-- Each order of a whole history is one of each file's lines.
use Rattle.history_judge.proofs.Common.{inl, inr, ℕ, ◌≡◌, ◌≢◌, ◌∙◌, ◌==◌, sym, ap, refl, subst, arith, true, false, Bool, Option, Some, None, List, [], ◌∷◌, ◌++◌, eq-eqb, common_steps, false≢true, append_assoc, if◌then◌else◌, Request, Answer, FileLine, World, requests_of, Answered, HistoryLine, Moment, Sent, line_of, lines_among, Sending, IsNamed, is_on, open_behind}
use Rattle.std.proofs.lemmas.List.{map-append}
use Rattle.std.specs.Prelude.{fold, not}
use Rattle.history_core.specs.Moments.{opened}
use Rattle.history_core.specs.Moments as one_file
use Rattle.history_core.proofs.ListLemmas.{map-filter}
use Rattle.history_core.proofs.ChainLemmas.{requests-acts}
use Rattle.history_core.proofs.LineLemmas.{leads-append, lines-append}
use Rattle.history_judge.specs.Histories.{Comes, Leads, lines_at}
use Rattle.history_judge.specs.FilesApart.{AreNamedFrom, line_on, lines_from}
use Rattle.history_judge.proofs.NameLemmas.{Named, decide, free_has, has_id, named_answered, named_same, named_sent, neq-eqb, on_none, open_has}

-- an order of the file's lines, from one world to another
pub record Part (runs : Bool) (world : World) (lines : List FileLine) (last : World) : Type 0 where
  pub moments : List one_file.Moment
  pub in_order : one_file.lines_among moments ≡ lines
  pub leads : one_file.Leads runs world moments last

-- the IDs of the lines are used as they should, and there is an order of each file's lines
pub record Apart (runs : Bool) (opens : ℕ → Option Sending) (worlds : ℕ → World) (lines : List HistoryLine) (last : ℕ → World) : Type 0 where
  pub named : AreNamedFrom opens lines
  pub parts : (g : ℕ) → Part runs (worlds g) (lines_from opens g lines) (last g)
  pub still : Named (fold open_behind opens lines) last

-- the file's lines among lines behind lines
pub lines-from-append : (opens : ℕ → Option Sending) (g : ℕ) (xs ys : List HistoryLine)
    → lines_from opens g (xs ++ ys) ≡ lines_from opens g xs ++ lines_from (fold open_behind opens xs) g ys
lines-from-append opens g [] ys = refl
lines-from-append opens g (x ∷ xs) ys =
    ap (λ ls. line_on opens g x ++ ls) (lines-from-append (open_behind opens x) g xs ys)
    ∙ sym (append_assoc (line_on opens g x) (lines_from (open_behind opens x) g xs) (lines_from (fold open_behind (open_behind opens x) xs) g ys))

pub named-append : (opens : ℕ → Option Sending) (xs ys : List HistoryLine) → AreNamedFrom opens xs → AreNamedFrom (fold open_behind opens xs) ys
    → AreNamedFrom opens (xs ++ ys)
named-append opens [] ys first more = more
named-append opens (x ∷ xs) ys first more = (first.0, named-append (open_behind opens x) xs ys first.1 more)

-- and back
pub named-parts : (opens : ℕ → Option Sending) (xs ys : List HistoryLine) → AreNamedFrom opens (xs ++ ys)
    → AreNamedFrom opens xs × AreNamedFrom (fold open_behind opens xs) ys
named-parts opens [] ys named = (tt, named)
named-parts opens (x ∷ xs) ys named = let rest = named-parts (open_behind opens x) xs ys named.1 in ((named.0, rest.0), rest.1)

pub opens-append : (opens : ℕ → Option Sending) (xs ys : List HistoryLine)
    → fold open_behind opens (xs ++ ys) ≡ fold open_behind (fold open_behind opens xs) ys
opens-append opens [] ys = refl
opens-append opens (x ∷ xs) ys = opens-append (open_behind opens x) xs ys

part-append : (runs : Bool) (a : World) (xs : List FileLine) (b : World) (ys : List FileLine) (c : World) → Part runs a xs b → Part runs b ys c → Part runs a (xs ++ ys) c
part-append runs a xs b ys c first more = record {
  moments = first.moments ++ more.moments;
  in_order = lines-append first.moments more.moments ∙ ap (λ ls. ls ++ one_file.lines_among more.moments) first.in_order ∙ ap (λ ls. xs ++ ls) more.in_order;
  leads = leads-append runs a first.moments b more.moments c first.leads more.leads;
}

-- one after the other
apart-append : (runs : Bool) (opens : ℕ → Option Sending) (a b c : ℕ → World) (xs ys : List HistoryLine) → Apart runs opens a xs b
    → Apart runs (fold open_behind opens xs) b ys c → Apart runs opens a (xs ++ ys) c
apart-append runs opens a b c xs ys first more = record {
  named = named-append opens xs ys first.named more.named;
  parts = λ g. subst (λ ls. Part runs (a g) ls (c g)) (sym (lines-from-append opens g xs ys))
      (part-append runs (a g) (lines_from opens g xs) (b g) (lines_from (fold open_behind opens xs) g ys) (c g) (first.parts g) (more.parts g));
  still = subst (λ o. Named o c) (sym (opens-append opens xs ys)) more.still;
}

-- what happens on one file, with the lines that it brings there
pub record Home (opens : ℕ → Option Sending) (line : HistoryLine) : Type 0 where
  pub file : ℕ
  pub here : FileLine
  pub is : line_of file here ≡ line
  pub on : line_on opens file line ≡ here ∷ []
  pub off : (g : ℕ) → g ≢ file → line_on opens g line ≡ []

abbrev pub home_sent : (opens : ℕ → Option Sending) (f : ℕ) (request : Request) → Home opens (Sent f request)
home_sent opens f request = record {
  file = f;
  here = one_file.Sent request;
  is = refl;
  on = ap (λ b. if b then one_file.Sent request ∷ [] else []) (eq-eqb f f refl);
  off = λ g differ. ap (λ b. if b then one_file.Sent request ∷ [] else []) (neq-eqb f g (λ same. differ (sym same)));
}

abbrev pub home_answered : (opens : ℕ → Option Sending) (f id : ℕ) (answer : Answer) (sending : Sending) → opens id ≡ Some sending → sending.file ≡ f
    → Home opens (Answered id answer)
home_answered opens f id answer sending is on_file = record {
  file = f;
  here = one_file.Answered id answer;
  is = refl;
  on = ap (λ s. if is_on s f then one_file.Answered id answer ∷ [] else []) is
      ∙ ap (λ b. if b then one_file.Answered id answer ∷ [] else []) (eq-eqb sending.file f on_file);
  off = λ g differ. ap (λ s. if is_on s g then one_file.Answered id answer ∷ [] else []) is
      ∙ ap (λ b. if b then one_file.Answered id answer ∷ [] else []) (neq-eqb sending.file g (λ same. differ (sym same ∙ on_file)));
}

-- what is on a file is there
pub there : (sending : Option Sending) (f : ℕ) → is_on sending f ≡ true → (s : Sending) × (sending ≡ Some s) × (s.file ≡ f)
there None f is = absurd (false≢true is)
there (Some s) f is = (s, refl, grind (arith, common_steps, is))

some_there : (s : Sending) → (Some s ≡ None) → ⊥
some_there s same = absurd (grind (arith, common_steps, same))

-- a line is one of one file, and brings nothing to others
apart_line : (runs : Bool) (opens : ℕ → Option Sending) (worlds next : ℕ → World) (line : HistoryLine) (home : Home opens line)
    → one_file.Comes runs (worlds home.file) (one_file.Line home.here) (next home.file) → ((g : ℕ) → g ≢ home.file → next g ≡ worlds g)
    → IsNamed opens line → Named (open_behind opens line) next → Apart runs opens worlds (line ∷ []) next
apart_line runs opens worlds next line home comes others named still = record { named = (named, tt); parts = part; still = still }
  where
    part : (g : ℕ) → Part runs (worlds g) (lines_from opens g (line ∷ [])) (next g)
    part g = elim (decide g home.file) [
      | inl same ↦ subst (λ x. Part runs (worlds x) (lines_from opens x (line ∷ [])) (next x)) (sym same) (record {
        moments = one_file.Line home.here ∷ [];
        in_order = sym (ap (λ ls. ls ++ []) home.on);
        leads = (next home.file, comes, refl);
      })
      | inr off ↦ record { moments = []; in_order = sym (ap (λ ls. ls ++ []) (home.off g off)); leads = others g off }
    ]

-- an effect brings no line
apart_effect : (runs : Bool) (opens : ℕ → Option Sending) (worlds next : ℕ → World) (f : ℕ) (what : one_file.Moment)
    → one_file.lines_among (what ∷ []) ≡ [] → one_file.Comes runs (worlds f) what (next f) → ((g : ℕ) → g ≢ f → next g ≡ worlds g)
    → requests_of (next f) ≡ requests_of (worlds f) → Named opens worlds → Apart runs opens worlds [] next
apart_effect runs opens worlds next f what none comes others requests named = record {
  named = tt;
  parts = λ g. elim (decide g f) [
    | inl same ↦ subst (λ x. Part runs (worlds x) [] (next x)) (sym same) (record { moments = what ∷ []; in_order = none; leads = (next f, comes, refl) })
    | inr off ↦ record { moments = []; in_order = refl; leads = others g off }
  ];
  still = named_same opens worlds next named (λ g. elim (decide g f) [
    | inl same ↦ subst (λ x. requests_of (next x) ≡ requests_of (worlds x)) (sym same) requests
    | inr off ↦ ap requests_of (others g off)
  ]);
}

-- what comes at one moment
apart_at : (runs : Bool) (opens : ℕ → Option Sending) (worlds next : ℕ → World) (f : ℕ) (what : one_file.Moment) → Named opens worlds
    → Comes runs worlds (record { file = f; what = what }) next → Apart runs opens worlds (lines_at f what) next
apart_at runs opens worlds next f (one_file.Line (one_file.Sent request)) named c =
    let free : (g : ℕ) → has_id (worlds g) request.id ≡ false = λ g. free_has (worlds g) request.id (c.is_new g) in
    let requests : requests_of (next f) ≡ requests_of (worlds f) ++ request ∷ [] =
    ap requests_of c.comes.behind ∙ map-append (λ one. one.request) (worlds f).unanswered (opened request ∷ []) in
    apart_line runs opens worlds next (Sent f request) (home_sent opens f request) c.comes c.others
    (on_none (opens request.id) (λ g. sym (named g request.id) ∙ free g))
    (named_sent opens worlds next f request named free requests c.others)
apart_at runs opens worlds next f (one_file.Line (one_file.Answered id answer)) named c =
    let on_f : is_on (opens id) f ≡ true = sym (named f id) ∙ open_has (worlds f) id c.comes.one c.comes.is_open in
    let s = there (opens id) f on_f in
    let home = home_answered opens f id answer s.0 s.1 s.2 in
    let requests = ap requests_of c.comes.behind ∙ map-filter (λ one. one.request) (λ r. not (r.id == id)) (worlds f).unanswered in
    apart_line runs opens worlds next (Answered id answer) home c.comes c.others (λ none. some_there s.0 (sym s.1 ∙ none))
    (named_answered opens worlds next f id answer named on_f requests c.others)
apart_at runs opens worlds next f (one_file.Effects id) named c =
    apart_effect runs opens worlds next f (one_file.Effects id) refl c.comes c.others (requests-acts (worlds f) c.comes.0 (next f) (inl c.comes.2)) named
apart_at runs opens worlds next f (one_file.LetsGo id) named c =
    apart_effect runs opens worlds next f (one_file.LetsGo id) refl c.comes c.others (requests-acts (worlds f) c.comes.0 (next f) (inr c.comes.2)) named

-- and at moments one after another
pub apart : (runs : Bool) (opens : ℕ → Option Sending) (worlds : ℕ → World) (moments : List Moment) (last : ℕ → World) → Named opens worlds
    → Leads runs worlds moments last → Apart runs opens worlds (lines_among moments) last
apart runs opens worlds [] last named leads = record {
  named = tt;
  parts = λ g. record { moments = []; in_order = refl; leads = leads g };
  still = λ g id. ap (λ w. has_id w id) (leads g) ∙ named g id;
}
apart runs opens worlds (moment ∷ moments) last named leads =
    let first = apart_at runs opens worlds leads.0 moment.file moment.what named leads.1 in
    apart-append runs opens worlds leads.0 last (lines_at moment.file moment.what) (lines_among moments) first
    (apart runs (fold open_behind opens (lines_at moment.file moment.what)) leads.0 moments last first.still leads.2)
