-- What is known of all files of a history, one by one.
use Rattle.history_judge.proofs.Common.{inl, inr, ℕ, ◌≡◌, ◌≢◌, ◌∙◌, ◌+◌, ◌-◌, ◌<◌, ◌==◌, sym, ap, refl, subst, arith, true, false, Bool, Option, Some, None, List, [], ◌∷◌, ◌++◌, eq-eqb, common_steps, false≢true, BTreeMap, UpdatesBy, get, is_at, lookup, list_any, nat_cmp, deref_pair, All, option_map, if◌then◌else◌, FileHistory, Answer, Request, FileLine, beginning, keeps_order, Files, file_in, keeps_in, FileOrder}
use Rattle.std.proofs.Common.{◌≤◌, ◌↔◌, get_or}
use Rattle.std.proofs.lemmas.Cmp.{nat_cmp_total}
use Rattle.std.proofs.lemmas.Map.Entries.{All-lookup, sum_by-insert_entry, sum_by-remove_entry, sum_by-set_value}
use Rattle.std.proofs.lemmas.Map.Iter.{btree_map_turn}
use Rattle.std.specs.BTreeMap.{IsOrdered, WritesThrough, insert_entry}
use Rattle.std.specs.Map.{set_value, values_of}
use Rattle.std.specs.List.{sum_by}
use Rattle.std.specs.Borrow.{Bor, MutBor}
use Rattle.std.specs.Iterator.{Yields}
use Rattle.std.specs.Map.Iter.{TakesFirst}
use Rattle.std.specs.Option.{option_copied_mut}
use Rattle.std.specs.Prelude.{Err, IfOk, IfSome, IsTrue, Ok, OnErr, OnOk, Result, is_some, unwrap_or}
use Rattle.history_core.specs.declared.search.SearchFault.{SearchFault}
use Rattle.history_core.specs.Moments.{Answered, HasMore, MayEnd, Reaches, Sent}
use Rattle.history_core.specs.FileView.{count_in, has_open}
use Rattle.history_core.specs.FileView as one_file
use Rattle.history_judge.specs.Entries.{Answers, Inserts, Rewrites, Sends, count_on}
use Rattle.history_judge.specs.Kept.{kept_by}
use Rattle.history_judge.specs.FilesView.{TellsEnd, Exceeds, KeepsOn, Knows, KnowsFile, Refuses, Stays, Takes, kept_beside, kept_in, runs_of, with_line}
use Rattle.std.proofs.Common.{suc}
use Rattle.history_core.specs.Orders as one_file_orders
use Rattle.history_judge.specs.FileOrders.{AreOf, PutsOrder}
use Rattle.history_judge.proofs.NameLemmas.{decide, neq-eqb}

-- the file has one line more
pub line_here : (lines : ℕ → List FileLine) (file : ℕ) (line : FileLine) → with_line lines file line file ≡ lines file ++ line ∷ []
line_here lines file line = ap (λ b. if b then lines file ++ line ∷ [] else lines file) (eq-eqb file file refl)

-- and others have none
pub line_off : (lines : ℕ → List FileLine) (file : ℕ) (line : FileLine) (g : ℕ) → g ≢ file → with_line lines file line g ≡ lines g
line_off lines file line g off = ap (λ b. if b then lines g ++ line ∷ [] else lines g) (neq-eqb g file off)

-- the file has this entry, and all else is as it was
pub record PutsFile (old new : Files) (file : ℕ) (history : FileHistory) : Type 0 where
  pub runs : runs_of new ≡ runs_of old
  pub keeps : keeps_in new ≡ keeps_in old
  pub here : file_in new file ≡ Some history
  pub others : (other : ℕ) → other ≢ file → file_in new other ≡ file_in old other

-- what is known of each file where that of one changes
each_put : (runs : Bool) (old new : Files) (file : ℕ) (history : FileHistory) (before after : ℕ → List FileLine) → PutsFile old new file history
    → Knows runs old before → one_file.Knows runs history (after file) → (keeps_in old ≡ true → keeps_order history ≡ true)
    → ((g : ℕ) → g ≢ file → after g ≡ before g) → Knows runs new after
each_put runs old new file history before after puts knows here keeps others = record {
  is_runs = puts.runs ∙ knows.is_runs;
  each = λ g. elim (decide g file) [
    | inl same ↦ subst (λ x. KnowsFile runs (file_in new x) (after x)) (sym same) (subst (λ f. KnowsFile runs f (after file)) (sym puts.here) here)
    | inr off ↦ subst (λ ls. KnowsFile runs (file_in new g) ls) (sym (others g off))
        (subst (λ f. KnowsFile runs f (before g)) (sym (puts.others g off)) (knows.each g))
  ];
  keep = λ g. subst (λ k. KeepsOn k (file_in new g)) (sym puts.keeps) (elim (decide g file) [
    | inl same ↦ subst (λ f. KeepsOn (keeps_in old) f) (sym (ap (file_in new) same ∙ puts.here)) keeps
    | inr off ↦ subst (λ f. KeepsOn (keeps_in old) f) (sym (puts.others g off)) (knows.keep g)
  ]);
}

-- what is known of a file that has this entry
pub knows_entry : (runs : Bool) (files : Files) (lines : ℕ → List FileLine) (file : ℕ) (history : FileHistory) → Knows runs files lines
    → file_in files file ≡ Some history → one_file.Knows runs history (lines file)
knows_entry runs files lines file history knows was = subst (λ f. KnowsFile runs f (lines file)) was (knows.each file)

-- an order is kept of it, where one of each is
pub keeps_entry : (runs : Bool) (files : Files) (lines : ℕ → List FileLine) (file : ℕ) (history : FileHistory) → Knows runs files lines
    → file_in files file ≡ Some history → keeps_in files ≡ true → keeps_order history ≡ true
keeps_entry runs files lines file history knows was = subst (λ f. KeepsOn (keeps_in files) f) was (knows.keep file)

-- nothing was read of one that has none
pub knows_none : (runs : Bool) (files : Files) (lines : ℕ → List FileLine) (file : ℕ) → Knows runs files lines → file_in files file ≡ None → lines file ≡ []
knows_none runs files lines file knows none = subst (λ f. KnowsFile runs f (lines file)) none (knows.each file)

-- a fresh entry knows what none does
knows_fresh : (runs : Bool) (files : Files) (lines : ℕ → List FileLine) (file : ℕ) (history : FileHistory) → Knows runs files lines
    → file_in files file ≡ None → one_file.Knows (runs_of files) history [] → one_file.Knows runs history (lines file)
knows_fresh runs files lines file history knows none fresh =
    subst (one_file.Knows runs history) (sym (knows_none runs files lines file knows none)) (subst (λ r. one_file.Knows r history []) knows.is_runs fresh)

-- the line was read at the entry
pub takes_put : (old new : Files) (file : ℕ) (line : FileLine) (before after : FileHistory) → PutsFile old new file after → file_in old file ≡ Some before
    → one_file.Takes before after line → keeps_order after ≡ keeps_order before → Takes old new file line
takes_put old new file line before after puts was takes same runs lines knows =
    each_put runs old new file after lines (with_line lines file line) puts knows
    (subst (one_file.Knows runs after) (sym (line_here lines file line)) (takes runs (lines file) (knows_entry runs old lines file before knows was)))
    (λ keeps. same ∙ keeps_entry runs old lines file before knows was keeps)
    (λ g off. line_off lines file line g off)

-- or at a new one
pub takes_first : (old new : Files) (file : ℕ) (line : FileLine) (before after : FileHistory) → PutsFile old new file after → file_in old file ≡ None
    → one_file.Knows (runs_of old) before [] → one_file.Takes before after line → (keeps_in old ≡ true → keeps_order after ≡ true)
    → Takes old new file line
takes_first old new file line before after puts none fresh takes keeps runs lines knows =
    each_put runs old new file after lines (with_line lines file line) puts knows
    (subst (one_file.Knows runs after) (sym (line_here lines file line))
    (takes runs (lines file) (knows_fresh runs old lines file before knows none fresh))) keeps
    (λ g off. line_off lines file line g off)

-- none was
pub stays_put : (old new : Files) (file : ℕ) (before after : FileHistory) → PutsFile old new file after → file_in old file ≡ Some before
    → one_file.Stays before after → keeps_order after ≡ keeps_order before → Stays old new
stays_put old new file before after puts was stays same runs lines knows =
    each_put runs old new file after lines lines puts knows (stays runs (lines file) (knows_entry runs old lines file before knows was))
    (λ keeps. same ∙ keeps_entry runs old lines file before knows was keeps) (λ g off. refl)

-- the same entries know the same
pub stays_same : (old new : Files) → runs_of new ≡ runs_of old → keeps_in new ≡ keeps_in old → new.files.entries ≡ old.files.entries → Stays old new
stays_same old new is_runs is_keeps same runs lines knows = record {
  is_runs = is_runs ∙ knows.is_runs;
  each = λ g. subst (λ f. KnowsFile runs f (lines g)) (ap (λ es. lookup (is_at (nat_cmp g)) es) (sym same)) (knows.each g);
  keep = λ g. subst (λ k. KeepsOn k (file_in new g)) (sym is_keeps)
      (subst (λ f. KeepsOn (keeps_in old) f) (ap (λ es. lookup (is_at (nat_cmp g)) es) (sym same)) (knows.keep g));
}

-- the line isn't possible at the entry
pub refuses_entry : (files : Files) (file : ℕ) (line : FileLine) (history : FileHistory) → file_in files file ≡ Some history
    → one_file.Refuses history line → Refuses files file line
refuses_entry files file line history was refuses runs lines knows = (refuses runs (lines file) (knows_entry runs files lines file history knows was)).behind

-- more is possible at the entry than there is room for
pub exceeds_entry : (files : Files) (file : ℕ) (history : FileHistory) (limit room : ℕ) → file_in files file ≡ Some history
    → room ≡ limit - kept_beside files file → one_file.Exceeds history room → Exceeds files limit
exceeds_entry files file history limit room was is exceeds = inr (
  file,
  λ runs lines knows.
      subst (λ n. HasMore n (Reaches runs (lines file))) is (exceeds runs (lines file) (knows_entry runs files lines file history knows was)),
)

-- where a file has no entry all are kept of other files
pub beside_none : (files : Files) (file : ℕ) → file_in files file ≡ None → kept_beside files file ≡ kept_in files
beside_none files file none = ap (λ f. kept_in files - count_on f) none ∙ omega arith

pub exceeds_first : (files : Files) (file : ℕ) (history : FileHistory) (limit room : ℕ) → file_in files file ≡ None
    → one_file.Knows (runs_of files) history [] → room ≡ limit - files.kept → one_file.Exceeds history room → Exceeds files limit
exceeds_first files file history limit room none fresh is exceeds = inr (
  file,
  λ runs lines knows.
      subst (λ n. HasMore n (Reaches runs (lines file))) (is ∙ ap (λ k. limit - k) (files.counted ∙ sym (beside_none files file none)))
      (exceeds runs (lines file) (knows_fresh runs files lines file history knows none fresh)),
)

-- one world is possible where no line was read
one_world : (runs : Bool) (lines : List FileLine) → lines ≡ [] → HasMore 0 (Reaches runs lines)
one_world runs lines none = record {
  worlds = beginning ∷ [];
  more = omega arith;
  differ = λ i j d below in_one. absurd (omega (arith, below, in_one));
  are = λ k d in_one. subst (λ i. Reaches runs lines (get_or (beginning ∷ []) i d)) (sym (first k in_one))
      (record { moments = []; in_order = sym none; leads = refl });
}
  where
    first : (k : ℕ) → k < 1 → k ≡ 0
    first k below = omega (arith, below)

-- and there is no room for it
pub exceeds_full : (files : Files) (file : ℕ) (limit : ℕ) → file_in files file ≡ None → limit - files.kept ≡ 0 → Exceeds files limit
exceeds_full files file limit none full = inr (
  file,
  λ runs lines knows.
      subst (λ n. HasMore n (Reaches runs (lines file))) (sym full ∙ ap (λ k. limit - k) (files.counted ∙ sym (beside_none files file none)))
      (one_world runs (lines file) (knows_none runs files lines file knows none)),
)

-- another number is not found where this one is
pub is_at-other : (n other : ℕ) → other ≢ n → is_at (nat_cmp n) other ≡ false
is_at-other n other differs = grind (arith, common_steps)

-- what was lent of an entry is written back
pub rewrites_lent : {X : Type 0} (old new : BTreeMap ℕ X) (file : ℕ) (lent : Option (MutBor X)) (was : MutBor X) (now : X) (Step : X → X → Type 0)
    → option_copied_mut lent ≡ get nat_cmp old file → lent ≡ Some was
    → WritesThrough nat_cmp (nat_cmp file) old now new → Step was.now now → Rewrites old new file Step
rewrites_lent old new file lent was now Step value is writes step =
    let there : get nat_cmp old file ≡ Some was.now = sym value ∙ ap option_copied_mut is in
    let updates = writes.3 (grind (arith, common_steps, there)) in
    record {
      before = was.now;
      after = now;
      was = there;
      here = updates.1;
      others = λ other differs. updates.2 other (is_at-other file other differs);
      written = writes.0;
      step = step;
    }

-- an entry was written
pub puts_rewritten : (old new : Files) (file : ℕ) (Step : FileHistory → FileHistory → Type 0) (rewrites : Rewrites old.files new.files file Step)
    → runs_of new ≡ runs_of old → keeps_in new ≡ keeps_in old → PutsFile old new file rewrites.after
puts_rewritten old new file Step rewrites runs keeps = record { runs = runs; keeps = keeps; here = rewrites.here; others = rewrites.others }

-- an update is an insertion
pub inserts_updated : (old new : BTreeMap ℕ FileHistory) (file : ℕ) (history : FileHistory) → UpdatesBy nat_cmp (nat_cmp file) old new (Some history)
    → new.entries ≡ insert_entry nat_cmp old.entries file history → Inserts old new file history
inserts_updated old new file history updates written =
    record { here = updates.1; others = λ other differs. updates.2 other (is_at-other file other differs); written = written }

-- a new entry was put in
pub puts_inserted : (old new : Files) (file : ℕ) (history : FileHistory) → Inserts old.files new.files file history → runs_of new ≡ runs_of old
    → keeps_in new ≡ keeps_in old → PutsFile old new file history
puts_inserted old new file history inserts runs keeps = record { runs = runs; keeps = keeps; here = inserts.here; others = inserts.others }

-- of one entry no more is kept than of all
pub count_of_one : (old : BTreeMap ℕ FileHistory) (file : ℕ) (history : FileHistory) → get nat_cmp old file ≡ Some history
    → count_in history ≤ sum_by count_in (values_of old.entries)
count_of_one old file history was = omega (arith, sum_by-remove_entry count_in (is_at (nat_cmp file)) old.entries, ap (λ o. unwrap_or (option_map count_in o) 0) was)

-- what is kept where an entry was written
pub kept_rewritten : (old new : BTreeMap ℕ FileHistory) (file : ℕ) (Step : FileHistory → FileHistory → Type 0) (rewrites : Rewrites old new file Step)
    → (sum_by count_in (values_of old.entries) - count_on (get nat_cmp old file)) + count_in rewrites.after ≡ sum_by count_in (values_of new.entries)
kept_rewritten old new file Step rewrites =
    let sums = sum_by-set_value count_in (is_at (nat_cmp file)) old.entries rewrites.before rewrites.after rewrites.was in
    let least = count_of_one old file rewrites.before rewrites.was in
    let is : count_on (get nat_cmp old file) ≡ count_in rewrites.before = ap count_on rewrites.was in
    let written : sum_by count_in (values_of new.entries) ≡ sum_by count_in (values_of (set_value (is_at (nat_cmp file)) old.entries rewrites.after)) =
    ap (λ es. sum_by count_in (values_of es)) rewrites.written in
    omega (arith, sums, least, is, written)

-- and counted
pub counted_rewritten : (old : Files) (new : BTreeMap ℕ FileHistory) (file elsewhere count : ℕ) (Step : FileHistory → FileHistory → Type 0)
    (rewrites : Rewrites old.files new file Step) → elsewhere ≡ kept_beside old file → count ≡ count_in rewrites.after → elsewhere + count ≡ kept_by new
counted_rewritten old new file elsewhere count Step rewrites beside here =
    ap (λ n. n + count) beside ∙ ap (λ n. kept_beside old file + n) here ∙ kept_rewritten old.files new file Step rewrites

-- and where one was put in
pub counted_inserted : (old : Files) (new : BTreeMap ℕ FileHistory) (file count : ℕ) (history : FileHistory) → IsOrdered nat_cmp old.files
    → file_in old file ≡ None → Inserts old.files new file history → count ≡ count_in history → old.kept + count ≡ kept_by new
counted_inserted old new file count history ordered none inserts is =
    let sums = sum_by-insert_entry count_in nat_cmp_total old.files.entries file history ordered in
    let nothing : unwrap_or (option_map count_in (file_in old file)) 0 ≡ 0 = ap (λ o. unwrap_or (option_map count_in o) 0) none in
    let put : kept_by new ≡ sum_by count_in (values_of (insert_entry nat_cmp old.files.entries file history)) =
    ap (λ es. sum_by count_in (values_of es)) inserts.written in
    let kept : old.kept ≡ sum_by count_in (values_of old.files.entries) = old.counted in
    omega (arith, sums, nothing, put, kept, is)

-- the same entries are counted the same
pub counted_same : (old : Files) (new : BTreeMap ℕ FileHistory) → new.entries ≡ old.files.entries → old.kept ≡ kept_by new
counted_same old new same = old.counted ∙ ap (λ es. sum_by count_in (values_of es)) (sym same)

-- the limit isn't passed
pub not_over : (files : Files) (limit : ℕ) (over : Bool) → IsTrue over ↔ (limit < kept_in files) → over ≡ false → kept_in files ≤ limit
not_over files limit over tells not = omega (arith, within)
  where
    within : ¬ (limit < kept_in files)
    within more = false≢true (sym not ∙ tells.1 more)

-- a request was sent on a file with an entry
module _ (old new : Files) (file room count : ℕ) (request : Request) (runs : runs_of new ≡ runs_of old) (keeps : keeps_in new ≡ keeps_in old) where
  pub sent_takes : (result : Result (Unit {0}) SearchFault)
      → Rewrites old.files new.files file (λ a b. Sends a b request room result × (count ≡ count_in b)) → OnOk result (Takes old new file (Sent request))
  sent_takes (Ok u) r = takes_put old new file (Sent request) r.before r.after (puts_rewritten old new file _ r runs keeps) r.was r.step.0.ok r.step.0.keeps
  sent_takes (Err e) r = tt

  pub sent_stays : (result : Result (Unit {0}) SearchFault)
      → Rewrites old.files new.files file (λ a b. Sends a b request room result × (count ≡ count_in b)) → OnErr result (Stays old new)
  sent_stays (Ok u) r = tt
  sent_stays (Err e) r = stays_put old new file r.before r.after (puts_rewritten old new file _ r runs keeps) r.was r.step.0.err r.step.0.keeps

-- or answered
module _ (old new : Files) (file id room count : ℕ) (answer : Answer) (runs : runs_of new ≡ runs_of old) (keeps : keeps_in new ≡ keeps_in old) where
  pub answer_takes : (result : Result Bool SearchFault)
      → Rewrites old.files new.files file (λ a b. Answers a b id answer room result × (count ≡ count_in b))
      → IfOk result (λ is_legal. is_legal ≡ true → Takes old new file (Answered id answer))
  answer_takes (Ok l) r = λ yes. takes_put old new file (Answered id answer) r.before r.after (puts_rewritten old new file _ r runs keeps) r.was (r.step.0.legal yes) r.step.0.keeps
  answer_takes (Err e) r = tt

  pub answer_keeps : (result : Result Bool SearchFault)
      → Rewrites old.files new.files file (λ a b. Answers a b id answer room result × (count ≡ count_in b))
      → IfOk result (λ is_legal. is_legal ≡ false → Stays old new)
  answer_keeps (Ok l) r = λ no. stays_put old new file r.before r.after (puts_rewritten old new file _ r runs keeps) r.was (r.step.0.stays no) r.step.0.keeps
  answer_keeps (Err e) r = tt

  pub answer_stays : (result : Result Bool SearchFault)
      → Rewrites old.files new.files file (λ a b. Answers a b id answer room result × (count ≡ count_in b)) → OnErr result (Stays old new)
  answer_stays (Ok l) r = tt
  answer_stays (Err e) r = stays_put old new file r.before r.after (puts_rewritten old new file _ r runs keeps) r.was r.step.0.err r.step.0.keeps

-- or refused
pub answer_refuses : (old : Files) (after : BTreeMap ℕ FileHistory) (file id room count : ℕ) (answer : Answer) (result : Result Bool SearchFault)
    → Rewrites old.files after file (λ a b. Answers a b id answer room result × (count ≡ count_in b))
    → IfOk result (λ is_legal. is_legal ≡ false → Refuses old file (Answered id answer))
answer_refuses old after file id room count answer (Ok l) r = λ no. refuses_entry old file (Answered id answer) r.before r.was (r.step.0.illegal no)
answer_refuses old after file id room count answer (Err e) r = tt

-- what holds whatever the result
pub on_ok : {X E : Type 0} {P : Type 0} (r : Result X E) → P → OnOk r P
on_ok (Ok x) p = p
on_ok (Err e) p = tt

pub on_err : {X E : Type 0} {P : Type 0} (r : Result X E) → P → OnErr r P
on_err (Ok x) p = tt
on_err (Err e) p = p

-- a look-up that finds
pub some_found : {X : Type 0} (o : Option X) → is_some o ≡ true → o ≢ None
some_found None e none = absurd (false≢true e)
some_found (Some x) e none = absurd (grind (arith, common_steps, none))

-- and one that doesn't
pub none_found : {X : Type 0} (o : Option X) → is_some o ≡ false → o ≡ None
none_found None e = refl
none_found (Some x) e = absurd (false≢true (sym e))

-- no request is open where no line was read
pub fresh_free : (runs : Bool) (history : FileHistory) (id : ℕ) → one_file.Knows runs history [] → has_open history id ≡ false
fresh_free runs history id knows = ap (λ rs. list_any (λ r. r.id == id) rs) knows.still_open

-- a file may end so
abbrev pub MayEndBy : FileHistory → Bool → Type 0
MayEndBy history may_end = (runs : Bool) (lines : List FileLine) → one_file.Knows runs history lines → IsTrue may_end ↔ MayEnd runs lines

-- a file of no line may
may_end_none : (runs : Bool) → MayEnd runs []
may_end_none runs = record {
  last = beginning;
  reaches = record { moments = []; in_order = refl; leads = refl };
  wait = λ k d in_none. absurd (omega (arith, in_none));
}

-- where each file may end so, they may together
pub all_end : (files : Files) → All (λ e. MayEndBy e.1 true) files.files.entries → TellsEnd files true
all_end files all runs lines knows = (λ holds. λ g. each g, λ may. refl)
  where
    each : (g : ℕ) → MayEnd runs (lines g)
    each g = go (file_in files g) refl (All-lookup (λ h. MayEndBy h true) (is_at (nat_cmp g)) files.files.entries all)
      where
        go : (f : Option FileHistory) → file_in files g ≡ f → IfSome f (λ h. MayEndBy h true) → MayEnd runs (lines g)
        go None none found = subst (MayEnd runs) (sym (knows_none runs files lines g knows none)) (may_end_none runs)
        go (Some h) is found = (found runs (lines g) (knows_entry runs files lines g h knows is)).0 refl

-- where one may not, they may not
pub one_ends_not : (files : Files) (file : ℕ) (history : FileHistory) → file_in files file ≡ Some history → MayEndBy history false → TellsEnd files false
one_ends_not files file history is not runs lines knows =
    (λ holds. absurd (false≢true holds), λ may. (not runs (lines file) (knows_entry runs files lines file history knows is)).1 (may file))

-- an entry to which a loop has come
pub entry_in_loop : (files : Files) (xs : List (Bor ℕ × Bor FileHistory)) (s t u : List (ℕ × FileHistory)) (r : Option (Bor ℕ × Bor FileHistory))
    (x : Bor ℕ × Bor FileHistory) → s ≡ files.files.entries → Yields (TakesFirst deref_pair) s xs t → r ≡ Some x → TakesFirst deref_pair t r u
    → IsOrdered nat_cmp files.files → file_in files x.0.now ≡ Some x.1.now
entry_in_loop files xs s t u r x start y is step ordered = (btree_map_turn deref_pair xs s t u r x y is step nat_cmp_total files.files start ordered).1

-- each is the order of a file, with one more
pub are_more : (files : BTreeMap ℕ FileHistory) (old new : BTreeMap ℕ FileOrder) (file : ℕ) (history : FileHistory) → get nat_cmp files file ≡ Some history
    → PutsOrder old new file history → AreOf files old → AreOf files new
are_more files old new file history here puts are g order is = elim (decide g file) [
  | inl same ↦ elim (puts.only order (subst (λ x. get nat_cmp new x ≡ Some order) same is)) [
    | inl was ↦ are g order (subst (λ x. get nat_cmp old x ≡ Some order) (sym same) was)
    | inr fresh ↦ (history, subst (λ x. get nat_cmp files x ≡ Some history) (sym same) here, fresh)
  ]
  | inr off ↦ are g order (sym (puts.others g off) ∙ is)
]

-- what is there stays
pub still_there : (old new : BTreeMap ℕ FileOrder) (file : ℕ) (history : FileHistory) → PutsOrder old new file history → (g : ℕ) → get nat_cmp old g ≢ None
    → get nat_cmp new g ≢ None
still_there old new file history puts g was = elim (decide g file) [
  | inl same ↦ subst (λ x. get nat_cmp new x ≢ None) (sym same) (puts.stays (subst (λ x. get nat_cmp old x ≢ None) same was))
  | inr off ↦ λ none. was (sym (puts.others g off) ∙ none)
]

is_at-same : (n other : ℕ) → other ≡ n → is_at (nat_cmp n) other ≡ true
is_at-same n other same = grind (arith, common_steps)

-- each file has its own
pub all_there : (files : BTreeMap ℕ FileHistory) (orders : BTreeMap ℕ FileOrder)
    → All (λ (e : ℕ × FileHistory). keeps_order e.1 ≡ true → get nat_cmp orders e.0 ≢ None) files.entries → (file : ℕ) (history : FileHistory)
    → get nat_cmp files file ≡ Some history → keeps_order history ≡ true → get nat_cmp orders file ≢ None
all_there files orders all file history is keeps = found files.entries all is
  where
    found : (es : List (ℕ × FileHistory)) → All (λ (e : ℕ × FileHistory). keeps_order e.1 ≡ true → get nat_cmp orders e.0 ≢ None) es
        → lookup (is_at (nat_cmp file)) es ≡ Some history → get nat_cmp orders file ≢ None
    found [] all is = absurd (let e : ⊥ = cc in e)
    found (e ∷ es) all is = elim (decide e.0 file) [
      | inl same ↦
          let at : is_at (nat_cmp file) e.0 ≡ true = is_at-same file e.0 same in
          let here : e.1 ≡ history = grind (arith, common_steps, at, is) in
          subst (λ x. get nat_cmp orders x ≢ None) same (all 0 e (omega arith) (ap keeps_order here ∙ keeps))
      | inr off ↦
          let at : is_at (nat_cmp file) e.0 ≡ false = is_at-other file e.0 off in
          found es (λ k d lt. all (suc k) d (omega (arith, lt))) (grind (arith, common_steps, at, is))
    ]
