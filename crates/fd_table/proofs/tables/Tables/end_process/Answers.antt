use Rattle.fd_table.proofs.Common.{◌≡◌, ◌<◌, ◌≤◌, ◌+◌, ◌∷◌, ◌++◌, [], ℕ, Bool, List, true, length, refl, sym, ap, subst, ◌∙◌, arith, length_push, length-set, FILES, Released, without_one, Descriptors, without_descriptors, descriptor_limit, StandFor, view_of}
use Rattle.fd_table.specs.TablesView.{SameProcesses}
use Rattle.fd_table.proofs.RowsLemmas.{key_past}
use Rattle.fd_table.proofs.ViewLemmas.{stands_for_same}
use Rattle.fd_table.proofs.CallLemmas.{key_of_open}
use Rattle.fd_table.proofs.EndProcessLemmas.{IsGathered, below, closed_below, first_closed, next_closed, same_closing, gathered_none, gathered_skip, gathered_shared, gathered_last, gathered_all, all_below}
use Rattle.fd_table.proofs.tables.Tables.end_process.Goals as goal
use Rattle.fd_table.proofs.tables.Tables.end_process.Goals.{in-Some+in-Some-last, in-Some+in_default-last, in_default}

pub loop-fd-init : goal.loop-fd-init
loop-fd-init c =
    record {
      stands = λ D h. stands_for_same (view_of c.args.self.now) D (closed_below D c.args.p 0) (first_closed D c.args.p) h;
      gathered = λ D h. rw c.none-released.ensures (gathered_none D c.args.p FILES c.no_marks-files.result c.no_marks-files.ensures);
      few = rw c.none-released.ensures (omega arith);
      no_files = rw c.none-released.ensures refl;
      marks = rw c.no_marks-files.ensures refl;
      kept = record { processes = refl; limits = refl; alive = λ q. refl };
    }

pub loop-fd-preserved : goal.loop-fd-preserved
loop-fd-preserved c =
    let i = c.loop-fd.invariant in
    let fd = c.loop-fd.fd in
    let p = c.args.p in
    let numbers = c.loop-fd.released.descriptions in
    let kept : SameProcesses c.args.self.now c.close_one.new.self =
    record {
      processes = c.close_one.ensures.kept.processes ∙ i.kept.processes;
      limits = c.close_one.ensures.kept.limits ∙ i.kept.limits;
      alive = λ q. c.close_one.ensures.kept.alive q ∙ i.kept.alive q;
    } in
    let stands : (D : Descriptors) → StandFor c.args.self.now D → StandFor c.close_one.new.self (closed_below D p (fd + 1)) = λ D h.
    stands_for_same (view_of c.close_one.new.self) (without_one (closed_below D p fd) p fd) (closed_below D p (fd + 1)) (next_closed D p fd)
    (c.close_one.ensures.step (closed_below D p fd) (i.stands D h)).1 in
    elim c.match-close_one.branch [
      | in-Some+in-Some-last w ↦
          let is = w.released-is ∙ w.push_description.ensures in
          let numbers_are = ap (λ (r : Released). r.descriptions) is in
          let within : w.from.result < length c.loop-fd.files = omega (arith, i.marks, w.in-Some.ensures.file, w.from.ensures) in
          record {
            stands = stands;
            gathered = λ D h.
                subst (λ (xs : List ℕ). IsGathered D p (fd + 1) c.match-close_one.files xs) (sym numbers_are)
                (subst (λ (marks : List Bool). IsGathered D p (fd + 1) marks (numbers ++ w.in-Some-last.number ∷ [])) (sym w.files-is)
                (gathered_last D p fd c.loop-fd.files numbers w.from.result w.in-Some-last.number w.in-Some.closed w.from.ensures within
                (w.in-Some.ensures.step (closed_below D p fd) (i.stands D h)).0 w.in-Some-last.is (i.gathered D h)));
            few = subst (λ (xs : List ℕ). length xs ≤ fd + 1) (sym numbers_are) (omega (arith, i.few, length_push numbers w.in-Some-last.number));
            no_files = ap (λ (r : Released). r.files) is ∙ i.no_files;
            marks = ap length w.files-is ∙ length-set c.loop-fd.files w.from.result true ∙ i.marks;
            kept = kept;
          }
      | in-Some+in_default-last w ↦
          let within : w.from.result < length c.loop-fd.files = omega (arith, i.marks, w.in-Some.ensures.file, w.from.ensures) in
          record {
            stands = stands;
            gathered = λ D h.
                subst (λ (r : Released). IsGathered D p (fd + 1) c.match-close_one.files r.descriptions) (sym w.released-is)
                (subst (λ (marks : List Bool). IsGathered D p (fd + 1) marks numbers) (sym w.files-is)
                (gathered_shared D p fd c.loop-fd.files numbers w.from.result w.in-Some.closed w.from.ensures within
                (w.in-Some.ensures.step (closed_below D p fd) (i.stands D h)).0 w.in_default-last.is (i.gathered D h)));
            few = subst (λ (r : Released). length r.descriptions ≤ fd + 1) (sym w.released-is) (omega (arith, i.few));
            no_files = ap (λ (r : Released). r.files) w.released-is ∙ i.no_files;
            marks = ap length w.files-is ∙ length-set c.loop-fd.files w.from.result true ∙ i.marks;
            kept = kept;
          }
      | in_default w ↦
          record {
            stands = stands;
            gathered = λ D h.
                subst (λ (r : Released). IsGathered D p (fd + 1) c.match-close_one.files r.descriptions) (sym w.released-is)
                (subst (λ (marks : List Bool). IsGathered D p (fd + 1) marks numbers) (sym w.files-is)
                (gathered_skip D p fd c.loop-fd.files numbers (w.in_default.ensures.step (closed_below D p fd) (i.stands D h)).0 (i.gathered D h)));
            few = subst (λ (r : Released). length r.descriptions ≤ fd + 1) (sym w.released-is) (omega (arith, i.few));
            no_files = ap (λ (r : Released). r.files) w.released-is ∙ i.no_files;
            marks = ap length w.files-is ∙ i.marks;
            kept = kept;
          }
    ]

pub returns-clause-step : goal.returns-clause-step
unfolding view_of
returns-clause-step c = λ D h.
    let t = c.args.self.now in
    let p = c.args.p in
    let i = c.loop-fd.invariant in
    let numbers = c.loop-fd.released.descriptions in
    let listed : c.list_files.new.self.descriptions ≡ numbers = c.list_files.ensures.descriptions in
    let over : descriptor_limit t.limits ≤ c.loop-fd.fd = omega (arith, c.descriptors-fd-end.ensures) in
    let none = λ (k : ℕ) (past : c.loop-fd.fd ≤ k). key_of_open t.rows.items t.opened p k (view_of t) D (λ q j. refl) h (key_past t.processes t.limits t.rows.items t.rowed p k (omega (arith, over, past))) in (
      without_descriptors D p (λ k. true),
      gathered_all D p c.loop-fd.fd c.loop-fd.files numbers c.sort_descriptions.new.self none (i.gathered D h)
          (rw c.sort_descriptions.ensures.files c.list_files.ensures.files)
          (rw listed at c.sort_descriptions.ensures.rising)
          (rw listed at c.sort_descriptions.ensures.same),
      stands_for_same (view_of c.loop-fd.self) (closed_below D p c.loop-fd.fd) (without_descriptors D p (λ k. true))
          (same_closing D p (λ k. true) (below c.loop-fd.fd) (all_below D p c.loop-fd.fd none)) (i.stands D h),
    )
