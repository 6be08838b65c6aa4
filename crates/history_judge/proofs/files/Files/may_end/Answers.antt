use Rattle.history_judge.proofs.Common.{rules, ◌≡◌, ◌∙◌, ◌-◌, ℕ, Some, ap, subst, true, false, deref_pair, All, FileHistory, file_in}
use Rattle.std.proofs.lemmas.List.Elements.{All-map, All-push}
use Rattle.std.proofs.lemmas.Map.Iter.{iter_end}
use Rattle.history_judge.proofs.FilesLemmas.{MayEndBy, all_end, entry_in_loop, exceeds_entry, one_ends_not}
use Rattle.history_judge.proofs.files.Files.may_end.Goals as goal

pub returns-in_err-may_end-clause-limit : goal.returns-in_err-may_end-clause-limit
returns-in_err-may_end-clause-limit c told =
    let gives = c.into_iter-file-iterator.ensures.into_iter_gives in
    let here : file_in c.args.self.now c.in-Some.file.now ≡ Some c.in-Some.history.now =
    entry_in_loop c.args.self.now c.loop-file.yielded _ _ _ _ (c.in-Some.file, c.in-Some.history) gives.0 c.loop-file.yielded_by c.in-Some.is
    c.next.ensures.steps gives.5 in
    exceeds_entry c.args.self.now c.in-Some.file.now c.in-Some.history.now c.args.limit c.room_beside.result here
    (c.room_beside.ensures ∙ ap (λ n. c.args.limit - n) c.kept_beside-elsewhere.ensures)
    (c.in_err-may_end.ensures.limit (search rules))

pub returns-then-not-branch-clause-ok : goal.returns-then-not-branch-clause-ok
returns-then-not-branch-clause-ok c =
    let gives = c.into_iter-file-iterator.ensures.into_iter_gives in
    let here : file_in c.args.self.now c.in-Some.file.now ≡ Some c.in-Some.history.now =
    entry_in_loop c.args.self.now c.loop-file.yielded _ _ _ _ (c.in-Some.file, c.in-Some.history) gives.0 c.loop-file.yielded_by c.in-Some.is
    c.next.ensures.steps gives.5 in
    let told : c.in_ok-may_end.field-0 ≡ false = search rules in
    one_ends_not c.args.self.now c.in-Some.file.now c.in-Some.history.now here
    (subst (λ b. MayEndBy c.in-Some.history.now b) told c.in_ok-may_end.ensures.ok)

pub loop-file-preserved : goal.loop-file-preserved
loop-file-preserved c =
    let told : c.in_ok-may_end.field-0 ≡ true = search rules in
    All-push (λ p. MayEndBy p.1.now true) c.loop-file.yielded (c.in-Some.file, c.in-Some.history) c.loop-file.invariant
    (subst (λ b. MayEndBy c.in-Some.history.now b) told c.in_ok-may_end.ensures.ok)

pub returns-clause-ok : goal.returns-clause-ok
returns-clause-ok c =
    let gives = c.into_iter-file-iterator.ensures.into_iter_gives in
    let whole = (iter_end deref_pair c.args.self.now.files.entries c.loop-file.yielded _ _ _ _ gives.0 c.loop-file.yielded_by c.in-None.is c.next.ensures.steps).0 in
    all_end c.args.self.now (subst (All (λ (e : ℕ × FileHistory). MayEndBy e.1 true)) whole
    (All-map (λ (e : ℕ × FileHistory). MayEndBy e.1 true) deref_pair c.loop-file.yielded c.loop-file.invariant))
