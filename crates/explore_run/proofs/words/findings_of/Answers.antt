use Rattle.std.proofs.Common.{rules, ◌≡◌, ◌∙◌, ◌++◌, ◌∷◌, [], List, None, Some, append-nil, map, subst, sym}
use Rattle.explore_run.specs.FindingWords.{pieces_of}
use Rattle.explore_run.proofs.WordLemmas.{cut_at, none_named, one_named, whole_at}
use Rattle.explore_run.proofs.words.findings_of.Goals as goal

pub returns-in-None : goal.returns-in-None
returns-in-None g c =
    let rest = c.loop-word.rest.now in
    let is : c.split_once.result ≡ Some (c.in-Some.word, c.in-Some.more) = search rules in
    let cut = cut_at rest c.split_once.result (c.in-Some.word, c.in-Some.more) c.split_once.ensures.cases is in
    none_named g.F.Named.name (pieces_of c.args.list.now) (pieces_of rest) (pieces_of c.in-Some.more.now) c.loop-word.findings.items c.in-Some.word.now
    c.loop-word.invariant.1 cut c.in-None.ensures

pub loop-word-preserved : goal.loop-word-preserved
loop-word-preserved g c =
    let rest = c.loop-word.rest.now in
    let is : c.split_once.result ≡ Some (c.in-Some.word, c.in-Some.more) = search rules in
    let cut = cut_at rest c.split_once.result (c.in-Some.word, c.in-Some.more) c.split_once.ensures.cases is in
    let finding = c.in-Some-of_word.finding in
    let items : c.push.new.self.items ≡ c.loop-word.findings.items ++ finding ∷ [] = search rules in (
      search rules,
      subst (λ (l : List g.row.F.Denot). pieces_of c.args.list.now ≡ map g.F.Named.name l ++ pieces_of c.in-Some.more.now) (sym items)
          (one_named g.F.Named.name (pieces_of c.args.list.now) (pieces_of rest) (pieces_of c.in-Some.more.now) c.loop-word.findings.items finding
          c.in-Some.word.now c.loop-word.invariant.1 cut c.in-Some-of_word.ensures),
    )

pub returns-in-None-of_word : goal.returns-in-None-of_word
returns-in-None-of_word g c =
    let rest = c.loop-word.rest.now in
    let none : c.split_once.result ≡ None = search rules in
    let whole = whole_at rest c.split_once.result c.split_once.ensures.cases none in
    none_named g.F.Named.name (pieces_of c.args.list.now) (pieces_of rest) [] c.loop-word.findings.items rest c.loop-word.invariant.1 whole
    c.in-None-of_word.ensures

pub returns : goal.returns
returns g c =
    let rest = c.loop-word.rest.now in
    let none : c.split_once.result ≡ None = search rules in
    let whole = whole_at rest c.split_once.result c.split_once.ensures.cases none in
    let finding = c.in-Some-of_word-2.finding in
    let items : c.push-in-Some-of_word-2.new.self.items ≡ c.loop-word.findings.items ++ finding ∷ [] = search rules in
    subst (λ (l : List g.row.F.Denot). pieces_of c.args.list.now ≡ map g.F.Named.name l) (sym items)
    (one_named g.F.Named.name (pieces_of c.args.list.now) (pieces_of rest) [] c.loop-word.findings.items finding rest c.loop-word.invariant.1 whole
    c.in-Some-of_word-2.ensures
    ∙ append-nil (map g.F.Named.name (c.loop-word.findings.items ++ finding ∷ [])))
