use Rattle.std.proofs.Common.{rules, ◌<◌, ◌≡◌, arith, codes, map, string_bytes, length, false, true}
use Rattle.std.specs.Str.{bytes_eq}
use Rattle.lockreplay.proofs.GivenWordLemmas.{ends, found, passes, within_map, word_at, word_is}
use Rattle.lockreplay.proofs.given_words.place_of.Goals as goal

pub returns-then-eq : goal.returns-then-eq
returns-then-eq c =
    let before : c.loop-place.place < length c.args.words.now = omega (arith, c.loop-place-test.true) in
    let at = word_at string_bytes c.args.words.now c.loop-place.place c.index-words-place.result before c.index-words-place.is in
    let is : bytes_eq (string_bytes c.index-words-place.result) (codes "--") ≡ true = search rules in
    ends c.args.flag.now (map string_bytes c.args.words.now) c.loop-place.place (string_bytes c.index-words-place.result) c.loop-place.invariant at is

pub returns-then-eq-2 : goal.returns-then-eq-2
returns-then-eq-2 c =
    let before : c.loop-place.place < length c.args.words.now = omega (arith, c.loop-place-test.true) in
    let at = word_at string_bytes c.args.words.now c.loop-place.place c.index-words-place.result before c.index-words-place.is in
    let goes_on : bytes_eq (string_bytes c.index-words-place.result) (codes "--") ≡ false = search rules in
    let is : bytes_eq (string_bytes c.index-words-place.result) c.args.flag.now ≡ true = search rules in
    found c.args.flag.now (map string_bytes c.args.words.now) c.loop-place.place (string_bytes c.index-words-place.result)
    (within_map string_bytes c.args.words.now c.loop-place.place before) c.loop-place.invariant at goes_on is

pub loop-place-preserved : goal.loop-place-preserved
loop-place-preserved c =
    let before : c.loop-place.place < length c.args.words.now = omega (arith, c.loop-place-test.true) in
    let at = word_at string_bytes c.args.words.now c.loop-place.place c.index-words-place.result before c.index-words-place.is in
    let word = word_is string_bytes c.args.words.now c.loop-place.place c.index-words-place.result before c.index-words-place.is in
    let goes_on : bytes_eq (string_bytes c.index-words-place.result) (codes "--") ≡ false = search rules in
    let other : bytes_eq (string_bytes c.index-words-place.result) c.args.flag.now ≡ false = search rules in
    passes c.args.flag.now (map string_bytes c.args.words.now) c.loop-place.place (string_bytes c.index-words-place.result)
    (within_map string_bytes c.args.words.now c.loop-place.place before) word c.loop-place.invariant at goes_on other
