use Rattle.script_core.proofs.Common.{ℕ, ◌≡◌, ◌≤◌, ◌-◌, ◌∷◌, ◌++◌, ◌∙◌, ap, subst, drop, decimal, arith, lit<, append-nil, rules, length, List, set, length-decimal-le, common_steps, tag}
use Rattle.std.proofs.Common.{length-set}
use Rattle.script_core.proofs.TextLemmas.{put_before}
use Rattle.script_core.proofs.noted.Noted.new.Goals as goal

pub write_digits-sign-requires : goal.write_digits-sign-requires
write_digits-sign-requires c = (omega (arith, length-decimal-le 20 c.args.n (lit< tt) (omega arith) (omega arith)), omega arith)

pub overflow_sub-sign : goal.overflow_sub-sign
overflow_sub-sign c = omega (arith, c.write_digits-sign.ensures.start, length-decimal-le 20 c.args.n (lit< tt) (omega arith) (omega arith))

pub write_digits-process-requires : goal.write_digits-process-requires
write_digits-process-requires c =
    let number = c.write_digits-sign in
    let short = length-decimal-le 20 c.args.n (lit< tt) (omega arith) (omega arith) in
    let process = length-decimal-le 3 c.from.result (lit< tt) (omega (arith, c.from.ensures)) (omega arith) in
    let long : length number.new.buf ≡ 27 = search rules in (
      omega (arith, number.ensures.start, short, process),
      omega (arith, number.ensures.start, long, length-set number.new.buf (number.result - 1) 35),
    )

-- before the process' digits there is room for three bytes
enough : (c : goal.After-room-4-1) → 3 ≤ c.write_digits-process.result
enough c =
    let short = length-decimal-le 20 c.args.n (lit< tt) (omega arith) (omega arith) in
    let process = length-decimal-le 3 c.from.result (lit< tt) (omega (arith, c.from.ensures)) (omega arith) in
    omega (arith, c.write_digits-sign.ensures.start, c.write_digits-process.ensures.start, short, process)

pub overflow_sub-room : goal.overflow_sub-room
overflow_sub-room c = omega (arith, enough c)

pub overflow_sub-room-2 : goal.overflow_sub-room-2
overflow_sub-room-2 c = omega (arith, enough c)

pub overflow_sub-room-3 : goal.overflow_sub-room-3
overflow_sub-room-3 c = enough c

pub overflow_sub-result : goal.overflow_sub-result
overflow_sub-result c = enough c

pub invariant_of-result : goal.invariant_of-result
invariant_of-result c =
    let number = c.write_digits-sign in
    let process = c.write_digits-process in
    let start = process.result in
    let buffer = process.new.buf in
    let room = enough c in
    let sum = process.ensures.start in
    let whole = number.ensures.start in
    let long : length number.new.buf ≡ 27 = search rules in
    let longer : length buffer ≡ 27 = search rules in
    let once = length-set buffer (start - 1) 32 in
    let twice = length-set (set buffer (start - 1) 32) (start - 2) 124 in
    let digits : drop number.result number.new.buf ≡ decimal c.args.n = search (rules, append-nil) in
    let signed = put_before number.new.buf (decimal c.args.n) (number.result - 1) number.result 35 (omega (arith, long, whole, room, sum)) (omega (arith, room, sum)) digits in
    let tagged = process.ensures.written ∙ ap (λ (l : List ℕ). decimal c.from.result ++ l) signed in
    let same : decimal c.args.p ++ 35 ∷ decimal c.args.n ≡ tag c.args.p c.args.n = grind (arith, common_steps) in
    let text = subst (λ (p : ℕ). drop start buffer ≡ decimal p ++ 35 ∷ decimal c.args.n) c.from.ensures tagged ∙ same in record {
      fits = omega (arith, room, sum, whole);
      spelled = put_before (set (set buffer (start - 1) 32) (start - 2) 124) (124 ∷ 32 ∷ tag c.args.p c.args.n) (start - 3) (start - 2) 32 (omega (arith, longer, once, twice, room, sum, whole)) (omega (arith, room))
          (put_before (set buffer (start - 1) 32) (32 ∷ tag c.args.p c.args.n) (start - 2) (start - 1) 124 (omega (arith, longer, once, room, sum, whole)) (omega (arith, room))
          (put_before buffer (tag c.args.p c.args.n) (start - 1) start 32 (omega (arith, longer, room, sum, whole)) (omega (arith, room)) text));
    }
