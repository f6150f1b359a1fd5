use Rattle.std.proofs.Common.{rules, ◌≡◌, ◌-◌, ◌++◌, ◌∷◌, [], ℕ, List, length, drop, arith, ap, ◌∙◌, length-append}
use Rattle.redo_log.specs.Record.{number, body_of, tail_of}
use Rattle.redo_log.proofs.Bodies.{length-number, made, is_tail, body_is}
use Rattle.redo_log.proofs.body.build.Goals as goal

pub overflow_sub-long : goal.overflow_sub-long
overflow_sub-long c =
    let pushed : c.push_body.new.out.items ≡ number 0 ++ body_of c.args.change.now = search rules in
    let long : length c.push_body.new.out.items ≡ c.len-long.result = search rules in
    omega (arith, ap length pushed, length-append (number 0) (body_of c.args.change.now), length-number 0, long)

pub set_length-requires : goal.set_length-requires
set_length-requires c =
    let pushed : c.push_body.new.out.items ≡ number 0 ++ body_of c.args.change.now = search rules in
    omega (arith, ap length pushed, length-append (number 0) (body_of c.args.change.now), length-number 0)

tail_is : (c : goal.In_ok-push) → c.push.new.self.items ≡ tail_of (body_of c.args.change.now)
tail_is c =
    let pushed : c.push_body.new.out.items ≡ number 0 ++ body_of c.args.change.now = search rules in
    let long : length c.push_body.new.out.items ≡ c.push_body.new.out.len = search rules in
    let count : c.len-long.result - 8 ≡ length (body_of c.args.change.now) =
    omega (arith, ap length pushed, length-append (number 0) (body_of c.args.change.now), length-number 0, long, c.len-long.ensures) in
    let set : c.set_length.new.tail.items ≡ number (c.len-long.result - 8) ++ drop 8 (number 0 ++ body_of c.args.change.now) = c.set_length.ensures
    ∙ ap (λ (l : List ℕ). number (c.len-long.result - 8) ++ drop 8 l) pushed in
    let full : c.push.new.self.items ≡ c.set_length.new.tail.items ++ 0 ∷ [] = search rules in
    made _ (body_of c.args.change.now) _ count (full ∙ ap (λ (l : List ℕ). l ++ 0 ∷ []) set)

pub invariant_of-result : goal.invariant_of-result
invariant_of-result c = is_tail _ (body_of c.args.change.now) (tail_is c)

pub returns : goal.returns
returns c = body_is _ (body_of c.args.change.now) (tail_is c)
