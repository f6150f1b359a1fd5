use Rattle.std.proofs.Common.{◌∷◌, [], Err, rules, ap, sym, ◌∙◌}
use Rattle.script_text.specs.Scripts.{numbers, split_words}
use Rattle.script_text.specs.ScriptEnds.{with_more}
use Rattle.script_text.proofs.OrderNumbers.{split_words-cut, split_words-one, with_more-next, lists_as, lists_stop}
use Rattle.script_text.proofs.scripts.numbers.push_numbers.Goals as goal

pub loop-word-preserved : goal.loop-word-preserved
loop-word-preserved c =
    let words = split_words-cut c.loop-word.rest.now c.in-Some.word.now c.in-Some.behind.now c.in-Some.ensures in
    let next = with_more-next c.loop-word.order c.push_number.new.order c.args.most c.in-Some.word.now (split_words c.in-Some.behind.now) c.in-Ok.ensures in
    (search rules, sym next ∙ (ap (λ ws. with_more c.loop-word.order (numbers c.args.most ws)) (sym words) ∙ c.loop-word.invariant.1))

pub returns-in-Err : goal.returns-in-Err
returns-in-Err c =
    let words = split_words-cut c.loop-word.rest.now c.in-Some.word.now c.in-Some.behind.now c.in-Some.ensures in
    lists_as {T = Unit {0}} (Err c.in-Err.stop) c.loop-word.order c.args.order.now c.push_number.new.order
    (numbers c.args.most (c.in-Some.word.now ∷ split_words c.in-Some.behind.now)) _
    (ap (λ ws. with_more c.loop-word.order (numbers c.args.most ws)) (sym words) ∙ c.loop-word.invariant.1)
    (lists_stop (Unit {0}) c.in-Err.stop c.loop-word.order c.push_number.new.order c.args.most c.in-Some.word.now
    (split_words c.in-Some.behind.now) c.in-Err.ensures)

pub returns : goal.returns
returns c =
    let words = split_words-one c.loop-word.rest.now c.in_default.ensures in
    lists_as c.push_number-2.result c.loop-word.order c.args.order.now c.push_number-2.new.order (numbers c.args.most (c.loop-word.rest.now ∷ [])) _
    (ap (λ ws. with_more c.loop-word.order (numbers c.args.most ws)) (sym words) ∙ c.loop-word.invariant.1) c.push_number-2.ensures
