use Rattle.std.proofs.Common.{◌<◌, ◌^◌, None, arith, subst}
use Rattle.script_text.specs.JournalSteps.{ReadsLines}
use Rattle.script_text.proofs.EventRows.{answer_missing}
use Rattle.script_text.proofs.journals.reading.read_answer.Goals as goal

pub returns-in-None : goal.returns-in-None
returns-in-None c =
    let small : c.in-Some.count < 2 ^ 64 = omega arith in
    let none : ReadsLines None c.in-Some.count c.args.behind.now =
    subst (λ o. ReadsLines o c.in-Some.count c.args.behind.now) c.in-None.is c.in_ok-found.ensures in
    answer_missing c.args.session c.in-Some.count c.args.count.now c.args.behind.now small c.in-Some.ensures.found none
