use Rattle.std.proofs.Common.{◌≢◌, [], None, Some, rules, subst, sym}
use Rattle.script_text.specs.JournalSteps.{ReadsNeed}
use Rattle.script_text.proofs.Quoted.{NeedsSoFar, needs_none, needs_stop, needs_end, need_read}
use Rattle.script_text.proofs.journals.parts.read_needs.Goals as goal

pub returns-in_default : goal.returns-in_default
returns-in_default c =
    let none : ReadsNeed None c.args.text.now = subst (λ o. ReadsNeed o c.args.text.now) c.in_default.is c.in_ok-first.ensures in
    needs_none c.args.text.now none

pub returns-in_default-2 : goal.returns-in_default-2
returns-in_default-2 c = λ needs some.
    let none : ReadsNeed None c.in-Some-behind.more.now = subst (λ o. ReadsNeed o c.in-Some-behind.more.now) c.in_default-2.is c.in_ok-next.ensures in
    let so = c.loop-more.invariant in
    needs_stop c.loop-more.needs c.loop-more.rest.now c.in-Some-behind.more.now c.args.text.now so.1 so.3 c.in-Some-behind.ensures none needs

pub loop-more-preserved : goal.loop-more-preserved
loop-more-preserved c =
    let read : ReadsNeed (Some c.in-Some-2.next) c.in-Some-behind.more.now =
    subst (λ o. ReadsNeed o c.in-Some-behind.more.now) c.in-Some-2.is c.in_ok-next.ensures in
    let so = c.loop-more.invariant in
    let more = need_read c.loop-more.needs c.in-Some-2.next.need c.loop-more.rest.now c.in-Some-behind.more.now c.in-Some-2.next.rest.now c.args.text.now so.1
    so.2 so.3 c.in-Some-behind.ensures read.0 read.1 in
    let all = subst (λ ns. NeedsSoFar ns c.in-Some-2.next.rest.now c.args.text.now) (sym c.in_ok-push-2.ensures.ok) more in
    (search rules, all.0, all.1, all.2)

pub returns-else-is_empty : goal.returns-else-is_empty
returns-else-is_empty c = λ needs some.
    let so = c.loop-more.invariant in
    let left : c.loop-more.rest.now ≢ [] = search rules in
    needs_end c.loop-more.needs c.loop-more.rest.now c.args.text.now so.1 so.3 c.in_default-behind.ensures left needs
