use Rattle.std.proofs.Common.{◌≢◌, [], None, Some, rules, subst, sym}
use Rattle.script_text.specs.JournalSteps.{ReadsEvent}
use Rattle.script_text.proofs.TextTells.{ReadSoFar, nothing_told, read_more}
use Rattle.script_text.proofs.journals.reading.read_events.Goals as goal

pub returns-in_default : goal.returns-in_default
returns-in_default c =
    let none : ReadsEvent None c.loop-rest.rest.now = subst (λ o. ReadsEvent o c.loop-rest.rest.now) c.in_default.is c.in_ok-next.ensures in
    let left : c.loop-rest.rest.now ≢ [] = search rules in
    let so = c.loop-rest.invariant.1 in
    nothing_told c.loop-rest.journal c.loop-rest.rest.now c.args.text.now so.printed so.text left none

pub loop-rest-preserved : goal.loop-rest-preserved
loop-rest-preserved c =
    let read : ReadsEvent (Some c.in-Some.next) c.loop-rest.rest.now = subst (λ o. ReadsEvent o c.loop-rest.rest.now) c.in-Some.is c.in_ok-next.ensures in
    let more = read_more c.loop-rest.journal c.in-Some.next.event c.loop-rest.rest.now c.in-Some.next.rest.now c.args.text.now c.loop-rest.invariant.1 read.0
    read.1 read.2 in
    (search rules, subst (λ j. ReadSoFar j c.in-Some.next.rest.now c.args.text.now) (sym c.in_ok-push.ensures.ok) more)
