use Rattle.std.proofs.Common.{◌≡◌, ◌<◌, ℕ, List, Ok, inl, inr, sym, ap, ◌∙◌, subst, arith}
use Rattle.std.specs.List.{Contains}
use Rattle.page_bytes.specs.declared.schema.Found as found
use Rattle.page_bytes.specs.Schema.{Found, looked_on_page}
use Rattle.page_bytes.specs.SchemaFound.{looked_as}
use Rattle.page_bytes.proofs.SchemaWalks.{looked_next, looked_last, looked_back}
use Rattle.page_bytes.proofs.schema.schema_entry.Goals as goal

pub returns-then-is_passed : goal.returns-then-is_passed
returns-then-is_passed g c =
    let some : 0 < c.loop-number.number = omega arith in
    inr (inr (looked_back (g.P.Pages.known c.args.pages.now) c.args.space c.args.id.0 c.loop-number.from c.loop-number.number c.loop-number.passed.items
    c.loop-number.invariant some
    (subst (λ (l : List ℕ). Contains l c.loop-number.number) c.deref.ensures.value (c.is_passed.ensures c.if-is_passed.true))))

pub returns-in-Ok-At : goal.returns-in-Ok-At
returns-in-Ok-At g c =
    let some : 0 < c.loop-number.number = omega arith in
    let looks : Ok (looked_as c.loop-number.number c.in-Ok-At.field-0)
    ≡ looked_on_page (g.P.Pages.known c.args.pages.now) c.args.space c.args.id.0 c.loop-number.from c.loop-number.number = c.in-Ok-At.ensures in
    let last =
    looked_last (g.P.Pages.known c.args.pages.now) c.args.space c.args.id.0 c.loop-number.from c.loop-number.number c.loop-number.passed.items
    (Ok (Found c.loop-number.number c.in-Ok-At.at)) c.loop-number.invariant some
    (sym looks ∙ ap (λ (f : found.Found). Ok (looked_as c.loop-number.number f)) c.in-Ok-At.field-0-is) in
    (last.0, last.1 ∙ (λ i. Ok (Found (sym c.of.ensures.number i) (sym c.of.ensures.at i))))

pub returns-in-Err : goal.returns-in-Err
returns-in-Err g c =
    let some : 0 < c.loop-number.number = omega arith in
    inr (inl (looked_last (g.P.Pages.known c.args.pages.now) c.args.space c.args.id.0 c.loop-number.from c.loop-number.number c.loop-number.passed.items _
    c.loop-number.invariant some (sym c.in-Err.ensures)))

pub loop-number-preserved : goal.loop-number-preserved
loop-number-preserved g c =
    let some : 0 < c.loop-number.number = omega arith in
    let looks : Ok (looked_as c.loop-number.number c.in-Ok-Behind.field-0)
    ≡ looked_on_page (g.P.Pages.known c.args.pages.now) c.args.space c.args.id.0 c.loop-number.from c.loop-number.number = c.in-Ok-Behind.ensures in
    looked_next (g.P.Pages.known c.args.pages.now) c.args.space c.args.id.0 c.loop-number.from c.loop-number.number c.in-Ok-Behind.next
    c.loop-number.passed.items c.pass.new.passed.items c.loop-number.invariant some
    (sym looks ∙ ap (λ (f : found.Found). Ok (looked_as c.loop-number.number f)) c.in-Ok-Behind.field-0-is) c.in_ok-pass.ensures.ok
