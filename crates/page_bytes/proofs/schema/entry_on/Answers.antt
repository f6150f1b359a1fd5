use Rattle.std.proofs.Common.{◌≡◌, ◌+◌, ◌-◌, suc, sym, ap, ◌∙◌, arith}
use Rattle.page_bytes.specs.Schema.{entry_among}
use Rattle.page_bytes.proofs.SchemaWalks.{entry_passed}
use Rattle.page_bytes.proofs.schema.entry_on.Goals as goal

pub loop-entry-preserved : goal.loop-entry-preserved
loop-entry-preserved c =
    let end = c.read_u16-entry-end.result in let i = c.loop-entry._entry in let space = c.args.id.space in let number = c.args.id.number in
    let count : end - i ≡ suc (end - (i + 1)) = omega arith in
    record {
      left = ap (λ at. entry_among space number (end - (i + 1)) at c.args.page.now c.args.wanted) c.in-Some.ensures.found.1
          ∙ sym (entry_passed space number (end - i) (end - (i + 1)) c.loop-entry.at c.args.page.now c.args.wanted count c.in-Some.ensures.found.0
          (λ is. c.if-read_u32-wanted.false (c.read_u32.ensures ∙ is)))
          ∙ c.loop-entry.invariant.left;
      inside = c.in-Some.ensures.found.2;
      counted = omega arith;
    }
