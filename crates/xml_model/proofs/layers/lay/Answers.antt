use Rattle.std.proofs.Common.{◌≡◌, ◌+◌, ◌-◌, ◌∷◌, drop, ap, sym, ◌∙◌, arith}
use Rattle.xml_model.specs.Changes.{with_document, with_documents, laid_over, unshared, changes_of_entries}
use Rattle.xml_model.proofs.Laying.{laid-entries}
use Rattle.xml_model.proofs.Entries.{pairs_of, drop-at}
use Rattle.xml_model.proofs.layers.lay.Goals as goal

pub loop-left-preserved-in-Continue-1 : goal.loop-left-preserved-in-Continue-1
loop-left-preserved-in-Continue-1 c =
    let back : c.loop-left.left - 1 + 1 ≡ c.loop-left.left = omega arith in
    record {
      within = omega arith;
      laid = λ F below. c.in_ok-change.ensures F below
          ∙ (λ i. with_document (c.as_str.ensures.value i) (unshared c.in-Some.after.now) (c.loop-left.invariant.laid F below i))
          ∙ sym (ap (λ es. with_documents (pairs_of es) (laid_over (changes_of_entries c.args.all.now.entries) F))
          (drop-at c.args.changes.now.entries (c.loop-left.left - 1) (c.in-Some.name.now, c.in-Some.after.now) (sym c.in-Some.ensures.entry)
          ∙ ap (λ k. (c.in-Some.name.now, c.in-Some.after.now) ∷ drop k c.args.changes.now.entries) back));
    }

pub returns : goal.returns
returns c = λ F below.
    let none : c.loop-left.left ≡ 0 = omega arith in
    c.loop-left.invariant.laid F below
    ∙ ap (λ k. with_documents (pairs_of (drop k c.args.changes.now.entries)) (laid_over (changes_of_entries c.args.all.now.entries) F)) none
    ∙ laid-entries (pairs_of c.args.changes.now.entries) (laid_over (changes_of_entries c.args.all.now.entries) F)
