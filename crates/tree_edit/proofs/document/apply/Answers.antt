use Rattle.std.proofs.Common.{subst}
use Rattle.xml_model.specs.Rebuild.{edits_at, rebuild}
use Rattle.tree_edit.specs.Ends.{Gives}
use Rattle.tree_edit.proofs.ByNumber.{whole}
use Rattle.tree_edit.proofs.document.apply.Goals as goal

pub returns : goal.returns
returns c =
    let doc = c.args.doc.now in
    let r = c.limited.result in
    record {
      gives = subst (λ edits. Gives r (rebuild doc (edits_at doc edits))) c.as_slice-edits.ensures
          (whole doc c.as_slice-edits.result.now c.new-kids.result c.edit_nodes.new.out c.push_into.new.out c.edit_here-what.new.spot.number _ c.in_ok-kids.kids r
          c.new-kids.ensures c.edit_here-what.ensures.number c.in_ok-edit_nodes.ensures.made c.edit_here-what.ensures.found c.in_ok-push_into.ensures c.in_ok-kids.ensures c.limited.ensures);
    }
