use Rattle.std.proofs.Common.{◌+◌, sym, arith}
use Rattle.std.proofs.lemmas.Bool.{ltb-true}
use Rattle.tree_edit.proofs.Spots.{got, goes_past}
use Rattle.tree_edit.proofs.spot.skip.Goals as goal

pub loop-edit-preserved : goal.loop-edit-preserved
loop-edit-preserved c =
    let edits = c.args.edits.now in
    let next = c.loop-edit.next in
    let e = c.in-Some.edit.now in
    let there = got edits next e (ltb-true _ _ (sym c.in-Some.ensures.lookup.0)) c.in-Some.ensures.lookup.1 in
    goes_past edits c.args.spot.now.number (c.args.spot.now.number + c.args.nodes) next e c.loop-edit.invariant there (omega arith)
