use Rattle.std.proofs.Common.{sym, arith}
use Rattle.std.proofs.lemmas.Bool.{ltb-true}
use Rattle.tree_edit.proofs.Spots.{got, found_later}
use Rattle.tree_edit.proofs.spot.edit_here.Goals as goal

-- src/spot.rt:18:1
pub returns-else-edit-number-clause-found : goal.returns-else-edit-number-clause-found
returns-else-edit-number-clause-found c =
    let edits = c.args.edits.now in
    let next = c.args.spot.now.next in
    let e = c.in-Some.edit.now in
    let there = got edits next e (ltb-true _ _ (sym c.in-Some.ensures.lookup.0)) c.in-Some.ensures.lookup.1 in
    (found_later edits c.args.spot.now.number next e c.requires.at there (λ is. omega (arith, is))).is
