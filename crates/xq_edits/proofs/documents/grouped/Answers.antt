use Rattle.std.proofs.Common.{◌≤◌, length, ◌∙◌, arith}
use Rattle.xq_edits.proofs.Groups.{begins, turned, ends}
use Rattle.xq_edits.proofs.documents.grouped.Goals as goal

pub groups-init : goal.groups-init
groups-init c = λ place.
    let same = c.from_vec-left.ensures.items ∙ c.into_vec.ensures in
    begins place c.args.roots.now c.new-all.result c.from_vec-left.result.items c.args.changes c.new-all.ensures same

pub groups-preserved : goal.groups-preserved
groups-preserved c = λ place.
    let group = c.in_ok-edits.ensures in
    turned place c.args.roots.now c.groups.all c.add_group.new.all c.groups.left.items c.pop_front.new.self.items c.first_group.new.changes.items
    c.args.changes c.in-Some.first c.in_ok-edits.edits (c.groups.invariant place) c.in-Some.ensures.items group.edits group.others c.in_ok-add_group.ensures

pub returns : goal.returns
returns c = λ place told.
    let none : length c.groups.left.items ≤ 0 = omega (arith, c.in_default.ensures.cases.0) in
    ends place c.args.roots.now c.groups.all c.groups.left.items c.args.changes none (c.groups.invariant place) told
