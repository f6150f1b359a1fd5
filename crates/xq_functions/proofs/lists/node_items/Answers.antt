use Rattle.std.proofs.Common.{◌≡◌, List, ◌∷◌, ◌++◌, [], map, length, sym, ap, ◌∙◌, append_assoc, append-nil, arith}
use Rattle.std.proofs.lemmas.List.{map-append}
use Rattle.std.specs.Vec.Iter.{into_iter_items}
use Rattle.xq_values.specs.Seen.{item_seen}
use Rattle.xq_values.specs.declared.item.NodeId.{NodeId}
use Rattle.xq_values.specs.declared.item.Item.{Item}
use Rattle.xq_values.specs.declared.item.Item.TheVariants as item
use Rattle.xq_functions.proofs.NodeLists.{items_seen, none_of}
use Rattle.xq_functions.proofs.lists.node_items.Goals as goal

pub loop-id-preserved : goal.loop-id-preserved
loop-id-preserved c =
    let at = c.loop-id in
    let x = c.in-Some.id in
    let steps : into_iter_items at.id-iterator ≡ x ∷ into_iter_items c.next.new.self = c.in-Some.ensures.steps.0 in
    record {
      made = c.in_ok-push.ensures.ok
          ∙ (ap (λ (l : List Item). l ++ item.Node x ∷ []) at.invariant.made ∙ sym (map-append (λ (id : NodeId). item.Node id) at.yielded (x ∷ [])));
      all = append_assoc at.yielded (x ∷ []) _ ∙ rw (← steps) at.invariant.all;
      left = let was = at.invariant.left in let gone = c.in-Some.ensures.steps.1 in let short = ap length steps in omega arith;
    }

pub returns : goal.returns
returns c =
    let at = c.loop-id in
    let none = c.in-None.ensures.steps in
    let empty : into_iter_items at.id-iterator ≡ [] = none_of _ (sym at.invariant.left ∙ none.0) in
    let all : at.yielded ≡ c.args.nodes = sym (append-nil at.yielded) ∙ rw empty at at.invariant.all in
    λ place. ap (map (item_seen place)) (at.invariant.made ∙ ap (map (λ (id : NodeId). item.Node id)) all) ∙ items_seen place c.args.nodes
