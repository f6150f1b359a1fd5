-- Steps from many nodes that construct nothing, and `//` before a step to all children that pass.
use Rattle.std.specs.Prelude.{◌≡◌, ◌==◌, ◌&&◌, Bool, true, false, List, [], ◌∷◌, length, Ok, refl}
use Rattle.std.proofs.Common.{sym, ap, ◌∙◌, true≢false, arith}
use Rattle.std.proofs.lemmas.Bool.{eqb-true}
use Rattle.xq_ast.specs.declared.step.Axis.{Axis}
use Rattle.xq_ast.specs.declared.step.Axis.TheVariants as axis
use Rattle.xq_ast.specs.declared.step.Test.{Test}
use Rattle.xq_ast.specs.declared.step.Test.TheVariants.{AnyNode}
use Rattle.xq_ast.specs.declared.tree.Expr.{Expr}
use Rattle.xq_ast.specs.declared.tree.Step.{Step}
use Rattle.xml_model.specs.DocumentOrder.{union}
use Rattle.xml_model.specs.Evaluation as spec
use Rattle.xml_model.specs.Items.{Documents, NodeAt, Made, Making, plain, then_with}
use Rattle.xml_model.specs.Nodes.{tested, node_cmp}
use Rattle.xml_model.specs.Tuples.{Bindings}
use Rattle.xq_nodes.proofs.NodeOrder.{node_total}
use Rattle.xq_nodes.proofs.Unions.{union_assoc, union-nil}
use Rattle.xq_eval.specs.Meanings.{step_means}
use Rattle.xq_eval.specs.Paths.{tested_from, tested_each, is_child, takes_children}
use Rattle.xq_eval.specs.Scopes.{without_trees}
use Rattle.xq_eval.proofs.DeepNodes.{all_nodes, children_below_all}

-- what each node gives by itself, joined
pub each_plain : (go : NodeAt → Making (List NodeAt)) (found : NodeAt → List NodeAt) (made : Made) → ((n : NodeAt) → go n made ≡ Ok (found n, made))
    → (joined ns : List NodeAt) → spec.from_each go joined ns made ≡ Ok (union node_cmp joined (all_nodes found ns), made)
each_plain go found made is joined [] = ap (λ l. Ok (l, made)) (sym (union-nil node_cmp joined))
each_plain go found made is joined (n ∷ ns) =
    ap (λ r. then_with r (λ more. spec.from_each go (union node_cmp joined more) ns)) (is n)
    ∙ (each_plain go found made is (union node_cmp joined (found n)) ns
    ∙ ap (λ l. Ok (l, made)) (union_assoc node_cmp node_total joined (found n) (all_nodes found ns)))

module _ (docs : Documents) (made : Made) where
  -- an axis from each of the nodes
  pub tested_all : (way : Axis) (wanted : Test) (ns : List NodeAt)
      → tested_each docs way wanted ns made ≡ Ok (all_nodes (tested docs made way wanted) ns, made)
  tested_all way wanted ns = each_plain (tested_from docs way wanted) (tested docs made way wanted) made (λ n. refl) [] ns

  -- it makes no tree
  pub tested_plain : (way : Axis) (wanted : Test) (ns : List NodeAt)
      → tested_each docs way wanted ns made ≡ plain (without_trees (tested_each docs way wanted ns made)) made
  tested_plain way wanted ns =
      tested_all way wanted ns ∙ sym (ap (λ r. plain (without_trees r) made) (tested_all way wanted ns))

  -- ---- `//` and all children that pass

  -- such a step after `//` takes what stands below the nodes
  pub deep_children : (s : Step) (env : Bindings) (ns : List NodeAt) → s.deep ≡ true → takes_children s ≡ true
      → spec.stepped docs (step_means docs s) env ns made ≡ tested_each docs axis.Descendant s.test ns made
  deep_children s env ns deep takes = go s.deep s.axis s.preds deep takes
    where
      go : (deep : Bool) (way : Axis) (preds : List Expr) → deep ≡ true → (is_child way && (length preds == 0)) ≡ true
          → spec.stepped docs (step_means docs (record { deep = deep; axis = way; test = s.test; preds = preds })) env ns made
          ≡ tested_each docs axis.Descendant s.test ns made
      go true axis.Child [] d t =
          ap (λ r. then_with r (spec.from_each (tested_from docs axis.Child s.test) [])) (tested_all axis.DescendantOrSelf AnyNode ns)
          ∙ (tested_all axis.Child s.test (all_nodes (tested docs made axis.DescendantOrSelf AnyNode) ns)
          ∙ (ap (λ l. Ok (l, made)) (children_below_all docs made s.test ns) ∙ sym (tested_all axis.Descendant s.test ns)))
      go true axis.Child (p ∷ preds) d t = let none : length (p ∷ preds) ≡ 0 = eqb-true (length (p ∷ preds)) 0 t in absurd (omega (arith, none))
      go true axis.Descendant preds d t = absurd (true≢false (sym t))
      go true axis.DescendantOrSelf preds d t = absurd (true≢false (sym t))
      go true axis.Itself preds d t = absurd (true≢false (sym t))
      go true axis.Attribute preds d t = absurd (true≢false (sym t))
      go true axis.Parent preds d t = absurd (true≢false (sym t))
      go false way preds d t = absurd (true≢false (sym d))
