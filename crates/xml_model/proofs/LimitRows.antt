-- Worked rows of the limits of documents that are rebuilt.
use Rattle.std.specs.Prelude.{◌≡◌, ℕ, zero, suc, List, [], ◌∷◌, Ok, Err, refl, codes}
use Rattle.std.proofs.Common.{◌∙◌}
use Rattle.std.specs.FinMap as fin_map
use Rattle.xq_ast.specs.declared.code.Code.TheVariants.{TooDeep}
use Rattle.xml_model.specs.declared.node.Node.{Node}
use Rattle.xml_model.specs.declared.node.Node.TheVariants.{Element}
use Rattle.xml_model.specs.declared.place.PlaceStep.{PlaceStep}
use Rattle.xml_model.specs.declared.place.PlaceStep.TheVariants as steps
use Rattle.xml_model.proofs.Computing.{seen}
use Rattle.xml_model.proofs.QueryForms.{doc}
use Rattle.xml_model.specs.declared.edit.EditKind.TheVariants as edit
use Rattle.xml_model.specs.Rebuild.{rebuild}
use Rattle.xml_model.proofs.UpdateComputing.{rebuilds}

-- elements in one another, and nodes in the innermost
abbrev nested : ℕ → List Node → List Node
nested zero inside = inside
nested (suc n) inside = Element (codes "a") [] (nested n inside) ∷ []

-- the place of the innermost of so many
abbrev deepest : ℕ → List PlaceStep
deepest zero = []
deepest (suc n) = steps.Kid 0 ∷ deepest n

-- 512 elements stand in one another, and no more
as_deep_as_may_be : rebuild (doc (nested 511 [])) (fin_map.from_entries ((deepest 511, edit.Into [] (Element (codes "a") [] [] ∷ [])) ∷ []))
    ≡ Ok (doc (nested 512 []))
unfolding seen
as_deep_as_may_be = rebuilds (doc (nested 511 [])) ((deepest 511, edit.Into [] (Element (codes "a") [] [] ∷ [])) ∷ []) ∙ refl

too_deep : rebuild (doc (nested 512 [])) (fin_map.from_entries ((deepest 512, edit.Into [] (Element (codes "a") [] [] ∷ [])) ∷ [])) ≡ Err TooDeep
unfolding seen
too_deep = rebuilds (doc (nested 512 [])) ((deepest 512, edit.Into [] (Element (codes "a") [] [] ∷ [])) ∷ []) ∙ refl

-- where an element gives way to its children, the others are not deeper
undeep_first : rebuild (doc (nested 512 [])) (fin_map.from_entries ((steps.Kid 0 ∷ [], edit.Undeep) ∷ (
  deepest 512,
  edit.Into [] (Element (codes "a")
      [] [] ∷ []),
) ∷ [])) ≡ Ok (doc (nested 512 []))
unfolding seen
undeep_first = rebuilds (doc (nested 512 [])) ((steps.Kid 0 ∷ [], edit.Undeep) ∷ (deepest 512, edit.Into [] (Element (codes "a") [] [] ∷ [])) ∷ []) ∙ refl
