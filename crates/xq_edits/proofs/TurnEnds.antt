-- What is done to one target, by the kind of its node.
use Rattle.std.proofs.Common.{◌≡◌, ℕ, true, false, List, Result, Ok, Err, sym, ap, ◌∙◌}
use Rattle.std.specs.Prelude.{if◌then◌else◌}
use Rattle.std.specs.FinMap as forests
use Rattle.xq_ast.specs.declared.code.Code.{Code}
use Rattle.xq_ast.specs.declared.code.Code.TheVariants.{XPTY0004}
use Rattle.xq_ast.specs.declared.kind.Kind.{Kind}
use Rattle.xml_model.specs.declared.edit.EditKind.{EditKind}
use Rattle.xml_model.specs.declared.edit.EditKind.TheVariants as edit
use Rattle.xml_model.specs.Edits as spec
use Rattle.xml_model.specs.Forest.{Forest}
use Rattle.xml_model.specs.Items.{◌>>?◌}
use Rattle.xml_model.specs.Nav.{Stored, stored_at, told_at}
use Rattle.xq_nodes.specs.Walks.{is_of_attributes}
use Rattle.xq_edits.specs.Kinds.{is_of_documents, is_of_names}
use Rattle.xq_edits.proofs.ByKind.{other_there, in_place_of_document, in_place_of_node, renamed_is, put_nodes}
use Rattle.xq_edits.proofs.Elements.{no_element}
use Rattle.xq_edits.proofs.NameTests.{unnamed, no_more}

module _ (F : Forest) (done : List spec.Change) (n : Stored) (more : List Stored) (k : Kind) (is : k ≡ (told_at (stored_at F n)).kind) where
  abbrev once : EditKind → Result EditKind Code
  once what = spec.named_once (forests.get F) done more (record { node = n; what = what })

  abbrev pub replaced_by : spec.Content → Result EditKind Code
  replaced_by c =
      spec.in_place_of c (spec.standing_at (forests.get F) n) >>? (λ what. spec.named_once (forests.get F) done more (record { node = n; what = what }))

  abbrev pub renamed_to : List ℕ → Result EditKind Code
  renamed_to name =
      spec.renamed name (spec.standing_at (forests.get F) n) >>? (λ what. spec.named_once (forests.get F) done more (record { node = n; what = what }))

  -- of what is no attribute and no document, no name is tested
  not_named : is_of_documents k ≡ false → is_of_attributes k ≡ false → (what : EditKind) → once what ≡ Ok what
  not_named d a what =
      unnamed (forests.get F) done more n what
      (no_element F n (other_there F n (ap is_of_documents (sym is) ∙ d)) (ap is_of_attributes (sym is) ∙ a))

  -- a document is not replaced
  pub document_replaced : (c : spec.Content) → is_of_documents k ≡ true → replaced_by c ≡ Err XPTY0004
  document_replaced c d = ap (λ r. r >>? once) (in_place_of_document F n c (ap is_of_documents (sym is) ∙ d))

  -- any other node by nodes
  pub node_replaced : (c : spec.Content) → is_of_documents k ≡ false → is_of_attributes k ≡ false → replaced_by c ≡ put_nodes c
  node_replaced c d a =
      no_more (spec.in_place_of c (spec.standing_at (forests.get F) n)) once (not_named d a)
      ∙ in_place_of_node F n c (ap is_of_documents (sym is) ∙ d) (ap is_of_attributes (sym is) ∙ a)

  -- what has no name gets none
  pub name_refused : (name : List ℕ) → is_of_names k ≡ false → renamed_to name ≡ Err XPTY0004
  name_refused name e =
      ap (λ r. r >>? once) (renamed_is F n name ∙ ap (λ b. if b then Ok (edit.Rename name) else Err XPTY0004) (ap is_of_names (sym is) ∙ e))

  -- an attribute gets its name where no other one of its element has it
  pub name_tested : (name : List ℕ) → is_of_names k ≡ true → renamed_to name ≡ once (edit.Rename name)
  name_tested name e =
      ap (λ r. r >>? once) (renamed_is F n name ∙ ap (λ b. if b then Ok (edit.Rename name) else Err XPTY0004) (ap is_of_names (sym is) ∙ e))

  -- an element and an instruction get theirs
  pub name_given : (name : List ℕ) → is_of_names k ≡ true → is_of_documents k ≡ false → is_of_attributes k ≡ false → renamed_to name ≡ Ok (edit.Rename name)
  name_given name e d a = name_tested name e ∙ not_named d a (edit.Rename name)
