-- The turns of trees, as a table under their names tells them.
use Rattle.std.proofs.Common.{◌≡◌, ◌≢◌, ℕ, zero, suc, ◌+◌, ◌<◌, Bool, true, false, true≢false, cond, IsTrue, IfSome, List, [], ◌∷◌, length, get_or, string_bytes, Option, Some, None, is_some, refl, sym, ap, subst, ◌∙◌, arith}
use Rattle.std.specs.Option.{option_map}
use Rattle.std.specs.Str.{bytes_eq}
use Rattle.std.specs.String.{string_eq}
use Rattle.std.specs.declared.string.String.{String}
use Rattle.std.proofs.lemmas.Map.Text.{hash_map_updates_text}
use Rattle.std.proofs.lemmas.Slice.Eq.{bytes_eq-Decides}
use Rattle.indexmap.specs.IndexMap.{IndexMap, Updates}
use Rattle.xml_model.specs.declared.nav.Id.{Id}
use Rattle.xml_model.specs.declared.tree_nav.Tree.{Tree}
use Rattle.xml_model.specs.Forest.{Forest}
use Rattle.xml_model.specs.Nav.{root_of}
use Rattle.xml_model.specs.TreeNodes.{node_of_id, tree_name, turn_at, TellsTurns, StandFor}
use Rattle.xml_model.proofs.TreeCalls.{root_found, root_missing}

right_by : (trees : List Tree) (count : ℕ) (name : List ℕ) (b : Bool) (old : Option ℕ) → bytes_eq (tree_name trees count) name ≡ b
    → IfSome old (λ turn. (turn < count) × (tree_name trees turn ≡ name)) → IfSome (cond b (Some count) old) (λ turn. (turn < count + 1) × (tree_name trees turn ≡ name))
right_by trees count name true old same h = (omega arith, (bytes_eq-Decides (tree_name trees count) name).0 same)
right_by trees count name false None same h = tt
right_by trees count name false (Some turn) same h = (omega (arith, h.0), h.1)

each_by : (trees : List Tree) (count turn : ℕ) (b : Bool) (old : Option ℕ) → bytes_eq (tree_name trees count) (tree_name trees turn) ≡ b → turn < count + 1
    → (turn < count → IsTrue (is_some old)) → IsTrue (is_some (cond b (Some count) old))
each_by trees count turn true old same less h = refl
each_by trees count turn false old same less h =
    let other : turn ≢ count = λ e. absurd (true≢false (sym ((bytes_eq-Decides (tree_name trees count) (tree_name trees turn)).1 (ap (tree_name trees) (sym e))) ∙ same)) in
    h (omega (arith, other))

-- the name of a tree that is there
pub turn_named : (trees : List Tree) (turn : ℕ) (tree : Tree) → turn < length trees → tree ≡ get_or trees turn tree → tree.name ≡ tree_name trees turn
turn_named [] turn tree less is = absurd (omega arith)
turn_named (t ∷ trees) zero tree less is = ap (λ t. t.name) is
turn_named (t ∷ trees) (suc turn) tree less is = turn_named trees turn tree (omega arith) is

module _ {A : Type 0} (trees : List Tree) where
  -- an empty table tells the turns of no trees
  pub none_told : (turns : List (String A × ℕ)) → turns ≡ [] → TellsTurns trees 0 turns
  none_told turns e = subst (TellsTurns trees 0) (sym e) (record { right = λ name. tt; each = λ turn h. absurd (omega arith) })

  -- a table that has one turn more at its tree's name tells it too
  pub one_told : {S : Type 0} (old new : IndexMap (String A) ℕ S) (count : ℕ) (key : String A) → string_bytes key ≡ tree_name trees count
      → Updates string_eq old new key (Some count) → TellsTurns trees count old.entries → TellsTurns trees (count + 1) new.entries
  one_told old new count key is u told = record {
    right = λ name. subst (λ o. IfSome o (λ turn. (turn < count + 1) × (tree_name trees turn ≡ name))) (sym (at name))
        (right_by trees count name (bytes_eq (tree_name trees count) name) (turn_at old.entries name) refl (told.right name));
    each = λ turn less. subst (λ o. IsTrue (is_some o)) (sym (at (tree_name trees turn)))
        (each_by trees count turn (bytes_eq (tree_name trees count) (tree_name trees turn)) (turn_at old.entries (tree_name trees turn)) refl less (told.each turn));
  }
    where
      at : (name : List ℕ) → turn_at new.entries name ≡ cond (bytes_eq (tree_name trees count) name) (Some count) (turn_at old.entries name)
      at name = hash_map_updates_text (string_bytes key) old new (Some count) u name ∙ ap (λ k. cond (bytes_eq k name) (Some count) (turn_at old.entries name)) is

  -- the root of the document of a name, by its turn
  pub root_told : (F : Forest) (turns : List (String A × ℕ)) (name : List ℕ) → StandFor F trees → TellsTurns trees (length trees) turns
      → option_map (node_of_id F) (option_map (λ turn. record { doc = turn; node = 0 }) (turn_at turns name)) ≡ root_of F name
  root_told F turns name s told = go (turn_at turns name) refl (told.right name)
    where
      id_of : ℕ → Id
      id_of turn = record { doc = turn; node = 0 }

      none : turn_at turns name ≡ None → (k : ℕ) → k < length trees → tree_name trees k ≡ name → ⊥
      none missing k less e = absurd (true≢false (sym (told.each k less) ∙ ap is_some (ap (turn_at turns) e ∙ missing)))

      go : (o : Option ℕ) → turn_at turns name ≡ o → IfSome o (λ turn. (turn < length trees) × (tree_name trees turn ≡ name))
          → option_map (node_of_id F) (option_map id_of o) ≡ root_of F name
      go None e h = root_missing F trees s name (none e)
      go (Some turn) e h = root_found F trees s (id_of turn) name refl h.1 h.0
