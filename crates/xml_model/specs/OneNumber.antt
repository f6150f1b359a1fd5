-- The nodes of one document have one number of a document, since names rise.
use Rattle.std.specs.Prelude.{T}
use Rattle.std.proofs.Common.{◌≡◌, ℕ, zero, suc, Bool, true, false, ◌&&◌, IsTrue, IfSome, List, [], ◌∷◌, map, Option, Some, None, refl, sym, ap, subst, ◌∙◌}
use Rattle.std.specs.Prelude.{unwrap_or}
use Rattle.std.specs.Cmp.{tied_itself}
use Rattle.std.specs.Cmp.Lexicographic.{slice_cmp, nat_list_cmp_total}
use Rattle.std.specs.FinMap as fin_map
use Rattle.std.specs.FinMap.{is_sorted}
use Rattle.std.specs.FinMap.Entries.{below_all}
use Rattle.std.specs.List.{slice_get}
use Rattle.std.specs.Ordering.{nat_cmp, is_lt}
use Rattle.std.specs.declared.cmp.Ordering.TheVariants.{Less, Equal, Greater}
use Rattle.std.proofs.lemmas.Bool.{false≢true}
use Rattle.std.proofs.lemmas.Option.{none-some, same_Some}
use Rattle.xml_model.specs.declared.nav.Id.{Id}
use Rattle.xq_ast.specs.Names.{is_document_name}
use Rattle.xml_model.specs.declared.node.Doc.{Doc}
use Rattle.xml_model.specs.Document.{IsValid}
use Rattle.xml_model.specs.Forest.{Forest, IsForest}
use Rattle.xml_model.specs.TreeNodes.{name_at, node_of_id}

front : (a b : Bool) → T (a && b) → T a
front true b h = tt
front false b h = absurd h

rest : (a b : Bool) → T (a && b) → T b
rest true b h = h
rest false b h = absurd h

abbrev names : List (List ℕ × Doc) → List (List ℕ)
names es = map (λ e. e.0) es

-- what is below all entries is the name of none
not_below : (x : List ℕ) (es : List (List ℕ × Doc)) (k : ℕ) → T (below_all (slice_cmp nat_cmp) x es) → slice_get (names es) k ≡ Some x → ⊥
not_below x [] k h e = none-some x e
not_below x (d ∷ es) zero h e =
    let tied : slice_cmp nat_cmp x d.0 ≡ Equal = ap (slice_cmp nat_cmp x) (same_Some d.0 x e) ∙ tied_itself nat_list_cmp_total x in
    subst (λ r. T (is_lt r)) tied (front (is_lt (slice_cmp nat_cmp x d.0)) _ h)
not_below x (d ∷ es) (suc k) h e = not_below x es k (rest (is_lt (slice_cmp nat_cmp x d.0)) _ h) e

-- a name stands at one place of a list of names that rise
one_place : (x : List ℕ) (es : List (List ℕ × Doc)) (i j : ℕ) → T (is_sorted (slice_cmp nat_cmp) es) → slice_get (names es) i ≡ Some x → slice_get (names es) j ≡ Some x → i ≡ j
one_place x [] i j h p q = absurd (none-some x p)
one_place x (d ∷ es) zero zero h p q = refl
one_place x (d ∷ es) zero (suc j) h p q =
    absurd (not_below x es j (subst (λ n. T (below_all (slice_cmp nat_cmp) n es)) (same_Some d.0 x p) (front (below_all (slice_cmp nat_cmp) d.0 es) _ h)) q)
one_place x (d ∷ es) (suc i) zero h p q =
    absurd (not_below x es i (subst (λ n. T (below_all (slice_cmp nat_cmp) n es)) (same_Some d.0 x q) (front (below_all (slice_cmp nat_cmp) d.0 es) _ h)) p)
one_place x (d ∷ es) (suc i) (suc j) h p q = ap suc (one_place x es i j (rest (below_all (slice_cmp nat_cmp) d.0 es) _ h) p q)

-- no document has the empty name
nameless : (F : Forest) → IsForest F → fin_map.get F [] ≡ None
nameless F valid = go (fin_map.get F []) (valid [])
  where
    go : (o : Option Doc) → IfSome o (λ doc. IsTrue (is_document_name []) × IsValid doc) → o ≡ None
    go None h = refl
    go (Some doc) h = absurd (false≢true h.0)

-- two numbers of one name, of which there is a document
by_places : (F : Forest) → IsForest F → (m n : ℕ) (a b : Option (List ℕ)) (doc : Doc) → slice_get (fin_map.keys F) m ≡ a → slice_get (fin_map.keys F) n ≡ b
    → unwrap_or a [] ≡ unwrap_or b [] → fin_map.get F (unwrap_or a []) ≡ Some doc → m ≡ n
by_places F valid m n None b doc p q same there = absurd (none-some doc (sym (nameless F valid) ∙ there))
by_places F valid m n (Some x) None doc p q same there = absurd (none-some doc (sym (nameless F valid) ∙ (ap (fin_map.get F) (sym same) ∙ there)))
by_places F valid m n (Some x) (Some y) doc p q same there =
    one_place x (fin_map.entries F) m n (fin_map.entries_sorted F) p (q ∙ ap (λ z. Some z) (sym same))

-- nodes of one document, of which there is one, have one number
pub same_number : (F : Forest) (a b : Id) → IsForest F → (node_of_id F a).name ≡ (node_of_id F b).name → IfSome (fin_map.get F (node_of_id F a).name) (λ doc. a.doc ≡ b.doc)
same_number F a b valid same = go (fin_map.get F (name_at F a.doc)) refl
  where
    go : (o : Option Doc) → fin_map.get F (name_at F a.doc) ≡ o → IfSome o (λ doc. a.doc ≡ b.doc)
    go None e = tt
    go (Some doc) e = by_places F valid a.doc b.doc (slice_get (fin_map.keys F) a.doc) (slice_get (fin_map.keys F) b.doc) doc refl refl same e
