-- What a tree with texts as keys says of the finite map by bytes that it stands for.
use Rattle.std.proofs.Common.{◌≡◌, ℕ, Bool, List, [], ◌∷◌, Option, Some, None, refl, sym, ap, ◌∙◌, cond}
use Rattle.std.specs.Ordering.{nat_cmp, eq_by_cmp}
use Rattle.std.specs.Cmp.{eq_by_cmp_equiv}
use Rattle.std.specs.Cmp.Lexicographic.{slice_cmp, nat_list_cmp_total}
use Rattle.std.specs.FinMap as finite
use Rattle.std.specs.FinMap.{find}
use Rattle.std.specs.Map.{lookup}
use Rattle.std.specs.BTreeMap as tree
use Rattle.std.specs.BTreeMap.{BTreeMap, is_at, UpdatesBy}
use Rattle.std.specs.Prelude.{String, string_bytes}
use Rattle.std.specs.String.{string_cmp}
use Rattle.std.proofs.lemmas.Map.Text.{is_eq-slice_cmp, btree_map_updates_text}
use Rattle.page_bytes.specs.declared.ids.DocEntry.{DocEntry}
use Rattle.redo_log.specs.Names.{Names, by_bytes}

module _ {A : Type 0} where
  find-by_bytes : (es : List (String A × DocEntry)) (q : List ℕ)
      → find (slice_cmp nat_cmp) q (by_bytes es) ≡ lookup (is_at (λ k. slice_cmp nat_cmp q (string_bytes k))) es
  find-by_bytes [] q = refl
  find-by_bytes (e ∷ es) q = ap (cond (eq_by_cmp (slice_cmp nat_cmp) q (string_bytes e.0)) (Some e.1)) (find-by_bytes es q)

  -- the map by the bytes of its keys that a tree of texts stands for
  abbrev pub names_of : BTreeMap (String A) DocEntry → Names
  names_of m = finite.from_entries (by_bytes m.entries)

  -- it has at each key what the tree has
  pub get-names_of : (m : BTreeMap (String A) DocEntry) (q : List ℕ) → finite.get (names_of m) q ≡ tree.get_by_text m q
  get-names_of m q = finite.get-from_entries nat_list_cmp_total (by_bytes m.entries) q ∙ find-by_bytes m.entries q

  after_update : (m n : BTreeMap (String A) DocEntry) (bs : List ℕ) (w : Option DocEntry)
      → UpdatesBy string_cmp (λ k. slice_cmp nat_cmp bs (string_bytes k)) m n w → (q : List ℕ)
      → finite.get (names_of n) q ≡ cond (eq_by_cmp (slice_cmp nat_cmp) q bs) w (finite.get (names_of m) q)
  after_update m n bs w u q =
      get-names_of n q ∙ (btree_map_updates_text bs m n w u q
      ∙ (ap (λ (b : Bool). cond b w (tree.get_by_text m q)) (sym (is_eq-slice_cmp bs q) ∙ (eq_by_cmp_equiv nat_list_cmp_total).symm bs q)
      ∙ ap (cond (eq_by_cmp (slice_cmp nat_cmp) q bs) w) (sym (get-names_of m q))))

  -- an insertion into the tree is one into the map, at the key's bytes
  pub names_of-insert : (m n : BTreeMap (String A) DocEntry) (bs : List ℕ) (e : DocEntry)
      → UpdatesBy string_cmp (λ k. slice_cmp nat_cmp bs (string_bytes k)) m n (Some e) → names_of n ≡ finite.insert (names_of m) bs e
  names_of-insert m n bs e u = finite.same_map nat_list_cmp_total (finite.slice_cmp-IsAntisymmetric finite.nat_cmp-IsAntisymmetric) _ _
      (λ q. after_update m n bs (Some e) u q ∙ sym (finite.get-insert nat_list_cmp_total (names_of m) bs e q))

  -- a removal from the tree is one from the map, at the key's bytes
  pub names_of-remove : (m n : BTreeMap (String A) DocEntry) (bs : List ℕ) → UpdatesBy string_cmp (λ k. slice_cmp nat_cmp bs (string_bytes k)) m n None
      → names_of n ≡ finite.remove (names_of m) bs
  names_of-remove m n bs u = finite.same_map nat_list_cmp_total (finite.slice_cmp-IsAntisymmetric finite.nat_cmp-IsAntisymmetric) _ _
      (λ q. after_update m n bs None u q ∙ sym (finite.get-remove nat_list_cmp_total (names_of m) bs q))
