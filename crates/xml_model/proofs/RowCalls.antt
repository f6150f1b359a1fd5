-- What the calls on the rows of a tree answer, by their entries.
use Rattle.std.proofs.Common.{◌≡◌, ℕ, ◌+◌, ◌-◌, ◌<◌, ◌≤◌, inl, inr, List, [], ◌∷◌, ◌++◌, map, length, Some, None, sym, ap, ◌∙◌, arith}
use Rattle.std.specs.List.{slice_get}
use Rattle.std.specs.Option.{option_map, option_and, option_and_then}
use Rattle.std.proofs.lemmas.List.{length-map}
use Rattle.std.proofs.lemmas.Option.{slice_get_within, slice_get_cases, slice_get-map, none-some, same_Some}
use Rattle.xml_model.specs.declared.tree_rows.Entry.{Entry}
use Rattle.xml_model.specs.Nav.{told_at, told_of, of_document, first_place, next_place, parent_place, behind_ending, ending, first_step, standing}
use Rattle.xml_model.specs.Numbering.{Row, tree_rows, place_of_number}
use Rattle.xml_model.specs.Place.{Placed}
use Rattle.xml_model.specs.TreeRows.{row_of, placed_by}
use Rattle.xml_model.proofs.Numbered.{number, back, number_within, offset, size_positive}
use Rattle.xml_model.proofs.PlaceOrder.{offset_positive}
use Rattle.xml_model.proofs.Placing.{size, row}
use Rattle.xml_model.proofs.TreeNumbers.{At, at, nothing_past, length_tree_rows, Above, above, first_is, next_is, parent_is, root_at_zero}

module _ (root : Placed) (rows : List Entry) (s : map row_of rows ≡ tree_rows root) where
  -- a row is that of its number
  row_there : (n : ℕ) (e : Entry) → slice_get rows n ≡ Some e → slice_get (tree_rows root) n ≡ Some (row_of e)
  row_there n e h = ap (λ rows. slice_get rows n) (sym s) ∙ (slice_get-map row_of rows n ∙ ap (option_map row_of) h)

  -- and each number has one
  row_back : (n : ℕ) (r : Row) → slice_get (tree_rows root) n ≡ Some r → option_map row_of (slice_get rows n) ≡ Some r
  row_back n r h = sym (slice_get-map row_of rows n) ∙ (ap (λ rows. slice_get rows n) s ∙ h)

  -- ---- where no entry is, nothing stands

  past : (n : ℕ) → slice_get rows n ≡ None → size root ≤ n
  past n h =
      elim (slice_get_cases (tree_rows root) n).1 [
        | inl w ↦ absurd (none-some w.0 (sym (ap (option_map row_of) h) ∙ row_back n w.0 w.2))
        | inr w ↦ omega (arith, w.0, length_tree_rows root)
      ]

  nowhere : (n : ℕ) → slice_get rows n ≡ None → standing root (place_of_number root n) ≡ None
  nowhere n h = nothing_past root n (past n h)

  pub first_absent : (n : ℕ) → slice_get rows n ≡ None → None ≡ first_place root (place_of_number root n)
  first_absent n h = sym (ap (option_and_then (λ from. option_map (λ s. place_of_number root n ++ s ∷ []) (first_step from))) (nowhere n h))

  pub next_absent : (n : ℕ) → slice_get rows n ≡ None → None ≡ next_place root (place_of_number root n)
  next_absent n h = sym (ap (λ o. option_and o (option_and_then (behind_ending root) (ending (place_of_number root n)))) (nowhere n h))

  pub parent_absent : (n : ℕ) → slice_get rows n ≡ None → None ≡ parent_place root (place_of_number root n)
  parent_absent n h = sym (ap (λ o. option_and o (option_map (λ e. e.above) (ending (place_of_number root n)))) (nowhere n h))

  pub told_absent : (n : ℕ) → slice_get rows n ≡ None → of_document ≡ told_at (standing root (place_of_number root n))
  told_absent n h = sym (ap told_at (nowhere n h))

  -- ---- where an entry is

  -- the node of the number, and its row
  record There (n : ℕ) (e : Entry) : Type 0 where
    pub node : At root n
    pub row_is : row_of e ≡ row node.it (back 0 node.place (Some root))

  there : (n : ℕ) (e : Entry) → slice_get rows n ≡ Some e → There n e
  there n e h =
      let r = row_there n e h in
      let a = at root n (omega (arith, slice_get_within (tree_rows root) n (row_of e) r, length_tree_rows root)) in
      record { node = a; row_is = same_Some (row_of e) _ (sym r ∙ a.row_is) }

  pub told_there : (n : ℕ) (e : Entry) → slice_get rows n ≡ Some e → told_of (placed_by e.it) ≡ told_at (standing root (place_of_number root n))
  told_there n e h =
      let t = there n e h in
      ap (λ r. r.told) t.row_is ∙ sym (ap told_at (ap (standing root) t.node.is ∙ t.node.stands))

  pub within : (n : ℕ) (e : Entry) → slice_get rows n ≡ Some e → n + e.size ≤ length rows
  within n e h =
      let t = there n e h in
      omega (arith, number_within t.node.place root t.node.it t.node.stands, t.node.numbered, ap (λ r. r.size) t.row_is, length_tree_rows root, length_same)
    where
      length_same : length rows ≡ length (tree_rows root)
      length_same = sym (length-map rows row_of) ∙ ap length s

  pub size_of_entry : (n : ℕ) (e : Entry) → slice_get rows n ≡ Some e → 1 ≤ e.size
  size_of_entry n e h =
      let t = there n e h in
      omega (arith, ap (λ r. r.size) t.row_is, size_positive t.node.it)

  -- ---- first

  pub first_there : (n : ℕ) (e : Entry) → slice_get rows n ≡ Some e → 1 < e.size → Some (place_of_number root (n + 1)) ≡ first_place root (place_of_number root n)
  first_there n e h more =
      let t = there n e h in
      sym (ap (first_place root) t.node.is ∙ (first_is root n t.node).0 (omega (arith, ap (λ r. r.size) t.row_is, more)))

  pub first_none : (n : ℕ) (e : Entry) → slice_get rows n ≡ Some e → e.size ≤ 1 → None ≡ first_place root (place_of_number root n)
  first_none n e h few =
      let t = there n e h in
      sym (ap (first_place root) t.node.is ∙ (first_is root n t.node).1 (omega (arith, ap (λ r. r.size) t.row_is, few)))

  -- ---- what is above, and behind

  -- the node above, and its entry
  record Held (n : ℕ) (e : Entry) : Type 0 where
    pub there : There n e
    pub up : Above root n there.node.place there.node.it
    pub number_is : n - e.back ≡ number up.above (Some root)
    pub back_is : e.back ≡ offset up.from up.last
    pub row_is : option_map row_of (slice_get rows (n - e.back)) ≡ Some (row up.from (back 0 up.above (Some root)))

  held : (n : ℕ) (e : Entry) → slice_get rows n ≡ Some e → 0 < n → Held n e
  held n e h less =
      let t = there n e h in
      let u = above root n less t.node in
      let same : n - e.back ≡ number u.above (Some root) = omega (arith, ap (λ r. r.back) t.row_is, u.back_is, u.number_is) in
      record {
        there = t;
        up = u;
        number_is = same;
        back_is = ap (λ r. r.back) t.row_is ∙ u.back_is;
        row_is = ap (λ n. option_map row_of (slice_get rows n)) same ∙ row_back (number u.above (Some root)) _ u.row_is;
      }

  pub back_of_entry : (n : ℕ) (e : Entry) → slice_get rows n ≡ Some e → 0 < n → (0 < e.back) × (e.back ≤ n)
  back_of_entry n e h less =
      let k = held n e h less in (
        omega (arith, k.back_is, offset_positive k.up.from k.up.last),
        omega (arith, k.back_is, k.up.number_is),
      )

  pub holder_there : (n : ℕ) (e : Entry) → slice_get rows n ≡ Some e → 0 < n → slice_get rows (n - e.back) ≡ None → ⊥
  holder_there n e h less none = let k = held n e h less in none-some _ (sym (ap (option_map row_of) none) ∙ k.row_is)

  size_above : (n : ℕ) (e g : Entry) (k : Held n e) → slice_get rows (n - e.back) ≡ Some g → g.size ≡ size k.up.from
  size_above n e g k q = ap (λ r. r.size) (same_Some (row_of g) _ (sym (ap (option_map row_of) q) ∙ k.row_is))

  pub next_there : (n : ℕ) (e g : Entry) → slice_get rows n ≡ Some e → 0 < n → slice_get rows (n - e.back) ≡ Some g → n + e.size < n - e.back + g.size
      → Some (place_of_number root (n + e.size)) ≡ next_place root (place_of_number root n)
  next_there n e g h less q more =
      let k = held n e h less in
      let sized : e.size ≡ size k.there.node.it = ap (λ r. r.size) k.there.row_is in
      let goes = (next_is root n k.there.node k.up).0 (omega (arith, sized, size_above n e g k q, k.number_is, more)) in
      sym (ap (next_place root) k.there.node.is ∙ (goes ∙ ap (λ m. Some (place_of_number root (n + m))) (sym sized)))

  pub next_none : (n : ℕ) (e g : Entry) → slice_get rows n ≡ Some e → 0 < n → slice_get rows (n - e.back) ≡ Some g → n - e.back + g.size ≤ n + e.size
      → None ≡ next_place root (place_of_number root n)
  next_none n e g h less q few =
      let k = held n e h less in
      let sized : e.size ≡ size k.there.node.it = ap (λ r. r.size) k.there.row_is in
      sym (ap (next_place root) k.there.node.is ∙ (next_is root n k.there.node k.up).1 (omega (arith, sized, size_above n e g k q, k.number_is, few)))

  pub parent_there : (n : ℕ) (e : Entry) → slice_get rows n ≡ Some e → 0 < n → Some (place_of_number root (n - e.back)) ≡ parent_place root (place_of_number root n)
  parent_there n e h less =
      let k = held n e h less in
      let stands : e.back ≡ back 0 k.there.node.place (Some root) = ap (λ r. r.back) k.there.row_is in
      sym (ap (parent_place root) k.there.node.is ∙ (parent_is root n k.there.node k.up ∙ ap (λ m. Some (place_of_number root (n - m))) (sym stands)))

  -- a root is in no chain, and has no parent
  at_zero : (n : ℕ) (e : Entry) → slice_get rows n ≡ Some e → n ≡ 0 → place_of_number root n ≡ []
  at_zero n e h zero =
      let t = there n e h in
      t.node.is ∙ root_at_zero root t.node.place t.node.it t.node.stands (t.node.numbered ∙ zero)

  pub next_of_root : (n : ℕ) (e : Entry) → slice_get rows n ≡ Some e → n ≡ 0 → None ≡ next_place root (place_of_number root n)
  next_of_root n e h zero = sym (ap (next_place root) (at_zero n e h zero))

  pub parent_of_root : (n : ℕ) (e : Entry) → slice_get rows n ≡ Some e → n ≡ 0 → None ≡ parent_place root (place_of_number root n)
  parent_of_root n e h zero = sym (ap (parent_place root) (at_zero n e h zero))
