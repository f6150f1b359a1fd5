-- What a written entry leaves of a leaf: its length, its kind and the other entries.
use Rattle.std.proofs.Common.{◌≡◌, ◌≢◌, ℕ, ◌+◌, Bool, true, false, nat_lt, ◌<◌, ◌^◌, ◌⊎◌, ⊎_elim, inl, inr, List, length, slice_index, refl, ◌∙◌, arith}
use Rattle.std.proofs.lemmas.Bool.{ltb-true, ltb-false}
use Rattle.indirection.specs.Forms.{entry_at, entry_page, entry_place, with_entry}
use Rattle.page_bytes.specs.Fields.{with_field}
use Rattle.page_bytes.proofs.FieldLaws.{field-written}
use Rattle.page_bytes.proofs.WrittenFields.{length-with_field, field_apart, kind_kept}

-- two entries lie apart
pub order : (j i : ℕ) → j ≢ i → (j < i) ⊎ (i < j)
order j i differ = at (nat_lt j i) refl
  where
    at : (b : Bool) → nat_lt j i ≡ b → (j < i) ⊎ (i < j)
    at true is = inl (ltb-true j i is)
    at false is = let past = ltb-false j i is in inr (omega (arith, past, differ))

-- an entry that is written has what was written, and the others what they had
module _ (i page place : ℕ) (leaf : List ℕ) (fits : i < 340) (long : length leaf ≡ 4096) where
  long_half : length (with_field 8 leaf (entry_at i) page) ≡ 4096
  long_half = length-with_field 8 leaf (entry_at i) page (omega (arith, fits, long)) ∙ long

  -- the leaf still has 4,096 bytes
  pub length-with_entry : length (with_entry i page place leaf) ≡ 4096
  length-with_entry = let h = long_half in length-with_field 4 (with_field 8 leaf (entry_at i) page) (entry_at i + 8) place (omega (arith, fits, h)) ∙ h

  -- the leaf still has its kind
  pub kind-with_entry : slice_index (with_entry i page place leaf) 0 ≡ slice_index leaf 0
  kind-with_entry =
      let h = long_half in
      kind_kept 4 (with_field 8 leaf (entry_at i) page) (entry_at i + 8) place (omega arith) (omega (arith, fits, h))
      ∙ kind_kept 8 leaf (entry_at i) page (omega arith) (omega (arith, fits, long))

  -- the entry has the page that was written, if that has eight bytes
  pub entry_page-written : page < 256 ^ 8 → entry_page i (with_entry i page place leaf) ≡ page
  entry_page-written small =
      let h = long_half in
      field_apart 8 (entry_at i) 4 (with_field 8 leaf (entry_at i) page) (entry_at i + 8) place (inl (omega arith)) (omega (arith, fits, h))
      ∙ field-written 8 (entry_at i) page leaf small (omega (arith, fits, long))

  -- the entry has the place that was written, if that has four bytes
  pub entry_place-written : place < 256 ^ 4 → entry_place i (with_entry i page place leaf) ≡ place
  entry_place-written small = let h = long_half in field-written 4 (entry_at i + 8) place (with_field 8 leaf (entry_at i) page) small (omega (arith, fits, h))

  -- every other entry has the page that it had
  pub entry_page-apart : (j : ℕ) → j < 340 → j ≢ i → entry_page j (with_entry i page place leaf) ≡ entry_page j leaf
  entry_page-apart j below differ =
      let h = long_half in
      field_apart 8 (entry_at j) 4 (with_field 8 leaf (entry_at i) page) (entry_at i + 8) place
      (⊎_elim (λ less. inl (omega (arith, less))) (λ past. inr (omega (arith, past))) (order j i differ)) (omega (arith, fits, h))
      ∙ field_apart 8 (entry_at j) 8 leaf (entry_at i) page (⊎_elim (λ less. inl (omega (arith, less))) (λ past. inr (omega (arith, past))) (order j i differ))
      (omega (arith, fits, long))

  -- every other entry has the place that it had
  pub entry_place-apart : (j : ℕ) → j < 340 → j ≢ i → entry_place j (with_entry i page place leaf) ≡ entry_place j leaf
  entry_place-apart j below differ =
      let h = long_half in
      field_apart 4 (entry_at j + 8) 4 (with_field 8 leaf (entry_at i) page) (entry_at i + 8) place
      (⊎_elim (λ less. inl (omega (arith, less))) (λ past. inr (omega (arith, past))) (order j i differ)) (omega (arith, fits, h))
      ∙ field_apart 4 (entry_at j + 8) 8 leaf (entry_at i) page
      (⊎_elim (λ less. inl (omega (arith, less))) (λ past. inr (omega (arith, past))) (order j i differ)) (omega (arith, fits, long))
