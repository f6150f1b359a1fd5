-- A page's place is what its space alone says, where all of the space is there.
use Rattle.std.proofs.Common.{◌≡◌, ℕ, Bool, true, false, ltb, List, length, drop, Option, Result, Ok, Err, refl, sym, ap, ◌∙◌}
use Rattle.std.specs.Prelude.{nat_le, ◌&&◌, ◌||◌}
use Rattle.std.proofs.lemmas.Bool.{le-ltb, leb-true}
use Rattle.page_bytes.specs.declared.ids.PageId.{PageId}
use Rattle.page_bytes.specs.declared.lists.PageChange.{PageChange}
use Rattle.page_bytes.specs.Known.{Spaces}
use Rattle.redo_log.specs.Store.{has_space, has_commit}
use Rattle.redo_log.specs.Reading.{◌>>=◌, check, is_next_commit, is_next_space, number_in, number_at, id_at, id_by_space}
use Rattle.redo_log.proofs.Takes.{id_1, id_4, id_5}
use Rattle.redo_log.proofs.SpaceKeys.{has_commit_of_space}

not_true : (b : Bool) → (b ≡ true → ⊥) → b ≡ false
not_true true never = absurd (never refl)
not_true false never = refl

and_false : (a b : Bool) → b ≡ false → (a && b) ≡ false
and_false true b e = e
and_false false b e = refl

module _ (last : Option PageChange) (spaces : Spaces) (bytes : List ℕ) where
  -- with the space there, a commit that is no document's is as wrong as the space
  no_document : (c : ℕ × List ℕ) → nat_le 8 (length c.1) ≡ true → has_commit spaces c.0 ≡ false → id_4 last spaces bytes c ≡ Err (length bytes)
  unfolding number_in
  no_document c long none =
      let enough : ltb (length c.1) 8 ≡ false = le-ltb _ _ (leb-true _ _ long) in
      let o : ℕ × List ℕ = (number_in c.1, drop 8 c.1) in
      let absent : has_space spaces (record { commit = c.0; ordinal = o.0 }) ≡ false =
      not_true _ (λ there. cc (sym none ∙ has_commit_of_space spaces (record { commit = c.0; ordinal = o.0 }) there)) in
      rw enough (ap (λ (b : Bool). check b (length bytes) >>= λ own. number_at o.1 >>= id_1 last spaces bytes c o)
      (and_false (is_next_space last (record { commit = c.0; ordinal = o.0 })) _ absent))

  by_commit : (c : ℕ × List ℕ)
      → (check (is_next_commit last c.0 && (nat_le 8 (length c.1) || has_commit spaces c.0)) (length bytes) >>= λ came. id_4 last spaces bytes c)
      ≡ (check (is_next_commit last c.0 && has_commit spaces c.0) (length bytes) >>= λ came. id_4 last spaces bytes c)
  by_commit c = by_tests (is_next_commit last c.0) (nat_le 8 (length c.1)) (has_commit spaces c.0) (no_document c)
    where
      by_tests : (a b h : Bool) → (b ≡ true → h ≡ false → id_4 last spaces bytes c ≡ Err (length bytes))
          → (check (a && (b || h)) (length bytes) >>= λ came. id_4 last spaces bytes c) ≡ (check (a && h) (length bytes) >>= λ came. id_4 last spaces bytes c)
      by_tests false b h none = refl
      by_tests true false h none = refl
      by_tests true true true none = refl
      by_tests true true false none = none refl refl

  abbrev quick : ℕ × List ℕ → Result (PageId × List ℕ) ℕ
  quick c = check (is_next_commit last c.0 && (nat_le 8 (length c.1) || has_commit spaces c.0)) (length bytes) >>= λ came. id_4 last spaces bytes c

  through : (r : Result (ℕ × List ℕ) ℕ) → (r >>= quick) ≡ (r >>= id_5 last spaces bytes)
  through (Ok c) = by_commit c
  through (Err n) = refl

  -- reading a page's place by its space alone gives what reading it field by field gives
  pub by_space_is : id_by_space last spaces bytes ≡ id_at last spaces bytes
  unfolding id_at id_by_space
  by_space_is = through (number_at bytes)
