-- Lines of answers have no newlines: the canonical lines of a valid document, and names of documents.
use Rattle.std.proofs.Common.{◌≡◌, ℕ, ◌==◌, nat_le, Bool, true, false, ◌||◌, ◌&&◌, length, true≢false, IsTrue, IfSome, List, [], ◌∷◌, ◌++◌, map as list_map, Option, None, Some, refl, sym, ap, subst, ◌∙◌, arith, append_assoc}
use Rattle.std.specs.Prelude.{if◌then◌else◌, is_some}
use Rattle.std.specs.List.{list_all, list_any}
use Rattle.std.specs.FinMap as map
use Rattle.std.specs.Ordering.{nat_cmp, eq_by_cmp}
use Rattle.std.specs.Cmp.{eq_by_cmp_equiv}
use Rattle.std.specs.Cmp.Lexicographic.{slice_cmp, nat_list_cmp_total}
use Rattle.std.proofs.lemmas.Bool.{and_parts, false_from_ne_true, eqb-true, leb-true}
use Rattle.xq_ast.specs.declared.limits.TheConstants.{DOCUMENT_NAME_BYTES_MAX}
use Rattle.xq_ast.specs.Names.{is_document_name}
use Rattle.xml_model.specs.declared.node.Doc.{Doc}
use Rattle.xml_model.specs.Document.{IsValid}
use Rattle.xml_model.specs.Forest.{Forest, IsForest}
use Rattle.xml_model.specs.Pyx.{Line, IsPlain, ArePlain, in_front, split_lines, pyx, text_of}
use Rattle.xml_model.proofs.TextAgain.{text_again}

-- ---- the lines of a document

plain_in_front : (b : ℕ) (lines : List Line) → (b == 10) ≡ false → ArePlain lines → ArePlain (in_front b lines)
plain_in_front b [] other plain = ((other, tt), tt)
plain_in_front b (line ∷ lines) other plain = ((other, plain.0), plain.1)

-- the lines of a text have no newlines
split_plain : (text : List ℕ) → ArePlain (split_lines text)
split_plain [] = tt
split_plain (b ∷ bs) = by_test (b == 10) refl (split_plain bs)
  where
    by_test : (t : Bool) → (b == 10) ≡ t → ArePlain (split_lines bs) → ArePlain (if t then [] ∷ split_lines bs else in_front b (split_lines bs))
    by_test true is plain = (tt, plain)
    by_test false is plain = plain_in_front b (split_lines bs) is plain

-- nor do the canonical lines of a valid document
pub plain_pyx : (doc : Doc) → IsValid doc → ArePlain (pyx doc)
plain_pyx doc valid = subst ArePlain (text_again doc valid) (split_plain (text_of (pyx doc)))

-- ---- names of documents

plain_byte : (b : ℕ) → nat_le 32 b ≡ true → (b == 10) ≡ false
plain_byte b above = false_from_ne_true _
    (λ same. let is = eqb-true b 10 same in let high = leb-true 32 b above in absurd (let no : ⊥ = omega (arith, is, high) in no))

plain_bytes : (bs : List ℕ) → list_all (nat_le 32) bs ≡ true → IsPlain bs
plain_bytes [] all = tt
plain_bytes (b ∷ bs) all = let parts = and_parts _ _ all in (plain_byte b parts.0, plain_bytes bs parts.1)

-- a name of a document has no newline
pub plain_name : (name : List ℕ) → IsTrue (is_document_name name) → IsPlain name
plain_name name named =
    plain_bytes name (and_parts (nat_le 1 (length name) && nat_le (length name) DOCUMENT_NAME_BYTES_MAX) (list_all (nat_le 32) name) named).1

any_there : (p : Line → Bool) (front rest : List Line) (k : Line) → p k ≡ true → list_any p (front ++ k ∷ rest) ≡ true
any_there p [] rest k here = rw here refl
any_there p (x ∷ front) rest k here = by_test (p x) (any_there p front rest k here)
  where
    by_test : (b : Bool) → list_any p (front ++ k ∷ rest) ≡ true → (b || list_any p (front ++ k ∷ rest)) ≡ true
    by_test true there = refl
    by_test false there = there

module _ (F : Forest) (are : IsForest F) where
  named_by : (k : Line) (o : Option Doc) → is_some o ≡ true → IfSome o (λ doc. IsTrue (is_document_name k) × IsValid doc) → IsTrue (is_document_name k)
  named_by k None there is = absurd (true≢false (sym there))
  named_by k (Some doc) there is = is.0

  plain_keys : (front rest : List Line) → map.keys F ≡ front ++ rest → ArePlain (list_map (λ name. 61 ∷ name) rest)
  plain_keys front [] is = tt
  plain_keys front (k ∷ rest) is = (
    (
      refl,
      plain_name k (named_by k (map.get F k) (map.contains_key-keys F k ∙ ap (list_any (eq_by_cmp (slice_cmp nat_cmp) k)) is
          ∙ any_there (eq_by_cmp (slice_cmp nat_cmp) k) front rest k ((eq_by_cmp_equiv nat_list_cmp_total).refl k)) (are k)),
    ),
    plain_keys (front ++ k ∷ []) rest (is ∙ sym (append_assoc front (k ∷ []) rest)),
  )

  -- the names of a forest, each behind a mark, have none
  pub plain_names : ArePlain (list_map (λ name. 61 ∷ name) (map.keys F))
  plain_names = plain_keys [] (map.keys F) refl
