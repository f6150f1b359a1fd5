-- Worked rows of the definitions.
use Rattle.std.proofs.Common.{◌≡◌, ℕ, zero, suc, ◌<◌, ◌==◌, true, false, List, [], ◌∷◌, ◌++◌, None, Some, Ok, Err, if◌then◌else◌, replicate, take, refl, ap, arith}
use Rattle.std.specs.FinMap as map
use Rattle.page_bytes.specs.declared.ids.Space.{Space}
use Rattle.page_bytes.specs.declared.end.PageEnd.TheVariants.{Need, Damaged}
use Rattle.page_bytes.specs.Fields.{field}
use Rattle.page_bytes.specs.Head.{head_of}
use Rattle.page_bytes.specs.Known.{Known, is_unknown}
use Rattle.page_bytes.specs.Links.{page_in}
use Rattle.page_bytes.specs.Seen.{PagesByNumber, bytes}
use Rattle.xml_model.specs.declared.node.Doc.{Doc}
use Rattle.xml_model.specs.declared.node.Node.TheVariants.{Element}
use Rattle.flat_doc.specs.Pieces.{page_count, is_flat, stated_length}
use Rattle.flat_doc.specs.Putting.{flat_pages}
use Rattle.flat_doc.specs.Reading.{flat_page, flat_text}
use Rattle.flat_doc.specs.Meaning.{IsFlat, StandsForFlat}

-- how many pages texts of these lengths take
one_for_nothing : page_count 0 ≡ 1
one_for_nothing = refl

one_that_is_full : page_count 4087 ≡ 1
one_that_is_full = refl

two_for_a_byte_more : page_count 4088 ≡ 2
two_for_a_byte_more = refl

two_that_are_full : page_count 8182 ≡ 2
two_that_are_full = refl

three_for_a_byte_more : page_count 8183 ≡ 3
three_for_a_byte_more = refl

-- a length that no pages can hold
more_than_any : page_count 18446744073709551615 ≡ 4504699407499281
more_than_any = refl

-- the page of a document without nodes
page_of_nothing : flat_pages [] ≡ (1 ∷ replicate 4095 0) ∷ []
page_of_nothing = refl

-- `(a` and `)a`, with a newline behind each, on a page whose unused bytes are 7
abbrev element_text : List ℕ
element_text = 40 ∷ 97 ∷ 10 ∷ 41 ∷ 97 ∷ 10 ∷ []

abbrev element : Doc
element = record { kids = Element (97 ∷ []) [] [] ∷ [] }

abbrev element_page : ℕ → List ℕ
element_page size = 1 ∷ 0 ∷ 0 ∷ 0 ∷ 0 ∷ 0 ∷ 0 ∷ 0 ∷ size ∷ (element_text ++ replicate 4081 7)

page_of_element : flat_pages element_text ≡ (1 ∷ 0 ∷ 0 ∷ 0 ∷ 0 ∷ 0 ∷ 0 ∷ 0 ∷ 6 ∷ (element_text ++ replicate 4081 0)) ∷ []
page_of_element = refl

-- a space of that page alone
abbrev element_pages : ℕ → PagesByNumber
element_pages size n = if n == 0 then Some (element_page size) else None

page_0_is_flat : (size n : ℕ) → n < 1 → IsFlat (element_pages size n)
page_0_is_flat size zero below = (refl, refl)
page_0_is_flat size (suc n) below = absurd (omega arith)

element_stands : StandsForFlat (element_pages 6) element
unfolding field bytes lib.Utf8.encode
element_stands = record {
  text = element_text;
  has = record { flat = page_0_is_flat 6; stated = refl; runs = refl };
  spells = record { utf8 = (element_text, (refl, refl)); reads = refl };
}

-- the last newline may be missing, so a text that isn't the canonical one spells the same document
other_text_stands : StandsForFlat (element_pages 5) element
unfolding field bytes lib.Utf8.encode
other_text_stands = record {
  text = take 5 element_text;
  has = record { flat = page_0_is_flat 5; stated = refl; runs = refl };
  spells = record { utf8 = (take 5 element_text, (refl, refl)); reads = refl };
}

-- a page 0 of which nothing is known is needed; one that is absent, or of another kind, is damaged
first_needed : (k : Known) (space : Space) → is_unknown k (head_of space) ≡ true → flat_text k space ≡ Err (Need (head_of space))
first_needed k space unknown = rw unknown refl

first_absent : (k : Known) (space : Space) → is_unknown k (head_of space) ≡ false → map.get k.pages (head_of space) ≡ None
    → flat_text k space ≡ Err (Damaged (head_of space))
first_absent k space known none = rw (known, none) refl

first_of_another_kind : (k : Known) (space : Space) (page : List ℕ) → is_unknown k (head_of space) ≡ false → map.get k.pages (head_of space) ≡ Some page
    → is_flat page ≡ false → flat_text k space ≡ Err (Damaged (head_of space))
first_of_another_kind k space page known some other = rw (known, some, other) refl

-- where page 0 states 4,088 bytes, page 1 is needed; where it is absent, page 0 is damaged, and where it is of another kind, it is
later_needed : (k : Known) (space : Space) (first : List ℕ) → flat_page k space 0 ≡ Ok first → stated_length first ≡ 4088
    → is_unknown k (page_in space 1) ≡ true → flat_text k space ≡ Err (Need (page_in space 1))
later_needed k space first is long unknown = rw (is, long, is, unknown) refl

later_absent : (k : Known) (space : Space) (first : List ℕ) → flat_page k space 0 ≡ Ok first → stated_length first ≡ 4088
    → is_unknown k (page_in space 1) ≡ false → map.get k.pages (page_in space 1) ≡ None → flat_text k space ≡ Err (Damaged (head_of space))
later_absent k space first is long known none = rw (is, long, is, known, none) refl

later_of_another_kind : (k : Known) (space : Space) (first page : List ℕ) → flat_page k space 0 ≡ Ok first → stated_length first ≡ 4088
    → is_unknown k (page_in space 1) ≡ false → map.get k.pages (page_in space 1) ≡ Some page → is_flat page ≡ false
    → flat_text k space ≡ Err (Damaged (page_in space 1))
later_of_another_kind k space first page is long known some other = rw (is, long, is, known, some, other) refl

-- and so where it states more, up to the greatest number
later_absent_of : (more : ℕ) (k : Known) (space : Space) (first : List ℕ) → flat_page k space 0 ≡ Ok first
    → page_count (stated_length first) ≡ suc (suc more) → is_unknown k (page_in space 1) ≡ false → map.get k.pages (page_in space 1) ≡ None
    → flat_text k space ≡ Err (Damaged (head_of space))
later_absent_of more k space first is long known none = rw (is, long, is, known, none) refl

later_absent_of_many : (k : Known) (space : Space) (first : List ℕ) → flat_page k space 0 ≡ Ok first → stated_length first ≡ 18446744073709551615
    → is_unknown k (page_in space 1) ≡ false → map.get k.pages (page_in space 1) ≡ None → flat_text k space ≡ Err (Damaged (head_of space))
later_absent_of_many k space first is long = later_absent_of 4504699407499279 k space first is (ap page_count long)
