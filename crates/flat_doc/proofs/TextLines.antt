-- Lines of strings that are UTF-8 are UTF-8: their marks and their escapes are ASCII.
use Rattle.std.proofs.Common.{◌≡◌, ◌⊎◌, inl, inr, ℕ, zero, suc, lit<, ◌+◌, ◌<◌, nat_eq, Bool, true, false, if◌then◌else◌, List, [], ◌∷◌, ◌++◌, length, take, get_or, IsUtf8, refl, sym, ap, ◌∙◌, subst, arith}
use Rattle.std.proofs.lemmas.Bool.{eqb-true}
use Rattle.std.proofs.lemmas.List.{append_assoc, length-append, take_at, drop_at, get_or_at, take_more}
use Rattle.std.proofs.lemmas.Str.{IsUtf8-append, IsUtf8-from_ascii, IsUtf8-take, IsUtf8-drop, IsCharBoundary-before_ascii, IsCharBoundary-after_ascii}
use Rattle.std.specs.Prelude.{drop}
use Rattle.xml_model.specs.declared.node.Attr.{Attr}
use Rattle.xml_model.specs.declared.node.Node.{Node}
use Rattle.xml_model.specs.Values.{escaped, escaped_byte}
use Rattle.xml_model.specs.Pyx.{Line, text_of, attribute_line, behind_target, pyx_node}
use Rattle.pyx_text.proofs.LineText.{attributes_text, nodes_text, attributes_text-append, nodes_text-append, nodes_text-one, element_text}

-- an ASCII byte alone is UTF-8
one_utf8 : (b : ℕ) → b < 128 → IsUtf8 (b ∷ [])
one_utf8 b small = IsUtf8-from_ascii (b ∷ []) (λ i. each i)
  where
    each : (i : ℕ) → get_or (b ∷ []) i 0 < 128
    each zero = small
    each (suc i) = lit< tt

-- an ASCII byte before a text
marked_utf8 : (b : ℕ) (text : List ℕ) → b < 128 → IsUtf8 text → IsUtf8 (b ∷ text)
marked_utf8 b text small is = IsUtf8-append (b ∷ []) text (one_utf8 b small) is

-- a text with a newline behind it
ended_utf8 : (text : List ℕ) → IsUtf8 text → IsUtf8 (text ++ 10 ∷ [])
ended_utf8 text is = IsUtf8-append text (10 ∷ []) is (one_utf8 10 (lit< tt))

-- what stands before an ASCII byte in a text, and what behind it
around_utf8 : (front : List ℕ) (b : ℕ) (rest : List ℕ) → b < 128 → IsUtf8 (front ++ b ∷ rest) → IsUtf8 front × IsUtf8 rest
around_utf8 front b rest small is =
    let whole = front ++ b ∷ rest in
    let i = length front in
    let long : length whole ≡ i + length (b ∷ rest) = length-append front (b ∷ rest) in
    let here : get_or whole i 0 ≡ b = get_or_at front b rest 0 i refl in
    let ascii : get_or whole i 0 < 128 = subst (λ x. x < 128) (sym here) small in
    let count : length (front ++ b ∷ []) ≡ i + 1 = length-append front (b ∷ []) in
    let behind : drop (i + 1) whole ≡ rest = ap (drop (i + 1)) (sym (append_assoc front (b ∷ []) rest)) ∙ drop_at (front ++ b ∷ []) rest (i + 1) count in (
      subst IsUtf8 (take_at front (b ∷ rest) i refl) (IsUtf8-take whole i is (IsCharBoundary-before_ascii whole i (omega (arith, long)) ascii)),
      subst IsUtf8 behind (IsUtf8-drop whole (i + 1) is (IsCharBoundary-after_ascii whole i is (omega (arith, long)) ascii)),
    )

-- a byte stays as it is, or it is ASCII, and so is its escape
abbrev Escapes : ℕ → List ℕ → Type 0
Escapes b escape = (escape ≡ b ∷ []) ⊎ ((b < 128) × IsUtf8 escape)

escape_of : (b : ℕ) → Escapes b (escaped_byte b)
escape_of b = newline (nat_eq b 10) refl
  where
    two : (x : ℕ) → x < 128 → IsUtf8 (92 ∷ x ∷ [])
    two x small = marked_utf8 92 (x ∷ []) (lit< tt) (one_utf8 x small)

    small_as : (n : ℕ) → b ≡ n → n < 128 → b < 128
    small_as n same small = subst (λ x. x < 128) (sym same) small

    backslash : (t : Bool) → nat_eq b 92 ≡ t → Escapes b (if t then 92 ∷ 92 ∷ [] else b ∷ [])
    backslash true is = inr (small_as 92 (eqb-true b 92 is) (lit< tt), two 92 (lit< tt))
    backslash false is = inl refl

    tab : (t : Bool) → nat_eq b 9 ≡ t → Escapes b (if t then 92 ∷ 116 ∷ [] else (if nat_eq b 92 then 92 ∷ 92 ∷ [] else b ∷ []))
    tab true is = inr (small_as 9 (eqb-true b 9 is) (lit< tt), two 116 (lit< tt))
    tab false is = backslash (nat_eq b 92) refl

    newline : (t : Bool) → nat_eq b 10 ≡ t
        → Escapes b (if t then 92 ∷ 110 ∷ [] else (if nat_eq b 9 then 92 ∷ 116 ∷ [] else (if nat_eq b 92 then 92 ∷ 92 ∷ [] else b ∷ [])))
    newline true is = inr (small_as 10 (eqb-true b 10 is) (lit< tt), two 110 (lit< tt))
    newline false is = tab (nat_eq b 9) refl

-- one byte more, where what stands behind it can be escaped behind any text
escaped_next : (front : List ℕ) (b : ℕ) (rest : List ℕ) → Escapes b (escaped_byte b)
    → ((text : List ℕ) → IsUtf8 (text ++ rest) → IsUtf8 (text ++ escaped rest)) → IsUtf8 (front ++ b ∷ rest)
    → IsUtf8 (front ++ (escaped_byte b ++ escaped rest))
escaped_next front b rest (inl plain) more is =
    subst IsUtf8 (append_assoc front (b ∷ []) (escaped rest) ∙ ap (λ l. front ++ (l ++ escaped rest)) (sym plain))
    (more (front ++ b ∷ []) (subst IsUtf8 (sym (append_assoc front (b ∷ []) rest)) is))
escaped_next front b rest (inr (small, escape)) more is =
    let parts = around_utf8 front b rest small is in
    IsUtf8-append front (escaped_byte b ++ escaped rest) parts.0 (IsUtf8-append (escaped_byte b) (escaped rest) escape (more [] parts.1))

-- the end of a text is escaped
escaped_behind : (rest front : List ℕ) → IsUtf8 (front ++ rest) → IsUtf8 (front ++ escaped rest)
escaped_behind [] front is = is
escaped_behind (b ∷ rest) front is = escaped_next front b rest (escape_of b) (escaped_behind rest) is

-- a value as it stands in a line
escaped_utf8 : (value : List ℕ) → IsUtf8 value → IsUtf8 (escaped value)
escaped_utf8 value is = escaped_behind value [] is

-- a tag's line
tag_utf8 : (mark : ℕ) (name : List ℕ) → mark < 128 → IsUtf8 name → IsUtf8 (text_of ((mark ∷ name) ∷ []))
tag_utf8 mark name small is = marked_utf8 mark (name ++ 10 ∷ []) small (ended_utf8 name is)

-- an attribute's line
pub attribute_utf8 : (a : Attr) → IsUtf8 a.name → IsUtf8 a.value → IsUtf8 (text_of (attribute_line a ∷ []))
attribute_utf8 a name value =
    tag_utf8 65 (a.name ++ 32 ∷ escaped a.value) (lit< tt)
    (IsUtf8-append a.name (32 ∷ escaped a.value) name (marked_utf8 32 (escaped a.value) (lit< tt) (escaped_utf8 a.value value)))

-- a text's line
pub characters_utf8 : (value : List ℕ) → IsUtf8 value → IsUtf8 (text_of ((45 ∷ escaped value) ∷ []))
characters_utf8 value is = tag_utf8 45 (escaped value) (lit< tt) (escaped_utf8 value is)

-- an instruction's line
pub instruction_utf8 : (target value : List ℕ) → IsUtf8 target → IsUtf8 value → IsUtf8 (text_of ((63 ∷ (target ++ behind_target value)) ∷ []))
instruction_utf8 target value is text = tag_utf8 63 (target ++ behind_target value) (lit< tt) (behind value text)
  where
    behind : (value : List ℕ) → IsUtf8 value → IsUtf8 (target ++ behind_target value)
    behind [] text = IsUtf8-append target [] is text
    behind (b ∷ bs) text =
        IsUtf8-append target (32 ∷ escaped (b ∷ bs)) is (marked_utf8 32 (escaped (b ∷ bs)) (lit< tt) (escaped_utf8 (b ∷ bs) text))

-- an element's lines
pub element_utf8 : (name : List ℕ) (attrs kids : List Line) → IsUtf8 name → IsUtf8 (text_of attrs) → IsUtf8 (text_of kids)
    → IsUtf8 (text_of ((40 ∷ name) ∷ (attrs ++ (kids ++ (41 ∷ name) ∷ []))))
element_utf8 name attrs kids is all below =
    let start = text_of ((40 ∷ name) ∷ []) in let end = text_of ((41 ∷ name) ∷ []) in
    subst IsUtf8 (element_text (40 ∷ name) attrs kids (41 ∷ name))
    (IsUtf8-append start (text_of attrs ++ (text_of kids ++ end)) (tag_utf8 40 name (lit< tt) is)
    (IsUtf8-append (text_of attrs) (text_of kids ++ end) all (IsUtf8-append (text_of kids) end below (tag_utf8 41 name (lit< tt) is))))

-- one attribute more
pub attributes_more : (attrs : List Attr) (i : ℕ) (d a : Attr) → i < length attrs → a ≡ get_or attrs i d → IsUtf8 (attributes_text (take i attrs))
    → IsUtf8 (text_of (attribute_line a ∷ [])) → IsUtf8 (attributes_text (take (i + 1) attrs))
attributes_more attrs i d a within at is next =
    let front = attributes_text (take i attrs) in
    subst IsUtf8 (ap (λ x. front ++ text_of (attribute_line x ∷ [])) at ∙ sym (attributes_text-append (take i attrs) (get_or attrs i d ∷ []))
    ∙ ap attributes_text (sym (take_more attrs i d within)))
    (IsUtf8-append front (text_of (attribute_line a ∷ [])) is next)

-- one node more
pub nodes_more : (nodes : List Node) (i : ℕ) (d n : Node) → i < length nodes → n ≡ get_or nodes i d → IsUtf8 (nodes_text (take i nodes))
    → IsUtf8 (text_of (pyx_node n)) → IsUtf8 (nodes_text (take (i + 1) nodes))
nodes_more nodes i d n within at is next =
    let front = nodes_text (take i nodes) in
    subst IsUtf8 (ap (λ x. front ++ text_of (pyx_node x)) at ∙ ap (λ l. front ++ l) (sym (nodes_text-one (get_or nodes i d)))
    ∙ sym (nodes_text-append (take i nodes) (get_or nodes i d ∷ [])) ∙ ap nodes_text (sym (take_more nodes i d within)))
    (IsUtf8-append front (text_of (pyx_node n)) is next)
