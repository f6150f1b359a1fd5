-- What items make in the content of a new element is well-formed, and so is the element.
use Rattle.std.proofs.Common.{◌≡◌, ℕ, ◌<◌, Bool, true, false, not, ◌&&◌, ◌||◌, IsTrue, IfSome, true≢false, List, [], ◌∷◌, ◌++◌, map, filter, length, Option, Some, None, is_some, Result, Ok, Err, refl, sym, ap, subst, ◌∙◌, arith}
use Rattle.std.specs.Prelude.{if◌then◌else◌, nat_lt}
use Rattle.std.proofs.lemmas.Bool.{and_parts}
use Rattle.xq_ast.specs.Names.{is_name}
use Rattle.xq_ast.specs.declared.code.Code.{Code}
use Rattle.xq_ast.specs.declared.code.Code.TheVariants.{XQTY0024, XQDY0025, TooDeep, TooManyNodes, TooMuchText}
use Rattle.xml_model.specs.declared.limits.TheConstants.{DEPTH_MAX, NODES_MAX, TEXT_BYTES_MAX}
use Rattle.xml_model.specs.declared.node.Attr.{Attr}
use Rattle.xml_model.specs.declared.node.Node.{Node, Element', Text, Pi}
use Rattle.xml_model.specs.declared.node.Node.TheVariants.{Element, outs-Element', outs-Text, outs-Pi}
use Rattle.xml_model.specs.declared.value.Atom.TheVariants as atom
use Rattle.xml_model.specs.Atoms.{atom_text}
use Rattle.xml_model.specs.Constructors.{Piece, an_attribute_piece, a_child, pieces_of, words, pieces, text_in, piece_text, joined_two, joined_to, joined_texts, is_empty_text, content_of, has_late_attribute, attributes_of, children_of, has_name_twice, limited, element}
use Rattle.xml_model.specs.Items.{Documents, Items, node, string, integer, boolean, Made, node_at}
use Rattle.xml_model.specs.Place.{Placed, the_document, a_node, an_attribute}
use Rattle.xml_model.specs.Trees.{count_node, bytes_node, depth_node}
use Rattle.xml_model.proofs.Alike.{Each, each_append, Fine}
use Rattle.xml_model.proofs.Formed.{IsFormed, AllFormed, IsApart, AreAttributes, is_text}
use Rattle.xml_model.proofs.Nodes.{formed-Element}
use Rattle.xml_model.proofs.WellFormed.{IsNamed, IsWellFormed, AreDocuments, well_at}

-- ---- what the items make

-- a piece of content is well-formed; a text may be empty
abbrev IsPiece : Piece → Type 0
IsPiece (an_attribute_piece a) = IsNamed a
IsPiece (a_child n) = IsWellFormed (a_node n)

a_text : (value : List ℕ) → IsPiece (a_child (Text value))
a_text value = λ e. absurd (true≢false e)

words_formed : (ws : List (List ℕ)) → Each IsPiece (words ws)
words_formed [] = tt
words_formed (w ∷ ws) = (a_text _, tt)

kids_formed : (kids : List Node) → AllFormed kids → Each IsPiece (map a_child kids)
kids_formed [] formed = tt
kids_formed (n ∷ kids) formed = ((λ _. formed.0), kids_formed kids formed.1)

placed_formed : (there : Option Placed) → IfSome there IsWellFormed → Each IsPiece (pieces_of there)
placed_formed None w = tt
placed_formed (Some (the_document doc)) w = kids_formed doc.kids w.0
placed_formed (Some (a_node n)) w = (w, tt)
placed_formed (Some (an_attribute a)) w = (w, tt)

module _ (docs : Documents) (made : Made) (d : AreDocuments docs) (w : Each IsWellFormed made) where
  pieces_formed : (before : List (List ℕ)) (items : Items) → Each IsPiece (pieces docs made before items)
  pieces_formed before [] = words_formed before
  pieces_formed before (node n ∷ items) =
      each_append IsPiece (words before) _ (words_formed before)
      (each_append IsPiece (pieces_of (node_at docs made n)) _ (placed_formed (node_at docs made n) (well_at docs made n d w)) (pieces_formed [] items))
  pieces_formed before (string text ∷ items) = pieces_formed (before ++ atom_text (atom.Text text) ∷ []) items
  pieces_formed before (integer n ∷ items) = pieces_formed (before ++ atom_text (atom.Int n) ∷ []) items
  pieces_formed before (boolean b ∷ items) = pieces_formed (before ++ atom_text (atom.Truth b) ∷ []) items

-- ---- texts that are neighbours

is_text_piece : Piece → Bool
is_text_piece p = is_some (piece_text p)

-- no two neighbours are texts; the first argument says whether a text stands before
abbrev apart : Bool → List Piece → Bool
apart after [] = true
apart after (p ∷ ps) = not (after && is_some (piece_text p)) && apart (is_some (piece_text p)) ps

apart_anyway : (after : Bool) (ps : List Piece) → apart after ps ≡ true → apart false ps ≡ true
apart_anyway after [] h = refl
apart_anyway after (p ∷ ps) h = (and_parts _ _ h).1

two_formed : (s t : Option (List ℕ)) (p q : Piece) (ps : List Piece) → IsPiece p → IsPiece q → Each IsPiece ps → Each IsPiece (joined_two s t p q ps)
two_formed (Some s) (Some t) p q ps g h k = (a_text _, k)
two_formed (Some s) None p q ps g h k = (g, (h, k))
two_formed None text p q ps g h k = (g, (h, k))

to_formed : (p : Piece) (ps : List Piece) → IsPiece p → Each IsPiece ps → Each IsPiece (joined_to p ps)
to_formed p [] g h = (g, tt)
to_formed p (q ∷ ps) g h = two_formed (piece_text p) (piece_text q) p q ps g h.0 h.1

joined_formed : (ps : List Piece) → Each IsPiece ps → Each IsPiece (joined_texts ps)
joined_formed [] h = tt
joined_formed (p ∷ ps) h = to_formed p (joined_texts ps) h.0 (joined_formed ps h.1)

two_apart : (s t : Option (List ℕ)) (p q : Piece) (ps : List Piece) → piece_text p ≡ s → piece_text q ≡ t → apart (is_some (piece_text q)) ps ≡ true
    → apart false (joined_two s t p q ps) ≡ true
two_apart (Some s) (Some t) p q ps e f h = ap (λ l. apart (is_some (text_in l)) ps) (outs-Text (s ++ t)) ∙ (sym (ap (λ o. apart (is_some o) ps) f) ∙ h)
two_apart (Some s) None p q ps e f h = (λ i. not (is_some (e i) && is_some (f i)) && apart (is_some (piece_text q)) ps) ∙ h
two_apart None text p q ps e f h = (λ i. not (is_some (e i) && is_some (piece_text q)) && apart (is_some (piece_text q)) ps) ∙ h

to_apart : (p : Piece) (ps : List Piece) → apart false ps ≡ true → apart false (joined_to p ps) ≡ true
to_apart p [] h = refl
to_apart p (q ∷ ps) h = two_apart (piece_text p) (piece_text q) p q ps refl refl h

joined_apart : (ps : List Piece) → apart false (joined_texts ps) ≡ true
joined_apart [] = refl
joined_apart (p ∷ ps) = to_apart p (joined_texts ps) (joined_apart ps)

-- ---- empty texts

-- a piece of content is well-formed, and no text is empty
abbrev IsWhole : Piece → Type 0
IsWhole (an_attribute_piece a) = IsNamed a
IsWhole (a_child n) = IsFormed n

abbrev stays : Piece → Bool
stays p = not (is_empty_text (piece_text p))

some_bytes : (value : List ℕ) → not (is_empty_text (Some value)) ≡ true → 0 < length value
some_bytes [] h = absurd (true≢false (sym h))
some_bytes (b ∷ bytes) h = omega arith

whole_child : (n : Node) → IsWellFormed (a_node n) → stays (a_child n) ≡ true → IsFormed n
whole_child (Element' name attrs s row) w h = w refl
whole_child (Text value) w h = some_bytes value (sym (ap (λ l. not (is_empty_text (text_in l))) (outs-Text value)) ∙ h)
whole_child (Pi target value) w h = w refl

whole : (p : Piece) → IsPiece p → stays p ≡ true → IsWhole p
whole (an_attribute_piece a) g h = g
whole (a_child n) g h = whole_child n g h

stay_whole : (ps : List Piece) → Each IsPiece ps → Each IsWhole (filter stays ps)
stay_whole [] g = tt
stay_whole (p ∷ ps) g = go (stays p) refl (stay_whole ps g.1)
  where
    go : (b : Bool) → stays p ≡ b → Each IsWhole (filter stays ps) → Each IsWhole (if b then p ∷ filter stays ps else filter stays ps)
    go true h rest = (whole p g.0 h, rest)
    go false h rest = rest

empty_is_text : (o : Option (List ℕ)) → not (is_empty_text o) ≡ false → is_some o ≡ true
empty_is_text None h = absurd (true≢false h)
empty_is_text (Some text) h = refl

none_before : (after text : Bool) → not (after && text) ≡ true → text ≡ true → after ≡ false
none_before true text h e = absurd (true≢false (sym h ∙ ap not e))
none_before false text h e = refl

stay_apart : (after : Bool) (ps : List Piece) → apart after ps ≡ true → apart after (filter stays ps) ≡ true
stay_apart after [] h = refl
stay_apart after (p ∷ ps) h = go (stays p) refl (and_parts _ _ h) (stay_apart (is_some (piece_text p)) ps (and_parts _ _ h).1)
  where
    go : (b : Bool) → stays p ≡ b → (not (after && is_some (piece_text p)) ≡ true) × (apart (is_some (piece_text p)) ps ≡ true)
        → apart (is_some (piece_text p)) (filter stays ps) ≡ true → apart after (if b then p ∷ filter stays ps else filter stays ps) ≡ true
    go true e parts rest = λ i. parts.0 i && rest i
    go false e parts rest =
        ap (λ t. apart t (filter stays ps)) (none_before after (is_some (piece_text p)) parts.0 (empty_is_text (piece_text p) e))
        ∙ apart_anyway (is_some (piece_text p)) (filter stays ps) rest

-- ---- elements

no_late : {A : Type 0} (after : Bool) → (true || after) ≡ false → A
no_late after h = absurd (true≢false h)

text_piece : (n : Node) → is_some (piece_text (a_child n)) ≡ is_text n
text_piece (Element' name attrs s row) = ap (λ l. is_some (text_in l)) (outs-Element' name attrs s row)
text_piece (Text value) = ap (λ l. is_some (text_in l)) (outs-Text value)
text_piece (Pi target value) = ap (λ l. is_some (text_in l)) (outs-Pi target value)

was_not : (b : Bool) → not b ≡ true → b ≡ false
was_not true h = absurd (true≢false (sym h))
was_not false h = refl

children_apart : (after : Bool) (ps : List Piece) → has_late_attribute true ps ≡ false → apart after ps ≡ true → IsApart after (children_of ps)
children_apart after [] late h = tt
children_apart after (an_attribute_piece a ∷ ps) late h = absurd (true≢false late)
children_apart after (a_child n ∷ ps) late h =
    let parts = and_parts _ _ h in (
      ap (λ t. after && t) (sym (text_piece n)) ∙ was_not _ parts.0,
      subst (λ t. IsApart t (children_of ps)) (text_piece n) (children_apart (is_some (piece_text (a_child n))) ps late parts.1),
    )

all_apart : (ps : List Piece) → has_late_attribute false ps ≡ false → apart false ps ≡ true → IsApart false (children_of ps)
all_apart [] late h = tt
all_apart (an_attribute_piece a ∷ ps) late h = all_apart ps late h
all_apart (a_child n ∷ ps) late h = children_apart false (a_child n ∷ ps) late h

children_whole : (ps : List Piece) → Each IsWhole ps → AllFormed (children_of ps)
children_whole [] g = tt
children_whole (an_attribute_piece a ∷ ps) g = children_whole ps g.1
children_whole (a_child n ∷ ps) g = (g.0, children_whole ps g.1)

attributes_named : (ps : List Piece) → Each IsWhole ps → Each IsNamed (attributes_of ps)
attributes_named [] g = tt
attributes_named (an_attribute_piece a ∷ ps) g = (g.0, attributes_named ps g.1)
attributes_named (a_child n ∷ ps) g = attributes_named ps g.1

neither : (a b : Bool) → (a || b) ≡ false → (a ≡ false) × (b ≡ false)
neither true b h = absurd (true≢false h)
neither false b h = (refl, h)

named_once : (attrs : List Attr) → Each IsNamed attrs → has_name_twice attrs ≡ false → AreAttributes attrs
named_once [] g h = tt
named_once (a ∷ attrs) g h = let parts = neither _ _ h in (g.0, parts.0, named_once attrs g.1 parts.1)

if_fine : {A : Type 0} (G : A → Type 0) (b : Bool) (code : Code) (r : Result A Code) → (b ≡ false → Fine G r) → Fine G (if b then Err code else r)
if_fine G true code r h = tt
if_fine G false code r h = h refl

limited_fine : (G : Node → Type 0) (n : Node) → G n → Fine G (limited n)
limited_fine G n g =
    if_fine G (nat_lt DEPTH_MAX (depth_node n)) TooDeep _ (λ _. if_fine G (nat_lt NODES_MAX (count_node n)) TooManyNodes _ (λ _.
    if_fine G (nat_lt TEXT_BYTES_MAX (bytes_node n)) TooMuchText (Ok n) (λ _. g)))

-- the attributes of content have names, and its nodes are well-formed, each by itself
pub content_formed : (docs : Documents) (made : Made) → AreDocuments docs → Each IsWellFormed made → (items : Items)
    → Each IsNamed (attributes_of (content_of docs made items)) × AllFormed (children_of (content_of docs made items))
content_formed docs made d w items =
    let content = content_of docs made items in
    let whole = stay_whole (joined_texts (pieces docs made [] items)) (joined_formed _ (pieces_formed docs made d w [] items)) in
    (attributes_named content whole, children_whole content whole)

-- a new element whose name is a name is well-formed, where documents and trees are
pub element_formed : (docs : Documents) (made : Made) → AreDocuments docs → Each IsWellFormed made → (name : List ℕ) → IsTrue (is_name name) → (items : Items)
    → Fine (λ n. IsWellFormed (a_node n)) (element name (content_of docs made items))
element_formed docs made d w name named items =
    let content = content_of docs made items in
    let whole = stay_whole (joined_texts (pieces docs made [] items)) (joined_formed _ (pieces_formed docs made d w [] items)) in
    let apart = stay_apart false (joined_texts (pieces docs made [] items)) (joined_apart (pieces docs made [] items)) in
    if_fine (λ n. IsWellFormed (a_node n)) (has_late_attribute false content) XQTY0024 _ (λ late.
    if_fine (λ n. IsWellFormed (a_node n)) (has_name_twice (attributes_of content)) XQDY0025 _ (λ once.
    limited_fine (λ n. IsWellFormed (a_node n)) (Element name (attributes_of content) (children_of content))
    (λ _. formed-Element name (attributes_of content) (children_of content) named (named_once _ (attributes_named content whole) once)
    (all_apart content late apart) (children_whole content whole))))
