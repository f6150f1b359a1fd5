-- A document that is rebuilt is valid, where the edits bring what is well-formed and leave no name twice.
use Rattle.std.proofs.Common.{◌≡◌, ℕ, suc, ◌+◌, ◌<◌, Bool, true, false, IsTrue, IfSome, true≢false, List, [], ◌∷◌, ◌++◌, map, length, Option, Some, None, Ok, Err, refl, sym, ap, subst, ◌∙◌, arith}
use Rattle.std.specs.Prelude.{◌||◌, if◌then◌else◌, nat_lt}
use Rattle.std.specs.FinMap as fin_map
use Rattle.std.specs.List.{slice_get}
use Rattle.std.specs.Option.{option_map}
use Rattle.std.proofs.lemmas.Bool.{and_parts, ltb-false}
use Rattle.std.proofs.lemmas.Option.{none-some}
use Rattle.xq_ast.specs.Names.{is_name}
use Rattle.xq_ast.specs.declared.code.Code.TheVariants.{TooDeep, TooManyNodes, TooMuchText}
use Rattle.xml_model.specs.declared.limits.TheConstants.{DEPTH_MAX, NODES_MAX, TEXT_BYTES_MAX}
use Rattle.xml_model.specs.declared.node.Attr.{Attr}
use Rattle.xml_model.specs.declared.node.Doc.{Doc}
use Rattle.xml_model.specs.declared.node.Node.{Node, Element', Row_of-Node, end_of-Node, more_of-Node, items-the_row-Node, items_hidden-the_row-Node-0, out-Node}
use Rattle.xml_model.specs.declared.node.Node.TheBlock.{hidden-the_row-Node-0}
use Rattle.xml_model.specs.declared.node.Node.TheOpen.{Node-F}
use Rattle.xml_model.specs.declared.node.Node.TheVariants.{Element, Text, Pi, outs-Element, outs-Element', outs-Text, outs-Pi}
use Rattle.xml_model.specs.declared.place.PlaceStep.{PlaceStep}
use Rattle.xml_model.specs.declared.place.PlaceStep.TheVariants as steps
use Rattle.xml_model.specs.Constructors.{text_in, has_name_twice}
use Rattle.xml_model.specs.Document.{IsValid}
use Rattle.xml_model.specs.Place.{Placed, the_document, a_node, attrs_in, kids_in, attrs_of, kids_of, placed_from}
use Rattle.xml_model.specs.Trees.{count_of, bytes_of, depth_of}
use Rattle.xml_model.proofs.Alike.{Each, each_append}
use Rattle.xml_model.proofs.Formed.{IsFormed, AreFormed, AllFormed, IsApart, AreAttributes, is_text, node_of, form_is_valid, valid_has_form}
use Rattle.xml_model.proofs.NodeCases.{Each as EachNode, node_has}
use Rattle.xml_model.proofs.Nodes.{fold-Element, fold-Text, fold-Pi, formed-Element}
use Rattle.xml_model.proofs.WellFormed.{IsNamed}
use Rattle.xml_model.specs.GoodEdits.{are_named, are_formed_alone, brings_formed, with_more, KeepForm}
use Rattle.xml_model.specs.declared.edit.EditKind.{EditKind}
use Rattle.xml_model.specs.declared.edit.EditKind.TheVariants as edit
use Rattle.xml_model.specs.Rebuild.{Edits, EditsIn, behind, joined_front, text_front, front, tidied, edited_attribute, edited_attributes, edited_element, edited_leaf, edited_kids, edited_step, edited_node, edited_document, edited, limited_document, rebuild}

-- ---- tidied nodes

more_bytes : (s t : List ℕ) → 0 < length s → 0 < length (s ++ t)
more_bytes [] t h = absurd (omega arith)
more_bytes (b ∷ s) t h = omega arith

all_append : (xs ys : List Node) → AllFormed xs → AllFormed ys → AllFormed (xs ++ ys)
all_append [] ys g h = h
all_append (x ∷ xs) ys g h = (g.0, all_append xs ys g.1 h)

joined_formed : (value : List ℕ) (o : Option (List ℕ)) (n : Node) (rest : List Node) → 0 < length value → IsFormed n → AllFormed rest
    → AllFormed (joined_front value o n rest)
joined_formed value (Some first) n rest some g h = (more_bytes value first some, h)
joined_formed value None n rest some g h = (some, (g, h))

text_formed : (value : List ℕ) (rest : List Node) → 0 < length value → AllFormed rest → AllFormed (text_front value rest)
text_formed value [] some h = (some, tt)
text_formed value (n ∷ rest) some h = joined_formed value (text_in (out-Node n)) n rest some h.0 h.1

front_formed : (l : Node-F Node) (n : Node) (rest : List Node) → IsFormed n → AllFormed rest → AllFormed (front l n rest)
front_formed (Node-F.Element name attrs kids) n rest g h = (g, h)
front_formed (Node-F.Text []) n rest g h = h
front_formed (Node-F.Text (b ∷ bytes)) n rest g h = text_formed (b ∷ bytes) rest (omega arith) h
front_formed (Node-F.Pi target value) n rest g h = (g, h)

tidied_formed : (nodes : List Node) → AllFormed nodes → AllFormed (tidied nodes)
tidied_formed [] h = tt
tidied_formed (n ∷ nodes) h = front_formed (out-Node n) n (tidied nodes) h.0 (tidied_formed nodes h.1)

-- whether a node is a text, by its layer
no_text : (n : Node) → text_in (out-Node n) ≡ None → is_text n ≡ false
no_text (Element' name attrs s row) e = refl
no_text (Text value) e = absurd (none-some value (sym e ∙ ap text_in (outs-Text value)))
no_text (Pi target value) e = refl

apart_anyway : (after : Bool) (nodes : List Node) → IsApart after nodes → IsApart false nodes
apart_anyway after [] h = tt
apart_anyway after (n ∷ nodes) h = (refl, h.1)

-- nodes in front of which no text stands
apart_behind : (n : Node) (rest : List Node) → is_text n ≡ false → IsApart false rest → IsApart (is_text n) rest
apart_behind n rest e h = subst (λ t. IsApart t rest) (sym e) h

joined_apart : (value : List ℕ) (o : Option (List ℕ)) (n : Node) (rest : List Node) → text_in (out-Node n) ≡ o → IsApart false (n ∷ rest)
    → IsApart false (joined_front value o n rest)
joined_apart value (Some first) n rest e h = (refl, text_behind n e h.1)
  where
    text_behind : (n : Node) → text_in (out-Node n) ≡ Some first → IsApart (is_text n) rest → IsApart true rest
    text_behind (Element' name attrs s row) e h = absurd (none-some first (sym (ap text_in (outs-Element' name attrs s row)) ∙ e))
    text_behind (Text value) e h = h
    text_behind (Pi target value) e h = absurd (none-some first (sym (ap text_in (outs-Pi target value)) ∙ e))
joined_apart value None n rest e h = (refl, (no_text n e, h.1))

text_apart : (value : List ℕ) (rest : List Node) → IsApart false rest → IsApart false (text_front value rest)
text_apart value [] h = (refl, tt)
text_apart value (n ∷ rest) h = joined_apart value (text_in (out-Node n)) n rest refl h

front_apart : (l : Node-F Node) (n : Node) (rest : List Node) → out-Node n ≡ l → IsApart false rest → IsApart false (front l n rest)
front_apart (Node-F.Element name attrs kids) n rest e h = (refl, apart_behind n rest (no_text n (ap text_in e)) h)
front_apart (Node-F.Text []) n rest e h = h
front_apart (Node-F.Text (b ∷ bytes)) n rest e h = text_apart (b ∷ bytes) rest h
front_apart (Node-F.Pi target value) n rest e h = (refl, apart_behind n rest (no_text n (ap text_in e)) h)

tidied_apart : (nodes : List Node) → IsApart false (tidied nodes)
tidied_apart [] = tt
tidied_apart (n ∷ nodes) = front_apart (out-Node n) n (tidied nodes) refl (tidied_apart nodes)

-- ---- what edits bring

-- it is well-formed
abbrev pub IsGood : EditKind → Type 0
IsGood (edit.Into attrs kids) = Each IsNamed attrs × AllFormed kids
IsGood (edit.Before kids) = AllFormed kids
IsGood (edit.After kids) = AllFormed kids
IsGood edit.Delete = Unit {0}
IsGood edit.Undeep = Unit {0}
IsGood (edit.Put attrs kids) = Each IsNamed attrs × AllFormed kids
IsGood (edit.Rename name) = IsTrue (is_name name)

abbrev pub AreGood : EditsIn → Type 0
AreGood at = (p : List PlaceStep) → IfSome (at p) IsGood

-- no element of a tree has two attributes of one name in the end
abbrev pub NamesOnce : EditsIn → Placed → Type 0
NamesOnce at root = (p : List PlaceStep) (w : Placed) → placed_from p (Some root) ≡ Some w
    → has_name_twice (with_more (edited_attributes (λ q. at (p ++ q)) 0 (attrs_of w)) (at p)) ≡ false

-- ---- attributes

attribute_named : (a : Attr) (o : Option EditKind) → IsNamed a → IfSome o IsGood → Each IsNamed (edited_attribute a o)
attribute_named a None g h = (g, tt)
attribute_named a (Some (edit.Into attrs kids)) g h = (g, tt)
attribute_named a (Some (edit.Before kids)) g h = (g, tt)
attribute_named a (Some (edit.After kids)) g h = (g, tt)
attribute_named a (Some edit.Delete) g h = tt
attribute_named a (Some edit.Undeep) g h = tt
attribute_named a (Some (edit.Put attrs kids)) g h = h.0
attribute_named a (Some (edit.Rename name)) g h = (h, tt)

attributes_named : (at : EditsIn) → AreGood at → (i : ℕ) (attrs : List Attr) → AreAttributes attrs → Each IsNamed (edited_attributes at i attrs)
attributes_named at good i [] h = tt
attributes_named at good i (a ∷ more) h =
    each_append IsNamed (edited_attribute a (at (steps.Attr i ∷ []))) _ (attribute_named a (at (steps.Attr i ∷ [])) h.0 (good (steps.Attr i ∷ [])))
    (attributes_named at good (i + 1) more h.2)

more_named : (attrs : List Attr) (o : Option EditKind) → Each IsNamed attrs → IfSome o IsGood → Each IsNamed (with_more attrs o)
more_named attrs None g h = g
more_named attrs (Some (edit.Into more kids)) g h = each_append IsNamed attrs more g h.0
more_named attrs (Some (edit.Before kids)) g h = g
more_named attrs (Some (edit.After kids)) g h = g
more_named attrs (Some edit.Delete) g h = g
more_named attrs (Some edit.Undeep) g h = g
more_named attrs (Some (edit.Put others kids)) g h = g
more_named attrs (Some (edit.Rename name)) g h = g

neither : (a b : Bool) → (a || b) ≡ false → (a ≡ false) × (b ≡ false)
neither true b h = absurd (true≢false h)
neither false b h = (refl, h)

named_once : (attrs : List Attr) → Each IsNamed attrs → has_name_twice attrs ≡ false → AreAttributes attrs
named_once [] g h = tt
named_once (a ∷ attrs) g h = let parts = neither _ _ h in (g.0, parts.0, named_once attrs g.1 parts.1)

-- ---- elements

row_all : (m : _) (row : Row_of-Node m) → AreFormed row → AllFormed (items-the_row-Node m row)
row_all _ end_of-Node h = tt
row_all _ (more_of-Node x row) h = (h.0, row_all _ row h.1)

-- the parts of a well-formed element
kids_formed : (name : List ℕ) (attrs : List Attr) (kids : List Node) → IsFormed (Element name attrs kids) → AllFormed kids
kids_formed name attrs kids h = subst AllFormed (items_hidden-the_row-Node-0 kids) (row_all _ (hidden-the_row-Node-0 kids) h.3)

one_formed : (name : List ℕ) (attrs : List Attr) (kids : List Node) → IsTrue (is_name name) → AreAttributes attrs → AllFormed kids
    → IsFormed (Element name attrs (tidied kids))
one_formed name attrs kids named are formed = formed-Element name attrs (tidied kids) named are (tidied_apart kids) (tidied_formed kids formed)

element_formed : (name : List ℕ) (attrs : List Attr) (kids : List Node) (o : Option EditKind) → IsTrue (is_name name)
    → AreAttributes (with_more attrs o) → AllFormed kids → IfSome o IsGood
    → AllFormed (edited_element name attrs kids o)
element_formed name attrs kids None named are formed good = (one_formed name attrs kids named are formed, tt)
element_formed name attrs kids (Some (edit.Into more_attrs more)) named are formed good =
    (one_formed name (attrs ++ more_attrs) (kids ++ more) named are (all_append kids more formed good.1), tt)
element_formed name attrs kids (Some (edit.Before others)) named are formed good = all_append others _ good (one_formed name attrs kids named are formed, tt)
element_formed name attrs kids (Some (edit.After others)) named are formed good = (one_formed name attrs kids named are formed, good)
element_formed name attrs kids (Some edit.Delete) named are formed good = tt
element_formed name attrs kids (Some edit.Undeep) named are formed good = formed
element_formed name attrs kids (Some (edit.Put no_attrs others)) named are formed good = good.1
element_formed name attrs kids (Some (edit.Rename other)) named are formed good = (one_formed other attrs kids good are formed, tt)

-- ---- texts and instructions

leaf_formed : (n : Node) (renamed : List ℕ → Node) (o : Option EditKind) → IsFormed n → ((name : List ℕ) → IsTrue (is_name name)
    → IsFormed (renamed name)) → IfSome o IsGood
    → AllFormed (edited_leaf n renamed o)
leaf_formed n renamed None g named good = (g, tt)
leaf_formed n renamed (Some (edit.Into attrs kids)) g named good = (g, tt)
leaf_formed n renamed (Some (edit.Before others)) g named good = all_append others _ good (g, tt)
leaf_formed n renamed (Some (edit.After others)) g named good = (g, good)
leaf_formed n renamed (Some edit.Delete) g named good = tt
leaf_formed n renamed (Some edit.Undeep) g named good = tt
leaf_formed n renamed (Some (edit.Put attrs others)) g named good = good.1
leaf_formed n renamed (Some (edit.Rename name)) g named good = (named name good, tt)

-- ---- nodes

Stays : Node → Type 0
Stays n = IsFormed n → (at : EditsIn) → AreGood at → NamesOnce at (a_node n) → AllFormed (edited_node n at)

kids_stay : (at : EditsIn) → AreGood at → (i : ℕ) (kids : List Node) → EachNode Stays kids → AllFormed kids
    → ((j : ℕ) (kid : Node) → slice_get kids j ≡ Some kid → NamesOnce (behind at (steps.Kid (i + j))) (a_node kid))
    → AllFormed (edited_kids at i (map edited_node kids))
unfolding Stays
kids_stay at good i [] stay formed once = tt
kids_stay at good i (kid ∷ more) stay formed once =
    let first : i + 0 ≡ i = omega arith in
    all_append (edited_node kid (behind at (steps.Kid i))) _
    (stay.0 formed.0 (behind at (steps.Kid i)) (λ p. good (steps.Kid i ∷ p)) (subst (λ k. NamesOnce (behind at (steps.Kid k)) (a_node kid)) first
    (once 0 kid refl)))
    (kids_stay at good (i + 1) more stay.1 formed.1 (λ j x e.
    let this : i + suc j ≡ i + 1 + j = omega arith in
    subst (λ k. NamesOnce (behind at (steps.Kid k)) (a_node x)) this (once (suc j) x e)))

root_kids : (from : Placed) (at : EditsIn) → AreGood at → NamesOnce at from → EachNode Stays (kids_of from) → AllFormed (kids_of from)
    → AllFormed (edited_kids at 0 (map edited_node (kids_of from)))
root_kids from at good once stay formed =
    kids_stay at good 0 (kids_of from) stay formed (λ j kid e p w s.
    let this : j ≡ 0 + j = omega arith in
    subst (λ k. has_name_twice (with_more (edited_attributes (λ q. at (steps.Kid k ∷ (p ++ q))) 0 (attrs_of w)) (at (steps.Kid k ∷ p))) ≡ false) this
    (once (steps.Kid j ∷ p) w (ap (λ o. placed_from p (option_map a_node o)) e ∙ s)))

element_stays : (name : List ℕ) (attrs : List Attr) (kids : List Node) → EachNode Stays kids → Stays (Element name attrs kids)
unfolding Stays
element_stays name attrs kids stay formed at good once =
    let from = a_node (Element name attrs kids) in
    let has : attrs_of from ≡ attrs = ap attrs_in (outs-Element name attrs kids) in
    let holds : kids_of from ≡ kids = ap kids_in (outs-Element name attrs kids) in
    let no_two : has_name_twice (with_more (edited_attributes at 0 attrs) (at [])) ≡ false =
    subst (λ attrs. has_name_twice (with_more (edited_attributes at 0 attrs) (at [])) ≡ false) has (once [] from refl) in
    let inside : AllFormed (edited_kids at 0 (map edited_node kids)) =
    subst (λ kids. AllFormed (edited_kids at 0 (map edited_node kids))) holds
    (root_kids from at good once (subst (EachNode Stays) (sym holds) stay) (subst AllFormed (sym holds) (kids_formed name attrs kids formed))) in
    subst AllFormed (sym (ap (λ f. f at) (fold-Element (EditsIn → List Node) edited_step name attrs kids)))
    (element_formed name (edited_attributes at 0 attrs) _ (at []) formed.0
    (named_once _ (more_named _ (at []) (attributes_named at good 0 attrs formed.1) (good [])) no_two) inside (good []))

stays : (n : Node) → Stays n
unfolding Stays
stays =
    node_has Stays element_stays
    (λ value formed at good once. subst AllFormed (sym (ap (λ f. f at) (fold-Text (EditsIn → List Node) edited_step value)))
    (leaf_formed (Text value) (λ name. Text value) (at []) formed (λ name named. formed) (good [])))
    (λ target value formed at good once. subst AllFormed (sym (ap (λ f. f at) (fold-Pi (EditsIn → List Node) edited_step target value)))
    (leaf_formed (Pi target value) (λ name. Pi name value) (at []) formed (λ name named. named) (good [])))

all_stay : (nodes : List Node) → EachNode Stays nodes
all_stay [] = tt
all_stay (n ∷ nodes) = (stays n, all_stay nodes)

-- ---- documents

document_formed : (kids : List Node) (o : Option EditKind) → AllFormed kids → IfSome o IsGood → AllFormed (edited_document kids o)
document_formed kids None h good = h
document_formed kids (Some (edit.Into attrs more)) h good = all_append kids more h good.1
document_formed kids (Some (edit.Before others)) h good = h
document_formed kids (Some (edit.After others)) h good = h
document_formed kids (Some edit.Delete) h good = h
document_formed kids (Some edit.Undeep) h good = h
document_formed kids (Some (edit.Put attrs others)) h good = h
document_formed kids (Some (edit.Rename name)) h good = h

-- a document that passes the three tests keeps to the limits
within : (doc new : Doc) → AllFormed doc.kids → IsApart false doc.kids → limited_document doc ≡ Ok new → IsValid new
within doc new formed apart is = depth (nat_lt DEPTH_MAX (depth_of doc.kids)) (nat_lt NODES_MAX (count_of doc.kids)) (nat_lt TEXT_BYTES_MAX (bytes_of
    doc.kids)) refl refl refl is
  where
    depth : (a b c : Bool) → nat_lt DEPTH_MAX (depth_of doc.kids) ≡ a → nat_lt NODES_MAX (count_of doc.kids) ≡ b
        → nat_lt TEXT_BYTES_MAX (bytes_of doc.kids) ≡ c
        → (if a then Err TooDeep else (if b then Err TooManyNodes else (if c then Err TooMuchText else Ok doc))) ≡ Ok new → IsValid new
    depth true b c x y z is = absurd (cc)
    depth false true c x y z is = absurd (cc)
    depth false false true x y z is = absurd (cc)
    depth false false false x y z is =
        let same : doc ≡ new = cc in
        subst IsValid same (form_is_valid doc (record {
          formed = formed;
          apart = apart;
          depth = ltb-false DEPTH_MAX (depth_of doc.kids) x;
          nodes = ltb-false NODES_MAX (count_of doc.kids) y;
          text = ltb-false TEXT_BYTES_MAX (bytes_of doc.kids) z;
        }))

-- what is rebuilt is valid
rebuilt_is_valid : (doc new : Doc) (edits : Edits) → IsValid doc → AreGood (fin_map.get edits) → NamesOnce (fin_map.get edits) (the_document doc)
    → rebuild doc edits ≡ Ok new → IsValid new
rebuilt_is_valid doc new edits valid good once is =
    let at = fin_map.get edits in
    let formed : AllFormed (edited_document (edited_kids at 0 (map edited_node doc.kids)) (at [])) =
    document_formed _ (at []) (root_kids (the_document doc) at good once (all_stay doc.kids) (valid_has_form doc valid).formed) (good []) in
    within (edited doc at) new (tidied_formed _ formed) (tidied_apart _) is

-- ---- what edits bring, by the tests

all_named : (attrs : List Attr) → IsTrue (are_named attrs) → Each IsNamed attrs
all_named [] h = tt
all_named (a ∷ attrs) h = let parts = and_parts _ _ h in (parts.0, all_named attrs parts.1)

all_formed : (kids : List Node) → IsTrue (are_formed_alone kids) → AllFormed kids
all_formed [] h = tt
all_formed (n ∷ kids) h = let parts = and_parts _ _ h in (node_of n parts.0, all_formed kids parts.1)

is_good : (what : EditKind) → IsTrue (brings_formed what) → IsGood what
is_good (edit.Into attrs kids) h = let parts = and_parts _ _ h in (all_named attrs parts.0, all_formed kids parts.1)
is_good (edit.Before kids) h = all_formed kids h
is_good (edit.After kids) h = all_formed kids h
is_good edit.Delete h = tt
is_good edit.Undeep h = tt
is_good (edit.Put attrs kids) h = let parts = and_parts _ _ h in (all_named attrs parts.0, all_formed kids parts.1)
is_good (edit.Rename name) h = h

good_at : (o : Option EditKind) → IfSome o (λ what. IsTrue (brings_formed what)) → IfSome o IsGood
good_at None h = tt
good_at (Some what) h = is_good what h

-- edits that keep a valid document well-formed leave a valid one, where it keeps to the limits
pub stays_valid : (doc new : Doc) (edits : Edits) → IsValid doc → KeepForm doc (fin_map.get edits) → rebuild doc edits ≡ Ok new → IsValid new
stays_valid doc new edits valid keep is =
    rebuilt_is_valid doc new edits valid (λ p. good_at (fin_map.get edits p) (keep.bring p)) keep.once is
