-- Children as they come are tidied: what has come, with the text at the end, is what tidying all of them gives.
use Rattle.std.proofs.Common.{◌≡◌, ℕ, List, [], ◌∷◌, ◌++◌, Option, None, Some, refl, sym, ap, ◌∙◌, append_assoc, append-nil}
use Rattle.xml_model.specs.declared.node.Attr.{Attr}
use Rattle.xml_model.specs.declared.node.Node.{Node, out-Node}
use Rattle.xml_model.specs.declared.node.Node.TheOpen.{Node-F}
use Rattle.xml_model.specs.declared.node.Node.TheVariants.{Element, Text, Pi, outs-Element, outs-Text, outs-Pi}
use Rattle.xml_model.specs.Constructors.{text_in}
use Rattle.xml_model.specs.declared.edit.EditKind.{EditKind}
use Rattle.xml_model.specs.declared.edit.EditKind.TheVariants as edit
use Rattle.xml_model.specs.Rebuild.{joined_front, text_front, front, tidied, edited_document}
use Rattle.tree_edit.specs.declared.kids.Kids.{Kids}
use Rattle.tree_edit.specs.Tidy.{no_kids, text_child, closed, with_text, with_other, with_layer, with_node, with_nodes, with_element, renamed_leaf, renamed_layer, into_document}

-- ---- one node after another

-- nodes come one list after another
pub with_nodes_append : (k : Kids) (xs ys : List Node) → with_nodes k (xs ++ ys) ≡ with_nodes (with_nodes k xs) ys
with_nodes_append k [] ys = refl
with_nodes_append k (x ∷ xs) ys = with_nodes_append (with_node k x) xs ys

-- ---- tidying

-- a text in front of tidied nodes, which may be empty
abbrev before : List ℕ → List Node → List Node
before text rest = front (Node-F.Text text) (Text text) rest

-- an empty text whose node is another
text_before : (value : List ℕ) (n : Node) (rest : List Node) → before value rest ≡ front (Node-F.Text value) n rest
text_before [] n rest = refl
text_before (b ∷ bytes) n rest = refl

three : (s v : List ℕ) (o : Option (List ℕ)) (m : Node) (rest : List Node) → text_in (out-Node m) ≡ o
    → joined_front (s ++ v) o m rest ≡ text_front s (joined_front v o m rest)
three s v None m rest e = sym (ap (λ l. joined_front s (text_in l) (Text v) (m ∷ rest)) (outs-Text v))
three s v (Some w) m rest e =
    ap (λ text. Text text ∷ rest) (append_assoc s v w) ∙ sym (ap (λ l. joined_front s (text_in l) (Text (v ++ w)) rest) (outs-Text (v ++ w)))

-- two texts that are not empty
two : (s v : List ℕ) (rest : List Node) → text_front (s ++ v) rest ≡ text_front s (text_front v rest)
two s v [] = sym (ap (λ l. joined_front s (text_in l) (Text v) []) (outs-Text v))
two s v (m ∷ rest) = three s v (text_in (out-Node m)) m rest refl

-- a text behind the text at the end
joins : (text value : List ℕ) (n : Node) (rest : List Node) → before (text ++ value) rest ≡ before text (front (Node-F.Text value) n rest)
joins [] value n rest = text_before value n rest
joins (b ∷ bytes) [] n rest = ap (λ text. before text rest) (append-nil (b ∷ bytes))
joins (b ∷ bytes) (c ∷ more) n rest = two (b ∷ bytes) (c ∷ more) rest

-- a node that is no text behind it
parts : (text : List ℕ) (n : Node) (rest : List Node) → text_in (out-Node n) ≡ None → before text (n ∷ rest) ≡ text_child text ++ (n ∷ rest)
parts [] n rest e = refl
parts (b ∷ bytes) n rest e = ap (λ o. joined_front (b ∷ bytes) o n rest) e

ends : (text : List ℕ) → text_child text ≡ before text []
ends [] = refl
ends (b ∷ bytes) = refl

behind : (k : Kids) (n : Node) (nodes : List Node) → text_in (out-Node n) ≡ None
    → (closed (with_nodes (with_other k n) nodes)).nodes ≡ (with_other k n).nodes ++ tidied nodes
    → (closed (with_nodes (with_other k n) nodes)).nodes ≡ k.nodes ++ before k.text (n ∷ tidied nodes)
behind k n nodes e rest =
    rest ∙ (append_assoc (k.nodes ++ text_child k.text) (n ∷ []) (tidied nodes)
    ∙ (append_assoc k.nodes (text_child k.text) (n ∷ tidied nodes) ∙ ap (λ more. k.nodes ++ more) (sym (parts k.text n (tidied nodes) e))))

-- what has come and what is still to come
comes : (k : Kids) (nodes : List Node) → (closed (with_nodes k nodes)).nodes ≡ k.nodes ++ before k.text (tidied nodes)
comes k [] = ap (λ more. k.nodes ++ more) (ends k.text)
comes k (n ∷ nodes) = go (out-Node n) refl (comes (with_other k n) nodes) (λ value. comes (with_text k value) nodes)
  where
    go : (l : Node-F Node) → out-Node n ≡ l → (closed (with_nodes (with_other k n) nodes)).nodes ≡ (with_other k n).nodes ++ tidied nodes
        → ((value : List ℕ) → (closed (with_nodes (with_text k value) nodes)).nodes ≡ k.nodes ++ before (k.text ++ value) (tidied nodes))
        → (closed (with_nodes (with_layer k l n) nodes)).nodes ≡ k.nodes ++ before k.text (front l n (tidied nodes))
    go (Node-F.Element name attrs kids) e rest more = behind k n nodes (ap text_in e) rest
    go (Node-F.Text value) e rest more = more value ∙ ap (λ more. k.nodes ++ more) (joins k.text value n (tidied nodes))
    go (Node-F.Pi target value) e rest more = behind k n nodes (ap text_in e) rest

-- all that come are tidied
pub finished : (nodes : List Node) → (closed (with_nodes no_kids nodes)).nodes ≡ tidied nodes
finished nodes = comes no_kids nodes

-- ---- what comes

pub with-Element : (k : Kids) (name : List ℕ) (attrs : List Attr) (kids : List Node) → with_node k (Element name attrs kids)
    ≡ with_other k (Element name attrs kids)
with-Element k name attrs kids = ap (λ l. with_layer k l (Element name attrs kids)) (outs-Element name attrs kids)

-- an element whose children have come
pub one_element : (k : Kids) (name : List ℕ) (attrs : List Attr) (nodes : List Node)
    → with_element k name attrs (with_nodes no_kids nodes) ≡ with_nodes k (Element name attrs (tidied nodes) ∷ [])
one_element k name attrs nodes =
    ap (λ kids. with_other k (Element name attrs kids)) (finished nodes) ∙ sym (with-Element k name attrs (tidied nodes))

-- behind other nodes
pub others_first : (k : Kids) (name : List ℕ) (attrs : List Attr) (nodes others : List Node)
    → with_element (with_nodes k others) name attrs (with_nodes no_kids nodes) ≡ with_nodes k (others ++ Element name attrs (tidied nodes) ∷ [])
others_first k name attrs nodes others =
    one_element (with_nodes k others) name attrs nodes ∙ sym (with_nodes_append k others (Element name attrs (tidied nodes) ∷ []))

-- before other nodes
pub others_last : (k : Kids) (name : List ℕ) (attrs : List Attr) (nodes others : List Node)
    → with_nodes (with_element k name attrs (with_nodes no_kids nodes)) others ≡ with_nodes k (Element name attrs (tidied nodes) ∷ others)
others_last k name attrs nodes others = ap (λ k. with_nodes k others) (one_element k name attrs nodes)

-- with more of both
pub one_filled : (k : Kids) (name : List ℕ) (attrs more_attrs : List Attr) (nodes more : List Node)
    → with_element k name (attrs ++ more_attrs) (with_nodes (with_nodes no_kids nodes) more)
    ≡ with_nodes k (Element name (attrs ++ more_attrs) (tidied (nodes ++ more)) ∷ [])
one_filled k name attrs more_attrs nodes more =
    ap (λ kids. with_element k name (attrs ++ more_attrs) kids) (sym (with_nodes_append no_kids nodes more)) ∙ one_element k name (attrs ++
    more_attrs) (nodes ++ more)

-- ---- texts and instructions

-- a text stays a text
pub renamed-Text : (value : List ℕ) → renamed_leaf (Text value) ≡ (λ name. Text value)
renamed-Text value = ap (λ l name. renamed_layer l (Text value) name) (outs-Text value)

-- an instruction has another target
pub renamed-Pi : (target value : List ℕ) → renamed_leaf (Pi target value) ≡ (λ name. Pi name value)
renamed-Pi target value = ap (λ l name. renamed_layer l (Pi target value) name) (outs-Pi target value)

-- ---- documents

edited_document-append : (kids : List Node) (o : Option EditKind) → edited_document kids o ≡ kids ++ into_document o
edited_document-append kids None = sym (append-nil kids)
edited_document-append kids (Some (edit.Into attrs more)) = refl
edited_document-append kids (Some (edit.Before others)) = sym (append-nil kids)
edited_document-append kids (Some (edit.After others)) = sym (append-nil kids)
edited_document-append kids (Some edit.Delete) = sym (append-nil kids)
edited_document-append kids (Some edit.Undeep) = sym (append-nil kids)
edited_document-append kids (Some (edit.Put attrs others)) = sym (append-nil kids)
edited_document-append kids (Some (edit.Rename name)) = sym (append-nil kids)

-- all nodes of a document have come, and then what goes into it
pub document_finished : (kids : List Node) (o : Option EditKind)
    → (closed (with_nodes (with_nodes no_kids kids) (into_document o))).nodes ≡ tidied (edited_document kids o)
document_finished kids o =
    ap (λ k. (closed k).nodes) (sym (with_nodes_append no_kids kids (into_document o)))
    ∙ (finished (kids ++ into_document o) ∙ ap tidied (sym (edited_document-append kids o)))

pub ruleset comings = (with_nodes_append, one_element, others_first, others_last, one_filled)

pub ruleset renamings = (renamed-Text, renamed-Pi)
