-- The text of lines, part by part.
use Rattle.std.proofs.Common.{◌≡◌, ℕ, List, [], ◌∷◌, ◌++◌, map, refl, ap, sym, ◌∙◌, append_assoc, append-nil}
use Rattle.xml_model.specs.declared.node.Attr.{Attr}
use Rattle.xml_model.specs.declared.node.Node.{Node}
use Rattle.xml_model.specs.Trees.{joined}
use Rattle.xml_model.specs.Values.{escaped, escaped_byte}
use Rattle.xml_model.specs.Pyx.{Line, text_of, attribute_line, pyx_node, pyx_of}

-- the text of two lists of lines is the text of the first and then that of the second
pub text_of-append : (xs ys : List Line) → text_of (xs ++ ys) ≡ text_of xs ++ text_of ys
text_of-append [] ys = refl
text_of-append (x ∷ xs) ys = ap (λ r. x ++ 10 ∷ r) (text_of-append xs ys) ∙ sym (append_assoc x (10 ∷ text_of xs) (text_of ys))

-- two texts in a row are escaped one by one
pub escaped-append : (xs ys : List ℕ) → escaped (xs ++ ys) ≡ escaped xs ++ escaped ys
escaped-append [] ys = refl
escaped-append (x ∷ xs) ys = ap (λ r. escaped_byte x ++ r) (escaped-append xs ys) ∙ sym (append_assoc (escaped_byte x) (escaped xs) (escaped ys))

map-append : {A B : Type 0} (f : A → B) (xs ys : List A) → map f (xs ++ ys) ≡ map f xs ++ map f ys
map-append f [] ys = refl
map-append f (x ∷ xs) ys = ap (λ r. f x ∷ r) (map-append f xs ys)

joined-append : {A : Type 0} (xs ys : List (List A)) → joined (xs ++ ys) ≡ joined xs ++ joined ys
joined-append [] ys = refl
joined-append (x ∷ xs) ys = ap (λ r. x ++ r) (joined-append xs ys) ∙ sym (append_assoc x (joined xs) (joined ys))

-- the text of the lines of attributes
abbrev pub attributes_text : List Attr → List ℕ
attributes_text attrs = text_of (map attribute_line attrs)

-- the text of the lines of nodes
abbrev pub nodes_text : List Node → List ℕ
nodes_text nodes = text_of (pyx_of nodes)

-- the text of two lists of attributes is the text of the first and then that of the second
pub attributes_text-append : (xs ys : List Attr) → attributes_text (xs ++ ys) ≡ attributes_text xs ++ attributes_text ys
attributes_text-append xs ys = ap text_of (map-append attribute_line xs ys) ∙ text_of-append (map attribute_line xs) (map attribute_line ys)

-- the text of two lists of nodes is the text of the first and then that of the second
pub nodes_text-append : (xs ys : List Node) → nodes_text (xs ++ ys) ≡ nodes_text xs ++ nodes_text ys
nodes_text-append xs ys = ap text_of (ap joined (map-append pyx_node xs ys) ∙ joined-append (map pyx_node xs) (map pyx_node ys))
    ∙ text_of-append (pyx_of xs) (pyx_of ys)

-- the text of one node alone is that of its lines
pub nodes_text-one : (n : Node) → nodes_text (n ∷ []) ≡ text_of (pyx_node n)
nodes_text-one n = ap text_of (append-nil (pyx_node n))

-- a name, what stands after it, and the line's end
pub marked_line : (mark : ℕ) (name behind : List ℕ) → (mark ∷ name) ++ (behind ++ 10 ∷ []) ≡ text_of ((mark ∷ (name ++ behind)) ∷ [])
marked_line mark name behind = ap (λ r. mark ∷ r) (sym (append_assoc name behind (10 ∷ [])))

-- the four parts of an element
pub element_text : (start : Line) (attrs kids : List Line) (end : Line)
    → text_of (start ∷ []) ++ (text_of attrs ++ (text_of kids ++ text_of (end ∷ []))) ≡ text_of (start ∷ (attrs ++ (kids ++ end ∷ [])))
element_text start attrs kids end =
    sym (text_of-append (start ∷ []) (attrs ++ (kids ++ end ∷ [])) ∙ ap (λ r. text_of (start ∷ []) ++ r)
    (text_of-append attrs (kids ++ end ∷ []) ∙ ap (λ r. text_of attrs ++ r) (text_of-append kids (end ∷ []))))
