-- What reading does at the end of a list of nodes looks at the last node alone.
use Rattle.std.proofs.Common.{◌≡◌, ◌≢◌, ℕ, ◌+◌, List, [], ◌∷◌, ◌++◌, ◌-◌, ◌<◌, length, get_or, take, refl, ap, sym, ◌∙◌, arith}
use Rattle.std.proofs.Math.Seq.{take-length}
use Rattle.std.proofs.lemmas.List.{take_more}
use Rattle.xml_model.specs.declared.node.Node.{Node, out-Node}
use Rattle.xml_model.specs.declared.node.Node.TheVariants.{Element, Text, Pi, outs-Element, outs-Text, outs-Pi}
use Rattle.xml_model.specs.declared.node.Attr.{Attr}
use Rattle.xml_model.specs.Pyx.{ends_in_text, is_text_layer, with_characters, added_to}

-- a list of nodes ends in text where its last node is text
pub ends_in_text-last : (nodes : List Node) (n : Node) → ends_in_text (nodes ++ n ∷ []) ≡ is_text_layer (out-Node n)
ends_in_text-last [] n = refl
ends_in_text-last (x ∷ []) n = refl
ends_in_text-last (x ∷ y ∷ nodes) n = ends_in_text-last (y ∷ nodes) n

-- the last node, found by its index
pub ends_in_text-at : (nodes : List Node) (n : Node) → 0 < length nodes → n ≡ get_or nodes (length nodes - 1) n
    → ends_in_text nodes ≡ is_text_layer (out-Node n)
ends_in_text-at nodes n some at =
    let count : length nodes ≡ (length nodes - 1) + 1 = omega arith in
    let within : (length nodes - 1) < length nodes = omega arith in
    let split : nodes ≡ take (length nodes - 1) nodes ++ get_or nodes (length nodes - 1) n ∷ [] =
    sym (take-length nodes) ∙ (ap (λ k. take k nodes) count ∙ take_more nodes (length nodes - 1) n within) in
    ap ends_in_text split ∙ (ends_in_text-last (take (length nodes - 1) nodes) (get_or nodes (length nodes - 1) n)
    ∙ ap (λ m. is_text_layer (out-Node m)) (sym at))

-- characters that are not empty are added by what the last node is: to its text, or as a new text after it
pub with_characters-last : (value : List ℕ) (nodes : List Node) (n : Node) → value ≢ []
    → with_characters value (nodes ++ n ∷ []) ≡ nodes ++ added_to (out-Node n) value n
with_characters-last [] nodes n some = elim (some refl) [ ]
with_characters-last (b ∷ bs) [] n some = refl
with_characters-last (b ∷ bs) (x ∷ []) n some = refl
with_characters-last (b ∷ bs) (x ∷ y ∷ nodes) n some = ap (λ r. x ∷ r) (with_characters-last (b ∷ bs) (y ∷ nodes) n some)

-- the same by the last node's variant
pub with_characters-Text : (value : List ℕ) (nodes : List Node) (first : List ℕ) → value ≢ []
    → with_characters value (nodes ++ Text first ∷ []) ≡ nodes ++ Text (first ++ value) ∷ []
with_characters-Text value nodes first some = with_characters-last value nodes (Text first) some ∙ rw (outs-Text first) refl

-- after an element characters are a new text
pub with_characters-Element : (value : List ℕ) (nodes : List Node) (name : List ℕ) (attrs : List Attr) (kids : List Node) → value ≢ []
    → with_characters value (nodes ++ Element name attrs kids ∷ []) ≡ nodes ++ Element name attrs kids ∷ Text value ∷ []
with_characters-Element value nodes name attrs kids some = with_characters-last value nodes (Element name attrs kids) some
    ∙ rw (outs-Element name attrs kids) refl

-- after an instruction characters are a new text
pub with_characters-Pi : (value : List ℕ) (nodes : List Node) (target text : List ℕ) → value ≢ []
    → with_characters value (nodes ++ Pi target text ∷ []) ≡ nodes ++ Pi target text ∷ Text value ∷ []
with_characters-Pi value nodes target text some = with_characters-last value nodes (Pi target text) some ∙ rw (outs-Pi target text) refl

-- where there is no node characters are a new text
pub with_characters-none : (value : List ℕ) → value ≢ [] → with_characters value [] ≡ Text value ∷ []
with_characters-none [] some = elim (some refl) [ ]
with_characters-none (b ∷ bs) some = refl

-- how nodes end, and what characters make of them, by what the last node is
pub ruleset last_nodes = (ends_in_text-last, with_characters-Text, with_characters-Element, with_characters-Pi, with_characters-none)
