-- The lines of a valid document's canonical text are its lines, since none of them has a newline.
use Rattle.std.proofs.Common.{◌≡◌, ℕ, Bool, true, false, ◌==◌, IsTrue, List, [], ◌∷◌, ◌++◌, map, refl, ap, sym, ◌∙◌, true≢false}
use Rattle.std.specs.List.{list_all}
use Rattle.std.proofs.lemmas.Bool.{eqb-true, false_from_ne_true, and_parts}
use Rattle.xml_model.specs.declared.node.Attr.{Attr}
use Rattle.xml_model.specs.declared.node.Doc.{Doc}
use Rattle.xml_model.specs.declared.node.Node.{Node, Element', Text, Pi, Row_of-Node, end_of-Node, more_of-Node, items-the_row-Node}
use Rattle.xq_ast.specs.Names.{is_name, continues_name}
use Rattle.xml_model.specs.Values.{escaped, escaped_byte}
use Rattle.xml_model.specs.Document.{IsValid}
use Rattle.xml_model.proofs.Formed.{IsFormed, AreFormed, AllFormed, AreAttributes, valid_has_form}
use Rattle.xml_model.specs.Pyx.{Line, attribute_line, behind_target, pyx_step, pyx_node, pyx_of, pyx, text_of, in_front, split_lines, IsPlain, ArePlain}
use Rattle.xml_model.proofs.Lines.{name_continues}
use Rattle.xml_model.proofs.Nodes.{fold-Text, fold-Pi, fold-Element'}

-- two plain lists in a row are plain
IsPlain-append : (xs ys : List ℕ) → IsPlain xs → IsPlain ys → IsPlain (xs ++ ys)
IsPlain-append [] ys p q = q
IsPlain-append (x ∷ xs) ys p q = (p.0, IsPlain-append xs ys p.1 q)

-- two lists of plain lines in a row are plain
pub ArePlain-append : (xs ys : List Line) → ArePlain xs → ArePlain ys → ArePlain (xs ++ ys)
ArePlain-append [] ys p q = q
ArePlain-append (x ∷ xs) ys p q = (p.0, ArePlain-append xs ys p.1 q)

-- the first line of a text ends at the first newline
pub first_line : (line : Line) (rest : List ℕ) → IsPlain line → split_lines (line ++ 10 ∷ rest) ≡ line ∷ split_lines rest
first_line [] rest plain = refl
first_line (b ∷ line) rest plain = rw plain.0 (ap (in_front b) (first_line line rest plain.1))

-- so plain lines are the lines of their text
plain_again : (lines : List Line) → ArePlain lines → split_lines (text_of lines) ≡ lines
plain_again [] plain = refl
plain_again (line ∷ lines) plain = first_line line (text_of lines) plain.0 ∙ ap (λ r. line ∷ r) (plain_again lines plain.1)

-- names and escaped values have no newline

-- bytes of a name are plain
plain_bytes : (bs : List ℕ) → list_all continues_name bs ≡ true → IsPlain bs
plain_bytes [] h = tt
plain_bytes (b ∷ bs) h =
    let p = and_parts _ _ h in
    (false_from_ne_true _ (λ e. true≢false (sym p.0 ∙ ap continues_name (eqb-true b 10 e))), plain_bytes bs p.1)

-- a name is plain
plain_name : (name : List ℕ) → IsTrue (is_name name) → IsPlain name
plain_name name h = plain_bytes name (name_continues name h)

-- an escaped byte is plain, be it a newline, a tab, a backslash or any other
plain_byte : (b : ℕ) (newline tab backslash : Bool) → (b == 10) ≡ newline → (b == 9) ≡ tab → (b == 92) ≡ backslash → IsPlain (escaped_byte b)
plain_byte b true tab backslash e f g = rw e (refl, (refl, tt))
plain_byte b false true backslash e f g = rw (e, f) (refl, (refl, tt))
plain_byte b false false true e f g = rw (e, f, g) (refl, (refl, tt))
plain_byte b false false false e f g = rw (e, f, g) (e, tt)

-- an escaped value is plain
pub plain_value : (value : List ℕ) → IsPlain (escaped value)
plain_value [] = tt
plain_value (b ∷ bs) = IsPlain-append (escaped_byte b) (escaped bs) (plain_byte b (b == 10) (b == 9) (b == 92) refl refl refl) (plain_value bs)

-- the lines of attributes and nodes

-- the line of an attribute is plain
pub plain_attribute : (a : Attr) → IsTrue (is_name a.name) → IsPlain (attribute_line a)
plain_attribute a named = (refl, IsPlain-append a.name (32 ∷ escaped a.value) (plain_name a.name named) (refl, plain_value a.value))

-- the lines of attributes are plain
plain_attributes : (attrs : List Attr) → AreAttributes attrs → ArePlain (map attribute_line attrs)
plain_attributes [] are = tt
plain_attributes (a ∷ attrs) are = (plain_attribute a are.0, plain_attributes attrs are.2)

-- the line of a text is plain
pub plain_text : (value : List ℕ) → ArePlain (pyx_node (Text value))
plain_text value = rw (fold-Text (List Line) pyx_step value) ((refl, plain_value value), tt)

-- the line of an instruction is plain
plain_instruction : (target value : List ℕ) → IsTrue (is_name target) → IsPlain (target ++ behind_target value)
plain_instruction target [] named = IsPlain-append target [] (plain_name target named) tt
plain_instruction target (b ∷ bs) named = IsPlain-append target (32 ∷ escaped (b ∷ bs)) (plain_name target named) (refl, plain_value (b ∷ bs))

mutual
  -- the lines of a node are plain
  pub plain_node : (x : Node) → IsFormed x → ArePlain (pyx_node x)
  plain_node (Element' name attrs s row) formed =
      let named = plain_name name formed.0 in
      rw (fold-Element' (List Line) pyx_step name attrs s row) (
        (refl, named),
        ArePlain-append (map attribute_line attrs) _ (plain_attributes attrs formed.1)
            (ArePlain-append (pyx_of (items-the_row-Node _ row)) ((41 ∷ name) ∷ []) (plain_row _ row formed.3) ((refl, named), tt)),
      )
  plain_node (Text value) formed = plain_text value
  plain_node (Pi target value) formed = rw (fold-Pi (List Line) pyx_step target value) ((refl, plain_instruction target value formed), tt)

  -- the lines of a row of nodes are plain
  plain_row : (m : _) (row : Row_of-Node m) → AreFormed row → ArePlain (pyx_of (items-the_row-Node m row))
  plain_row _ end_of-Node formed = tt
  plain_row _ (more_of-Node x row) formed = ArePlain-append (pyx_node x) _ (plain_node x formed.0) (plain_row _ row formed.1)

-- the lines of a list of nodes are plain
pub plain_list : (xs : List Node) → AllFormed xs → ArePlain (pyx_of xs)
plain_list [] formed = tt
plain_list (x ∷ xs) formed = ArePlain-append (pyx_node x) (pyx_of xs) (plain_node x formed.0) (plain_list xs formed.1)

-- the lines of the text of a valid document are its canonical lines
pub text_again : (doc : Doc) → IsValid doc → split_lines (text_of (pyx doc)) ≡ pyx doc
text_again doc valid = plain_again (pyx doc) (plain_list doc.kids (valid_has_form doc valid).formed)
