-- How lines of PYX spell a document. A line is the list of its bytes, without a newline.
-- The bytes are those of `Str`: that they are UTF-8 is kept by that type, and not by these definitions.
use Rattle.std.specs.Prelude.{◌≡◌, ℕ, ◌+◌, ◌-◌, ◌<◌, ◌^◌, min, List, [], ◌∷◌, ◌++◌, map, length, Option, None, Some, Result, Ok, Err, Bool, true, false, not, ◌==◌, nat_lt, nat_le, if◌then◌else◌}
use Rattle.std.specs.Str.{bytes_eq}
use Rattle.std.specs.List.{before_first, after_first}
use Rattle.xq_ast.specs.declared.refusal.PyxRefusal.{PyxRefusal}
use Rattle.xq_ast.specs.declared.refusal.PyxRefusal.TheVariants.{BadLine, BadName, EndMismatch, AttributeLate, AttributeTwice, TooDeep, TooManyNodes, TooMuchText, Unclosed}
use Rattle.xml_model.specs.declared.limits.TheConstants.{DEPTH_MAX, NODES_MAX, TEXT_BYTES_MAX}
use Rattle.xml_model.specs.declared.node.Attr.{Attr}
use Rattle.xml_model.specs.declared.node.Doc.{Doc}
use Rattle.xml_model.specs.declared.node.RefusedLine.{RefusedLine}
use Rattle.xml_model.specs.declared.node.Node.{Node, out-Node}
use Rattle.xml_model.specs.declared.node.Node.TheOpen.{Node-F}
use Rattle.xml_model.specs.declared.node.Node.TheVariants.{Element, Text, Pi}
use Rattle.xml_model.specs.declared.node.Node.TheFolds.{fold-Node}
use Rattle.xq_ast.specs.Names.{is_name}
use Rattle.xml_model.specs.Trees.{joined, has_attribute}
use Rattle.xml_model.specs.Values.{escaped, unescaped}

-- a line of PYX: its bytes, without a newline
abbrev pub Line : Type 0
Line = List ℕ

-- What a line is by its first character.
pub data Form : Type 0 where
  no_form : Form
  begins : List ℕ → Form
  ends : List ℕ → Form
  attribute : List ℕ → List ℕ → Form
  characters : List ℕ → Form
  instruction : List ℕ → List ℕ → Form

-- what stands before the first space, and what behind it: nothing where there is none
abbrev pub before_space : List ℕ → List ℕ
before_space = before_first (λ b. b == 32)

-- what stands behind the first space: nothing where there is none
abbrev pub behind_space : List ℕ → List ℕ
behind_space = after_first (λ b. b == 32)

-- `(name`, `)name`, `Aname value`, `-value`, `?target value`
abbrev pub form : Line → Form
form [] = no_form
form (mark ∷ rest) =
    if mark == 40 then begins rest else
    (if mark == 41 then ends rest else
    (if mark == 65 then attribute (before_space rest) (unescaped (behind_space rest)) else
    (if mark == 45 then characters (unescaped rest) else
    (if mark == 63 then instruction (before_space rest) (unescaped (behind_space rest)) else no_form))))

-- An open element: its name, its attributes so far, and the nodes that stand before it in its list.
pub record OpenElement : Type 0 where
  pub name : List ℕ
  pub attrs : List Attr
  pub before : List Node

-- What has been read: the open elements, the innermost first; the nodes so far inside the innermost (or, with
-- none open, of the document); whether the last line begins an element or is an attribute; the nodes and the
-- bytes of values so far; and the number of lines.
pub record Reading : Type 0 where
  pub stack : List OpenElement
  pub here : List Node
  pub in_tag : Bool
  pub nodes : ℕ
  pub bytes : ℕ
  pub lines : ℕ

-- nothing has been read: no line, no node, no open element
abbrev pub start : Reading
start = record { stack = []; here = []; in_tag = false; nodes = 0; bytes = 0; lines = 0 }

-- an end tag of this name ends the innermost open element: there is one, and it has this name
abbrev pub closes : List ℕ → List OpenElement → Bool
closes name [] = false
closes name (e ∷ outer) = bytes_eq e.name name

-- the innermost open element has an attribute of this name
abbrev pub has_already : List ℕ → List OpenElement → Bool
has_already name [] = false
has_already name (e ∷ outer) = has_attribute name e.attrs

-- the node is a text, by its outermost layer
abbrev pub is_text_layer : Node-F Node → Bool
is_text_layer (Node-F.Element name attrs kids) = false
is_text_layer (Node-F.Text value) = true
is_text_layer (Node-F.Pi target value) = false

-- the last of the nodes is a text; of no nodes it is not
abbrev pub ends_in_text : List Node → Bool
ends_in_text [] = false
ends_in_text (n ∷ []) = is_text_layer (out-Node n)
ends_in_text (n ∷ m ∷ more) = ends_in_text (m ∷ more)

-- how many nodes characters add: they join a text that stands before them, and no characters are no node
abbrev pub texts_added : List ℕ → List Node → ℕ
texts_added [] here = 0
texts_added (b ∷ bs) here = if ends_in_text here then 0 else 1

-- the last node with more characters behind it: a text takes them in, any other node has them as a text beside it
abbrev pub added_to : Node-F Node → List ℕ → Node → List Node
added_to (Node-F.Text first) value n = Text (first ++ value) ∷ []
added_to (Node-F.Element name attrs kids) value n = n ∷ Text value ∷ []
added_to (Node-F.Pi target text) value n = n ∷ Text value ∷ []

-- the nodes with more characters at the end
abbrev pub with_characters : List ℕ → List Node → List Node
with_characters [] here = here
with_characters (b ∷ bs) [] = Text (b ∷ bs) ∷ []
with_characters (b ∷ bs) (n ∷ []) = added_to (out-Node n) (b ∷ bs) n
with_characters (b ∷ bs) (n ∷ m ∷ more) = n ∷ with_characters (b ∷ bs) (m ∷ more)

-- the first test that holds
abbrev pub first_of : List (Bool × PyxRefusal) → Option PyxRefusal
first_of [] = None
first_of (t ∷ tests) = if t.0 then Some t.1 else first_of tests

-- why a line is refused after what has been read, if it is
abbrev pub refusal : Form → Reading → Option PyxRefusal
refusal no_form r = Some BadLine
refusal (begins name) r = first_of (
    (not (is_name name), BadName) ∷
    (nat_le DEPTH_MAX (length r.stack), TooDeep) ∷
    (nat_lt NODES_MAX (r.nodes + 1), TooManyNodes) ∷ [])
refusal (ends name) r = first_of (
    (not (is_name name), BadName) ∷
    (not (closes name r.stack), EndMismatch) ∷ [])
refusal (attribute name value) r = first_of (
    (not (is_name name), BadName) ∷
    (not r.in_tag, AttributeLate) ∷
    (has_already name r.stack, AttributeTwice) ∷
    (nat_lt NODES_MAX (r.nodes + 1), TooManyNodes) ∷
    (nat_lt TEXT_BYTES_MAX (r.bytes + length value), TooMuchText) ∷ [])
refusal (characters value) r = first_of (
    (nat_lt NODES_MAX (r.nodes + texts_added value r.here), TooManyNodes) ∷
    (nat_lt TEXT_BYTES_MAX (r.bytes + length value), TooMuchText) ∷ [])
refusal (instruction target value) r = first_of (
    (not (is_name target), BadName) ∷
    (nat_lt NODES_MAX (r.nodes + 1), TooManyNodes) ∷
    (nat_lt TEXT_BYTES_MAX (r.bytes + length value), TooMuchText) ∷ [])

-- the open elements with one attribute more on the innermost
abbrev pub with_attribute : Attr → List OpenElement → List OpenElement
with_attribute a [] = []
with_attribute a (e ∷ outer) = record e { attrs = e.attrs ++ a ∷ [] } ∷ outer

-- the reading with its innermost element ended
abbrev pub closed : List OpenElement → Reading → Reading
closed [] r = r
closed (e ∷ outer) r = record r { stack = outer; here = e.before ++ Element e.name e.attrs r.here ∷ []; in_tag = false }

-- what has been read after one line more, where it is not refused
abbrev pub taken : Form → Reading → Reading
taken no_form r = r
taken (begins name) r = record r { stack = record { name = name; attrs = []; before = r.here } ∷ r.stack; here = []; in_tag = true; nodes = r.nodes + 1 }
taken (ends name) r = closed r.stack r
taken (attribute name value) r =
    record r { stack = with_attribute (record { name = name; value = value }) r.stack; nodes = r.nodes + 1; bytes = r.bytes + length value }
taken (characters value) r =
    record r { here = with_characters value r.here; in_tag = false; nodes = r.nodes + texts_added value r.here; bytes = r.bytes + length value }
taken (instruction target value) r = record r { here = r.here ++ Pi target value ∷ []; in_tag = false; nodes = r.nodes + 1; bytes = r.bytes + length value }

-- the number of the next line, from 1; it stands still at the last number of 64 bits
abbrev pub next_line : ℕ → ℕ
next_line n = min (n + 1) (2 ^ 64 - 1)

-- what is read by a line of this form: a refusal with the line's number where there is one, and else one line more
abbrev pub stepped : Option PyxRefusal → Form → Reading → Result Reading RefusedLine
stepped (Some why) f r = Err (record { why = why; line = next_line r.lines })
stepped None f r = Ok (record (taken f r) { lines = next_line r.lines })

-- what has been read after one line more, or its refusal
abbrev pub step : Line → Reading → Result Reading RefusedLine
step line r = stepped (refusal (form line) r) (form line) r

-- goes on with what was read, or stays at the refusal
infixl 10 ◌>>=◌
abbrev pub ◌>>=◌ : {A B : Type 0} → Result A RefusedLine → (A → Result B RefusedLine) → Result B RefusedLine
(Ok x) >>= f = f x
(Err e) >>= f = Err e

-- what has been read after all lines, or the first refusal
abbrev pub after : List Line → Reading → Result Reading RefusedLine
after [] r = Ok r
after (line ∷ lines) r = step line r >>= after lines

-- the document of the nodes where no element is open, and else the refusal that one is not closed
abbrev pub ended_at : List OpenElement → Reading → Result Doc RefusedLine
ended_at [] r = Ok (record { kids = r.here })
ended_at (e ∷ outer) r = Err (record { why = Unclosed; line = next_line r.lines })

-- the document, where no element is open at the end
abbrev pub ended : Reading → Result Doc RefusedLine
ended r = ended_at r.stack r

-- the document that the lines spell, or the first refusal with its line
abbrev pub read : List Line → Result Doc RefusedLine
read lines = after lines start >>= ended

-- the canonical lines

-- the line of an attribute: A, its name, a space and its escaped value
abbrev pub attribute_line : Attr → Line
attribute_line a = 65 ∷ (a.name ++ 32 ∷ escaped a.value)

-- what stands behind the target of an instruction: a space and its escaped value, and nothing for an empty value
abbrev pub behind_target : List ℕ → List ℕ
behind_target [] = []
behind_target (b ∷ bs) = 32 ∷ escaped (b ∷ bs)

-- the lines of a node, from those of its children: an element has its start, attributes, children and end,
-- a text and an instruction have one line
abbrev pub pyx_step : Node-F (List Line) → List Line
pyx_step (Node-F.Element name attrs kids) = (40 ∷ name) ∷ (map attribute_line attrs ++ (joined kids ++ (41 ∷ name) ∷ []))
pyx_step (Node-F.Text value) = (45 ∷ escaped value) ∷ []
pyx_step (Node-F.Pi target value) = (63 ∷ (target ++ behind_target value)) ∷ []

-- the canonical lines of a node
abbrev pub pyx_node : Node → List Line
pyx_node = fold-Node (List Line) pyx_step

-- the canonical lines of nodes, one node after another
abbrev pub pyx_of : List Node → List Line
pyx_of nodes = joined (map pyx_node nodes)

-- the canonical lines of a document
abbrev pub pyx : Doc → List Line
pyx doc = pyx_of doc.kids

-- lines as one text, and a text as lines: each line ends with a newline, the last one need not

-- the lines as one text, each with a newline behind it
abbrev pub text_of : List Line → List ℕ
text_of [] = []
text_of (line ∷ lines) = line ++ 10 ∷ text_of lines

-- the byte stands in front of the first line, and is a line of its own where there is none
abbrev pub in_front : ℕ → List Line → List Line
in_front b [] = (b ∷ []) ∷ []
in_front b (line ∷ lines) = (b ∷ line) ∷ lines

-- the lines of a text; a last line without a newline is one of them
abbrev pub split_lines : List ℕ → List Line
split_lines [] = []
split_lines (b ∷ bs) = if b == 10 then [] ∷ split_lines bs else in_front b (split_lines bs)

-- the same of those lines alone that a newline ends
abbrev pub in_front_of_ended : ℕ → List Line → List Line
in_front_of_ended b [] = []
in_front_of_ended b (line ∷ lines) = (b ∷ line) ∷ lines

-- the lines of a text that a newline ends; what stands behind the last newline is left out
abbrev pub split_ended_lines : List ℕ → List Line
split_ended_lines [] = []
split_ended_lines (b ∷ bs) = if b == 10 then [] ∷ split_ended_lines bs else in_front_of_ended b (split_ended_lines bs)

-- bytes without a newline
abbrev pub IsPlain : List ℕ → Type 0
IsPlain [] = Unit {0}
IsPlain (b ∷ bs) = ((b == 10) ≡ false) × IsPlain bs

-- each line is without one
abbrev pub ArePlain : List Line → Type 0
ArePlain [] = Unit {0}
ArePlain (line ∷ more) = IsPlain line × ArePlain more

-- a text cut in two at its first newline
pub record IsCutLine (text line rest : List ℕ) : Type 0 where
  pub whole : text ≡ line ++ 10 ∷ rest
  pub plain : IsPlain line

-- a text is its first line, whether a newline ends it, and the rest
pub record IsFirstLine (text line : List ℕ) (is_ended : Bool) (rest : List ℕ) : Type 0 where
  pub lines : split_lines text ≡ line ∷ split_lines rest
  pub ended : split_ended_lines text ≡ (if is_ended then line ∷ split_ended_lines rest else [])
  pub shorter : length rest < length text
