-- Which lines spell which nodes: the relation behind PYX, with one case each for an element, an instruction and a
-- run of lines of characters. That `read` gives a document just where the lines spell it and its limits hold is a law.
use Rattle.std.specs.Prelude.{◌≡◌, ◌<◌, ◌≤◌, ℕ, Bool, true, false, IsTrue, List, [], ◌∷◌, ◌++◌, length}
use Rattle.xq_ast.specs.Names.{is_name}
use Rattle.xml_model.specs.declared.limits.TheConstants.{DEPTH_MAX, NODES_MAX, TEXT_BYTES_MAX}
use Rattle.xml_model.specs.declared.node.Attr.{Attr}
use Rattle.xml_model.specs.declared.node.Doc.{Doc}
use Rattle.xml_model.specs.declared.node.Node.{Node}
use Rattle.xml_model.specs.declared.node.Node.TheVariants.{Element, Text, Pi}
use Rattle.xml_model.specs.Trees.{count_of, bytes_of, depth_of}
use Rattle.xml_model.specs.Document.{are_attributes}
use Rattle.xml_model.specs.Pyx.{Line, Form, no_form, begins, ends, attribute, characters, instruction, form}

-- a line an attribute
pub data SpellAttributes : List Line → List Attr → Type 0 where
  no_attributes : SpellAttributes [] []
  an_attribute : {line : Line} {lines : List Line} {a : Attr} {attrs : List Attr} → form line ≡ attribute a.name a.value → SpellAttributes lines attrs
      → SpellAttributes (line ∷ lines) (a ∷ attrs)

-- lines of characters, whose values follow one another
pub data SpellCharacters : List Line → List ℕ → Type 0 where
  no_characters : SpellCharacters [] []
  some_characters : {line : Line} {lines : List Line} {value more : List ℕ} → form line ≡ characters value → SpellCharacters lines more
      → SpellCharacters (line ∷ lines) (value ++ more)

-- the line is one of characters, by its form
abbrev pub is_characters : Form → Bool
is_characters no_form = false
is_characters (begins name) = false
is_characters (ends name) = false
is_characters (attribute name value) = false
is_characters (characters value) = true
is_characters (instruction target value) = false

-- the first line is there, and is one of characters
abbrev pub begins_with_characters : List Line → Bool
begins_with_characters [] = false
begins_with_characters (line ∷ lines) = is_characters (form line)

-- the lines spell the nodes, one after another
pub data Spell : List Line → List Node → Type 0 where
  no_nodes : Spell [] []
  -- a start tag, the attributes, of which no two have one name, the content and the end tag of the same name
  an_element : {name : List ℕ} {attrs : List Attr} {kids nodes : List Node} {first : Line} {tags inside rest : List Line} (last : Line)
      → form first ≡ begins name → IsTrue (is_name name) → SpellAttributes tags attrs → IsTrue (are_attributes attrs) → Spell inside kids
      → form last ≡ ends name
      → Spell rest nodes → Spell (first ∷ (tags ++ (inside ++ last ∷ rest))) (Element name attrs kids ∷ nodes)
  an_instruction : {target value : List ℕ} {nodes : List Node} {line : Line} {rest : List Line}
      → form line ≡ instruction target value → IsTrue (is_name target) → Spell rest nodes → Spell (line ∷ rest) (Pi target value ∷ nodes)
  -- as many lines of characters as follow one another are one text
  a_text : {value : List ℕ} {nodes : List Node} {run rest : List Line}
      → SpellCharacters run value → 0 < length value → begins_with_characters rest ≡ false → Spell rest nodes → Spell (run ++ rest) (Text value ∷ nodes)
  -- and none where they have no character
  no_text : {value : List ℕ} {nodes : List Node} {line : Line} {run rest : List Line}
      → SpellCharacters (line ∷ run) value → value ≡ [] → begins_with_characters rest ≡ false → Spell rest nodes → Spell ((line ∷ run) ++ rest) nodes

-- the lines spell the document, and its three limits hold
pub record SpellsWithinLimits (lines : List Line) (doc : Doc) : Type 0 where
  pub spelled : Spell lines doc.kids
  pub depth : depth_of doc.kids ≤ DEPTH_MAX
  pub nodes : count_of doc.kids ≤ NODES_MAX
  pub text : bytes_of doc.kids ≤ TEXT_BYTES_MAX
