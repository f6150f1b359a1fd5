-- What the functions answer (XQuery 1.0 and XPath 2.0 Functions and Operators, sections 2, 7, 9, 14, 15 and 16). The
-- arguments have been evaluated; how many each function takes is tested before (`functions` of xq_ast).
use Rattle.std.specs.Prelude.{ℕ, ℤ, pos, Bool, true, false, not, ◌&&◌, ◌||◌, ◌==◌, if◌then◌else◌, List, [], ◌∷◌, length, map, codes, bytes_eq, Option, Some, None, Result, Ok, Err}
use Rattle.std.specs.List.{concat}
use Rattle.std.specs.Fmt.{char_count}
use Rattle.xq_ast.specs.declared.code.Code.{Code}
use Rattle.xq_ast.specs.declared.code.Code.TheVariants.{XPDY0002, XPTY0004}
use Rattle.xml_model.specs.Place.{Placed}
use Rattle.xml_model.specs.Items.{Documents, Item, Items, node, string, integer, boolean, Made, ◌>>?◌, node_at}
use Rattle.xml_model.specs.declared.value.Atom.TheVariants as atom
use Rattle.xml_model.specs.Atoms.{Atoms, atom_text, effective_boolean, sum_of}
use Rattle.xml_model.specs.Nodes.{atomized_item, atomized, name_of}
use Rattle.xml_model.specs.Constructors.{limited_text}

-- the context: the context item, its position from 1, and the number of items that it is one of
pub record Focus : Type 0 where
  pub item : Item
  pub position : ℕ
  pub size : ℕ

abbrev pub Context : Type 0
Context = Option Focus

-- the context item as a list
abbrev pub context_item : Context → Result Items Code
context_item None = Err XPDY0002
context_item (Some focus) = Ok (focus.item ∷ [])

-- without an argument, the context item is it
abbrev pub or_context : Context → List Items → Result Items Code
or_context cx [] = context_item cx
or_context cx (value ∷ more) = Ok value

abbrev pub first_of : List Items → Items
first_of [] = []
first_of (value ∷ more) = value

abbrev pub second_of : List Items → Items
second_of [] = []
second_of (value ∷ more) = first_of more

abbrev pub is_empty : Items → Bool
is_empty [] = true
is_empty (item ∷ items) = false

-- ---- texts

-- the string of one item at most
abbrev pub string_of : Documents → Made → Items → Result (List ℕ) Code
string_of docs made [] = Ok []
string_of docs made (item ∷ []) = Ok (atom_text (atomized_item docs made item))
string_of docs made (item ∷ other ∷ items) = Err XPTY0004

-- the name of what stands there
abbrev pub name_at : Option Placed → List ℕ
name_at None = []
name_at (Some there) = name_of there

-- the name of one node at most
abbrev pub name_of_one : Documents → Made → Items → Result (List ℕ) Code
name_of_one docs made [] = Ok []
name_of_one docs made (node n ∷ []) = Ok (name_at (node_at docs made n))
name_of_one docs made (string text ∷ []) = Err XPTY0004
name_of_one docs made (integer n ∷ []) = Err XPTY0004
name_of_one docs made (boolean b ∷ []) = Err XPTY0004
name_of_one docs made (item ∷ other ∷ items) = Err XPTY0004

-- an argument that must be a string: nothing is the empty one, and a node has its string value
abbrev pub string_argument : Atoms → Result (List ℕ) Code
string_argument [] = Ok []
string_argument (atom.Untyped text ∷ []) = Ok text
string_argument (atom.Text text ∷ []) = Ok text
string_argument (atom.Int n ∷ []) = Err XPTY0004
string_argument (atom.Truth b ∷ []) = Err XPTY0004
string_argument (value ∷ other ∷ values) = Err XPTY0004

-- an argument of `concat`: nothing, or one atomic value of any type
abbrev pub concat_argument : Atoms → Result (List ℕ) Code
concat_argument [] = Ok []
concat_argument (value ∷ []) = Ok (atom_text value)
concat_argument (value ∷ other ∷ values) = Err XPTY0004

abbrev pub concat_arguments : List Atoms → Result (List (List ℕ)) Code
concat_arguments [] = Ok []
concat_arguments (a ∷ more) = concat_argument a >>? (λ text. concat_arguments more >>? (λ texts. Ok (text ∷ texts)))

-- the second text stands at the beginning of the first
abbrev pub begins_with : List ℕ → List ℕ → Bool
begins_with text [] = true
begins_with [] (b ∷ bytes) = false
begins_with (a ∷ text) (b ∷ bytes) = (a == b) && begins_with text bytes

-- or somewhere in it
abbrev pub has_within : List ℕ → List ℕ → Bool
has_within [] wanted = begins_with [] wanted
has_within (a ∷ text) wanted = begins_with (a ∷ text) wanted || has_within text wanted

-- ---- answers

abbrev pub string_answer : List ℕ → Result Items Code
string_answer text = limited_text text >>? (λ t. Ok (string t ∷ []))

abbrev pub integer_answer : ℤ → Result Items Code
integer_answer n = Ok (integer n ∷ [])

abbrev pub boolean_answer : Bool → Result Items Code
boolean_answer b = Ok (boolean b ∷ [])

-- the code where there is no context, and else a number of it
abbrev pub of_focus : (Focus → ℕ) → Context → Result Items Code
of_focus number None = Err XPDY0002
of_focus number (Some focus) = integer_answer (pos (number focus))

-- a test of two texts
abbrev pub tested_texts : (List ℕ → List ℕ → Bool) → Atoms → Atoms → Result Items Code
tested_texts holds a b = string_argument a >>? (λ text. string_argument b >>? (λ wanted. boolean_answer (holds text wanted)))

-- what is measured: the argument, which must be a string, or without one the text of the context item, whatever it is
abbrev pub measured : Documents → Made → Context → List Items → Result (List ℕ) Code
measured docs made cx [] = context_item cx >>? string_of docs made
measured docs made cx (value ∷ more) = string_argument (atomized docs made value)

-- the name of a function with what it answers of its arguments
abbrev pub FunctionRow : Type 0
FunctionRow = List ℕ × (List Items → Result Items Code)

-- the functions of `functions` of xq_ast, each with its answer
abbrev pub rows : Documents → Made → Context → List FunctionRow
rows docs made cx =
    (codes "count", λ args. integer_answer (pos (length (first_of args))))
    ∷ (codes "empty", λ args. boolean_answer (is_empty (first_of args)))
    ∷ (codes "exists", λ args. boolean_answer (not (is_empty (first_of args))))
    ∷ (codes "not", λ args. effective_boolean (first_of args) >>? (λ b. boolean_answer (not b)))
    ∷ (codes "true", λ args. boolean_answer true)
    ∷ (codes "false", λ args. boolean_answer false)
    ∷ (codes "string", λ args. or_context cx args >>? string_of docs made >>? string_answer)
    ∷ (codes "name", λ args. or_context cx args >>? name_of_one docs made >>? string_answer)
    ∷ (codes "contains", λ args. tested_texts has_within (atomized docs made (first_of args)) (atomized docs made (second_of args)))
    ∷ (codes "starts-with", λ args. tested_texts begins_with (atomized docs made (first_of args)) (atomized docs made (second_of args)))
    ∷ (codes "string-length", λ args. measured docs made cx args >>? (λ text. integer_answer (pos (char_count text))))
    ∷ (codes "concat", λ args. concat_arguments (map (atomized docs made) args) >>? (λ texts. string_answer (concat texts)))
    ∷ (codes "sum", λ args. sum_of (atomized docs made (first_of args)) >>? integer_answer)
    ∷ (codes "position", λ args. of_focus (λ focus. focus.position) cx)
    ∷ (codes "last", λ args. of_focus (λ focus. focus.size) cx)
    ∷ []

-- what the function of this name answers; a name of none has been refused before
abbrev pub answer_of_row : List FunctionRow → List ℕ → List Items → Result Items Code
answer_of_row [] name args = Ok []
answer_of_row (row ∷ more) name args = if bytes_eq name row.0 then row.1 args else answer_of_row more name args

abbrev pub call_function : Documents → Made → Context → List ℕ → List Items → Result Items Code
call_function docs made cx = answer_of_row (rows docs made cx)
