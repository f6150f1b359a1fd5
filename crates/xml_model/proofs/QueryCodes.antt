-- What evaluation does with values ends with a value or with a code that a query may have.
use Rattle.std.proofs.Common.{ℕ, ◌+◌, Bool, true, false, not, IsTrue, List, [], ◌∷◌, map, length, Option, Some, None, Result, Ok, Err, refl}
use Rattle.std.specs.Prelude.{ℤ, pos, ◌+ℤ◌, ◌-ℤ◌, ◌*ℤ◌, int_div, int_rem, int_lt, int_le, unsigned_abs, if◌then◌else◌, nat_lt, bytes_eq, codes, ◌||◌, ok_or}
use Rattle.std.specs.Fmt.{char_count}
use Rattle.std.specs.List.{concat, range_with_len}
use Rattle.std.specs.Ordering.{int_cmp, bool_cmp, int_eq}
use Rattle.xq_ast.specs.declared.code.Code.{Code}
use Rattle.xq_ast.specs.declared.code.Code.TheVariants.{XPTY0004, FOAR0001, FOAR0002, FORG0001, XQTY0024, XQDY0025, TooDeep, TooManyNodes, TooMuchText, TooManyItems}
use Rattle.xq_ast.specs.declared.tree.CompareOp.{CompareOp}
use Rattle.xq_ast.specs.declared.tree.ProductOp.{ProductOp}
use Rattle.xq_ast.specs.declared.tree.ProductOp.TheVariants.{Times, Idiv, Mod}
use Rattle.xq_ast.specs.declared.tree.Sign.{Sign}
use Rattle.xml_model.specs.declared.limits.TheConstants.{DEPTH_MAX, NODES_MAX, TEXT_BYTES_MAX, ITEMS_MAX}
use Rattle.xml_model.specs.declared.node.Doc.{Doc}
use Rattle.xml_model.specs.declared.node.Node.{Node}
use Rattle.xml_model.specs.declared.node.Node.TheVariants.{Element}
use Rattle.xml_model.specs.declared.value.Atom.{Atom}
use Rattle.xml_model.specs.declared.value.Atom.TheVariants as atom
use Rattle.xml_model.specs.declared.value.KeyType.{KeyType}
use Rattle.xml_model.specs.declared.value.KeyType.TheVariants as types
use Rattle.xml_model.specs.DocumentOrder.{union, in_order}
use Rattle.xml_model.specs.Items.{Documents, NodeAt, Items, node, string, integer, boolean, Made, ◌>>?◌}
use Rattle.xml_model.specs.Atoms.{Atoms, trimmed, signed_of, is_long, long_or, to_integer, to_boolean, effective_boolean, ordered_by, atom_cmp, or_else, some_right, compares, operand, operated, within_long, divided, sum_op, product_op, chained, is_minus, signed_by, range_of, summand, summands, added_up, sum_of}
use Rattle.xml_model.specs.Nodes.{node_cmp, nodes_or, united, united_all, atomized}
use Rattle.xml_model.specs.Constructors.{Piece, has_late_attribute, has_name_twice, attributes_of, children_of, limited, element, limited_text}
use Rattle.xml_model.specs.FunctionAnswers.{Focus, Context, context_item, or_context, first_of, second_of, string_of, name_of_one, string_argument, concat_argument, concat_arguments, begins_with, has_within, string_answer, integer_answer, boolean_answer, of_focus, tested_texts, measured, FunctionRow, rows, answer_of_row, call_function}
use Rattle.xml_model.specs.Tuples.{key_of, joined_type}
use Rattle.xml_model.specs.Evaluation.{holds_at, document_node}
use Rattle.xml_model.specs.QueryCodes.{is_query_code}
use Rattle.xml_model.specs.Trees.{count_node, bytes_node, depth_node}
use Rattle.xml_model.proofs.Alike.{Each, Any}

-- a value that has the property, or a code that a query may have
abbrev pub Ends : {A : Type 0} → (A → Type 0) → Result A Code → Type 0
Ends G (Ok x) = G x
Ends G (Err code) = IsTrue (is_query_code code)

-- any value, or such a code
abbrev pub Coded : {A : Type 0} → Result A Code → Type 0
Coded = Ends Any

-- one after the other
pub coded_then : {A B : Type 0} (f : A → Result B Code) → ((x : A) → Coded (f x)) → (r : Result A Code) → Coded r → Coded (r >>? f)
coded_then f h (Ok x) g = h x
coded_then f h (Err code) g = g

-- two choices by a truth value
pub coded_if : {A : Type 0} (b : Bool) (r s : Result A Code) → Coded r → Coded s → Coded (if b then r else s)
coded_if true r s g h = g
coded_if false r s g h = h

-- ---- casts and truth

long_coded : (code : Code) (n : ℤ) → IsTrue (is_query_code code) → Coded (long_or code n)
long_coded code n g = coded_if (is_long n) (Ok n) (Err code) tt g

number_coded : (o : Option ℤ) → Coded (ok_or o FORG0001 >>? long_or FORG0001)
number_coded None = refl
number_coded (Some n) = long_coded FORG0001 n refl

integer_coded : (text : List ℕ) → Coded (to_integer text)
integer_coded text = number_coded (signed_of (trimmed text))

boolean_coded : (text : List ℕ) → Coded (to_boolean text)
boolean_coded text =
    let t = trimmed text in
    coded_if (bytes_eq t (codes "true") || bytes_eq t (codes "1")) _ _ tt (coded_if (bytes_eq t (codes "false") || bytes_eq t (codes "0")) _ _ tt refl)

-- of the effective boolean value
pub effective_coded : (items : Items) → Coded (effective_boolean items)
effective_coded [] = tt
effective_coded (node n ∷ more) = tt
effective_coded (string text ∷ []) = tt
effective_coded (integer n ∷ []) = tt
effective_coded (boolean b ∷ []) = tt
effective_coded (string text ∷ item ∷ more) = refl
effective_coded (integer n ∷ item ∷ more) = refl
effective_coded (boolean b ∷ item ∷ more) = refl

-- of a predicate
pub holds_coded : (position : ℕ) (items : Items) → Coded (holds_at position items)
holds_coded position [] = tt
holds_coded position (node n ∷ items) = tt
holds_coded position (string text ∷ items) = effective_coded (string text ∷ items)
holds_coded position (integer n ∷ []) = tt
holds_coded position (integer n ∷ item ∷ items) = refl
holds_coded position (boolean b ∷ items) = effective_coded (boolean b ∷ items)

-- ---- comparison

cmp_coded : (a b : Atom) → Coded (atom_cmp a b)
cmp_coded (atom.Untyped a) (atom.Untyped b) = tt
cmp_coded (atom.Untyped a) (atom.Text b) = tt
cmp_coded (atom.Untyped a) (atom.Int b) = coded_then (λ n. Ok (int_cmp n b)) (λ n. tt) (to_integer a) (integer_coded a)
cmp_coded (atom.Untyped a) (atom.Truth b) = coded_then (λ t. Ok (bool_cmp t b)) (λ t. tt) (to_boolean a) (boolean_coded a)
cmp_coded (atom.Text a) (atom.Untyped b) = tt
cmp_coded (atom.Text a) (atom.Text b) = tt
cmp_coded (atom.Text a) (atom.Int b) = refl
cmp_coded (atom.Text a) (atom.Truth b) = refl
cmp_coded (atom.Int a) (atom.Untyped b) = coded_then (λ n. Ok (int_cmp a n)) (λ n. tt) (to_integer b) (integer_coded b)
cmp_coded (atom.Int a) (atom.Text b) = refl
cmp_coded (atom.Int a) (atom.Int b) = tt
cmp_coded (atom.Int a) (atom.Truth b) = refl
cmp_coded (atom.Truth a) (atom.Untyped b) = coded_then (λ t. Ok (bool_cmp a t)) (λ t. tt) (to_boolean b) (boolean_coded b)
cmp_coded (atom.Truth a) (atom.Text b) = refl
cmp_coded (atom.Truth a) (atom.Int b) = refl
cmp_coded (atom.Truth a) (atom.Truth b) = tt

else_coded : (b : Bool) (r : Result Bool Code) → Coded r → Coded (or_else b r)
else_coded true r g = tt
else_coded false r g = g

right_coded : (op : CompareOp) (a : Atom) (bs : Atoms) → Coded (some_right op a bs)
right_coded op a [] = tt
right_coded op a (b ∷ bs) =
    coded_then (λ o. or_else (ordered_by op o) (some_right op a bs)) (λ o. else_coded (ordered_by op o) (some_right op a bs) (right_coded op a bs)) (atom_cmp a b) (cmp_coded a b)

-- of a comparison
pub compares_coded : (op : CompareOp) (left right : Atoms) → Coded (compares op left right)
compares_coded op [] bs = tt
compares_coded op (a ∷ more) bs =
    coded_then (λ found. or_else found (compares op more bs)) (λ found. else_coded found (compares op more bs) (compares_coded op more bs)) (some_right op a bs) (right_coded op a bs)

-- ---- arithmetic

operand_coded : (a : Atom) → Coded (operand a)
operand_coded (atom.Untyped text) = integer_coded text
operand_coded (atom.Text text) = refl
operand_coded (atom.Int n) = tt
operand_coded (atom.Truth b) = refl

operated_coded : (op : ℤ → ℤ → Result Items Code) → ((n m : ℤ) → Coded (op n m)) → (left right : Atoms) → Coded (operated op left right)
operated_coded op h [] bs = tt
operated_coded op h (a ∷ more) [] = tt
operated_coded op h (a ∷ []) (b ∷ []) =
    coded_then (λ n. operand b >>? op n) (λ n. coded_then (op n) (h n) (operand b) (operand_coded b)) (operand a) (operand_coded a)
operated_coded op h (a ∷ []) (b ∷ c ∷ bs) = refl
operated_coded op h (a ∷ d ∷ more) (b ∷ bs) = refl

within_coded : (op : ℤ → ℤ → ℤ) (n m : ℤ) → Coded (within_long op n m)
within_coded op n m = coded_then (λ k. Ok (integer k ∷ [])) (λ k. tt) (long_or FOAR0002 (op n m)) (long_coded FOAR0002 (op n m) refl)

divided_coded : (op : ℤ → ℤ → ℤ) (n m : ℤ) → Coded (divided op n m)
divided_coded op n m = coded_if (int_eq m (pos 0)) (Err FOAR0001) (within_long op n m) refl (within_coded op n m)

-- of an addition or a subtraction
pub sum_coded : (is_less : Bool) (n m : ℤ) → Coded (sum_op is_less n m)
sum_coded false n m = within_coded (λ n m. n +ℤ m) n m
sum_coded true n m = within_coded (λ n m. n -ℤ m) n m

-- of a multiplication or a division
pub product_coded : (op : ProductOp) (n m : ℤ) → Coded (product_op op n m)
product_coded Times n m = within_coded (λ n m. n *ℤ m) n m
product_coded Idiv n m = divided_coded int_div n m
product_coded Mod n m = divided_coded int_rem n m

-- of several operators
pub chained_coded : {O : Type 0} (atoms : Items → Atoms) (op : O → ℤ → ℤ → Result Items Code) → ((o : O) (n m : ℤ) → Coded (op o n m))
    → (left : Items) (ps : List (O × Items)) → Coded (chained atoms op left ps)
chained_coded atoms op h left [] = tt
chained_coded atoms op h left (p ∷ ps) =
    coded_then (λ found. chained atoms op found ps) (λ found. chained_coded atoms op h found ps) (operated (op p.0) (atoms left) (atoms p.1))
    (operated_coded (op p.0) (h p.0) (atoms left) (atoms p.1))

-- of signs
pub signed_coded : (atoms : Items → Atoms) (signs : List Sign) (value : Items) → Coded (signed_by atoms signs value)
signed_coded atoms [] value = tt
signed_coded atoms (sign ∷ signs) value =
    coded_then (λ found. operated (sum_op (is_minus sign)) (atom.Int (pos 0) ∷ []) (atoms found))
    (λ found. operated_coded (sum_op (is_minus sign)) (sum_coded (is_minus sign)) (atom.Int (pos 0) ∷ []) (atoms found)) (signed_by atoms signs value) (signed_coded atoms signs value)

-- of `to`
pub range_coded : (left right : Atoms) → Coded (operated range_of left right)
range_coded = operated_coded range_of (λ n m.
    let all : Items = map (λ k. integer (n +ℤ pos k)) (range_with_len 0 (unsigned_abs (m -ℤ n) + 1)) in
    let too_many = int_le (pos ITEMS_MAX) (m -ℤ n) in
    coded_if (int_lt m n) (Ok []) (if too_many then Err TooManyItems else Ok all) tt (coded_if too_many (Err TooManyItems) (Ok all) refl tt))

summand_coded : (a : Atom) → Coded (summand a)
summand_coded (atom.Untyped text) = integer_coded text
summand_coded (atom.Text text) = refl
summand_coded (atom.Int n) = tt
summand_coded (atom.Truth b) = refl

summands_coded : (values : Atoms) → Coded (summands values)
summands_coded [] = tt
summands_coded (a ∷ more) =
    coded_then (λ n. summands more >>? (λ ns. Ok (n ∷ ns))) (λ n. coded_then (λ ns. Ok (n ∷ ns)) (λ ns. tt) (summands more) (summands_coded more)) (summand a) (summand_coded a)

added_coded : (total : ℤ) (ns : List ℤ) → Coded (added_up total ns)
added_coded total [] = tt
added_coded total (n ∷ ns) = coded_then (λ more. added_up more ns) (λ more. added_coded more ns) (long_or FOAR0002 (total +ℤ n)) (long_coded FOAR0002 (total +ℤ n) refl)

-- ---- nodes

-- of a list that must have nodes alone
pub nodes_coded : (code : Code) → IsTrue (is_query_code code) → (items : Items) → Coded (nodes_or code items)
nodes_coded code g [] = tt
nodes_coded code g (node n ∷ items) = coded_then (λ ns. Ok (n ∷ ns)) (λ ns. tt) (nodes_or code items) (nodes_coded code g items)
nodes_coded code g (string text ∷ items) = g
nodes_coded code g (integer n ∷ items) = g
nodes_coded code g (boolean b ∷ items) = g

united_coded : (left : List NodeAt) (right : Items) → Coded (united left right)
united_coded left right = coded_then (λ ns. Ok (union node_cmp left (in_order node_cmp ns))) (λ ns. tt) (nodes_or XPTY0004 right) (nodes_coded XPTY0004 refl right)

-- of a union
pub united_all_coded : (left : List NodeAt) (lists : List Items) → Coded (united_all left lists)
united_all_coded left [] = tt
united_all_coded left (right ∷ lists) = coded_then (λ ns. united_all ns lists) (λ ns. united_all_coded ns lists) (united left right) (united_coded left right)

-- of a document
pub document_coded : (docs : Documents) (o : Option Doc) (name : List ℕ) → Coded (document_node docs o name)
document_coded docs None name = refl
document_coded docs (Some doc) name = tt

-- ---- constructors

-- of a text
pub limited_coded : (text : List ℕ) → Coded (limited_text text)
limited_coded text = coded_if (nat_lt TEXT_BYTES_MAX (length text)) (Err TooMuchText) (Ok text) refl tt

limited_tree_coded : (n : Node) → Coded (limited n)
limited_tree_coded n =
    coded_if (nat_lt DEPTH_MAX (depth_node n)) (Err TooDeep) _ refl (coded_if (nat_lt NODES_MAX (count_node n)) (Err TooManyNodes) _ refl
    (coded_if (nat_lt TEXT_BYTES_MAX (bytes_node n)) (Err TooMuchText) (Ok n) refl tt))

-- of an element
pub element_coded : (name : List ℕ) (content : List Piece) → Coded (element name content)
element_coded name content =
    coded_if (has_late_attribute false content) (Err XQTY0024) _ refl (coded_if (has_name_twice (attributes_of content)) (Err XQDY0025) _ refl
    (limited_tree_coded (Element name (attributes_of content) (children_of content))))

-- ---- functions

-- of the context item
pub context_coded : (cx : Context) → Coded (context_item cx)
context_coded None = refl
context_coded (Some focus) = tt

-- of the context item as a node
pub context_node_coded : (code : Code) → IsTrue (is_query_code code) → (cx : Context) → Coded (context_item cx >>? nodes_or code)
context_node_coded code g cx = coded_then (nodes_or code) (nodes_coded code g) (context_item cx) (context_coded cx)

or_context_coded : (cx : Context) (args : List Items) → Coded (or_context cx args)
or_context_coded cx [] = context_coded cx
or_context_coded cx (value ∷ more) = tt

string_coded : (docs : Documents) (made : Made) (items : Items) → Coded (string_of docs made items)
string_coded docs made [] = tt
string_coded docs made (item ∷ []) = tt
string_coded docs made (item ∷ other ∷ items) = refl

name_coded : (docs : Documents) (made : Made) (items : Items) → Coded (name_of_one docs made items)
name_coded docs made [] = tt
name_coded docs made (node n ∷ []) = tt
name_coded docs made (string text ∷ []) = refl
name_coded docs made (integer n ∷ []) = refl
name_coded docs made (boolean b ∷ []) = refl
name_coded docs made (item ∷ other ∷ items) = refl

argument_coded : (values : Atoms) → Coded (string_argument values)
argument_coded [] = tt
argument_coded (atom.Untyped text ∷ []) = tt
argument_coded (atom.Text text ∷ []) = tt
argument_coded (atom.Int n ∷ []) = refl
argument_coded (atom.Truth b ∷ []) = refl
argument_coded (value ∷ other ∷ values) = refl

concat_one_coded : (values : Atoms) → Coded (concat_argument values)
concat_one_coded [] = tt
concat_one_coded (value ∷ []) = tt
concat_one_coded (value ∷ other ∷ values) = refl

concat_coded : (lists : List Atoms) → Coded (concat_arguments lists)
concat_coded [] = tt
concat_coded (a ∷ more) =
    coded_then (λ text. concat_arguments more >>? (λ texts. Ok (text ∷ texts)))
    (λ text. coded_then (λ texts. Ok (text ∷ texts)) (λ texts. tt) (concat_arguments more) (concat_coded more)) (concat_argument a) (concat_one_coded a)

text_coded : (text : List ℕ) → Coded (string_answer text)
text_coded text = coded_then (λ t. Ok (string t ∷ [])) (λ t. tt) (limited_text text) (limited_coded text)

focus_coded : (number : Focus → ℕ) (cx : Context) → Coded (of_focus number cx)
focus_coded number None = refl
focus_coded number (Some focus) = tt

texts_coded : (holds : List ℕ → List ℕ → Bool) (a b : Atoms) → Coded (tested_texts holds a b)
texts_coded holds a b =
    coded_then (λ text. string_argument b >>? (λ wanted. boolean_answer (holds text wanted)))
    (λ text. coded_then (λ wanted. boolean_answer (holds text wanted)) (λ wanted. tt) (string_argument b) (argument_coded b)) (string_argument a) (argument_coded a)

module _ (docs : Documents) (made : Made) (cx : Context) where
  measured_coded : (args : List Items) → Coded (measured docs made cx args)
  measured_coded [] = coded_then (string_of docs made) (string_coded docs made) (context_item cx) (context_coded cx)
  measured_coded (value ∷ more) = argument_coded (atomized docs made value)

  row_coded : (all : List FunctionRow) → Each (λ row. (args : List Items) → Coded (row.1 args)) all → (name : List ℕ) (args : List Items) → Coded (answer_of_row all name args)
  row_coded [] h name args = tt
  row_coded (row ∷ all) h name args = coded_if (bytes_eq name row.0) (row.1 args) (answer_of_row all name args) (h.0 args) (row_coded all h.1 name args)

  -- of a function
  pub call_coded : (name : List ℕ) (args : List Items) → Coded (call_function docs made cx name args)
  call_coded = row_coded (rows docs made cx) (
    (λ args. tt),
    (
      (λ args. tt),
      (
        (λ args. tt),
        (
          (λ args. coded_then (λ b. boolean_answer (not b)) (λ b. tt) (effective_boolean (first_of args)) (effective_coded (first_of args))),
          (
            (λ args. tt),
            (
              (λ args. tt),
              (
                (λ args. coded_then string_answer text_coded (or_context cx args >>? string_of docs made)
                    (coded_then (string_of docs made) (string_coded docs made) (or_context cx args) (or_context_coded cx args))),
                (
                  (λ args. coded_then string_answer text_coded (or_context cx args >>? name_of_one docs made)
                      (coded_then (name_of_one docs made) (name_coded docs made) (or_context cx args) (or_context_coded cx args))),
                  (
                    (λ args. texts_coded has_within (atomized docs made (first_of args)) (atomized docs made (second_of args))),
                    (
                      (λ args. texts_coded begins_with (atomized docs made (first_of args)) (atomized docs made (second_of args))),
                      (
                        (λ args. coded_then (λ text. integer_answer (pos (char_count text))) (λ text. tt) (measured docs made cx args) (measured_coded args)),
                        (
                          (λ args. coded_then (λ texts. string_answer (concat texts)) (λ texts. text_coded (concat texts)) (concat_arguments (map (atomized docs made) args))
                              (concat_coded (map (atomized docs made) args))),
                          (
                            (λ args. coded_then integer_answer (λ n. tt) (sum_of (atomized docs made (first_of args)))
                                (coded_then (added_up (pos 0)) (added_coded (pos 0)) (summands (atomized docs made (first_of args))) (summands_coded (atomized docs made (first_of args))))),
                            ((λ args. focus_coded (λ focus. focus.position) cx), ((λ args. focus_coded (λ focus. focus.size) cx), tt)),
                          ),
                        ),
                      ),
                    ),
                  ),
                ),
              ),
            ),
          ),
        ),
      ),
    ),
  )

-- ---- keys

-- of a key
pub key_coded : (values : Atoms) → Coded (key_of values)
key_coded [] = tt
key_coded (atom.Untyped text ∷ []) = tt
key_coded (atom.Text text ∷ []) = tt
key_coded (atom.Int n ∷ []) = tt
key_coded (atom.Truth b ∷ []) = tt
key_coded (value ∷ other ∷ values) = refl

-- of its type with those of earlier tuples
pub joined_coded : (earlier type : KeyType) → Coded (joined_type earlier type)
joined_coded types.Unknown t = tt
joined_coded types.Text types.Unknown = tt
joined_coded types.Text types.Text = tt
joined_coded types.Text types.Int = refl
joined_coded types.Text types.Truth = refl
joined_coded types.Int types.Unknown = tt
joined_coded types.Int types.Text = refl
joined_coded types.Int types.Int = tt
joined_coded types.Int types.Truth = refl
joined_coded types.Truth types.Unknown = tt
joined_coded types.Truth types.Text = refl
joined_coded types.Truth types.Int = refl
joined_coded types.Truth types.Truth = tt
