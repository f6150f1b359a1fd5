-- Parts of queries, and the documents that the worked rows of queries ask.
use Rattle.std.specs.Prelude.{ℕ, true, false, List, [], ◌∷◌, ◌++◌, codes}
use Rattle.xq_ast.specs.declared.step.Axis.{Axis}
use Rattle.xq_ast.specs.declared.step.Test.{Test}
use Rattle.xq_ast.specs.declared.tree.Expr.{Expr}
use Rattle.xq_ast.specs.declared.tree.ProductOp.TheVariants.{Times, Idiv, Mod}
use Rattle.xq_ast.specs.declared.tree.ProductPart.{ProductPart}
use Rattle.xq_ast.specs.declared.tree.SortKey.{SortKey}
use Rattle.xq_ast.specs.declared.tree.Step.{Step}
use Rattle.xq_ast.specs.declared.tree.SumPart.{SumPart}
use Rattle.xml_model.specs.declared.node.Attr.{Attr}
use Rattle.xml_model.specs.declared.node.Doc.{Doc}
use Rattle.xml_model.specs.declared.node.Node.{Node}
use Rattle.xml_model.specs.declared.node.Node.TheVariants.{Element, Text, Pi}
use Rattle.xml_model.proofs.Computing.{Entries}

-- ---- parts of queries

-- an operand that is added
abbrev pub plus : Expr → SumPart
plus operand = record { minus = false; expr = operand }

-- and one that is subtracted
abbrev pub minus : Expr → SumPart
minus operand = record { minus = true; expr = operand }

-- an operand of `*`
abbrev pub times : Expr → ProductPart
times operand = record { op = Times; expr = operand }

-- an operand of `idiv`
abbrev pub divided : Expr → ProductPart
divided operand = record { op = Idiv; expr = operand }

-- an operand of `mod`
abbrev pub modulo : Expr → ProductPart
modulo operand = record { op = Mod; expr = operand }

-- a key
abbrev pub ascending : Expr → SortKey
ascending key = record { expr = key; descending = false }

-- and one that descends
abbrev pub descending : Expr → SortKey
descending key = record { expr = key; descending = true }

-- a step
abbrev pub step : Axis → Test → List Expr → Step
step way wanted preds = record { deep = false; axis = way; test = wanted; preds = preds }

-- and one behind `//`
abbrev pub deep_step : Axis → Test → List Expr → Step
deep_step way wanted preds = record { deep = true; axis = way; test = wanted; preds = preds }

-- ---- documents

-- an attribute
abbrev pub attr : List ℕ → List ℕ → Attr
attr name value = record { name = name; value = value }

-- a document of these nodes
abbrev pub doc : List Node → Doc
doc nodes = record { kids = nodes }

-- the document d alone
abbrev pub only : Doc → Entries
only d = (codes "d", d) ∷ []

-- the documents d and e
abbrev pub both : Doc → Doc → Entries
both d e = (codes "d", d) ∷ (codes "e", e) ∷ []

-- <r><a><x>1</x><x>2</x></a><b><x>3</x></b></r>
abbrev pub three_x : Doc
three_x = doc (Element (codes "r") [] (Element (codes "a") [] (Element (codes "x") [] (Text (codes "1") ∷ []) ∷
    Element (codes "x") [] (Text (codes "2") ∷ []) ∷ []) ∷ Element (codes "b") [] (Element (codes "x") [] (Text
    (codes "3") ∷ []) ∷ []) ∷ []) ∷ [])

-- <a><b>three</b></a>
abbrev pub three_in_words : Doc
three_in_words = doc (Element (codes "a") [] (Element (codes "b") [] (Text (codes "three") ∷ []) ∷ []) ∷ [])

-- <order id="7"><?print draft?><item sku="A1"><qty>2</qty></item><item sku="B2"><qty>5</qty></item></order>
abbrev pub an_order : Doc
an_order = doc (Element (codes "order") (attr (codes "id") (codes "7") ∷ []) (Pi (codes "print") (codes "draft") ∷
    Element (codes "item") (attr (codes "sku") (codes "A1") ∷ []) (Element (codes "qty") [] (Text (codes "2") ∷ []) ∷
    []) ∷ Element (codes "item") (attr (codes "sku") (codes "B2") ∷ []) (Element (codes "qty") [] (Text (codes "5") ∷
    []) ∷ []) ∷ []) ∷ [])

-- <r><c id="3"/>abc</r>
abbrev pub c_and_text : Doc
c_and_text = doc (Element (codes "r") [] (Element (codes "c") (attr (codes "id") (codes "3") ∷ []) [] ∷ Text (codes
    "abc") ∷ []) ∷ [])

-- <r/>
abbrev pub empty_r : Doc
empty_r = doc (Element (codes "r") [] [] ∷ [])

-- <i id="4" k="b" n="9"><?q c\nd?></i><c n="-3"><a id="b"><x n="abc"><x><i n="5" id="3" k="abc"/><b n="10" id="9223372036854775808">é中</b></x></x></a></c>
abbrev pub instruction_then_attribute : Doc
instruction_then_attribute = doc (Element (codes "i") (attr (codes "id") (codes "4") ∷ attr (codes "k") (codes "b") ∷
    attr (codes "n") (codes "9") ∷ []) (Pi (codes "q") (codes "c" ++ (10 ∷ []) ++ codes "d") ∷ []) ∷ Element (codes
    "c") (attr (codes "n") (codes "-3") ∷ []) (Element (codes "a") (attr (codes "id") (codes "b") ∷ []) (Element
    (codes "x") (attr (codes "n") (codes "abc") ∷ []) (Element (codes "x") [] (Element (codes "i") (attr (codes "n")
    (codes "5") ∷ attr (codes "id") (codes "3") ∷ attr (codes "k") (codes "abc") ∷ []) [] ∷ Element (codes "b") (attr
    (codes "n") (codes "10") ∷ attr (codes "id") (codes "9223372036854775808") ∷ []) (Text (195 ∷ 169 ∷ 228 ∷ 184 ∷
    173 ∷ []) ∷ []) ∷ []) ∷ []) ∷ []) ∷ []) ∷ [])

-- <r><a>4</a></r>
abbrev pub four : Doc
four = doc (Element (codes "r") [] (Element (codes "a") [] (Text (codes "4") ∷ []) ∷ []) ∷ [])

-- <r><b><i><i id="10"/><?p -3?><?p 3?><i><c><b>9</b></c></i></i></b></r>
abbrev pub nested_i : Doc
nested_i = doc (Element (codes "r") [] (Element (codes "b") [] (Element (codes "i") [] (Element (codes "i") (attr
    (codes "id") (codes "10") ∷ []) [] ∷ Pi (codes "p") (codes "-3") ∷ Pi (codes "p") (codes "3") ∷ Element (codes
    "i") [] (Element (codes "c") [] (Element (codes "b") [] (Text (codes "9") ∷ []) ∷ []) ∷ []) ∷ []) ∷ []) ∷ []) ∷
    [])

-- <r><?q 7?><i k="4"/><i k="abc" id="-9223372036854775808" n="4"><?p u?></i></r>
abbrev pub instructions : Doc
instructions = doc (Element (codes "r") [] (Pi (codes "q") (codes "7") ∷ Element (codes "i") (attr (codes "k") (codes
    "4") ∷ []) [] ∷ Element (codes "i") (attr (codes "k") (codes "abc") ∷ attr (codes "id") (codes
    "-9223372036854775808") ∷ attr (codes "n") (codes "4") ∷ []) (Pi (codes "p") (codes "u") ∷ []) ∷ []) ∷ [])

-- <r><a>11</a></r>
abbrev pub eleven : Doc
eleven = doc (Element (codes "r") [] (Element (codes "a") [] (Text (codes "11") ∷ []) ∷ []) ∷ [])

-- <a> 5 </a>
abbrev pub spaced_five : Doc
spaced_five = doc (Element (codes "a") [] (Text (codes " 5 ") ∷ []) ∷ [])

-- 7<x n="9223372036854775808">8</x>
abbrev pub number_past_64_bits : Doc
number_past_64_bits = doc (Text (codes "7") ∷ Element (codes "x") (attr (codes "n") (codes "9223372036854775808") ∷
    []) (Text (codes "8") ∷ []) ∷ [])

-- <r><i k="11" n="u" id="8"/>1<i><c><c>8<x/></c><a id="5" n="abc"><a k="+4" n="1 2"/></a></c></i></r>
abbrev pub signs_and_numbers : Doc
signs_and_numbers = doc (Element (codes "r") [] (Element (codes "i") (attr (codes "k") (codes "11") ∷ attr (codes
    "n") (codes "u") ∷ attr (codes "id") (codes "8") ∷ []) [] ∷ Text (codes "1") ∷ Element (codes "i") [] (Element
    (codes "c") [] (Element (codes "c") [] (Text (codes "8") ∷ Element (codes "x") [] [] ∷ []) ∷ Element (codes "a")
    (attr (codes "id") (codes "5") ∷ attr (codes "n") (codes "abc") ∷ []) (Element (codes "a") (attr (codes "k")
    (codes "+4") ∷ attr (codes "n") (codes "1 2") ∷ []) [] ∷ []) ∷ []) ∷ []) ∷ []) ∷ [])

-- <a><x><x id="+4"/></x></a>
abbrev pub plus_four : Doc
plus_four = doc (Element (codes "a") [] (Element (codes "x") [] (Element (codes "x") (attr (codes "id") (codes "+4")
    ∷ []) [] ∷ []) ∷ []) ∷ [])

-- <a> 1 </a>
abbrev pub spaced_one : Doc
spaced_one = doc (Element (codes "a") [] (Text (codes " 1 ") ∷ []) ∷ [])

-- <r><a/></r>
abbrev pub r_with_a : Doc
r_with_a = doc (Element (codes "r") [] (Element (codes "a") [] [] ∷ []) ∷ [])

-- <a/>
abbrev pub empty_a : Doc
empty_a = doc (Element (codes "a") [] [] ∷ [])

-- <r><a-b.c doc="w" id="6" k="w"/></r>
abbrev pub a_with_attributes : Doc
a_with_attributes = doc (Element (codes "r") [] (Element (codes "a-b.c") (attr (codes "doc") (codes "w") ∷ attr
    (codes "id") (codes "6") ∷ attr (codes "k") (codes "w") ∷ []) [] ∷ []) ∷ [])

-- <r><mod>&#160;7<c n="&#160;7" doc="three"><i doc="9223372036854775808" n="-" k="-9223372036854775808"/></c></mod></r>
abbrev pub no_break_spaces : Doc
no_break_spaces = doc (Element (codes "r") [] (Element (codes "mod") [] (Text ((194 ∷ 160 ∷ []) ++ codes "7") ∷
    Element (codes "c") (attr (codes "n") ((194 ∷ 160 ∷ []) ++ codes "7") ∷ attr (codes "doc") (codes "three") ∷ [])
    (Element (codes "i") (attr (codes "doc") (codes "9223372036854775808") ∷ attr (codes "n") (codes "-") ∷ attr
    (codes "k") (codes "-9223372036854775808") ∷ []) [] ∷ []) ∷ []) ∷ []) ∷ [])

-- <r><a>11<c id="w" k="b"/></a></r>
abbrev pub eleven_with_c : Doc
eleven_with_c = doc (Element (codes "r") [] (Element (codes "a") [] (Text (codes "11") ∷ Element (codes "c") (attr
    (codes "id") (codes "w") ∷ attr (codes "k") (codes "b") ∷ []) [] ∷ []) ∷ []) ∷ [])

-- <a n="v"><i><a k="a\tb" n="😀" id="a\tb"><x><a n="0" id="2">false</a>b</x></a></i></a>
abbrev pub nested_a : Doc
nested_a = doc (Element (codes "a") (attr (codes "n") (codes "v") ∷ []) (Element (codes "i") [] (Element (codes "a")
    (attr (codes "k") (codes "a" ++ (9 ∷ []) ++ codes "b") ∷ attr (codes "n") (240 ∷ 159 ∷ 152 ∷ 128 ∷ []) ∷ attr
    (codes "id") (codes "a" ++ (9 ∷ []) ++ codes "b") ∷ []) (Element (codes "x") [] (Element (codes "a") (attr (codes
    "n") (codes "0") ∷ attr (codes "id") (codes "2") ∷ []) (Text (codes "false") ∷ []) ∷ Text (codes "b") ∷ []) ∷ [])
    ∷ []) ∷ []) ∷ [])

-- 10<a>9223372036854775808<p:q to="7" k="3"/>6<b id="u" delete="4"><?q false?></b></a>
abbrev pub to_and_delete : Doc
to_and_delete = doc (Text (codes "10") ∷ Element (codes "a") [] (Text (codes "9223372036854775808") ∷ Element (codes
    "p:q") (attr (codes "to") (codes "7") ∷ attr (codes "k") (codes "3") ∷ []) [] ∷ Text (codes "6") ∷ Element (codes
    "b") (attr (codes "id") (codes "u") ∷ attr (codes "delete") (codes "4") ∷ []) (Pi (codes "q") (codes "false") ∷
    []) ∷ []) ∷ [])

-- <r><x n="6" id="abc" k="ab"/><x><i><x k="7" id="2" n="ab"><x id="b" k="v"/></x><b><c k="😀" id="abc" n="01">ab</c><c id="10"/></b></i></x></r>
abbrev pub x_in_x : Doc
x_in_x = doc (Element (codes "r") [] (Element (codes "x") (attr (codes "n") (codes "6") ∷ attr (codes "id") (codes
    "abc") ∷ attr (codes "k") (codes "ab") ∷ []) [] ∷ Element (codes "x") [] (Element (codes "i") [] (Element (codes
    "x") (attr (codes "k") (codes "7") ∷ attr (codes "id") (codes "2") ∷ attr (codes "n") (codes "ab") ∷ []) (Element
    (codes "x") (attr (codes "id") (codes "b") ∷ attr (codes "k") (codes "v") ∷ []) [] ∷ []) ∷ Element (codes "b") []
    (Element (codes "c") (attr (codes "k") (240 ∷ 159 ∷ 152 ∷ 128 ∷ []) ∷ attr (codes "id") (codes "abc") ∷ attr
    (codes "n") (codes "01") ∷ []) (Text (codes "ab") ∷ []) ∷ Element (codes "c") (attr (codes "id") (codes "10") ∷
    []) [] ∷ []) ∷ []) ∷ []) ∷ []) ∷ [])

-- 4<a id="5" n="2"><?q?></a>abc
abbrev pub two_attributes : Doc
two_attributes = doc (Text (codes "4") ∷ Element (codes "a") (attr (codes "id") (codes "5") ∷ attr (codes "n") (codes
    "2") ∷ []) (Pi (codes "q") [] ∷ []) ∷ Text (codes "abc") ∷ [])

-- <a>1</a>
abbrev pub one : Doc
one = doc (Element (codes "a") [] (Text (codes "1") ∷ []) ∷ [])

-- <r><x><x k="0"/></x></r>
abbrev pub x_with_k : Doc
x_with_k = doc (Element (codes "r") [] (Element (codes "x") [] (Element (codes "x") (attr (codes "k") (codes "0") ∷
    []) [] ∷ []) ∷ []) ∷ [])

-- <c n="7" id="0" k="0"><a><b/></a></c>c\nd<a>5</a><b/><?p 9223372036854775808?><c/>
abbrev pub several_roots : Doc
several_roots = doc (Element (codes "c") (attr (codes "n") (codes "7") ∷ attr (codes "id") (codes "0") ∷ attr (codes
    "k") (codes "0") ∷ []) (Element (codes "a") [] (Element (codes "b") [] [] ∷ []) ∷ []) ∷ Text (codes "c" ++ (10 ∷
    []) ++ codes "d") ∷ Element (codes "a") [] (Text (codes "5") ∷ []) ∷ Element (codes "b") [] [] ∷ Pi (codes "p")
    (codes "9223372036854775808") ∷ Element (codes "c") [] [] ∷ [])

-- <r><a k="v"><x id="ab"><c><?q 5?></c></x></a></r>
abbrev pub one_c : Doc
one_c = doc (Element (codes "r") [] (Element (codes "a") (attr (codes "k") (codes "v") ∷ []) (Element (codes "x")
    (attr (codes "id") (codes "ab") ∷ []) (Element (codes "c") [] (Pi (codes "q") (codes "5") ∷ []) ∷ []) ∷ []) ∷ [])
    ∷ [])

-- <r><x><a><a k="7"/><a/></a></x></r>
abbrev pub a_below_a : Doc
a_below_a = doc (Element (codes "r") [] (Element (codes "x") [] (Element (codes "a") [] (Element (codes "a") (attr
    (codes "k") (codes "7") ∷ []) [] ∷ Element (codes "a") [] [] ∷ []) ∷ []) ∷ []) ∷ [])

-- <x><?p 9?>😀<p:q k="b" idiv="9"><?p 9?><?p a\tb?></p:q><p:q idiv="a\tb" n="9"><é><a ascending="5"><order id="0" ascending="9" idiv="4"/><i>4</i></a></é></p:q></x>
abbrev pub names_like_words : Doc
names_like_words = doc (Element (codes "x") [] (Pi (codes "p") (codes "9") ∷ Text (240 ∷ 159 ∷ 152 ∷ 128 ∷ []) ∷
    Element (codes "p:q") (attr (codes "k") (codes "b") ∷ attr (codes "idiv") (codes "9") ∷ []) (Pi (codes "p")
    (codes "9") ∷ Pi (codes "p") (codes "a" ++ (9 ∷ []) ++ codes "b") ∷ []) ∷ Element (codes "p:q") (attr (codes
    "idiv") (codes "a" ++ (9 ∷ []) ++ codes "b") ∷ attr (codes "n") (codes "9") ∷ []) (Element (195 ∷ 169 ∷ []) []
    (Element (codes "a") (attr (codes "ascending") (codes "5") ∷ []) (Element (codes "order") (attr (codes "id")
    (codes "0") ∷ attr (codes "ascending") (codes "9") ∷ attr (codes "idiv") (codes "4") ∷ []) [] ∷ Element (codes
    "i") [] (Text (codes "4") ∷ []) ∷ []) ∷ []) ∷ []) ∷ []) ∷ [])

-- <r><b k="" id="abc" n="11"/>a\tb<c k="5" id="4" n="w">u<x n="7" k="10" id="b">+4</x></c></r>
abbrev pub b_and_c : Doc
b_and_c = doc (Element (codes "r") [] (Element (codes "b") (attr (codes "k") [] ∷ attr (codes "id") (codes "abc") ∷
    attr (codes "n") (codes "11") ∷ []) [] ∷ Text (codes "a" ++ (9 ∷ []) ++ codes "b") ∷ Element (codes "c") (attr
    (codes "k") (codes "5") ∷ attr (codes "id") (codes "4") ∷ attr (codes "n") (codes "w") ∷ []) (Text (codes "u") ∷
    Element (codes "x") (attr (codes "n") (codes "7") ∷ attr (codes "k") (codes "10") ∷ attr (codes "id") (codes "b")
    ∷ []) (Text (codes "+4") ∷ []) ∷ []) ∷ []) ∷ [])

-- <r><b><x/><c k="11"/></b></r>
abbrev pub k_of_c : Doc
k_of_c = doc (Element (codes "r") [] (Element (codes "b") [] (Element (codes "x") [] [] ∷ Element (codes "c") (attr
    (codes "k") (codes "11") ∷ []) [] ∷ []) ∷ []) ∷ [])

-- <r><a>three<union insert="ab" id="7">11<é order="5"><i order="9223372036854775808"/></é></union></a></r>
abbrev pub union_by_name : Doc
union_by_name = doc (Element (codes "r") [] (Element (codes "a") [] (Text (codes "three") ∷ Element (codes "union")
    (attr (codes "insert") (codes "ab") ∷ attr (codes "id") (codes "7") ∷ []) (Text (codes "11") ∷ Element (195 ∷ 169
    ∷ []) (attr (codes "order") (codes "5") ∷ []) (Element (codes "i") (attr (codes "order") (codes
    "9223372036854775808") ∷ []) [] ∷ []) ∷ []) ∷ []) ∷ []) ∷ [])

-- without nodes
abbrev pub nothing : Doc
nothing = doc []

-- <r><a at="8">6</a></r>
abbrev pub at_eight : Doc
at_eight = doc (Element (codes "r") [] (Element (codes "a") (attr (codes "at") (codes "8") ∷ []) (Text (codes "6") ∷
    []) ∷ []) ∷ [])
