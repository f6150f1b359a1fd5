-- Worked rows of what queries mean: `for`, `let`, `where` and `order by`, and constructors.
-- Each row says what it shows and has the text of the query; its answer is the lines of its items, or its code.
use Rattle.std.specs.Prelude.{◌≡◌, pos, [], ◌∷◌, None, Some, Ok, Err, refl, codes}
use Rattle.std.proofs.Common.{◌∙◌}
use Rattle.xq_ast.specs.declared.code.Code.TheVariants as code
use Rattle.xq_ast.specs.declared.step.Axis.TheVariants as ax
use Rattle.xq_ast.specs.declared.step.Test.TheVariants as te
use Rattle.xq_ast.specs.declared.tree.Bind.TheVariants as b
use Rattle.xq_ast.specs.declared.tree.CompareOp.TheVariants.{Eq, Ne, Lt, Le, Gt}
use Rattle.xq_ast.specs.declared.tree.Expr.TheVariants as e
use Rattle.xq_ast.specs.declared.tree.Start.TheVariants as st
use Rattle.xml_model.proofs.Computing.{answer, computes, seen}
use Rattle.xml_model.proofs.QueryForms.{plus, minus, times, divided, ascending, descending, step, deep_step, only, both, c_and_text, empty_r, r_with_a, nested_a, one_c, a_below_a, names_like_words, b_and_c, k_of_c, union_by_name}

-- ---- for, let, where, order by

-- ties keep their order, also descending
--     for $y1 in('b', 'a','ab')order by 0 descending return$ y1
ties_keep_their_order : answer [] (e.Flwor (b.For (codes "y1") None (e.Seq ((e.Text (codes "b")) ∷ (e.Text (codes
    "a")) ∷ (e.Text (codes "ab")) ∷ [])) ∷ []) None (descending (e.Int (pos 0)) ∷ []) (e.Var (codes "y1"))) ≡ Ok
    ((codes "=b") ∷ (codes "=a") ∷ (codes "=ab") ∷ [])
unfolding seen
ties_keep_their_order = computes [] tt 3 _ refl ∙ refl

-- `return` is evaluated once a tuple
--     for$y1 in ('b', 'a', 'ab')order by$y1 ascending return 2
result_for_each : answer [] (e.Flwor (b.For (codes "y1") None (e.Seq ((e.Text (codes "b")) ∷ (e.Text (codes "a")) ∷
    (e.Text (codes "ab")) ∷ [])) ∷ []) None (ascending (e.Var (codes "y1")) ∷ []) (e.Int (pos 2))) ≡ Ok ((codes "=2")
    ∷ (codes "=2") ∷ (codes "=2") ∷ [])
unfolding seen
result_for_each = computes [] tt 3 _ refl ∙ refl

-- `descending` turns the order round
--     for $x in (3, 1, 2) order by $x descending return $x
descends : answer [] (e.Flwor (b.For (codes "x") None (e.Seq ((e.Int (pos 3)) ∷ (e.Int (pos 1)) ∷ (e.Int (pos 2)) ∷
    [])) ∷ []) None (descending (e.Var (codes "x")) ∷ []) (e.Var (codes "x"))) ≡ Ok ((codes "=3") ∷ (codes "=2") ∷
    (codes "=1") ∷ [])
unfolding seen
descends = computes [] tt 3 _ refl ∙ refl

-- an empty key is least
--     for $x in (1, 2, 3) order by (if ($x = 2) then () else $x) return $x
empty_key_is_least : answer [] (e.Flwor (b.For (codes "x") None (e.Seq ((e.Int (pos 1)) ∷ (e.Int (pos 2)) ∷ (e.Int
    (pos 3)) ∷ [])) ∷ []) None (ascending (e.If (e.Compare (e.Var (codes "x")) Eq (e.Int (pos 2))) (e.Seq []) (e.Var
    (codes "x"))) ∷ []) (e.Var (codes "x"))) ≡ Ok ((codes "=2") ∷ (codes "=1") ∷ (codes "=3") ∷ [])
unfolding seen
empty_key_is_least = computes [] tt 4 _ refl ∙ refl

-- a later key decides where the first ties
--     element i{for$w1 in (1, 3, 9), $v2 in ($w1, $w1, $w1)order by$w1, true()return 'a'}
second_key_decides : answer [] (e.Element (codes "i") (Some (e.Flwor (b.For (codes "w1") None (e.Seq ((e.Int (pos 1))
    ∷ (e.Int (pos 3)) ∷ (e.Int (pos 9)) ∷ [])) ∷ b.For (codes "v2") None (e.Seq ((e.Var (codes "w1")) ∷ (e.Var (codes
    "w1")) ∷ (e.Var (codes "w1")) ∷ [])) ∷ []) None (ascending (e.Var (codes "w1")) ∷ ascending (e.Fun (codes "true")
    []) ∷ []) (e.Text (codes "a"))))) ≡ Ok ((codes "(i") ∷ (codes "-a a a a a a a a a") ∷ (codes ")i") ∷ [])
unfolding seen
second_key_decides = computes [] tt 4 _ refl ∙ refl

-- keys at one place have one type
--     for $x in (1, 'a') order by $x return $x
keys_of_two_types : answer [] (e.Flwor (b.For (codes "x") None (e.Seq ((e.Int (pos 1)) ∷ (e.Text (codes "a")) ∷ []))
    ∷ []) None (ascending (e.Var (codes "x")) ∷ []) (e.Var (codes "x"))) ≡ Err code.XPTY0004
unfolding seen
keys_of_two_types = computes [] tt 3 _ refl ∙ refl

-- a key has one item at most
--     for $x in 1 order by (1, 2) return $x
key_of_two_items : answer [] (e.Flwor (b.For (codes "x") None (e.Int (pos 1)) ∷ []) None (ascending (e.Seq ((e.Int
    (pos 1)) ∷ (e.Int (pos 2)) ∷ [])) ∷ []) (e.Var (codes "x"))) ≡ Err code.XPTY0004
unfolding seen
key_of_two_items = computes [] tt 3 _ refl ∙ refl

-- a tuple has its keys before the next one is tested
--     for $x in (1, 'a') where $x > 0 order by 1 idiv 0 return 1
keys_before_next_tuple : answer [] (e.Flwor (b.For (codes "x") None (e.Seq ((e.Int (pos 1)) ∷ (e.Text (codes "a")) ∷
    [])) ∷ []) (Some (e.Compare (e.Var (codes "x")) Gt (e.Int (pos 0)))) (ascending (e.Product (e.Int (pos 1))
    (divided (e.Int (pos 0)) ∷ [])) ∷ []) (e.Int (pos 1))) ≡ Err code.FOAR0001
unfolding seen
keys_before_next_tuple = computes [] tt 3 _ refl ∙ refl

-- `where` may fail
--     for$w1 in 0 to 2, $y2 in 2 to 4 where"x"=(true(), ())return doc('d')/r
where_fails : answer (only one_c) (e.Flwor (b.For (codes "w1") None (e.Range (e.Int (pos 0)) (e.Int (pos 2))) ∷ b.For
    (codes "y2") None (e.Range (e.Int (pos 2)) (e.Int (pos 4))) ∷ []) (Some (e.Compare (e.Text (codes "x")) Eq (e.Seq
    ((e.Fun (codes "true") []) ∷ (e.Seq []) ∷ [])))) [] (e.Path (st.Value (e.Doc (codes "d"))) (step ax.Child
    (te.Name (Some (codes "r"))) [] ∷ []))) ≡ Err code.XPTY0004
unfolding seen
where_fails = computes (only one_c) tt 4 _ refl ∙ refl

-- and so may a key
--     for$v1 in for$w2 in fn:doc('d')//a, $y3 in doc('e')/r return doc('d')/r/x order by 0 -1+sum('q'), $v1/@k return $v1/self::r
key_fails : answer (both a_below_a r_with_a) (e.Flwor (b.For (codes "v1") None (e.Flwor (b.For (codes "w2") None
    (e.Path (st.Value (e.Doc (codes "d"))) (deep_step ax.Child (te.Name (Some (codes "a"))) [] ∷ [])) ∷ b.For (codes
    "y3") None (e.Path (st.Value (e.Doc (codes "e"))) (step ax.Child (te.Name (Some (codes "r"))) [] ∷ [])) ∷ [])
    None [] (e.Path (st.Value (e.Doc (codes "d"))) (step ax.Child (te.Name (Some (codes "r"))) [] ∷ step ax.Child
    (te.Name (Some (codes "x"))) [] ∷ []))) ∷ []) None (ascending (e.Sum (e.Int (pos 0)) (minus (e.Int (pos 1)) ∷
    plus (e.Fun (codes "sum") ((e.Text (codes "q")) ∷ [])) ∷ [])) ∷ ascending (e.Path (st.Value (e.Var (codes "v1")))
    (step ax.Attribute (te.Name (Some (codes "k"))) [] ∷ [])) ∷ []) (e.Path (st.Value (e.Var (codes "v1"))) (step
    ax.Itself (te.Name (Some (codes "r"))) [] ∷ []))) ≡ Err code.FORG0006
unfolding seen
key_fails = computes (both a_below_a r_with_a) tt 4 _ refl ∙ refl

-- `let` takes a whole list
--     sum(let$w1:=6+2 where(doc('f')/r/a)!=(doc('d')/a/@n)return (4, $w1, $w1))
let_takes_the_list : answer (((codes "d"), nested_a) ∷ ((codes "f"), r_with_a) ∷ []) (e.Fun (codes "sum") ((e.Flwor
    (b.Let (codes "w1") (e.Sum (e.Int (pos 6)) (plus (e.Int (pos 2)) ∷ [])) ∷ []) (Some (e.Compare (e.Path (st.Value
    (e.Doc (codes "f"))) (step ax.Child (te.Name (Some (codes "r"))) [] ∷ step ax.Child (te.Name (Some (codes "a")))
    [] ∷ [])) Ne (e.Path (st.Value (e.Doc (codes "d"))) (step ax.Child (te.Name (Some (codes "a"))) [] ∷ step
    ax.Attribute (te.Name (Some (codes "n"))) [] ∷ [])))) [] (e.Seq ((e.Int (pos 4)) ∷ (e.Var (codes "w1")) ∷ (e.Var
    (codes "w1")) ∷ []))) ∷ [])) ≡ Ok ((codes "=20") ∷ [])
unfolding seen
let_takes_the_list = computes (((codes "d"), nested_a) ∷ ((codes "f"), r_with_a) ∷ []) tt 5 _ refl ∙ refl

-- a `let` is bound again for each item
--     for$y1 in (6, 7, 2)let$v2:=4<4 for$v3 in 3>4 return $v3
let_inside_for : answer [] (e.Flwor (b.For (codes "y1") None (e.Seq ((e.Int (pos 6)) ∷ (e.Int (pos 7)) ∷ (e.Int (pos
    2)) ∷ [])) ∷ b.Let (codes "v2") (e.Compare (e.Int (pos 4)) Lt (e.Int (pos 4))) ∷ b.For (codes "v3") None
    (e.Compare (e.Int (pos 3)) Gt (e.Int (pos 4))) ∷ []) None [] (e.Var (codes "v3"))) ≡ Ok ((codes "=false") ∷
    (codes "=false") ∷ (codes "=false") ∷ [])
unfolding seen
let_inside_for = computes [] tt 3 _ refl ∙ refl

-- `for` over a path
--     for$w1 in doc ( 'd')/r/x[position( )=1]/a//a return$w1
path_over_items : answer (only a_below_a) (e.Flwor (b.For (codes "w1") None (e.Path (st.Value (e.Doc (codes "d")))
    (step ax.Child (te.Name (Some (codes "r"))) [] ∷ step ax.Child (te.Name (Some (codes "x"))) ((e.Compare (e.Fun
    (codes "position") []) Eq (e.Int (pos 1))) ∷ []) ∷ step ax.Child (te.Name (Some (codes "a"))) [] ∷ deep_step
    ax.Child (te.Name (Some (codes "a"))) [] ∷ [])) ∷ []) None [] (e.Var (codes "w1"))) ≡ Ok ((codes "(a") ∷ (codes
    "Ak 7") ∷ (codes ")a") ∷ (codes "(a") ∷ (codes ")a") ∷ [])
unfolding seen
path_over_items = computes (only a_below_a) tt 4 _ refl ∙ refl

-- a position of the same name hides its item
--     for $x at $x in ('b', 'a') return $x
position_hides_item : answer [] (e.Flwor (b.For (codes "x") (Some (codes "x")) (e.Seq ((e.Text (codes "b")) ∷ (e.Text
    (codes "a")) ∷ [])) ∷ []) None [] (e.Var (codes "x"))) ≡ Ok ((codes "=1") ∷ (codes "=2") ∷ [])
unfolding seen
position_hides_item = computes [] tt 3 _ refl ∙ refl

-- a later variable hides an earlier one
--     let $x := 1 let $x := 2 return $x
later_variable_hides : answer [] (e.Flwor (b.Let (codes "x") (e.Int (pos 1)) ∷ b.Let (codes "x") (e.Int (pos 2)) ∷
    []) None [] (e.Var (codes "x"))) ≡ Ok ((codes "=2") ∷ [])
unfolding seen
later_variable_hides = computes [] tt 2 _ refl ∙ refl

-- ---- constructors

-- neighbouring atomic values are one text with spaces between them
--     element a{4, "a"}
atomic_values_joined : answer [] (e.Element (codes "a") (Some (e.Seq ((e.Int (pos 4)) ∷ (e.Text (codes "a")) ∷ []))))
    ≡ Ok ((codes "(a") ∷ (codes "-4 a") ∷ (codes ")a") ∷ [])
unfolding seen
atomic_values_joined = computes [] tt 3 _ refl ∙ refl

-- as many as there are
--     element c { 3 to 6}
range_as_text : answer [] (e.Element (codes "c") (Some (e.Range (e.Int (pos 3)) (e.Int (pos 6))))) ≡ Ok ((codes "(c")
    ∷ (codes "-3 4 5 6") ∷ (codes ")c") ∷ [])
unfolding seen
range_as_text = computes [] tt 3 _ refl ∙ refl

-- a text behind them is joined without a space
--     element a{count(doc('e')//p:q), text{2}}
texts_joined_without_space : answer (((codes "e"), names_like_words) ∷ []) (e.Element (codes "a") (Some (e.Seq
    ((e.Fun (codes "count") ((e.Path (st.Value (e.Doc (codes "e"))) (deep_step ax.Child (te.Name (Some (codes
    "p:q"))) [] ∷ [])) ∷ [])) ∷ (e.TextNode (Some (e.Int (pos 2)))) ∷ [])))) ≡ Ok ((codes "(a") ∷ (codes "-22") ∷
    (codes ")a") ∷ [])
unfolding seen
texts_joined_without_space = computes (((codes "e"), names_like_words) ∷ []) tt 5 _ refl ∙ refl

-- neighbouring texts are one
--     element a{attribute id{string((doc('d')/r/b)[1])}, for$v1 in doc('d')/r/c//@*return text{3}}/node()
texts_of_loop_joined : answer (only b_and_c) (e.Path (st.Value (e.Element (codes "a") (Some (e.Seq ((e.Attribute
    (codes "id") (Some (e.Fun (codes "string") ((e.Filter (e.Path (st.Value (e.Doc (codes "d"))) (step ax.Child
    (te.Name (Some (codes "r"))) [] ∷ step ax.Child (te.Name (Some (codes "b"))) [] ∷ [])) ((e.Int (pos 1)) ∷ [])) ∷
    [])))) ∷ (e.Flwor (b.For (codes "v1") None (e.Path (st.Value (e.Doc (codes "d"))) (step ax.Child (te.Name (Some
    (codes "r"))) [] ∷ step ax.Child (te.Name (Some (codes "c"))) [] ∷ deep_step ax.Attribute (te.Name None) [] ∷
    [])) ∷ []) None [] (e.TextNode (Some (e.Int (pos 3))))) ∷ []))))) (step ax.Child te.AnyNode [] ∷ [])) ≡ Ok
    ((codes "-333333") ∷ [])
unfolding seen
texts_of_loop_joined = computes (only b_and_c) tt 8 _ refl ∙ refl

-- a text in an element
--     string( 5 ),element i{ text {"<"}}
text_in_element : answer [] (e.Seq ((e.Fun (codes "string") ((e.Int (pos 5)) ∷ [])) ∷ (e.Element (codes "i") (Some
    (e.TextNode (Some (e.Text (codes "<")))))) ∷ [])) ≡ Ok ((codes "=5") ∷ (codes "(i") ∷ (codes "-<") ∷ (codes ")i")
    ∷ [])
unfolding seen
text_in_element = computes [] tt 4 _ refl ∙ refl

-- nodes are copied with all below them
--     element c{doc('e')/r/b}
nodes_are_copied : answer (((codes "e"), k_of_c) ∷ []) (e.Element (codes "c") (Some (e.Path (st.Value (e.Doc (codes
    "e"))) (step ax.Child (te.Name (Some (codes "r"))) [] ∷ step ax.Child (te.Name (Some (codes "b"))) [] ∷ [])))) ≡
    Ok ((codes "(c") ∷ (codes "(b") ∷ (codes "(x") ∷ (codes ")x") ∷ (codes "(c") ∷ (codes "Ak 11") ∷ (codes ")c") ∷
    (codes ")b") ∷ (codes ")c") ∷ [])
unfolding seen
nodes_are_copied = computes (((codes "e"), k_of_c) ∷ []) tt 3 _ refl ∙ refl

-- a document is replaced by its children
--     element c {doc('d')}
document_replaced_by_children : answer (only c_and_text) (e.Element (codes "c") (Some (e.Doc (codes "d")))) ≡ Ok
    ((codes "(c") ∷ (codes "(r") ∷ (codes "(c") ∷ (codes "Aid 3") ∷ (codes ")c") ∷ (codes "-abc") ∷ (codes ")r") ∷
    (codes ")c") ∷ [])
unfolding seen
document_replaced_by_children = computes (only c_and_text) tt 2 _ refl ∙ refl

-- an empty text is dropped
--     count(element a {''}/node())
empty_text_dropped : answer [] (e.Fun (codes "count") ((e.Path (st.Value (e.Element (codes "a") (Some (e.Text []))))
    (step ax.Child te.AnyNode [] ∷ [])) ∷ [])) ≡ Ok ((codes "=0") ∷ [])
unfolding seen
empty_text_dropped = computes [] tt 4 _ refl ∙ refl

-- before an attribute too
--     element a {'', attribute b {1}}
dropped_text_is_not_before : answer [] (e.Element (codes "a") (Some (e.Seq ((e.Text []) ∷ (e.Attribute (codes "b")
    (Some (e.Int (pos 1)))) ∷ [])))) ≡ Ok ((codes "(a") ∷ (codes "Ab 1") ∷ (codes ")a") ∷ [])
unfolding seen
dropped_text_is_not_before = computes [] tt 4 _ refl ∙ refl

-- an attribute, then a text
--     element b{attribute k{if('x')then 8 else 1}, 0 to 2}
attribute_then_text : answer [] (e.Element (codes "b") (Some (e.Seq ((e.Attribute (codes "k") (Some (e.If (e.Text
    (codes "x")) (e.Int (pos 8)) (e.Int (pos 1))))) ∷ (e.Range (e.Int (pos 0)) (e.Int (pos 2))) ∷ [])))) ≡ Ok ((codes
    "(b") ∷ (codes "Ak 8") ∷ (codes "-0 1 2") ∷ (codes ")b") ∷ [])
unfolding seen
attribute_then_text = computes [] tt 5 _ refl ∙ refl

-- the values of an attribute have spaces between them
--     element a-b.c{attribute parent{''}, attribute k{2 to 5}}
attribute_of_list : answer [] (e.Element (codes "a-b.c") (Some (e.Seq ((e.Attribute (codes "parent") (Some (e.Text
    []))) ∷ (e.Attribute (codes "k") (Some (e.Range (e.Int (pos 2)) (e.Int (pos 5))))) ∷ [])))) ≡ Ok ((codes
    "(a-b.c") ∷ (codes "Aparent ") ∷ (codes "Ak 2 3 4 5") ∷ (codes ")a-b.c") ∷ [])
unfolding seen
attribute_of_list = computes [] tt 5 _ refl ∙ refl

-- an attribute without content is empty
--     element b{attribute id{'a&amp;b'}, attribute n{}}
attribute_without_content : answer [] (e.Element (codes "b") (Some (e.Seq ((e.Attribute (codes "id") (Some (e.Text
    (codes "a&b")))) ∷ (e.Attribute (codes "n") None) ∷ [])))) ≡ Ok ((codes "(b") ∷ (codes "Aid a&b") ∷ (codes "An ")
    ∷ (codes ")b") ∷ [])
unfolding seen
attribute_without_content = computes [] tt 4 _ refl ∙ refl

-- an attribute of a function's answer
--     element i{attribute k{fn:concat('ab', "a")}}
attribute_of_function : answer [] (e.Element (codes "i") (Some (e.Attribute (codes "k") (Some (e.Fun (codes "concat")
    ((e.Text (codes "ab")) ∷ (e.Text (codes "a")) ∷ [])))))) ≡ Ok ((codes "(i") ∷ (codes "Ak aba") ∷ (codes ")i") ∷
    [])
unfolding seen
attribute_of_function = computes [] tt 4 _ refl ∙ refl

-- a text of nothing is none
--     text {()}
text_of_nothing : answer [] (e.TextNode (Some (e.Seq []))) ≡ Ok []
unfolding seen
text_of_nothing = computes [] tt 2 _ refl ∙ refl

-- a text of the empty string is one without characters
--     text {''}
text_of_empty_string : answer [] (e.TextNode (Some (e.Text []))) ≡ Ok ((codes "-") ∷ [])
unfolding seen
text_of_empty_string = computes [] tt 2 _ refl ∙ refl

-- an attribute that stands twice fails, wherever it is constructed
--     concat(5 idiv(element a {attribute k{ } ,attribute k{}}),'(: x :)',"u")<=concat('e\f',name((fn:doc ( 'd' ) / @*) [1]), 'v' )
attribute_twice : answer (only empty_r) (e.Compare (e.Fun (codes "concat") ((e.Product (e.Int (pos 5)) (divided
    (e.Element (codes "a") (Some (e.Seq ((e.Attribute (codes "k") None) ∷ (e.Attribute (codes "k") None) ∷ [])))) ∷
    [])) ∷ (e.Text (codes "(: x :)")) ∷ (e.Text (codes "u")) ∷ [])) Le (e.Fun (codes "concat") ((e.Text (codes
    "e\\f")) ∷ (e.Fun (codes "name") ((e.Filter (e.Path (st.Value (e.Doc (codes "d"))) (step ax.Attribute (te.Name
    None) [] ∷ [])) ((e.Int (pos 1)) ∷ [])) ∷ [])) ∷ (e.Text (codes "v")) ∷ []))) ≡ Err code.XQDY0025
unfolding seen
attribute_twice = computes (only empty_r) tt 6 _ refl ∙ refl

-- so does one behind a text
--     ("10"*(element a{'x', attribute k{}})-count(doc('d')/r))!=(8 idiv count(fn:doc('e')//text()/a)*(6 idiv 3))
attribute_after_text : answer (both union_by_name r_with_a) (e.Compare (e.Sum (e.Product (e.Text (codes "10")) (times
    (e.Element (codes "a") (Some (e.Seq ((e.Text (codes "x")) ∷ (e.Attribute (codes "k") None) ∷ [])))) ∷ [])) (minus
    (e.Fun (codes "count") ((e.Path (st.Value (e.Doc (codes "d"))) (step ax.Child (te.Name (Some (codes "r"))) [] ∷
    [])) ∷ [])) ∷ [])) Ne (e.Product (e.Int (pos 8)) (divided (e.Fun (codes "count") ((e.Path (st.Value (e.Doc (codes
    "e"))) (deep_step ax.Child te.Text [] ∷ step ax.Child (te.Name (Some (codes "a"))) [] ∷ [])) ∷ [])) ∷ times
    (e.Product (e.Int (pos 6)) (divided (e.Int (pos 3)) ∷ [])) ∷ []))) ≡ Err code.XQTY0024
unfolding seen
attribute_after_text = computes (both union_by_name r_with_a) tt 6 _ refl ∙ refl
