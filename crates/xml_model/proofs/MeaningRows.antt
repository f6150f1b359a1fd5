-- Worked rows of what queries mean: what is evaluated, casts, truth, comparison and arithmetic.
-- Each row says what it shows and has the text of the query; its answer is the lines of its items, or its code.
use Rattle.std.specs.Prelude.{◌≡◌, pos, [], ◌∷◌, None, Some, Ok, Err, refl, codes}
use Rattle.std.proofs.Common.{◌∙◌}
use Rattle.xq_ast.specs.declared.code.Code.TheVariants as code
use Rattle.xq_ast.specs.declared.step.Axis.TheVariants as ax
use Rattle.xq_ast.specs.declared.step.Test.TheVariants as te
use Rattle.xq_ast.specs.declared.tree.Bind.TheVariants as b
use Rattle.xq_ast.specs.declared.tree.CompareOp.TheVariants.{Eq, Ne, Lt, Le, Gt, Ge}
use Rattle.xq_ast.specs.declared.tree.Expr.TheVariants as e
use Rattle.xq_ast.specs.declared.tree.Sign.TheVariants.{Plus, Minus}
use Rattle.xq_ast.specs.declared.tree.Start.TheVariants as st
use Rattle.xml_model.proofs.Computing.{answer, computes, seen}
use Rattle.xml_model.proofs.QueryForms.{plus, minus, times, divided, modulo, ascending, step, deep_step, only, both, three_x, three_in_words, an_order, c_and_text, spaced_five, number_past_64_bits, signs_and_numbers, plus_four, spaced_one, r_with_a, empty_a, a_with_attributes, no_break_spaces, eleven_with_c, nested_a, to_and_delete}

-- ---- the worked rows of the definition of queries

-- codes of evaluation, and answers that differ in one place from what else might be taken
--     b
--     1/a
--     (1)[a]
--     1 + 'a'
--     7 idiv 0
--     9223372036854775807 + 1
--     -7 idiv 2
--     -7 mod 2
--     if ((1,2)) then 1 else 2
--     element a {'x', attribute b {1}}
--     element a {attribute b {1}, attribute b {2}}
--     'b' < 'a'
--     (2,3) = (3,4)
--     for $x at $i in ('b','a') order by $x return $i
--     3 to 1
--     concat('a&amp;', 1)
each_query_code :
    (answer [] (e.Path (st.First (step ax.Child (te.Name (Some (codes "b"))) [])) []) ≡ Err code.XPDY0002)
    × (answer [] (e.Path (st.Value (e.Int (pos 1))) (step ax.Child (te.Name (Some (codes "a"))) [] ∷ [])) ≡ Err
    code.XPTY0019)
    × (answer [] (e.Filter (e.Int (pos 1)) ((e.Path (st.First (step ax.Child (te.Name (Some (codes "a"))) [])) []) ∷
    [])) ≡ Err code.XPTY0020)
    × (answer [] (e.Sum (e.Int (pos 1)) (plus (e.Text (codes "a")) ∷ [])) ≡ Err code.XPTY0004)
    × (answer [] (e.Product (e.Int (pos 7)) (divided (e.Int (pos 0)) ∷ [])) ≡ Err code.FOAR0001)
    × (answer [] (e.Sum (e.Int (pos 9223372036854775807)) (plus (e.Int (pos 1)) ∷ [])) ≡ Err code.FOAR0002)
    × (answer [] (e.Product (e.Signed (Minus ∷ []) (e.Int (pos 7))) (divided (e.Int (pos 2)) ∷ [])) ≡ Ok ((codes
    "=-3") ∷ []))
    × (answer [] (e.Product (e.Signed (Minus ∷ []) (e.Int (pos 7))) (modulo (e.Int (pos 2)) ∷ [])) ≡ Ok ((codes
    "=-1") ∷ []))
    × (answer [] (e.If (e.Seq ((e.Int (pos 1)) ∷ (e.Int (pos 2)) ∷ [])) (e.Int (pos 1)) (e.Int (pos 2))) ≡ Err
    code.FORG0006)
    × (answer [] (e.Element (codes "a") (Some (e.Seq ((e.Text (codes "x")) ∷ (e.Attribute (codes "b") (Some (e.Int
    (pos 1)))) ∷ [])))) ≡ Err code.XQTY0024)
    × (answer [] (e.Element (codes "a") (Some (e.Seq ((e.Attribute (codes "b") (Some (e.Int (pos 1)))) ∷ (e.Attribute
    (codes "b") (Some (e.Int (pos 2)))) ∷ [])))) ≡ Err code.XQDY0025)
    × (answer [] (e.Compare (e.Text (codes "b")) Lt (e.Text (codes "a"))) ≡ Ok ((codes "=false") ∷ []))
    × (answer [] (e.Compare (e.Seq ((e.Int (pos 2)) ∷ (e.Int (pos 3)) ∷ [])) Eq (e.Seq ((e.Int (pos 3)) ∷ (e.Int (pos
    4)) ∷ []))) ≡ Ok ((codes "=true") ∷ []))
    × (answer [] (e.Flwor (b.For (codes "x") (Some (codes "i")) (e.Seq ((e.Text (codes "b")) ∷ (e.Text (codes "a")) ∷
    [])) ∷ []) None (ascending (e.Var (codes "x")) ∷ []) (e.Var (codes "i"))) ≡ Ok ((codes "=2") ∷ (codes
    "=1") ∷ []))
    × (answer [] (e.Range (e.Int (pos 3)) (e.Int (pos 1))) ≡ Ok [])
    × (answer [] (e.Fun (codes "concat") ((e.Text (codes "a&")) ∷ (e.Int (pos 1)) ∷ [])) ≡ Ok ((codes "=a&1") ∷ []))
unfolding seen
each_query_code = (
  computes [] tt 1 _ refl ∙ refl,
  computes [] tt 2 _ refl ∙ refl,
  computes [] tt 2 _ refl ∙ refl,
  computes [] tt 2 _ refl ∙ refl,
  computes [] tt 2 _ refl ∙ refl,
  computes [] tt 2 _ refl ∙ refl,
  computes [] tt 3 _ refl ∙ refl,
  computes [] tt 3 _ refl ∙ refl,
  computes [] tt 3 _ refl ∙ refl,
  computes [] tt 4 _ refl ∙ refl,
  computes [] tt 4 _ refl ∙ refl,
  computes [] tt 2 _ refl ∙ refl,
  computes [] tt 3 _ refl ∙ refl,
  computes [] tt 3 _ refl ∙ refl,
  computes [] tt 2 _ refl ∙ refl,
  computes [] tt 2 _ refl ∙ refl,
)

-- a predicate of a step counts the nodes from one node; one of a list in brackets counts all
--     doc('d')//x[1]
--     (doc('d')//x)[1]
position_per_step :
    (answer (only three_x) (e.Path (st.Value (e.Doc (codes "d"))) (deep_step ax.Child (te.Name (Some (codes "x")))
    ((e.Int (pos 1)) ∷ []) ∷ [])) ≡ Ok ((codes "(x") ∷ (codes "-1") ∷ (codes ")x") ∷ (codes "(x") ∷ (codes
    "-3") ∷ (codes ")x") ∷ []))
    × (answer (only three_x) (e.Filter (e.Path (st.Value (e.Doc (codes "d"))) (deep_step ax.Child (te.Name (Some
    (codes "x"))) [] ∷ [])) ((e.Int (pos 1)) ∷ [])) ≡ Ok ((codes "(x") ∷ (codes "-1") ∷ (codes ")x") ∷ []))
unfolding seen
position_per_step = (
  computes (only three_x) tt 2 _ refl ∙ refl,
  computes (only three_x) tt 3 _ refl ∙ refl,
)

-- a cast that fails ends its query, and not the next one
--     doc('d')/a[b = 3]
--     count(doc('d'))
failed_cast :
    (answer (only three_in_words) (e.Path (st.Value (e.Doc (codes "d"))) (step ax.Child (te.Name (Some (codes
    "a"))) ((e.Compare (e.Path (st.First (step ax.Child (te.Name (Some (codes "b"))) [])) []) Eq (e.Int (pos
    3))) ∷ []) ∷ [])) ≡ Err code.FORG0001)
    × (answer (only three_in_words) (e.Fun (codes "count") ((e.Doc (codes "d")) ∷ [])) ≡ Ok ((codes "=1") ∷ []))
unfolding seen
failed_cast = (
  computes (only three_in_words) tt 3 _ refl ∙ refl,
  computes (only three_in_words) tt 2 _ refl ∙ refl,
)

-- a sum of nodes, a selection by a value below, and all nodes of a document
--     sum(doc('orders')/order/item/qty)
--     for $i in doc('orders')//item where $i/qty > 3 return $i/@sku
--     count(doc('orders')//node())
orders :
    (answer (((codes "orders"), an_order) ∷ []) (e.Fun (codes "sum") ((e.Path (st.Value (e.Doc (codes "orders")))
    (step ax.Child (te.Name (Some (codes "order"))) [] ∷ step ax.Child (te.Name (Some (codes "item"))) [] ∷
    step ax.Child (te.Name (Some (codes "qty"))) [] ∷ [])) ∷ [])) ≡ Ok ((codes "=7") ∷ []))
    × (answer (((codes "orders"), an_order) ∷ []) (e.Flwor (b.For (codes "i") None (e.Path (st.Value (e.Doc (codes
    "orders"))) (deep_step ax.Child (te.Name (Some (codes "item"))) [] ∷ [])) ∷ []) (Some (e.Compare (e.Path
    (st.Value (e.Var (codes "i"))) (step ax.Child (te.Name (Some (codes "qty"))) [] ∷ [])) Gt (e.Int (pos
    3)))) [] (e.Path (st.Value (e.Var (codes "i"))) (step ax.Attribute (te.Name (Some (codes "sku"))) [] ∷
    []))) ≡ Ok ((codes "Asku B2") ∷ []))
    × (answer (((codes "orders"), an_order) ∷ []) (e.Fun (codes "count") ((e.Path (st.Value (e.Doc (codes "orders")))
    (deep_step ax.Child te.AnyNode [] ∷ [])) ∷ [])) ≡ Ok ((codes "=8") ∷ []))
unfolding seen
orders = (
  computes (((codes "orders"), an_order) ∷ []) tt 3 _ refl ∙ refl,
  computes (((codes "orders"), an_order) ∷ []) tt 4 _ refl ∙ refl,
  computes (((codes "orders"), an_order) ∷ []) tt 3 _ refl ∙ refl,
)

-- ---- what is evaluated, in which order

-- a later part of a list fails the whole
--     (8>(1 to 2))or contains('it''s', "é"), 8 idiv 0
fault_of_later_part : answer [] (e.Seq ((e.Or ((e.Compare (e.Int (pos 8)) Gt (e.Range (e.Int (pos 1)) (e.Int (pos
    2)))) ∷ (e.Fun (codes "contains") ((e.Text (codes "it's")) ∷ (e.Text (195 ∷ 169 ∷ [])) ∷ [])) ∷ [])) ∷ (e.Product
    (e.Int (pos 8)) (divided (e.Int (pos 0)) ∷ [])) ∷ [])) ≡ Err code.FOAR0001
unfolding seen
fault_of_later_part = computes [] tt 5 _ refl ∙ refl

-- the parts of a sum are all evaluated before the first operator
--     'a' + 1 + (1 idiv 0)
all_operands_before_operators : answer [] (e.Sum (e.Text (codes "a")) (plus (e.Int (pos 1)) ∷ plus (e.Product (e.Int
    (pos 1)) (divided (e.Int (pos 0)) ∷ [])) ∷ [])) ≡ Err code.FOAR0001
unfolding seen
all_operands_before_operators = computes [] tt 3 _ refl ∙ refl

-- the branch that is taken may fail
--     if('w')then fn:count(fn:doc ( 'no' )//r/r / i )else count( ())
taken_branch_fails : answer [] (e.If (e.Text (codes "w")) (e.Fun (codes "count") ((e.Path (st.Value (e.Doc (codes
    "no"))) (deep_step ax.Child (te.Name (Some (codes "r"))) [] ∷ step ax.Child (te.Name (Some (codes "r"))) [] ∷
    step ax.Child (te.Name (Some (codes "i"))) [] ∷ [])) ∷ [])) (e.Fun (codes "count") ((e.Seq []) ∷ []))) ≡ Err
    code.FODC0002
unfolding seen
taken_branch_fails = computes [] tt 4 _ refl ∙ refl

-- the other branch is not evaluated
--     if (1 = 1) then 2 else 1 idiv 0
other_branch_not_evaluated : answer [] (e.If (e.Compare (e.Int (pos 1)) Eq (e.Int (pos 1))) (e.Int (pos 2))
    (e.Product (e.Int (pos 1)) (divided (e.Int (pos 0)) ∷ []))) ≡ Ok ((codes "=2") ∷ [])
unfolding seen
other_branch_not_evaluated = computes [] tt 3 _ refl ∙ refl

-- nor what it would construct
--     count(())>=(if(0=1)then element a{'x', attribute k{}}else 2)
constructor_not_needed : answer [] (e.Compare (e.Fun (codes "count") ((e.Seq []) ∷ [])) Ge (e.If (e.Compare (e.Int
    (pos 0)) Eq (e.Int (pos 1))) (e.Element (codes "a") (Some (e.Seq ((e.Text (codes "x")) ∷ (e.Attribute (codes "k")
    None) ∷ [])))) (e.Int (pos 2)))) ≡ Ok ((codes "=false") ∷ [])
unfolding seen
constructor_not_needed = computes [] tt 5 _ refl ∙ refl

-- `or` stops at the first true
--     false() or true() or 1 idiv 0
or_stops_at_first_true : answer [] (e.Or ((e.Fun (codes "false") []) ∷ (e.Fun (codes "true") []) ∷ (e.Product (e.Int
    (pos 1)) (divided (e.Int (pos 0)) ∷ [])) ∷ [])) ≡ Ok ((codes "=true") ∷ [])
unfolding seen
or_stops_at_first_true = computes [] tt 3 _ refl ∙ refl

-- `and` stops at the first false
--     true() and false() and 1 idiv 0
and_stops_at_first_false : answer [] (e.And ((e.Fun (codes "true") []) ∷ (e.Fun (codes "false") []) ∷ (e.Product
    (e.Int (pos 1)) (divided (e.Int (pos 0)) ∷ [])) ∷ [])) ≡ Ok ((codes "=false") ∷ [])
unfolding seen
and_stops_at_first_false = computes [] tt 3 _ refl ∙ refl

-- operands of `or` are taken by their effective boolean value
--     true( ) or 8
or_takes_truth : answer [] (e.Or ((e.Fun (codes "true") []) ∷ (e.Int (pos 8)) ∷ [])) ≡ Ok ((codes "=true") ∷ [])
unfolding seen
or_takes_truth = computes [] tt 2 _ refl ∙ refl

-- a part of `or` that is needed may fail
--     ("<" > 9223372036854775807)or(3 -7)or(4= 4 ),'é'
or_fails_at_first_part : answer [] (e.Seq ((e.Or ((e.Compare (e.Text (codes "<")) Gt (e.Int (pos
    9223372036854775807))) ∷ (e.Sum (e.Int (pos 3)) (minus (e.Int (pos 7)) ∷ [])) ∷ (e.Compare (e.Int (pos 4)) Eq
    (e.Int (pos 4))) ∷ [])) ∷ (e.Text (195 ∷ 169 ∷ [])) ∷ [])) ≡ Err code.XPTY0004
unfolding seen
or_fails_at_first_part = computes [] tt 4 _ refl ∙ refl

-- a value has 8,388,608 items at most
--     1 to 8388609
too_many_items : answer [] (e.Range (e.Int (pos 1)) (e.Int (pos 8388609))) ≡ Err code.TooManyItems
unfolding seen
too_many_items = computes [] tt 2 _ refl ∙ refl

-- ---- integers and truth values of untyped values

-- spaces around an integer are dropped
--     doc('d')/a + 1
spaces_around_integer : answer (only spaced_five) (e.Sum (e.Path (st.Value (e.Doc (codes "d"))) (step ax.Child
    (te.Name (Some (codes "a"))) [] ∷ [])) (plus (e.Int (pos 1)) ∷ [])) ≡ Ok ((codes "=6") ∷ [])
unfolding seen
spaces_around_integer = computes (only spaced_five) tt 3 _ refl ∙ refl

-- beside an integer an untyped value is one
--     (doc( 'd')/ x)<=count ( doc ('e' )//r/i/c//c )
untyped_with_integer : answer (both number_past_64_bits signs_and_numbers) (e.Compare (e.Path (st.Value (e.Doc (codes
    "d"))) (step ax.Child (te.Name (Some (codes "x"))) [] ∷ [])) Le (e.Fun (codes "count") ((e.Path (st.Value (e.Doc
    (codes "e"))) (deep_step ax.Child (te.Name (Some (codes "r"))) [] ∷ step ax.Child (te.Name (Some (codes "i"))) []
    ∷ step ax.Child (te.Name (Some (codes "c"))) [] ∷ deep_step ax.Child (te.Name (Some (codes "c"))) [] ∷ [])) ∷
    []))) ≡ Ok ((codes "=false") ∷ [])
unfolding seen
untyped_with_integer = computes (both number_past_64_bits signs_and_numbers) tt 4 _ refl ∙ refl

-- the empty text is no integer
--     not(doc ( 'e' )>=8)
empty_text_is_no_integer : answer (((codes "e"), plus_four) ∷ []) (e.Fun (codes "not") ((e.Compare (e.Doc (codes
    "e")) Ge (e.Int (pos 8))) ∷ [])) ≡ Err code.FORG0001
unfolding seen
empty_text_is_no_integer = computes (((codes "e"), plus_four) ∷ []) tt 3 _ refl ∙ refl

-- nor is a number past 64 bits
--     doc('d')/x/@n + 0
untyped_past_64_bits : answer (only number_past_64_bits) (e.Sum (e.Path (st.Value (e.Doc (codes "d"))) (step ax.Child
    (te.Name (Some (codes "x"))) [] ∷ step ax.Attribute (te.Name (Some (codes "n"))) [] ∷ [])) (plus (e.Int (pos 0))
    ∷ [])) ≡ Err code.FORG0001
unfolding seen
untyped_past_64_bits = computes (only number_past_64_bits) tt 3 _ refl ∙ refl

-- spaces around a truth value are dropped
--     doc('d')/a = true()
spaces_around_truth_value : answer (only spaced_one) (e.Compare (e.Path (st.Value (e.Doc (codes "d"))) (step ax.Child
    (te.Name (Some (codes "a"))) [] ∷ [])) Eq (e.Fun (codes "true") [])) ≡ Ok ((codes "=true") ∷ [])
unfolding seen
spaces_around_truth_value = computes (only spaced_one) tt 3 _ refl ∙ refl

-- the empty text is no truth value
--     if((doc ( 'e' )/ r ) < (1> 4 ))then (text {'zz'}= 1 ) else -0
empty_text_is_no_truth_value : answer (((codes "e"), r_with_a) ∷ []) (e.If (e.Compare (e.Path (st.Value (e.Doc (codes
    "e"))) (step ax.Child (te.Name (Some (codes "r"))) [] ∷ [])) Lt (e.Compare (e.Int (pos 1)) Gt (e.Int (pos 4))))
    (e.Compare (e.TextNode (Some (e.Text (codes "zz")))) Eq (e.Int (pos 1))) (e.Signed (Minus ∷ []) (e.Int (pos 0))))
    ≡ Err code.FORG0001
unfolding seen
empty_text_is_no_truth_value = computes (((codes "e"), r_with_a) ∷ []) tt 4 _ refl ∙ refl

-- ---- effective boolean values

-- a list of two integers has none
--     not((1, 2))
two_integers_have_none : answer [] (e.Fun (codes "not") ((e.Seq ((e.Int (pos 1)) ∷ (e.Int (pos 2)) ∷ [])) ∷ [])) ≡
    Err code.FORG0006
unfolding seen
two_integers_have_none = computes [] tt 3 _ refl ∙ refl

-- an integer other than 0 is true
--     if(6)then'v'else"v"
integer_is_true : answer [] (e.If (e.Int (pos 6)) (e.Text (codes "v")) (e.Text (codes "v"))) ≡ Ok ((codes "=v") ∷ [])
unfolding seen
integer_is_true = computes [] tt 2 _ refl ∙ refl

-- the empty string is false
--     if ('') then 1 else 2
empty_string_is_false : answer [] (e.If (e.Text []) (e.Int (pos 1)) (e.Int (pos 2))) ≡ Ok ((codes "=2") ∷ [])
unfolding seen
empty_string_is_false = computes [] tt 2 _ refl ∙ refl

-- a list whose first item is a node is true
--     if ((doc('d'), 0)) then 1 else 2
first_node_is_true : answer (only empty_a) (e.If (e.Seq ((e.Doc (codes "d")) ∷ (e.Int (pos 0)) ∷ [])) (e.Int (pos 1))
    (e.Int (pos 2))) ≡ Ok ((codes "=1") ∷ [])
unfolding seen
first_node_is_true = computes (only empty_a) tt 3 _ refl ∙ refl

-- nodes are true in a predicate
--     fn:empty ((doc('d')/r)[ doc('e' ) /r/mod ] )
nodes_are_true : answer (both a_with_attributes no_break_spaces) (e.Fun (codes "empty") ((e.Filter (e.Path (st.Value
    (e.Doc (codes "d"))) (step ax.Child (te.Name (Some (codes "r"))) [] ∷ [])) ((e.Path (st.Value (e.Doc (codes
    "e"))) (step ax.Child (te.Name (Some (codes "r"))) [] ∷ step ax.Child (te.Name (Some (codes "mod"))) [] ∷ [])) ∷
    [])) ∷ [])) ≡ Ok ((codes "=false") ∷ [])
unfolding seen
nodes_are_true = computes (both a_with_attributes no_break_spaces) tt 4 _ refl ∙ refl

-- nothing is false
--     if( 0<3)then () else ()
--     if (()) then 1 else 2
nothing_is_false :
    (answer [] (e.If (e.Compare (e.Int (pos 0)) Lt (e.Int (pos 3))) (e.Seq []) (e.Seq [])) ≡ Ok [])
    × (answer [] (e.If (e.Seq []) (e.Int (pos 1)) (e.Int (pos 2))) ≡ Ok ((codes "=2") ∷ []))
unfolding seen
nothing_is_false = (
  computes [] tt 3 _ refl ∙ refl,
  computes [] tt 2 _ refl ∙ refl,
)

-- ---- comparison

-- some pair is enough
--     (0 to 1)>0
some_pair_is_greater : answer [] (e.Compare (e.Range (e.Int (pos 0)) (e.Int (pos 1))) Gt (e.Int (pos 0))) ≡ Ok
    ((codes "=true") ∷ [])
unfolding seen
some_pair_is_greater = computes [] tt 3 _ refl ∙ refl

-- no pair compares so
--     ( 7 mod 5)> (8,4)
no_pair_is_greater : answer [] (e.Compare (e.Product (e.Int (pos 7)) (modulo (e.Int (pos 5)) ∷ [])) Gt (e.Seq ((e.Int
    (pos 8)) ∷ (e.Int (pos 4)) ∷ []))) ≡ Ok ((codes "=false") ∷ [])
unfolding seen
no_pair_is_greater = computes [] tt 3 _ refl ∙ refl

-- with nothing there is no pair
--     (6, 6)=()
nothing_compares_false : answer [] (e.Compare (e.Seq ((e.Int (pos 6)) ∷ (e.Int (pos 6)) ∷ [])) Eq (e.Seq [])) ≡ Ok
    ((codes "=false") ∷ [])
unfolding seen
nothing_compares_false = computes [] tt 3 _ refl ∙ refl

-- false comes before true
--     false()<=true()
false_before_true : answer [] (e.Compare (e.Fun (codes "false") []) Le (e.Fun (codes "true") [])) ≡ Ok ((codes
    "=true") ∷ [])
unfolding seen
false_before_true = computes [] tt 2 _ refl ∙ refl

-- untyped values are compared as strings with each other
--     ( doc('e') /r | doc ( 'd' )//*//text ( ) )!= ( doc ( 'd') //a)
untyped_with_untyped : answer (both r_with_a r_with_a) (e.Compare (e.Union ((e.Path (st.Value (e.Doc (codes "e")))
    (step ax.Child (te.Name (Some (codes "r"))) [] ∷ [])) ∷ (e.Path (st.Value (e.Doc (codes "d"))) (deep_step
    ax.Child (te.Name None) [] ∷ deep_step ax.Child te.Text [] ∷ [])) ∷ [])) Ne (e.Path (st.Value (e.Doc (codes
    "d"))) (deep_step ax.Child (te.Name (Some (codes "a"))) [] ∷ []))) ≡ Ok ((codes "=false") ∷ [])
unfolding seen
untyped_with_untyped = computes (both r_with_a r_with_a) tt 4 _ refl ∙ refl

-- and with strings
--     ((doc('d')/r/a//@id, doc('d')/descendant-or-self::node()/c)//self::node())>='7'
untyped_with_string : answer (only eleven_with_c) (e.Compare (e.Path (st.Value (e.Seq ((e.Path (st.Value (e.Doc
    (codes "d"))) (step ax.Child (te.Name (Some (codes "r"))) [] ∷ step ax.Child (te.Name (Some (codes "a"))) [] ∷
    deep_step ax.Attribute (te.Name (Some (codes "id"))) [] ∷ [])) ∷ (e.Path (st.Value (e.Doc (codes "d"))) (step
    ax.DescendantOrSelf te.AnyNode [] ∷ step ax.Child (te.Name (Some (codes "c"))) [] ∷ [])) ∷ []))) (deep_step
    ax.Itself te.AnyNode [] ∷ [])) Ge (e.Text (codes "7"))) ≡ Ok ((codes "=true") ∷ [])
unfolding seen
untyped_with_string = computes (only eleven_with_c) tt 5 _ refl ∙ refl

-- strings are compared by code points
--     'é' > 'z'
string_with_string : answer [] (e.Compare (e.Text (195 ∷ 169 ∷ [])) Gt (e.Text (codes "z"))) ≡ Ok ((codes "=true") ∷
    [])
unfolding seen
string_with_string = computes [] tt 2 _ refl ∙ refl

-- the first true pair ends it
--     (1, 'a') = (1, 2)
first_true_pair_ends : answer [] (e.Compare (e.Seq ((e.Int (pos 1)) ∷ (e.Text (codes "a")) ∷ [])) Eq (e.Seq ((e.Int
    (pos 1)) ∷ (e.Int (pos 2)) ∷ []))) ≡ Ok ((codes "=true") ∷ [])
unfolding seen
first_true_pair_ends = computes [] tt 3 _ refl ∙ refl

-- so does the first that fails
--     ('a', 1) = 1
first_failing_pair_ends : answer [] (e.Compare (e.Seq ((e.Text (codes "a")) ∷ (e.Int (pos 1)) ∷ [])) Eq (e.Int (pos
    1))) ≡ Err code.XPTY0004
unfolding seen
first_failing_pair_ends = computes [] tt 3 _ refl ∙ refl

-- other types are not compared
--     (false()<=4)and not(doc('d')/..)
truth_value_with_integer : answer (only nested_a) (e.And ((e.Compare (e.Fun (codes "false") []) Le (e.Int (pos 4))) ∷
    (e.Fun (codes "not") ((e.Path (st.Value (e.Doc (codes "d"))) (step ax.Parent te.AnyNode [] ∷ [])) ∷ [])) ∷ [])) ≡
    Err code.XPTY0004
unfolding seen
truth_value_with_integer = computes (only nested_a) tt 4 _ refl ∙ refl

-- a cast in a pair may fail
--     (5, 2)>(doc('d')//parent::p:q/node|doc('d')/a/b)
untyped_pair_fails : answer (only to_and_delete) (e.Compare (e.Seq ((e.Int (pos 5)) ∷ (e.Int (pos 2)) ∷ [])) Gt
    (e.Union ((e.Path (st.Value (e.Doc (codes "d"))) (deep_step ax.Parent (te.Name (Some (codes "p:q"))) [] ∷ step
    ax.Child (te.Name (Some (codes "node"))) [] ∷ [])) ∷ (e.Path (st.Value (e.Doc (codes "d"))) (step ax.Child
    (te.Name (Some (codes "a"))) [] ∷ step ax.Child (te.Name (Some (codes "b"))) [] ∷ [])) ∷ []))) ≡ Err code.FORG0001
unfolding seen
untyped_pair_fails = computes (only to_and_delete) tt 4 _ refl ∙ refl

-- ---- arithmetic and `to`

-- operators of one row are applied from the left
--     1 idiv 3 idiv 3
divides_from_left : answer [] (e.Product (e.Int (pos 1)) (divided (e.Int (pos 3)) ∷ divided (e.Int (pos 3)) ∷ [])) ≡
    Ok ((codes "=0") ∷ [])
unfolding seen
divides_from_left = computes [] tt 2 _ refl ∙ refl

-- sums too
--     9 -5 -sum(( 3))
subtracts_from_left : answer [] (e.Sum (e.Int (pos 9)) (minus (e.Int (pos 5)) ∷ minus (e.Fun (codes "sum") ((e.Int
    (pos 3)) ∷ [])) ∷ [])) ≡ Ok ((codes "=1") ∷ [])
unfolding seen
subtracts_from_left = computes [] tt 3 _ refl ∙ refl

-- and products
--     "say ""x""", 100 idiv 5*3
product_from_left : answer [] (e.Seq ((e.Text (codes "say \"x\"")) ∷ (e.Product (e.Int (pos 100)) (divided (e.Int
    (pos 5)) ∷ times (e.Int (pos 3)) ∷ [])) ∷ [])) ≡ Ok ((codes "=say \"x\"") ∷ (codes "=60") ∷ [])
unfolding seen
product_from_left = computes [] tt 3 _ refl ∙ refl

-- a product past 64 bits fails
--     3 *4611686018427387904
product_past_64_bits : answer [] (e.Product (e.Int (pos 3)) (times (e.Int (pos 4611686018427387904)) ∷ [])) ≡ Err
    code.FOAR0002
unfolding seen
product_past_64_bits = computes [] tt 2 _ refl ∙ refl

-- so does a difference
--     (-9223372036854775807 -1)-1
difference_past_64_bits : answer [] (e.Sum (e.Sum (e.Signed (Minus ∷ []) (e.Int (pos 9223372036854775807))) (minus
    (e.Int (pos 1)) ∷ [])) (minus (e.Int (pos 1)) ∷ [])) ≡ Err code.FOAR0002
unfolding seen
difference_past_64_bits = computes [] tt 4 _ refl ∙ refl

-- the least integer is one
--     -9223372036854775807 - 1
least_integer : answer [] (e.Sum (e.Signed (Minus ∷ []) (e.Int (pos 9223372036854775807))) (minus (e.Int (pos 1)) ∷
    [])) ≡ Ok ((codes "=-9223372036854775808") ∷ [])
unfolding seen
least_integer = computes [] tt 3 _ refl ∙ refl

-- signs work from the inside out
--     - --3
signs_from_inside : answer [] (e.Signed (Minus ∷ Minus ∷ Minus ∷ []) (e.Int (pos 3))) ≡ Ok ((codes "=-3") ∷ [])
unfolding seen
signs_from_inside = computes [] tt 2 _ refl ∙ refl

-- an empty operand gives nothing
--     string (-++())
signs_of_nothing : answer [] (e.Fun (codes "string") ((e.Signed (Minus ∷ Plus ∷ Plus ∷ []) (e.Seq [])) ∷ [])) ≡ Ok
    ((codes "=") ∷ [])
unfolding seen
signs_of_nothing = computes [] tt 3 _ refl ∙ refl

-- on either side
--     (6+(if(false())then doc('d')//r else doc('d')//@id/r))
sum_with_nothing : answer (only c_and_text) (e.Sum (e.Int (pos 6)) (plus (e.If (e.Fun (codes "false") []) (e.Path
    (st.Value (e.Doc (codes "d"))) (deep_step ax.Child (te.Name (Some (codes "r"))) [] ∷ [])) (e.Path (st.Value
    (e.Doc (codes "d"))) (deep_step ax.Attribute (te.Name (Some (codes "id"))) [] ∷ step ax.Child (te.Name (Some
    (codes "r"))) [] ∷ []))) ∷ [])) ≡ Ok []
unfolding seen
sum_with_nothing = computes (only c_and_text) tt 4 _ refl ∙ refl

-- a string is no operand
--     string( ("it's" - 1 -0) +( 7+9))
string_operand : answer [] (e.Fun (codes "string") ((e.Sum (e.Sum (e.Text (codes "it's")) (minus (e.Int (pos 1)) ∷
    minus (e.Int (pos 0)) ∷ [])) (plus (e.Sum (e.Int (pos 7)) (plus (e.Int (pos 9)) ∷ [])) ∷ [])) ∷ [])) ≡ Err
    code.XPTY0004
unfolding seen
string_operand = computes [] tt 4 _ refl ∙ refl

-- nor are two items
--     (1, 2) + 1
operand_of_two_items : answer [] (e.Sum (e.Seq ((e.Int (pos 1)) ∷ (e.Int (pos 2)) ∷ [])) (plus (e.Int (pos 1)) ∷ []))
    ≡ Err code.XPTY0004
unfolding seen
operand_of_two_items = computes [] tt 3 _ refl ∙ refl

-- no division by zero
--     sum(8 )idiv string-length("" )
zero_divisor : answer [] (e.Product (e.Fun (codes "sum") ((e.Int (pos 8)) ∷ [])) (divided (e.Fun (codes
    "string-length") ((e.Text []) ∷ [])) ∷ [])) ≡ Err code.FOAR0001
unfolding seen
zero_divisor = computes [] tt 3 _ refl ∙ refl

-- a range has both its ends
--     3 to 3
range_to_itself : answer [] (e.Range (e.Int (pos 3)) (e.Int (pos 3))) ≡ Ok ((codes "=3") ∷ [])
unfolding seen
range_to_itself = computes [] tt 2 _ refl ∙ refl

-- and none where it goes down
--     3 to 0
range_downwards : answer [] (e.Range (e.Int (pos 3)) (e.Int (pos 0))) ≡ Ok []
unfolding seen
range_downwards = computes [] tt 2 _ refl ∙ refl

-- or where one end is empty
--     () to 2
range_of_nothing : answer [] (e.Range (e.Seq []) (e.Int (pos 2))) ≡ Ok []
unfolding seen
range_of_nothing = computes [] tt 2 _ refl ∙ refl
