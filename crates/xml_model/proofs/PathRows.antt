-- Worked rows of what queries mean: nodes in document order, their texts, unions, paths and predicates.
-- Each row says what it shows and has the text of the query; its answer is the lines of its items, or its code.
use Rattle.std.specs.Prelude.{◌≡◌, pos, [], ◌∷◌, None, Some, Ok, Err, refl, codes}
use Rattle.std.proofs.Common.{◌∙◌}
use Rattle.xq_ast.specs.declared.code.Code.TheVariants as code
use Rattle.xq_ast.specs.declared.step.Axis.TheVariants as ax
use Rattle.xq_ast.specs.declared.step.Test.TheVariants as te
use Rattle.xq_ast.specs.declared.tree.Bind.TheVariants as b
use Rattle.xq_ast.specs.declared.tree.CompareOp.TheVariants.{Eq, Ne, Lt, Le, Gt}
use Rattle.xq_ast.specs.declared.tree.Expr.TheVariants as e
use Rattle.xq_ast.specs.declared.tree.Start.TheVariants as st
use Rattle.xml_model.proofs.Computing.{answer, computes, seen}
use Rattle.xml_model.proofs.QueryForms.{step, deep_step, only, both, c_and_text, empty_r, instruction_then_attribute, four, nested_i, instructions, eleven, r_with_a, to_and_delete, x_in_x, two_attributes, one, x_with_k, several_roots}

-- ---- order of nodes

-- a node comes before its attributes, and these before its children
--     for $n in (doc('d')//@* | doc('d')//node()) return name($n)
node_attributes_children : answer (only c_and_text) (e.Flwor (b.For (codes "n") None (e.Union ((e.Path (st.Value
    (e.Doc (codes "d"))) (deep_step ax.Attribute (te.Name None) [] ∷ [])) ∷ (e.Path (st.Value (e.Doc (codes "d")))
    (deep_step ax.Child te.AnyNode [] ∷ [])) ∷ [])) ∷ []) None [] (e.Fun (codes "name") ((e.Var (codes "n")) ∷ [])))
    ≡ Ok ((codes "=r") ∷ (codes "=c") ∷ (codes "=id") ∷ (codes "=") ∷ [])
unfolding seen
node_attributes_children = computes (only c_and_text) tt 4 _ refl ∙ refl

-- documents come in the order of their names
--     doc('e')/r | doc('d')/r
documents_by_name : answer (both c_and_text empty_r) (e.Union ((e.Path (st.Value (e.Doc (codes "e"))) (step ax.Child
    (te.Name (Some (codes "r"))) [] ∷ [])) ∷ (e.Path (st.Value (e.Doc (codes "d"))) (step ax.Child (te.Name (Some
    (codes "r"))) [] ∷ [])) ∷ [])) ≡ Ok ((codes "(r") ∷ (codes "(c") ∷ (codes "Aid 3") ∷ (codes ")c") ∷ (codes
    "-abc") ∷ (codes ")r") ∷ (codes "(r") ∷ (codes ")r") ∷ [])
unfolding seen
documents_by_name = computes (both c_and_text empty_r) tt 3 _ refl ∙ refl

-- stored documents come before constructed trees
--     (element c{0<2}//self::text()[true()]|doc('e')/*)
stored_before_constructed : answer (((codes "e"), empty_r) ∷ []) (e.Union ((e.Path (st.Value (e.Element (codes "c")
    (Some (e.Compare (e.Int (pos 0)) Lt (e.Int (pos 2)))))) (deep_step ax.Itself te.Text ((e.Fun (codes "true") []) ∷
    []) ∷ [])) ∷ (e.Path (st.Value (e.Doc (codes "e"))) (step ax.Child (te.Name None) [] ∷ [])) ∷ [])) ≡ Ok ((codes
    "(r") ∷ (codes ")r") ∷ (codes "-true") ∷ [])
unfolding seen
stored_before_constructed = computes (((codes "e"), empty_r) ∷ []) tt 5 _ refl ∙ refl

-- constructed trees come in the order of their construction
--     element b {} | element a {}
constructed_in_order : answer [] (e.Union ((e.Element (codes "b") None) ∷ (e.Element (codes "a") None) ∷ [])) ≡ Ok
    ((codes "(b") ∷ (codes ")b") ∷ (codes "(a") ∷ (codes ")a") ∷ [])
unfolding seen
constructed_in_order = computes [] tt 2 _ refl ∙ refl

-- an instruction comes before an attribute further on
--     (doc('d')/c/a/x//i/@n|doc('d')/*/processing-instruction())
instruction_before_later_attribute : answer (only instruction_then_attribute) (e.Union ((e.Path (st.Value (e.Doc
    (codes "d"))) (step ax.Child (te.Name (Some (codes "c"))) [] ∷ step ax.Child (te.Name (Some (codes "a"))) [] ∷
    step ax.Child (te.Name (Some (codes "x"))) [] ∷ deep_step ax.Child (te.Name (Some (codes "i"))) [] ∷ step
    ax.Attribute (te.Name (Some (codes "n"))) [] ∷ [])) ∷ (e.Path (st.Value (e.Doc (codes "d"))) (step ax.Child
    (te.Name None) [] ∷ step ax.Child te.Pi [] ∷ [])) ∷ [])) ≡ Ok ((codes "?q c\\nd") ∷ (codes "An 5") ∷ [])
unfolding seen
instruction_before_later_attribute = computes (only instruction_then_attribute) tt 3 _ refl ∙ refl

-- ---- string values

-- a document has the texts in it
--     concat(() , string ( (doc('d') )[ 1 ] ))
text_of_document : answer (only four) (e.Fun (codes "concat") ((e.Seq []) ∷ (e.Fun (codes "string") ((e.Filter (e.Doc
    (codes "d")) ((e.Int (pos 1)) ∷ [])) ∷ [])) ∷ [])) ≡ Ok ((codes "=4") ∷ [])
unfolding seen
text_of_document = computes (only four) tt 4 _ refl ∙ refl

-- so has an element, however deep they stand
--     string( (doc('d' )/r/ b//c /* )[1])
text_below_elements : answer (only nested_i) (e.Fun (codes "string") ((e.Filter (e.Path (st.Value (e.Doc (codes
    "d"))) (step ax.Child (te.Name (Some (codes "r"))) [] ∷ step ax.Child (te.Name (Some (codes "b"))) [] ∷ deep_step
    ax.Child (te.Name (Some (codes "c"))) [] ∷ step ax.Child (te.Name None) [] ∷ [])) ((e.Int (pos 1)) ∷ [])) ∷ []))
    ≡ Ok ((codes "=9") ∷ [])
unfolding seen
text_below_elements = computes (only nested_i) tt 4 _ refl ∙ refl

-- attributes are no part of it
--     string((element i{attribute n{'w'}, 2})[1])
text_without_attributes : answer [] (e.Fun (codes "string") ((e.Filter (e.Element (codes "i") (Some (e.Seq
    ((e.Attribute (codes "n") (Some (e.Text (codes "w")))) ∷ (e.Int (pos 2)) ∷ [])))) ((e.Int (pos 1)) ∷ [])) ∷ []))
    ≡ Ok ((codes "=2") ∷ [])
unfolding seen
text_without_attributes = computes [] tt 6 _ refl ∙ refl

-- an instruction has its value
--     string(doc('d')/r/processing-instruction())
text_of_instruction : answer (only instructions) (e.Fun (codes "string") ((e.Path (st.Value (e.Doc (codes "d")))
    (step ax.Child (te.Name (Some (codes "r"))) [] ∷ step ax.Child te.Pi [] ∷ [])) ∷ [])) ≡ Ok ((codes "=7") ∷ [])
unfolding seen
text_of_instruction = computes (only instructions) tt 3 _ refl ∙ refl

-- nodes are atomized to their texts
--     text{doc('f')/r/a}
nodes_become_text : answer (((codes "f"), eleven) ∷ []) (e.TextNode (Some (e.Path (st.Value (e.Doc (codes "f")))
    (step ax.Child (te.Name (Some (codes "r"))) [] ∷ step ax.Child (te.Name (Some (codes "a"))) [] ∷ [])))) ≡ Ok
    ((codes "-11") ∷ [])
unfolding seen
nodes_become_text = computes (((codes "f"), eleven) ∷ []) tt 3 _ refl ∙ refl

-- ---- unions

-- only nodes are united
--     concat( ( 1 | 2),"7",'' )
union_of_integers : answer [] (e.Fun (codes "concat") ((e.Union ((e.Int (pos 1)) ∷ (e.Int (pos 2)) ∷ [])) ∷ (e.Text
    (codes "7")) ∷ (e.Text []) ∷ [])) ≡ Err code.XPTY0004
unfolding seen
union_of_integers = computes [] tt 3 _ refl ∙ refl

-- each node stands once
--     count(doc('d')//c | doc('d')/r/c)
union_without_duplicates : answer (only c_and_text) (e.Fun (codes "count") ((e.Union ((e.Path (st.Value (e.Doc (codes
    "d"))) (deep_step ax.Child (te.Name (Some (codes "c"))) [] ∷ [])) ∷ (e.Path (st.Value (e.Doc (codes "d"))) (step
    ax.Child (te.Name (Some (codes "r"))) [] ∷ step ax.Child (te.Name (Some (codes "c"))) [] ∷ [])) ∷ [])) ∷ [])) ≡
    Ok ((codes "=1") ∷ [])
unfolding seen
union_without_duplicates = computes (only c_and_text) tt 4 _ refl ∙ refl

-- with nothing a union is the other side
--     (( doc('d' ) // descendant-or-self :: c /self :: text( )union doc('d')/ r)/child:: text()|doc('d') / r)
union_of_empty_and_element : answer (only r_with_a) (e.Union ((e.Path (st.Value (e.Union ((e.Path (st.Value (e.Doc
    (codes "d"))) (deep_step ax.DescendantOrSelf (te.Name (Some (codes "c"))) [] ∷ step ax.Itself te.Text [] ∷ [])) ∷
    (e.Path (st.Value (e.Doc (codes "d"))) (step ax.Child (te.Name (Some (codes "r"))) [] ∷ [])) ∷ []))) (step
    ax.Child te.Text [] ∷ [])) ∷ (e.Path (st.Value (e.Doc (codes "d"))) (step ax.Child (te.Name (Some (codes "r")))
    [] ∷ [])) ∷ [])) ≡ Ok ((codes "(r") ∷ (codes "(a") ∷ (codes ")a") ∷ (codes ")r") ∷ [])
unfolding seen
union_of_empty_and_element = computes (only r_with_a) tt 5 _ refl ∙ refl

-- ---- paths

-- there is no context item at the top
--     .
context_item_without_context : answer [] e.Context ≡ Err code.XPDY0002
unfolding seen
context_item_without_context = computes [] tt 1 _ refl ∙ refl

-- a step does not go from an atomic item
--     for$y1 in true()for$x in $y1//c return 'v'
atomic_item_before_step : answer [] (e.Flwor (b.For (codes "y1") None (e.Fun (codes "true") []) ∷ b.For (codes "x")
    None (e.Path (st.Value (e.Var (codes "y1"))) (deep_step ax.Child (te.Name (Some (codes "c"))) [] ∷ [])) ∷ [])
    None [] (e.Text (codes "v"))) ≡ Err code.XPTY0019
unfolding seen
atomic_item_before_step = computes [] tt 3 _ refl ∙ refl

-- `//` reaches all elements
--     doc('d')//@k
attributes_of_all_elements : answer (only instructions) (e.Path (st.Value (e.Doc (codes "d"))) (deep_step
    ax.Attribute (te.Name (Some (codes "k"))) [] ∷ [])) ≡ Ok ((codes "Ak 4") ∷ (codes "Ak abc") ∷ [])
unfolding seen
attributes_of_all_elements = computes (only instructions) tt 2 _ refl ∙ refl

-- a name test on `child` takes elements
--     doc ('d')//r / *
children_of_step : answer (only c_and_text) (e.Path (st.Value (e.Doc (codes "d"))) (deep_step ax.Child (te.Name (Some
    (codes "r"))) [] ∷ step ax.Child (te.Name None) [] ∷ [])) ≡ Ok ((codes "(c") ∷ (codes "Aid 3") ∷ (codes ")c") ∷
    [])
unfolding seen
children_of_step = computes (only c_and_text) tt 2 _ refl ∙ refl

-- a test of instructions
--     doc('d') / r /processing-instruction( )
instruction_test : answer (only instructions) (e.Path (st.Value (e.Doc (codes "d"))) (step ax.Child (te.Name (Some
    (codes "r"))) [] ∷ step ax.Child te.Pi [] ∷ [])) ≡ Ok ((codes "?q 7") ∷ [])
unfolding seen
instruction_test = computes (only instructions) tt 2 _ refl ∙ refl

-- a test of any node
--     doc ( 'e')/ node ( )
node_test : answer (((codes "e"), empty_r) ∷ []) (e.Path (st.Value (e.Doc (codes "e"))) (step ax.Child te.AnyNode []
    ∷ [])) ≡ Ok ((codes "(r") ∷ (codes ")r") ∷ [])
unfolding seen
node_test = computes (((codes "e"), empty_r) ∷ []) tt 2 _ refl ∙ refl

-- a test of any node on `attribute` takes attributes alone
--     (doc('e')//attribute::node())[position()<=3]
any_attributes : answer (((codes "e"), x_in_x) ∷ []) (e.Filter (e.Path (st.Value (e.Doc (codes "e"))) (deep_step
    ax.Attribute te.AnyNode [] ∷ [])) ((e.Compare (e.Fun (codes "position") []) Le (e.Int (pos 3))) ∷ [])) ≡ Ok
    ((codes "An 6") ∷ (codes "Aid abc") ∷ (codes "Ak ab") ∷ [])
unfolding seen
any_attributes = computes (((codes "e"), x_in_x) ∷ []) tt 3 _ refl ∙ refl

-- an attribute has no nodes below it
--     8 , fn:doc ('d')//@* [ 2>0]/node( )
attribute_has_no_children : answer (only to_and_delete) (e.Seq ((e.Int (pos 8)) ∷ (e.Path (st.Value (e.Doc (codes
    "d"))) (deep_step ax.Attribute (te.Name None) ((e.Compare (e.Int (pos 2)) Gt (e.Int (pos 0))) ∷ []) ∷ step
    ax.Child te.AnyNode [] ∷ [])) ∷ [])) ≡ Ok ((codes "=8") ∷ [])
unfolding seen
attribute_has_no_children = computes (only to_and_delete) tt 4 _ refl ∙ refl

-- its element is its parent
--     (2, ((doc('d')/node()|doc('d')//node)/a[true()]|doc('d')/*//@to)/..)
parent_of_attribute : answer (only to_and_delete) (e.Seq ((e.Int (pos 2)) ∷ (e.Path (st.Value (e.Union ((e.Path
    (st.Value (e.Union ((e.Path (st.Value (e.Doc (codes "d"))) (step ax.Child te.AnyNode [] ∷ [])) ∷ (e.Path
    (st.Value (e.Doc (codes "d"))) (deep_step ax.Child (te.Name (Some (codes "node"))) [] ∷ [])) ∷ []))) (step
    ax.Child (te.Name (Some (codes "a"))) ((e.Fun (codes "true") []) ∷ []) ∷ [])) ∷ (e.Path (st.Value (e.Doc (codes
    "d"))) (step ax.Child (te.Name None) [] ∷ deep_step ax.Attribute (te.Name (Some (codes "to"))) [] ∷ [])) ∷ [])))
    (step ax.Parent te.AnyNode [] ∷ [])) ∷ [])) ≡ Ok ((codes "=2") ∷ (codes "(p:q") ∷ (codes "Ato 7") ∷ (codes
    "Ak 3") ∷ (codes ")p:q") ∷ [])
unfolding seen
parent_of_attribute = computes (only to_and_delete) tt 7 _ refl ∙ refl

-- a document has no parent
--     doc( 'f')/..
document_has_no_parent : answer (((codes "f"), two_attributes) ∷ []) (e.Path (st.Value (e.Doc (codes "f"))) (step
    ax.Parent te.AnyNode [] ∷ [])) ≡ Ok []
unfolding seen
document_has_no_parent = computes (((codes "f"), two_attributes) ∷ []) tt 2 _ refl ∙ refl

-- a parent of several nodes stands once
--     count(doc('d')//node()/..)
parents_without_duplicates : answer (only c_and_text) (e.Fun (codes "count") ((e.Path (st.Value (e.Doc (codes "d")))
    (deep_step ax.Child te.AnyNode [] ∷ step ax.Parent te.AnyNode [] ∷ [])) ∷ [])) ≡ Ok ((codes "=2") ∷ [])
unfolding seen
parents_without_duplicates = computes (only c_and_text) tt 3 _ refl ∙ refl

-- texts on the axis `descendant`
--     for$v1 in doc( 'd')//descendant::text ( )return true( )
texts_below : answer (only nested_i) (e.Flwor (b.For (codes "v1") None (e.Path (st.Value (e.Doc (codes "d")))
    (deep_step ax.Descendant te.Text [] ∷ [])) ∷ []) None [] (e.Fun (codes "true") [])) ≡ Ok ((codes "=true") ∷ [])
unfolding seen
texts_below = computes (only nested_i) tt 3 _ refl ∙ refl

-- `..` is the parent
--     name((( doc('e')/r[ 2>3 ] union doc('e')//a) //.. ) [ 1 ] )
parent_by_dots : answer (((codes "e"), r_with_a) ∷ []) (e.Fun (codes "name") ((e.Filter (e.Path (st.Value (e.Union
    ((e.Path (st.Value (e.Doc (codes "e"))) (step ax.Child (te.Name (Some (codes "r"))) ((e.Compare (e.Int (pos 2))
    Gt (e.Int (pos 3))) ∷ []) ∷ [])) ∷ (e.Path (st.Value (e.Doc (codes "e"))) (deep_step ax.Child (te.Name (Some
    (codes "a"))) [] ∷ [])) ∷ []))) (deep_step ax.Parent te.AnyNode [] ∷ [])) ((e.Int (pos 1)) ∷ [])) ∷ [])) ≡ Ok
    ((codes "=r") ∷ [])
unfolding seen
parent_by_dots = computes (((codes "e"), r_with_a) ∷ []) tt 7 _ refl ∙ refl

-- a path in a predicate begins at the node that is tested
--     doc('d') // r/ b/* / i[(descendant::text()) = (self::i/descendant-or-self ::c)]// *
path_in_predicate : answer (only nested_i) (e.Path (st.Value (e.Doc (codes "d"))) (deep_step ax.Child (te.Name (Some
    (codes "r"))) [] ∷ step ax.Child (te.Name (Some (codes "b"))) [] ∷ step ax.Child (te.Name None) [] ∷ step
    ax.Child (te.Name (Some (codes "i"))) ((e.Compare (e.Path (st.First (step ax.Descendant te.Text [])) []) Eq
    (e.Path (st.First (step ax.Itself (te.Name (Some (codes "i"))) [])) (step ax.DescendantOrSelf (te.Name (Some
    (codes "c"))) [] ∷ []))) ∷ []) ∷ deep_step ax.Child (te.Name None) [] ∷ [])) ≡ Ok ((codes "(c") ∷ (codes "(b") ∷
    (codes "-9") ∷ (codes ")b") ∷ (codes ")c") ∷ (codes "(b") ∷ (codes "-9") ∷ (codes ")b") ∷ [])
unfolding seen
path_in_predicate = computes (only nested_i) tt 3 _ refl ∙ refl

-- `self` takes the node itself, where it passes
--     doc('f')//self::text()[last()]
self_axis : answer (((codes "f"), one) ∷ []) (e.Path (st.Value (e.Doc (codes "f"))) (deep_step ax.Itself te.Text
    ((e.Fun (codes "last") []) ∷ []) ∷ [])) ≡ Ok ((codes "-1") ∷ [])
unfolding seen
self_axis = computes (((codes "f"), one) ∷ []) tt 2 _ refl ∙ refl

-- ---- predicates

-- one predicate after another
--     ((1 to 4)[.!=3])[.>1]
each_predicate_in_turn : answer [] (e.Filter (e.Filter (e.Range (e.Int (pos 1)) (e.Int (pos 4))) ((e.Compare
    e.Context Ne (e.Int (pos 3))) ∷ [])) ((e.Compare e.Context Gt (e.Int (pos 1))) ∷ [])) ≡ Ok ((codes "=2") ∷ (codes
    "=4") ∷ [])
unfolding seen
each_predicate_in_turn = computes [] tt 4 _ refl ∙ refl

-- each counts what the one before it has left
--     ('a', 'b', 'c')[position() > 1][1]
predicate_counts_anew : answer [] (e.Filter (e.Seq ((e.Text (codes "a")) ∷ (e.Text (codes "b")) ∷ (e.Text (codes
    "c")) ∷ [])) ((e.Compare (e.Fun (codes "position") []) Gt (e.Int (pos 1))) ∷ (e.Int (pos 1)) ∷ [])) ≡ Ok ((codes
    "=b") ∷ [])
unfolding seen
predicate_counts_anew = computes [] tt 3 _ refl ∙ refl

-- `.` is the item that is tested
--     (9)[ .> 3]
context_item_in_predicate : answer [] (e.Filter (e.Int (pos 9)) ((e.Compare e.Context Gt (e.Int (pos 3))) ∷ [])) ≡ Ok
    ((codes "=9") ∷ [])
unfolding seen
context_item_in_predicate = computes [] tt 3 _ refl ∙ refl

-- what is false takes nothing
--     ((3 to 5)[2=2])[false()]
predicate_that_is_false : answer [] (e.Filter (e.Filter (e.Range (e.Int (pos 3)) (e.Int (pos 5))) ((e.Compare (e.Int
    (pos 2)) Eq (e.Int (pos 2))) ∷ [])) ((e.Fun (codes "false") []) ∷ [])) ≡ Ok []
unfolding seen
predicate_that_is_false = computes [] tt 4 _ refl ∙ refl

-- `last()` is the number of items
--     (1 to 4)[position() = last()]
last_in_predicate : answer [] (e.Filter (e.Range (e.Int (pos 1)) (e.Int (pos 4))) ((e.Compare (e.Fun (codes
    "position") []) Eq (e.Fun (codes "last") [])) ∷ [])) ≡ Ok ((codes "=4") ∷ [])
unfolding seen
last_in_predicate = computes [] tt 3 _ refl ∙ refl

-- a single integer tests the position
--     (doc('e')/r |doc ( 'e')/r )/x [ last( )] [ 1 ]
last_of_step : answer (((codes "e"), x_with_k) ∷ []) (e.Path (st.Value (e.Union ((e.Path (st.Value (e.Doc (codes
    "e"))) (step ax.Child (te.Name (Some (codes "r"))) [] ∷ [])) ∷ (e.Path (st.Value (e.Doc (codes "e"))) (step
    ax.Child (te.Name (Some (codes "r"))) [] ∷ [])) ∷ []))) (step ax.Child (te.Name (Some (codes "x"))) ((e.Fun
    (codes "last") []) ∷ (e.Int (pos 1)) ∷ []) ∷ [])) ≡ Ok ((codes "(x") ∷ (codes "(x") ∷ (codes "Ak 0") ∷ (codes
    ")x") ∷ (codes ")x") ∷ [])
unfolding seen
last_of_step = computes (((codes "e"), x_with_k) ∷ []) tt 4 _ refl ∙ refl

-- other values are taken by their effective boolean value
--     doc('e')//a[b]
node_in_predicate : answer (((codes "e"), several_roots) ∷ []) (e.Path (st.Value (e.Doc (codes "e"))) (deep_step
    ax.Child (te.Name (Some (codes "a"))) ((e.Path (st.First (step ax.Child (te.Name (Some (codes "b"))) [])) []) ∷
    []) ∷ [])) ≡ Ok ((codes "(a") ∷ (codes "(b") ∷ (codes ")b") ∷ (codes ")a") ∷ [])
unfolding seen
node_in_predicate = computes (((codes "e"), several_roots) ∷ []) tt 2 _ refl ∙ refl
