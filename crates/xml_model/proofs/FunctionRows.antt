-- Worked rows of what queries mean: functions.
-- Each row says what it shows and has the text of the query; its answer is the lines of its items, or its code.
use Rattle.std.specs.Prelude.{◌≡◌, pos, [], ◌∷◌, ◌++◌, Some, Ok, Err, refl, codes}
use Rattle.std.proofs.Common.{◌∙◌}
use Rattle.xq_ast.specs.declared.code.Code.TheVariants as code
use Rattle.xq_ast.specs.declared.step.Axis.TheVariants as ax
use Rattle.xq_ast.specs.declared.step.Test.TheVariants as te
use Rattle.xq_ast.specs.declared.tree.CompareOp.TheVariants.{Eq}
use Rattle.xq_ast.specs.declared.tree.Expr.TheVariants as e
use Rattle.xq_ast.specs.declared.tree.Start.TheVariants as st
use Rattle.xml_model.proofs.Computing.{answer, computes, seen}
use Rattle.xml_model.proofs.QueryForms.{minus, step, deep_step, only, instructions, eleven, empty_a, nothing, at_eight}

-- `count` has the number of items
--     count(1 to 4)
counts : answer [] (e.Fun (codes "count") ((e.Range (e.Int (pos 1)) (e.Int (pos 4))) ∷ [])) ≡ Ok ((codes "=4") ∷ [])
unfolding seen
counts = computes [] tt 3 _ refl ∙ refl

-- `empty` of nothing is true
--     empty(1 to 0)
empty_of_nothing : answer [] (e.Fun (codes "empty") ((e.Range (e.Int (pos 1)) (e.Int (pos 0))) ∷ [])) ≡ Ok ((codes
    "=true") ∷ [])
unfolding seen
empty_of_nothing = computes [] tt 3 _ refl ∙ refl

-- `exists` of one item is true
--     exists(5)
exists_of_one : answer [] (e.Fun (codes "exists") ((e.Int (pos 5)) ∷ [])) ≡ Ok ((codes "=true") ∷ [])
unfolding seen
exists_of_one = computes [] tt 2 _ refl ∙ refl

-- `not` turns a truth value round
--     not(not(true()))
not_of_not : answer [] (e.Fun (codes "not") ((e.Fun (codes "not") ((e.Fun (codes "true") []) ∷ [])) ∷ [])) ≡ Ok
    ((codes "=true") ∷ [])
unfolding seen
not_of_not = computes [] tt 3 _ refl ∙ refl

-- `string` has the text of one item
--     string(count((0, 1)))
string_of_integer : answer [] (e.Fun (codes "string") ((e.Fun (codes "count") ((e.Seq ((e.Int (pos 0)) ∷ (e.Int (pos
    1)) ∷ [])) ∷ [])) ∷ [])) ≡ Ok ((codes "=2") ∷ [])
unfolding seen
string_of_integer = computes [] tt 4 _ refl ∙ refl

-- and the empty one of none
--     string( (doc('d')/ c [2])[1 ])
string_of_nothing : answer (only nothing) (e.Fun (codes "string") ((e.Filter (e.Path (st.Value (e.Doc (codes "d")))
    (step ax.Child (te.Name (Some (codes "c"))) ((e.Int (pos 2)) ∷ []) ∷ [])) ((e.Int (pos 1)) ∷ [])) ∷ [])) ≡ Ok
    ((codes "=") ∷ [])
unfolding seen
string_of_nothing = computes (only nothing) tt 4 _ refl ∙ refl

-- `name` takes a node
--     name( 1 )
name_of_integer : answer [] (e.Fun (codes "name") ((e.Int (pos 1)) ∷ [])) ≡ Err code.XPTY0004
unfolding seen
name_of_integer = computes [] tt 2 _ refl ∙ refl

-- a document has no name
--     fn:name((doc('e')) [1 ] )
name_of_document : answer (((codes "e"), at_eight) ∷ []) (e.Fun (codes "name") ((e.Filter (e.Doc (codes "e")) ((e.Int
    (pos 1)) ∷ [])) ∷ [])) ≡ Ok ((codes "=") ∷ [])
unfolding seen
name_of_document = computes (((codes "e"), at_eight) ∷ []) tt 3 _ refl ∙ refl

-- an instruction has its target
--     name(doc('d')/r/processing-instruction())
name_of_instruction : answer (only instructions) (e.Fun (codes "name") ((e.Path (st.Value (e.Doc (codes "d"))) (step
    ax.Child (te.Name (Some (codes "r"))) [] ∷ step ax.Child te.Pi [] ∷ [])) ∷ [])) ≡ Ok ((codes "=q") ∷ [])
unfolding seen
name_of_instruction = computes (only instructions) tt 3 _ refl ∙ refl

-- `contains` takes strings
--     contains('<', 3=0)
contains_takes_strings : answer [] (e.Fun (codes "contains") ((e.Text (codes "<")) ∷ (e.Compare (e.Int (pos 3)) Eq
    (e.Int (pos 0))) ∷ [])) ≡ Err code.XPTY0004
unfolding seen
contains_takes_strings = computes [] tt 3 _ refl ∙ refl

-- a text that is not there
--     contains( 'b', 'w')
does_not_contain : answer [] (e.Fun (codes "contains") ((e.Text (codes "b")) ∷ (e.Text (codes "w")) ∷ [])) ≡ Ok
    ((codes "=false") ∷ [])
unfolding seen
does_not_contain = computes [] tt 2 _ refl ∙ refl

-- each text contains the empty one
--     contains(name(((doc ('f')/node ( ) /a //text())[ 0])[1]) ,"" )
contains_empty_string : answer (((codes "f"), eleven) ∷ []) (e.Fun (codes "contains") ((e.Fun (codes "name")
    ((e.Filter (e.Filter (e.Path (st.Value (e.Doc (codes "f"))) (step ax.Child te.AnyNode [] ∷ step ax.Child (te.Name
    (Some (codes "a"))) [] ∷ deep_step ax.Child te.Text [] ∷ [])) ((e.Int (pos 0)) ∷ [])) ((e.Int (pos 1)) ∷ [])) ∷
    [])) ∷ (e.Text []) ∷ [])) ≡ Ok ((codes "=true") ∷ [])
unfolding seen
contains_empty_string = computes (((codes "f"), eleven) ∷ []) tt 6 _ refl ∙ refl

-- `starts-with` looks at the beginning
--     starts-with ("x" ,string( 5 - 1))
does_not_start_with : answer [] (e.Fun (codes "starts-with") ((e.Text (codes "x")) ∷ (e.Fun (codes "string") ((e.Sum
    (e.Int (pos 5)) (minus (e.Int (pos 1)) ∷ [])) ∷ [])) ∷ [])) ≡ Ok ((codes "=false") ∷ [])
unfolding seen
does_not_start_with = computes [] tt 4 _ refl ∙ refl

-- `string-length` counts characters
--     string-length( "say ""x""")
--     string-length('é')
length_of_string :
    (answer [] (e.Fun (codes "string-length") ((e.Text (codes "say \"x\"")) ∷ [])) ≡ Ok ((codes "=7") ∷ []))
    × (answer [] (e.Fun (codes "string-length") ((e.Text (195 ∷ 169 ∷ [])) ∷ [])) ≡ Ok ((codes "=1") ∷ []))
unfolding seen
length_of_string = (
  computes [] tt 2 _ refl ∙ refl,
  computes [] tt 2 _ refl ∙ refl,
)

-- without an argument it takes the context item
--     (doc( 'e' )) [ (string-length () ) ]
length_of_context : answer (((codes "e"), at_eight) ∷ []) (e.Filter (e.Doc (codes "e")) ((e.Fun (codes
    "string-length") []) ∷ [])) ≡ Ok ((codes "(r") ∷ (codes "(a") ∷ (codes "Aat 8") ∷ (codes "-6") ∷ (codes ")a") ∷
    (codes ")r") ∷ [])
unfolding seen
length_of_context = computes (((codes "e"), at_eight) ∷ []) tt 2 _ refl ∙ refl

-- an integer is no string
--     string-length(5)
length_of_integer : answer [] (e.Fun (codes "string-length") ((e.Int (pos 5)) ∷ [])) ≡ Err code.XPTY0004
unfolding seen
length_of_integer = computes [] tt 2 _ refl ∙ refl

-- `concat` takes any atomic values
--     concat ( 8, 'é' )
concat_of_integer : answer [] (e.Fun (codes "concat") ((e.Int (pos 8)) ∷ (e.Text (195 ∷ 169 ∷ [])) ∷ [])) ≡ Ok
    ((codes "=8" ++ (195 ∷ 169 ∷ [])) ∷ [])
unfolding seen
concat_of_integer = computes [] tt 2 _ refl ∙ refl

-- more than two, and quotes in them
--     concat( '<' , "say ""x""", 'é' )
concat_of_strings : answer [] (e.Fun (codes "concat") ((e.Text (codes "<")) ∷ (e.Text (codes "say \"x\"")) ∷ (e.Text
    (195 ∷ 169 ∷ [])) ∷ [])) ≡ Ok ((codes "=<say \"x\"" ++ (195 ∷ 169 ∷ [])) ∷ [])
unfolding seen
concat_of_strings = computes [] tt 2 _ refl ∙ refl

-- `sum` of nothing is 0
--     sum( ( ) )
sum_of_nothing : answer [] (e.Fun (codes "sum") ((e.Seq []) ∷ [])) ≡ Ok ((codes "=0") ∷ [])
unfolding seen
sum_of_nothing = computes [] tt 2 _ refl ∙ refl

-- of a range
--     sum(1 to 6)
sum_of_range : answer [] (e.Fun (codes "sum") ((e.Range (e.Int (pos 1)) (e.Int (pos 6))) ∷ [])) ≡ Ok ((codes "=21") ∷
    [])
unfolding seen
sum_of_range = computes [] tt 3 _ refl ∙ refl

-- a string is not added
--     (sum('q'))
sum_of_string : answer [] (e.Fun (codes "sum") ((e.Text (codes "q")) ∷ [])) ≡ Err code.FORG0006
unfolding seen
sum_of_string = computes [] tt 2 _ refl ∙ refl

-- a sum past 64 bits fails
--     sum((9223372036854775807, 1))
sum_past_64_bits : answer [] (e.Fun (codes "sum") ((e.Seq ((e.Int (pos 9223372036854775807)) ∷ (e.Int (pos 1)) ∷ []))
    ∷ [])) ≡ Err code.FOAR0002
unfolding seen
sum_past_64_bits = computes [] tt 3 _ refl ∙ refl

-- `last` needs a context
--     last()
last_without_context : answer [] (e.Fun (codes "last") []) ≡ Err code.XPDY0002
unfolding seen
last_without_context = computes [] tt 1 _ refl ∙ refl

-- so does `position`
--     position()
position_without_context : answer [] (e.Fun (codes "position") []) ≡ Err code.XPDY0002
unfolding seen
position_without_context = computes [] tt 1 _ refl ∙ refl

-- a document that is not there
--     doc('no')
document_not_there : answer [] (e.Doc (codes "no")) ≡ Err code.FODC0002
unfolding seen
document_not_there = computes [] tt 1 _ refl ∙ refl

-- and one that is
--     doc('d')
document_itself : answer (only empty_a) (e.Doc (codes "d")) ≡ Ok ((codes "(a") ∷ (codes ")a") ∷ [])
unfolding seen
document_itself = computes (only empty_a) tt 1 _ refl ∙ refl
