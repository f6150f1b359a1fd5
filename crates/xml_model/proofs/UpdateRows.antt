-- Worked rows of what updates leave. Each row says what it shows and has the text of the update and the documents before
-- it; what is left is the documents, or the code.
use Rattle.std.specs.Prelude.{◌≡◌, pos, [], ◌∷◌, ◌++◌, None, Some, Ok, Err, refl, codes}
use Rattle.std.proofs.Common.{◌∙◌}
use Rattle.xq_ast.specs.declared.code.Code.TheVariants as code
use Rattle.xq_ast.specs.declared.step.Axis.TheVariants as ax
use Rattle.xq_ast.specs.declared.step.Test.TheVariants as te
use Rattle.xq_ast.specs.declared.tree.CompareOp.TheVariants.{Eq, Ne, Gt}
use Rattle.xq_ast.specs.declared.tree.Expr.TheVariants as e
use Rattle.xq_ast.specs.declared.tree.Start.TheVariants as st
use Rattle.xq_ast.specs.declared.update.Update.{Update as UpdateCall}
use Rattle.xq_ast.specs.declared.update.Update.TheVariants as update
use Rattle.xml_model.specs.declared.node.Node.TheVariants.{Element, Text, Pi}
use Rattle.xml_model.proofs.Computing.{Entries, seen}
use Rattle.xml_model.proofs.QueryForms.{divided, step, deep_step, attr, doc}
use Rattle.xml_model.proofs.UpdateComputing.{after, updates}

-- ---- insert into

-- attributes go after the last attribute, and the value is a sum
--     UPDATE insert attribute n{sum(2 to 4)}into doc('e')/r/x/b
--     e: <r><i k="2"/> 5 <x><b><c id="-3"/><i id="4" n="2" k="3"><x k="9" n="a\tb" a="01"><i/><b/></x></i></b></x></r>
abbrev attribute_into_documents : Entries
attribute_into_documents = ((
  codes "e",
  doc (Element (codes "r") [] (Element (codes "i") (attr (codes "k") (codes "2") ∷ []) [] ∷ Text (codes " 5 ") ∷
      Element (codes "x") [] (Element (codes "b") [] (Element (codes "c") (attr (codes "id") (codes "-3") ∷ []) [] ∷ Element (codes "i") (attr (codes
      "id") (codes "4") ∷ attr (codes "n") (codes "2") ∷ attr (codes "k") (codes "3") ∷ []) (Element (codes "x") (attr (codes "k") (codes "9") ∷ attr
      (codes "n") (codes "a" ++ (9 ∷ []) ++ codes "b") ∷ attr (codes "a") (codes "01") ∷ []) (Element (codes "i") [] [] ∷ Element (codes "b") [] [] ∷
      []) ∷ []) ∷ []) ∷ []) ∷ []) ∷ []),
) ∷ [])

abbrev attribute_into_update : UpdateCall
attribute_into_update = update.Into (e.Attribute (codes "n") (Some (e.Fun (codes "sum") ((e.Range (e.Int (pos 2)) (e.Int (pos 4))) ∷ [])))) (e.Path
    (st.Value (e.Doc (codes "e"))) (step ax.Child (te.Name (Some (codes "r"))) [] ∷ step ax.Child (te.Name (Some (codes "x"))) [] ∷ step ax.Child
    (te.Name (Some (codes "b"))) [] ∷ []))

attribute_into : after attribute_into_documents attribute_into_update ≡ Ok ((
  codes "e",
  doc (Element (codes "r") [] (Element (codes "i") (attr (codes
      "k") (codes "2") ∷ []) [] ∷ Text (codes " 5 ") ∷ Element (codes "x") [] (Element (codes "b") (attr (codes "n") (codes "9") ∷ []) (Element (codes
      "c") (attr (codes "id") (codes "-3") ∷ []) [] ∷ Element (codes "i") (attr (codes "id") (codes "4") ∷ attr (codes "n") (codes "2") ∷ attr (codes
      "k") (codes "3") ∷ []) (Element (codes "x") (attr (codes "k") (codes "9") ∷ attr (codes "n") (codes "a" ++ (9 ∷ []) ++ codes "b") ∷ attr (codes
      "a") (codes "01") ∷ []) (Element (codes "i") [] [] ∷ Element (codes "b") [] [] ∷ []) ∷ []) ∷ []) ∷ []) ∷ []) ∷ []),
) ∷ [])
unfolding seen
attribute_into = updates attribute_into_documents tt 9 attribute_into_update refl ∙ refl

-- a new element goes after the last child of the first target
--     UPDATE insert element x { count( ( ) )}into(doc( 'd') //a / x /*)[1]
--     d: <a><x k="😀"><b/><b k="2">three<i n="0" k="9223372036854775808"/>abc<x k="8" n="w">v</x></b></x><i><a><c n="b">aba<c id="a\tb" n="4" k="1
--        2">8</c></c></a></i></a>
abbrev element_into_first_documents : Entries
element_into_first_documents = ((
  codes "d",
  doc (Element (codes "a") [] (Element (codes "x") (attr (codes "k") ((240 ∷ 159 ∷ 152 ∷ 128 ∷ [])) ∷ [])
      (Element (codes "b") [] [] ∷ Element (codes "b") (attr (codes "k") (codes "2") ∷ []) (Text (codes "three") ∷ Element (codes "i") (attr (codes "n")
      (codes "0") ∷ attr (codes "k") (codes "9223372036854775808") ∷ []) [] ∷ Text (codes "abc") ∷ Element (codes "x") (attr (codes "k") (codes "8") ∷
      attr (codes "n") (codes "w") ∷ []) (Text (codes "v") ∷ []) ∷ []) ∷ []) ∷ Element (codes "i") [] (Element (codes "a") [] (Element (codes "c") (attr
      (codes "n") (codes "b") ∷ []) (Text (codes "aba") ∷ Element (codes "c") (attr (codes "id") (codes "a" ++ (9 ∷ []) ++ codes "b") ∷ attr (codes "n")
      (codes "4") ∷ attr (codes "k") (codes "1 2") ∷ []) (Text (codes "8") ∷ []) ∷ []) ∷ []) ∷ []) ∷ []) ∷ []),
) ∷ [])

abbrev element_into_first_update : UpdateCall
element_into_first_update = update.Into (e.Element (codes "x") (Some (e.Fun (codes "count") ((e.Seq []) ∷ [])))) (e.Filter (e.Path (st.Value (e.Doc
    (codes "d"))) (deep_step ax.Child (te.Name (Some (codes "a"))) [] ∷ step ax.Child (te.Name (Some (codes "x"))) [] ∷ step ax.Child (te.Name None)
    [] ∷ [])) ((e.Int (pos 1)) ∷ []))

element_into_first : after element_into_first_documents element_into_first_update ≡ Ok ((
  codes "d",
  doc (Element (codes "a") [] (Element (codes "x")
      (attr (codes "k") ((240 ∷ 159 ∷ 152 ∷ 128 ∷ [])) ∷ []) (Element (codes "b") [] (Element (codes "x") [] (Text (codes "0") ∷ []) ∷ []) ∷ Element
      (codes "b") (attr (codes "k") (codes "2") ∷ []) (Text (codes "three") ∷ Element (codes "i") (attr (codes "n") (codes "0") ∷ attr (codes "k")
      (codes "9223372036854775808") ∷ []) [] ∷ Text (codes "abc") ∷ Element (codes "x") (attr (codes "k") (codes "8") ∷ attr (codes "n") (codes "w") ∷
      []) (Text (codes "v") ∷ []) ∷ []) ∷ []) ∷ Element (codes "i") [] (Element (codes "a") [] (Element (codes "c") (attr (codes "n") (codes "b") ∷ [])
      (Text (codes "aba") ∷ Element (codes "c") (attr (codes "id") (codes "a" ++ (9 ∷ []) ++ codes "b") ∷ attr (codes "n") (codes "4") ∷ attr (codes
      "k") (codes "1 2") ∷ []) (Text (codes "8") ∷ []) ∷ []) ∷ []) ∷ []) ∷ []) ∷ []),
) ∷ [])
unfolding seen
element_into_first = updates element_into_first_documents tt 9 element_into_first_update refl ∙ refl

-- an element goes after the last child
--     UPDATE insert element note { 'rush' } into doc('orders')/order
--     orders: <order id="7"><?print draft?><item sku="A1"/></order>
abbrev note_into_order_documents : Entries
note_into_order_documents = ((
  codes "orders",
  doc (Element (codes "order") (attr (codes "id") (codes "7") ∷ []) (Pi (codes "print") (codes "draft") ∷
      Element (codes "item") (attr (codes "sku") (codes "A1") ∷ []) [] ∷ []) ∷ []),
) ∷ [])

abbrev note_into_order_update : UpdateCall
note_into_order_update = update.Into (e.Element (codes "note") (Some (e.Text (codes "rush")))) (e.Path (st.Value (e.Doc (codes "orders"))) (step
    ax.Child (te.Name (Some (codes "order"))) [] ∷ []))

note_into_order : after note_into_order_documents note_into_order_update ≡ Ok ((
  codes "orders",
  doc (Element (codes "order") (attr (codes "id") (codes
      "7") ∷ []) (Pi (codes "print") (codes "draft") ∷ Element (codes "item") (attr (codes "sku") (codes "A1") ∷ []) [] ∷ Element (codes "note") []
      (Text (codes "rush") ∷ []) ∷ []) ∷ []),
) ∷ [])
unfolding seen
note_into_order = updates note_into_order_documents tt 9 note_into_order_update refl ∙ refl

-- nodes go after the last node of a document, and a text is joined with its neighbour
--     UPDATE insert ('p', element b {}) into doc('d')
--     d: <a/>q
abbrev into_document_documents : Entries
into_document_documents = ((codes "d", doc (Element (codes "a") [] [] ∷ Text (codes "q") ∷ [])) ∷ [])

abbrev into_document_update : UpdateCall
into_document_update = update.Into (e.Seq ((e.Text (codes "p")) ∷ (e.Element (codes "b") None) ∷ [])) (e.Doc (codes "d"))

into_document : after into_document_documents into_document_update ≡ Ok ((
  codes "d",
  doc (Element (codes "a") [] [] ∷ Text (codes "qp") ∷ Element
      (codes "b") [] [] ∷ []),
) ∷ [])
unfolding seen
into_document = updates into_document_documents tt 9 into_document_update refl ∙ refl

-- a document has no attributes
--     UPDATE insert attribute k {} into doc('d')
--     d: <a/>
abbrev attribute_into_document_documents : Entries
attribute_into_document_documents = ((codes "d", doc (Element (codes "a") [] [] ∷ [])) ∷ [])

abbrev attribute_into_document_update : UpdateCall
attribute_into_document_update = update.Into (e.Attribute (codes "k") None) (e.Doc (codes "d"))

attribute_into_document : after attribute_into_document_documents attribute_into_document_update ≡ Err code.XPTY0004
unfolding seen
attribute_into_document = updates attribute_into_document_documents tt 9 attribute_into_document_update refl ∙ refl

-- a name that is there already
--     UPDATE insert attribute k {'2'} into doc('d')/a
--     d: <a k="1"/>
abbrev name_there_already_documents : Entries
name_there_already_documents = ((codes "d", doc (Element (codes "a") (attr (codes "k") (codes "1") ∷ []) [] ∷ [])) ∷ [])

abbrev name_there_already_update : UpdateCall
name_there_already_update = update.Into (e.Attribute (codes "k") (Some (e.Text (codes "2")))) (e.Path (st.Value (e.Doc (codes "d"))) (step ax.Child
    (te.Name (Some (codes "a"))) [] ∷ []))

name_there_already : after name_there_already_documents name_there_already_update ≡ Err code.XQDY0025
unfolding seen
name_there_already = updates name_there_already_documents tt 9 name_there_already_update refl ∙ refl

-- a text has no content of its own
--     UPDATE insert 'x' into doc('d')/a/text()
--     d: <a>t</a>
abbrev into_text_documents : Entries
into_text_documents = ((codes "d", doc (Element (codes "a") [] (Text (codes "t") ∷ []) ∷ [])) ∷ [])

abbrev into_text_update : UpdateCall
into_text_update = update.Into (e.Text (codes "x")) (e.Path (st.Value (e.Doc (codes "d"))) (step ax.Child (te.Name (Some (codes "a"))) [] ∷ step
    ax.Child te.Text [] ∷ []))

into_text : after into_text_documents into_text_update ≡ Err code.XPTY0004
unfolding seen
into_text = updates into_text_documents tt 9 into_text_update refl ∙ refl

-- the code of the first target in document order
--     UPDATE insert attribute k {} into (doc('d')/a, doc('d'))
--     d: <a k="1"/>
abbrev first_target_decides_documents : Entries
first_target_decides_documents = ((codes "d", doc (Element (codes "a") (attr (codes "k") (codes "1") ∷ []) [] ∷ [])) ∷ [])

abbrev first_target_decides_update : UpdateCall
first_target_decides_update = update.Into (e.Attribute (codes "k") None) (e.Seq ((e.Path (st.Value (e.Doc (codes "d"))) (step ax.Child (te.Name (Some
    (codes "a"))) [] ∷ [])) ∷ (e.Doc (codes "d")) ∷ []))

first_target_decides : after first_target_decides_documents first_target_decides_update ≡ Err code.XPTY0004
unfolding seen
first_target_decides = updates first_target_decides_documents tt 9 first_target_decides_update refl ∙ refl

-- an item that is no stored node, before any target is tested
--     UPDATE insert attribute k {} into (doc('d')/a, 1)
--     d: <a k="1"/>
abbrev atomic_target_first_documents : Entries
atomic_target_first_documents = ((codes "d", doc (Element (codes "a") (attr (codes "k") (codes "1") ∷ []) [] ∷ [])) ∷ [])

abbrev atomic_target_first_update : UpdateCall
atomic_target_first_update = update.Into (e.Attribute (codes "k") None) (e.Seq ((e.Path (st.Value (e.Doc (codes "d"))) (step ax.Child (te.Name (Some
    (codes "a"))) [] ∷ [])) ∷ (e.Int (pos 1)) ∷ []))

atomic_target_first : after atomic_target_first_documents atomic_target_first_update ≡ Err code.XPTY0004
unfolding seen
atomic_target_first = updates atomic_target_first_documents tt 9 atomic_target_first_update refl ∙ refl

-- the source is evaluated and made content before the target
--     UPDATE insert ('x', attribute k {}) into (1 idiv 0)
abbrev source_before_target_update : UpdateCall
source_before_target_update = update.Into (e.Seq ((e.Text (codes "x")) ∷ (e.Attribute (codes "k") None) ∷ [])) (e.Product (e.Int (pos 1)) (divided
    (e.Int (pos 0)) ∷ []))

source_before_target : after [] source_before_target_update ≡ Err code.XQTY0024
unfolding seen
source_before_target = updates [] tt 9 source_before_target_update refl ∙ refl

-- ---- insert preceding and following

-- atomic values are a text
--     UPDATE insert 3 preceding doc('e')/r
--     e: <r><b id="9" n="b" k="6">1 2</b>6</r>
abbrev text_preceding_documents : Entries
text_preceding_documents = ((
  codes "e",
  doc (Element (codes "r") [] (Element (codes "b") (attr (codes "id") (codes "9") ∷ attr (codes "n") (codes "b")
      ∷ attr (codes "k") (codes "6") ∷ []) (Text (codes "1 2") ∷ []) ∷ Text (codes "6") ∷ []) ∷ []),
) ∷ [])

abbrev text_preceding_update : UpdateCall
text_preceding_update = update.Preceding (e.Int (pos 3)) (e.Path (st.Value (e.Doc (codes "e"))) (step ax.Child (te.Name (Some (codes "r"))) [] ∷ []))

text_preceding : after text_preceding_documents text_preceding_update ≡ Ok ((
  codes "e",
  doc (Text (codes "3") ∷ Element (codes "r") [] (Element (codes
      "b") (attr (codes "id") (codes "9") ∷ attr (codes "n") (codes "b") ∷ attr (codes "k") (codes "6") ∷ []) (Text (codes "1 2") ∷ []) ∷ Text (codes
      "6") ∷ []) ∷ []),
) ∷ [])
unfolding seen
text_preceding = updates text_preceding_documents tt 9 text_preceding_update refl ∙ refl

-- before each child
--     UPDATE insert element i{}preceding doc('d')//node()
--     d: <r>ab<b id="abc" n="-9223372036854775808" x="false">01</b><a id="1" x="8" n="1 2"/>abc<?q abc?></r>
abbrev element_preceding_each_documents : Entries
element_preceding_each_documents = ((
  codes "d",
  doc (Element (codes "r") [] (Text (codes "ab") ∷ Element (codes "b") (attr (codes "id") (codes "abc")
      ∷ attr (codes "n") (codes "-9223372036854775808") ∷ attr (codes "x") (codes "false") ∷ []) (Text (codes "01") ∷ []) ∷ Element (codes "a") (attr
      (codes "id") (codes "1") ∷ attr (codes "x") (codes "8") ∷ attr (codes "n") (codes "1 2") ∷ []) [] ∷ Text (codes "abc") ∷ Pi (codes "q") (codes
      "abc") ∷ []) ∷ []),
) ∷ [])

abbrev element_preceding_each_update : UpdateCall
element_preceding_each_update = update.Preceding (e.Element (codes "i") None) (e.Path (st.Value (e.Doc (codes "d"))) (deep_step ax.Child te.AnyNode []
    ∷ []))

element_preceding_each : after element_preceding_each_documents element_preceding_each_update ≡ Ok ((
  codes "d",
  doc (Element (codes "i") [] [] ∷
      Element (codes "r") [] (Element (codes "i") [] [] ∷ Text (codes "ab") ∷ Element (codes "i") [] [] ∷ Element (codes "b") (attr (codes "id") (codes
      "abc") ∷ attr (codes "n") (codes "-9223372036854775808") ∷ attr (codes "x") (codes "false") ∷ []) (Element (codes "i") [] [] ∷ Text (codes "01") ∷
      []) ∷ Element (codes "i") [] [] ∷ Element (codes "a") (attr (codes "id") (codes "1") ∷ attr (codes "x") (codes "8") ∷ attr (codes "n") (codes
      "1 2") ∷ []) [] ∷ Element (codes "i") [] [] ∷ Text (codes "abc") ∷ Element (codes "i") [] [] ∷ Pi (codes "q") (codes "abc") ∷ []) ∷ []),
) ∷ [])
unfolding seen
element_preceding_each = updates element_preceding_each_documents tt 9 element_preceding_each_update refl ∙ refl

-- texts are joined
--     UPDATE insert("u", 2)following fn:doc('e')//node()[position()!=3]
--     e: u<i/>
abbrev text_following_documents : Entries
text_following_documents = ((codes "e", doc (Text (codes "u") ∷ Element (codes "i") [] [] ∷ [])) ∷ [])

abbrev text_following_update : UpdateCall
text_following_update = update.Following (e.Seq ((e.Text (codes "u")) ∷ (e.Int (pos 2)) ∷ [])) (e.Path (st.Value (e.Doc (codes "e"))) (deep_step
    ax.Child te.AnyNode ((e.Compare (e.Fun (codes "position") []) Ne (e.Int (pos 3))) ∷ []) ∷ []))

text_following : after text_following_documents text_following_update ≡ Ok ((
  codes "e",
  doc (Text (codes "uu 2") ∷ Element (codes "i") [] [] ∷ Text
      (codes "u 2") ∷ []),
) ∷ [])
unfolding seen
text_following = updates text_following_documents tt 9 text_following_update refl ∙ refl

-- after each target
--     UPDATE insert element i{attribute id{concat(8, 3, '10')}, ()}following doc('e')/i//a
--     e: <i k="7" n="3" id="abc">1<i id="3" k="6"><a k="11" n="three"/>9223372036854775807<?p 6?><b k="01"/><b k="&#160;7" id="3"/></i></i>10
abbrev element_following_documents : Entries
element_following_documents = ((
  codes "e",
  doc (Element (codes "i") (attr (codes "k") (codes "7") ∷ attr (codes "n") (codes "3") ∷ attr (codes "id")
      (codes "abc") ∷ []) (Text (codes "1") ∷ Element (codes "i") (attr (codes "id") (codes "3") ∷ attr (codes "k") (codes "6") ∷ []) (Element (codes
      "a") (attr (codes "k") (codes "11") ∷ attr (codes "n") (codes "three") ∷ []) [] ∷ Text (codes "9223372036854775807") ∷ Pi (codes "p") (codes "6")
      ∷ Element (codes "b") (attr (codes "k") (codes "01") ∷ []) [] ∷ Element (codes "b") (attr (codes "k") ((194 ∷ 160 ∷ []) ++ codes "7") ∷ attr
      (codes "id") (codes "3") ∷ []) [] ∷ []) ∷ []) ∷ Text (codes "10") ∷ []),
) ∷ [])

abbrev element_following_update : UpdateCall
element_following_update = update.Following (e.Element (codes "i") (Some (e.Seq ((e.Attribute (codes "id") (Some (e.Fun (codes "concat") ((e.Int (pos
    8)) ∷ (e.Int (pos 3)) ∷ (e.Text (codes "10")) ∷ [])))) ∷ (e.Seq []) ∷ [])))) (e.Path (st.Value (e.Doc (codes "e"))) (step ax.Child (te.Name (Some
    (codes "i"))) [] ∷ deep_step ax.Child (te.Name (Some (codes "a"))) [] ∷ []))

element_following : after element_following_documents element_following_update ≡ Ok ((
  codes "e",
  doc (Element (codes "i") (attr (codes "k") (codes
      "7") ∷ attr (codes "n") (codes "3") ∷ attr (codes "id") (codes "abc") ∷ []) (Text (codes "1") ∷ Element (codes "i") (attr (codes "id") (codes "3")
      ∷ attr (codes "k") (codes "6") ∷ []) (Element (codes "a") (attr (codes "k") (codes "11") ∷ attr (codes "n") (codes "three") ∷ []) [] ∷ Element
      (codes "i") (attr (codes "id") (codes "8310") ∷ []) [] ∷ Text (codes "9223372036854775807") ∷ Pi (codes "p") (codes "6") ∷ Element (codes "b")
      (attr (codes "k") (codes "01") ∷ []) [] ∷ Element (codes "b") (attr (codes "k") ((194 ∷ 160 ∷ []) ++ codes "7") ∷ attr (codes "id") (codes "3") ∷
      []) [] ∷ []) ∷ []) ∷ Text (codes "10") ∷ []),
) ∷ [])
unfolding seen
element_following = updates element_following_documents tt 9 element_following_update refl ∙ refl

-- several nodes keep their order
--     UPDATE insert (element x {}, element y {}) preceding doc('d')/a
--     d: <a/>
abbrev several_in_order_documents : Entries
several_in_order_documents = ((codes "d", doc (Element (codes "a") [] [] ∷ [])) ∷ [])

abbrev several_in_order_update : UpdateCall
several_in_order_update = update.Preceding (e.Seq ((e.Element (codes "x") None) ∷ (e.Element (codes "y") None) ∷ [])) (e.Path (st.Value (e.Doc (codes
    "d"))) (step ax.Child (te.Name (Some (codes "a"))) [] ∷ []))

several_in_order : after several_in_order_documents several_in_order_update ≡ Ok ((
  codes "d",
  doc (Element (codes "x") [] [] ∷ Element (codes "y") []
      [] ∷ Element (codes "a") [] [] ∷ []),
) ∷ [])
unfolding seen
several_in_order = updates several_in_order_documents tt 9 several_in_order_update refl ∙ refl

-- attributes beside no target at all
--     UPDATE insert attribute k {} following doc('d')/b
--     d: <a/>
abbrev attributes_beside_nothing_documents : Entries
attributes_beside_nothing_documents = ((codes "d", doc (Element (codes "a") [] [] ∷ [])) ∷ [])

abbrev attributes_beside_nothing_update : UpdateCall
attributes_beside_nothing_update = update.Following (e.Attribute (codes "k") None) (e.Path (st.Value (e.Doc (codes "d"))) (step ax.Child (te.Name
    (Some (codes "b"))) [] ∷ []))

attributes_beside_nothing : after attributes_beside_nothing_documents attributes_beside_nothing_update ≡ Err code.XPTY0004
unfolding seen
attributes_beside_nothing = updates attributes_beside_nothing_documents tt 9 attributes_beside_nothing_update refl ∙ refl

-- nothing stands beside a document
--     UPDATE insert element x {} preceding doc('d')
--     d: <a/>
abbrev beside_document_documents : Entries
beside_document_documents = ((codes "d", doc (Element (codes "a") [] [] ∷ [])) ∷ [])

abbrev beside_document_update : UpdateCall
beside_document_update = update.Preceding (e.Element (codes "x") None) (e.Doc (codes "d"))

beside_document : after beside_document_documents beside_document_update ≡ Err code.XPTY0004
unfolding seen
beside_document = updates beside_document_documents tt 9 beside_document_update refl ∙ refl

-- nor beside an attribute
--     UPDATE insert element x {} following doc('d')/a/@k
--     d: <a k="1"/>
abbrev beside_attribute_documents : Entries
beside_attribute_documents = ((codes "d", doc (Element (codes "a") (attr (codes "k") (codes "1") ∷ []) [] ∷ [])) ∷ [])

abbrev beside_attribute_update : UpdateCall
beside_attribute_update = update.Following (e.Element (codes "x") None) (e.Path (st.Value (e.Doc (codes "d"))) (step ax.Child (te.Name (Some (codes
    "a"))) [] ∷ step ax.Attribute (te.Name (Some (codes "k"))) [] ∷ []))

beside_attribute : after beside_attribute_documents beside_attribute_update ≡ Err code.XPTY0004
unfolding seen
beside_attribute = updates beside_attribute_documents tt 9 beside_attribute_update refl ∙ refl

-- ---- delete

-- all texts
--     UPDATE delete doc('e')//text()
--     e: 3<r><b id="9" n="b" k="6">1 2</b>6</r>
abbrev texts_deleted_documents : Entries
texts_deleted_documents = ((
  codes "e",
  doc (Text (codes "3") ∷ Element (codes "r") [] (Element (codes "b") (attr (codes "id") (codes "9") ∷ attr
      (codes "n") (codes "b") ∷ attr (codes "k") (codes "6") ∷ []) (Text (codes "1 2") ∷ []) ∷ Text (codes "6") ∷ []) ∷ []),
) ∷ [])

abbrev texts_deleted_update : UpdateCall
texts_deleted_update = update.Delete (e.Path (st.Value (e.Doc (codes "e"))) (deep_step ax.Child te.Text [] ∷ []))

texts_deleted : after texts_deleted_documents texts_deleted_update ≡ Ok ((
  codes "e",
  doc (Element (codes "r") [] (Element (codes "b") (attr (codes
      "id") (codes "9") ∷ attr (codes "n") (codes "b") ∷ attr (codes "k") (codes "6") ∷ []) [] ∷ []) ∷ []),
) ∷ [])
unfolding seen
texts_deleted = updates texts_deleted_documents tt 9 texts_deleted_update refl ∙ refl

-- all attributes of a name
--     UPDATE delete doc('d')//@id
--     d: <r><a n="3" id="4" k="e\f"/><c n="ab" k="9"/>ab<i id="v" k="1" n="w">2<b>true5</b></i></r>
abbrev attributes_deleted_documents : Entries
attributes_deleted_documents = ((
  codes "d",
  doc (Element (codes "r") [] (Element (codes "a") (attr (codes "n") (codes "3") ∷ attr (codes "id") (codes
      "4") ∷ attr (codes "k") (codes "e" ++ (92 ∷ []) ++ codes "f") ∷ []) [] ∷ Element (codes "c") (attr (codes "n") (codes "ab") ∷ attr (codes "k")
      (codes "9") ∷ []) [] ∷ Text (codes "ab") ∷ Element (codes "i") (attr (codes "id") (codes "v") ∷ attr (codes "k") (codes "1") ∷ attr (codes "n")
      (codes "w") ∷ []) (Text (codes "2") ∷ Element (codes "b") [] (Text (codes "true5") ∷ []) ∷ []) ∷ []) ∷ []),
) ∷ [])

abbrev attributes_deleted_update : UpdateCall
attributes_deleted_update = update.Delete (e.Path (st.Value (e.Doc (codes "d"))) (deep_step ax.Attribute (te.Name (Some (codes "id"))) [] ∷ []))

attributes_deleted : after attributes_deleted_documents attributes_deleted_update ≡ Ok ((
  codes "d",
  doc (Element (codes "r") [] (Element (codes "a")
      (attr (codes "n") (codes "3") ∷ attr (codes "k") (codes "e" ++ (92 ∷ []) ++ codes "f") ∷ []) [] ∷ Element (codes "c") (attr (codes "n") (codes
      "ab") ∷ attr (codes "k") (codes "9") ∷ []) [] ∷ Text (codes "ab") ∷ Element (codes "i") (attr (codes "k") (codes "1") ∷ attr (codes "n") (codes
      "w") ∷ []) (Text (codes "2") ∷ Element (codes "b") [] (Text (codes "true5") ∷ []) ∷ []) ∷ []) ∷ []),
) ∷ [])
unfolding seen
attributes_deleted = updates attributes_deleted_documents tt 9 attributes_deleted_update refl ∙ refl

-- a target inside another goes with it
--     UPDATE delete doc('d')//b
--     d: <a><b><b>x</b></b></a>
abbrev nested_targets_documents : Entries
nested_targets_documents = ((
  codes "d",
  doc (Element (codes "a") [] (Element (codes "b") [] (Element (codes "b") [] (Text (codes "x") ∷ []) ∷ []) ∷
      []) ∷ []),
) ∷ [])

abbrev nested_targets_update : UpdateCall
nested_targets_update = update.Delete (e.Path (st.Value (e.Doc (codes "d"))) (deep_step ax.Child (te.Name (Some (codes "b"))) [] ∷ []))

nested_targets : after nested_targets_documents nested_targets_update ≡ Ok ((codes "d", doc (Element (codes "a") [] [] ∷ [])) ∷ [])
unfolding seen
nested_targets = updates nested_targets_documents tt 9 nested_targets_update refl ∙ refl

-- the texts around what is deleted are joined
--     UPDATE delete doc('d')/a/b
--     d: <a>x<b/>y</a>
abbrev neighbours_joined_documents : Entries
neighbours_joined_documents = ((codes "d", doc (Element (codes "a") [] (Text (codes "x") ∷ Element (codes "b") [] [] ∷ Text (codes "y") ∷ []) ∷ [])) ∷
    [])

abbrev neighbours_joined_update : UpdateCall
neighbours_joined_update = update.Delete (e.Path (st.Value (e.Doc (codes "d"))) (step ax.Child (te.Name (Some (codes "a"))) [] ∷ step ax.Child
    (te.Name (Some (codes "b"))) [] ∷ []))

neighbours_joined : after neighbours_joined_documents neighbours_joined_update ≡ Ok ((
  codes "d",
  doc (Element (codes "a") [] (Text (codes "xy") ∷ [])
      ∷ []),
) ∷ [])
unfolding seen
neighbours_joined = updates neighbours_joined_documents tt 9 neighbours_joined_update refl ∙ refl

-- a document is not deleted
--     UPDATE delete doc('d')/a/..
--     d: <a/>
abbrev document_not_deleted_documents : Entries
document_not_deleted_documents = ((codes "d", doc (Element (codes "a") [] [] ∷ [])) ∷ [])

abbrev document_not_deleted_update : UpdateCall
document_not_deleted_update = update.Delete (e.Path (st.Value (e.Doc (codes "d"))) (step ax.Child (te.Name (Some (codes "a"))) [] ∷ step ax.Parent
    te.AnyNode [] ∷ []))

document_not_deleted : after document_not_deleted_documents document_not_deleted_update ≡ Err code.XPTY0004
unfolding seen
document_not_deleted = updates document_not_deleted_documents tt 9 document_not_deleted_update refl ∙ refl

-- ---- delete_undeep

-- children take the place of their parents
--     UPDATE delete_undeep(doc('d')/a, fn:doc('d')/c)
--     d: <a k="9223372036854775808"/>6
abbrev undeep_two_roots_documents : Entries
undeep_two_roots_documents = ((codes "d", doc (Element (codes "a") (attr (codes "k") (codes "9223372036854775808") ∷ []) [] ∷ Text (codes "6") ∷ []))
    ∷ [])

abbrev undeep_two_roots_update : UpdateCall
undeep_two_roots_update = update.DeleteUndeep (e.Seq ((e.Path (st.Value (e.Doc (codes "d"))) (step ax.Child (te.Name (Some (codes "a"))) [] ∷ [])) ∷
    (e.Path (st.Value (e.Doc (codes "d"))) (step ax.Child (te.Name (Some (codes "c"))) [] ∷ [])) ∷ []))

undeep_two_roots : after undeep_two_roots_documents undeep_two_roots_update ≡ Ok ((codes "d", doc (Text (codes "6") ∷ [])) ∷ [])
unfolding seen
undeep_two_roots = updates undeep_two_roots_documents tt 9 undeep_two_roots_update refl ∙ refl

-- below other elements
--     UPDATE delete_undeep doc('e')//i/a
--     e: <i k="7" n="3" id="abc">1<i id="3" k="6"><a k="11" n="three"/><i id="8310"/>9223372036854775807<?p 6?><b k="01"/><b k="&#160;7"
--        id="3"/></i></i>10
abbrev undeep_below_documents : Entries
undeep_below_documents = ((
  codes "e",
  doc (Element (codes "i") (attr (codes "k") (codes "7") ∷ attr (codes "n") (codes "3") ∷ attr (codes "id") (codes
      "abc") ∷ []) (Text (codes "1") ∷ Element (codes "i") (attr (codes "id") (codes "3") ∷ attr (codes "k") (codes "6") ∷ []) (Element (codes "a")
      (attr (codes "k") (codes "11") ∷ attr (codes "n") (codes "three") ∷ []) [] ∷ Element (codes "i") (attr (codes "id") (codes "8310") ∷ []) [] ∷ Text
      (codes "9223372036854775807") ∷ Pi (codes "p") (codes "6") ∷ Element (codes "b") (attr (codes "k") (codes "01") ∷ []) [] ∷ Element (codes "b")
      (attr (codes "k") ((194 ∷ 160 ∷ []) ++ codes "7") ∷ attr (codes "id") (codes "3") ∷ []) [] ∷ []) ∷ []) ∷ Text (codes "10") ∷ []),
) ∷ [])

abbrev undeep_below_update : UpdateCall
undeep_below_update = update.DeleteUndeep (e.Path (st.Value (e.Doc (codes "e"))) (deep_step ax.Child (te.Name (Some (codes "i"))) [] ∷ step ax.Child
    (te.Name (Some (codes "a"))) [] ∷ []))

undeep_below : after undeep_below_documents undeep_below_update ≡ Ok ((
  codes "e",
  doc (Element (codes "i") (attr (codes "k") (codes "7") ∷ attr (codes
      "n") (codes "3") ∷ attr (codes "id") (codes "abc") ∷ []) (Text (codes "1") ∷ Element (codes "i") (attr (codes "id") (codes "3") ∷ attr (codes "k")
      (codes "6") ∷ []) (Element (codes "i") (attr (codes "id") (codes "8310") ∷ []) [] ∷ Text (codes "9223372036854775807") ∷ Pi (codes "p") (codes
      "6") ∷ Element (codes "b") (attr (codes "k") (codes "01") ∷ []) [] ∷ Element (codes "b") (attr (codes "k") ((194 ∷ 160 ∷ []) ++ codes "7") ∷ attr
      (codes "id") (codes "3") ∷ []) [] ∷ []) ∷ []) ∷ Text (codes "10") ∷ []),
) ∷ [])
unfolding seen
undeep_below = updates undeep_below_documents tt 9 undeep_below_update refl ∙ refl

-- texts that become neighbours are joined
--     UPDATE delete_undeep doc('d')//b
--     d: <a>x<b>y</b>z</a>
abbrev undeep_joins_texts_documents : Entries
undeep_joins_texts_documents = ((
  codes "d",
  doc (Element (codes "a") [] (Text (codes "x") ∷ Element (codes "b") [] (Text (codes "y") ∷ []) ∷ Text
      (codes "z") ∷ []) ∷ []),
) ∷ [])

abbrev undeep_joins_texts_update : UpdateCall
undeep_joins_texts_update = update.DeleteUndeep (e.Path (st.Value (e.Doc (codes "d"))) (deep_step ax.Child (te.Name (Some (codes "b"))) [] ∷ []))

undeep_joins_texts : after undeep_joins_texts_documents undeep_joins_texts_update ≡ Ok ((
  codes "d",
  doc (Element (codes "a") [] (Text (codes "xyz") ∷
      []) ∷ []),
) ∷ [])
unfolding seen
undeep_joins_texts = updates undeep_joins_texts_documents tt 9 undeep_joins_texts_update refl ∙ refl

-- texts are joined once all edits are applied, so a text that is a target goes alone
--     UPDATE delete_undeep doc('d')/a/node()[position() > 1]
--     d: <a>x<b>y</b>z</a>
abbrev joined_only_then_documents : Entries
joined_only_then_documents = ((
  codes "d",
  doc (Element (codes "a") [] (Text (codes "x") ∷ Element (codes "b") [] (Text (codes "y") ∷ []) ∷ Text (codes
      "z") ∷ []) ∷ []),
) ∷ [])

abbrev joined_only_then_update : UpdateCall
joined_only_then_update = update.DeleteUndeep (e.Path (st.Value (e.Doc (codes "d"))) (step ax.Child (te.Name (Some (codes "a"))) [] ∷ step ax.Child
    te.AnyNode ((e.Compare (e.Fun (codes "position") []) Gt (e.Int (pos 1))) ∷ []) ∷ []))

joined_only_then : after joined_only_then_documents joined_only_then_update ≡ Ok ((
  codes "d",
  doc (Element (codes "a") [] (Text (codes "xy") ∷ []) ∷
      []),
) ∷ [])
unfolding seen
joined_only_then = updates joined_only_then_documents tt 9 joined_only_then_update refl ∙ refl

-- of nested targets all go, and what is below them stays
--     UPDATE delete_undeep doc('d')//b
--     d: <a><b k="1"><c/><b>x</b></b></a>
abbrev undeep_nested_documents : Entries
undeep_nested_documents = ((
  codes "d",
  doc (Element (codes "a") [] (Element (codes "b") (attr (codes "k") (codes "1") ∷ []) (Element (codes "c") [] []
      ∷ Element (codes "b") [] (Text (codes "x") ∷ []) ∷ []) ∷ []) ∷ []),
) ∷ [])

abbrev undeep_nested_update : UpdateCall
undeep_nested_update = update.DeleteUndeep (e.Path (st.Value (e.Doc (codes "d"))) (deep_step ax.Child (te.Name (Some (codes "b"))) [] ∷ []))

undeep_nested : after undeep_nested_documents undeep_nested_update ≡ Ok ((
  codes "d",
  doc (Element (codes "a") [] (Element (codes "c") [] [] ∷ Text
      (codes "x") ∷ []) ∷ []),
) ∷ [])
unfolding seen
undeep_nested = updates undeep_nested_documents tt 9 undeep_nested_update refl ∙ refl

-- a document stays
--     UPDATE delete_undeep fn:doc ( 'd')
--     d: no nodes
abbrev document_not_undeep_documents : Entries
document_not_undeep_documents = ((codes "d", doc []) ∷ [])

abbrev document_not_undeep_update : UpdateCall
document_not_undeep_update = update.DeleteUndeep (e.Doc (codes "d"))

document_not_undeep : after document_not_undeep_documents document_not_undeep_update ≡ Err code.XPTY0004
unfolding seen
document_not_undeep = updates document_not_undeep_documents tt 9 document_not_undeep_update refl ∙ refl

-- ---- replace

-- an attribute is replaced in its place
--     UPDATE replace$y1 in (doc('d')/r//@k)[3]with attribute id{"a&amp;b"}
--     d: <r><a n="3" k="e\f"/><c n="ab" k="9"/>ab<i k="1" n="w">2<b>true5</b></i></r>
abbrev attribute_replaced_documents : Entries
attribute_replaced_documents = ((
  codes "d",
  doc (Element (codes "r") [] (Element (codes "a") (attr (codes "n") (codes "3") ∷ attr (codes "k") (codes
      "e" ++ (92 ∷ []) ++ codes "f") ∷ []) [] ∷ Element (codes "c") (attr (codes "n") (codes "ab") ∷ attr (codes "k") (codes "9") ∷ []) [] ∷ Text (codes
      "ab") ∷ Element (codes "i") (attr (codes "k") (codes "1") ∷ attr (codes "n") (codes "w") ∷ []) (Text (codes "2") ∷ Element (codes "b") [] (Text
      (codes "true5") ∷ []) ∷ []) ∷ []) ∷ []),
) ∷ [])

abbrev attribute_replaced_update : UpdateCall
attribute_replaced_update = update.Replace (codes "y1") (e.Filter (e.Path (st.Value (e.Doc (codes "d"))) (step ax.Child (te.Name (Some (codes "r")))
    [] ∷ deep_step ax.Attribute (te.Name (Some (codes "k"))) [] ∷ [])) ((e.Int (pos 3)) ∷ [])) (e.Attribute (codes "id") (Some (e.Text (codes
    "a&b"))))

attribute_replaced : after attribute_replaced_documents attribute_replaced_update ≡ Ok ((
  codes "d",
  doc (Element (codes "r") [] (Element (codes "a")
      (attr (codes "n") (codes "3") ∷ attr (codes "k") (codes "e" ++ (92 ∷ []) ++ codes "f") ∷ []) [] ∷ Element (codes "c") (attr (codes "n") (codes
      "ab") ∷ attr (codes "k") (codes "9") ∷ []) [] ∷ Text (codes "ab") ∷ Element (codes "i") (attr (codes "id") (codes "a&b") ∷ attr (codes "n") (codes
      "w") ∷ []) (Text (codes "2") ∷ Element (codes "b") [] (Text (codes "true5") ∷ []) ∷ []) ∷ []) ∷ []),
) ∷ [])
unfolding seen
attribute_replaced = updates attribute_replaced_documents tt 9 attribute_replaced_update refl ∙ refl

-- elements are replaced by others
--     UPDATE replace$w1 in doc('d')/r/x with element c{attribute n{count((5, 8, true()))}, if('x')then"e\f"else'x'}
--     d: <r><x i="0"><b>three<x id="4" n="01"><i k="😀" id="b"/></x></b></x></r>
abbrev element_replaced_documents : Entries
element_replaced_documents = ((
  codes "d",
  doc (Element (codes "r") [] (Element (codes "x") (attr (codes "i") (codes "0") ∷ []) (Element (codes "b") []
      (Text (codes "three") ∷ Element (codes "x") (attr (codes "id") (codes "4") ∷ attr (codes "n") (codes "01") ∷ []) (Element (codes "i") (attr (codes
      "k") ((240 ∷ 159 ∷ 152 ∷ 128 ∷ [])) ∷ attr (codes "id") (codes "b") ∷ []) [] ∷ []) ∷ []) ∷ []) ∷ []) ∷ []),
) ∷ [])

abbrev element_replaced_update : UpdateCall
element_replaced_update = update.Replace (codes "w1") (e.Path (st.Value (e.Doc (codes "d"))) (step ax.Child (te.Name (Some (codes "r"))) [] ∷ step
    ax.Child (te.Name (Some (codes "x"))) [] ∷ [])) (e.Element (codes "c") (Some (e.Seq ((e.Attribute (codes "n") (Some (e.Fun (codes "count") ((e.Seq
    ((e.Int (pos 5)) ∷ (e.Int (pos 8)) ∷ (e.Fun (codes "true") []) ∷ [])) ∷ [])))) ∷ (e.If (e.Text (codes "x")) (e.Text (codes "e" ++ (92 ∷ []) ++
    codes "f")) (e.Text (codes "x"))) ∷ []))))

element_replaced : after element_replaced_documents element_replaced_update ≡ Ok ((
  codes "d",
  doc (Element (codes "r") [] (Element (codes "c") (attr
      (codes "n") (codes "3") ∷ []) (Text (codes "e" ++ (92 ∷ []) ++ codes "f") ∷ []) ∷ []) ∷ []),
) ∷ [])
unfolding seen
element_replaced = updates element_replaced_documents tt 9 element_replaced_update refl ∙ refl

-- in its place among the others
--     UPDATE replace $v in doc('d')/a/@k with (attribute x {$v}, attribute y {})
--     d: <a j="1" k="2" l="3"/>
abbrev replaced_in_place_documents : Entries
replaced_in_place_documents = ((
  codes "d",
  doc (Element (codes "a") (attr (codes "j") (codes "1") ∷ attr (codes "k") (codes "2") ∷ attr (codes "l")
      (codes "3") ∷ []) [] ∷ []),
) ∷ [])

abbrev replaced_in_place_update : UpdateCall
replaced_in_place_update = update.Replace (codes "v") (e.Path (st.Value (e.Doc (codes "d"))) (step ax.Child (te.Name (Some (codes "a"))) [] ∷ step
    ax.Attribute (te.Name (Some (codes "k"))) [] ∷ [])) (e.Seq ((e.Attribute (codes "x") (Some (e.Var (codes "v")))) ∷ (e.Attribute (codes "y") None)
    ∷ []))

replaced_in_place : after replaced_in_place_documents replaced_in_place_update ≡ Ok ((
  codes "d",
  doc (Element (codes "a") (attr (codes "j") (codes
      "1") ∷ attr (codes "x") (codes "2") ∷ attr (codes "y") [] ∷ attr (codes "l") (codes "3") ∷ []) [] ∷ []),
) ∷ [])
unfolding seen
replaced_in_place = updates replaced_in_place_documents tt 9 replaced_in_place_update refl ∙ refl

-- two attributes may exchange their names
--     UPDATE replace $v in doc('d')/a/@* with if (name($v) = 'j') then attribute k {'1'} else attribute j {'2'}
--     d: <a j="1" k="2"/>
abbrev names_exchanged_documents : Entries
names_exchanged_documents = ((codes "d", doc (Element (codes "a") (attr (codes "j") (codes "1") ∷ attr (codes "k") (codes "2") ∷ []) [] ∷ [])) ∷ [])

abbrev names_exchanged_update : UpdateCall
names_exchanged_update = update.Replace (codes "v") (e.Path (st.Value (e.Doc (codes "d"))) (step ax.Child (te.Name (Some (codes "a"))) [] ∷ step
    ax.Attribute (te.Name None) [] ∷ [])) (e.If (e.Compare (e.Fun (codes "name") ((e.Var (codes "v")) ∷ [])) Eq (e.Text (codes "j"))) (e.Attribute
    (codes "k") (Some (e.Text (codes "1")))) (e.Attribute (codes "j") (Some (e.Text (codes "2")))))

names_exchanged : after names_exchanged_documents names_exchanged_update ≡ Ok ((
  codes "d",
  doc (Element (codes "a") (attr (codes "k") (codes "1") ∷
      attr (codes "j") (codes "2") ∷ []) [] ∷ []),
) ∷ [])
unfolding seen
names_exchanged = updates names_exchanged_documents tt 9 names_exchanged_update refl ∙ refl

-- a name that is then there twice
--     UPDATE replace $v in doc('d')/a/@k with attribute j {}
--     d: <a j="1" k="2"/>
abbrev name_twice_replaced_documents : Entries
name_twice_replaced_documents = ((codes "d", doc (Element (codes "a") (attr (codes "j") (codes "1") ∷ attr (codes "k") (codes "2") ∷ []) [] ∷ [])) ∷
    [])

abbrev name_twice_replaced_update : UpdateCall
name_twice_replaced_update = update.Replace (codes "v") (e.Path (st.Value (e.Doc (codes "d"))) (step ax.Child (te.Name (Some (codes "a"))) [] ∷ step
    ax.Attribute (te.Name (Some (codes "k"))) [] ∷ [])) (e.Attribute (codes "j") None)

name_twice_replaced : after name_twice_replaced_documents name_twice_replaced_update ≡ Err code.XQDY0025
unfolding seen
name_twice_replaced = updates name_twice_replaced_documents tt 9 name_twice_replaced_update refl ∙ refl

-- a target inside another is refused
--     UPDATE replace $v in doc('d')//b with element c {}
--     d: <a><b><b>x</b></b></a>
abbrev nested_target_refused_documents : Entries
nested_target_refused_documents = ((
  codes "d",
  doc (Element (codes "a") [] (Element (codes "b") [] (Element (codes "b") [] (Text (codes "x") ∷ []) ∷
      []) ∷ []) ∷ []),
) ∷ [])

abbrev nested_target_refused_update : UpdateCall
nested_target_refused_update = update.Replace (codes "v") (e.Path (st.Value (e.Doc (codes "d"))) (deep_step ax.Child (te.Name (Some (codes "b"))) [] ∷
    [])) (e.Element (codes "c") None)

nested_target_refused : after nested_target_refused_documents nested_target_refused_update ≡ Err code.XPTY0004
unfolding seen
nested_target_refused = updates nested_target_refused_documents tt 9 nested_target_refused_update refl ∙ refl

-- and in its turn: the code of what the first target is replaced by comes before
--     UPDATE replace $v in doc('d')//b with (1 idiv count($v/c))
--     d: <a><b><b>x</b></b></a>
abbrev refused_in_its_turn_documents : Entries
refused_in_its_turn_documents = ((
  codes "d",
  doc (Element (codes "a") [] (Element (codes "b") [] (Element (codes "b") [] (Text (codes "x") ∷ []) ∷ [])
      ∷ []) ∷ []),
) ∷ [])

abbrev refused_in_its_turn_update : UpdateCall
refused_in_its_turn_update = update.Replace (codes "v") (e.Path (st.Value (e.Doc (codes "d"))) (deep_step ax.Child (te.Name (Some (codes "b"))) [] ∷
    [])) (e.Product (e.Int (pos 1)) (divided (e.Fun (codes "count") ((e.Path (st.Value (e.Var (codes "v"))) (step ax.Child (te.Name (Some (codes
    "c"))) [] ∷ [])) ∷ [])) ∷ []))

refused_in_its_turn : after refused_in_its_turn_documents refused_in_its_turn_update ≡ Err code.FOAR0001
unfolding seen
refused_in_its_turn = updates refused_in_its_turn_documents tt 9 refused_in_its_turn_update refl ∙ refl

-- a child is not replaced by an attribute
--     UPDATE replace $v in doc('d')/a with attribute k {}
--     d: <a/>
abbrev child_by_attribute_documents : Entries
child_by_attribute_documents = ((codes "d", doc (Element (codes "a") [] [] ∷ [])) ∷ [])

abbrev child_by_attribute_update : UpdateCall
child_by_attribute_update = update.Replace (codes "v") (e.Path (st.Value (e.Doc (codes "d"))) (step ax.Child (te.Name (Some (codes "a"))) [] ∷ []))
    (e.Attribute (codes "k") None)

child_by_attribute : after child_by_attribute_documents child_by_attribute_update ≡ Err code.XPTY0004
unfolding seen
child_by_attribute = updates child_by_attribute_documents tt 9 child_by_attribute_update refl ∙ refl

-- nor an attribute by a text
--     UPDATE replace $v in doc('d')/a/@k with 'x'
--     d: <a k="1"/>
abbrev attribute_by_text_documents : Entries
attribute_by_text_documents = ((codes "d", doc (Element (codes "a") (attr (codes "k") (codes "1") ∷ []) [] ∷ [])) ∷ [])

abbrev attribute_by_text_update : UpdateCall
attribute_by_text_update = update.Replace (codes "v") (e.Path (st.Value (e.Doc (codes "d"))) (step ax.Child (te.Name (Some (codes "a"))) [] ∷ step
    ax.Attribute (te.Name (Some (codes "k"))) [] ∷ [])) (e.Text (codes "x"))

attribute_by_text : after attribute_by_text_documents attribute_by_text_update ≡ Err code.XPTY0004
unfolding seen
attribute_by_text = updates attribute_by_text_documents tt 9 attribute_by_text_update refl ∙ refl

-- a text is replaced by an empty text, which makes no node
--     UPDATE replace $v in doc('d')/a/text() with text {''}
--     d: <a>x</a>
abbrev replaced_by_nothing_documents : Entries
replaced_by_nothing_documents = ((codes "d", doc (Element (codes "a") [] (Text (codes "x") ∷ []) ∷ [])) ∷ [])

abbrev replaced_by_nothing_update : UpdateCall
replaced_by_nothing_update = update.Replace (codes "v") (e.Path (st.Value (e.Doc (codes "d"))) (step ax.Child (te.Name (Some (codes "a"))) [] ∷ step
    ax.Child te.Text [] ∷ [])) (e.TextNode (Some (e.Text [])))

replaced_by_nothing : after replaced_by_nothing_documents replaced_by_nothing_update ≡ Ok ((codes "d", doc (Element (codes "a") [] [] ∷ [])) ∷ [])
unfolding seen
replaced_by_nothing = updates replaced_by_nothing_documents tt 9 replaced_by_nothing_update refl ∙ refl

-- a target that is not replaced
--     UPDATE replace$y1 in (doc('d')/*//*union doc('e')//x)with(text{'a b'})
--     d: <r><a>11<a/><a n="1 2"/><a a="9"><x n="4"><b k="3" id="😀" n="0"><x k="9223372036854775808" id="8" n="9"/>9<b/></b></x></a></a></r>
--     e: no nodes
abbrev replace_refused_documents : Entries
replace_refused_documents = ((
  codes "d",
  doc (Element (codes "r") [] (Element (codes "a") [] (Text (codes "11") ∷ Element (codes "a") [] [] ∷ Element
      (codes "a") (attr (codes "n") (codes "1 2") ∷ []) [] ∷ Element (codes "a") (attr (codes "a") (codes "9") ∷ []) (Element (codes "x") (attr (codes
      "n") (codes "4") ∷ []) (Element (codes "b") (attr (codes "k") (codes "3") ∷ attr (codes "id") ((240 ∷ 159 ∷ 152 ∷ 128 ∷ [])) ∷ attr (codes "n")
      (codes "0") ∷ []) (Element (codes "x") (attr (codes "k") (codes "9223372036854775808") ∷ attr (codes "id") (codes "8") ∷ attr (codes "n") (codes
      "9") ∷ []) [] ∷ Text (codes "9") ∷ Element (codes "b") [] [] ∷ []) ∷ []) ∷ []) ∷ []) ∷ []) ∷ []),
) ∷ (codes "e", doc []) ∷ [])

abbrev replace_refused_update : UpdateCall
replace_refused_update = update.Replace (codes "y1") (e.Union ((e.Path (st.Value (e.Doc (codes "d"))) (step ax.Child (te.Name None) [] ∷ deep_step
    ax.Child (te.Name None) [] ∷ [])) ∷ (e.Path (st.Value (e.Doc (codes "e"))) (deep_step ax.Child (te.Name (Some (codes "x"))) [] ∷ [])) ∷ []))
    (e.TextNode (Some (e.Text (codes "a b"))))

replace_refused : after replace_refused_documents replace_refused_update ≡ Err code.XPTY0004
unfolding seen
replace_refused = updates replace_refused_documents tt 9 replace_refused_update refl ∙ refl

-- ---- rename

-- elements get the name
--     UPDATE rename doc ('e')//x on i
--     e: <i k="7" n="3" id="abc">1<x id="3" k="6"><a k="11" n="three"/>9223372036854775807<?p 6?><b k="01"/><b k="&#160;7" id="3"/></x></i>10
abbrev elements_renamed_documents : Entries
elements_renamed_documents = ((
  codes "e",
  doc (Element (codes "i") (attr (codes "k") (codes "7") ∷ attr (codes "n") (codes "3") ∷ attr (codes "id")
      (codes "abc") ∷ []) (Text (codes "1") ∷ Element (codes "x") (attr (codes "id") (codes "3") ∷ attr (codes "k") (codes "6") ∷ []) (Element (codes
      "a") (attr (codes "k") (codes "11") ∷ attr (codes "n") (codes "three") ∷ []) [] ∷ Text (codes "9223372036854775807") ∷ Pi (codes "p") (codes "6")
      ∷ Element (codes "b") (attr (codes "k") (codes "01") ∷ []) [] ∷ Element (codes "b") (attr (codes "k") ((194 ∷ 160 ∷ []) ++ codes "7") ∷ attr
      (codes "id") (codes "3") ∷ []) [] ∷ []) ∷ []) ∷ Text (codes "10") ∷ []),
) ∷ [])

abbrev elements_renamed_update : UpdateCall
elements_renamed_update = update.Rename (e.Path (st.Value (e.Doc (codes "e"))) (deep_step ax.Child (te.Name (Some (codes "x"))) [] ∷ [])) (codes "i")

elements_renamed : after elements_renamed_documents elements_renamed_update ≡ Ok ((
  codes "e",
  doc (Element (codes "i") (attr (codes "k") (codes "7") ∷
      attr (codes "n") (codes "3") ∷ attr (codes "id") (codes "abc") ∷ []) (Text (codes "1") ∷ Element (codes "i") (attr (codes "id") (codes "3") ∷ attr
      (codes "k") (codes "6") ∷ []) (Element (codes "a") (attr (codes "k") (codes "11") ∷ attr (codes "n") (codes "three") ∷ []) [] ∷ Text (codes
      "9223372036854775807") ∷ Pi (codes "p") (codes "6") ∷ Element (codes "b") (attr (codes "k") (codes "01") ∷ []) [] ∷ Element (codes "b") (attr
      (codes "k") ((194 ∷ 160 ∷ []) ++ codes "7") ∷ attr (codes "id") (codes "3") ∷ []) [] ∷ []) ∷ []) ∷ Text (codes "10") ∷ []),
) ∷ [])
unfolding seen
elements_renamed = updates elements_renamed_documents tt 9 elements_renamed_update refl ∙ refl

-- targets of two paths
--     UPDATE rename (doc('d' )/ r/i |fn:doc ('d')/node( ))on k
--     d: <r><a n="3" k="e\f"/><c n="ab" k="9"/>ab<i k="1" n="w">2<b>true5</b></i></r>
abbrev renamed_in_union_documents : Entries
renamed_in_union_documents = ((
  codes "d",
  doc (Element (codes "r") [] (Element (codes "a") (attr (codes "n") (codes "3") ∷ attr (codes "k") (codes "e"
      ++ (92 ∷ []) ++ codes "f") ∷ []) [] ∷ Element (codes "c") (attr (codes "n") (codes "ab") ∷ attr (codes "k") (codes "9") ∷ []) [] ∷ Text (codes
      "ab") ∷ Element (codes "i") (attr (codes "k") (codes "1") ∷ attr (codes "n") (codes "w") ∷ []) (Text (codes "2") ∷ Element (codes "b") [] (Text
      (codes "true5") ∷ []) ∷ []) ∷ []) ∷ []),
) ∷ [])

abbrev renamed_in_union_update : UpdateCall
renamed_in_union_update = update.Rename (e.Union ((e.Path (st.Value (e.Doc (codes "d"))) (step ax.Child (te.Name (Some (codes "r"))) [] ∷ step
    ax.Child (te.Name (Some (codes "i"))) [] ∷ [])) ∷ (e.Path (st.Value (e.Doc (codes "d"))) (step ax.Child te.AnyNode [] ∷ [])) ∷ [])) (codes "k")

renamed_in_union : after renamed_in_union_documents renamed_in_union_update ≡ Ok ((
  codes "d",
  doc (Element (codes "k") [] (Element (codes "a") (attr
      (codes "n") (codes "3") ∷ attr (codes "k") (codes "e" ++ (92 ∷ []) ++ codes "f") ∷ []) [] ∷ Element (codes "c") (attr (codes "n") (codes "ab") ∷
      attr (codes "k") (codes "9") ∷ []) [] ∷ Text (codes "ab") ∷ Element (codes "k") (attr (codes "k") (codes "1") ∷ attr (codes "n") (codes "w") ∷ [])
      (Text (codes "2") ∷ Element (codes "b") [] (Text (codes "true5") ∷ []) ∷ []) ∷ []) ∷ []),
) ∷ [])
unfolding seen
renamed_in_union = updates renamed_in_union_documents tt 9 renamed_in_union_update refl ∙ refl

-- an attribute keeps its place and its value
--     UPDATE rename doc('d')/a/@k on x
--     d: <a j="1" k="2" l="3"/>
abbrev attribute_renamed_documents : Entries
attribute_renamed_documents = ((
  codes "d",
  doc (Element (codes "a") (attr (codes "j") (codes "1") ∷ attr (codes "k") (codes "2") ∷ attr (codes "l")
      (codes "3") ∷ []) [] ∷ []),
) ∷ [])

abbrev attribute_renamed_update : UpdateCall
attribute_renamed_update = update.Rename (e.Path (st.Value (e.Doc (codes "d"))) (step ax.Child (te.Name (Some (codes "a"))) [] ∷ step ax.Attribute
    (te.Name (Some (codes "k"))) [] ∷ [])) (codes "x")

attribute_renamed : after attribute_renamed_documents attribute_renamed_update ≡ Ok ((
  codes "d",
  doc (Element (codes "a") (attr (codes "j") (codes
      "1") ∷ attr (codes "x") (codes "2") ∷ attr (codes "l") (codes "3") ∷ []) [] ∷ []),
) ∷ [])
unfolding seen
attribute_renamed = updates attribute_renamed_documents tt 9 attribute_renamed_update refl ∙ refl

-- of an instruction the target changes
--     UPDATE rename doc('d')/processing-instruction() on x
--     d: <?p q?>
abbrev instruction_renamed_documents : Entries
instruction_renamed_documents = ((codes "d", doc (Pi (codes "p") (codes "q") ∷ [])) ∷ [])

abbrev instruction_renamed_update : UpdateCall
instruction_renamed_update = update.Rename (e.Path (st.Value (e.Doc (codes "d"))) (step ax.Child te.Pi [] ∷ [])) (codes "x")

instruction_renamed : after instruction_renamed_documents instruction_renamed_update ≡ Ok ((codes "d", doc (Pi (codes "x") (codes "q") ∷ [])) ∷ [])
unfolding seen
instruction_renamed = updates instruction_renamed_documents tt 9 instruction_renamed_update refl ∙ refl

-- a document whose new tree is the old one
--     UPDATE rename doc('d')/a on a
--     d: <a k="1">x<b/></a>
abbrev renamed_alike_documents : Entries
renamed_alike_documents = ((
  codes "d",
  doc (Element (codes "a") (attr (codes "k") (codes "1") ∷ []) (Text (codes "x") ∷ Element (codes "b") [] [] ∷
      []) ∷ []),
) ∷ [])

abbrev renamed_alike_update : UpdateCall
renamed_alike_update = update.Rename (e.Path (st.Value (e.Doc (codes "d"))) (step ax.Child (te.Name (Some (codes "a"))) [] ∷ [])) (codes "a")

renamed_alike : after renamed_alike_documents renamed_alike_update ≡ Ok ((
  codes "d",
  doc (Element (codes "a") (attr (codes "k") (codes "1") ∷ [])
      (Text (codes "x") ∷ Element (codes "b") [] [] ∷ []) ∷ []),
) ∷ [])
unfolding seen
renamed_alike = updates renamed_alike_documents tt 9 renamed_alike_update refl ∙ refl

-- two attributes of one name
--     UPDATE rename doc('d')/a/@* on x
--     d: <a j="1" k="2"/>
abbrev name_twice_renamed_documents : Entries
name_twice_renamed_documents = ((codes "d", doc (Element (codes "a") (attr (codes "j") (codes "1") ∷ attr (codes "k") (codes "2") ∷ []) [] ∷ [])) ∷
    [])

abbrev name_twice_renamed_update : UpdateCall
name_twice_renamed_update = update.Rename (e.Path (st.Value (e.Doc (codes "d"))) (step ax.Child (te.Name (Some (codes "a"))) [] ∷ step ax.Attribute
    (te.Name None) [] ∷ [])) (codes "x")

name_twice_renamed : after name_twice_renamed_documents name_twice_renamed_update ≡ Err code.XQDY0025
unfolding seen
name_twice_renamed = updates name_twice_renamed_documents tt 9 name_twice_renamed_update refl ∙ refl

-- the names of one element are looked at before the next target
--     UPDATE rename (doc('d')/a/@k, doc('d')/a/text()) on x
--     d: <a k="1" x="2">t</a>
abbrev name_before_next_element_documents : Entries
name_before_next_element_documents = ((
  codes "d",
  doc (Element (codes "a") (attr (codes "k") (codes "1") ∷ attr (codes "x") (codes "2") ∷ []) (Text
      (codes "t") ∷ []) ∷ []),
) ∷ [])

abbrev name_before_next_element_update : UpdateCall
name_before_next_element_update = update.Rename (e.Seq ((e.Path (st.Value (e.Doc (codes "d"))) (step ax.Child (te.Name (Some (codes "a"))) [] ∷ step
    ax.Attribute (te.Name (Some (codes "k"))) [] ∷ [])) ∷ (e.Path (st.Value (e.Doc (codes "d"))) (step ax.Child (te.Name (Some (codes "a"))) [] ∷ step
    ax.Child te.Text [] ∷ [])) ∷ [])) (codes "x")

name_before_next_element : after name_before_next_element_documents name_before_next_element_update ≡ Err code.XQDY0025
unfolding seen
name_before_next_element = updates name_before_next_element_documents tt 9 name_before_next_element_update refl ∙ refl

-- a text has no name
--     UPDATE rename doc('d')/*/text()on a
--     d: <i/><r><i/>ab<i/><b id="abc" n="-9223372036854775808" x="false"><i/>01</b><i/><a id="1" x="8" n="1 2"/><i/>abc<i/><?q abc?></r>
abbrev text_not_renamed_documents : Entries
text_not_renamed_documents = ((
  codes "d",
  doc (Element (codes "i") [] [] ∷ Element (codes "r") [] (Element (codes "i") [] [] ∷ Text (codes "ab") ∷
      Element (codes "i") [] [] ∷ Element (codes "b") (attr (codes "id") (codes "abc") ∷ attr (codes "n") (codes "-9223372036854775808") ∷ attr (codes
      "x") (codes "false") ∷ []) (Element (codes "i") [] [] ∷ Text (codes "01") ∷ []) ∷ Element (codes "i") [] [] ∷ Element (codes "a") (attr (codes
      "id") (codes "1") ∷ attr (codes "x") (codes "8") ∷ attr (codes "n") (codes "1 2") ∷ []) [] ∷ Element (codes "i") [] [] ∷ Text (codes "abc") ∷
      Element (codes "i") [] [] ∷ Pi (codes "q") (codes "abc") ∷ []) ∷ []),
) ∷ [])

abbrev text_not_renamed_update : UpdateCall
text_not_renamed_update = update.Rename (e.Path (st.Value (e.Doc (codes "d"))) (step ax.Child (te.Name None) [] ∷ step ax.Child te.Text [] ∷ []))
    (codes "a")

text_not_renamed : after text_not_renamed_documents text_not_renamed_update ≡ Err code.XPTY0004
unfolding seen
text_not_renamed = updates text_not_renamed_documents tt 9 text_not_renamed_update refl ∙ refl

-- ---- two documents

-- the targets of one document after those of another
--     UPDATE rename (doc('e')/a, doc('d')/a) on b
--     d: <a/>
--     e: <a/>x
abbrev documents_by_name_documents : Entries
documents_by_name_documents = ((codes "d", doc (Element (codes "a") [] [] ∷ [])) ∷ (
  codes "e",
  doc (Element (codes "a") [] [] ∷ Text (codes "x") ∷
      []),
) ∷ [])

abbrev documents_by_name_update : UpdateCall
documents_by_name_update = update.Rename (e.Seq ((e.Path (st.Value (e.Doc (codes "e"))) (step ax.Child (te.Name (Some (codes "a"))) [] ∷ [])) ∷
    (e.Path (st.Value (e.Doc (codes "d"))) (step ax.Child (te.Name (Some (codes "a"))) [] ∷ [])) ∷ [])) (codes "b")

documents_by_name : after documents_by_name_documents documents_by_name_update ≡ Ok ((codes "d", doc (Element (codes "b") [] [] ∷ [])) ∷ (
  codes "e",
  doc (Element (codes "b") [] [] ∷ Text (codes "x") ∷ []),
) ∷ [])
unfolding seen
documents_by_name = updates documents_by_name_documents tt 9 documents_by_name_update refl ∙ refl

-- where a target of one is refused, neither changes
--     UPDATE rename (doc('e')/node(), doc('d')/a) on b
--     d: <a/>
--     e: <a/>x
abbrev neither_changes_documents : Entries
neither_changes_documents = ((codes "d", doc (Element (codes "a") [] [] ∷ [])) ∷ (codes "e", doc (Element (codes "a") [] [] ∷ Text (codes "x") ∷ []))
    ∷ [])

abbrev neither_changes_update : UpdateCall
neither_changes_update = update.Rename (e.Seq ((e.Path (st.Value (e.Doc (codes "e"))) (step ax.Child te.AnyNode [] ∷ [])) ∷ (e.Path (st.Value (e.Doc
    (codes "d"))) (step ax.Child (te.Name (Some (codes "a"))) [] ∷ [])) ∷ [])) (codes "b")

neither_changes : after neither_changes_documents neither_changes_update ≡ Err code.XPTY0004
unfolding seen
neither_changes = updates neither_changes_documents tt 9 neither_changes_update refl ∙ refl
