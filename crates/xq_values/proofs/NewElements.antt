-- New elements: content that stands for pieces makes the element that these make.
use Rattle.std.proofs.Common.{◌≡◌, ℕ, Bool, false, List, ap, ◌∙◌, subst}
use Rattle.std.specs.Prelude.{Result, Err, if◌then◌else◌}
use Rattle.xq_ast.specs.declared.code.Code.{Code}
use Rattle.xq_ast.specs.declared.code.Code.TheVariants.{XQTY0024, XQDY0025}
use Rattle.xml_model.specs.declared.node.Attr.{Attr}
use Rattle.xml_model.specs.declared.node.Node.{Node}
use Rattle.xml_model.specs.declared.node.Node.TheVariants.{Element}
use Rattle.xml_model.specs.Constructors.{Piece, attributes_of, has_late_attribute, has_name_twice, limited, element}
use Rattle.xq_values.specs.declared.content.Content.{Content}
use Rattle.xq_values.specs.declared.end.ValueEnd.{ValueEnd}
use Rattle.xq_values.specs.Contents.{StandsFor}
use Rattle.xq_values.specs.Elements.{element_with}
use Rattle.xq_values.specs.Gives.{Gives}

abbrev built : List ℕ → Bool → List Attr → List Node → Result Node Code
built name late attrs kids = if late then Err XQTY0024 else (if has_name_twice attrs then Err XQDY0025 else limited (Element name attrs kids))

-- The element of closed content is that of the pieces that it stands for.
pub element_stands : (name : List ℕ) (c : Content) (ps : List Piece) → StandsFor c ps → element_with name c ≡ element name ps
element_stands name c ps h =
    ap (λ b. built name b c.attrs c.kids) h.late
    ∙ (ap (λ a. built name (has_late_attribute false ps) a c.kids) h.attrs ∙ ap (λ k. built name (has_late_attribute false ps) (attributes_of ps) k) h.kids)

-- So a call that gives the one gives the other.
pub gives_element : (name : List ℕ) (c : Content) (r : Result Node ValueEnd) → Gives (λ n. n) r (element_with name c)
    → (ps : List Piece) → StandsFor c ps → Gives (λ n. n) r (element name ps)
gives_element name c r h ps stands = subst (λ d. Gives (λ (n : Node). n) r d) (element_stands name c ps stands) h
