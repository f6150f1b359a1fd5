-- The grammar: which tokens are which call, one case for each row. The row stands above its cases. Words are written
-- as they stand here. A `LOAD` takes the PYX lines of its text; no other row looks at them.
-- A row with one part and nothing else is that part itself.
use Rattle.std.specs.Prelude.{◌≡◌, ℕ, ℤ, Bool, true, false, not, ◌&&◌, ◌||◌, bytes_eq, if◌then◌else◌, List, [], ◌∷◌, ◌++◌, map, Option, None, Some, codes}
use Rattle.xq_ast.specs.Tokens.{behind}
use Rattle.xq_ast.specs.declared.token.Symbol.{Symbol}
use Rattle.xq_ast.specs.declared.token.Symbol.TheVariants.{OpenRound, CloseRound, OpenSquare, CloseSquare, OpenCurly, CloseCurly, Comma, Slash, SlashSlash, At, Dot, DotDot, ColonColon, Assign, Equal, NotEqual, Less, LessOrEqual, Greater, GreaterOrEqual, Plus, Minus, Star, Bar, Dollar}
use Rattle.xq_ast.specs.declared.token.Token.{Token}
use Rattle.xq_ast.specs.declared.token.Token.TheVariants.{Name, Text, Int, Symbol as Mark}
use Rattle.xq_ast.specs.declared.step.Axis.{Axis}
use Rattle.xq_ast.specs.declared.step.Axis.TheVariants as axis
use Rattle.xq_ast.specs.declared.step.Test.{Test}
use Rattle.xq_ast.specs.declared.step.Test.TheVariants as kind
use Rattle.xq_ast.specs.declared.tree.CompareOp.{CompareOp}
use Rattle.xq_ast.specs.declared.tree.CompareOp.TheVariants as compare
use Rattle.xq_ast.specs.declared.tree.ProductOp.{ProductOp}
use Rattle.xq_ast.specs.declared.tree.ProductOp.TheVariants.{Times, Idiv, Mod}
use Rattle.xq_ast.specs.declared.tree.Sign.{Sign}
use Rattle.xq_ast.specs.declared.tree.Sign.TheVariants as sign
use Rattle.xq_ast.specs.declared.tree.Expr.{Expr}
use Rattle.xq_ast.specs.declared.tree.Expr.TheVariants as expression
use Rattle.xq_ast.specs.declared.tree.Bind.{Bind}
use Rattle.xq_ast.specs.declared.tree.Bind.TheVariants as binding
use Rattle.xq_ast.specs.declared.tree.SortKey.{SortKey}
use Rattle.xq_ast.specs.declared.tree.SumPart.{SumPart}
use Rattle.xq_ast.specs.declared.tree.ProductPart.{ProductPart}
use Rattle.xq_ast.specs.declared.tree.Start.{Start}
use Rattle.xq_ast.specs.declared.tree.Start.TheVariants.{Value, First}
use Rattle.xq_ast.specs.declared.tree.Step.{Step}
use Rattle.xq_ast.specs.declared.update.Update.{Update}
use Rattle.xq_ast.specs.declared.update.Update.TheVariants as updates
use Rattle.xq_ast.specs.declared.call.Call.{Call}
use Rattle.xq_ast.specs.declared.call.Call.TheVariants as calls

-- ---- what a row with one part is, and with more

-- single expressions between commas
abbrev pub sequence_of : List Expr → Expr
sequence_of (e ∷ []) = e
sequence_of es = expression.Seq es

-- what stands in brackets: nothing is the empty sequence
abbrev pub group_of : Option Expr → Expr
group_of None = expression.Seq []
group_of (Some e) = e

-- one part is itself, more are an `or`
abbrev pub or_of : Expr → List Expr → Expr
or_of e [] = e
or_of e (f ∷ es) = expression.Or (e ∷ f ∷ es)

-- one part is itself, more are an `and`
abbrev pub and_of : Expr → List Expr → Expr
and_of e [] = e
and_of e (f ∷ es) = expression.And (e ∷ f ∷ es)

-- one part is itself, more are a sum
abbrev pub sum_of : Expr → List SumPart → Expr
sum_of e [] = e
sum_of e (p ∷ ps) = expression.Sum e (p ∷ ps)

-- one part is itself, more are a product
abbrev pub product_of : Expr → List ProductPart → Expr
product_of e [] = e
product_of e (p ∷ ps) = expression.Product e (p ∷ ps)

-- one part is itself, more are a union
abbrev pub union_of : Expr → List Expr → Expr
union_of e [] = e
union_of e (f ∷ es) = expression.Union (e ∷ f ∷ es)

-- an expression without signs is itself, one with signs is signed
abbrev pub signed_of : List Sign → Expr → Expr
signed_of [] e = e
signed_of (s ∷ signs) e = expression.Signed (s ∷ signs) e

-- an expression without predicates is itself, one with predicates is filtered
abbrev pub filter_of : Expr → List Expr → Expr
filter_of e [] = e
filter_of e (p ∷ preds) = expression.Filter e (p ∷ preds)

-- an expression without steps is itself, one with steps begins a path
abbrev pub path_of : Expr → List Step → Expr
path_of e [] = e
path_of e (s ∷ steps) = expression.Path (Value e) (s ∷ steps)

-- a step that stands alone is a path
abbrev pub steps_of : Step → List Step → Expr
steps_of s steps = expression.Path (First s) steps

-- ---- parts

-- a key of `order by`: its expression, and whether it descends
abbrev pub key : Bool → Expr → SortKey
key descending e = record { expr = e; descending = descending }

-- a summand after the first: its expression, and whether it is taken away
abbrev pub sum_part : Bool → Expr → SumPart
sum_part minus e = record { minus = minus; expr = e }

-- a factor after the first: its expression and its operator
abbrev pub product_part : ProductOp → Expr → ProductPart
product_part op e = record { op = op; expr = e }

-- a step behind no slash, or behind one
abbrev pub step : Axis → Test → List Expr → Step
step way what preds = record { deep = false; axis = way; test = what; preds = preds }

-- a step behind `//` where `deep`
abbrev pub step_behind : Bool → Step → Step
step_behind deep s = record { deep = deep; axis = s.axis; test = s.test; preds = s.preds }

-- the symbol of a comparison: =, !=, <, <=, > or >=
abbrev pub compare_symbol : CompareOp → Symbol
compare_symbol compare.Eq = Equal
compare_symbol compare.Ne = NotEqual
compare_symbol compare.Lt = Less
compare_symbol compare.Le = LessOrEqual
compare_symbol compare.Gt = Greater
compare_symbol compare.Ge = GreaterOrEqual

-- the symbol of a sign: + or -
abbrev pub sign_symbol : Sign → Symbol
sign_symbol sign.Plus = Plus
sign_symbol sign.Minus = Minus

-- Axis := child | descendant | descendant-or-self | self | attribute | parent
abbrev pub axis_word : Axis → List ℕ
axis_word axis.Child = codes "child"
axis_word axis.Descendant = codes "descendant"
axis_word axis.DescendantOrSelf = codes "descendant-or-self"
axis_word axis.Itself = codes "self"
axis_word axis.Attribute = codes "attribute"
axis_word axis.Parent = codes "parent"

-- ---- rules on words

-- `for` and `let` before `$`, and `if` before a bracket: where a single expression may begin these are the rows Flwor
-- and If, and no other
abbrev pub is_keyword : List Token → Bool
is_keyword (Name w ∷ Mark Dollar ∷ ts) = bytes_eq w (codes "for") || bytes_eq w (codes "let")
is_keyword (Name w ∷ Mark OpenRound ∷ ts) = bytes_eq w (codes "if")
is_keyword _ = false

-- before a bracket these are tests
abbrev pub is_test_word : List ℕ → Bool
is_test_word w = bytes_eq w (codes "node") || bytes_eq w (codes "text") || bytes_eq w (codes "processing-instruction")

-- before a bracket this is the row doc
abbrev pub is_doc_word : List ℕ → Bool
is_doc_word w = bytes_eq w (codes "doc") || bytes_eq w (codes "fn:doc")

-- before a bracket any other name is a function's
abbrev pub is_function_word : List ℕ → Bool
is_function_word w = not (is_test_word w || is_doc_word w)

-- a function's name without the prefix `fn:`
abbrev pub plain_from : List ℕ → Option (List ℕ) → List ℕ
plain_from w None = w
plain_from w (Some rest) = rest

-- the name without the prefix `fn:`, if it has it
abbrev pub plain : List ℕ → List ℕ
plain w = plain_from w (behind (codes "fn:") w)

-- the words of which one, as its first token, says the row of a call
abbrev pub is_statement_word : List ℕ → Bool
is_statement_word w =
    bytes_eq w (codes "BEGIN") || bytes_eq w (codes "COMMIT") || bytes_eq w (codes "ROLLBACK") || bytes_eq w (codes "CHECKPOINT")
    || bytes_eq w (codes "SHOW") || bytes_eq w (codes "CREATE") || bytes_eq w (codes "DROP") || bytes_eq w (codes "LOAD")
    || bytes_eq w (codes "EXPORT") || bytes_eq w (codes "UPDATE")

-- the first token is a word that says the row of a call
abbrev pub is_statement : List Token → Bool
is_statement (Name w ∷ ts) = is_statement_word w
is_statement _ = false

-- ---- tests of names and of kinds

-- NameTest := Name | *
abbrev pub name_token : Option (List ℕ) → Token
name_token (Some name) = Name name
name_token None = Mark Star

-- Test := NameTest | node ( ) | text ( ) | processing-instruction ( )
pub data IsTest : List Token → Test → Type 0 where
  name_test : (name : Option (List ℕ)) → IsTest (name_token name ∷ []) (kind.Name name)
  node_test : IsTest (Name (codes "node") ∷ Mark OpenRound ∷ Mark CloseRound ∷ []) kind.AnyNode
  text_test : IsTest (Name (codes "text") ∷ Mark OpenRound ∷ Mark CloseRound ∷ []) kind.Text
  pi_test : IsTest (Name (codes "processing-instruction") ∷ Mark OpenRound ∷ Mark CloseRound ∷ []) kind.Pi

-- ---- expressions

mutual
  -- Expr := Single (, Single)*
  pub data IsExpr : List Token → Expr → Type 0 where
    expr : {ts : List Token} {es : List Expr} → IsList ts es → IsExpr ts (sequence_of es)

  -- Single (, Single)*
  pub data IsList : List Token → List Expr → Type 0 where
    list : {ts us : List Token} {e : Expr} {es : List Expr} → IsSingle ts e → IsCommas us es → IsList (ts ++ us) (e ∷ es)

  -- (, Single)*
  pub data IsCommas : List Token → List Expr → Type 0 where
    no_comma : IsCommas [] []
    comma : {ts us : List Token} {e : Expr} {es : List Expr} → IsSingle ts e → IsCommas us es → IsCommas (Mark Comma ∷ (ts ++ us)) (e ∷ es)

  -- [Expr]
  pub data IsContent : List Token → Option Expr → Type 0 where
    no_content : IsContent [] None
    content : {ts : List Token} {e : Expr} → IsExpr ts e → IsContent ts (Some e)

  -- [Single (, Single)*]
  pub data IsArguments : List Token → List Expr → Type 0 where
    no_argument : IsArguments [] []
    arguments : {ts : List Token} {es : List Expr} → IsList ts es → IsArguments ts es

  -- Single := Flwor | If | Or
  pub data IsSingle : List Token → Expr → Type 0 where
    single_flwor : {ts : List Token} {e : Expr} → IsFlwor ts e → IsSingle ts e
    single_if : {ts : List Token} {e : Expr} → IsIf ts e → IsSingle ts e
    single_or : {ts : List Token} {e : Expr} → is_keyword ts ≡ false → IsOr ts e → IsSingle ts e

  -- Flwor := (For | Let)+ [where Single] [order by Key (, Key)*] return Single
  pub data IsFlwor : List Token → Expr → Type 0 where
    flwor : {ts us vs ws xs : List Token} {first more : List Bind} {filter : Option Expr} {keys : List SortKey} {e : Expr}
        → IsClause ts first → IsClauses us more → IsWhere vs filter → IsOrder ws keys → IsSingle xs e
        → IsFlwor (ts ++ (us ++ (vs ++ (ws ++ Name (codes "return") ∷ xs)))) (expression.Flwor (first ++ more) filter keys e)

  -- For | Let
  pub data IsClause : List Token → List Bind → Type 0 where
    -- For := for Bind (, Bind)*
    for_clause : {ts us : List Token} {b : Bind} {bs : List Bind} → IsBind ts b → IsBinds us bs → IsClause (Name (codes "for") ∷ (ts ++ us)) (b ∷ bs)
    -- Let := let $Name := Single (, $Name := Single)*
    let_clause : {ts us : List Token} {b : Bind} {bs : List Bind} → IsLet ts b → IsLets us bs → IsClause (Name (codes "let") ∷ (ts ++ us)) (b ∷ bs)

  -- (For | Let)*
  pub data IsClauses : List Token → List Bind → Type 0 where
    no_clause : IsClauses [] []
    clause : {ts us : List Token} {bs more : List Bind} → IsClause ts bs → IsClauses us more → IsClauses (ts ++ us) (bs ++ more)

  -- Bind := $Name [at $Name] in Single
  pub data IsBind : List Token → Bind → Type 0 where
    bind : {name : List ℕ} {ts : List Token} {e : Expr} → IsSingle ts e → IsBind (Mark Dollar ∷ Name name ∷ Name (codes "in") ∷ ts) (binding.For name None e)
    bind_at : {name place : List ℕ} {ts : List Token} {e : Expr} → IsSingle ts e
        → IsBind (Mark Dollar ∷ Name name ∷ Name (codes "at") ∷ Mark Dollar ∷ Name place ∷ Name (codes "in") ∷ ts) (binding.For name (Some place) e)

  -- (, Bind)*
  pub data IsBinds : List Token → List Bind → Type 0 where
    no_bind : IsBinds [] []
    next_bind : {ts us : List Token} {b : Bind} {bs : List Bind} → IsBind ts b → IsBinds us bs → IsBinds (Mark Comma ∷ (ts ++ us)) (b ∷ bs)

  -- $Name := Single
  pub data IsLet : List Token → Bind → Type 0 where
    let_bind : {name : List ℕ} {ts : List Token} {e : Expr} → IsSingle ts e → IsLet (Mark Dollar ∷ Name name ∷ Mark Assign ∷ ts) (binding.Let name e)

  -- (, $Name := Single)*
  pub data IsLets : List Token → List Bind → Type 0 where
    no_let : IsLets [] []
    next_let : {ts us : List Token} {b : Bind} {bs : List Bind} → IsLet ts b → IsLets us bs → IsLets (Mark Comma ∷ (ts ++ us)) (b ∷ bs)

  -- [where Single]
  pub data IsWhere : List Token → Option Expr → Type 0 where
    no_where : IsWhere [] None
    a_where : {ts : List Token} {e : Expr} → IsSingle ts e → IsWhere (Name (codes "where") ∷ ts) (Some e)

  -- [order by Key (, Key)*]
  pub data IsOrder : List Token → List SortKey → Type 0 where
    no_order : IsOrder [] []
    order : {ts us : List Token} {k : SortKey} {ks : List SortKey} → IsKey ts k → IsKeys us ks
        → IsOrder (Name (codes "order") ∷ Name (codes "by") ∷ (ts ++ us)) (k ∷ ks)

  -- Key := Single [ascending | descending]
  pub data IsKey : List Token → SortKey → Type 0 where
    bare_key : {ts : List Token} {e : Expr} → IsSingle ts e → IsKey ts (key false e)
    ascending : {ts : List Token} {e : Expr} → IsSingle ts e → IsKey (ts ++ Name (codes "ascending") ∷ []) (key false e)
    descending : {ts : List Token} {e : Expr} → IsSingle ts e → IsKey (ts ++ Name (codes "descending") ∷ []) (key true e)

  -- (, Key)*
  pub data IsKeys : List Token → List SortKey → Type 0 where
    no_key : IsKeys [] []
    next_key : {ts us : List Token} {k : SortKey} {ks : List SortKey} → IsKey ts k → IsKeys us ks → IsKeys (Mark Comma ∷ (ts ++ us)) (k ∷ ks)

  -- If := if ( Expr ) then Single else Single
  pub data IsIf : List Token → Expr → Type 0 where
    an_if : {ts us vs : List Token} {c y n : Expr} → IsExpr ts c → IsSingle us y → IsSingle vs n
        → IsIf (Name (codes "if") ∷ Mark OpenRound ∷ (ts ++ Mark CloseRound ∷ Name (codes "then") ∷ (us ++ Name (codes "else") ∷ vs))) (expression.If c y n)

  -- Or := And (or And)*
  pub data IsOr : List Token → Expr → Type 0 where
    or : {ts us : List Token} {e : Expr} {es : List Expr} → IsAnd ts e → IsOrs us es → IsOr (ts ++ us) (or_of e es)

  -- (or And)*
  pub data IsOrs : List Token → List Expr → Type 0 where
    no_or : IsOrs [] []
    next_or : {ts us : List Token} {e : Expr} {es : List Expr} → IsAnd ts e → IsOrs us es → IsOrs (Name (codes "or") ∷ (ts ++ us)) (e ∷ es)

  -- And := Comp (and Comp)*
  pub data IsAnd : List Token → Expr → Type 0 where
    and : {ts us : List Token} {e : Expr} {es : List Expr} → IsComp ts e → IsAnds us es → IsAnd (ts ++ us) (and_of e es)

  -- (and Comp)*
  pub data IsAnds : List Token → List Expr → Type 0 where
    no_and : IsAnds [] []
    next_and : {ts us : List Token} {e : Expr} {es : List Expr} → IsComp ts e → IsAnds us es → IsAnds (Name (codes "and") ∷ (ts ++ us)) (e ∷ es)

  -- Comp := Range [(= | != | < | <= | > | >=) Range]
  pub data IsComp : List Token → Expr → Type 0 where
    no_comp : {ts : List Token} {e : Expr} → IsRange ts e → IsComp ts e
    comp : {ts us : List Token} {l r : Expr} (op : CompareOp) → IsRange ts l → IsRange us r → IsComp (ts ++ Mark (compare_symbol op) ∷ us) (expression.Compare l op r)

  -- Range := Sum [to Sum]
  pub data IsRange : List Token → Expr → Type 0 where
    no_range : {ts : List Token} {e : Expr} → IsSum ts e → IsRange ts e
    range : {ts us : List Token} {l h : Expr} → IsSum ts l → IsSum us h → IsRange (ts ++ Name (codes "to") ∷ us) (expression.Range l h)

  -- Sum := Product ((+ | -) Product)*
  pub data IsSum : List Token → Expr → Type 0 where
    sum : {ts us : List Token} {e : Expr} {ps : List SumPart} → IsProduct ts e → IsSumParts us ps → IsSum (ts ++ us) (sum_of e ps)

  -- ((+ | -) Product)*
  pub data IsSumParts : List Token → List SumPart → Type 0 where
    no_sum : IsSumParts [] []
    plus : {ts us : List Token} {e : Expr} {ps : List SumPart} → IsProduct ts e → IsSumParts us ps → IsSumParts (Mark Plus ∷ (ts ++ us)) (sum_part false e ∷ ps)
    minus : {ts us : List Token} {e : Expr} {ps : List SumPart} → IsProduct ts e → IsSumParts us ps → IsSumParts (Mark Minus ∷ (ts ++ us)) (sum_part true e ∷ ps)

  -- Product := Union ((* | idiv | mod) Union)*
  pub data IsProduct : List Token → Expr → Type 0 where
    product : {ts us : List Token} {e : Expr} {ps : List ProductPart} → IsUnion ts e → IsProductParts us ps → IsProduct (ts ++ us) (product_of e ps)

  -- ((* | idiv | mod) Union)*
  pub data IsProductParts : List Token → List ProductPart → Type 0 where
    no_product : IsProductParts [] []
    times : {ts us : List Token} {e : Expr} {ps : List ProductPart} → IsUnion ts e → IsProductParts us ps
        → IsProductParts (Mark Star ∷ (ts ++ us)) (product_part Times e ∷ ps)
    idiv : {ts us : List Token} {e : Expr} {ps : List ProductPart} → IsUnion ts e → IsProductParts us ps
        → IsProductParts (Name (codes "idiv") ∷ (ts ++ us)) (product_part Idiv e ∷ ps)
    mod_ : {ts us : List Token} {e : Expr} {ps : List ProductPart} → IsUnion ts e → IsProductParts us ps
        → IsProductParts (Name (codes "mod") ∷ (ts ++ us)) (product_part Mod e ∷ ps)

  -- Union := Signed ((| or the word union) Signed)*
  pub data IsUnion : List Token → Expr → Type 0 where
    union : {ts us : List Token} {e : Expr} {es : List Expr} → IsSigned ts e → IsUnions us es → IsUnion (ts ++ us) (union_of e es)

  -- ((| or the word union) Signed)*
  pub data IsUnions : List Token → List Expr → Type 0 where
    no_union : IsUnions [] []
    bar : {ts us : List Token} {e : Expr} {es : List Expr} → IsSigned ts e → IsUnions us es → IsUnions (Mark Bar ∷ (ts ++ us)) (e ∷ es)
    union_word : {ts us : List Token} {e : Expr} {es : List Expr} → IsSigned ts e → IsUnions us es → IsUnions (Name (codes "union") ∷ (ts ++ us)) (e ∷ es)

  -- Signed := (+ | -)* Path
  pub data IsSigned : List Token → Expr → Type 0 where
    signed : (signs : List Sign) {ts : List Token} {e : Expr} → IsPath ts e → IsSigned (map (λ s. Mark (sign_symbol s)) signs ++ ts) (signed_of signs e)

  -- Path := (Filter | Step) ((/ | //) Step)*
  pub data IsPath : List Token → Expr → Type 0 where
    path_filter : {ts us : List Token} {e : Expr} {steps : List Step} → IsFilter ts e → IsSteps us steps → IsPath (ts ++ us) (path_of e steps)
    path_step : {ts us : List Token} {s : Step} {steps : List Step} → IsStep ts s → IsSteps us steps → IsPath (ts ++ us) (steps_of s steps)

  -- ((/ | //) Step)*
  pub data IsSteps : List Token → List Step → Type 0 where
    no_step : IsSteps [] []
    slash : {ts us : List Token} {s : Step} {steps : List Step} → IsStep ts s → IsSteps us steps → IsSteps (Mark Slash ∷ (ts ++ us)) (step_behind false s ∷ steps)
    slash_slash : {ts us : List Token} {s : Step} {steps : List Step} → IsStep ts s → IsSteps us steps
        → IsSteps (Mark SlashSlash ∷ (ts ++ us)) (step_behind true s ∷ steps)

  -- Filter := Primary Pred*
  pub data IsFilter : List Token → Expr → Type 0 where
    filter : {ts us : List Token} {e : Expr} {preds : List Expr} → IsPrimary ts e → IsPreds us preds → IsFilter (ts ++ us) (filter_of e preds)

  -- Pred*, where Pred := [ Expr ]
  pub data IsPreds : List Token → List Expr → Type 0 where
    no_pred : IsPreds [] []
    pred : {ts us : List Token} {e : Expr} {preds : List Expr} → IsExpr ts e → IsPreds us preds
        → IsPreds (Mark OpenSquare ∷ (ts ++ Mark CloseSquare ∷ us)) (e ∷ preds)

  -- Primary := String | Integer | $Name | ( [Expr] ) | . | doc ( String ) | Name ( [Single (, Single)*] )
  --          | element Name { [Expr] } | attribute Name { [Expr] } | text { [Expr] }
  pub data IsPrimary : List Token → Expr → Type 0 where
    string : {value : List ℕ} → IsPrimary (Text value ∷ []) (expression.Text value)
    integer : {value : ℤ} → IsPrimary (Int value ∷ []) (expression.Int value)
    variable : {name : List ℕ} → IsPrimary (Mark Dollar ∷ Name name ∷ []) (expression.Var name)
    group : {ts : List Token} {o : Option Expr} → IsContent ts o → IsPrimary (Mark OpenRound ∷ (ts ++ Mark CloseRound ∷ [])) (group_of o)
    context : IsPrimary (Mark Dot ∷ []) expression.Context
    doc : {word name : List ℕ} → is_doc_word word ≡ true → IsPrimary (Name word ∷ Mark OpenRound ∷ Text name ∷ Mark CloseRound ∷ []) (expression.Doc name)
    function : {word : List ℕ} {ts : List Token} {es : List Expr} → is_function_word word ≡ true → IsArguments ts es
        → IsPrimary (Name word ∷ Mark OpenRound ∷ (ts ++ Mark CloseRound ∷ [])) (expression.Fun (plain word) es)
    element : {name : List ℕ} {ts : List Token} {o : Option Expr} → IsContent ts o
        → IsPrimary (Name (codes "element") ∷ Name name ∷ Mark OpenCurly ∷ (ts ++ Mark CloseCurly ∷ [])) (expression.Element name o)
    attribute : {name : List ℕ} {ts : List Token} {o : Option Expr} → IsContent ts o
        → IsPrimary (Name (codes "attribute") ∷ Name name ∷ Mark OpenCurly ∷ (ts ++ Mark CloseCurly ∷ [])) (expression.Attribute name o)
    text : {ts : List Token} {o : Option Expr} → IsContent ts o → IsPrimary (Name (codes "text") ∷ Mark OpenCurly ∷ (ts ++ Mark CloseCurly ∷ [])) (expression.TextNode o)

  -- Step := (@ NameTest | .. | [Axis ::] Test) Pred*
  pub data IsStep : List Token → Step → Type 0 where
    at : (name : Option (List ℕ)) {us : List Token} {preds : List Expr} → IsPreds us preds
        → IsStep (Mark At ∷ name_token name ∷ us) (step axis.Attribute (kind.Name name) preds)
    parent : {us : List Token} {preds : List Expr} → IsPreds us preds → IsStep (Mark DotDot ∷ us) (step axis.Parent kind.AnyNode preds)
    along : (way : Axis) {ts us : List Token} {what : Test} {preds : List Expr} → IsTest ts what → IsPreds us preds
        → IsStep (Name (axis_word way) ∷ Mark ColonColon ∷ (ts ++ us)) (step way what preds)
    child : {ts us : List Token} {what : Test} {preds : List Expr} → IsTest ts what → IsPreds us preds → IsStep (ts ++ us) (step axis.Child what preds)

-- ---- updates

-- Update := what follows the word UPDATE
pub data IsUpdate : List Token → Update → Type 0 where
  -- insert Single (into | preceding | following) Single
  into : {ts us : List Token} {s t : Expr} → IsSingle ts s → IsSingle us t → IsUpdate (Name (codes "insert") ∷ (ts ++ Name (codes "into") ∷ us)) (updates.Into s t)
  preceding : {ts us : List Token} {s t : Expr} → IsSingle ts s → IsSingle us t
      → IsUpdate (Name (codes "insert") ∷ (ts ++ Name (codes "preceding") ∷ us)) (updates.Preceding s t)
  following : {ts us : List Token} {s t : Expr} → IsSingle ts s → IsSingle us t
      → IsUpdate (Name (codes "insert") ∷ (ts ++ Name (codes "following") ∷ us)) (updates.Following s t)
  -- delete Single | delete_undeep Single
  delete : {ts : List Token} {t : Expr} → IsSingle ts t → IsUpdate (Name (codes "delete") ∷ ts) (updates.Delete t)
  delete_undeep : {ts : List Token} {t : Expr} → IsSingle ts t → IsUpdate (Name (codes "delete_undeep") ∷ ts) (updates.DeleteUndeep t)
  -- replace $Name in Single with Single
  replace : {name : List ℕ} {ts us : List Token} {t e : Expr} → IsSingle ts t → IsSingle us e
      → IsUpdate (Name (codes "replace") ∷ Mark Dollar ∷ Name name ∷ Name (codes "in") ∷ (ts ++ Name (codes "with") ∷ us)) (updates.Replace name t e)
  -- rename Single on Name
  rename : {ts : List Token} {t : Expr} {name : List ℕ} → IsSingle ts t → IsUpdate (Name (codes "rename") ∷ (ts ++ Name (codes "on") ∷ Name name ∷ [])) (updates.Rename t name)

-- ---- calls

-- a call whose first token is one of the statements' words is read by that row alone
pub data IsCall : List Token → List (List ℕ) → Call → Type 0 where
  -- BEGIN
  begin : {pyx : List (List ℕ)} → IsCall (Name (codes "BEGIN") ∷ []) pyx calls.Begin
  -- BEGIN READ-ONLY
  begin_read : {pyx : List (List ℕ)} → IsCall (Name (codes "BEGIN") ∷ Name (codes "READ-ONLY") ∷ []) pyx calls.BeginRead
  -- COMMIT
  commit : {pyx : List (List ℕ)} → IsCall (Name (codes "COMMIT") ∷ []) pyx calls.Commit
  -- ROLLBACK
  rollback : {pyx : List (List ℕ)} → IsCall (Name (codes "ROLLBACK") ∷ []) pyx calls.Rollback
  -- CHECKPOINT
  checkpoint : {pyx : List (List ℕ)} → IsCall (Name (codes "CHECKPOINT") ∷ []) pyx calls.Checkpoint
  -- SHOW DOCUMENTS
  show_documents : {pyx : List (List ℕ)} → IsCall (Name (codes "SHOW") ∷ Name (codes "DOCUMENTS") ∷ []) pyx calls.ShowDocuments
  -- CREATE DOCUMENT String
  create : {name : List ℕ} {pyx : List (List ℕ)} → IsCall (Name (codes "CREATE") ∷ Name (codes "DOCUMENT") ∷ Text name ∷ []) pyx (calls.Create name)
  -- DROP DOCUMENT String
  drop : {name : List ℕ} {pyx : List (List ℕ)} → IsCall (Name (codes "DROP") ∷ Name (codes "DOCUMENT") ∷ Text name ∷ []) pyx (calls.Drop name)
  -- LOAD String
  load : {name : List ℕ} {pyx : List (List ℕ)} → IsCall (Name (codes "LOAD") ∷ Text name ∷ []) pyx (calls.Load name pyx)
  -- EXPORT String
  export : {name : List ℕ} {pyx : List (List ℕ)} → IsCall (Name (codes "EXPORT") ∷ Text name ∷ []) pyx (calls.Export name)
  -- UPDATE Update
  update : {ts : List Token} {pyx : List (List ℕ)} {what : Update} → IsUpdate ts what → IsCall (Name (codes "UPDATE") ∷ ts) pyx (calls.Update what)
  -- Expr
  query : {ts : List Token} {pyx : List (List ℕ)} {e : Expr} → is_statement ts ≡ false → IsExpr ts e → IsCall ts pyx (calls.Query e)
