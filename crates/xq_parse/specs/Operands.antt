-- How an operand begins, as the definitions of rows see it.
use Rattle.std.specs.Prelude.{Bool, true, false, Some}
use Rattle.xq_ast.specs.Tokens.{◌>>=◌}
use Rattle.xq_ast.specs.Grammar.{group_of}
use Rattle.xq_ast.specs.declared.tree.Expr.{Expr}
use Rattle.xq_ast.specs.declared.tree.Sign.{Sign}
use Rattle.xq_ast.specs.declared.tree.Sign.TheVariants.{Plus, Minus}
use Rattle.xq_ast.specs.Readings as spec
use Rattle.xq_ast.specs.Readings.{Reader}
use Rattle.xq_parse.specs.declared.operand.Operand.{Operand}
use Rattle.xq_parse.specs.declared.operand.Operand.TheVariants.{Text, Int, Variable, Group, Context, Doc, Function, Element, Attribute, TextNode, Step}
use Rattle.xq_parse.specs.declared.flwor.ClauseWord.{ClauseWord}
use Rattle.xq_parse.specs.declared.flwor.ClauseWord.TheVariants.{For, Let}
use Rattle.xq_parse.specs.declared.update.Relation.{Relation}
use Rattle.xq_parse.specs.declared.update.Relation.TheVariants.{Into, Preceding, Following}
use Rattle.xq_parse.specs.declared.single.Begins.{Begins}
use Rattle.xq_parse.specs.declared.single.Begins.TheVariants.{Flwor, If, Or}

-- how an operand begins, with the tokens in place of the borrowed ones
abbrev pub operand_of : Operand → spec.Operand
operand_of (Text value rest) = spec.Operand.a_string value.now rest.now
operand_of (Int value rest) = spec.Operand.an_integer value rest.now
operand_of (Variable rest) = spec.Operand.a_variable rest.now
operand_of (Group rest) = spec.Operand.a_group rest.now
operand_of (Context rest) = spec.Operand.the_context rest.now
operand_of (Doc rest) = spec.Operand.a_doc rest.now
operand_of (Function word rest) = spec.Operand.a_function word.now rest.now
operand_of (Element name rest) = spec.Operand.an_element name.now rest.now
operand_of (Attribute name rest) = spec.Operand.an_attribute name.now rest.now
operand_of (TextNode rest) = spec.Operand.a_text_node rest.now
operand_of Step = spec.Operand.a_step

-- the word of a clause
abbrev pub clause_word_of : ClauseWord → spec.ClauseWord
clause_word_of For = spec.ClauseWord.for_word
clause_word_of Let = spec.ClauseWord.let_word

-- which row a single expression is
abbrev pub begins_of : Begins → spec.Begins
begins_of Flwor = spec.Begins.a_flwor
begins_of (If rest) = spec.Begins.an_if_behind rest.now
begins_of Or = spec.Begins.an_or

-- what stands in brackets, behind the opening one
unfoldable pub group : Reader Expr → Reader Expr
group inner ts = spec.content spec.close_round inner ts >>= (λ o. Some (group_of o.0, o.1))

-- where what is inserted goes
abbrev pub relation_of : Relation → spec.Relation
relation_of Into = spec.Relation.into
relation_of Preceding = spec.Relation.preceding
relation_of Following = spec.Relation.following

-- the sign of an operator of a sum
abbrev pub sign_of : Bool → Sign
sign_of true = Minus
sign_of false = Plus
