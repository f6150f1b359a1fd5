-- Where an expression is evaluated, as the definitions of evaluation see it.
use Rattle.std.specs.Prelude.{List, map, Option, Result, Ok, Err}
use Rattle.std.specs.Option.{option_map, option_copied}
use Rattle.xq_ast.specs.declared.code.Code.{Code}
use Rattle.xml_model.specs.declared.nav.Id.{Id}
use Rattle.xml_model.specs.Nav.{Stored}
use Rattle.xml_model.specs.Items as items
use Rattle.xml_model.specs.Items.{Made, Making}
use Rattle.xml_model.specs.FunctionAnswers.{Context}
use Rattle.xml_model.specs.Tuples.{Bindings}
use Rattle.xq_values.specs.declared.item.Item.{Item}
use Rattle.xq_values.specs.declared.row.Variable.{Variable}
use Rattle.xq_values.specs.Seen.{item_seen}
use Rattle.xq_values.specs.Rows.{variable_seen}
use Rattle.xq_functions.specs.declared.context.Focus.{Focus}
use Rattle.xq_functions.specs.Focuses.{focus_seen}
use Rattle.xq_eval.specs.declared.scope.Scope.{Scope}

-- the items of a value
abbrev pub items_seen : (Id → Stored) → List Item → items.Items
items_seen place values = map (item_seen place) values

-- the variables that are bound
abbrev pub variables_seen : (Id → Stored) → List Variable → Bindings
variables_seen place variables = map (variable_seen place) variables

-- the context, where there is one
abbrev pub context_seen : (Id → Stored) → Option Focus → Context
context_seen place focus = option_map (focus_seen place) focus

-- a meaning, with the variables and the context of a scope
abbrev pub in_scope : {N B : Type 0} → (Id → Stored) → Scope N → (Bindings → Context → Making B) → Making B
in_scope place scope means = means (variables_seen place scope.variables.now) (context_seen place (option_copied scope.focus))

-- an answer without the trees after it
abbrev pub without_trees : {B : Type 0} → Result (B × Made) Code → Result B Code
without_trees (Ok both) = Ok both.0
without_trees (Err code) = Err code
