-- The context as the definitions of evaluation see it.
use Rattle.xml_model.specs.Nav.{Stored}
use Rattle.xml_model.specs.FunctionAnswers as answers
use Rattle.xml_model.specs.declared.nav.Id.{Id}
use Rattle.xq_values.specs.Seen.{item_seen}
use Rattle.xq_functions.specs.declared.context.Focus.{Focus}

abbrev pub focus_seen : (Id → Stored) → Focus → answers.Focus
focus_seen place focus = record { item = item_seen place focus.item; position = focus.position; size = focus.size }
