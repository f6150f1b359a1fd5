use Rattle.std.proofs.Common.{◌≡◌, Option, IfOk, sym, ap, ◌∙◌, subst}
use Rattle.std.specs.Option.{option_map}
use Rattle.xml_model.specs.ItemLines.{placed_lines}
use Rattle.xml_model.specs.Place.{Placed}
use Rattle.xml_model.specs.TreeRows.{placed_by}
use Rattle.xq_functions.proofs.reply.made_lines.Goals as goal

pub returns-in-None : goal.returns-in-None
returns-in-None g c = c.new.ensures ∙ ap placed_lines (ap (option_map placed_by) (sym c.in-None.is) ∙ c.placed_at.ensures)

pub returns-in-Some : goal.returns-in-Some
returns-in-Some g c =
    subst (λ (o : Option Placed). IfOk c.placed_lines.result (λ lines. lines ≡ placed_lines o))
    (ap (option_map placed_by) (sym c.in-Some.is) ∙ c.placed_at.ensures) c.placed_lines.ensures
