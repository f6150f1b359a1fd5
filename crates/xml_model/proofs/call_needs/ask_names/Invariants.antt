use Rattle.std.proofs.Common.{◌≡◌, ◌++◌, drop, map}
use Rattle.xml_model.proofs.call_needs.ask_names.Given as goal

abbrev pub invariant-loop-name : goal.invariant-loop-name
invariant-loop-name l =
    l.asked ++ map (λ name. record { name = name; mode = l.mode }) (drop l.name-index l.name-items)
    ≡ l.initial.asked ++ map (λ name. record { name = name; mode = l.mode }) l.name-items
