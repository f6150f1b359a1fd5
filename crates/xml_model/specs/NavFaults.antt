-- Faults of a `Nav`.
use Rattle.xml_model.specs.declared.nav.NavEnd.{NavEnd}
use Rattle.xml_model.specs.declared.nav.NavEnd.TheVariants.{Nav, NoMemory}

-- a fault passes the test
abbrev pub Passes : {F : Type 0} → (F → Type 0) → NavEnd F → Type 0
Passes test (Nav fault) = test fault
Passes test NoMemory = Unit {0}
