-- What the parts of reading a script answer.
use Rattle.std.specs.Prelude.{◌≡◌, ◌<◌, ℕ, List, ◌∷◌, ◌++◌, length, Option, None, Some, Result, Ok, Err}
use Rattle.xml_model.specs.Pyx.{split_lines}
use Rattle.script_text.specs.declared.scripts.fault.ScriptRefusal.{ScriptRefusal}
use Rattle.script_text.specs.declared.scripts.fault.ScriptRefusal.TheVariants.{BadScript}
use Rattle.script_text.specs.declared.scripts.fault.RefusedScript.{RefusedScript}
use Rattle.script_text.specs.declared.scripts.fault.ScriptFault.{ScriptFault}
use Rattle.script_text.specs.declared.scripts.fault.ScriptFault.TheVariants.{Refused, NoMemory}
use Rattle.script_text.specs.declared.scripts.fault.Stop.{Stop}
use Rattle.script_text.specs.declared.scripts.fault.Stop.TheVariants as stops
use Rattle.script_text.specs.Scripts.{Reading}

-- the answer is what the definition gives, unless memory ran out
abbrev pub Gives : {A : Type 0} → Result A ScriptFault → Result A RefusedScript → Type 0
Gives (Ok x) defined = defined ≡ Ok x
Gives (Err (Refused refused)) defined = defined ≡ Err refused
Gives (Err NoMemory) defined = Unit {0}

-- what was read is what the definition gives, unless memory ran out
abbrev pub Takes : {T : Type 0} → Result T ScriptFault → Reading → Result Reading RefusedScript → Type 0
Takes (Ok x) new defined = defined ≡ Ok new
Takes (Err (Refused refused)) new defined = defined ≡ Err refused
Takes (Err NoMemory) new defined = Unit {0}

-- the same before the refusal has its line
abbrev pub Stops : {T : Type 0} → Result T Stop → Reading → Result Reading ScriptRefusal → Type 0
Stops (Ok x) new defined = defined ≡ Ok new
Stops (Err (stops.Refused why)) new defined = defined ≡ Err why
Stops (Err stops.NoMemory) new defined = Unit {0}

-- a list with more numbers after it, where they are numbers
abbrev pub with_more : List ℕ → Option (List ℕ) → Option (List ℕ)
with_more ns None = None
with_more ns (Some more) = Some (ns ++ more)

-- the numbers were added, or they are none
abbrev pub Lists : {T : Type 0} → Result T Stop → List ℕ → List ℕ → Option (List ℕ) → Type 0
Lists (Ok x) old new given = with_more old given ≡ Some new
Lists (Err (stops.Refused why)) old new given = (given ≡ None) × (why ≡ BadScript)
Lists (Err stops.NoMemory) old new given = Unit {0}

-- bytes are their first line and the rest
pub record IsFirst (bytes line rest : List ℕ) : Type 0 where
  pub lines : split_lines bytes ≡ line ∷ split_lines rest
  pub shorter : length rest < length bytes
