-- What the types of a journal's events keep: numbers have their widths, and texts are UTF-8.
use Rattle.std.specs.Prelude.{◌<◌, ◌^◌, List, [], ◌∷◌, length, IsUtf8}
use Rattle.xq_ast.specs.CodeText.{InRange}
use Rattle.xq_ast.specs.declared.need.Need.{Need}
use Rattle.xml_model.specs.Pyx.{Line}
use Rattle.session_core.specs.declared.history.event.Says.{Says}
use Rattle.session_core.specs.declared.history.event.Says.TheVariants as says
use Rattle.session_core.specs.declared.history.event.Event.{Event}
use Rattle.session_core.specs.declared.history.event.Event.TheVariants.{Began, Granted, Refused, Answered, Committed, Ended, RolledBack, Doubt, Settled, Left}
use Rattle.script_text.specs.JournalText.{IsSession, IsKind}

-- a fact of each
abbrev pub Each : {A : Type 0} → (A → Type 0) → List A → Type 0
Each Fact [] = Unit {0}
Each Fact (x ∷ more) = Fact x × Each Fact more

-- each line is UTF-8
abbrev pub AreTexts : List Line → Type 0
AreTexts lines = Each IsUtf8 lines

-- the name of each need is UTF-8
abbrev pub HaveTexts : List Need → Type 0
HaveTexts needs = Each (λ (n : Need). IsUtf8 n.name) needs

-- the lines of an answer are UTF-8 and have a number of 64 bits, and the numbers of its code have their widths
abbrev pub IsTypedAnswer : Says → Type 0
IsTypedAnswer (says.Lines all) = AreTexts all × (length all < 2 ^ 64)
IsTypedAnswer (says.Error code) = InRange code
IsTypedAnswer _ = Unit {0}

-- the numbers of the event have their widths, and its texts are UTF-8
abbrev pub IsTyped : Event → Type 0
IsTyped (Began s kind) = IsSession s × IsKind kind
IsTyped (Granted s needs) = IsSession s × HaveTexts needs
IsTyped (Refused s name holder needs) = IsSession s × IsUtf8 name × IsSession holder
IsTyped (Answered s reply) = IsSession s × IsTypedAnswer reply.says
IsTyped (Committed s n) = IsSession s × (n < 2 ^ 64)
IsTyped (Ended s) = IsSession s
IsTyped (RolledBack s) = IsSession s
IsTyped (Doubt s n mark) = IsSession s × (n < 2 ^ 64)
IsTyped (Settled by s stands) = IsSession by × IsSession s
IsTyped (Left s) = IsSession s

-- the numbers of all events have their widths, and their texts are UTF-8
abbrev pub AreTyped : List Event → Type 0
AreTyped journal = Each IsTyped journal
