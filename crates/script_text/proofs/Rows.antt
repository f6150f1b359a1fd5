-- Texts of journals, computed.
use Rattle.std.proofs.Common.{◌≡◌, ℕ, true, false, List, [], ◌∷◌, ◌++◌, None, refl, arith}
use Rattle.std.proofs.lemmas.Fmt.{decimal_digit}
use Rattle.std.specs.Prelude.{codes}
use Rattle.xq_ast.specs.declared.refusal.PyxRefusal.TheVariants as pyx
use Rattle.xq_ast.specs.declared.code.Code.TheVariants as codes_of
use Rattle.xq_ast.specs.declared.need.LockMode.{LockMode}
use Rattle.xq_ast.specs.declared.need.LockMode.TheVariants.{S, X}
use Rattle.xq_ast.specs.declared.need.Need.{Need}
use Rattle.session_core.specs.declared.history.event.BeginKind.TheVariants as kinds
use Rattle.session_core.specs.declared.history.event.Reply.{Reply}
use Rattle.session_core.specs.declared.history.event.Says.{Says}
use Rattle.session_core.specs.declared.history.event.Says.TheVariants as says
use Rattle.session_core.specs.declared.history.event.Event.TheVariants.{Began, Granted, Refused, Answered, Committed, Ended, RolledBack, Doubt, Settled, Left}
use Rattle.script_text.specs.JournalText.{text}

abbrev need : List ℕ → LockMode → Need
need name mode = record { name = name; mode = mode }

abbrev answer : Says → Reply
answer what = record { call = None; says = what }

reader_beside_loader : text (
    Began 1 kinds.Updating
    ∷ Granted 1 (need (codes "d") X ∷ [])
    ∷ Answered 1 (answer says.Done)
    ∷ Began 2 (kinds.Reading 0)
    ∷ Committed 1 1
    ∷ Answered 2 (answer (says.Error codes_of.FODC0002))
    ∷ Ended 2
    ∷ Began 2 (kinds.Reading 1)
    ∷ Answered 2 (answer (says.Lines (codes "(a" ∷ codes ")a" ∷ [])))
    ∷ Ended 2
    ∷ [])
    ≡ codes "1 began update\n1 granted 'd' X\n1 done\n2 began read 0\n1 committed 1\n2 error FODC0002\n2 ended\n2 began read 1\n2 answer 2\n(a\n)a\n2 ended\n"
reader_beside_loader = rw (decimal_digit 0 (omega arith), decimal_digit 1 (omega arith), decimal_digit 2 (omega arith)) refl

other_events : text (
    Granted 3 (need (codes "a") S ∷ need (codes "it's") X ∷ [])
    ∷ Refused 2 (codes "it's") 3 (need (codes "it's") X ∷ [])
    ∷ Answered 2 (answer (says.Error (codes_of.Pyx pyx.BadLine 2)))
    ∷ Answered 2 (answer (says.Lines []))
    ∷ RolledBack 2
    ∷ Doubt 3 7 (record { before = 0; after = 1 })
    ∷ Settled 2 3 true
    ∷ Settled 3 3 false
    ∷ Left 3
    ∷ [])
    ≡ codes "3 granted 'a' S, 'it''s' X\n2 refused 'it''s' by 3\n2 error Pyx BadLine 2\n2 answer 0\n"
    ++ codes "2 rolled back\n3 doubt 7\n2 settled 3 yes\n3 settled 3 no\n3 left\n"
other_events = rw (decimal_digit 0 (omega arith), decimal_digit 2 (omega arith), decimal_digit 3 (omega arith), decimal_digit 7 (omega arith)) refl
