use Rattle.std.proofs.Common.{refl, ◌∙◌, ◌++◌, ◌∷◌}
use Rattle.std.specs.Prelude.{codes}
use Rattle.std.specs.Fmt.{decimal}
use Rattle.xq_ast.proofs.Cuts.{cut_once}
use Rattle.xq_ast.proofs.Numbers.{has_space-decimal}
use Rattle.xq_ast.proofs.Codes.{no_second, same_tail, damaged_parts}
use Rattle.xq_ast.proofs.code_reading.damaged_code.Goals as goal

pub returns-in_err-commit-clause-none : goal.returns-in_err-commit-clause-none
returns-in_err-commit-clause-none c = λ none commit ordinal page sc so sp e.
    let tail = decimal ordinal ++ 32 ∷ decimal page in
    no_second c.in_ok-behind_word.field-0.now (decimal commit) tail c.in_err-commit.ensures
    (same_tail c.args.text.now (codes "Damaged") (decimal commit ++ 32 ∷ tail) c.in_ok-behind_word.field-0.now c.in_ok-behind_word.ensures e)

pub returns-in_err-last-clause-none : goal.returns-in_err-last-clause-none
returns-in_err-last-clause-none c = λ none commit ordinal page sc so sp e.
    let parts = damaged_parts c.args.text.now c.in_ok-behind_word.field-0.now c.in_ok-commit.commit.now c.in_ok-commit.rest.now c.in_ok-behind_word.ensures
    c.in_ok-commit.ensures commit ordinal page sc e in
    c.in_err-last.ensures.none refl (decimal ordinal) page (has_space-decimal ordinal so) sp parts.1

pub returns-in_err-commit-2-clause-none : goal.returns-in_err-commit-2-clause-none
returns-in_err-commit-2-clause-none c = λ none commit ordinal page sc so sp e.
    let parts = damaged_parts c.args.text.now c.in_ok-behind_word.field-0.now c.in_ok-commit.commit.now c.in_ok-commit.rest.now c.in_ok-behind_word.ensures
    c.in_ok-commit.ensures commit ordinal page sc e in
    c.in_err-commit-2.ensures.none refl commit sc parts.0

pub returns-in_err-ordinal-clause-none : goal.returns-in_err-ordinal-clause-none
returns-in_err-ordinal-clause-none c = λ none commit ordinal page sc so sp e.
    let parts = damaged_parts c.args.text.now c.in_ok-behind_word.field-0.now c.in_ok-commit.commit.now c.in_ok-commit.rest.now c.in_ok-behind_word.ensures
    c.in_ok-commit.ensures commit ordinal page sc e in
    let last = c.in_ok-last.last in
    c.in_err-ordinal.ensures.none refl ordinal so
    (cut_once (decimal ordinal) last.name.now (decimal page) (decimal last.number) (has_space-decimal ordinal so) c.in_ok-last.ensures.apart (parts.1
    ∙ c.in_ok-last.ensures.found)).0
