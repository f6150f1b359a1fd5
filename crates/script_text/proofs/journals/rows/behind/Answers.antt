use Rattle.std.proofs.Common.{◌≡◌, ◌≢◌, ℕ, ◌+◌, ◌++◌, List, length, drop, Option, None, Some, MatchOption, Bor, ap, sym, ◌∙◌}
use Rattle.std.specs.Str.Pattern.{FindsTextPrefix}
use Rattle.script_text.proofs.journals.rows.behind.Goals as goal

-- the same by cases
parts : (word text : List ℕ) (r : Option (Bor (List ℕ)))
    → MatchOption r (FindsTextPrefix word text None)
    (λ x. (n : ℕ) × FindsTextPrefix word text (Some n) × (x.now ≡ drop n text) × (length x.now + n ≡ length text))
    → MatchOption r ((rest : List ℕ) → text ≢ word ++ rest) (λ x. text ≡ word ++ x.now)
parts word text None lacks = lacks
parts word text (Some x) is = is.1.1 ∙ ap (λ rest. word ++ rest) (sym is.2)

pub returns : goal.returns
returns c = parts c.args.word.now c.args.text.now c.strip_prefix.result c.strip_prefix.ensures.cases
