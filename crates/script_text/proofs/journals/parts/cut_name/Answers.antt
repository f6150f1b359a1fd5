use Rattle.std.proofs.Common.{◌≡◌, ◌≢◌, ℕ, ◌<◌, ◌++◌, ◌∷◌, List, length, get_or, Option, None, Some, MatchOption, Bor, false, lit<}
use Rattle.std.proofs.lemmas.Str.Pattern.{split_parts}
use Rattle.script_text.specs.JournalSteps.{IsCutName, has_quote}
use Rattle.script_text.proofs.Quoted.{no_quote_by_index}
use Rattle.script_text.proofs.journals.parts.cut_name.Goals as goal

-- the same by cases, in this crate's words
parts : (bs : List ℕ) (r : Option (Bor (List ℕ) × Bor (List ℕ)))
    → MatchOption r ((i : ℕ) → i < length bs → get_or bs i 0 ≢ 39)
    (λ x. (bs ≡ x.0.now ++ (39 ∷ x.1.now)) × ((i : ℕ) → i < length x.0.now → get_or x.0.now i 0 ≢ 39))
    → MatchOption r (has_quote bs ≡ false) (λ x. IsCutName bs x.0.now x.1.now)
parts bs None lacks = no_quote_by_index bs lacks
parts bs (Some x) both = record { whole = both.0; first = no_quote_by_index x.0.now both.1 }

pub returns : goal.returns
returns c = parts c.args.text.now c.split_once.result (split_parts 39 c.args.text.now c.split_once.result c.split_once.ensures.cases (lit< tt))
