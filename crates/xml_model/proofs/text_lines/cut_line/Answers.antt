use Rattle.std.proofs.Common.{◌≡◌, ◌≢◌, ℕ, ◌<◌, ◌++◌, ◌∷◌, List, length, get_or, Option, None, Some, MatchOption, Bor, lit<}
use Rattle.std.proofs.lemmas.Str.Pattern.{split_parts}
use Rattle.xml_model.specs.Pyx.{IsPlain, IsCutLine}
use Rattle.xml_model.proofs.TextLines.{plain_by_index}
use Rattle.xml_model.proofs.text_lines.cut_line.Goals as goal

-- the same by cases, in this crate's words
parts : (bs : List ℕ) (r : Option (Bor (List ℕ) × Bor (List ℕ)))
    → MatchOption r ((i : ℕ) → i < length bs → get_or bs i 0 ≢ 10)
    (λ x. (bs ≡ x.0.now ++ (10 ∷ x.1.now)) × ((i : ℕ) → i < length x.0.now → get_or x.0.now i 0 ≢ 10))
    → MatchOption r (IsPlain bs) (λ x. IsCutLine bs x.0.now x.1.now)
parts bs None lacks = plain_by_index bs lacks
parts bs (Some x) both = record { whole = both.0; plain = plain_by_index x.0.now both.1 }

pub returns : goal.returns
returns c = parts c.args.text.now c.split_once.result (split_parts 10 c.args.text.now c.split_once.result c.split_once.ensures.cases (lit< tt))
