use Rattle.std.proofs.Common.{◌≡◌, ◌≢◌, ℕ, ◌<◌, ◌++◌, ◌∷◌, List, length, get_or, Option, None, Some, MatchOption, Bor}
use Rattle.std.proofs.lemmas.Str.Pattern.{split_parts}
use Rattle.pyx_text.specs.Cuts.{IsCut, Lacks}
use Rattle.pyx_text.proofs.escape.cut.Goals as goal

-- the same by cases, with the two facts as a record
parts : (c : ℕ) (bs : List ℕ) (r : Option (Bor (List ℕ) × Bor (List ℕ)))
    → MatchOption r ((i : ℕ) → i < length bs → get_or bs i 0 ≢ c)
    (λ x. (bs ≡ x.0.now ++ (c ∷ x.1.now)) × ((i : ℕ) → i < length x.0.now → get_or x.0.now i 0 ≢ c))
    → MatchOption r (Lacks c bs) (λ x. IsCut c bs x.0.now x.1.now)
parts c bs None lacks = lacks
parts c bs (Some x) both = record { whole = both.0; first = both.1 }

pub returns : goal.returns
returns c = parts c.args.mark c.args.text.now c.split_once.result
    (split_parts c.args.mark c.args.text.now c.split_once.result c.split_once.ensures.cases c.requires)
