use Rattle.std.proofs.Common.{◌≡◌, ◌≢◌, ℕ, ◌<◌, ◌++◌, ◌∷◌, List, length, get_or, Option, None, Some, MatchOption, Bor, false, arith}
use Rattle.std.proofs.lemmas.Str.Pattern.{split_parts}
use Rattle.xq_ast.specs.CodeWords.{IsCut, has_space}
use Rattle.xq_ast.proofs.Cuts.{no_space_by_index}
use Rattle.xq_ast.proofs.code_reading.cut.Goals as goal

-- the same by cases, with the two facts as a record
parts : (bs : List ℕ) (r : Option (Bor (List ℕ) × Bor (List ℕ)))
    → MatchOption r ((i : ℕ) → i < length bs → get_or bs i 0 ≢ 32)
    (λ x. (bs ≡ x.0.now ++ (32 ∷ x.1.now)) × ((i : ℕ) → i < length x.0.now → get_or x.0.now i 0 ≢ 32))
    → MatchOption r (has_space bs ≡ false) (λ x. IsCut bs x.0.now x.1.now)
parts bs None lacks = no_space_by_index bs lacks
parts bs (Some x) both = record { whole = both.0; first = no_space_by_index x.0.now both.1 }

pub returns : goal.returns
returns c = parts c.args.text.now c.split_once.result (split_parts 32 c.args.text.now c.split_once.result c.split_once.ensures.cases (omega arith))
