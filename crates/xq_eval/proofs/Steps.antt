-- What one step after another gives, where each is known.
use Rattle.std.specs.Prelude.{◌≡◌, Result, Ok, Err}
use Rattle.std.proofs.Common.{ap}
use Rattle.xq_ast.specs.declared.code.Code.{Code}
use Rattle.xml_model.specs.Items.{Made, Making, then_with, plain}

-- a step that gives something is followed by the next
pub goes_on : {A B : Type 0} (f : A → Making B) {d : Result (A × Made) Code} {x : A} {m : Made} → d ≡ Ok (x, m) → then_with d f ≡ f x m
goes_on f e = ap (λ r. then_with r f) e

-- a step that ends is the end
pub stops : {A B : Type 0} (f : A → Making B) {d : Result (A × Made) Code} {code : Code} → d ≡ Err code → then_with d f ≡ Err code
stops f e = ap (λ r. then_with r f) e

-- the same of what makes no tree
pub looks_on : {A : Type 0} {d : Result A Code} {x : A} {m : Made} → d ≡ Ok x → plain d m ≡ Ok (x, m)
looks_on {m = m} e = ap (λ r. plain r m) e

pub looks_no_more : {A : Type 0} (m : Made) {d : Result A Code} {code : Code} → d ≡ Err code → plain d m ≡ Err code
looks_no_more m e = ap (λ r. plain r m) e

-- an answer of the same items
pub given : {A : Type 0} {x y : A} {m : Made} → x ≡ y → let r : Result (A × Made) Code = Ok (x, m) in r ≡ Ok (y, m)
given {A} {m = m} e = ap (λ z. let r : Result (A × Made) Code = Ok (z, m) in r) e
