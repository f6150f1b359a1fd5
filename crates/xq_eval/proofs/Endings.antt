-- What an answer of a part says of the whole, over plain variables.
use Rattle.std.specs.Prelude.{◌≡◌, List, Result, Ok, Err, IfOk, IsErrAnd}
use Rattle.std.proofs.Common.{sym, ap, ◌∙◌, subst}
use Rattle.xq_ast.specs.declared.code.Code.{Code}
use Rattle.xml_model.specs.Items.{Made, Making, then_with, plain}
use Rattle.xq_edits.specs.Finds.{Found, Finds}
use Rattle.xq_values.specs.Gives.{Gives}
use Rattle.xq_values.specs.declared.end.ValueEnd.{ValueEnd}
use Rattle.xq_values.specs.declared.end.ValueEnd.TheVariants as value_ends
use Rattle.xq_nodes.specs.declared.end.EvalEnd.{EvalEnd}
use Rattle.xq_nodes.specs.declared.end.EvalEnd.TheVariants as ends
use Rattle.xq_nodes.specs.Answers.{Looks, Leaves, IsFault}
use Rattle.xq_nodes.specs.Ends.{end_of_value}
use Rattle.xml_model.specs.Pyx.{Line}
use Rattle.xml_model.specs.Statement.{Answer}
use Rattle.xq_functions.specs.Says.{Says}

-- the same answer to an equal meaning
pub same : {A B F : Type 0} (h : Type 0) (p : F → Type 0) (seen : A → B) (r : Result A (EvalEnd F)) (after : Made) (d e : Result (B × Made) Code)
    → (h → d ≡ e) → Leaves h p seen r after d → Leaves h p seen r after e
same h p seen (Ok x) after d e q g = λ w. sym (q w) ∙ g w
same h p seen (Err (ends.Code c)) after d e q g = λ w. sym (q w) ∙ g w
same h p seen (Err (ends.Nav f)) after d e q g = g
same h p seen (Err ends.NoMemory) after d e q g = tt

-- the first part ends, and so does all
pub ended : {A A2 B B2 F : Type 0} (h : Type 0) (p : F → Type 0) (seen : A → B) (seen2 : A2 → B2) (e : EvalEnd F) (m after : Made)
    (d : Result (B × Made) Code) (f : B → Making B2) → Leaves h p seen (Err e) m d → Leaves h p seen2 (Err e) after (then_with d f)
ended h p seen seen2 (ends.Code c) m after d f g = λ w. ap (λ r. then_with r f) (g w)
ended h p seen seen2 (ends.Nav x) m after d f g = g
ended h p seen seen2 ends.NoMemory m after d f g = tt

-- the first part gives something, and what follows it answers
pub followed : {A2 B B2 F : Type 0} (h : Type 0) (p : F → Type 0) (seen2 : A2 → B2) (r : Result A2 (EvalEnd F)) (after : Made)
    (d : Result (B × Made) Code) (x : B) (m : Made) (f : B → Making B2) → (h → d ≡ Ok (x, m)) → Leaves h p seen2 r after (f x m) → Leaves h p seen2 r
    after (then_with d f)
followed h p seen2 r after d x m f q g = same h p seen2 r after (f x m) (then_with d f) (λ w. sym (ap (λ r. then_with r f) (q w))) g

-- what only looked at trees has them behind it
pub looked : {A B F : Type 0} (h : Type 0) (p : F → Type 0) (seen : A → B) (r : Result A (EvalEnd F)) (m : Made) (d : Result B Code)
    → Looks h p seen r d → Leaves h p seen r m (plain d m)
looked h p seen (Ok x) m d g = λ w. ap (λ r. plain r m) (g w)
looked h p seen (Err (ends.Code c)) m d g = λ w. ap (λ r. plain r m) (g w)
looked h p seen (Err (ends.Nav f)) m d g = g
looked h p seen (Err ends.NoMemory) m d g = tt

-- a part ends, and so does the whole
pub all_ends : {A A2 B B2 F : Type 0} (h : Type 0) (p : F → Type 0) (seen : A → B) (seen2 : A2 → B2) (e : EvalEnd F) (m after : Made)
    (d : Result (B × Made) Code) (whole : Result (B2 × Made) Code) → (h → (code : Code) → d ≡ Err code → whole ≡ Err code)
    → Leaves h p seen (Err e) m d → Leaves h p seen2 (Err e) after whole
all_ends h p seen seen2 (ends.Code c) m after d whole q g = λ w. q w c (g w)
all_ends h p seen seen2 (ends.Nav x) m after d whole q g = g
all_ends h p seen seen2 ends.NoMemory m after d whole q g = tt

-- the same of what only looked at trees
pub all_ends_looking : {A A2 B B2 F : Type 0} (h : Type 0) (p : F → Type 0) (seen : A → B) (seen2 : A2 → B2) (e : EvalEnd F) (after : Made)
    (d : Result B Code) (whole : Result (B2 × Made) Code) → (h → (code : Code) → d ≡ Err code → whole ≡ Err code)
    → Looks h p seen (Err e) d → Leaves h p seen2 (Err e) after whole
all_ends_looking h p seen seen2 (ends.Code c) after d whole q g = λ w. q w c (g w)
all_ends_looking h p seen seen2 (ends.Nav x) after d whole q g = g
all_ends_looking h p seen seen2 ends.NoMemory after d whole q g = tt

-- of what looked at no tree
pub all_ends_plainly : {A A2 B B2 F : Type 0} (h : Type 0) (p : F → Type 0) (seen : A → B) (seen2 : A2 → B2) (e : ValueEnd) (after : Made)
    (d : Result B Code) (whole : Result (B2 × Made) Code) → (h → (code : Code) → d ≡ Err code → whole ≡ Err code)
    → Gives seen (Err e) d → Leaves h p seen2 (Err (end_of_value e)) after whole
all_ends_plainly h p seen seen2 (value_ends.Code c) after d whole q g = λ w. q w c g
all_ends_plainly h p seen seen2 value_ends.NoMemory after d whole q g = tt

-- and of a fault
pub all_ends_so : {A2 B2 F : Type 0} (h : Type 0) (p : F → Type 0) (seen2 : A2 → B2) (e : EvalEnd F) (after : Made) (whole : Result (B2 × Made) Code)
    → IsFault p e → Leaves h p seen2 (Err e) after whole
all_ends_so h p seen2 (ends.Code c) after whole g = absurd g
all_ends_so h p seen2 (ends.Nav x) after whole g = g
all_ends_so h p seen2 ends.NoMemory after whole g = tt

-- ---- the same where the end of the part was made the end of the whole

-- as it was
pub exits : {A A2 B B2 F : Type 0} (h : Type 0) (p : F → Type 0) (seen : A → B) (seen2 : A2 → B2) (r : Result A2 (EvalEnd F)) (e : EvalEnd F) (m after : Made)
    (d : Result (B × Made) Code) (whole : Result (B2 × Made) Code) → IsErrAnd r (λ x. x ≡ e) → (h → (code : Code) → d ≡ Err code → whole ≡ Err code)
    → Leaves h p seen (Err e) m d → Leaves h p seen2 r after whole
exits h p seen seen2 (Ok x) e m after d whole made q g = absurd made
exits h p seen seen2 (Err x) e m after d whole made q g = subst (λ y. Leaves h p seen2 (Err y) after whole) (sym made) (all_ends h p seen seen2 e m
    after d whole q g)

pub exits_looking : {A A2 B B2 F : Type 0} (h : Type 0) (p : F → Type 0) (seen : A → B) (seen2 : A2 → B2) (r : Result A2 (EvalEnd F)) (e : EvalEnd F)
    (after : Made)
    (d : Result B Code) (whole : Result (B2 × Made) Code) → IsErrAnd r (λ x. x ≡ e) → (h → (code : Code) → d ≡ Err code → whole ≡ Err code)
    → Looks h p seen (Err e) d → Leaves h p seen2 r after whole
exits_looking h p seen seen2 (Ok x) e after d whole made q g = absurd made
exits_looking h p seen seen2 (Err x) e after d whole made q g = subst (λ y. Leaves h p seen2 (Err y) after whole) (sym made) (all_ends_looking h p
    seen seen2 e after d whole q g)

pub exits_plainly : {A A2 B B2 F : Type 0} (h : Type 0) (p : F → Type 0) (seen : A → B) (seen2 : A2 → B2) (r : Result A2 (EvalEnd F)) (e : ValueEnd)
    (after : Made)
    (d : Result B Code) (whole : Result (B2 × Made) Code) → IsErrAnd r (λ x. x ≡ end_of_value e) → (h → (code : Code) → d ≡ Err code → whole ≡ Err code)
    → Gives seen (Err e) d → Leaves h p seen2 r after whole
exits_plainly h p seen seen2 (Ok x) e after d whole made q g = absurd made
exits_plainly h p seen seen2 (Err x) e after d whole made q g = subst (λ y. Leaves h p seen2 (Err y) after whole) (sym made) (all_ends_plainly h p
    seen seen2 e after d whole q g)

-- of a code
pub exits_code : {A2 B2 F : Type 0} (h : Type 0) (p : F → Type 0) (seen2 : A2 → B2) (r : Result A2 (EvalEnd F)) (code : Code) (after : Made)
    (whole : Result (B2 × Made) Code) → IsErrAnd r (λ x. x ≡ ends.Code code) → (h → whole ≡ Err code) → Leaves h p seen2 r after whole
exits_code h p seen2 (Ok x) code after whole made q = absurd made
exits_code h p seen2 (Err x) code after whole made q = subst (λ y. Leaves h p seen2 (Err y) after whole) (sym made) q

-- for want of memory
pub exits_no_memory : {A2 B2 F : Type 0} (h : Type 0) (p : F → Type 0) (seen2 : A2 → B2) (r : Result A2 (EvalEnd F)) (after : Made)
    (whole : Result (B2 × Made) Code) → IsErrAnd r (λ x. x ≡ ends.NoMemory) → Leaves h p seen2 r after whole
exits_no_memory h p seen2 (Ok x) after whole made = absurd made
exits_no_memory h p seen2 (Err x) after whole made = subst (λ y. Leaves h p seen2 (Err y) after whole) (sym made) tt

-- by a fault
pub exits_so : {A2 B2 F : Type 0} (h : Type 0) (p : F → Type 0) (seen2 : A2 → B2) (r : Result A2 (EvalEnd F)) (e : EvalEnd F) (after : Made)
    (whole : Result (B2 × Made) Code) → IsErrAnd r (λ x. x ≡ e) → IsFault p e → Leaves h p seen2 r after whole
exits_so h p seen2 (Ok x) e after whole made g = absurd made
exits_so h p seen2 (Err x) e after whole made g = subst (λ y. Leaves h p seen2 (Err y) after whole) (sym made) (all_ends_so h p seen2 e after whole g)

-- what ended gives nothing
pub ends_anyhow : {A E : Type 0} (r : Result A E) (P : A → Type 0) (Q : E → Type 0) → IsErrAnd r Q → IfOk r P
ends_anyhow (Ok x) P Q made = absurd made
ends_anyhow (Err x) P Q made = tt

-- ---- whole queries

whole_ends : {A A2 B B2 F : Type 0} (h : Type 0) (p : F → Type 0) (seen : A → B) (seen2 : A2 → B2) (e : EvalEnd F) (m : Made)
    (d : Result (B × Made) Code) (whole : Result B2 Code) → (h → (code : Code) → d ≡ Err code → whole ≡ Err code)
    → Leaves h p seen (Err e) m d → Looks h p seen2 (Err e) whole
whole_ends h p seen seen2 (ends.Code c) m d whole q g = λ w. q w c (g w)
whole_ends h p seen seen2 (ends.Nav x) m d whole q g = g
whole_ends h p seen seen2 ends.NoMemory m d whole q g = tt

-- a part ends, and so does the whole, whose trees are part of its answer
pub exits_whole : {A A2 B B2 F : Type 0} (h : Type 0) (p : F → Type 0) (seen : A → B) (seen2 : A2 → B2) (r : Result A2 (EvalEnd F)) (e : EvalEnd F) (m : Made)
    (d : Result (B × Made) Code) (whole : Result B2 Code) → IsErrAnd r (λ x. x ≡ e) → (h → (code : Code) → d ≡ Err code → whole ≡ Err code)
    → Leaves h p seen (Err e) m d → Looks h p seen2 r whole
exits_whole h p seen seen2 (Ok x) e m d whole made q g = absurd made
exits_whole h p seen seen2 (Err x) e m d whole made q g = subst (λ y. Looks h p seen2 (Err y) whole) (sym made) (whole_ends h p seen seen2 e m d whole q g)

-- the same lines, of an equal answer
pub says_same : {F : Type 0} (h : Type 0) (p : F → Type 0) (r : Result (List Line) (EvalEnd F)) (a b : Answer) → (h → a ≡ b) → Says h p r a → Says h p r b
says_same h p (Ok x) a b q g = λ w. sym (q w) ∙ g w
says_same h p (Err (ends.Code c)) a b q g = λ w. sym (q w) ∙ g w
says_same h p (Err (ends.Nav f)) a b q g = g
says_same h p (Err ends.NoMemory) a b q g = tt

-- ---- answers that stand for what is defined

-- an answer that stands for an equal one
pub finds_same : {A B F : Type 0} (h : Type 0) (p : F → Type 0) (stands : A → B → Type 0) (r : Result A (EvalEnd F)) (d e : Result B Code) → (h → d ≡ e)
    → Finds h p stands r d → Finds h p stands r e
finds_same h p stands (Ok x) d e q g = λ w. subst (Found stands x) (q w) (g w)
finds_same h p stands (Err (ends.Code c)) d e q g = λ w. sym (q w) ∙ g w
finds_same h p stands (Err (ends.Nav f)) d e q g = g
finds_same h p stands (Err ends.NoMemory) d e q g = tt

finding_ends : {A A2 B B2 F : Type 0} (h : Type 0) (p : F → Type 0) (seen : A → B) (stands : A2 → B2 → Type 0) (e : EvalEnd F) (m : Made)
    (d : Result (B × Made) Code) (whole : Result B2 Code) → (h → (code : Code) → d ≡ Err code → whole ≡ Err code)
    → Leaves h p seen (Err e) m d → Finds h p stands (Err e) whole
finding_ends h p seen stands (ends.Code c) m d whole q g = λ w. q w c (g w)
finding_ends h p seen stands (ends.Nav x) m d whole q g = g
finding_ends h p seen stands ends.NoMemory m d whole q g = tt

-- a part ends, and so does the whole, which stands for what is defined
pub exits_finding : {A A2 B B2 F : Type 0} (h : Type 0) (p : F → Type 0) (seen : A → B) (stands : A2 → B2 → Type 0) (r : Result A2 (EvalEnd F))
    (e : EvalEnd F) (m : Made) (d : Result (B × Made) Code) (whole : Result B2 Code) → IsErrAnd r (λ x. x ≡ e)
    → (h → (code : Code) → d ≡ Err code → whole ≡ Err code) → Leaves h p seen (Err e) m d → Finds h p stands r whole
exits_finding h p seen stands (Ok x) e m d whole made q g = absurd made
exits_finding h p seen stands (Err x) e m d whole made q g =
    subst (λ y. Finds h p stands (Err y) whole) (sym made) (finding_ends h p seen stands e m d whole q g)

-- the whole ends for want of memory
pub exits_finding_no_memory : {A2 B2 F : Type 0} (h : Type 0) (p : F → Type 0) (stands : A2 → B2 → Type 0) (r : Result A2 (EvalEnd F))
    (whole : Result B2 Code) → IsErrAnd r (λ x. x ≡ ends.NoMemory) → Finds h p stands r whole
exits_finding_no_memory h p stands (Ok x) whole made = absurd made
exits_finding_no_memory h p stands (Err x) whole made = subst (λ y. Finds h p stands (Err y) whole) (sym made) tt
