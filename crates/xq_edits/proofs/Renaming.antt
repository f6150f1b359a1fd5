-- The turns of a renaming, one target after another.
use Rattle.std.proofs.Common.{◌≡◌, ℕ, ◌-◌, ◌<◌, ◌≤◌, List, [], ◌∷◌, ◌++◌, map, length, get_or, take, drop, Result, Ok, Err, refl, sym, ap, ◌∙◌}
use Rattle.std.proofs.Common.{subst, arith}
use Rattle.std.specs.Prelude.{IsErrAnd}
use Rattle.std.proofs.lemmas.List.{take_all}
use Rattle.xq_ast.specs.declared.code.Code.{Code}
use Rattle.xml_model.specs.declared.edit.EditKind.{EditKind}
use Rattle.xml_model.specs.declared.nav.Id.{Id}
use Rattle.xml_model.specs.Edits as spec
use Rattle.xml_model.specs.Items.{Documents, Made, Making, plain, then_with, ◌>>?◌}
use Rattle.xml_model.specs.Nav.{Stored}
use Rattle.xq_nodes.specs.Answers.{Leaves, Looks}
use Rattle.xq_nodes.specs.declared.end.EvalEnd.{EvalEnd}
use Rattle.xq_nodes.specs.declared.end.EvalEnd.TheVariants as ends

-- what is done to one target
abbrev pub renamed_one : Documents → List ℕ → List spec.Change → Stored → List Stored → Result EditKind Code
renamed_one docs name done n more = spec.renamed name (spec.standing_at docs n) >>? (λ what. spec.named_once docs done more (record { node = n; what = what }))

-- what is done to targets, one after another
abbrev pub renamed_each : Documents → List ℕ → List spec.Change → List Stored → Making (List spec.Change)
renamed_each docs name = spec.each docs (λ done n more. plain (renamed_one docs name done n more))

-- a target that has a code ends all
pub one_refused : (docs : Documents) (name : List ℕ) (done : List spec.Change) (n : Stored) (more : List Stored) (code : Code) (made : Made)
    → renamed_one docs name done n more ≡ Err code
    → renamed_each docs name done (n ∷ more) made ≡ Err code
one_refused docs name done n more code made e =
    ap (λ r. then_with (plain r made) (λ what. renamed_each docs name (done ++ record { node = n; what = what } ∷ []) more)) e

-- how a turn that gives nothing ends all
pub ends_so : {A X : Type 0} (honest : Type 0) (passes : X → Type 0) (seen : A → List spec.Change) (e : EvalEnd X) (made : Made) (docs : Documents)
    (name : List ℕ) (done : List spec.Change) (n : Stored) (more left : List Stored) (whole : Result (List spec.Change × Made) Code) → left ≡ n ∷ more
    → Looks {A = EditKind} honest passes (λ what. what) (Err e) (renamed_one docs name done n more)
    → (honest → renamed_each docs name done left made ≡ whole)
    → Leaves {A = A} honest passes seen (Err e) made whole
ends_so honest passes seen (ends.Code code) made docs name done n more left whole is looks same = λ h.
    sym (same h) ∙ (ap (λ l. renamed_each docs name done l made) is ∙ one_refused docs name done n more code made (looks h))
ends_so honest passes seen (ends.Nav fault) made docs name done n more left whole is looks same = looks
ends_so honest passes seen ends.NoMemory made docs name done n more left whole is looks same = tt

-- where no target is left, all are done
pub all_renamed : (place : Id → Stored) (docs : Documents) (name : List ℕ) (done : List spec.Change) (left : List Id) (made : Made)
    (whole : Result (List spec.Change × Made) Code) → length left < 1 → renamed_each docs name done (map place left) made ≡ whole → whole ≡ Ok (done, made)
all_renamed place docs name done [] made whole none h = sym h
all_renamed place docs name done (m ∷ left) made whole none h = absurd (omega arith)

-- the same, where the next target is the first of those left
pub exits_so : {A X : Type 0} (honest : Type 0) (passes : X → Type 0) (seen : A → List spec.Change) (r : Result A (EvalEnd X)) (e : EvalEnd X) (made : Made)
    (place : Id → Stored) (docs : Documents) (name : List ℕ) (done : List spec.Change) (left : List Id) (whole : Result (List spec.Change × Made) Code)
    → IsErrAnd r (λ x. x ≡ e) → 1 ≤ length left
    → Looks {A = EditKind} honest passes (λ what. what) (Err e)
    (renamed_one docs name done (place (get_or left 0 (record { doc = 0; node = 0 }))) (map place (take (length left - 1) (drop 1 left))))
    → (honest → renamed_each docs name done (map place left) made ≡ whole)
    → Leaves {A = A} honest passes seen r made whole
exits_so honest passes seen (Ok x) e made place docs name done left whole is some looks same = absurd is
exits_so honest passes seen (Err x) e made place docs name done [] whole is some looks same = absurd (omega arith)
exits_so honest passes seen (Err x) e made place docs name done (m ∷ left) whole is some looks same =
    subst (λ y. Leaves honest passes seen (Err y) made whole) (sym is)
    (ends_so honest passes seen e made docs name done (place m) (map place left) (place m ∷ map place left) whole refl
    (subst (λ l. Looks {A = EditKind} honest passes (λ what. what) (Err e) (renamed_one docs name done (place m) (map place l)))
    (take_all (length (m ∷ left) - 1) left (omega arith)) looks) same)
