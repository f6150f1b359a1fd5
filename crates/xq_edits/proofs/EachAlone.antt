-- Targets that are each tested by themselves, one after another.
use Rattle.std.proofs.Common.{◌≡◌, ℕ, ◌+◌, ◌<◌, ◌≤◌, List, [], ◌∷◌, ◌++◌, map, length, get_or, drop, drop-cons, add-one, sym, ap, subst, ◌∙◌}
use Rattle.std.specs.Prelude.{Result, Ok, Err, IsErrAnd}
use Rattle.std.proofs.lemmas.List.{map-append}
use Rattle.xml_model.specs.declared.edit.EditKind.{EditKind}
use Rattle.xml_model.specs.declared.nav.Id.{Id}
use Rattle.xml_model.specs.Edits as edits
use Rattle.xml_model.specs.Edits.{each, standing_at}
use Rattle.xml_model.specs.Items.{Documents, Made, Making, plain, then_with}
use Rattle.xml_model.specs.Nav.{Stored}
use Rattle.xml_model.specs.Place.{Placed}
use Rattle.xq_ast.specs.declared.code.Code.{Code}
use Rattle.xq_edits.specs.declared.change.Change.{Change}
use Rattle.xq_edits.specs.Seen.{change_seen}
use Rattle.xq_nodes.proofs.Chain.{drop_none}
use Rattle.xq_nodes.specs.Answers.{Leaves, Looks}
use Rattle.xq_nodes.specs.declared.end.EvalEnd.{EvalEnd}
use Rattle.xq_nodes.specs.declared.end.EvalEnd.TheVariants as ends

-- an element of a list, and what follows it
opened : {A : Type 0} (xs : List A) (i : ℕ) (d : A) → i < length xs → drop i xs ≡ get_or xs i d ∷ drop (i + 1) xs
opened xs i d h = drop-cons xs i d h ∙ ap (λ n. get_or xs i d ∷ drop n xs) (sym (add-one i))

module _ (docs : Documents) (place : Id → Stored) (may : Placed → Result EditKind Code) where
  -- the changes after these ones, where these targets are left
  abbrev pub changes_on : List Change → List Id → Making (List edits.Change)
  changes_on done rest = each docs (λ done n more. plain (may (standing_at docs n))) (map (change_seen place) done) (map place rest)

  module _ (made : Made) (done : List Change) (xs : List Id) (i : ℕ) (d : Id) (h : i < length xs) where
    abbrev target : Id
    target = get_or xs i d

    -- what comes of the test of the next target
    tested : (r : Result EditKind Code) → may (standing_at docs (place target)) ≡ r → changes_on done (drop i xs) made
        ≡ then_with (plain r made) (λ what. each docs (λ done n more. plain (may (standing_at docs n)))
        (map (change_seen place) done ++ record { node = place target; what = what } ∷ []) (map place (drop (i + 1) xs)))
    tested r e =
        ap (λ rest. changes_on done rest made) (opened xs i d h)
        ∙ ap (λ r. then_with (plain r made) (λ what. each docs (λ done n more. plain (may (standing_at docs n)))
        (map (change_seen place) done ++ record { node = place target; what = what } ∷ []) (map place (drop (i + 1) xs)))) e

    -- A target that passes has its change.
    pub one_more : (new : List Change) (what : EditKind) (t : Result (List edits.Change × Made) Code) → may (standing_at docs (place target)) ≡ Ok what
        → new ≡ done ++ record { node = target; what = what } ∷ [] → changes_on done (drop i xs) made ≡ t → changes_on new (drop (i + 1) xs) made ≡ t
    one_more new what t e p so =
        let one : Change = record { node = target; what = what } in
        let seen = ap (map (change_seen place)) p ∙ map-append (change_seen place) done (one ∷ []) in
        ap (λ all. each docs (λ done n more. plain (may (standing_at docs n))) all (map place (drop (i + 1) xs)) made) seen
        ∙ (sym (tested (Ok what) e) ∙ so)

    ends_so : {F : Type 0} (honest : Type 0) (passes : F → Type 0) (end : EvalEnd F) (t : Result (List edits.Change × Made) Code)
        → Looks honest passes (λ (what : EditKind). what) (Err end) (may (standing_at docs (place target)))
        → (honest → changes_on done (drop i xs) made ≡ t) → Leaves honest passes (map (change_seen place)) (Err end) made t
    ends_so honest passes (ends.Code code) t looks so = λ b. sym (so b) ∙ tested (Err code) (looks b)
    ends_so honest passes (ends.Nav fault) t looks so = looks
    ends_so honest passes ends.NoMemory t looks so = tt

    -- One that does not ends all.
    pub ended : {F : Type 0} (honest : Type 0) (passes : F → Type 0) (r : Result (List Change) (EvalEnd F)) (end : EvalEnd F)
        (t : Result (List edits.Change × Made) Code) → IsErrAnd r (λ e. e ≡ end)
        → Looks honest passes (λ (what : EditKind). what) (Err end) (may (standing_at docs (place target)))
        → (honest → changes_on done (drop i xs) made ≡ t) → Leaves honest passes (map (change_seen place)) r made t
    ended honest passes (Ok new) end t is looks so = absurd is
    ended honest passes (Err e) end t is looks so =
        subst (λ e. Leaves honest passes (map (change_seen place)) (Err e) made t) (sym is) (ends_so honest passes end t looks so)

  -- In the end all targets have their changes.
  pub finished : (made : Made) (done : List Change) (xs : List Id) (i : ℕ) (t : Result (List edits.Change × Made) Code)
      → length xs ≤ i → changes_on done (drop i xs) made ≡ t → t ≡ Ok (map (change_seen place) done, made)
  finished made done xs i t h so = sym so ∙ ap (λ rest. changes_on done rest made) (drop_none xs i h)
