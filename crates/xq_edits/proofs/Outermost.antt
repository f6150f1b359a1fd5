-- Changes in document order of which none stands in an earlier one: the last one alone can hold a node after it.
use Rattle.std.proofs.Common.{◌≡◌, suc, ◌-◌, Bool, true, false, ◌||◌, List, [], ◌∷◌, ◌++◌, map, length, Some, Result, Ok, Err, refl, sym, ap, ◌∙◌}
use Rattle.std.proofs.Common.{IfOk, subst, append_assoc, append-nil, arith}
use Rattle.std.specs.Prelude.{if◌then◌else◌}
use Rattle.std.specs.List.{slice_get, list_any}
use Rattle.std.specs.declared.cmp.Ordering.TheVariants.{Less}
use Rattle.std.proofs.lemmas.Bool.{true≢false}
use Rattle.std.proofs.lemmas.List.{map-append}
use Rattle.std.proofs.lemmas.Option.{none-some, same_Some}
use Rattle.xq_ast.specs.declared.code.Code.{Code}
use Rattle.xq_ast.specs.declared.code.Code.TheVariants.{XPTY0004}
use Rattle.xml_model.specs.declared.nav.Id.{Id}
use Rattle.xml_model.specs.DocumentOrder.{node_cmp}
use Rattle.xml_model.specs.Edits.{Change, stands_in, outermost}
use Rattle.xml_model.specs.Nav.{Stored}
use Rattle.xq_nodes.specs.Joins.{IsBefore, Rises}
use Rattle.xq_edits.specs.declared.change.Change.{Change as Made}
use Rattle.xq_edits.specs.Inside.{is_inside}
use Rattle.xq_edits.specs.Seen.{change_seen}
use Rattle.xq_edits.specs.Turns.{AreOutermost, nodes_of}
use Rattle.xq_edits.proofs.Within.{inside_between}

-- ---- the last of a list

-- a list is its last element after others
pub split_last : {A : Type 0} (xs : List A) (x : A) → slice_get xs (length xs - 1) ≡ Some x → (init : List A) × (xs ≡ init ++ x ∷ [])
split_last [] x e = absurd (none-some x e)
split_last (w ∷ []) x e = ([], ap (λ w. w ∷ []) (same_Some w x e))
split_last (w ∷ v ∷ xs) x e =
    let n : suc (length (v ∷ xs)) - 1 ≡ suc (length (v ∷ xs) - 1) = omega arith in
    let more = split_last (v ∷ xs) x (sym (ap (slice_get (w ∷ v ∷ xs)) n) ∙ e) in
    (w ∷ more.0, ap (λ l. w ∷ l) more.1)

-- ---- booleans

or_false : (b : Bool) → (b || false) ≡ b
or_false true = refl
or_false false = refl

neither : (a b : Bool) → (a || b) ≡ false → (a ≡ false) × (b ≡ false)
neither true b e = absurd (true≢false e)
neither false b e = (refl, e)

-- ---- order

before_one : (x : Stored) (done : List Change) (last : Change) (ys : List Stored) → IsBefore node_cmp x (nodes_of (done ++ last ∷ []) ++ ys)
    → node_cmp x last.node ≡ Less
before_one x [] last ys b = b.0
before_one x (c ∷ done) last ys b = before_one x done last ys b.1

last_before : (done : List Change) (last : Change) (n : Stored) → Rises node_cmp (nodes_of (done ++ last ∷ []) ++ n ∷ []) → node_cmp last.node n ≡ Less
last_before [] last n r = r.0.0
last_before (c ∷ done) last n r = last_before done last n r.1

-- ---- none of the earlier ones holds the last one

free : (done : List Change) (n : Stored) → outermost done n ≡ Ok n → list_any (stands_in n) done ≡ false
free done n e = go (list_any (stands_in n) done) e
  where
    is_err : Result Stored Code → Bool
    is_err (Ok x) = false
    is_err (Err code) = true

    go : (b : Bool) → (if b then Err XPTY0004 else Ok n) ≡ Ok n → b ≡ false
    go true h = absurd (true≢false (ap is_err h))
    go false h = refl

apart_last : (before done : List Change) (last : Change) → AreOutermost before (done ++ last ∷ []) → list_any (stands_in last.node) (before ++ done) ≡ false
apart_last before [] last h = ap (list_any (stands_in last.node)) (append-nil before) ∙ free before last.node h.0
apart_last before (c ∷ done) last h =
    ap (list_any (stands_in last.node)) (sym (append_assoc before (c ∷ []) done)) ∙ apart_last (before ++ c ∷ []) done last h.1

-- so none of them holds what comes after it
held_by_last : (done : List Change) (last : Change) (n : Stored) → Rises node_cmp (nodes_of (done ++ last ∷ []) ++ n ∷ [])
    → list_any (stands_in last.node) done ≡ false
    → list_any (stands_in n) (done ++ last ∷ []) ≡ stands_in n last
held_by_last [] last n r h = or_false (stands_in n last)
held_by_last (c ∷ done) last n r h = go (stands_in n c) refl (held_by_last done last n r.1)
  where
    none : (stands_in last.node c ≡ false) × (list_any (stands_in last.node) done ≡ false)
    none = neither (stands_in last.node c) (list_any (stands_in last.node) done) h

    go : (b : Bool) → stands_in n c ≡ b → (list_any (stands_in last.node) done ≡ false → list_any (stands_in n) (done ++ last ∷ []) ≡ stands_in n last)
        → list_any (stands_in n) ((c ∷ done) ++ last ∷ []) ≡ stands_in n last
    go true e more =
        let inner = inside_between c.node last.node n (before_one c.node done last (n ∷ []) r.0) (last_before done last n r.1) e in
        absurd (true≢false (sym inner ∙ none.0))
    go false e more = ap (λ b. b || list_any (stands_in n) (done ++ last ∷ [])) e ∙ more none.1

-- a node after the changes stands in one of them where it stands in the last one
pub stands_in_last : (place : Id → Stored) (done : List Made) (last : Made) (n : Stored) → slice_get done (length done - 1) ≡ Some last
    → Rises node_cmp (nodes_of (map (change_seen place) done) ++ n ∷ []) → AreOutermost [] (map (change_seen place) done)
    → list_any (stands_in n) (map (change_seen place) done) ≡ is_inside n (place last.node)
stands_in_last place done last n e rising apart =
    let s = split_last done last e in
    let seen : map (change_seen place) done ≡ map (change_seen place) s.0 ++ change_seen place last ∷ [] = ap (map (change_seen place)) s.1 ∙ map-append
    (change_seen place) s.0 (last ∷ []) in
    ap (list_any (stands_in n)) seen
    ∙ held_by_last (map (change_seen place) s.0) (change_seen place last) n (subst (λ l. Rises node_cmp (nodes_of l ++ n ∷ [])) seen rising)
    (apart_last [] (map (change_seen place) s.0) (change_seen place last) (subst (AreOutermost []) seen apart))

-- an answer about the last one is one about all
pub as_any : {X : Type 0} (H T : Type 0) (r : Result Bool X) (one any : Bool) → (H → any ≡ one) → IfOk r (λ is. H → T → is ≡ one)
    → IfOk r (λ is. H → T → is ≡ any)
as_any H T (Ok is) one any same gives = λ h t. gives h t ∙ sym (same h)
as_any H T (Err x) one any same gives = tt
