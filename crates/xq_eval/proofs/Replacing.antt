-- Targets that are replaced one after another, over plain variables.
use Rattle.std.specs.Prelude.{◌≡◌, ℕ, Bool, true, false, if◌then◌else◌, List, [], ◌∷◌, ◌++◌, map, Result, Ok, Err, refl}
use Rattle.std.specs.List.{list_any}
use Rattle.std.proofs.Common.{◌<◌, ◌≤◌, ◌-◌, length, take, take_all, drop, get_or, arith, sym, ap, ◌∙◌, subst, append_assoc, append-nil}
use Rattle.std.proofs.lemmas.List.{map-append}
use Rattle.xq_ast.specs.declared.code.Code.{Code}
use Rattle.xq_ast.specs.declared.code.Code.TheVariants.{XPTY0004}
use Rattle.xml_model.specs.declared.edit.EditKind.{EditKind}
use Rattle.xml_model.specs.declared.edit.EditKind.TheVariants as edit
use Rattle.xml_model.specs.declared.nav.Id.{Id}
use Rattle.xml_model.specs.DocumentOrder.{node_cmp}
use Rattle.xml_model.specs.Edits as spec
use Rattle.xml_model.specs.Edits.{stands_in, outermost, unless_document, in_place_of, named_once, standing_at}
use Rattle.xml_model.specs.Items.{Documents, stored, node, Made, Making, then_with, plain, ◌>>?◌}
use Rattle.xml_model.specs.Nav.{Stored}
use Rattle.xml_model.specs.Tuples.{Bindings, Means}
use Rattle.xml_model.proofs.Alike.{Good}
use Rattle.xq_edits.specs.declared.change.Change.{Change}
use Rattle.xq_edits.specs.Seen.{change_seen}
use Rattle.xq_edits.specs.Turns.{AreOutermost, nodes_of}
use Rattle.xq_nodes.specs.Joins.{Rises}
use Rattle.xq_eval.proofs.Steps.{goes_on}

-- ---- the parts of what is done to a target

-- it may be replaced after these changes
abbrev pub may_be : Documents → List spec.Change → Stored → Result Stored Code
may_be docs done n = unless_document edit.Delete (standing_at docs n) >>? (λ _. outermost done n)

-- the variable, bound to it
abbrev pub bound_to : List ℕ → Stored → Bindings
bound_to name n = record { name = name; value = node (record { tree = stored n.name; place = n.place }) ∷ [] } ∷ []

-- what comes in its place, where this is the content
abbrev pub put_there : Documents → List spec.Change → List Stored → Stored → spec.Content → Result EditKind Code
put_there docs done more n c = in_place_of c (standing_at docs n) >>? (λ what. named_once docs done more (record { node = n; what = what }))

-- ---- a target that was replaced may be replaced

-- what holds of each value
always_good : {A : Type 0} (P : Type 0) → P → (r : Result (A × Made) Code) → Good (λ _. P) r
always_good P p (Ok both) = p
always_good P p (Err code) = tt

module _ (done : List spec.Change) (n : Stored) (f : Stored → Making EditKind) (made : Made) where
  apart_by : (b : Bool) → Good (λ _. (if b then Err XPTY0004 else Ok n) ≡ Ok n) (then_with (plain (if b then Err XPTY0004 else Ok n) made) f)
  apart_by true = tt
  apart_by false = always_good (Ok n ≡ Ok n) refl (f n made)

  apart_if : (r : Result EditKind Code) → Good (λ _. outermost done n ≡ Ok n) (then_with (plain (r >>? (λ _. outermost done n)) made) f)
  apart_if (Ok what) = apart_by (list_any (stands_in n) done)
  apart_if (Err code) = tt

-- where a target is replaced it stands in none that was
pub replaced_apart : (docs : Documents) (name : List ℕ) (by : Means) (done : List spec.Change) (n : Stored) (more : List Stored) (made after : Made)
    (what : EditKind)
    → spec.replaced docs name by done n more made ≡ Ok (what, after) → outermost done n ≡ Ok n
replaced_apart docs name by done n more made after what e =
    subst (Good (λ _. outermost done n ≡ Ok n)) e (apart_if done n _ made (unless_document edit.Delete (standing_at docs n)))

-- one more that stands in none before it
pub apart_more : (before done : List spec.Change) (c : spec.Change) → AreOutermost before done → outermost (before ++ done) c.node ≡ Ok c.node
    → AreOutermost before (done ++ c ∷ [])
apart_more before [] c h e = (subst (λ l. outermost l c.node ≡ Ok c.node) (append-nil before) e, tt)
apart_more before (d ∷ done) c h e =
    (h.0, apart_more (before ++ d ∷ []) done c h.1 (subst (λ l. outermost l c.node ≡ Ok c.node) (sym (append_assoc before (d ∷ []) done)) e))

-- ---- a list and its first

rest_is : {A : Type 0} (w : A) (ws : List A) → take (length (w ∷ ws) - 1) (drop 1 (w ∷ ws)) ≡ ws
rest_is w ws = let e : length (w ∷ ws) - 1 ≡ length ws = omega arith in ap (λ n. take n ws) e ∙ take_all (length ws) ws (omega arith)

-- a list that is not empty is its first and the others
pub first_and_others : {A : Type 0} (l : List A) (d : A) → 1 ≤ length l → l ≡ get_or l 0 d ∷ take (length l - 1) (drop 1 l)
first_and_others [] d n = absurd (omega arith)
first_and_others (w ∷ ws) d n = ap (λ vs. w ∷ vs) (sym (rest_is w ws))

-- a list that has not one element is empty
pub none_left : {A : Type 0} (l : List A) → length l < 1 → l ≡ []
none_left [] n = refl
none_left (w ∷ ws) n = absurd (omega arith)

-- ---- one target after another

module _ (place : Id → Stored) (docs : Documents) (name : List ℕ) (by : Means) (targets : List Id) (first : Made) where
  -- the changes, as the definition sees them
  abbrev pub seen : List Change → List spec.Change
  seen cs = map (change_seen place) cs

  -- what comes of the targets that are left, after these changes
  abbrev pub from : List Change → List Id → Made → Result (List spec.Change × Made) Code
  from done rest made = spec.each docs (spec.replaced docs name by) (seen done) (map place rest) made

  -- These targets are replaced and those are left.
  pub record AreReplaced (done : List Change) (rest : List Id) (made : Made) : Type 0 where
    pub goes_so : from done rest made ≡ from [] targets first
    pub in_turn : nodes_of (seen done) ++ map place rest ≡ map place targets
    pub apart : AreOutermost [] (seen done)

  -- none is replaced yet
  pub none_replaced : AreReplaced [] targets first
  none_replaced = record { goes_so = refl; in_turn = refl; apart = tt }

  -- those that are replaced and those that are left rise together
  pub replaced_rise : (done : List Change) (rest : List Id) (made : Made) → AreReplaced done rest made → Rises node_cmp (map place targets)
      → Rises node_cmp (nodes_of (seen done) ++ map place rest)
  replaced_rise done rest made r h = subst (Rises node_cmp) (sym r.in_turn) h

  module _ (done : List Change) (target : Id) (more : List Id) (made : Made) where
    one_more : (what : EditKind) → seen (done ++ record { node = target; what = what } ∷ []) ≡ seen done ++ record { node = place target; what = what } ∷ []
    one_more what = map-append (change_seen place) done (record { node = target; what = what } ∷ [])

    regrouped : (what : EditKind) → nodes_of (seen done ++ record { node = place target; what = what } ∷ []) ++ map place more
        ≡ nodes_of (seen done) ++ place target ∷ map place more
    regrouped what =
        ap (λ l. l ++ map place more) (map-append (λ (c : spec.Change). c.node) (seen done) (record { node = place target; what = what } ∷ []))
        ∙ append_assoc (nodes_of (seen done)) (place target ∷ []) (map place more)

    -- one more is replaced
    pub one_replaced : (what : EditKind) (after : Made) → AreReplaced done (target ∷ more) made
        → spec.replaced docs name by (seen done) (place target) (map place more) made ≡ Ok (what, after)
        → AreReplaced (done ++ record { node = target; what = what } ∷ []) more after
    one_replaced what after r e = record {
      goes_so = ap (λ l. spec.each docs (spec.replaced docs name by) l (map place more) after) (one_more what) ∙ (sym (goes_on _ e) ∙ r.goes_so);
      in_turn = ap (λ l. nodes_of l ++ map place more) (one_more what) ∙ (regrouped what ∙ r.in_turn);
      apart = subst (AreOutermost []) (sym (one_more what)) (apart_more [] (seen done) (record { node = place target; what = what }) r.apart
          (replaced_apart docs name by (seen done) (place target) (map place more) made after what e));
    }

    -- one ends it all
    pub one_ends : (code : Code) → AreReplaced done (target ∷ more) made
        → spec.replaced docs name by (seen done) (place target) (map place more) made ≡ Err code → from [] targets first ≡ Err code
    one_ends code r e = sym r.goes_so ∙ ap (λ o. then_with o (λ what. spec.each docs (spec.replaced docs name by)
        (seen done ++ record { node = place target; what = what } ∷ []) (map place more))) e

  -- ---- a turn of the loop, whose lists are known by equations

  module _ (done slice : List Change) (rest more : List Id) (target : Id) (made : Made) (same : slice ≡ done) (splits : rest ≡ target ∷ more)
      (r : AreReplaced done rest made) where
    here : AreReplaced slice (target ∷ more) made
    here = subst (λ l. AreReplaced slice l made) splits (subst (λ d. AreReplaced d rest made) (sym same) r)

    -- the nodes of the changes, the target and those after it rise
    pub turn_rises : Rises node_cmp (map place targets) → Rises node_cmp (nodes_of (seen slice) ++ place target ∷ map place more)
    turn_rises h = replaced_rise slice (target ∷ more) made here h

    -- none of the changes is of a node inside one before it
    pub turn_apart : AreOutermost [] (seen slice)
    turn_apart = here.apart

    -- the target is replaced
    pub turn_replaced : (new : List Change) (what : EditKind) (after : Made) → new ≡ done ++ record { node = target; what = what } ∷ []
        → spec.replaced docs name by (seen slice) (place target) (map place more) made ≡ Ok (what, after) → AreReplaced new more after
    turn_replaced new what after grown e =
        subst (λ d. AreReplaced d more after) (ap (λ l. l ++ record { node = target; what = what } ∷ []) same ∙ sym grown)
        (one_replaced slice target more made what after here e)

    -- it ends the call
    pub turn_ends : (code : Code) → spec.replaced docs name by (seen slice) (place target) (map place more) made ≡ Err code
        → from [] targets first ≡ Err code
    turn_ends code e = one_ends slice target more made code here e

  -- all are replaced
  pub all_replaced : (done : List Change) (rest : List Id) (made : Made) → AreReplaced done rest made → rest ≡ [] → from [] targets first ≡ Ok (seen done, made)
  all_replaced done rest made r e = sym r.goes_so ∙ ap (λ l. from done l made) e
