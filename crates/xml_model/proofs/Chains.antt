-- Where the chain of a node goes on: its first row is the next after its own, and what follows a row in the chain
-- comes behind all rows of it, if there is more before the end of the node's rows.
use Rattle.std.proofs.Common.{◌≡◌, ℕ, zero, suc, ◌+◌, ◌<◌, ◌≤◌, Bool, true, false, cond, List, [], ◌∷◌, length, take, Option, Some, None, refl, sym, ap, subst, ◌∙◌, arith}
use Rattle.std.specs.Prelude.{nat_lt}
use Rattle.std.specs.List.{slice_get}
use Rattle.std.specs.Option.{option_map, option_or}
use Rattle.std.proofs.lemmas.Bool.{ltb-true, ltb-false}
use Rattle.std.proofs.lemmas.Option.{slice_get_within}
use Rattle.xml_model.specs.declared.place.PlaceStep.{PlaceStep}
use Rattle.xml_model.specs.declared.place.PlaceStep.TheVariants as steps
use Rattle.xml_model.specs.declared.node.Node.{Node}
use Rattle.xml_model.specs.Nav.{attr_step, kid_step, first_step, next_step}
use Rattle.xml_model.specs.Place.{Placed, a_node, an_attribute, attrs_of, kids_of, step_from}
use Rattle.xml_model.specs.Trees.{count_node, count_of}
use Rattle.xml_model.proofs.Numbered.{offset, take_more, take_last}
use Rattle.xml_model.proofs.Placing.{root, size}
use Rattle.xml_model.proofs.Standing.{mapped}

-- a number below the length has an element
pub within_some : {A : Type 0} (xs : List A) (i : ℕ) → i < length xs → (x : A) × (slice_get xs i ≡ Some x)
within_some [] i h = absurd (omega arith)
within_some (x ∷ xs) zero h = (x, refl)
within_some (x ∷ xs) (suc i) h = within_some xs i (omega arith)

-- a step of the chain that is there leads somewhere, to rows so far behind
pub record Goes (from : Placed) (s : PlaceStep) (n : ℕ) : Type 0 where
  pub to : Placed
  pub leads : step_from from s ≡ Some to
  pub behind : offset from s ≡ n

attr_goes : (from : Placed) (i : ℕ) → i < length (attrs_of from) → Goes from (steps.Attr i) (1 + i)
attr_goes from i h =
    let it = within_some (attrs_of from) i h in
    record { to = an_attribute it.0; leads = ap (option_map an_attribute) it.1; behind = refl }

kid_goes : (from : Placed) (i : ℕ) → i < length (kids_of from) → Goes from (steps.Kid i) (1 + (length (attrs_of from) + count_of (take i (kids_of from))))
kid_goes from i h =
    let it = within_some (kids_of from) i h in
    record { to = a_node it.0; leads = ap (option_map a_node) it.1; behind = refl }

-- what comes next in a chain, if there is more of it: rows that begin at n, or the end of the node's rows
abbrev pub GoesOn : Placed → Option PlaceStep → ℕ → Type 0
GoesOn from None n = size from ≡ n
GoesOn from (Some s) n = Goes from s n

placed_at : (from : Placed) (s : PlaceStep) (m n : ℕ) → m ≡ n → Goes from s m → Goes from s n
placed_at from s m n e g = record { to = g.to; leads = g.leads; behind = g.behind ∙ e }

-- no children are counted as none
none_counted : (kids : List Node) → length kids ≤ 0 → count_of kids ≡ 0
none_counted [] h = refl
none_counted (k ∷ kids) h = absurd (omega arith)

kid_goes_on : (from : Placed) (i n : ℕ) → n ≡ 1 + (length (attrs_of from) + count_of (take i (kids_of from)))
    → (length (kids_of from) ≤ i → count_of (take i (kids_of from)) ≡ count_of (kids_of from)) → GoesOn from (kid_step from i) n
kid_goes_on from i n e all = go (nat_lt i (length (kids_of from))) refl
  where
    go : (b : Bool) → nat_lt i (length (kids_of from)) ≡ b → GoesOn from (cond b (Some (steps.Kid i)) None) n
    go true q = placed_at from (steps.Kid i) _ n (sym e) (kid_goes from i (ltb-true i (length (kids_of from)) q))
    go false q = let done = all (ltb-false i (length (kids_of from)) q) in omega (arith, (root from).sized, e, done)

attr_goes_on : (from : Placed) (i : ℕ) → i ≤ length (attrs_of from) → GoesOn from (option_or (attr_step from i) (kid_step from 0)) (1 + i)
attr_goes_on from i h = go (nat_lt i (length (attrs_of from))) refl
  where
    go : (b : Bool) → nat_lt i (length (attrs_of from)) ≡ b → GoesOn from (option_or (cond b (Some (steps.Attr i)) None) (kid_step from 0)) (1 + i)
    go true q = attr_goes from i (ltb-true i (length (attrs_of from)) q)
    go false q =
        let past = ltb-false i (length (attrs_of from)) q in
        kid_goes_on from 0 (1 + i) (omega arith) (λ none. sym (none_counted (kids_of from) none))

-- the first of a node
pub first_goes_on : (from : Placed) → GoesOn from (first_step from) 1
first_goes_on from = attr_goes_on from 0 (omega arith)

-- the next behind what a step leads to
pub next_goes_on : (from w : Placed) (s : PlaceStep) → step_from from s ≡ Some w → GoesOn from (next_step from s) (offset from s + size w)
next_goes_on from w (steps.Attr i) e =
    let m = mapped an_attribute (slice_get (attrs_of from) i) w e in
    let one : size w ≡ 1 = ap size (sym m.is) in
    let same : 1 + (i + 1) ≡ 1 + i + size w = omega arith in
    subst (GoesOn from (next_step from (steps.Attr i))) same (attr_goes_on from (i + 1) (omega (arith, slice_get_within (attrs_of from) i m.it m.was)))
next_goes_on from w (steps.Kid i) e =
    let m = mapped a_node (slice_get (kids_of from) i) w e in
    let one : size w ≡ count_node m.it = ap size (sym m.is) in
    kid_goes_on from (i + 1) _ (omega (arith, take_more i (kids_of from) m.it m.was))
    (λ past. omega (arith, take_more i (kids_of from) m.it m.was, take_last i (kids_of from) m.it m.was past))
