-- Lists of events: beginnings, and the events of one session.
use Rattle.std.proofs.Common.{◌≡◌, ℕ, ◌+◌, ◌-◌, ◌≤◌, Bool, true, false, eqb, eq-eqb, ne_eqb, List, [], ◌∷◌, ◌++◌, refl, sym, ap, ◌∙◌, subst, append_assoc, drop, length, length-append, arith}
use Rattle.std.proofs.lemmas.List.{append-nil}
use Rattle.std.specs.Prelude.{if◌then◌else◌}
use Rattle.hist_lock.specs.Story.{Begins, events_of, AllOf}

module _ {E : Type 0} where
  -- a list begins with itself
  pub begins_same : (log : List E) → Begins log log
  begins_same log = ([], sym (append-nil log))

  -- a list still begins with what it began with after events are appended to it
  pub begins_more : (log seen new : List E) → Begins log seen → Begins (log ++ new) seen
  begins_more log seen new b = (b.0 ++ new, ap (λ (l : List E). l ++ new) b.1 ∙ append_assoc seen b.0 new)

  -- a list that goes on from one that begins with what was seen
  pub begins_on : (log mid seen : List E) → Begins log mid → Begins mid seen → Begins log seen
  begins_on log mid seen b c = subst (λ (l : List E). Begins l seen) (sym b.1) (begins_more mid seen b.0 c)

  -- the events of a session in two lists in turn are those in the first, and then those in the second
  pub events_of-append : (session : E → ℕ) (by : ℕ) (xs ys : List E) → events_of session by (xs ++ ys) ≡ events_of session by xs ++ events_of session by ys
  events_of-append session by [] ys = refl
  events_of-append session by (x ∷ xs) ys = step (eqb (session x) by) (events_of-append session by xs ys)
    where
      step : (b : Bool) → events_of session by (xs ++ ys) ≡ events_of session by xs ++ events_of session by ys
          → (if b then x ∷ events_of session by (xs ++ ys) else events_of session by (xs ++ ys))
          ≡ (if b then x ∷ events_of session by xs else events_of session by xs) ++ events_of session by ys
      step true ih = ap (λ (l : List E). x ∷ l) ih
      step false ih = ih

  -- events of one session are no other's
  pub events_of_others : (session : E → ℕ) (by id : ℕ) (xs : List E) → AllOf session id xs → (by ≡ id → ⊥) → events_of session by xs ≡ []
  events_of_others session by id [] all n = refl
  events_of_others session by id (x ∷ xs) all n = rw (ne_eqb (session x) by (λ e. n (sym e ∙ all.0))) (events_of_others session by id xs all.1 n)

  -- in a list whose events are all of one session, that session's events are the whole list
  pub events_of_own : (session : E → ℕ) (id : ℕ) (xs : List E) → AllOf session id xs → events_of session id xs ≡ xs
  events_of_own session id [] all = refl
  events_of_own session id (x ∷ xs) all = rw (eq-eqb (session x) id all.0) (ap (λ (l : List E). x ∷ l) (events_of_own session id xs all.1))

  -- another session's events stay
  pub events_of_same : (session : E → ℕ) (by id : ℕ) (log new : List E) → AllOf session id new → (by ≡ id → ⊥)
      → events_of session by (log ++ new) ≡ events_of session by log
  events_of_same session by id log new all n = events_of-append session by log new
      ∙ (ap (λ (l : List E). events_of session by log ++ l) (events_of_others session by id new all n) ∙ append-nil (events_of session by log))

  -- what follows a beginning is one list
  pub same_rest : (xs ys zs : List E) → xs ++ ys ≡ xs ++ zs → ys ≡ zs
  same_rest [] ys zs e = e
  same_rest (x ∷ xs) ys zs e = same_rest xs ys zs (ap (drop 1) e)

  -- how many events are new
  pub more_events : (log seen new : List E) (found total : ℕ) → log ≡ seen ++ new → found ≡ length seen → total ≡ length log
      → (found ≤ total) × (total - found ≡ length new)
  more_events log seen new found total is at all = let e : length log ≡ length seen + length new = ap length is ∙ length-append seen new in
      (omega arith, omega arith)
