-- How often a repetition may turn does not tell, as long as it is as often as there are tokens: each turn leaves fewer.
use Rattle.std.proofs.Common.{◌≡◌, ℕ, zero, suc, ◌+◌, ◌<◌, ◌≤◌, List, ◌++◌, length, Option, Some, None, refl, ap, sym, ◌∙◌, arith, append_assoc, length-append}
use Rattle.xq_ast.specs.declared.token.Token.{Token}
use Rattle.xq_ast.specs.Tokens.{◌>>=◌}
use Rattle.xq_ast.specs.Readings.{Reader, repeated_at, repeated, items, followed, paired_at, paired}
use Rattle.xq_parse.proofs.Taken.{Front, Takes}

-- a front is no longer than the whole
front_length : {A : Type 0} (P : List Token → A → Type 0) (ts : List Token) (r : A × List Token) (f : Front P ts r) → length ts ≡ length f.used + length r.1
front_length P ts r f = ap length f.whole ∙ length-append f.used r.1

-- a separator leaves fewer tokens, and an item no more
pub record Shrinking {S A : Type 0} (separator : Reader S) (item : S → Reader A) : Type 0 where
  pub shorter : (ts : List Token) (s : S × List Token) → separator ts ≡ Some s → length s.1 < length ts
  pub shrinks : (s : S) (ts : List Token) (r : A × List Token) → item s ts ≡ Some r → length r.1 ≤ length ts

-- so it is where a separator has tokens
pub shrinking : {S A : Type 0} {P : S → List Token → A → Type 0} {IsSeparator : List Token → S → Type 0} (separator : Reader S) (item : S → Reader A) → Takes IsSeparator separator
    → ((us : List Token) (s : S) → IsSeparator us s → 0 < length us) → ((s : S) → Takes (P s) (item s)) → Shrinking separator item
shrinking {P} {IsSeparator} separator item separates long takes = record {
  shorter = λ ts s e. let f = separates.takes ts s e in omega (arith, front_length IsSeparator ts s f, long f.used s.0 f.holds);
  shrinks = λ s ts r e. let f = (takes s).takes ts r e in omega (arith, front_length (P s) ts r f);
}

bind_same : {A B : Type 0} (o : Option A) (f g : A → Option B) → ((x : A) → o ≡ Some x → f x ≡ g x) → (o >>= f) ≡ (o >>= g)
bind_same None f g same = refl
bind_same (Some x) f g same = same x refl

module _ {S A B : Type 0} (separator : Reader S) (item : S → Reader A) (add : S → A → B → B) (none : B) (less : Shrinking separator item) where
  abbrev turns : ℕ → Reader B
  turns = repeated separator item add none

  abbrev rest_of : S → A → Option (B × List Token) → Option (B × List Token)
  rest_of s x o = o >>= (λ q. Some (add s x q.0, q.1))

  at_none : (ts : List Token) (k : ℕ) → length ts ≤ 0 → (o : Option (S × List Token)) → separator ts ≡ o → repeated_at separator item add none o ts (turns k) ≡ Some (none, ts)
  at_none ts k h None is = refl
  at_none ts k h (Some s) is = absurd (omega (arith, less.shorter ts s is))

  at_some : (k j : ℕ) (ts : List Token) → length ts ≤ suc k → length ts ≤ suc j → ((us : List Token) → length us ≤ k → length us ≤ j → turns k us ≡ turns j us)
      → (o : Option (S × List Token)) → separator ts ≡ o → repeated_at separator item add none o ts (turns k) ≡ repeated_at separator item add none o ts (turns j)
  at_some k j ts h i same None is = refl
  at_some k j ts h i same (Some s) is =
      bind_same (item s.0 s.1) _ _ (λ r e. ap (rest_of s.0 r.0) (same r.1 (omega (arith, less.shorter ts s is, less.shrinks s.0 s.1 r e)) (omega (arith, less.shorter ts s is, less.shrinks s.0 s.1 r e))))

  -- any number of turns that is enough gives the same
  pub enough : (k j : ℕ) (ts : List Token) → length ts ≤ k → length ts ≤ j → turns k ts ≡ turns j ts
  enough zero zero ts h i = refl
  enough zero (suc j) ts h i = sym (at_none ts j h (separator ts) refl)
  enough (suc k) zero ts h i = at_none ts k i (separator ts) refl
  enough (suc k) (suc j) ts h i = at_some k j ts h i (λ us p q. enough k j us p q) (separator ts) refl

  turn_at : (k : ℕ) (ts : List Token) (s : S × List Token) (r : A × List Token) → length ts ≤ k → separator ts ≡ Some s → item s.0 s.1 ≡ Some r
      → turns k ts ≡ rest_of s.0 r.0 (items separator item add none r.1)
  turn_at zero ts s r h is it = absurd (omega (arith, less.shorter ts s is))
  turn_at (suc k) ts s r h is it =
      let small : length r.1 ≤ k = omega (arith, less.shorter ts s is, less.shrinks s.0 s.1 r it) in
      ap (λ o. repeated_at separator item add none o ts (turns k)) is
      ∙ (ap (λ o. o >>= (λ r. rest_of s.0 r.0 (turns k r.1))) it ∙ ap (rest_of s.0 r.0) (enough k (length r.1) r.1 small (omega arith)))

  -- one turn, then the others
  pub items_turn : (ts : List Token) (s : S × List Token) (r : A × List Token) → separator ts ≡ Some s → item s.0 s.1 ≡ Some r
      → items separator item add none ts ≡ rest_of s.0 r.0 (items separator item add none r.1)
  items_turn ts s r is it = turn_at (length ts) ts s r (omega arith) is it

  fail_at : (k : ℕ) (ts : List Token) (s : S × List Token) → length ts ≤ k → separator ts ≡ Some s → item s.0 s.1 ≡ None → turns k ts ≡ None
  fail_at zero ts s h is it = absurd (omega (arith, less.shorter ts s is))
  fail_at (suc k) ts s h is it = ap (λ o. repeated_at separator item add none o ts (turns k)) is ∙ ap (λ o. o >>= (λ r. rest_of s.0 r.0 (turns k r.1))) it

  -- where an item is wanted and not there, nothing is read
  pub items_fail : (ts : List Token) (s : S × List Token) → separator ts ≡ Some s → item s.0 s.1 ≡ None → items separator item add none ts ≡ None
  items_fail ts s is it = fail_at (length ts) ts s (omega arith) is it

  stop_at : (k : ℕ) (ts : List Token) → separator ts ≡ None → turns k ts ≡ Some (none, ts)
  stop_at zero ts is = refl
  stop_at (suc k) ts is = ap (λ o. repeated_at separator item add none o ts (turns k)) is

  -- no separator, no more items
  pub items_stop : (ts : List Token) → separator ts ≡ None → items separator item add none ts ≡ Some (none, ts)
  items_stop ts is = stop_at (length ts) ts is

  -- one turn over a front, then the others
  pub items_next : (ts us vs left : List Token) (s : S) (x : A) (xs : B) → separator ts ≡ Some (s, (us ++ vs) ++ left)
      → item s (us ++ (vs ++ left)) ≡ Some (x, vs ++ left) → items separator item add none (vs ++ left) ≡ Some (xs, left) → items separator item add none ts ≡ Some (add s x xs, left)
  items_next ts us vs left s x xs is it more =
      items_turn ts (s, (us ++ vs) ++ left) (x, vs ++ left) is (ap (item s) (append_assoc us vs left) ∙ it) ∙ ap (rest_of s x) more

-- a first part, then what follows it
pub followed_at : {A B C : Type 0} (make : A → B → C) (first : Reader A) (rest : Reader B) (ts us left : List Token) (x : A) (y : B)
    → first ts ≡ Some (x, us) → rest us ≡ Some (y, left) → followed make first rest ts ≡ Some (make x y, left)
followed_at {C} make first rest ts us left x y p q =
    ap (λ o. o >>= (λ f. rest f.1 >>= (λ r. let z : Option (C × List Token) = Some (make f.0 r.0, r.1) in z))) p
    ∙ ap (λ o. o >>= (λ r. let z : Option (C × List Token) = Some (make x r.0, r.1) in z)) q

-- the same over two fronts
pub followed_over : {A B C : Type 0} (make : A → B → C) (first : Reader A) (rest : Reader B) (us vs left : List Token) (x : A) (y : B)
    → first (us ++ (vs ++ left)) ≡ Some (x, vs ++ left) → rest (vs ++ left) ≡ Some (y, left) → followed make first rest ((us ++ vs) ++ left) ≡ Some (make x y, left)
followed_over make first rest us vs left x y p q = followed_at make first rest ((us ++ vs) ++ left) (vs ++ left) left x y (ap first (append_assoc us vs left) ∙ p) q

-- no operator
pub paired_alone : {S A : Type 0} (op : Reader S) (make : A → S → A → A) (part : Reader A) (ts left : List Token) (x : A)
    → part ts ≡ Some (x, left) → op left ≡ None → paired op make part ts ≡ Some (x, left)
paired_alone op make part ts left x p none = ap (λ o. o >>= (λ l. paired_at make part l (op l.1))) p ∙ ap (λ o. paired_at make part (x, left) o) none

-- an operator
pub paired_both : {S A : Type 0} (op : Reader S) (make : A → S → A → A) (part : Reader A) (ts us vs left : List Token) (x y : A) (s : S)
    → part ts ≡ Some (x, us) → op us ≡ Some (s, vs) → part vs ≡ Some (y, left) → paired op make part ts ≡ Some (make x s y, left)
paired_both {A} op make part ts us vs left x y s p some q =
    ap (λ o. o >>= (λ l. paired_at make part l (op l.1))) p
    ∙ (ap (λ o. paired_at make part (x, us) o) some ∙ ap (λ o. o >>= (λ r. let z : Option (A × List Token) = Some (make x s r.0, r.1) in z)) q)

-- a reading, and what is read after it
pub then_is : {A B : Type 0} (o : Option A) (f : A → Option B) (x : A) (y : Option B) → o ≡ Some x → f x ≡ y → (o >>= f) ≡ y
then_is o f x y p q = ap (λ o. o >>= f) p ∙ q
