-- Loops of the parser: what was read so far, before what the rest reads, is what all reads. One turn keeps that, a
-- turn that fails leaves nothing, and where no separator stands all was read.
use Rattle.std.proofs.Common.{◌≡◌, ℕ, ◌<◌, Bool, true, false, List, [], ◌∷◌, ◌++◌, length, Option, Some, None, refl, ap, sym, ◌∙◌, append_assoc, arith}
use Rattle.std.specs.Prelude.{codes}
use Rattle.std.proofs.lemmas.List.{append-nil}
use Rattle.xq_ast.specs.declared.token.Token.{Token}
use Rattle.xq_ast.specs.Tokens.{◌>>=◌}
use Rattle.xq_ast.specs.Grammar.{sum_part, product_part, step_behind}
use Rattle.xq_ast.specs.Readings.{Reader, items, there, there_at, put, comma, open_square, union_op, word, sum_op, product_op, slash, clause_word}
use Rattle.xq_ast.specs.Readings.{single, commas, pred, preds, step, steps, signed, unions, union, product_parts, product, sum_parts, comp, ands, and, ors}
use Rattle.xq_ast.specs.Readings.{bind, more_binds, let_bind, more_lets, sort_key, more_keys, clause, more_clauses}
use Rattle.xq_parse.specs.Reads.{Takes}
use Rattle.xq_parse.proofs.Complete as complete
use Rattle.xq_parse.proofs.Singles.{single_read}
use Rattle.xq_parse.proofs.Sound.{single_takes}
use Rattle.xq_parse.proofs.Turns.{Shrinking, items_turn, items_fail, items_stop}

-- what stands before what is read
abbrev pub behind : {X : Type 0} → List X → Option (List X × List Token) → Option (List X × List Token)
behind front o = o >>= (λ q. Some (front ++ q.0, q.1))

-- nothing before it
pub behind_nothing : {X : Type 0} (o : Option (List X × List Token)) → behind [] o ≡ o
behind_nothing None = refl
behind_nothing (Some q) = refl

-- what a loop over a row knows
pub record Loop {S A X : Type 0} (separator : Reader S) (item : S → Reader A) (part : S → A → List X) (row : Reader (List X)) : Type 0 where
  pub kept : (ts us vs : List Token) (s : S) (x : A) (front new : List X) (whole : Option (List X × List Token))
      → separator ts ≡ Some (s, us) → item s us ≡ Some (x, vs) → new ≡ front ++ part s x → behind front (row ts) ≡ whole → behind new (row vs) ≡ whole
  pub failed : (ts us : List Token) (s : S) (front : List X) (whole : Option (List X × List Token))
      → separator ts ≡ Some (s, us) → item s us ≡ None → behind front (row ts) ≡ whole → whole ≡ None
  pub done : (ts : List Token) (front : List X) (whole : Option (List X × List Token)) → separator ts ≡ None → behind front (row ts) ≡ whole → whole ≡ Some (front, ts)
  pub less : (ts us vs : List Token) (s : S) (x : A) → separator ts ≡ Some (s, us) → item s us ≡ Some (x, vs) → length vs < length ts

module _ {S A X : Type 0} (separator : Reader S) (item : S → Reader A) (add : S → A → List X → List X) (part : S → A → List X)
    (splits : (s : S) (x : A) (more : List X) → add s x more ≡ part s x ++ more) (shrinks : Shrinking separator item) where
  abbrev all : Reader (List X)
  all = items separator item add []

  moves : (front : List X) (s : S) (x : A) (o : Option (List X × List Token)) → behind front (o >>= (λ q. Some (add s x q.0, q.1))) ≡ behind (front ++ part s x) o
  moves front s x None = refl
  moves front s x (Some q) =
      ap (λ l. let r : Option (List X × List Token) = Some (l, q.1) in r) (ap (λ l. front ++ l) (splits s x q.0) ∙ sym (append_assoc front (part s x) q.0))

  -- so it is for items
  pub loop_of : Loop separator item part all
  loop_of = record {
    kept = λ ts us vs s x front new whole is it grown so_far.
        ap (λ l. behind l (all vs)) grown
        ∙ (sym (moves front s x (all vs)) ∙ (ap (behind front) (sym (items_turn separator item add [] shrinks ts (s, us) (x, vs) is it)) ∙ so_far));
    failed = λ ts us s front whole is it so_far. sym so_far ∙ ap (behind front) (items_fail separator item add [] shrinks ts (s, us) is it);
    done = λ ts front whole is so_far.
        sym so_far ∙ (ap (behind front) (items_stop separator item add [] shrinks ts is) ∙ ap (λ l. let r : Option (List X × List Token) = Some (l, ts) in r) (append-nil front));
    less = λ ts us vs s x is it. omega (arith, shrinks.shorter ts (s, us) is, shrinks.shrinks s us (x, vs) it);
  }

abbrev one : {S X : Type 0} → S → X → List X
one s x = x ∷ []

-- ---- what was looked for

-- it was taken
pub taken : (b : Bool) (before left : List Token) (o look : Option (List Token)) → Takes b before left o → b ≡ true → look ≡ o → there_at look ≡ Some (tt, left)
taken true before left o look t e is = ap there_at (is ∙ t)
taken false before left o look t e is = cc

-- it is not there
pub not_taken : (b : Bool) (before left : List Token) (o look : Option (List Token)) → Takes b before left o → b ≡ false → look ≡ o → (there_at look ≡ None) × (left ≡ before)
not_taken false before left o look t e is = (ap there_at (is ∙ t.0), t.1)
not_taken true before left o look t e is = cc

-- ---- the rows that repeat

-- (, Single)*
pub commas_loop : (n : ℕ) → Loop (there comma) (λ s. single n) one (commas (single n))
unfolding commas
commas_loop n =
    loop_of (there comma) (λ s. single n) put one (λ s x more. refl)
    (complete.commas_shrink n (single n) (single_takes n) (single_read n))

-- Predicate*
pub preds_loop : (n : ℕ) → Loop (there open_square) (λ s. pred (single n)) one (preds (single n))
unfolding preds
preds_loop n =
    loop_of (there open_square) (λ s. pred (single n)) put one (λ s x more. refl)
    (complete.preds_shrink n (single n) (single_takes n) (single_read n))

-- ((/ | //) Step)*
pub steps_loop : (n : ℕ) → Loop slash (λ deep. step (single n)) (λ deep s. step_behind deep s ∷ []) (steps (single n))
unfolding steps
steps_loop n =
    loop_of slash (λ deep. step (single n)) (λ deep s more. step_behind deep s ∷ more) (λ deep s. step_behind deep s ∷ []) (λ s x more. refl)
    (complete.steps_shrink n (single n) (single_takes n) (single_read n))

-- ((| or the word union) Signed)*
pub unions_loop : (n : ℕ) → Loop (there union_op) (λ s. signed (single n)) one (unions (single n))
unfolding unions
unions_loop n =
    loop_of (there union_op) (λ s. signed (single n)) put one (λ s x more. refl)
    (complete.unions_shrink n (single n) (single_takes n) (single_read n))

-- ((* | idiv | mod) Union)*
pub product_parts_loop : (n : ℕ) → Loop product_op (λ op. union (single n)) (λ op e. product_part op e ∷ []) (product_parts (single n))
unfolding product_parts
product_parts_loop n =
    loop_of product_op (λ op. union (single n)) (λ op e more. product_part op e ∷ more) (λ op e. product_part op e ∷ []) (λ s x more. refl)
    (complete.product_parts_shrink n (single n) (single_takes n) (single_read n))

-- ((+ | -) Product)*
pub sum_parts_loop : (n : ℕ) → Loop sum_op (λ minus. product (single n)) (λ minus e. sum_part minus e ∷ []) (sum_parts (single n))
unfolding sum_parts
sum_parts_loop n =
    loop_of sum_op (λ minus. product (single n)) (λ minus e more. sum_part minus e ∷ more) (λ minus e. sum_part minus e ∷ []) (λ s x more. refl)
    (complete.sum_parts_shrink n (single n) (single_takes n) (single_read n))

-- (and Comparison)*
pub ands_loop : (n : ℕ) → Loop (there (word (codes "and"))) (λ s. comp (single n)) one (ands (single n))
unfolding ands
ands_loop n =
    loop_of (there (word (codes "and"))) (λ s. comp (single n)) put one (λ s x more. refl)
    (complete.ands_shrink n (single n) (single_takes n) (single_read n))

-- (or And)*
pub ors_loop : (n : ℕ) → Loop (there (word (codes "or"))) (λ s. and (single n)) one (ors (single n))
unfolding ors
ors_loop n =
    loop_of (there (word (codes "or"))) (λ s. and (single n)) put one (λ s x more. refl)
    (complete.ors_shrink n (single n) (single_takes n) (single_read n))

-- (, Bind)*
pub more_binds_loop : (n : ℕ) → Loop (there comma) (λ s. bind (single n)) one (more_binds (single n))
unfolding more_binds
more_binds_loop n =
    loop_of (there comma) (λ s. bind (single n)) put one (λ s x more. refl)
    (complete.binds_shrink n (single n) (single_takes n) (single_read n))

-- (, $Name := Single)*
pub more_lets_loop : (n : ℕ) → Loop (there comma) (λ s. let_bind (single n)) one (more_lets (single n))
unfolding more_lets
more_lets_loop n =
    loop_of (there comma) (λ s. let_bind (single n)) put one (λ s x more. refl)
    (complete.lets_shrink n (single n) (single_takes n) (single_read n))

-- (, Key)*
pub more_keys_loop : (n : ℕ) → Loop (there comma) (λ s. sort_key (single n)) one (more_keys (single n))
unfolding more_keys
more_keys_loop n =
    loop_of (there comma) (λ s. sort_key (single n)) put one (λ s x more. refl)
    (complete.keys_shrink n (single n) (single_takes n) (single_read n))

-- (For | Let)*
pub more_clauses_loop : (n : ℕ) → Loop clause_word (clause (single n)) (λ w bs. bs) (more_clauses (single n))
unfolding more_clauses
more_clauses_loop n =
    loop_of clause_word (clause (single n)) (λ w bs more. bs ++ more) (λ w bs. bs) (λ s x more. refl)
    (complete.clauses_shrink n (single n) (single_takes n) (single_read n))
