-- Predicates of nodes are those of the items that they are.
use Rattle.std.specs.Prelude.{◌≡◌, ℕ, ◌+◌, Bool, true, false, if◌then◌else◌, List, [], ◌∷◌, map, length, Some, Result, Ok, Err, refl}
use Rattle.std.proofs.Common.{sym, ap, ◌∙◌}
use Rattle.std.proofs.lemmas.List.{length-map}
use Rattle.xq_ast.specs.declared.code.Code.{Code}
use Rattle.xml_model.specs.Evaluation.{holds_at, kept, filtered}
use Rattle.xml_model.specs.Items.{NodeAt, Item, node, Made, Making, give, plain, then_with, ◌>>=◌}
use Rattle.xml_model.specs.Tuples.{Bindings, Means}
use Rattle.xq_eval.specs.NodesAmong.{nodes_among}

-- something else is made of an answer
abbrev pub mapped : {A B : Type 0} → (A → B) → Result (A × Made) Code → Result (B × Made) Code
mapped f (Ok both) = Ok (f both.0, both.1)
mapped f (Err code) = Err code

module _ {A B : Type 0} (f : A → B) (item : B → Item) where
  last_kept : (x : A) (b : Bool) (r : Result (List A × Made) Code)
      → then_with (mapped (map f) r) (λ rest. give (if b then f x ∷ rest else rest)) ≡ mapped (map f) (then_with r (λ rest. give (if b then x ∷ rest
      else rest)))
  last_kept x b (Err code) = refl
  last_kept x true (Ok q) = refl
  last_kept x false (Ok q) = refl

  one_kept : (x : A) (more : Making (List B)) (rest : Making (List A)) → ((m : Made) → more m ≡ mapped (map f) (rest m)) → (o : Result (Bool × Made) Code)
      → then_with o (λ b. more >>= (λ rest. give (if b then f x ∷ rest else rest))) ≡ mapped (map f) (then_with o (λ b. rest >>= (λ rest. give (if b
      then x ∷ rest else rest))))
  one_kept x more rest same (Err code) = refl
  one_kept x more rest same (Ok both) =
      ap (λ r. then_with r (λ rest. give (if both.0 then f x ∷ rest else rest))) (same both.1) ∙ last_kept x both.0 (rest both.1)

  kept_mapped : (e : Means) (env : Bindings) (size position : ℕ) (xs : List A) (m : Made)
      → kept item e env size position (map f xs) m ≡ mapped (map f) (kept (λ x. item (f x)) e env size position xs m)
  kept_mapped e env size position [] m = refl
  kept_mapped e env size position (x ∷ xs) m =
      one_kept x (kept item e env size (position + 1) (map f xs)) (kept (λ x. item (f x)) e env size (position + 1) xs)
      (kept_mapped e env size (position + 1) xs)
      (then_with (e env (Some (record { item = item (f x); position = position; size = size })) m) (λ value. plain (holds_at position value)))

  next_filtered : (more : List B → Making (List B)) (rest : List A → Making (List A)) → ((xs : List A) (m : Made) → more (map f xs) m ≡ mapped (map
      f) (rest xs m))
      → (r : Result (List A × Made) Code) → then_with (mapped (map f) r) more ≡ mapped (map f) (then_with r rest)
  next_filtered more rest same (Err code) = refl
  next_filtered more rest same (Ok q) = same q.0 q.1

  pub filtered_mapped : (es : List Means) (env : Bindings) (xs : List A) (m : Made)
      → filtered item es env (map f xs) m ≡ mapped (map f) (filtered (λ x. item (f x)) es env xs m)
  filtered_mapped [] env xs m = refl
  filtered_mapped (e ∷ es) env xs m =
      ap (λ n. then_with (kept item e env n 1 (map f xs) m) (filtered item es env)) (length-map xs f)
      ∙ (ap (λ r. then_with r (filtered item es env)) (kept_mapped e env (length xs) 1 xs m)
      ∙ next_filtered (filtered item es env) (filtered (λ x. item (f x)) es env) (filtered_mapped es env) (kept (λ x. item (f x)) e env (length xs) 1 xs m))

among_nodes : (ns : List NodeAt) → nodes_among (map node ns) ≡ ns
among_nodes [] = refl
among_nodes (n ∷ ns) = ap (λ more. n ∷ more) (among_nodes ns)

again : (r : Result (List NodeAt × Made) Code) → mapped nodes_among (mapped (map node) r) ≡ r
again (Ok q) = ap (λ ns. let r : Result (List NodeAt × Made) Code = Ok (ns, q.1) in r) (among_nodes q.0)
again (Err code) = refl

-- the nodes that pass are those among the items that pass
pub nodes_filtered : (es : List Means) (env : Bindings) (ns : List NodeAt) (m : Made)
    → filtered node es env ns m ≡ mapped nodes_among (filtered (λ item. item) es env (map node ns) m)
nodes_filtered es env ns m = sym (again (filtered node es env ns m)) ∙ ap (mapped nodes_among) (sym (filtered_mapped node (λ item. item) es env ns m))
