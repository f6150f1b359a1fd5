-- Each expression has a depth: `fits` holds of it at the number of expressions in it.
use Rattle.std.specs.Prelude.{◌≡◌, ℕ, zero, suc, ◌+◌, ◌≤◌, Bool, true, false, ◌&&◌, List, [], ◌∷◌, map, Option, None, Some, refl}
use Rattle.std.specs.List.{list_all}
use Rattle.std.proofs.Common.{ap, subst, ◌∙◌, arith}
use Rattle.xq_ast.specs.declared.tree.Bind.{Bind, out-Bind, map-Bind}
use Rattle.xq_ast.specs.declared.tree.Expr.{Expr, out-Expr, map-Expr}
use Rattle.xq_ast.specs.declared.tree.Start.{Start, out-Start, map-Start}
use Rattle.xq_ast.specs.declared.tree.ProductPart.{ProductPart, outs-ProductPart', map-ProductPart}
use Rattle.xq_ast.specs.declared.tree.SortKey.{SortKey, outs-SortKey', map-SortKey}
use Rattle.xq_ast.specs.declared.tree.Step.{Step, outs-Step', map-Step}
use Rattle.xq_ast.specs.declared.tree.SumPart.{SumPart, outs-SumPart', map-SumPart}
use Rattle.xq_ast.specs.declared.tree.Bind.TheOpen.{Bind-F, Expr-F, Start-F, ProductPart-F, SortKey-F, Step-F, SumPart-F}
use Rattle.xq_ast.specs.declared.tree.Bind.TheFolds.{fold-Bind, fold-Expr, fold-Start, fold-ProductPart, fold-SortKey, fold-Step, fold-SumPart, fold_out-Bind, fold_out-Expr, fold_out-Start, fold_out-ProductPart, fold_out-SortKey, fold_out-Step, fold_out-SumPart}
use Rattle.xml_model.specs.Trees.{total}
use Rattle.xml_model.proofs.Bounded.{bind_passes, step_passes, start_passes, passes, fits}

-- ---- how many expressions there are

abbrev bind_size : Bind-F ℕ ℕ ℕ ℕ ℕ ℕ ℕ → ℕ
bind_size (Bind-F.For name at source) = source
bind_size (Bind-F.Let name value) = value

abbrev start_size : Start-F ℕ ℕ ℕ ℕ ℕ ℕ ℕ → ℕ
start_size (Start-F.Value inner) = inner
start_size (Start-F.First step) = step

abbrev product_size : ProductPart-F ℕ ℕ ℕ ℕ ℕ ℕ ℕ → ℕ
product_size p = p.expr

abbrev key_size : SortKey-F ℕ ℕ ℕ ℕ ℕ ℕ ℕ → ℕ
key_size k = k.expr

abbrev step_size : Step-F ℕ ℕ ℕ ℕ ℕ ℕ ℕ → ℕ
step_size s = total s.preds

abbrev sum_size : SumPart-F ℕ ℕ ℕ ℕ ℕ ℕ ℕ → ℕ
sum_size p = p.expr

abbrev option_size : Option ℕ → ℕ
option_size None = 0
option_size (Some n) = n

-- in the parts of a layer
abbrev parts_size : Expr-F ℕ ℕ ℕ ℕ ℕ ℕ ℕ → ℕ
parts_size (Expr-F.Text value) = 0
parts_size (Expr-F.Int value) = 0
parts_size (Expr-F.Var name) = 0
parts_size Expr-F.Context = 0
parts_size (Expr-F.Seq parts) = total parts
parts_size (Expr-F.Flwor binds filter keys result) = total binds + (option_size filter + (total keys + result))
parts_size (Expr-F.If test good other) = test + (good + other)
parts_size (Expr-F.Or parts) = total parts
parts_size (Expr-F.And parts) = total parts
parts_size (Expr-F.Compare left op right) = left + right
parts_size (Expr-F.Range low high) = low + high
parts_size (Expr-F.Sum first rest) = first + total rest
parts_size (Expr-F.Product first rest) = first + total rest
parts_size (Expr-F.Union parts) = total parts
parts_size (Expr-F.Signed signs inner) = inner
parts_size (Expr-F.Path start rest) = start + total rest
parts_size (Expr-F.Filter inner preds) = inner + total preds
parts_size (Expr-F.Fun name args) = total args
parts_size (Expr-F.Doc name) = 0
parts_size (Expr-F.Element name content) = option_size content
parts_size (Expr-F.Attribute name content) = option_size content
parts_size (Expr-F.TextNode content) = option_size content

abbrev expr_size : Expr-F ℕ ℕ ℕ ℕ ℕ ℕ ℕ → ℕ
expr_size l = suc (parts_size l)

-- in a binding, an expression and so on
abbrev size_bind : Bind → ℕ
size_bind = fold-Bind ℕ ℕ ℕ ℕ ℕ ℕ ℕ bind_size expr_size start_size product_size key_size step_size sum_size

-- of an expression
abbrev pub size : Expr → ℕ
size = fold-Expr ℕ ℕ ℕ ℕ ℕ ℕ ℕ bind_size expr_size start_size product_size key_size step_size sum_size

abbrev size_start : Start → ℕ
size_start = fold-Start ℕ ℕ ℕ ℕ ℕ ℕ ℕ bind_size expr_size start_size product_size key_size step_size sum_size

abbrev size_product : ProductPart → ℕ
size_product = fold-ProductPart ℕ ℕ ℕ ℕ ℕ ℕ ℕ bind_size expr_size start_size product_size key_size step_size sum_size

abbrev size_key : SortKey → ℕ
size_key = fold-SortKey ℕ ℕ ℕ ℕ ℕ ℕ ℕ bind_size expr_size start_size product_size key_size step_size sum_size

abbrev size_step : Step → ℕ
size_step = fold-Step ℕ ℕ ℕ ℕ ℕ ℕ ℕ bind_size expr_size start_size product_size key_size step_size sum_size

abbrev size_sum : SumPart → ℕ
size_sum = fold-SumPart ℕ ℕ ℕ ℕ ℕ ℕ ℕ bind_size expr_size start_size product_size key_size step_size sum_size

-- ---- numbers and truth values

left_part : (a b n : ℕ) → a + b ≤ n → a ≤ n
left_part a b n h = omega (arith, h)

right_part : (a b n : ℕ) → a + b ≤ n → b ≤ n
right_part a b n h = omega (arith, h)

one_less : (a n : ℕ) → suc a ≤ suc n → a ≤ n
one_less a n h = omega (arith, h)

none_less : (a : ℕ) (b : Bool) → suc a ≤ 0 → b ≡ true
none_less a b h = absurd (omega (arith, h))

both : (a b : Bool) → a ≡ true → b ≡ true → (a && b) ≡ true
both true b g h = h
both false b g h = g

-- ---- what is no larger passes

module _ (n : ℕ) (test : Expr → Bool) (holds : (e : Expr) → size e ≤ n → test e ≡ true) where
  each_passes : {X : Type 0} (f : X → ℕ) (t : X → Bool) → ((x : X) → f x ≤ n → t x ≡ true) → (xs : List X) → total (map f xs) ≤ n → list_all t xs ≡ true
  each_passes f t gives [] h = refl
  each_passes f t gives (x ∷ xs) h = both (t x) (list_all t xs) (gives x (left_part (f x) (total (map f xs)) n h)) (each_passes f t gives xs (right_part (f x) (total (map f xs)) n h))

  all_pass : (es : List Expr) → total (map size es) ≤ n → list_all test es ≡ true
  all_pass = each_passes size test holds

  bind_layer_passes : (l : Bind-F Bind Expr Start ProductPart SortKey Step SumPart)
      → bind_size (map-Bind _ _ _ _ _ _ _ _ _ _ _ _ _ _ size_bind size size_start size_product size_key size_step size_sum l) ≤ n → bind_passes test l ≡ true
  bind_layer_passes (Bind-F.For name at source) h = holds source h
  bind_layer_passes (Bind-F.Let name value) h = holds value h

  binding_passes : (b : Bind) → size_bind b ≤ n → bind_passes test (out-Bind b) ≡ true
  binding_passes b h = bind_layer_passes (out-Bind b)
      (subst (λ m. m ≤ n) (fold_out-Bind ℕ ℕ ℕ ℕ ℕ ℕ ℕ bind_size expr_size start_size product_size key_size step_size sum_size b) h)

  one_step_passes : (s : Step) → size_step s ≤ n → step_passes test s ≡ true
  one_step_passes s h = all_pass s.preds (subst (λ m. m ≤ n)
      (fold_out-Step ℕ ℕ ℕ ℕ ℕ ℕ ℕ bind_size expr_size start_size product_size key_size step_size sum_size s
      ∙ ap (λ l. step_size (map-Step _ _ _ _ _ _ _ _ _ _ _ _ _ _ size_bind size size_start size_product size_key size_step size_sum l)) (outs-Step' s)) h)

  start_layer_passes : (l : Start-F Bind Expr Start ProductPart SortKey Step SumPart)
      → start_size (map-Start _ _ _ _ _ _ _ _ _ _ _ _ _ _ size_bind size size_start size_product size_key size_step size_sum l) ≤ n → start_passes test l ≡ true
  start_layer_passes (Start-F.Value inner) h = holds inner h
  start_layer_passes (Start-F.First step) h = one_step_passes step h

  one_start_passes : (s : Start) → size_start s ≤ n → start_passes test (out-Start s) ≡ true
  one_start_passes s h = start_layer_passes (out-Start s)
      (subst (λ m. m ≤ n) (fold_out-Start ℕ ℕ ℕ ℕ ℕ ℕ ℕ bind_size expr_size start_size product_size key_size step_size sum_size s) h)

  product_passes : (p : ProductPart) → size_product p ≤ n → test p.expr ≡ true
  product_passes p h = holds p.expr (subst (λ m. m ≤ n)
      (fold_out-ProductPart ℕ ℕ ℕ ℕ ℕ ℕ ℕ bind_size expr_size start_size product_size key_size step_size sum_size p
      ∙ ap (λ l. product_size (map-ProductPart _ _ _ _ _ _ _ _ _ _ _ _ _ _ size_bind size size_start size_product size_key size_step size_sum l)) (outs-ProductPart' p)) h)

  key_passes : (k : SortKey) → size_key k ≤ n → test k.expr ≡ true
  key_passes k h = holds k.expr (subst (λ m. m ≤ n)
      (fold_out-SortKey ℕ ℕ ℕ ℕ ℕ ℕ ℕ bind_size expr_size start_size product_size key_size step_size sum_size k
      ∙ ap (λ l. key_size (map-SortKey _ _ _ _ _ _ _ _ _ _ _ _ _ _ size_bind size size_start size_product size_key size_step size_sum l)) (outs-SortKey' k)) h)

  sum_passes : (p : SumPart) → size_sum p ≤ n → test p.expr ≡ true
  sum_passes p h = holds p.expr (subst (λ m. m ≤ n)
      (fold_out-SumPart ℕ ℕ ℕ ℕ ℕ ℕ ℕ bind_size expr_size start_size product_size key_size step_size sum_size p
      ∙ ap (λ l. sum_size (map-SumPart _ _ _ _ _ _ _ _ _ _ _ _ _ _ size_bind size size_start size_product size_key size_step size_sum l)) (outs-SumPart' p)) h)

  layer_passes : (l : Expr-F Bind Expr Start ProductPart SortKey Step SumPart)
      → parts_size (map-Expr _ _ _ _ _ _ _ _ _ _ _ _ _ _ size_bind size size_start size_product size_key size_step size_sum l) ≤ n → passes test l ≡ true
  layer_passes (Expr-F.Text value) h = refl
  layer_passes (Expr-F.Int value) h = refl
  layer_passes (Expr-F.Var name) h = refl
  layer_passes Expr-F.Context h = refl
  layer_passes (Expr-F.Seq parts) h = all_pass parts h
  layer_passes (Expr-F.Flwor binds None keys result) h =
      let rest = right_part 0 (total (map size_key keys) + size result) n (right_part (total (map size_bind binds)) (0 + (total (map size_key keys) + size result)) n h) in
      both _ _ (each_passes size_bind (λ b. bind_passes test (out-Bind b)) binding_passes binds (left_part (total (map size_bind binds)) (0 + (total (map size_key keys) + size result)) n h))
      (both _ _ (each_passes size_key (λ k. test k.expr) key_passes keys (left_part (total (map size_key keys)) (size result) n rest))
      (holds result (right_part (total (map size_key keys)) (size result) n rest)))
  layer_passes (Expr-F.Flwor binds (Some filter) keys result) h =
      let rest = right_part (total (map size_bind binds)) (size filter + (total (map size_key keys) + size result)) n h in
      let last = right_part (size filter) (total (map size_key keys) + size result) n rest in
      both _ _ (each_passes size_bind (λ b. bind_passes test (out-Bind b)) binding_passes binds (left_part (total (map size_bind binds)) (size filter + (total (map size_key keys) + size result)) n h))
      (both _ _ (holds filter (left_part (size filter) (total (map size_key keys) + size result) n rest))
      (both _ _ (each_passes size_key (λ k. test k.expr) key_passes keys (left_part (total (map size_key keys)) (size result) n last))
      (holds result (right_part (total (map size_key keys)) (size result) n last))))
  layer_passes (Expr-F.If condition good other) h =
      let rest = right_part (size condition) (size good + size other) n h in
      both _ _ (holds condition (left_part (size condition) (size good + size other) n h))
      (both _ _ (holds good (left_part (size good) (size other) n rest)) (holds other (right_part (size good) (size other) n rest)))
  layer_passes (Expr-F.Or parts) h = all_pass parts h
  layer_passes (Expr-F.And parts) h = all_pass parts h
  layer_passes (Expr-F.Compare left op right) h = both _ _ (holds left (left_part (size left) (size right) n h)) (holds right (right_part (size left) (size right) n h))
  layer_passes (Expr-F.Range low high) h = both _ _ (holds low (left_part (size low) (size high) n h)) (holds high (right_part (size low) (size high) n h))
  layer_passes (Expr-F.Sum first rest) h =
      both _ _ (holds first (left_part (size first) (total (map size_sum rest)) n h))
      (each_passes size_sum (λ p. test p.expr) sum_passes rest (right_part (size first) (total (map size_sum rest)) n h))
  layer_passes (Expr-F.Product first rest) h =
      both _ _ (holds first (left_part (size first) (total (map size_product rest)) n h))
      (each_passes size_product (λ p. test p.expr) product_passes rest (right_part (size first) (total (map size_product rest)) n h))
  layer_passes (Expr-F.Union parts) h = all_pass parts h
  layer_passes (Expr-F.Signed signs inner) h = holds inner h
  layer_passes (Expr-F.Path start rest) h =
      both _ _ (one_start_passes start (left_part (size_start start) (total (map size_step rest)) n h))
      (each_passes size_step (step_passes test) one_step_passes rest (right_part (size_start start) (total (map size_step rest)) n h))
  layer_passes (Expr-F.Filter inner preds) h =
      both _ _ (holds inner (left_part (size inner) (total (map size preds)) n h)) (all_pass preds (right_part (size inner) (total (map size preds)) n h))
  layer_passes (Expr-F.Fun name args) h = all_pass args h
  layer_passes (Expr-F.Doc name) h = refl
  layer_passes (Expr-F.Element name None) h = refl
  layer_passes (Expr-F.Element name (Some content)) h = holds content h
  layer_passes (Expr-F.Attribute name None) h = refl
  layer_passes (Expr-F.Attribute name (Some content)) h = holds content h
  layer_passes (Expr-F.TextNode None) h = refl
  layer_passes (Expr-F.TextNode (Some content)) h = holds content h

-- an expression is no deeper than any number that is no less than its size
pub fits_within : (n : ℕ) (e : Expr) → size e ≤ n → fits n e ≡ true
fits_within zero e h =
    none_less _ (fits zero e) (subst (λ m. m ≤ 0) (fold_out-Expr ℕ ℕ ℕ ℕ ℕ ℕ ℕ bind_size expr_size start_size product_size key_size step_size sum_size e) h)
fits_within (suc n) e h =
    layer_passes n (fits n) (fits_within n) (out-Expr e)
    (one_less _ n (subst (λ m. m ≤ suc n) (fold_out-Expr ℕ ℕ ℕ ℕ ℕ ℕ ℕ bind_size expr_size start_size product_size key_size step_size sum_size e) h))

-- nor than its own
pub fits_at_size : (e : Expr) → fits (size e) e ≡ true
fits_at_size e = fits_within (size e) e (omega arith)
