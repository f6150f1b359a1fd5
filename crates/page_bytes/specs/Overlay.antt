-- One finite map laid over another: at each key the value of the upper one, or else that of the lower one.
use Rattle.std.specs.Prelude.{◌≡◌, Bool, List, [], ◌∷◌, ◌++◌, Option, Some, refl, cond}
use Rattle.std.specs.Option.{option_or}
use Rattle.std.proofs.Common.{sym, ap, ◌∙◌, true, false}
use Rattle.std.specs.declared.cmp.Ordering.{Ordering}
use Rattle.std.specs.Ordering.{eq_by_cmp}
use Rattle.std.specs.Cmp.{IsTotalOrder}
use Rattle.std.specs.FinMap as map
use Rattle.std.specs.FinMap.{FinMap, find}

-- both maps' entries, where that of the upper one counts at a key that both have
pub overlay : {K X : Type 0} {R : K → K → Ordering} → FinMap R X → FinMap R X → FinMap R X
overlay upper lower = map.from_entries (map.entries upper ++ map.entries lower)

first : {X : Type 0} (b : Bool) (x : X) (o p : Option X) → cond b (Some x) (option_or o p) ≡ option_or (cond b (Some x) o) p
first true x o p = refl
first false x o p = refl

find-append : {K X : Type 0} (R : K → K → Ordering) (q : K) (es fs : List (K × X)) → find R q (es ++ fs) ≡ option_or (find R q es) (find R q fs)
find-append R q [] fs = refl
find-append R q (e ∷ es) fs = ap (cond (eq_by_cmp R q e.0) (Some e.1)) (find-append R q es fs) ∙ first (eq_by_cmp R q e.0) e.1 (find R q es) (find R q fs)

-- what it has at a key
pub get-overlay : {K X : Type 0} {R : K → K → Ordering} → IsTotalOrder R → (upper lower : FinMap R X) (q : K)
    → map.get (overlay upper lower) q ≡ option_or (map.get upper q) (map.get lower q)
unfolding overlay
get-overlay {R = R} o upper lower q =
    map.get-from_entries o (map.entries upper ++ map.entries lower) q
    ∙ find-append R q (map.entries upper) (map.entries lower)
    ∙ ap (λ x. option_or x (find R q (map.entries lower))) (sym (map.get-entries upper q))
    ∙ ap (option_or (map.get upper q)) (sym (map.get-entries lower q))
