-- The spaces of a tree, and their commits.
use Rattle.std.proofs.Common.{◌≡◌, ◌∙◌, Bool, true, false, List, [], ◌∷◌, length, refl, sym, ap, arith}
use Rattle.std.specs.Prelude.{◌==◌, ◌||◌}
use Rattle.std.specs.Ordering.{eq_by_cmp, is_eq}
use Rattle.std.specs.declared.cmp.Ordering.{Ordering}
use Rattle.std.specs.declared.cmp.Ordering.TheVariants.{Less, Equal, Greater}
use Rattle.std.specs.List.{list_any}
use Rattle.std.specs.List.Sorted.{IsStrictlySortedBy}
use Rattle.std.specs.Cmp.{IsTotalOrder}
use Rattle.std.specs.FinMap as finite
use Rattle.std.specs.FinMap.Entries.{put, by_order}
use Rattle.std.specs.Map.{keys_of}
use Rattle.std.proofs.Common.{eq-eqb}
use Rattle.page_bytes.specs.declared.ids.Space.{Space}
use Rattle.page_bytes.specs.Order.{space_cmp}
use Rattle.page_bytes.specs.Known.{Spaces}
use Rattle.page_bytes.proofs.Orders.{space_cmp-exact}
use Rattle.redo_log.specs.Store.{has_space, has_commit}

rest_sorted : {K : Type 0} (R : K → K → Ordering) (k : K) (ks : List K) → IsStrictlySortedBy R (k ∷ ks) → IsStrictlySortedBy R ks
unfolding IsStrictlySortedBy
rest_sorted R k ks s = s.1

module _ {K X : Type 0} (R : K → K → Ordering) (o : IsTotalOrder R) where
  no_entries : (es : List (K × X)) → length es ≡ 0 → es ≡ []
  no_entries [] none = refl
  no_entries (e ∷ es) none = absurd (omega (arith, none))

  put_first : (k : K) (v : X) (es : List (K × X)) → IsStrictlySortedBy R (k ∷ keys_of es) → put R k v es ≡ (k, v) ∷ es
  unfolding IsStrictlySortedBy
  put_first k v [] s = refl
  put_first k v (e ∷ es) s = ap (λ (r : Ordering). by_order r ((k, v) ∷ e ∷ es) ((e.0, v) ∷ es) (e ∷ put R k v es)) s.0.0

  -- a map that is made of entries in order has these entries
  pub entries-from_entries : (es : List (K × X)) → IsStrictlySortedBy R (keys_of es) → finite.entries (finite.from_entries {R = R} es) ≡ es
  entries-from_entries [] s =
      no_entries (finite.entries (finite.empty {X = X} {R = R})) (sym (finite.len-entries (finite.empty {X = X} {R = R})) ∙ finite.len-empty R X)
  entries-from_entries (e ∷ es) s =
      finite.entries-insert o (finite.from_entries es) e.0 e.1
      ∙ (ap (put R e.0 e.1) (entries-from_entries es (rest_sorted R e.0 (keys_of es) s)) ∙ put_first e.0 e.1 es s)

by_first : (a b c d : Bool) → (a ≡ true → b ≡ true) → (c ≡ true → d ≡ true) → (a || c) ≡ true → (b || d) ≡ true
by_first a true c d f g h = refl
by_first true false c d f g h = absurd (cc (f refl))
by_first false false c d f g h = g h

weaker_any : {A : Type 0} (p q : A → Bool) → ((x : A) → p x ≡ true → q x ≡ true) → (xs : List A) → list_any p xs ≡ true → list_any q xs ≡ true
weaker_any p q f [] e = e
weaker_any p q f (x ∷ xs) e = by_first (p x) (q x) (list_any p xs) (list_any q xs) (f x) (weaker_any p q f xs) e

-- a document's space has a document's commit
pub has_commit_of_space : (spaces : Spaces) (s : Space) → has_space spaces s ≡ true → has_commit spaces s.commit ≡ true
has_commit_of_space spaces s e =
    weaker_any (eq_by_cmp space_cmp s) (λ t. t.commit == s.commit)
    (λ t tied. eq-eqb _ _ (ap (λ (x : Space). x.commit) (sym (space_cmp-exact s t (equal (space_cmp s t) tied)))))
    (finite.keys spaces) (sym (finite.contains_key-keys spaces s) ∙ e)
  where
    equal : (r : Ordering) → is_eq r ≡ true → r ≡ Equal
    equal Less t = cc
    equal Equal t = refl
    equal Greater t = cc
