-- Each document has a space of its own, and no other space is in use: a record that is taken keeps this.
use Rattle.std.proofs.Common.{◌≡◌, ⊎_elim, inl, inr, ◌⊎◌, Bool, true, false, cond, not, is_some, List, [], ◌∷◌, ◌++◌, ℕ, Option, Some, None, refl, sym, ap, ◌∙◌, subst, true≢false}
use Rattle.std.specs.Ordering.{nat_cmp, eq_by_cmp, is_eq}
use Rattle.std.specs.declared.cmp.Ordering.{Ordering}
use Rattle.std.specs.declared.cmp.Ordering.TheVariants.{Less, Equal, Greater}
use Rattle.std.specs.Cmp.{IsTotalOrder, eq_by_cmp_equiv}
use Rattle.std.specs.Cmp.Lexicographic.{slice_cmp, nat_list_cmp_total}
use Rattle.std.specs.FinMap as map
use Rattle.std.specs.FinMap.{IsAntisymmetric}
use Rattle.std.proofs.lemmas.Bool.{eqb-true}
use Rattle.page_bytes.specs.declared.ids.Space.{Space}
use Rattle.page_bytes.specs.declared.ids.DocEntry.{DocEntry}
use Rattle.page_bytes.specs.Order.{space_cmp}
use Rattle.page_bytes.specs.Known.{Spaces}
use Rattle.page_bytes.proofs.Orders.{space_cmp-total, space_cmp-exact}
use Rattle.redo_log.specs.Names.{Names}
use Rattle.redo_log.specs.declared.change.LogName.{LogName}
use Rattle.redo_log.specs.declared.change.Change.{Change}
use Rattle.redo_log.specs.declared.store.Store.{Store}
use Rattle.redo_log.specs.Store.{entry_of, has_space, same_space, names_after, spaces_after, after_name, after_names, after}
use Rattle.redo_log.specs.Taken.{AreNamesTaken, IsTaken, IsEntryTaken, AreOwn}
use Rattle.redo_log.specs.Reading.{is_space_of}
use Rattle.redo_log.proofs.Again.{first_true, second_true}

-- keys that tie are equal, and a key ties with itself
ties : {K : Type 0} {R : K → K → Ordering} → IsAntisymmetric R → (x y : K) → eq_by_cmp R x y ≡ true → x ≡ y
ties {R = R} exact x y e = exact x y (equal (R x y) e)
  where
    equal : (r : Ordering) → is_eq r ≡ true → r ≡ Equal
    equal Less t = cc
    equal Equal t = refl
    equal Greater t = cc

itself : {K : Type 0} {R : K → K → Ordering} → IsTotalOrder R → (x y : K) → x ≡ y → eq_by_cmp R x y ≡ true
itself {R = R} o x y e = subst (λ z. eq_by_cmp R x z ≡ true) e ((eq_by_cmp_equiv o).refl x)

sure : (b : Bool) → (b ≡ true) ⊎ (b ≡ false)
sure true = inl refl
sure false = inr refl

abbrev exact_names : IsAntisymmetric (slice_cmp nat_cmp)
exact_names = map.slice_cmp-IsAntisymmetric map.nat_cmp-IsAntisymmetric

-- what an insertion and a removal leave at a key
record At {K X : Type 0} {R : K → K → Ordering} (m n : map.FinMap R X) (k : K) (w : Option X) : Type 0 where
  here : (q : K) → eq_by_cmp R q k ≡ true → map.get n q ≡ w
  away : (q : K) → eq_by_cmp R q k ≡ false → map.get n q ≡ map.get m q

module _ {K X : Type 0} {R : K → K → Ordering} (o : IsTotalOrder R) where
  inserts : (m : map.FinMap R X) (k : K) (v : X) → At m (map.insert m k v) k (Some v)
  inserts m k v = record {
    here = λ q e. map.get-insert o m k v q ∙ ap (λ (b : Bool). cond b (Some v) (map.get m q)) e;
    away = λ q e. map.get-insert o m k v q ∙ ap (λ (b : Bool). cond b (Some v) (map.get m q)) e;
  }

  removes : (m : map.FinMap R X) (k : K) → At m (map.remove m k) k None
  removes m k = record {
    here = λ q e. map.get-remove o m k q ∙ ap (λ (b : Bool). cond b None (map.get m q)) e;
    away = λ q e. map.get-remove o m k q ∙ ap (λ (b : Bool). cond b None (map.get m q)) e;
  }

no_some : {A : Type 0} (x : A) (r : Option A) → r ≡ None → r ≡ Some x → ⊥
no_some x r none some = cc (sym none ∙ some)

one_of : {A : Type 0} (r : Option A) (x y : A) → r ≡ Some x → r ≡ Some y → x ≡ y
one_of r x y p q = let e : ◌≡◌ {A = Option _} (Some x) (Some y) = sym p ∙ q in cc e

same_space_is : (s t : Space) → same_space s t ≡ true → s ≡ t
same_space_is s t e = let c = eqb-true _ _ (first_true _ _ e) in let o = eqb-true _ _ (second_true _ _ e) in λ i. record { commit = c i; ordinal = o i }

untrue : (b : Bool) → not b ≡ true → b ≡ true → ⊥
untrue true e f = true≢false (sym e)
untrue false e f = true≢false (sym f)

module _ (names : Names) (spaces : Spaces) (own : AreOwn names spaces) (name : List ℕ) where
  -- a name that is left after a drop has the entry that it had
  left : (q : List ℕ) (f : DocEntry) → entry_of q (map.remove names name) ≡ Some f → entry_of q names ≡ Some f
  left q f h = ⊎_elim
      (λ (t : eq_by_cmp (slice_cmp nat_cmp) q name ≡ true). absurd (no_some f _ ((removes nat_list_cmp_total names name).here q t) h))
      (λ (t : eq_by_cmp (slice_cmp nat_cmp) q name ≡ false). sym ((removes nat_list_cmp_total names name).away q t) ∙ h)
      (sure (eq_by_cmp (slice_cmp nat_cmp) q name))

  module _ (e : DocEntry) (is : entry_of name names ≡ Some e) where
    -- none that is left has the space of what was dropped
    other : (q : List ℕ) (f : DocEntry) → entry_of q (map.remove names name) ≡ Some f → f.space ≡ e.space → ⊥
    other q f h same = no_some f _
        ((removes nat_list_cmp_total names name).here q (itself nat_list_cmp_total q name (own.own q name f e (left q f h) is same))) h

    gone : (w : List ℕ) (f : DocEntry) → entry_of w names ≡ Some f → (f.space ≡ e.space → ⊥) → entry_of w (map.remove names name) ≡ Some f
    gone w f h apart = ⊎_elim
        (λ (u : eq_by_cmp (slice_cmp nat_cmp) w name ≡ true).
        absurd (apart (ap (λ (z : DocEntry). z.space)
        (one_of (entry_of name names) f e (ap (λ (z : List ℕ). entry_of z names) (sym (ties exact_names w name u)) ∙ h) is))))
        (λ (u : eq_by_cmp (slice_cmp nat_cmp) w name ≡ false). (removes nat_list_cmp_total names name).away w u ∙ h)
        (sure (eq_by_cmp (slice_cmp nat_cmp) w name))

    found_less : (x : Space) → has_space (map.remove spaces e.space) x ≡ true
        → (m : List ℕ) × (f : DocEntry) × (entry_of m (map.remove names name) ≡ Some f) × (f.space ≡ x)
    found_less x there = ⊎_elim
        (λ (t : eq_by_cmp space_cmp x e.space ≡ true). absurd (true≢false (sym there ∙ ap is_some ((removes space_cmp-total spaces e.space).here x t))))
        (λ (t : eq_by_cmp space_cmp x e.space ≡ false).
        let w = own.no_other x (sym (ap is_some ((removes space_cmp-total spaces e.space).away x t)) ∙ there) in
        (w.0, w.1, gone w.0 w.1 w.2 (λ same. true≢false (sym (itself space_cmp-total x e.space (sym w.3 ∙ same)) ∙ t)), w.3))
        (sure (eq_by_cmp space_cmp x e.space))

    -- a drop takes the name and its space
    drops : AreOwn (map.remove names name) (map.remove spaces e.space)
    drops = record {
      used = λ q f h. ⊎_elim
          (λ (t : eq_by_cmp space_cmp f.space e.space ≡ true). absurd (other q f h (ties space_cmp-exact f.space e.space t)))
          (λ (t : eq_by_cmp space_cmp f.space e.space ≡ false). ap is_some ((removes space_cmp-total spaces e.space).away f.space t)
          ∙ own.used q f (left q f h))
          (sure (eq_by_cmp space_cmp f.space e.space));
      own = λ q r f g h k same. own.own q r f g (left q f h) (left r g k) same;
      no_other = found_less;
    }

  module _ (e : DocEntry) where
    -- what is there after a set is what was set, or was there
    at : (q : List ℕ) (f : DocEntry) → entry_of q (map.insert names name e) ≡ Some f → ((q ≡ name) × (f ≡ e)) ⊎ (entry_of q names ≡ Some f)
    at q f h = ⊎_elim
        (λ (t : eq_by_cmp (slice_cmp nat_cmp) q name ≡ true). inl
        (ties exact_names q name t, one_of _ f e h ((inserts nat_list_cmp_total names name e).here q t)))
        (λ (t : eq_by_cmp (slice_cmp nat_cmp) q name ≡ false). inr (sym ((inserts nat_list_cmp_total names name e).away q t) ∙ h))
        (sure (eq_by_cmp (slice_cmp nat_cmp) q name))

    module _ (alone : (q : List ℕ) (f : DocEntry) → entry_of q names ≡ Some f → f.space ≡ e.space → q ≡ name) (keeps : (f : DocEntry)
        → entry_of name names ≡ Some f → f.space ≡ e.space) where
      is_used : (q : List ℕ) (f : DocEntry) → ((q ≡ name) × (f ≡ e)) ⊎ (entry_of q names ≡ Some f) → has_space (map.insert spaces e.space tt) f.space ≡ true
      is_used q f (inl z) = ap is_some
          ((inserts space_cmp-total spaces e.space tt).here f.space (itself space_cmp-total f.space e.space (ap (λ (y : DocEntry). y.space) z.1)))
      is_used q f (inr z) = ⊎_elim
          (λ (t : eq_by_cmp space_cmp f.space e.space ≡ true). ap is_some ((inserts space_cmp-total spaces e.space tt).here f.space t))
          (λ (t : eq_by_cmp space_cmp f.space e.space ≡ false). ap is_some ((inserts space_cmp-total spaces e.space tt).away f.space t) ∙ own.used q f z)
          (sure (eq_by_cmp space_cmp f.space e.space))

      is_own : (q r : List ℕ) (f g : DocEntry) → ((q ≡ name) × (f ≡ e)) ⊎ (entry_of q names ≡ Some f) → ((r ≡ name) × (g ≡ e)) ⊎ (entry_of r names ≡ Some g)
          → f.space ≡ g.space → q ≡ r
      is_own q r f g (inl z) (inl y) same = z.0 ∙ sym y.0
      is_own q r f g (inl z) (inr y) same = z.0 ∙ sym (alone r g y (sym same ∙ ap (λ (x : DocEntry). x.space) z.1))
      is_own q r f g (inr z) (inl y) same = alone q f z (same ∙ ap (λ (x : DocEntry). x.space) y.1) ∙ sym y.0
      is_own q r f g (inr z) (inr y) same = own.own q r f g z y same

      still : (x : Space) (w : List ℕ) (f : DocEntry) → entry_of w names ≡ Some f → f.space ≡ x → eq_by_cmp space_cmp x e.space ≡ false
          → entry_of w (map.insert names name e) ≡ Some f
      still x w f h at_x t = ⊎_elim
          (λ (u : eq_by_cmp (slice_cmp nat_cmp) w name ≡ true).
          absurd (true≢false (sym (itself space_cmp-total x e.space (sym at_x
          ∙ keeps f (ap (λ (z : List ℕ). entry_of z names) (sym (ties exact_names w name u)) ∙ h))) ∙ t)))
          (λ (u : eq_by_cmp (slice_cmp nat_cmp) w name ≡ false). (inserts nat_list_cmp_total names name e).away w u ∙ h)
          (sure (eq_by_cmp (slice_cmp nat_cmp) w name))

      found_more : (x : Space) → has_space (map.insert spaces e.space tt) x ≡ true
          → (m : List ℕ) × (f : DocEntry) × (entry_of m (map.insert names name e) ≡ Some f) × (f.space ≡ x)
      found_more x there = ⊎_elim
          (λ (t : eq_by_cmp space_cmp x e.space ≡ true).
          (name, e, (inserts nat_list_cmp_total names name e).here name (itself nat_list_cmp_total name name refl), sym (ties space_cmp-exact x e.space t)))
          (λ (t : eq_by_cmp space_cmp x e.space ≡ false).
          let w = own.no_other x (sym (ap is_some ((inserts space_cmp-total spaces e.space tt).away x t)) ∙ there) in
          (w.0, w.1, still x w.0 w.1 w.2 w.3 t, w.3))
          (sure (eq_by_cmp space_cmp x e.space))

      -- a set brings a new space with a new name, and else the name's own
      sets : AreOwn (map.insert names name e) (map.insert spaces e.space tt)
      sets = record { used = λ q f h. is_used q f (at q f h); own = λ q r f g h k same. is_own q r f g (at q f h) (at r g k) same; no_other = found_more }

  set_by : (was : Option DocEntry) (e : DocEntry) → entry_of name names ≡ was → is_space_of was spaces e.space ≡ true
      → AreOwn (map.insert names name e) (map.insert spaces e.space tt)
  set_by None e is fresh =
      sets e (λ q f h same. absurd (untrue (has_space spaces e.space) fresh (ap (has_space spaces) (sym same) ∙ own.used q f h)))
      (λ f h. absurd (no_some f _ is h))
  set_by (Some d) e is same = let here = same_space_is d.space e.space same in
      sets e (λ q f h k. own.own q name f d h is (k ∙ sym here)) (λ f h. ap (λ (z : DocEntry). z.space) (one_of _ f d h is) ∙ here)

  drop_by : (was : Option DocEntry) → entry_of name names ≡ was → is_some was ≡ true → AreOwn (map.remove names name) (spaces_after was None spaces)
  drop_by None is there = absurd (true≢false (sym there))
  drop_by (Some e) is there = drops e is

name_keeps : (commit : ℕ) (s : Store) (name : List ℕ) (entry : Option DocEntry) → AreOwn s.names s.spaces → IsEntryTaken commit s name entry
    → AreOwn (names_after name entry s.names) (spaces_after (entry_of name s.names) entry s.spaces)
name_keeps commit s name None own t = drop_by s.names s.spaces own name (entry_of name s.names) refl t
name_keeps commit s name (Some e) own t = set_by s.names s.spaces own name (entry_of name s.names) e refl t.3

names_keep : (commit : ℕ) (done : List LogName) (s : Store) (ns : List LogName) → AreOwn s.names s.spaces → AreNamesTaken commit done s ns
    → AreOwn (after_names ns s).names (after_names ns s).spaces
names_keep commit done s [] own t = own
names_keep commit done s (n ∷ ns) own t = names_keep commit (done ++ n ∷ []) (after_name n s) ns (name_keeps commit s n.name n.entry own t.0.entry) t.1

-- a change that the store takes leaves each document a space of its own, and no other space in use
pub spaces_stay_own : (s : Store) (c : Change) → AreOwn s.names s.spaces → IsTaken s c → AreOwn (after c s).names (after c s).spaces
spaces_stay_own s c own t = names_keep c.commit [] s c.names own t.names
