-- Runs of nodes that are joined.
use Rattle.std.proofs.Common.{◌≡◌, suc, ◌-◌, ◌<◌, ◌≤◌, Bool, true, false, ◌&&◌, List, [], ◌∷◌, ◌++◌, map, length, take, take_all, drop, get_or, Some, refl, sym, ap, subst, ◌∙◌, arith}
use Rattle.std.specs.List.{slice_get}
use Rattle.std.proofs.lemmas.Bool.{false≢true}
use Rattle.std.proofs.lemmas.List.{map-append}
use Rattle.std.proofs.lemmas.Option.{none-some, same_Some}
use Rattle.std.specs.declared.cmp.Ordering.TheVariants.{Less}
use Rattle.xml_model.specs.DocumentOrder.{union, in_order}
use Rattle.xml_model.specs.Items.{NodeAt}
use Rattle.xml_model.specs.Nodes.{node_cmp}
use Rattle.xq_values.specs.declared.item.NodeId.{NodeId}
use Rattle.xq_nodes.specs.declared.joining.Run.{Run}
use Rattle.xq_nodes.specs.Joins.{Rises, join_all, nodes_of, join_runs, IsMarked, AreMarked, EndsBefore}
use Rattle.xq_nodes.proofs.NodeOrder.{node_total}
use Rattle.xq_nodes.proofs.Unions.{union-nil, union_behind, union_assoc, rises_union, rises_behind, behind_last, before_more, IsBehind}

-- one more list at the end
join_more : (joined : List NodeAt) (lists : List (List NodeAt)) (more : List NodeAt) → join_all joined (lists ++ more ∷ []) ≡ union node_cmp (join_all joined lists) more
join_more joined [] more = refl
join_more joined (l ∷ lists) more = join_more (union node_cmp joined l) lists more

module _ (seen : NodeId → NodeAt) where
  -- one more run at the end
  pub run_more : (runs all : List Run) (run : Run) → all ≡ runs ++ run ∷ [] → join_runs seen all ≡ union node_cmp (join_runs seen runs) (nodes_of seen run)
  run_more runs all run e =
      ap (join_runs seen) e
      ∙ (ap (join_all []) (map-append (nodes_of seen) runs (run ∷ [])) ∙ join_more [] (map (nodes_of seen) runs) (nodes_of seen run))

  marked_all : (runs : List Run) (run : Run) → AreMarked seen (runs ++ run ∷ []) → AreMarked seen runs × IsMarked seen run
  marked_all [] run h = (tt, h.0)
  marked_all (r ∷ runs) run h = let m = marked_all runs run h.1 in ((h.0, m.0), m.1)

  marked_each : (runs : List Run) (run : Run) → AreMarked seen runs → IsMarked seen run → AreMarked seen (runs ++ run ∷ [])
  marked_each [] run h m = (m, tt)
  marked_each (r ∷ runs) run h m = (h.0, marked_each runs run h.1 m)

  pub marked_more : (runs all : List Run) (run : Run) → all ≡ runs ++ run ∷ [] → AreMarked seen runs → IsMarked seen run → AreMarked seen all
  marked_more runs all run e h m = subst (AreMarked seen) (sym e) (marked_each runs run h m)

  pub marked_less : (runs all : List Run) (run : Run) → all ≡ runs ++ run ∷ [] → AreMarked seen all → AreMarked seen runs × IsMarked seen run
  marked_less runs all run e h = marked_all runs run (subst (AreMarked seen) e h)

  -- the last two runs become one
  module _ (old one rest new : List Run) (a b run : Run) (p : old ≡ one ++ b ∷ []) (q : one ≡ rest ++ a ∷ []) (r : new ≡ rest ++ run ∷ []) where
    pub last_joined : nodes_of seen run ≡ union node_cmp (nodes_of seen a) (nodes_of seen b) → join_runs seen new ≡ join_runs seen old
    last_joined e =
        run_more rest new run r
        ∙ (ap (union node_cmp (join_runs seen rest)) e
        ∙ (sym (union_assoc node_cmp node_total (join_runs seen rest) (nodes_of seen a) (nodes_of seen b))
        ∙ sym (run_more one old b p ∙ ap (λ l. union node_cmp l (nodes_of seen b)) (run_more rest one a q))))

    pub last_marks : AreMarked seen old → IsMarked seen a × IsMarked seen b
    last_marks h = let m = marked_less one old b p h in ((marked_less rest one a q m.0).1, m.1)

    pub last_marked : AreMarked seen old → IsMarked seen run → AreMarked seen new
    last_marked h m = marked_more rest new run r (marked_less rest one a q (marked_less one old b p h).0).0 m

  -- one run is all
  pub only_run : (runs rest : List Run) (run : Run) → length runs < 2 → runs ≡ rest ++ run ∷ [] → nodes_of seen run ≡ join_runs seen runs
  only_run runs [] run h e = sym (ap (join_runs seen) e)
  only_run runs (r ∷ rest) run h e = absurd (omega (arith, longer, ap length e))
    where
      longer : 2 ≤ length ((r ∷ rest) ++ run ∷ [])
      longer = go rest
        where
          go : (rest : List Run) → 2 ≤ length ((r ∷ rest) ++ run ∷ [])
          go [] = omega arith
          go (s ∷ rest) = omega (arith, go rest)

  -- ---- one list behind another

  split_last : (xs : List NodeId) (x : NodeId) → slice_get xs (length xs - 1) ≡ Some x → (init : List NodeId) × (xs ≡ init ++ x ∷ [])
  split_last [] x e = absurd (none-some x e)
  split_last (w ∷ []) x e = ([], ap (λ w. w ∷ []) (same_Some w x e))
  split_last (w ∷ v ∷ xs) x e =
      let n : suc (length (v ∷ xs)) - 1 ≡ suc (length (v ∷ xs) - 1) = omega arith in
      let more = split_last (v ∷ xs) x (sym (ap (slice_get (w ∷ v ∷ xs)) n) ∙ e) in
      (w ∷ more.0, ap (λ l. w ∷ l) more.1)

  split_first : (ys : List NodeId) (y : NodeId) → slice_get ys 0 ≡ Some y → (rest : List NodeId) × (ys ≡ y ∷ rest)
  split_first [] y e = absurd (none-some y e)
  split_first (w ∷ ys) y e = (ys, ap (λ w. w ∷ ys) (same_Some w y e))

  pub follows : (xs ys : List NodeId) → EndsBefore seen xs ys → Rises node_cmp (map seen xs) → Rises node_cmp (map seen ys)
      → (map seen (xs ++ ys) ≡ union node_cmp (map seen xs) (map seen ys)) × Rises node_cmp (map seen (xs ++ ys))
  follows xs ys e a b =
      let front = split_last xs e.last e.is_last in
      let back = split_first ys e.first e.is_first in
      let ended : map seen xs ≡ map seen front.0 ++ seen e.last ∷ [] = ap (map seen) front.1 ∙ map-append seen front.0 (e.last ∷ []) in
      let begun : map seen ys ≡ seen e.first ∷ map seen back.0 = ap (map seen) back.1 in
      let behind : IsBehind node_cmp (map seen xs) (seen e.first) =
      subst (λ l. IsBehind node_cmp l (seen e.first)) (sym ended) (behind_last node_cmp node_total (map seen front.0) (seen e.last) (seen e.first) (subst (Rises node_cmp) ended a) e.less) in
      let both : map seen (xs ++ ys) ≡ map seen xs ++ seen e.first ∷ map seen back.0 = map-append seen xs ys ∙ ap (λ l. map seen xs ++ l) begun in (
        both ∙ (sym (union_behind node_cmp (map seen xs) (map seen back.0) (seen e.first) behind) ∙ ap (union node_cmp (map seen xs)) (sym begun)),
        subst (Rises node_cmp) (sym both) (rises_behind node_cmp node_total (map seen xs) (map seen back.0) (seen e.first) a (subst (Rises node_cmp) begun b) behind),
      )

  -- ---- nodes that rise

  rest_is : (w : NodeId) (ws : List NodeId) → take (length (w ∷ ws) - 1) (drop 1 (w ∷ ws)) ≡ ws
  rest_is w ws = let e : length (w ∷ ws) - 1 ≡ length ws = omega arith in ap (λ n. take n ws) e ∙ take_all (length ws) ws (omega arith)

  -- one more node before those that rise
  pub rise_on : (left : List NodeId) (x y : NodeId) → 1 ≤ length left → x ≡ get_or left 0 x → 1 ≤ length (take (length left - 1) (drop 1 left))
      → y ≡ get_or (take (length left - 1) (drop 1 left)) 0 y → node_cmp (seen x) (seen y) ≡ Less → Rises node_cmp (map seen (take (length left - 1) (drop 1 left))) → Rises node_cmp (map seen left)
  rise_on [] x y n e m f less h = absurd (omega arith)
  rise_on (w ∷ []) x y n e m f less h = absurd (omega (arith, ap length (rest_is w [])))
  rise_on (w ∷ v ∷ ws) x y n e m f less h =
      let r = rest_is w (v ∷ ws) in
      let up : Rises node_cmp (seen v ∷ map seen ws) = subst (λ l. Rises node_cmp (map seen l)) r h in
      let first : x ≡ w = e in
      let second : y ≡ v = f ∙ ap (λ l. get_or l 0 y) r in
      let below : node_cmp (seen w) (seen v) ≡ Less = subst (λ z. node_cmp (seen z) (seen v) ≡ Less) first (subst (λ z. node_cmp (seen x) (seen z) ≡ Less) second less) in
      ((below, before_more node_cmp node_total (seen w) (seen v) (map seen ws) below up.0), up)

  -- a union of two runs is in order where both are
  pub united_marked : (a b run : Run) → run.rises ≡ (a.rises && b.rises) → nodes_of seen run ≡ union node_cmp (nodes_of seen a) (nodes_of seen b)
      → IsMarked seen a → IsMarked seen b → IsMarked seen run
  united_marked a b run e same m n = λ t.
      let both = and_true a.rises b.rises (sym e ∙ t) in
      subst (Rises node_cmp) (sym same) (rises_union node_cmp node_total (nodes_of seen a) (nodes_of seen b) (m both.0) (n both.1))
    where
      and_true : (p q : Bool) → (p && q) ≡ true → (p ≡ true) × (q ≡ true)
      and_true true q h = (refl, h)
      and_true false q h = absurd (false≢true h)

  -- ---- one node after another

  -- one more node is joined, before those that are left
  pub one_on : (joined more : List NodeAt) (left rest : List NodeId) (x : NodeId) (t : List NodeAt) → left ≡ x ∷ rest → more ≡ union node_cmp joined (seen x ∷ [])
      → union node_cmp joined (in_order node_cmp (map seen left)) ≡ t → union node_cmp more (in_order node_cmp (map seen rest)) ≡ t
  one_on joined more left rest x t p e h =
      ap (λ l. union node_cmp l (in_order node_cmp (map seen rest))) e
      ∙ (union_assoc node_cmp node_total joined (seen x ∷ []) (in_order node_cmp (map seen rest))
      ∙ (ap (λ l. union node_cmp joined (in_order node_cmp (map seen l))) (sym p) ∙ h))

  pub one_end : (joined : List NodeAt) (left : List NodeId) (t : List NodeAt) → length left ≡ 0 → union node_cmp joined (in_order node_cmp (map seen left)) ≡ t → joined ≡ t
  one_end joined [] t e h = sym (union-nil node_cmp joined) ∙ h
  one_end joined (x ∷ left) t e h = absurd (omega arith)
