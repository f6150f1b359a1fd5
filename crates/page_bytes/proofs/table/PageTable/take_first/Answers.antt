use Rattle.std.proofs.Common.{◌≡◌, ◌<◌, ◌↔◌, List, [], ◌∷◌, Option, Some, None, IsSome, IfNone, IfSome, OnSome, length, refl, sym, ap, subst, ◌∙◌, true≢false, arith}
use Rattle.std.specs.FinMap as map
use Rattle.std.proofs.lemmas.Option.{IfSome_then}
use Rattle.page_bytes.proofs.Orders.{page_cmp-total, page_cmp-exact}
use Rattle.page_bytes.proofs.Tables.{map_of, get-map_of, map_of-remove}
use Rattle.page_bytes.proofs.Works.{len-removed}
use Rattle.page_bytes.specs.declared.ids.PageId.{PageId}
use Rattle.page_bytes.specs.Order.{page_cmp}
use Rattle.page_bytes.proofs.table.PageTable.take_first.Goals as goal

-- where there is no first entry there is none
none_left : {X Y : Type 0} (r : Option X) (es : List Y) {P : Type 0} → (IsSome r ↔ (0 < length es)) → (es ≡ [] → P) → IfNone r P
none_left None [] variant then = then refl
none_left None (e ∷ es) variant then = absurd (true≢false (sym (variant.1 (omega arith))))
none_left (Some x) es variant then = tt

-- what follows where there is none
same_left : {X P Q : Type 0} (r : Option X) → IfNone r P → (P → Q) → IfNone r Q
same_left None p then = then p
same_left (Some x) p then = tt

-- where one was taken out there are fewer
fewer_left : {X : Type 0} (m n : map.FinMap page_cmp X) (r : Option (PageId × X)) → IfSome r (λ e. map.get m e.0 ≡ Some e.1)
    → IfSome r (λ e. n ≡ map.remove m e.0) → OnSome r (map.len n < map.len m)
fewer_left m n None there removed = tt
fewer_left m n (Some e) there removed = subst (λ k. map.len k < map.len m) (sym removed) (len-removed m e.0 e.1 there)

pub returns : goal.returns
returns g c =
    let tree = c.self.inside.entries in record {
      none = none_left c.pop_first.result tree.entries c.pop_first.ensures.variant (λ is. sym c.self.view_is ∙ ap map.from_entries is);
      still = same_left c.pop_first.result c.pop_first.ensures.unchanged (λ is. ap map.from_entries is ∙ c.self.view_is);
      value = IfSome_then c.pop_first.result c.pop_first.ensures.value (λ e is. ap (λ m. map.get m e.0) (sym c.self.view_is)
          ∙ get-map_of page_cmp-total tree e.0 ∙ is);
      removed = IfSome_then c.pop_first.result c.pop_first.ensures.updates (λ e is. map_of-remove page_cmp-total page_cmp-exact tree c.pop_first.new.self e.0 is
          ∙ ap (λ m. map.remove m e.0) c.self.view_is);
      fewer = fewer_left c.args.self.now (map_of c.pop_first.new.self) c.pop_first.result
          (IfSome_then c.pop_first.result c.pop_first.ensures.value (λ e is. ap (λ m. map.get m e.0) (sym c.self.view_is) ∙ get-map_of page_cmp-total tree e.0
          ∙ is))
          (IfSome_then c.pop_first.result c.pop_first.ensures.updates (λ e is. map_of-remove page_cmp-total page_cmp-exact tree c.pop_first.new.self e.0 is
          ∙ ap (λ m. map.remove m e.0) c.self.view_is));
    }
