-- The orders of spaces and pages are total, and only equal ones tie.
use Rattle.std.proofs.Common.{◌≡◌, ◌&&◌, ◌==◌, refl, ap, ◌∙◌}
use Rattle.std.specs.declared.cmp.Ordering.TheVariants.{Less, Equal, Greater}
use Rattle.std.specs.declared.cmp.Ordering.{Ordering}
use Rattle.std.specs.Ordering.{nat_cmp, ordering_then, is_eq, eq_by_cmp}
use Rattle.std.specs.Cmp.{IsTotalOrder, nat_cmp_total, on_total, then_total, unsigned_tied}
use Rattle.std.specs.FinMap.{IsAntisymmetric, nat_cmp-IsAntisymmetric}
use Rattle.page_bytes.specs.declared.ids.Space.{Space}
use Rattle.page_bytes.specs.declared.ids.PageId.{PageId}
use Rattle.page_bytes.specs.Order.{space_cmp, page_cmp, is_in}

-- the order of spaces is total
pub space_cmp-total : IsTotalOrder space_cmp
space_cmp-total = then_total (on_total (λ (x : Space). x.commit) nat_cmp_total) (on_total (λ (x : Space). x.ordinal) nat_cmp_total)

-- the order of pages is total
pub page_cmp-total : IsTotalOrder page_cmp
page_cmp-total = then_total (on_total (λ (x : PageId). x.space) space_cmp-total) (on_total (λ (x : PageId). x.number) nat_cmp_total)

-- spaces that tie are equal
pub space_cmp-exact : IsAntisymmetric space_cmp
space_cmp-exact x y is =
    elim (nat_cmp x.commit y.commit) as (λ o. nat_cmp x.commit y.commit ≡ o → ordering_then o (nat_cmp x.ordinal y.ordinal) ≡ Equal → x ≡ y) [
      | Less ↦ λ p e. cc
      | Equal ↦ λ p e. let c = nat_cmp-IsAntisymmetric x.commit y.commit p in let o = nat_cmp-IsAntisymmetric x.ordinal y.ordinal e in
          λ i. record { commit = c i; ordinal = o i }
      | Greater ↦ λ p e. cc
    ] refl is

-- pages that tie are equal
pub page_cmp-exact : IsAntisymmetric page_cmp
page_cmp-exact x y is =
    elim (space_cmp x.space y.space) as (λ o. space_cmp x.space y.space ≡ o → ordering_then o (nat_cmp x.number y.number) ≡ Equal → x ≡ y) [
      | Less ↦ λ p e. cc
      | Equal ↦ λ p e. let s = space_cmp-exact x.space y.space p in let n = nat_cmp-IsAntisymmetric x.number y.number e in
          λ i. record { space = s i; number = n i }
      | Greater ↦ λ p e. cc
    ] refl is

-- two orders, one after the other, tie where both do
pub both_tied : (o p : Ordering) → is_eq (ordering_then o p) ≡ (is_eq o && is_eq p)
both_tied Less p = refl
both_tied Equal p = refl
both_tied Greater p = refl

-- a page is one of the space where its space ties with that space
pub is_in-cmp : (space : Space) (id : PageId) → eq_by_cmp space_cmp id.space space ≡ is_in space id
is_in-cmp space id =
    both_tied (nat_cmp id.space.commit space.commit) (nat_cmp id.space.ordinal space.ordinal)
    ∙ ap (λ b. b && is_eq (nat_cmp id.space.ordinal space.ordinal)) (unsigned_tied id.space.commit space.commit)
    ∙ ap (λ b. id.space.commit == space.commit && b) (unsigned_tied id.space.ordinal space.ordinal)
