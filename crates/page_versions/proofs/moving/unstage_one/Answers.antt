use Rattle.std.proofs.Common.{◌≡◌, ◌<◌, Some, Bool, true, false, cond, List, [], ◌∷◌, IfSome, length, unwrap_or, subst, sym, ap, ◌∙◌, refl, true≢false, arith}
use Rattle.std.specs.FinMap as map
use Rattle.page_bytes.specs.declared.ids.PageId.{PageId}
use Rattle.page_bytes.proofs.Orders.{page_cmp-total}
use Rattle.page_versions.specs.declared.version.Version.{Version}
use Rattle.page_versions.specs.ChainMap.{ChainMap, chain_in}
use Rattle.page_versions.specs.Inside.{is_page}
use Rattle.page_versions.specs.Purging.{unstaged}
use Rattle.page_versions.proofs.Paging.{changed, changed-insert, filled-insert, filled-remove, chain_in-insert, chain_in-remove}
use Rattle.page_versions.proofs.moving.unstage_one.Goals as goal

some_length : {X : Type 0} (xs : List X) → (xs ≡ [] → ⊥) → 0 < length xs
some_length [] some = absurd (some refl)
some_length (x ∷ xs) some = omega arith

under : (e : Bool) (a x : List Version) → cond e [] (cond e a x) ≡ cond e [] x
under true a x = refl
under false a x = refl

-- another page keeps its chain
pub others_filled : (m : ChainMap) (id : PageId) (c : List Version) → ((q : PageId) → IfSome (map.get m q) (λ chain. 0 < length chain)) → (q : PageId)
    → is_page q id ≡ false → IfSome (map.get (map.insert m id c) q) (λ chain. 0 < length chain)
others_filled m id c filled q other =
    subst (λ o. IfSome o (λ chain. 0 < length chain)) (sym (map.get-insert page_cmp-total m id c q ∙ ap (λ b. cond b (Some c) (map.get m q)) other)) (filled q)

pub returns-then-is_empty-clause-filled : goal.returns-then-is_empty-clause-filled
returns-then-is_empty-clause-filled c =
    subst (λ m. (q : PageId) → IfSome (map.get m q) (λ chain. 0 < length chain)) (sym c.remove.ensures)
    (filled-remove (map.insert c.args.table.now c.args.id c.unstage.new.self) c.args.id
    (others_filled c.args.table.now c.args.id c.unstage.new.self c.requires.filled))

pub returns-then-is_empty-clause-unstaged : goal.returns-then-is_empty-clause-unstaged
returns-then-is_empty-clause-unstaged c =
    let m = c.args.table.now in let id = c.args.id in let new = c.unstage.new.self in
    let is : chain_in m id ≡ c.lend-chain.result.now = ap (λ o. unwrap_or o []) c.lend-chain.ensures.value in
    let none : [] ≡ unstaged c.args.commit (chain_in m id) = sym (c.is_empty.ensures.0 c.if-is_empty.true) ∙ c.unstage.ensures
    ∙ ap (unstaged c.args.commit) (sym is) in
    changed (unstaged c.args.commit) m c.remove.new.self id (λ q. ap (λ t. chain_in t q) c.remove.ensures ∙ chain_in-remove (map.insert m id new) id q
    ∙ ap (cond (is_page q id) []) (chain_in-insert m id new q) ∙ under (is_page q id) new (chain_in m q) ∙ ap (λ x. cond (is_page q id) x (chain_in m q)) none)

pub returns-else-is_empty-clause-filled : goal.returns-else-is_empty-clause-filled
returns-else-is_empty-clause-filled c =
    filled-insert c.args.table.now c.args.id c.unstage.new.self c.requires.filled
    (some_length c.unstage.new.self (λ none. true≢false (sym (c.is_empty.ensures.1 none) ∙ c.if-is_empty.false)))

pub returns-else-is_empty-clause-unstaged : goal.returns-else-is_empty-clause-unstaged
returns-else-is_empty-clause-unstaged c =
    changed-insert (unstaged c.args.commit) c.args.table.now c.args.id c.lend-chain.result.now c.unstage.new.self c.lend-chain.ensures.value c.unstage.ensures
