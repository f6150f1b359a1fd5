use Rattle.std.proofs.Common.{◌≡◌, ◌++◌, ◌≤◌, [], List, ℕ, map, sym, ap, ◌∙◌, subst, rules, arith, append_assoc}
use Rattle.std.specs.List.{AllByRecursion}
use Rattle.std.proofs.lemmas.List.{append-nil}
use Rattle.std.specs.FinMap as maps
use Rattle.page_bytes.specs.declared.ids.PageId.{PageId}
use Rattle.page_versions.specs.declared.version.Version.{Version}
use Rattle.page_versions.specs.Chains.{version_at}
use Rattle.slot_store.specs.declared.planning.TheConstants.{LAST_SLOT}
use Rattle.slot_store.specs.Slots.{GivesSlots, AreLeast}
use Rattle.slot_store.specs.Planned.{before_of, newest_images, with_version, written_slots}
use Rattle.slot_store.proofs.Giving.{gives_none, gives_more, newest_more, slots_spent, count-append}
use Rattle.slot_store.proofs.placing.place_pages.Goals as goal

pub loop-id-init : goal.loop-id-init
loop-id-init c = let none = c.new-placed.ensures.items in record {
  pages = ap (λ l. map before_of l ++ newest_images c.args.commit c.into_iter-id-iterator.result) none;
  slots = subst (λ l. GivesSlots (λ s. maps.contains_key c.args.used.now s) 0 0 [] (written_slots l)) (sym none)
      (gives_none (λ s. maps.contains_key c.args.used.now s) 0 []);
}

pub loop-id-preserved : goal.loop-id-preserved
loop-id-preserved c =
    let commit = c.args.commit in let inv = c.loop-id.invariant in let e : PageId × List Version = (c.in-Some.id.now, c.in-Some.chain.now)
    in let rest = c.next.new.self in record {
      pages = ap (λ l. l ++ newest_images commit rest) c.in_ok-place_newest.ensures.pages ∙ append_assoc (map before_of c.loop-id.placed.items) _ _
          ∙ ap (λ l. map before_of c.loop-id.placed.items ++ l) (sym (newest_more commit e rest) ∙ ap (newest_images commit) (sym c.in-Some.ensures.steps))
          ∙ inv.pages;
      slots = gives_more (λ s. maps.contains_key c.args.used.now s) 0 c.loop-id.from c.place_newest.new.from [] (written_slots c.loop-id.placed.items)
          (written_slots c.place_newest.new.placed.items) inv.slots c.in_ok-place_newest.ensures.slots;
    }

pub returns-in_err-place_newest-clause-spent : goal.returns-in_err-place_newest-clause-spent
returns-in_err-place_newest-clause-spent c kind n is =
    let commit = c.args.commit in let inv = c.loop-id.invariant in let e : PageId × List Version = (c.in-Some.id.now, c.in-Some.chain.now) in
    let rest = c.next.new.self in let one = with_version e.0 (version_at e.1 commit) [] in let more = newest_images commit rest in
    let whole : c.into_iter-id-iterator.result ≡ maps.entries c.args.versions.now.chains = search rules in
    let spent = c.place_newest.ensures.spent kind n (search rules) in (
      spent.0,
      slots_spent (λ s. maps.contains_key c.args.used.now s) c.loop-id.placed.items c.loop-id.from
          (newest_images commit (maps.entries c.args.versions.now.chains)) (one ++ more) inv.slots
          (ap (λ l. map before_of c.loop-id.placed.items ++ l)
          (sym (newest_more commit e rest) ∙ ap (newest_images commit) (sym c.in-Some.ensures.steps)) ∙ inv.pages ∙ ap (newest_images commit) whole)
          (omega (arith, count-append one more, spent.2)) spent.1,
    )

pub returns-clause-pages : goal.returns-clause-pages
returns-clause-pages c =
    let whole : c.into_iter-id-iterator.result ≡ maps.entries c.args.versions.now.chains = search rules in
    sym (append-nil (map before_of c.loop-id.placed.items))
    ∙ ap (λ left. map before_of c.loop-id.placed.items ++ newest_images c.args.commit left) (sym c.in-None.ensures.steps.0) ∙ c.loop-id.invariant.pages
    ∙ ap (newest_images c.args.commit) whole

pub returns-clause-least : goal.returns-clause-least
returns-clause-least c = let gives = c.loop-id.invariant.slots in
    subst (AreLeast (λ s. maps.contains_key c.args.used.now s) 0) (append-nil gives.given ∙ sym gives.is) (gives.least [] tt)

pub returns-clause-within : goal.returns-clause-within
returns-clause-within c = let gives = c.loop-id.invariant.slots in
    subst (AllByRecursion (λ (s : ℕ). s ≤ LAST_SLOT)) (sym gives.is) gives.within
