use Rattle.std.proofs.Common.{◌≡◌, ◌<◌, ◌∷◌, [], ◌++◌, Bool, true, false, cond, ◌||◌, List, None, take, get_or, length, refl, sym, ap, ◌∙◌, subst, true≢false, arith}
use Rattle.std.proofs.lemmas.List.{take_more, take_all}
use Rattle.page_bytes.specs.declared.ids.PageId.{PageId}
use Rattle.page_versions.specs.declared.version.Version.{Version}
use Rattle.page_versions.specs.ChainMap.{chain_in}
use Rattle.page_versions.specs.Inside.{is_listed, is_page}
use Rattle.page_versions.specs.Purging.{purged}
use Rattle.page_versions.proofs.Chaining.{purged-purged}
use Rattle.page_versions.proofs.Paging.{Done, done_more, listed-append, page-is}
use Rattle.page_versions.proofs.moving.publish_all.Goals as goal

abbrev no_page : PageId
no_page = record { space = record { commit = 0; ordinal = 0 }; number = 0 }

-- a page that is long now is noted, whether it is done or not
still_long : (f : List Version → List Version) (old now : PageId → List Version) (ps before after : List PageId) (id : PageId) → Done f old ps now
    → ((q : PageId) → is_listed ps q ≡ true → 1 < length (now q) → is_listed after q ≡ true) → ((q : PageId) → 2 < length (old q) → is_listed before q ≡ true)
    → ((q : PageId) → is_listed before q ≡ true → is_listed after q ≡ true) → 2 < length (now id) → is_listed after id ≡ true
still_long f old now ps before after id done noted long keeps many =
    elim (is_listed ps id) as (λ b. is_listed ps id ≡ b → is_listed after id ≡ true) [
      | true ↦ λ e. noted id e (omega arith)
      | false ↦ λ e. let same : now id ≡ old id = done id ∙ ap (λ b. cond b (f (old id)) (old id)) e in
          keeps id (long id (subst (λ xs. 2 < length xs) same many))
    ] refl

-- one page more
noted_more : (f : List Version → List Version) (now next : PageId → List Version) (ps before after : List PageId) (id : PageId)
    → ((q : PageId) → next q ≡ cond (is_page q id) (f (now q)) (now q))
    → ((q : PageId) → is_listed ps q ≡ true → 1 < length (now q) → is_listed before q ≡ true)
    → (1 < length (next id) → is_listed after id ≡ true) → ((q : PageId) → is_listed before q ≡ true → is_listed after q ≡ true)
    → (q : PageId) → is_listed (ps ++ id ∷ []) q ≡ true → 1 < length (next q) → is_listed after q ≡ true
noted_more f now next ps before after id step noted last keeps q listed many =
    elim (is_page q id) as (λ b. is_page q id ≡ b → is_listed after q ≡ true) [
      | true ↦ λ e. let same = page-is q id e in subst (λ p. is_listed after p ≡ true) (sym same) (last (subst (λ p. 1 < length (next p)) same many))
      | false ↦ λ e. let kept : next q ≡ now q = step q ∙ ap (λ b. cond b (f (now q)) (now q)) e in
          let was : is_listed ps q ≡ true = either (is_listed ps q) (sym (listed-append ps id q ∙ ap (λ b. is_listed ps q || b) e) ∙ listed) in
          keeps q (noted q was (subst (λ xs. 1 < length xs) kept many))
    ] refl
  where
    either : (b : Bool) → (b || false) ≡ true → b ≡ true
    either true is = refl
    either false is = is

pub loop-id-init : goal.loop-id-init
loop-id-init c = record {
  filled = c.requires.filled;
  done = λ q. refl;
  long = λ q e. absurd (true≢false (sym e));
  kept = λ q e. e;
  room = let room =
      c.requires.room in omega arith;
}

pub publish_one-requires-clause-filled : goal.publish_one-requires-clause-filled
publish_one-requires-clause-filled c = c.loop-id.invariant.filled

pub publish_one-requires-clause-long : goal.publish_one-requires-clause-long
publish_one-requires-clause-long c =
    still_long (purged None c.args.snapshots.now.slots) (chain_in c.args.table.now) (chain_in c.loop-id.table)
    (take c.loop-id.id-index c.args.pages.now) c.args.older.now.items c.loop-id.older.items
    (get_or c.args.pages.now c.loop-id.id-index no_page) c.loop-id.invariant.done c.loop-id.invariant.long c.requires.long c.loop-id.invariant.kept

pub publish_one-requires-clause-room : goal.publish_one-requires-clause-room
publish_one-requires-clause-room c = let room = c.loop-id.invariant.room in omega arith

pub loop-id-preserved : goal.loop-id-preserved
loop-id-preserved c =
    let f = purged None c.args.snapshots.now.slots in let id = get_or c.args.pages.now c.loop-id.id-index no_page in let ps =
    take c.loop-id.id-index c.args.pages.now in
    let more = take_more c.args.pages.now c.loop-id.id-index no_page c.loop-id-test.true in record {
      filled = c.publish_one.ensures.filled;
      done = subst (λ ps. Done f (chain_in c.args.table.now) ps (chain_in c.publish_one.new.table)) (sym more)
          (done_more f (chain_in c.args.table.now) (chain_in c.loop-id.table) (chain_in c.publish_one.new.table) ps id
          (λ q. purged-purged None c.args.snapshots.now.slots (chain_in c.args.table.now q)) c.loop-id.invariant.done c.publish_one.ensures.purged);
      long = subst (λ ps. (q : PageId) → is_listed ps q ≡ true → 1 < length (chain_in c.publish_one.new.table q)
          → is_listed c.publish_one.new.older.items q ≡ true) (sym more)
          (noted_more f (chain_in c.loop-id.table)
          (chain_in c.publish_one.new.table) ps c.loop-id.older.items c.publish_one.new.older.items id c.publish_one.ensures.purged
          c.loop-id.invariant.long c.publish_one.ensures.long c.publish_one.ensures.kept);
      kept = λ q e. c.publish_one.ensures.kept q (c.loop-id.invariant.kept q e);
      room = let room = c.loop-id.invariant.room in let len = c.publish_one.ensures.len in let same = c.publish_one.ensures.capacity in omega arith;
    }

pub returns-clause-filled : goal.returns-clause-filled
returns-clause-filled c = c.loop-id.invariant.filled

pub returns-clause-purged : goal.returns-clause-purged
returns-clause-purged c =
    subst (λ ps. Done (purged None c.args.snapshots.now.slots) (chain_in c.args.table.now) ps (chain_in c.loop-id.table))
    (take_all c.loop-id.id-index c.args.pages.now c.loop-id-test.false) c.loop-id.invariant.done

pub returns-clause-long : goal.returns-clause-long
returns-clause-long c =
    subst (λ ps. (q : PageId) → is_listed ps q ≡ true → 1 < length (chain_in c.loop-id.table q) → is_listed c.loop-id.older.items q ≡ true)
    (take_all c.loop-id.id-index c.args.pages.now c.loop-id-test.false) c.loop-id.invariant.long

pub returns-clause-kept : goal.returns-clause-kept
returns-clause-kept c = c.loop-id.invariant.kept
