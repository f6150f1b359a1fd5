use Rattle.std.proofs.Common.{◌≡◌, ◌∷◌, [], ◌++◌, Result, Ok, Err, OnOk, OnErr, sym, ap, ◌∙◌, subst}
use Rattle.std.specs.FinMap as map
use Rattle.page_versions.specs.ChainMap.{ChainMap, chain_in}
use Rattle.page_versions.specs.Inside.{staged_once, StagesUnder}
use Rattle.page_versions.proofs.Paging.{changed, chain_in-insert}
use Rattle.page_versions.proofs.Stages.{stages_none, stages_listed, stages_one, unstaged-once, some-once}
use Rattle.page_versions.proofs.staging.stage_one.Goals as goal

-- by what the last call answered
either : {E : Type 0} (r : Result (Unit {0}) E) (P : ChainMap → Type 0) (m n more : ChainMap) → OnOk r (n ≡ more) → OnErr r (n ≡ m) → P more → P m → P n
either (Ok x) P m n more ok err done left = subst P (sym ok) done
either (Err e) P m n more ok err done left = subst P (sym err) left

on_ok : {E P Q : Type 0} (r : Result (Unit {0}) E) → (P → Q) → OnOk r P → OnOk r Q
on_ok (Ok x) after p = after p
on_ok (Err e) after p = tt

pub returns-in_err-note-clause-under : goal.returns-in_err-note-clause-under
returns-in_err-note-clause-under c =
    subst (λ ps. StagesUnder c.args.commit c.args.table.now c.args.table.now c.args.touched.now.items ps) (sym c.in_err-note.ensures.err)
    (stages_none c.args.commit c.args.table.now c.args.touched.now.items c.requires.filled)

pub returns-clause-under : goal.returns-clause-under
returns-clause-under c =
    let n = c.args.commit in let m = c.args.table.now in let id = c.args.id in let ps = c.args.touched.now.items in let once =
    staged_once n c.args.image (chain_in m id) in
    subst (λ qs. StagesUnder n m c.put_version.new.table ps qs) (sym c.in_ok-note.ensures.ok)
    (either c.put_version.result (λ t. StagesUnder n m t ps (ps ++ id ∷ [])) m c.put_version.new.table
    (map.insert m id once) c.put_version.ensures.ok c.put_version.ensures.err
    (stages_one n m ps id once c.requires.filled (some-once n c.args.image (chain_in m id)) (unstaged-once n c.args.image (chain_in m id)))
    (stages_listed n m ps id c.requires.filled))

pub returns-clause-ok : goal.returns-clause-ok
returns-clause-ok c =
    let n = c.args.commit in let m = c.args.table.now in let id = c.args.id in let once = staged_once n c.args.image in
    on_ok c.put_version.result
    (λ is. changed once m c.put_version.new.table id (λ q. ap (λ t. chain_in t q) is ∙ chain_in-insert m id (once (chain_in m id)) q))
    c.put_version.ensures.ok
