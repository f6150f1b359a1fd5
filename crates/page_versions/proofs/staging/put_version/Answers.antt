use Rattle.std.proofs.Common.{◌≡◌, ◌∷◌, [], List, false, cond, Option, Some, None, unwrap_or, is_some, refl, sym, ap, ◌∙◌, true≢false}
use Rattle.std.proofs.lemmas.Result.{on_err_weaker}
use Rattle.std.specs.FinMap as map
use Rattle.page_versions.specs.declared.version.Version.{Version}
use Rattle.page_versions.specs.ChainMap.{chain_in}
use Rattle.page_versions.specs.Inside.{staged_once}
use Rattle.page_versions.proofs.Stages.{insert-there, on_ok_weaker}
use Rattle.page_versions.proofs.staging.put_version.Goals as goal

none_in : (o : Option (List Version)) → is_some o ≡ false → unwrap_or o [] ≡ []
none_in None is = refl
none_in (Some c) is = absurd (true≢false is)

pub returns-then-not-has-clause-ok : goal.returns-then-not-has-clause-ok
returns-then-not-has-clause-ok c =
    let m = c.args.table.now in let id = c.args.id in
    let none : chain_in m id ≡ [] = none_in (map.get m id) (sym c.has.ensures ∙ c.if-not-has.true) in
    on_ok_weaker c.insert.result (λ is. is
    ∙ ap (map.insert m id) (c.in_ok-chain.ensures ∙ ap (staged_once c.args.version.commit c.args.version.image) (sym none))) c.insert.ensures.ok

pub returns-then-is_staged : goal.returns-then-is_staged
returns-then-is_staged c =
    let m = c.args.table.now in let id = c.args.id in let chain = c.lend-chain.result.now in
    let at : chain_in m id ≡ chain = ap (λ o. unwrap_or o []) c.lend-chain.ensures.value in record {
      ok = ap (map.insert m id)
          (sym (ap (staged_once c.args.version.commit c.args.version.image) at
          ∙ ap (λ b. cond b chain (record { commit = c.args.version.commit; image = c.args.version.image } ∷ chain)) (sym c.is_staged.ensures
          ∙ c.if-is_staged.true)));
      err = tt;
    }

pub returns-clause-ok : goal.returns-clause-ok
returns-clause-ok c =
    let m = c.args.table.now in let id = c.args.id in let chain = c.lend-chain.result.now in
    let at : chain_in m id ≡ chain = ap (λ o. unwrap_or o []) c.lend-chain.ensures.value in
    on_ok_weaker c.push.result
    (λ is. ap (map.insert m id) (is
    ∙ sym (ap (staged_once c.args.version.commit c.args.version.image) at
    ∙ ap (λ b. cond b chain (record { commit = c.args.version.commit; image = c.args.version.image } ∷ chain)) (sym c.is_staged.ensures
    ∙ c.if-is_staged.false)))) c.push.ensures.ok

pub returns-clause-err : goal.returns-clause-err
returns-clause-err c =
    on_err_weaker c.push.result (λ is. ap (map.insert c.args.table.now c.args.id) is
    ∙ insert-there c.args.table.now c.args.id c.lend-chain.result.now c.lend-chain.ensures.value) c.push.ensures.err
