use Rattle.std.proofs.Common.{◌≡◌, ◌+◌, None, sym, ap, ◌∙◌, subst, vec_len, vec_capacity}
use Rattle.std.specs.FinMap as map
use Rattle.page_versions.specs.declared.version.Version.{Version}
use Rattle.page_versions.specs.Kept.{Kept}
use Rattle.page_versions.specs.Inside.{IsSound}
use Rattle.page_versions.proofs.Sounding.{start_sound, by_result}
use Rattle.page_versions.proofs.versions.Versions.start.Goals as goal

pub invariant_of-self : goal.invariant_of-self
invariant_of-self c =
    let m = c.self.inside.table in let slots = c.self.inside.snapshots.slots in let touched = c.self.inside.touched.items in let older =
    c.self.inside.older.items in
    let is : c.self.inside.staged ≡ None = ap (λ (k : Kept). k.staged) c.self.view_is ∙ c.requires.nothing_staged in
    let v : Version = record { commit = c.args.commit; image = c.args.image } in
    let before = subst (λ st. IsSound m slots st touched older (vec_len c.self.inside.older + vec_len c.self.inside.touched) (vec_capacity c.self.inside.older))
    is c.self.invariant in
    subst (λ st. IsSound c.insert.new.self slots st touched older (vec_len c.self.inside.older + vec_len c.self.inside.touched)
    (vec_capacity c.self.inside.older)) (sym is)
    (by_result c.insert.result
    (λ n. IsSound n slots None touched older (vec_len c.self.inside.older + vec_len c.self.inside.touched) (vec_capacity c.self.inside.older)) m
    c.insert.new.self (map.insert m c.args.id c.in_ok-chain.chain) c.insert.ensures.ok c.insert.ensures.err
    (subst (λ x. IsSound (map.insert m c.args.id x) slots None touched older (vec_len c.self.inside.older + vec_len c.self.inside.touched)
    (vec_capacity c.self.inside.older)) (sym c.in_ok-chain.ensures) (start_sound m slots touched older _ _ c.args.id v before)) before)
