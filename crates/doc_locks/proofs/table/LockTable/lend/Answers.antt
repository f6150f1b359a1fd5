use Rattle.std.proofs.Common.{◌≡◌, IsSome, Option, Some, None, refl, sym, ap, ◌∙◌, subst, MutBor}
use Rattle.std.specs.FinMap as map
use Rattle.std.specs.Option.{option_copied_mut}
use Rattle.doc_locks.proofs.Entries.{get-map_of, map_of-insert}
use Rattle.doc_locks.proofs.table.LockTable.lend.Goals as goal

-- there is a reference where there is a value
lent : {V : Type 0} (o : Option (MutBor V)) → IsSome (option_copied_mut o) → IsSome o
lent None some = some
lent (Some r) some = refl

pub unwrap-requires : goal.unwrap-requires
unwrap-requires c =
    let is : option_copied_mut c.get_mut.result ≡ map.get c.args.self.now c.args.session = c.get_mut.ensures.value
    ∙ sym (get-map_of c.self.inside.sessions.entries c.args.session) ∙ ap (λ m. map.get m c.args.session) c.self.view_is in
    lent c.get_mut.result (subst IsSome (sym is) c.requires)

pub returns : goal.returns
returns c =
    let id = c.args.session in let table = c.self.inside.sessions in
    let is : option_copied_mut c.get_mut.result ≡ map.get c.args.self.now id = c.get_mut.ensures.value ∙ sym (get-map_of table.entries id)
    ∙ ap (λ m. map.get m id) c.self.view_is in
    let some = subst IsSome (sym (sym (c.get_mut.ensures.value) ∙ is)) c.requires in (
      (refl, λ w. map_of-insert table (c.get_mut.follows.lender w) id w ((c.get_mut.follows.holds w).3 some) ∙ ap (λ m. map.insert m id w) c.self.view_is),
      record { writes_back = tt; value = sym is ∙ ap option_copied_mut c.unwrap.ensures },
    )
