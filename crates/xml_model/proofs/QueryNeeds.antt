-- Forests that agree on the locks that a query needs agree on each document that it names, and so give it one value.
use Rattle.std.specs.Prelude.{◌≡◌, ℕ, Bool, true, false, List, [], ◌∷◌, map, Option, Some, is_some, refl}
use Rattle.std.proofs.Common.{sym, ap, subst, ◌∙◌, cond, true≢false}
use Rattle.std.specs.FinMap as forests
use Rattle.std.specs.Ordering.{nat_cmp, eq_by_cmp}
use Rattle.std.specs.Cmp.Lexicographic.{slice_cmp, nat_list_cmp_total}
use Rattle.std.specs.Cmp.{tied_itself}
use Rattle.std.specs.Ordering.{is_eq}
use Rattle.std.specs.Str.{bytes_eq}
use Rattle.std.proofs.lemmas.Slice.Eq.{bytes_eq-Decides}
use Rattle.std.proofs.lemmas.Map.Text.{is_eq-slice_cmp}
use Rattle.xq_ast.specs.declared.tree.Expr.{Expr}
use Rattle.xq_ast.specs.declared.call.Call.TheVariants.{Query}
use Rattle.xq_ast.specs.declared.need.LockMode.{LockMode}
use Rattle.xq_ast.specs.declared.need.LockMode.TheVariants.{S}
use Rattle.xq_ast.specs.declared.need.Need.{Need}
use Rattle.xq_ast.specs.Modes.{stronger}
use Rattle.xq_ast.specs.Documents.{documents}
use Rattle.doc_locks.specs.Names.{Names}
use Rattle.doc_locks.specs.Locks.{with_need, with_needs, need_of, needs_of}
use Rattle.xml_model.specs.Forest.{Forest}
use Rattle.xml_model.specs.Needs.{needs, all_in, AgreeAt}
use Rattle.xml_model.specs.Evaluation.{eval}
use Rattle.xml_model.proofs.Alike.{Each}
use Rattle.xml_model.specs.Statement.{query_answer}
use Rattle.xml_model.proofs.QueryFrame.{evaluated_same, answered_same}

-- ---- names that are there

-- what is put in is there
is_there : {A : Type 0} (b : Bool) (x : A) (o : Option A) → b ≡ true → is_some (cond b (Some x) o) ≡ true
is_there true x o h = refl
is_there false x o h = absurd (true≢false (sym h))

-- and what was there stays
stays_there : {A : Type 0} (b : Bool) (x : A) (o : Option A) → is_some o ≡ true → is_some (cond b (Some x) o) ≡ true
stays_there true x o h = refl
stays_there false x o h = h

put_there : (held : Names) (n : Need) → is_some (forests.get (with_need held n) n.name) ≡ true
put_there held n =
    ap is_some (forests.get-insert nat_list_cmp_total held n.name (stronger n.mode (forests.get held n.name)) n.name)
    ∙ is_there (eq_by_cmp (slice_cmp nat_cmp) n.name n.name) (stronger n.mode (forests.get held n.name)) (forests.get held n.name)
    (ap is_eq (tied_itself nat_list_cmp_total n.name))

kept_there : (asked : List Need) (held : Names) (q : List ℕ) → is_some (forests.get held q) ≡ true → is_some (forests.get (with_needs asked held) q) ≡ true
kept_there [] held q h = h
kept_there (n ∷ asked) held q h = kept_there asked (with_need held n) q
    (ap is_some (forests.get-insert nat_list_cmp_total held n.name (stronger n.mode (forests.get held n.name)) q)
    ∙ stays_there (eq_by_cmp (slice_cmp nat_cmp) q n.name) (stronger n.mode (forests.get held n.name)) (forests.get held q) h)

-- ---- agreement

module _ (F G : Forest) where
  -- at the name of an entry
  found_agrees : (es : List (List ℕ × LockMode)) (q : List ℕ) → is_some (forests.find (slice_cmp nat_cmp) q es) ≡ true → AgreeAt (map need_of es) F G
      → forests.get F q ≡ forests.get G q
  found_agrees [] q there agree = absurd (true≢false (sym there))
  found_agrees (e ∷ es) q there agree =
      elim (bytes_eq q e.0) as (λ b. bytes_eq q e.0 ≡ b → forests.get F q ≡ forests.get G q) [
        | true ↦ λ same. subst (λ k. forests.get F k ≡ forests.get G k) (sym ((bytes_eq-Decides q e.0).0 same)) agree.0
        | false ↦ λ other. found_agrees es q
            (sym (ap (λ b. is_some (cond b (Some e.1) (forests.find (slice_cmp nat_cmp) q es))) (is_eq-slice_cmp q e.0 ∙ other)) ∙ there) agree.1
      ] refl

  -- at each name that was asked for
  pub agree_asked : (asked : List Need) (held : Names) → AgreeAt (needs_of (with_needs asked held)) F G → Each (λ (n : Need). forests.get F n.name ≡ forests.get G n.name) asked
  agree_asked [] held h = tt
  agree_asked (n ∷ asked) held h = (
    found_agrees (forests.entries (with_needs asked (with_need held n))) n.name
        (ap is_some (sym (forests.get-entries (with_needs asked (with_need held n)) n.name)) ∙ kept_there asked (with_need held n) n.name (put_there held n)) h,
    agree_asked asked (with_need held n) h,
  )

  -- and so at the names that were asked for in one mode
  pub names_agree : (mode : LockMode) (ns : List (List ℕ)) → Each (λ (n : Need). forests.get F n.name ≡ forests.get G n.name) (map (λ name. record { name = name; mode = mode }) ns)
      → Each (λ name. forests.get F name ≡ forests.get G name) ns
  names_agree mode [] h = tt
  names_agree mode (name ∷ ns) h = (h.0, names_agree mode ns h.1)

  -- at each document that a query names
  pub query_agrees : (e : Expr) → AgreeAt (needs (Query e)) F G → Each (λ name. forests.get F name ≡ forests.get G name) (documents e)
  query_agrees e h = names_agree S (documents e) (agree_asked (all_in S e) forests.empty h)

  -- forests that agree at the needs of a query give it one value
  pub query_same : (e : Expr) → AgreeAt (needs (Query e)) F G → eval F e ≡ eval G e
  query_same e h = evaluated_same F G e (query_agrees e h)

  -- and it is answered the same
  pub query_says : (e : Expr) → AgreeAt (needs (Query e)) F G → query_answer F e ≡ query_answer G e
  query_says e h = answered_same F G e (query_agrees e h)
