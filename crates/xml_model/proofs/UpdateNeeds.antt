-- An update keeps to its needs: it needs X on each document that its target expression names, and so on each that it changes.
use Rattle.std.specs.Prelude.{◌≡◌, ℕ, Bool, true, false, ◌&&◌, ◌||◌, cond, List, [], ◌∷◌, ◌++◌, map, bytes_eq, Some, is_some, unwrap_or, Result, Ok, Err, refl}
use Rattle.std.specs.FinMap as forests
use Rattle.std.specs.Cmp.Lexicographic.{slice_cmp, nat_list_cmp_total}
use Rattle.std.specs.List.{list_any}
use Rattle.std.specs.Ordering.{nat_cmp}
use Rattle.std.proofs.Common.{sym, ap, subst, ◌∙◌, true≢false}
use Rattle.std.proofs.lemmas.Bool.{or_left, or_right}
use Rattle.std.proofs.lemmas.Map.Text.{is_eq-slice_cmp}
use Rattle.std.proofs.lemmas.Slice.Eq.{bytes_eq-Decides}
use Rattle.doc_locks.specs.Locks.{with_need, with_needs, need_of}
use Rattle.doc_locks.specs.Names.{Names}
use Rattle.xq_ast.specs.Documents.{documents}
use Rattle.xq_ast.specs.Modes.{is_exclusive, stronger}
use Rattle.xq_ast.specs.declared.call.Call.TheVariants.{Update}
use Rattle.xq_ast.specs.declared.code.Code.{Code}
use Rattle.xq_ast.specs.declared.need.LockMode.{LockMode}
use Rattle.xq_ast.specs.declared.need.LockMode.TheVariants.{S, X}
use Rattle.xq_ast.specs.declared.need.Need.{Need}
use Rattle.xq_ast.specs.declared.update.Update.{Update as UpdateCall}
use Rattle.xq_ast.specs.declared.update.Update.TheVariants as update
use Rattle.xml_model.specs.Edits.{Change, by_document, changes, updated_by, updated}
use Rattle.xml_model.specs.Forest.{Forest}
use Rattle.xml_model.specs.Items.{Made}
use Rattle.xml_model.specs.Needs.{needs, all_in, asked_by_update, has_exclusive, has_need, AgreeAt, KeepsToNeeds}
use Rattle.xml_model.specs.Statement.{error, changed}
use Rattle.xml_model.proofs.Alike.{each_gives, Fine, Good}
use Rattle.xml_model.proofs.Needed.{agree_where}
use Rattle.xml_model.proofs.QueryNeeds.{agree_asked}
use Rattle.xml_model.proofs.Rebuilding.{EndAlike, by_document_of, rebuilt_alike, HasAs, IsOther, rebuilt_keeps}
use Rattle.xml_model.proofs.TargetNames.{IsAmong, IsNamed}
use Rattle.xml_model.proofs.UpdateFrame.{target_of, AreChangesNamed, changes_alike, changes_named}

-- ---- an exclusive need stays one

turned : (q name : List ℕ) → bytes_eq q name ≡ true → bytes_eq name q ≡ true
turned q name same = (bytes_eq-Decides name q).1 (sym ((bytes_eq-Decides q name).0 same))

exclusive_stays : (mode : LockMode) → stronger mode (Some X) ≡ X
exclusive_stays S = refl
exclusive_stays X = refl

get_with : (held : Names) (n : Need) (q : List ℕ)
    → forests.get (with_need held n) q ≡ cond (bytes_eq q n.name) (Some (stronger n.mode (forests.get held n.name))) (forests.get held q)
get_with held n q =
    forests.get-insert nat_list_cmp_total held n.name (stronger n.mode (forests.get held n.name)) q
    ∙ ap (λ b. cond b (Some (stronger n.mode (forests.get held n.name))) (forests.get held q)) (is_eq-slice_cmp q n.name)

need_kept : (held : Names) (n : Need) (q : List ℕ) → forests.get held q ≡ Some X → forests.get (with_need held n) q ≡ Some X
need_kept held n q h = get_with held n q ∙ same_or_not (bytes_eq q n.name) refl
  where
    same_or_not : (b : Bool) → bytes_eq q n.name ≡ b → cond b (Some (stronger n.mode (forests.get held n.name))) (forests.get held q) ≡ Some X
    same_or_not true e =
        ap Some (ap (stronger n.mode) (ap (forests.get held) (sym ((bytes_eq-Decides q n.name).0 e)) ∙ h) ∙ exclusive_stays n.mode)
    same_or_not false e = h

needs_kept : (asked : List Need) (held : Names) (q : List ℕ) → forests.get held q ≡ Some X → forests.get (with_needs asked held) q ≡ Some X
needs_kept [] held q h = h
needs_kept (n ∷ asked) held q h = needs_kept asked (with_need held n) q (need_kept held n q h)

need_put : (held : Names) (n : Need) (q : List ℕ) → is_exclusive n.mode ≡ true → bytes_eq n.name q ≡ true → forests.get (with_need held n) q ≡ Some X
need_put held n q mode same =
    get_with held n q
    ∙ ap (λ b. cond b (Some (stronger n.mode (forests.get held n.name))) (forests.get held q)) (turned n.name q same)
    ∙ ap Some (of_mode n.mode mode)
  where
    of_mode : (m : LockMode) → is_exclusive m ≡ true → stronger m (forests.get held n.name) ≡ X
    of_mode S e = absurd (true≢false (sym e))
    of_mode X e = refl

needs_put : (asked : List Need) (held : Names) (q : List ℕ) → has_exclusive q asked ≡ true → forests.get (with_needs asked held) q ≡ Some X
needs_put [] held q h = absurd (true≢false (sym h))
needs_put (n ∷ asked) held q h = by_case (needs_put asked (with_need held n) q) (is_exclusive n.mode) (bytes_eq n.name q) refl refl h
  where
    by_case : (has_exclusive q asked ≡ true → forests.get (with_needs (n ∷ asked) held) q ≡ Some X) → (a b : Bool) → is_exclusive n.mode ≡ a
        → bytes_eq n.name q ≡ b → ((a && b) || has_exclusive q asked) ≡ true
        → forests.get (with_needs (n ∷ asked) held) q ≡ Some X
    by_case rest true true mode same e = needs_kept asked (with_need held n) q (need_put held n q mode same)
    by_case rest true false mode same e = rest e
    by_case rest false b mode same e = rest e

found_exclusive : (es : List (List ℕ × LockMode)) (q : List ℕ) → forests.find (slice_cmp nat_cmp) q es ≡ Some X → has_exclusive q (map need_of es) ≡ true
found_exclusive [] q found = absurd (true≢false (sym (ap is_some found)))
found_exclusive (e ∷ es) q found =
    by_name (found_exclusive es q) (bytes_eq q e.0) refl
    (sym (ap (λ b. cond b (Some e.1) (forests.find (slice_cmp nat_cmp) q es)) (is_eq-slice_cmp q e.0)) ∙ found)
  where
    by_name : (forests.find (slice_cmp nat_cmp) q es ≡ Some X → has_exclusive q (map need_of es) ≡ true) → (b : Bool) → bytes_eq q e.0 ≡ b
        → cond b (Some e.1) (forests.find (slice_cmp nat_cmp) q es) ≡ Some X
        → ((is_exclusive e.1 && bytes_eq e.0 q) || has_exclusive q (map need_of es)) ≡ true
    by_name rest true same g = λ i. (is_exclusive (unwrap_or (g i) S) && turned q e.0 same i) || has_exclusive q (map need_of es)
    by_name rest false other g = or_right (is_exclusive e.1 && bytes_eq e.0 q) (has_exclusive q (map need_of es)) (rest g)

-- ---- the needs of a target

names_exclusive : (names : List (List ℕ)) (q : List ℕ) → IsAmong names q → has_exclusive q (map (λ name. record { name = name; mode = X }) names) ≡ true
names_exclusive [] q among = absurd (true≢false (sym among))
names_exclusive (name ∷ names) q among = by_name (names_exclusive names q) (bytes_eq q name) refl among
  where
    by_name : (IsAmong names q → has_exclusive q (map (λ name. record { name = name; mode = X }) names) ≡ true) → (b : Bool) → bytes_eq q name ≡ b
        → (b || list_any (bytes_eq q) names) ≡ true
        → (bytes_eq name q || has_exclusive q (map (λ name. record { name = name; mode = X }) names)) ≡ true
    by_name rest true same e = or_left (bytes_eq name q) (has_exclusive q (map (λ name. record { name = name; mode = X }) names)) (turned q name same)
    by_name rest false other e = or_right (bytes_eq name q) (has_exclusive q (map (λ name. record { name = name; mode = X }) names)) (rest e)

or_gives : (a b c : Bool) → (b ≡ true → c ≡ true) → (a || b) ≡ true → (a || c) ≡ true
or_gives true b c h e = refl
or_gives false b c h e = h e

in_front : (asked more : List Need) (q : List ℕ) → has_exclusive q asked ≡ true → has_exclusive q (asked ++ more) ≡ true
in_front [] more q e = absurd (true≢false (sym e))
in_front (n ∷ asked) more q e =
    or_gives (is_exclusive n.mode && bytes_eq n.name q) (has_exclusive q asked) (has_exclusive q (asked ++ more)) (in_front asked more q) e

in_rest : (asked more : List Need) (q : List ℕ) → has_exclusive q more ≡ true → has_exclusive q (asked ++ more) ≡ true
in_rest [] more q e = e
in_rest (n ∷ asked) more q e = or_right (is_exclusive n.mode && bytes_eq n.name q) (has_exclusive q (asked ++ more)) (in_rest asked more q e)

target_asked : (what : UpdateCall) (q : List ℕ) → IsAmong (documents (target_of what)) q → has_exclusive q (asked_by_update what) ≡ true
target_asked (update.Into source target) q among = in_rest (all_in S source) (all_in X target) q (names_exclusive (documents target) q among)
target_asked (update.Preceding source target) q among = in_rest (all_in S source) (all_in X target) q (names_exclusive (documents target) q among)
target_asked (update.Following source target) q among = in_rest (all_in S source) (all_in X target) q (names_exclusive (documents target) q among)
target_asked (update.Delete target) q among = names_exclusive (documents target) q among
target_asked (update.DeleteUndeep target) q among = names_exclusive (documents target) q among
target_asked (update.Replace name target by) q among = in_front (all_in X target) (all_in S by) q (names_exclusive (documents target) q among)
target_asked (update.Rename target name) q among = names_exclusive (documents target) q among

-- an update needs X on each document that its target expression names
pub target_needed : (what : UpdateCall) (q : List ℕ) → IsAmong (documents (target_of what)) q → has_exclusive q (needs (Update what)) ≡ true
target_needed what q among =
    let held = with_needs (asked_by_update what) forests.empty in
    found_exclusive (forests.entries held) q
    (sym (forests.get-entries held q) ∙ needs_put (asked_by_update what) forests.empty q (target_asked what q among))

is_needed : (asked : List Need) (q : List ℕ) → has_exclusive q asked ≡ true → has_need q asked ≡ true
is_needed [] q e = e
is_needed (n ∷ asked) q e = by_case (is_needed asked q) (is_exclusive n.mode) (bytes_eq n.name q) e
  where
    by_case : (has_exclusive q asked ≡ true → has_need q asked ≡ true) → (a b : Bool) → ((a && b) || has_exclusive q asked) ≡ true
        → (b || has_need q asked) ≡ true
    by_case rest a true h = refl
    by_case rest true false h = rest h
    by_case rest false false h = rest h

-- ---- an update

agree_at : (asked : List Need) (F G : Forest) → AgreeAt asked F G → (q : List ℕ) → has_need q asked ≡ true → forests.get F q ≡ forests.get G q
agree_at [] F G agree q e = absurd (true≢false (sym e))
agree_at (n ∷ asked) F G agree q e = by_name (agree_at asked F G agree.1 q) (bytes_eq n.name q) refl e
  where
    by_name : (has_need q asked ≡ true → forests.get F q ≡ forests.get G q) → (b : Bool) → bytes_eq n.name q ≡ b → (b || has_need q asked) ≡ true
        → forests.get F q ≡ forests.get G q
    by_name rest true same h = subst (λ name. forests.get F name ≡ forests.get G name) ((bytes_eq-Decides n.name q).0 same) agree.0
    by_name rest false other h = rest h

module _ (what : UpdateCall) where
  -- names that the update needs
  abbrev IsNeeded : List ℕ → Type 0
  IsNeeded q = has_need q (needs (Update what)) ≡ true

  module _ (F G : Forest) (agree : AgreeAt (needs (Update what)) F G) where
    made_alike : (r : Result (List Change × Made) Code) → Good (AreChangesNamed (forests.get F) what) r
        → EndAlike IsNeeded (updated_by F r) (updated_by G r)
    made_alike (Ok both) named =
        rebuilt_alike IsNeeded F G (by_document both.0)
        (by_document_of IsNeeded both.0 (each_gives (λ c. IsNamed (forests.get F) (documents (target_of what)) c.node.name) (λ c. IsNeeded c.node.name)
        (λ c is. is_needed (needs (Update what)) c.node.name (target_needed what c.node.name is.0)) both.0 named))
        (agree_at (needs (Update what)) F G agree)
    made_alike (Err code) named = refl

    updated_alike : EndAlike IsNeeded (updated F what) (updated G what)
    updated_alike =
        let t = changes_alike (forests.get F) (forests.get G) what (agree_asked F G (asked_by_update what) forests.empty agree) [] in
        subst (λ r. EndAlike IsNeeded (updated F what) (updated_by G r)) t.0 (made_alike (changes (forests.get F) what []) t.1)

    says_alike : (r r' : Result Forest Code) → EndAlike IsNeeded r r' → (changed r F).says ≡ (changed r' G).says
    says_alike (Ok H) (Ok K) e = refl
    says_alike (Ok H) (Err code) e = absurd e
    says_alike (Err code) (Ok K) e = absurd e
    says_alike (Err code) (Err other) e = ap error e

    leaves_alike : (r r' : Result Forest Code) → EndAlike IsNeeded r r' → AgreeAt (needs (Update what)) (changed r F).forest (changed r' G).forest
    leaves_alike (Ok H) (Ok K) e = agree_where (needs (Update what)) K H e
    leaves_alike (Ok H) (Err code) e = absurd e
    leaves_alike (Err code) (Ok K) e = absurd e
    leaves_alike (Err code) (Err other) e = agree

  module _ (F : Forest) (q : List ℕ) (free : has_exclusive q (needs (Update what)) ≡ false) where
    other_name : (name : List ℕ) (b : Bool) → bytes_eq name q ≡ b → IsAmong (documents (target_of what)) name → b ≡ false
    other_name name true same among =
        absurd (true≢false (sym (target_needed what q (subst (IsAmong (documents (target_of what))) ((bytes_eq-Decides name q).0 same) among)) ∙ free))
    other_name name false same among = refl

    made_keeps : (r : Result (List Change × Made) Code) → Good (AreChangesNamed (forests.get F) what) r → Fine (HasAs q F) (updated_by F r)
    made_keeps (Ok both) named =
        rebuilt_keeps q F (by_document both.0)
        (by_document_of (IsOther q) both.0 (each_gives (λ c. IsNamed (forests.get F) (documents (target_of what)) c.node.name) (λ c. IsOther q c.node.name)
        (λ c is. other_name c.node.name (bytes_eq c.node.name q) refl is.0) both.0 named))
    made_keeps (Err code) named = tt

    leaves_as : (r : Result Forest Code) → Fine (HasAs q F) r → forests.get (changed r F).forest q ≡ forests.get F q
    leaves_as (Ok G) e = e
    leaves_as (Err code) e = refl

  -- an update keeps to its needs
  pub update_keeps : KeepsToNeeds (Update what)
  update_keeps = record {
    says = λ F G same. says_alike F G same (updated F what) (updated G what) (updated_alike F G same);
    after = λ F G same. leaves_alike F G same (updated F what) (updated G what) (updated_alike F G same);
    elsewhere = λ F q free. leaves_as F q free (updated F what) (made_keeps F q free (changes (forests.get F) what []) (changes_named (forests.get F) what []));
  }
