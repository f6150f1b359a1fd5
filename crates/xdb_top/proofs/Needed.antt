-- The names in a call's needs stand in the call, so they are plain where the call's names are good.
use Rattle.std.proofs.Common.{◌≡◌, ℕ, true, IsTrue, ◌&&◌, List, [], ◌∷◌, ◌++◌, length, map, refl, sym, ap, subst, ◌∙◌, arith}
use Rattle.std.specs.List.{list_all}
use Rattle.std.specs.Ordering.{nat_cmp}
use Rattle.std.specs.Cmp.Lexicographic.{slice_cmp, nat_list_cmp_total}
use Rattle.std.specs.declared.cmp.Ordering.{Ordering}
use Rattle.std.specs.declared.cmp.Ordering.TheVariants.{Less, Equal, Greater}
use Rattle.std.specs.FinMap as fin
use Rattle.std.specs.FinMap.{put, entries, empty}
use Rattle.std.specs.FinMap.Entries.{by_order}
use Rattle.std.proofs.lemmas.Bool.{and_parts}
use Rattle.xq_ast.specs.declared.tree.Expr.{Expr}
use Rattle.xq_ast.specs.declared.update.Update.{Update}
use Rattle.xq_ast.specs.declared.update.Update.TheVariants as update
use Rattle.xq_ast.specs.declared.need.LockMode.{LockMode}
use Rattle.xq_ast.specs.declared.need.LockMode.TheVariants.{S, X}
use Rattle.xq_ast.specs.declared.need.Need.{Need}
use Rattle.xq_ast.specs.Names.{is_document_name}
use Rattle.xq_ast.specs.Documents.{documents}
use Rattle.xq_ast.specs.Everywhere.{everywhere}
use Rattle.xq_ast.specs.GoodNames.{naming, are_good_in, are_good_in_update}
use Rattle.doc_locks.specs.Names.{Names}
use Rattle.doc_locks.specs.Locks.{need_of, with_need, with_needs}
use Rattle.xml_model.specs.Needs.{all_in, asked_by_update, each_once}
use Rattle.xml_model.specs.Pyx.{IsPlain}
use Rattle.session_run.proofs.Plain.{plain_name}
use Rattle.xdb_top.specs.Typed.{Each}

-- what holds of each of two lists holds of each of both together
pub each-append : {A : Type 0} (Fact : A → Type 0) (xs ys : List A) → Each Fact xs → Each Fact ys → Each Fact (xs ++ ys)
each-append Fact [] ys each more = more
each-append Fact (x ∷ xs) ys each more = (each.0, each-append Fact xs ys each.1 more)

-- ---- what holds of all names that are asked for holds of all names that are listed

abbrev Entry : Type 0
Entry = List ℕ × LockMode

-- no name of the needs has a newline
abbrev pub HavePlainNames : List Need → Type 0
HavePlainNames asked = Each (λ (n : Need). IsPlain n.name) asked

abbrev ArePlainEntries : List Entry → Type 0
ArePlainEntries es = Each (λ (e : Entry). IsPlain e.0) es

put_plain : (k : List ℕ) (v : LockMode) (es : List Entry) → IsPlain k → ArePlainEntries es → ArePlainEntries (put (slice_cmp nat_cmp) k v es)
put_plain k v [] fact all = (fact, tt)
put_plain k v (e ∷ es) fact all = by (slice_cmp nat_cmp k e.0) (put_plain k v es fact all.1)
  where
    by : (o : Ordering) → ArePlainEntries (put (slice_cmp nat_cmp) k v es)
        → ArePlainEntries (by_order o ((k, v) ∷ e ∷ es) ((e.0, v) ∷ es) (e ∷ put (slice_cmp nat_cmp) k v es))
    by Less rest = (fact, all)
    by Equal rest = (all.0, all.1)
    by Greater rest = (all.0, rest)

added_plain : (names : Names) (n : Need) → IsPlain n.name → ArePlainEntries (entries names) → ArePlainEntries (entries (with_need names n))
added_plain names n fact all =
    subst ArePlainEntries (sym (fin.entries-insert nat_list_cmp_total names n.name _)) (put_plain n.name _ (entries names) fact all)

all_plain : (asked : List Need) (names : Names) → HavePlainNames asked → ArePlainEntries (entries names) → ArePlainEntries (entries (with_needs asked names))
all_plain [] names asked all = all
all_plain (n ∷ ns) names asked all = all_plain ns (with_need names n) asked.1 (added_plain names n asked.0 all)

no_entries : (es : List Entry) → length es ≡ 0 → ArePlainEntries es
no_entries [] none = tt
no_entries (e ∷ es) none = absurd (omega arith)

none_plain : (names : Names) → names ≡ empty → ArePlainEntries (entries names)
none_plain names is =
    no_entries (entries names) (sym (fin.len-entries names) ∙ (ap (λ (m : Names). fin.len m) is ∙ fin.len-empty (slice_cmp nat_cmp) LockMode))

listed_plain : (es : List Entry) → ArePlainEntries es → HavePlainNames (map need_of es)
listed_plain [] all = tt
listed_plain (e ∷ es) all = (all.0, listed_plain es all.1)

once_plain : (asked : List Need) → HavePlainNames asked → HavePlainNames (each_once asked)
once_plain asked all = listed_plain (entries (with_needs asked empty)) (all_plain asked empty all (none_plain empty refl))

-- ---- good names are plain

names_plain : (names : List (List ℕ)) (mode : LockMode) → list_all is_document_name names ≡ true
    → HavePlainNames (map (λ name. record { name = name; mode = mode }) names)
names_plain [] mode good = tt
names_plain (name ∷ names) mode good =
    let parts = and_parts (is_document_name name) (list_all is_document_name names) good in
    (plain_name name parts.0, names_plain names mode parts.1)

expr_plain : (mode : LockMode) (expr : Expr) → IsTrue (are_good_in expr) → HavePlainNames (all_in mode expr)
expr_plain mode expr good = names_plain (documents expr) mode (and_parts (list_all is_document_name (documents expr)) (everywhere naming expr) good).0

both_plain : (first second : LockMode) (a b : Expr) → IsTrue (are_good_in a && are_good_in b) → HavePlainNames (all_in first a ++ all_in second b)
both_plain first second a b good =
    let parts = and_parts (are_good_in a) (are_good_in b) good in
    each-append (λ (n : Need). IsPlain n.name) (all_in first a) (all_in second b) (expr_plain first a parts.0) (expr_plain second b parts.1)

asked_plain : (what : Update) → IsTrue (are_good_in_update what) → HavePlainNames (asked_by_update what)
asked_plain (update.Into source target) good = both_plain S X source target good
asked_plain (update.Preceding source target) good = both_plain S X source target good
asked_plain (update.Following source target) good = both_plain S X source target good
asked_plain (update.Delete target) good = expr_plain X target good
asked_plain (update.DeleteUndeep target) good = expr_plain X target good
asked_plain (update.Replace name target by) good = both_plain X S target by good
asked_plain (update.Rename target name) good = expr_plain X target (and_parts (are_good_in target) _ good).0

-- the needs of a query
pub query_plain : (expr : Expr) → IsTrue (are_good_in expr) → HavePlainNames (each_once (all_in S expr))
query_plain expr good = once_plain (all_in S expr) (expr_plain S expr good)

-- the needs of an update
pub update_plain : (what : Update) → IsTrue (are_good_in_update what) → HavePlainNames (each_once (asked_by_update what))
update_plain what good = once_plain (asked_by_update what) (asked_plain what good)
