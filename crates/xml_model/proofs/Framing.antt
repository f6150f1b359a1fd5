-- Forests at one name: where a document is put in or taken out, it is found or gone, and other names keep theirs.
use Rattle.std.proofs.Common.{◌≡◌, ℕ, true, false, cond, List, None, Some, ap, ◌∙◌}
use Rattle.std.specs.FinMap as forests
use Rattle.std.specs.Ordering.{nat_cmp, eq_by_cmp, is_eq}
use Rattle.std.specs.Cmp.{tied_itself}
use Rattle.std.specs.Cmp.Lexicographic.{slice_cmp, nat_list_cmp_total}
use Rattle.std.specs.Str.{bytes_eq}
use Rattle.std.proofs.lemmas.Map.Text.{is_eq-slice_cmp}
use Rattle.xml_model.specs.declared.node.Doc.{Doc}
use Rattle.xml_model.specs.Forest.{Forest}
use Rattle.xml_model.proofs.Lines.{bytes_eq_sym}

-- a name is tied with itself, and names of other bytes are not
tied : (name : List ℕ) → eq_by_cmp (slice_cmp nat_cmp) name name ≡ true
tied name = ap is_eq (tied_itself nat_list_cmp_total name)

apart : (q name : List ℕ) → bytes_eq name q ≡ false → eq_by_cmp (slice_cmp nat_cmp) q name ≡ false
apart q name other = is_eq-slice_cmp q name ∙ bytes_eq_sym name q other

-- a document that was put in is found at its name
pub get-put : (F : Forest) (name : List ℕ) (doc : Doc) → forests.get (forests.insert F name doc) name ≡ Some doc
get-put F name doc = forests.get-insert nat_list_cmp_total F name doc name ∙ ap (λ b. cond b (Some doc) (forests.get F name)) (tied name)

-- a document that is put in changes nothing at any other name
pub get-beside : (F : Forest) (name q : List ℕ) (doc : Doc) → bytes_eq name q ≡ false → forests.get (forests.insert F name doc) q ≡ forests.get F q
get-beside F name q doc other = forests.get-insert nat_list_cmp_total F name doc q ∙ ap (λ b. cond b (Some doc) (forests.get F q)) (apart q name other)

-- nothing is found at a name that was taken out
pub get-gone : (F : Forest) (name : List ℕ) → forests.get (forests.remove F name) name ≡ None
get-gone F name = forests.get-remove nat_list_cmp_total F name name ∙ ap (λ b. cond b None (forests.get F name)) (tied name)

-- a name that is taken out changes nothing at any other name
pub get-beside-gone : (F : Forest) (name q : List ℕ) → bytes_eq name q ≡ false → forests.get (forests.remove F name) q ≡ forests.get F q
get-beside-gone F name q other = forests.get-remove nat_list_cmp_total F name q ∙ ap (λ b. cond b None (forests.get F q)) (apart q name other)
