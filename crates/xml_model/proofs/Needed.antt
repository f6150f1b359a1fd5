-- The forest that has the documents of some needs alone.
use Rattle.std.proofs.Common.{◌≡◌, ℕ, ◌+◌, ◌<◌, Bool, true, false, ◌||◌, cond, List, [], ◌∷◌, ◌++◌, take, length, get_or, Option, None, Some, refl, sym, ap, subst, ◌∙◌}
use Rattle.std.specs.Cmp.{eq_by_cmp_equiv}
use Rattle.std.specs.Cmp.Lexicographic.{slice_cmp, nat_list_cmp_total}
use Rattle.std.specs.FinMap as map
use Rattle.std.specs.Ordering.{nat_cmp, eq_by_cmp}
use Rattle.std.specs.Str.{bytes_eq}
use Rattle.std.proofs.lemmas.List.{take_more}
use Rattle.std.proofs.lemmas.Map.Text.{is_eq-slice_cmp}
use Rattle.std.proofs.lemmas.Slice.Eq.{bytes_eq-Decides}
use Rattle.xq_ast.specs.declared.need.Need.{Need}
use Rattle.xml_model.specs.declared.node.Doc.{Doc}
use Rattle.xml_model.specs.Changes.{ChangeMap, with_document, laid_over}
use Rattle.xml_model.specs.Forest.{Forest, no_documents}
use Rattle.xml_model.specs.Needs.{has_need, AgreeAt}
use Rattle.xml_model.proofs.Laying.{laid-one}

-- G has the documents that F has at the needs, and no others
abbrev pub OnlyNeeded : List Need → Forest → Forest → Type 0
OnlyNeeded needs F G = (name : List ℕ) → map.get G name ≡ cond (has_need name needs) (map.get F name) None

-- no documents for no needs
pub none_needed : (F G : Forest) → G ≡ no_documents → OnlyNeeded [] F G
none_needed F G e name = ap (λ H. map.get H name) e ∙ map.get-empty (slice_cmp nat_cmp) name

-- ---- one need more

swapped : (a b c : Bool) → (a || (b || c)) ≡ (b || (a || c))
swapped true true c = refl
swapped true false c = refl
swapped false true c = refl
swapped false false c = refl

has_last : (name : List ℕ) (needs : List Need) (n : Need) → has_need name (needs ++ n ∷ []) ≡ (bytes_eq n.name name || has_need name needs)
has_last name [] n = refl
has_last name (m ∷ needs) n =
    ap (λ b. bytes_eq m.name name || b) (has_last name needs n) ∙ swapped (bytes_eq m.name name) (bytes_eq n.name name) (has_need name needs)

absent : (b : Bool) (o : Option Doc) → o ≡ None → cond b o None ≡ None
absent true o e = e
absent false o e = refl

put_or : (name : List ℕ) (n : Need) (has : Bool) (F G : Forest) (after : Option Doc) (b : Bool) → bytes_eq n.name name ≡ b → map.get F n.name ≡ after
    → map.get G name ≡ cond has (map.get F name) None → cond b after (map.get G name) ≡ cond (b || has) (map.get F name) None
put_or name n has F G after true same found e = sym found ∙ ap (map.get F) ((bytes_eq-Decides n.name name).0 same)
put_or name n has F G after false other found e = e

get_put : (name : List ℕ) (F G H : Forest) (n : Need) (after : Option Doc) (needs : List Need) → map.get F n.name ≡ after → OnlyNeeded needs F G
    → map.get H name ≡ cond (bytes_eq n.name name) after (map.get G name) → map.get H name ≡ cond (has_need name (needs ++ n ∷ [])) (map.get F name) None
get_put name F G H n after needs found only put =
    put ∙ put_or name n (has_need name needs) F G after (bytes_eq n.name name) refl found (only name)
    ∙ ap (λ b. cond b (map.get F name) None) (sym (has_last name needs n))

one_put : (needs : List Need) (n : Need) (F G : Forest) (doc : Doc) → map.get F n.name ≡ Some doc → OnlyNeeded needs F G
    → OnlyNeeded (needs ++ n ∷ []) F (with_document n.name (Some doc) G)
one_put needs n F G doc found only name =
    get_put name F G (map.insert G n.name doc) n (Some doc) needs found only
    (map.get-insert nat_list_cmp_total G n.name doc name ∙ ap (λ b. cond b (Some doc) (map.get G name)) (sym back))
  where
    back : bytes_eq n.name name ≡ eq_by_cmp (slice_cmp nat_cmp) name n.name
    back = sym (is_eq-slice_cmp n.name name) ∙ (eq_by_cmp_equiv nat_list_cmp_total).symm n.name name

one_absent : (needs : List Need) (n : Need) (F G : Forest) → map.get F n.name ≡ None → OnlyNeeded needs F G → OnlyNeeded (needs ++ n ∷ []) F G
one_absent needs n F G found only name = get_put name F G G n None needs found only (go (bytes_eq n.name name) refl)
  where
    go : (b : Bool) → bytes_eq n.name name ≡ b → map.get G name ≡ cond b None (map.get G name)
    go true same = only name ∙ absent (has_need name needs) (map.get F name) (ap (map.get F) (sym ((bytes_eq-Decides n.name name).0 same)) ∙ found)
    go false other = refl

taken : (needs : List Need) (i : ℕ) (n : Need) (F G : Forest) → i < length needs → n ≡ get_or needs i n → OnlyNeeded (take i needs ++ n ∷ []) F G
    → OnlyNeeded (take (i + 1) needs) F G
taken needs i n F G less is = subst (λ ns. OnlyNeeded ns F G) (sym (take_more needs i n less ∙ ap (λ m. take i needs ++ m ∷ []) (sym is)))

module _ (needs : List Need) (i : ℕ) (n : Need) (F : Forest) (old new : ChangeMap) (less : i < length needs) (is : n ≡ get_or needs i n)
    (only : OnlyNeeded (take i needs) F (laid_over old no_documents)) where
  -- the next need has a document, which is one change more
  pub next_put : (name : List ℕ) (doc : Doc) → map.get F n.name ≡ Some doc → name ≡ n.name → new ≡ map.insert old name (Some doc)
      → OnlyNeeded (take (i + 1) needs) F (laid_over new no_documents)
  next_put name doc found named more =
      taken needs i n F (laid_over new no_documents) less is
      (subst (OnlyNeeded (take i needs ++ n ∷ []) F)
      (sym (ap (λ changes. laid_over changes no_documents) (more ∙ ap (λ k. map.insert old k (Some doc)) named) ∙ laid-one old n.name (Some doc) no_documents))
      (one_put (take i needs) n F (laid_over old no_documents) doc found only))

  -- or it has none
  pub next_absent : map.get F n.name ≡ None → new ≡ old → OnlyNeeded (take (i + 1) needs) F (laid_over new no_documents)
  next_absent found same =
      taken needs i n F (laid_over new no_documents) less is
      (subst (OnlyNeeded (take i needs ++ n ∷ []) F) (ap (λ changes. laid_over changes no_documents) (sym same))
      (one_absent (take i needs) n F (laid_over old no_documents) found only))

-- ---- all needs

either : (b : Bool) (c : Bool) → c ≡ true → (b || c) ≡ true
either true c e = refl
either false c e = e

-- forests that have the same documents at each name of a list agree at it
pub agree_where : (needs : List Need) (F G : Forest) → ((name : List ℕ) → has_need name needs ≡ true → map.get G name ≡ map.get F name) → AgreeAt needs G F
agree_where [] F G same = tt
agree_where (n ∷ needs) F G same = (
  same n.name (ap (λ b. b || has_need n.name needs) ((bytes_eq-Decides n.name n.name).1 refl)),
  agree_where needs F G (λ name h. same name (either (bytes_eq n.name name) (has_need name needs) h)),
)

-- such a forest agrees at the needs
pub needed_agree : (needs : List Need) (F G : Forest) → OnlyNeeded needs F G → AgreeAt needs G F
needed_agree needs F G only = agree_where needs F G (λ name h. only name ∙ ap (λ b. cond b (map.get F name) None) h)

-- and has no documents elsewhere
pub others_absent : (needs : List Need) (F G : Forest) → OnlyNeeded needs F G → (name : List ℕ) → has_need name needs ≡ false → map.get G name ≡ None
others_absent needs F G only name h = only name ∙ ap (λ b. cond b (map.get F name) None) h
