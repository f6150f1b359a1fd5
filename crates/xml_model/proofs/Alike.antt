-- Properties of each element of a list, and makings that answer alike: from all constructed trees they have the same
-- result, and its value has a property.
use Rattle.std.specs.Prelude.{◌≡◌, Bool, true, false, if◌then◌else◌, List, [], ◌∷◌, ◌++◌, map, filter, Result, Ok, Err, refl}
use Rattle.std.proofs.Common.{ap, ◌∙◌}
use Rattle.std.specs.declared.cmp.Ordering.{Ordering}
use Rattle.std.specs.declared.cmp.Ordering.TheVariants.{Less, Equal, Greater}
use Rattle.xq_ast.specs.declared.code.Code.{Code}
use Rattle.xml_model.specs.DocumentOrder.{by_first, into, union, in_order}
use Rattle.xml_model.specs.Items.{Made, Making, give, fail, plain, look, then_with, ◌>>=◌, ◌>>?◌}

-- ---- lists

-- each element has the property
abbrev pub Each : {A : Type 0} → (A → Type 0) → List A → Type 0
Each P [] = Unit {0}
Each P (x ∷ xs) = P x × Each P xs

-- one property gives the other
pub each_gives : {A : Type 0} (P Q : A → Type 0) → ((x : A) → P x → Q x) → (xs : List A) → Each P xs → Each Q xs
each_gives P Q gives [] h = tt
each_gives P Q gives (x ∷ xs) h = (gives x h.0, each_gives P Q gives xs h.1)

module _ {A : Type 0} (P : A → Type 0) where
  -- lists one after the other
  pub each_append : (xs ys : List A) → Each P xs → Each P ys → Each P (xs ++ ys)
  each_append [] ys g h = h
  each_append (x ∷ xs) ys g h = (g.0, each_append xs ys g.1 h)

  -- the first of them, and the second
  pub each_front : (xs ys : List A) → Each P (xs ++ ys) → Each P xs
  each_front [] ys h = tt
  each_front (x ∷ xs) ys h = (h.0, each_front xs ys h.1)

  -- the second of them
  pub each_rest : (xs ys : List A) → Each P (xs ++ ys) → Each P ys
  each_rest [] ys h = h
  each_rest (x ∷ xs) ys h = each_rest xs ys h.1

  -- an element that stays or goes
  pub each_if : (b : Bool) (x : A) (xs : List A) → P x → Each P xs → Each P (if b then x ∷ xs else xs)
  each_if true x xs g h = (g, h)
  each_if false x xs g h = h

  -- those that pass a test
  pub each_filter : (test : A → Bool) (xs : List A) → Each P xs → Each P (filter test xs)
  each_filter test [] h = tt
  each_filter test (x ∷ xs) h = each_if (test x) x (filter test xs) h.0 (each_filter test xs h.1)

  -- what a function makes
  pub each_map : {X : Type 0} (f : X → A) → ((x : X) → P (f x)) → (xs : List X) → Each P (map f xs)
  each_map f h [] = tt
  each_map f h (x ∷ xs) = (h x, each_map f h xs)

  module _ (cmp : A → A → Ordering) where
    each_by_first : (o : Ordering) (x y : A) (a b c : List A) → P x → P y → Each P a → Each P b → Each P c → Each P (by_first cmp o x y a b c)
    each_by_first Less x y a b c g h i j k = (g, i)
    each_by_first Equal x y a b c g h i j k = (g, j)
    each_by_first Greater x y a b c g h i j k = (h, k)

    each_into : (x : A) (rest : List A → List A) → P x → ((ys : List A) → Each P ys → Each P (rest ys)) → (ys : List A) → Each P ys
        → Each P (into cmp x rest ys)
    each_into x rest g h [] k = (g, h [] tt)
    each_into x rest g h (y ∷ ys) k =
        each_by_first (cmp x y) x y (rest (y ∷ ys)) (rest ys) (into cmp x rest ys) g k.0 (h (y ∷ ys) k) (h ys k.1) (each_into x rest g h ys k.1)

    -- two lists as one
    pub each_union : (xs ys : List A) → Each P xs → Each P ys → Each P (union cmp xs ys)
    each_union [] ys g h = h
    each_union (x ∷ xs) ys g h = each_into x (union cmp xs) g.0 (λ zs k. each_union xs zs g.1 k) ys h

    -- a list in order
    pub each_in_order : (xs : List A) → Each P xs → Each P (in_order cmp xs)
    each_in_order [] h = tt
    each_in_order (x ∷ xs) h = each_union (x ∷ []) (in_order cmp xs) (h.0, tt) (each_in_order xs h.1)

-- tests that agree at each element leave the same ones
pub filter_same : {A : Type 0} (test test' : A → Bool) (xs : List A) → Each (λ x. test x ≡ test' x) xs → filter test xs ≡ filter test' xs
filter_same test test' [] h = refl
filter_same test test' (x ∷ xs) h = λ i. if h.0 i then x ∷ filter_same test test' xs h.1 i else filter_same test test' xs h.1 i

-- ---- results

-- anything
abbrev pub Any : {A : Type 0} → A → Type 0
Any x = Unit {0}

-- the value has the property, where there is one
abbrev pub Fine : {A : Type 0} → (A → Type 0) → Result A Code → Type 0
Fine G (Ok x) = G x
Fine G (Err code) = Unit {0}

-- each value has it
pub any_fine : {A : Type 0} (r : Result A Code) → Fine Any r
any_fine (Ok x) = tt
any_fine (Err code) = tt

module _ {A B : Type 0} (G : A → Type 0) (H : B → Type 0) where
  -- one after the other
  pub fine_then : (f : A → Result B Code) → ((x : A) → G x → Fine H (f x)) → (r : Result A Code) → Fine G r → Fine H (r >>? f)
  fine_then f h (Ok x) g = h x g
  fine_then f h (Err code) g = tt

  -- a second that agrees where the first has the property
  pub same_then : (f f' : A → Result B Code) → ((x : A) → G x → f x ≡ f' x) → (r : Result A Code) → Fine G r → (r >>? f) ≡ (r >>? f')
  same_then f f' h (Ok x) g = h x g
  same_then f f' h (Err code) g = refl

-- ---- makings

-- the same of a result with trees
abbrev pub Good : {A : Type 0} → (A → Type 0) → Result (A × Made) Code → Type 0
Good G (Ok both) = G both.0
Good G (Err code) = Unit {0}

-- the same result from all trees, with a value that has the property
abbrev pub Alike : {A : Type 0} → (A → Type 0) → Making A → Making A → Type 0
Alike G m m' = (made : Made) → (m made ≡ m' made) × Good G (m made)

module _ {A : Type 0} (G : A → Type 0) where
  -- a value that has the property
  pub give_alike : (x : A) → G x → Alike G (give x) (give x)
  give_alike x g made = (refl, g)

  -- a code
  pub fail_alike : (code : Code) → Alike G (fail code) (fail code)
  fail_alike code made = (refl, tt)

  -- a result whose value has the property
  pub plain_good : (r : Result A Code) (made : Made) → Fine G r → Good G (plain r made)
  plain_good (Ok x) made g = g
  plain_good (Err code) made g = tt

  -- a result
  pub plain_alike : (r : Result A Code) → Fine G r → Alike G (plain r) (plain r)
  plain_alike r g made = (refl, plain_good r made g)

  -- what only looks at the trees
  pub look_alike : (f f' : Made → Result A Code) → ((made : Made) → (f made ≡ f' made) × Fine G (f made)) → Alike G (look f) (look f')
  look_alike f f' h made = (ap (λ r. plain r made) (h made).0, plain_good (f made) made (h made).1)

module _ {A B : Type 0} (G : A → Type 0) (H : B → Type 0) where
  -- a value that has the property gives one that has the next
  pub good_then : (f : A → Making B) → ((x : A) → G x → (made : Made) → Good H (f x made)) → (r : Result (A × Made) Code) → Good G r → Good H (then_with r f)
  good_then f h (Ok both) g = h both.0 g both.1
  good_then f h (Err code) g = tt

  then_alike : (f f' : A → Making B) → ((x : A) → G x → Alike H (f x) (f' x)) → (r : Result (A × Made) Code) → Good G r
      → (then_with r f ≡ then_with r f') × Good H (then_with r f)
  then_alike f f' h (Ok both) g = h both.0 g both.1
  then_alike f f' h (Err code) g = (refl, tt)

  -- one after the other
  pub bind_alike : (m m' : Making A) (f f' : A → Making B) → Alike G m m' → ((x : A) → G x → Alike H (f x) (f' x)) → Alike H (m >>= f) (m' >>= f')
  bind_alike m m' f f' a b made =
      let t = then_alike f f' b (m made) (a made).1 in
      (t.0 ∙ ap (λ r. then_with r f') (a made).0, t.1)
