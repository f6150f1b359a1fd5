-- In the end no element of a document has two attributes of one name, form by form.
use Rattle.std.proofs.Common.{◌≡◌, ℕ, ◌+◌, Bool, true, false, ◌||◌, if◌then◌else◌, IfSome, List, [], ◌∷◌, ◌++◌, Option, None, Some, Result, Ok, Err, refl, sym, ap, subst, ◌∙◌}
use Rattle.std.specs.FinMap as fin_map
use Rattle.std.specs.List.{list_any}
use Rattle.std.specs.Option.{option_map}
use Rattle.std.specs.Prelude.{bytes_eq, unwrap_or}
use Rattle.std.proofs.lemmas.Bool.{false≢true}
use Rattle.std.proofs.lemmas.List.{append-nil, append_assoc}
use Rattle.xq_ast.specs.declared.code.Code.{Code}
use Rattle.xq_ast.specs.declared.code.Code.TheVariants.{XPTY0004, XQDY0025}
use Rattle.xq_ast.specs.declared.update.Update.{Update}
use Rattle.xq_ast.specs.declared.update.Update.TheVariants as update
use Rattle.xml_model.specs.declared.edit.EditKind.{EditKind}
use Rattle.xml_model.specs.declared.edit.EditKind.TheVariants as edit
use Rattle.xml_model.specs.declared.node.Attr.{Attr}
use Rattle.xml_model.specs.declared.node.Doc.{Doc}
use Rattle.xml_model.specs.declared.node.Node.{Node, Element', Text, Pi, out-Node}
use Rattle.xml_model.specs.declared.node.Node.TheOpen.{Node-F}
use Rattle.xml_model.specs.declared.node.Node.TheVariants.{outs-Element', outs-Text, outs-Pi}
use Rattle.xml_model.specs.declared.place.PlaceStep.{PlaceStep}
use Rattle.xml_model.specs.declared.place.PlaceStep.TheVariants as steps
use Rattle.xml_model.specs.Constructors.{has_name_twice}
use Rattle.xml_model.specs.Edits.{Change, Content, done_in, standing_at, named_once, names_twice, goes_on, element_of, without_attributes, with_attributes_alone, into_layer, into, beside, unless_document, in_place_of, renamed_layer, renamed, stands_in, outermost, each, each_alone, content, targets, insert_into, insert_beside, delete, replaced, changes}
use Rattle.xml_model.specs.Evaluation.{meaning}
use Rattle.xml_model.specs.Forest.{Forest, IsForest}
use Rattle.xml_model.specs.GoodEdits.{with_more}
use Rattle.xml_model.specs.Items.{Documents, stored, node, Made, Making, plain, then_with, ◌>>=◌, ◌>>?◌}
use Rattle.xml_model.specs.Nav.{Stored}
use Rattle.xml_model.specs.Nodes.{no_nodes}
use Rattle.xml_model.specs.Place.{Placed, the_document, a_node, an_attribute, attrs_in, attrs_of, placed, placed_from}
use Rattle.xml_model.specs.Rebuild.{EditsIn, edited_attribute, edited_attributes}
use Rattle.xml_model.specs.Trees.{has_attribute}
use Rattle.xml_model.specs.Tuples.{Means}
use Rattle.xml_model.proofs.Alike.{Each, each_gives}
use Rattle.xml_model.proofs.Formed.{AreAttributes}
use Rattle.xml_model.proofs.WellFormed.{IsWellFormed, forest_documents, well_at}
use Rattle.xq_edits.proofs.NamesOnce.{found_there, attributes_stay, Turns, turns_differ}

-- ---- values and codes

abbrev is_ok : {A : Type 0} → Result A Code → Bool
is_ok (Ok x) = true
is_ok (Err code) = false

abbrev value_or : {A : Type 0} → A → Result A Code → A
value_or x (Ok y) = y
value_or x (Err code) = x

no_code : {A : Type 0} (code : Code) (x : A) → ◌≡◌ {A = Result A Code} (Err code) (Ok x) → ⊥
no_code code x e = false≢true (ap is_ok e)

-- values that came are the same
pub same_value : {A : Type 0} (x y : A) → ◌≡◌ {A = Result A Code} (Ok x) (Ok y) → x ≡ y
same_value x y e = ap (value_or x) e

-- what went before a value that came
pub before : {A B : Type 0} (r : Result (A × Made) Code) (f : A → Making B) (y : B × Made) → then_with r f ≡ Ok y
    → (both : A × Made) × ((r ≡ Ok both) × (f both.0 both.1 ≡ Ok y))
before (Ok both) f y e = (both, (refl, e))
before (Err code) f y e = absurd (no_code code y e)

-- the same of results alone
pub before_plain : {A B : Type 0} (r : Result A Code) (f : A → Result B Code) (y : B) → (r >>? f) ≡ Ok y → (x : A) × ((r ≡ Ok x) × (f x ≡ Ok y))
before_plain (Ok x) f y e = (x, (refl, e))
before_plain (Err code) f y e = absurd (no_code code y e)

-- a result behind trees that stay
pub of_plain : {A : Type 0} (r : Result A Code) (made : Made) (y : A × Made) → plain r made ≡ Ok y → r ≡ Ok y.0
of_plain (Ok x) made y e = ap (λ b. Ok b.0) (same_value (x, made) y e)
of_plain (Err code) made y e = absurd (no_code code y e)

-- ---- target by target

module _ (docs : Documents) where
  module _ (P : List Change → Stored → List Stored → EditKind → Type 0) where
    -- each change is one that its turn allows
    abbrev pub Allowed : List Change → List Stored → List Change → Type 0
    Allowed done [] [] = Unit {0}
    Allowed done [] (c ∷ new) = ⊥
    Allowed done (n ∷ ns) [] = ⊥
    Allowed done (n ∷ ns) (c ∷ new) = (c.node ≡ n) × P done n ns c.what × Allowed (done ++ c ∷ []) ns new

    module _ (go : List Change → Stored → List Stored → Making EditKind)
        (allows : (done : List Change) (n : Stored) (ns : List Stored) (made : Made) (y : EditKind × Made) → go done n ns made ≡ Ok y → P done n ns y.0) where
      -- the first change, where what is made of the others is known
      first_allowed : (done : List Change) (n : Stored) (ns : List Stored) (made : Made) (y : List Change × Made)
          → ((c : Change) (later : Made) → each docs go (done ++ c ∷ []) ns later ≡ Ok y → (new : List Change) × ((y.0 ≡ (done ++ c ∷ []) ++ new) × Allowed (done ++ c ∷ []) ns new))
          → (r : Result (EditKind × Made) Code) → go done n ns made ≡ r
          → then_with r (λ what. each docs go (done ++ record { node = n; what = what } ∷ []) ns) ≡ Ok y
          → (new : List Change) × ((y.0 ≡ done ++ new) × Allowed done (n ∷ ns) new)
      first_allowed done n ns made y rest (Err code) is e = absurd (no_code code y e)
      first_allowed done n ns made y rest (Ok both) is e =
          let c : Change = record { node = n; what = both.0 } in
          let more = rest c both.1 e in
          (c ∷ more.0, (more.1.0 ∙ append_assoc done (c ∷ []) more.0, (refl, allows done n ns made both is, more.1.1)))

      -- the changes after those that were made before, each allowed in its turn
      pub each_allowed : (done : List Change) (ns : List Stored) (made : Made) (y : List Change × Made) → each docs go done ns made ≡ Ok y
          → (new : List Change) × ((y.0 ≡ done ++ new) × Allowed done ns new)
      each_allowed done [] made y e = ([], (sym (ap (λ b. b.0) (same_value (done, made) y e)) ∙ sym (append-nil done), tt))
      each_allowed done (n ∷ ns) made y e = first_allowed done n ns made y (λ c later is. each_allowed (done ++ c ∷ []) ns later y is) (go done n ns made) refl e

    each_has : (Q : Stored → EditKind → Type 0) → ((done : List Change) (n : Stored) (ns : List Stored) (what : EditKind) → P done n ns what → Q n what)
        → (done : List Change) (ns : List Stored) (new : List Change) → Allowed done ns new → Each (λ c. Q c.node c.what) new
    each_has Q gives done [] [] h = tt
    each_has Q gives done [] (c ∷ new) h = absurd h
    each_has Q gives done (n ∷ ns) [] h = absurd h
    each_has Q gives done (n ∷ ns) (c ∷ new) h = (gives done c.node ns c.what (subst (λ m. P done m ns c.what) (sym h.0) h.1), each_has Q gives (done ++ c ∷ []) ns new h.2)

  -- each target by itself: each change is what its target may have
  alone_has : (may : Placed → Result EditKind Code) (ns : List Stored) (made : Made) (y : List Change × Made) → each_alone docs may ns made ≡ Ok y
      → Each (λ (c : Change). may (standing_at docs c.node) ≡ Ok c.what) y.0
  alone_has may ns made y e =
      let P : List Change → Stored → List Stored → EditKind → Type 0 = λ done n more what. may (standing_at docs n) ≡ Ok what in
      let all = each_allowed P (λ done n more. plain (may (standing_at docs n))) (λ done n more made y is. of_plain (may (standing_at docs n)) made y is) [] ns made y e in
      subst (Each (λ (c : Change). may (standing_at docs c.node) ≡ Ok c.what)) (sym all.1.0)
      (each_has P (λ n what. may (standing_at docs n) ≡ Ok what) (λ done n more what h. h) [] ns all.0 all.1.1)

-- ---- one element

distinct : (attrs : List Attr) → AreAttributes attrs → has_name_twice attrs ≡ false
distinct [] h = refl
distinct (a ∷ attrs) h = ap (λ b. b || has_name_twice attrs) h.1 ∙ distinct attrs h.2

node_distinct : (n : Node) → IsWellFormed (a_node n) → has_name_twice (attrs_in (out-Node n)) ≡ false
node_distinct (Element' name attrs s row) w = ap (λ l. has_name_twice (attrs_in l)) (outs-Element' name attrs s row) ∙ distinct attrs (w refl).1
node_distinct (Text value) w = ap (λ l. has_name_twice (attrs_in l)) (outs-Text value)
node_distinct (Pi target value) w = ap (λ l. has_name_twice (attrs_in l)) (outs-Pi target value)

pub placed_distinct : (from : Placed) → IsWellFormed from → has_name_twice (attrs_of from) ≡ false
placed_distinct (the_document doc) w = refl
placed_distinct (a_node n) w = node_distinct n w
placed_distinct (an_attribute a) w = refl

-- an edit that leaves attributes as they are
abbrev Keeps : EditKind → Type 0
Keeps what = (a : Attr) → edited_attribute a (Some what) ≡ a ∷ []

-- one that leaves them or takes them away
abbrev Thins : EditKind → Type 0
Thins what = (b : Bool) × ((a : Attr) → edited_attribute a (Some what) ≡ (if b then a ∷ [] else []))

-- one that brings none to an element
abbrev AddsNone : EditKind → Type 0
AddsNone what = (attrs : List Attr) → with_more attrs (Some what) ≡ attrs

kept : (o : Option EditKind) → IfSome o Keeps → (a : Attr) → edited_attribute a o ≡ a ∷ []
kept None h a = refl
kept (Some what) h a = h a

added_none : (o : Option EditKind) → IfSome o AddsNone → (attrs : List Attr) → with_more attrs o ≡ attrs
added_none None h attrs = refl
added_none (Some what) h attrs = h attrs

pub neither : (a b : Bool) → (a || b) ≡ false → (a ≡ false) × (b ≡ false)
neither true b h = absurd (false≢true (sym h))
neither false b h = (refl, h)

thinned : (o : Option EditKind) → IfSome o Thins → (a : Attr) → (b : Bool) × (edited_attribute a o ≡ (if b then a ∷ [] else []))
thinned None h a = (true, refl)
thinned (Some what) h a = (h.0, h.1 a)

lacks_by : (name : List ℕ) (a : Attr) (b : Bool) (rest : List Attr) → bytes_eq a.name name ≡ false → has_attribute name rest ≡ false
    → has_attribute name ((if b then a ∷ [] else []) ++ rest) ≡ false
lacks_by name a true rest h g = ap (λ c. c || has_attribute name rest) h ∙ g
lacks_by name a false rest h g = g

-- of attributes that are left none has a name that none had
thinner_lacks : (at : EditsIn) → ((place : List PlaceStep) → IfSome (at place) Thins) → (name : List ℕ) (i : ℕ) (attrs : List Attr) → has_attribute name attrs ≡ false
    → has_attribute name (edited_attributes at i attrs) ≡ false
thinner_lacks at thin name i [] h = refl
thinner_lacks at thin name i (a ∷ attrs) h =
    let parts = neither (bytes_eq a.name name) (has_attribute name attrs) h in
    let t = thinned (at (steps.Attr i ∷ [])) (thin (steps.Attr i ∷ [])) a in
    ap (λ front. has_attribute name (front ++ edited_attributes at (i + 1) attrs)) t.1
    ∙ lacks_by name a t.0 (edited_attributes at (i + 1) attrs) parts.0 (thinner_lacks at thin name (i + 1) attrs parts.1)

twice_by : (a : Attr) (b : Bool) (rest : List Attr) → has_attribute a.name rest ≡ false → has_name_twice rest ≡ false
    → has_name_twice ((if b then a ∷ [] else []) ++ rest) ≡ false
twice_by a true rest h g = ap (λ c. c || has_name_twice rest) h ∙ g
twice_by a false rest h g = g

-- and no two of them have one name, where no two had
thinner : (at : EditsIn) → ((place : List PlaceStep) → IfSome (at place) Thins) → (i : ℕ) (attrs : List Attr) → has_name_twice attrs ≡ false
    → has_name_twice (edited_attributes at i attrs) ≡ false
thinner at thin i [] h = refl
thinner at thin i (a ∷ attrs) h =
    let parts = neither (has_attribute a.name attrs) (has_name_twice attrs) h in
    let t = thinned (at (steps.Attr i ∷ [])) (thin (steps.Attr i ∷ [])) a in
    ap (λ front. has_name_twice (front ++ edited_attributes at (i + 1) attrs)) t.1
    ∙ twice_by a t.0 (edited_attributes at (i + 1) attrs) (thinner_lacks at thin a.name (i + 1) attrs parts.0) (thinner at thin (i + 1) attrs parts.1)

-- ---- one element of a document of a forest

-- what holds of a value that is there gives another fact of it
some_gives : (P Q : EditKind → Type 0) → ((what : EditKind) → P what → Q what) → (o : Option EditKind) → IfSome o P → IfSome o Q
some_gives P Q f None h = tt
some_gives P Q f (Some what) h = f what h

by_own : (attrs : List Attr) (o : Option EditKind) → IfSome o (λ what. has_name_twice (with_more attrs (Some what)) ≡ false) → has_name_twice attrs ≡ false
    → has_name_twice (with_more attrs o) ≡ false
by_own attrs None own d = d
by_own attrs (Some what) own d = own

module _ (F : Forest) (valid : IsForest F) (name : List ℕ) (doc : Doc) (found : fin_map.get F name ≡ Some doc) (place : List PlaceStep) (from : Placed)
    (is : placed doc place ≡ Some from) where
  abbrev docs : Documents
  docs = fin_map.get F

  there : standing_at docs (record { name = name; place = place }) ≡ from
  there = ap (λ o. unwrap_or (placed_from place (option_map the_document o)) no_nodes) found ∙ ap (λ o. unwrap_or o no_nodes) is

  at_first : has_name_twice (attrs_of from) ≡ false
  at_first = placed_distinct from
      (subst (λ o. IfSome o IsWellFormed) (ap (λ o. placed_from place (option_map the_document o)) found ∙ is)
      (well_at docs [] (record { tree = stored name; place = place }) (forest_documents F valid) tt))

  -- what is asked: of the attributes of the element after these changes no two have one name
  abbrev Differ : List Change → Type 0
  Differ cs = has_name_twice (with_more (edited_attributes (λ s. done_in name cs (place ++ s)) 0 (attrs_of from)) (done_in name cs place)) ≡ false

  -- changes that leave attributes as they are, where the one at the element itself brings no second name
  kept_differ : (cs : List Change) → Each (λ (c : Change). Keeps c.what) cs
      → IfSome (done_in name cs place) (λ what. has_name_twice (with_more (attrs_of from) (Some what)) ≡ false) → Differ cs
  kept_differ cs keep own =
      ap (λ attrs. has_name_twice (with_more attrs (done_in name cs place)))
      (attributes_stay (λ s. done_in name cs (place ++ s)) 0 (attrs_of from)
      (λ k. kept (done_in name cs (place ++ steps.Attr k ∷ [])) (found_there (λ n what. Keeps what) name (place ++ steps.Attr k ∷ []) cs keep)))
      ∙ by_own (attrs_of from) (done_in name cs place) own at_first

  -- changes that take attributes away
  thinned_differ : (cs : List Change) → Each (λ (c : Change). Thins c.what) cs → Each (λ (c : Change). AddsNone c.what) cs → Differ cs
  thinned_differ cs thin none =
      ap has_name_twice (added_none (done_in name cs place) (found_there (λ n what. AddsNone what) name place cs none) (edited_attributes (λ s. done_in name cs (place ++ s)) 0 (attrs_of from)))
      ∙ thinner (λ s. done_in name cs (place ++ s)) (λ s. found_there (λ n what. Thins what) name (place ++ s) cs thin) 0 (attrs_of from) at_first

  -- what a turn of replacing or renaming allows
  abbrev Named : List Change → Stored → List Stored → EditKind → Type 0
  Named done n ns what = (named_once docs done ns (record { node = n; what = what }) ≡ Ok what) × AddsNone what

  turns_of : (done : List Change) (ns : List Stored) (new : List Change) → Allowed docs Named done ns new → Turns docs done ns new
  turns_of done [] [] h = tt
  turns_of done [] (c ∷ new) h = absurd h
  turns_of done (n ∷ ns) [] h = absurd h
  turns_of done (n ∷ ns) (c ∷ new) h =
      (h.0, subst (λ m. named_once docs done ns (record { node = m; what = c.what }) ≡ Ok c.what) (sym h.0) h.1.0, turns_of (done ++ c ∷ []) ns new h.2)

  turned_differ : (go : List Change → Stored → List Stored → Making EditKind)
      → ((done : List Change) (n : Stored) (ns : List Stored) (made : Made) (y : EditKind × Made) → go done n ns made ≡ Ok y → Named done n ns y.0)
      → (ns : List Stored) (made : Made) (y : List Change × Made) → each docs go [] ns made ≡ Ok y → Differ y.0
  turned_differ go allows ns made y e =
      let all = each_allowed docs Named go allows [] ns made y e in
      let none : Each (λ (c : Change). AddsNone c.what) all.0 = each_has docs Named (λ n what. AddsNone what) (λ done n ns what h. h.1) [] ns all.0 all.1.1 in
      subst Differ (sym all.1.0)
      (ap has_name_twice (added_none (done_in name all.0 place) (found_there (λ n what. AddsNone what) name place all.0 none) (edited_attributes (λ s. done_in name all.0 (place ++ s)) 0 (attrs_of from)))
      ∙ turns_differ docs name place from there ns all.0 (turns_of [] ns all.0 all.1.1) at_first)

  -- ---- insertions

  -- an edit that keeps attributes and brings no name twice to this element
  abbrev IsInto : Placed → EditKind → Type 0
  IsInto it what = Keeps what × (has_name_twice (with_more (attrs_of it) (Some what)) ≡ false)

  by_test : (attrs : List Attr) (c : Content) (what : EditKind) (b : Bool) → has_name_twice (attrs ++ c.attrs) ≡ b
      → (if b then Err XQDY0025 else Ok (edit.Into c.attrs c.kids)) ≡ Ok what → Keeps what × (has_name_twice (with_more attrs (Some what)) ≡ false)
  by_test attrs c what true t e = absurd (no_code XQDY0025 what e)
  by_test attrs c what false t e =
      subst (λ w. Keeps w × (has_name_twice (with_more attrs (Some w)) ≡ false)) (same_value (edit.Into c.attrs c.kids) what e) (λ a. refl, t)

  into_layer_is : (c : Content) (l : Node-F Node) (what : EditKind) → into_layer c l ≡ Ok what → Keeps what × (has_name_twice (with_more (attrs_in l) (Some what)) ≡ false)
  into_layer_is c (Node-F.Element n attrs kids) what e = by_test attrs c what (has_name_twice (attrs ++ c.attrs)) refl e
  into_layer_is c (Node-F.Text value) what e = absurd (no_code XPTY0004 what e)
  into_layer_is c (Node-F.Pi target value) what e = absurd (no_code XPTY0004 what e)

  into_is : (c : Content) (it : Placed) (what : EditKind) → into c it ≡ Ok what → IsInto it what
  into_is c (the_document d) what e =
      let b = before_plain (without_attributes c) (λ kids. Ok (edit.Into [] kids)) what e in
      subst (IsInto (the_document d)) (same_value (edit.Into [] b.0) what b.1.1) (λ a. refl, refl)
  into_is c (a_node n) what e = into_layer_is c (out-Node n) what e
  into_is c (an_attribute a) what e = absurd (no_code XPTY0004 what e)

  into_differ : (c : Content) (ns : List Stored) (made : Made) (y : List Change × Made) → each_alone docs (into c) ns made ≡ Ok y → Differ y.0
  into_differ c ns made y e =
      let all : Each (λ (d : Change). IsInto (standing_at docs d.node) d.what) y.0 =
      each_gives (λ (d : Change). into c (standing_at docs d.node) ≡ Ok d.what) (λ (d : Change). IsInto (standing_at docs d.node) d.what)
      (λ d h. into_is c (standing_at docs d.node) d.what h) y.0 (alone_has docs (into c) ns made y e) in
      kept_differ y.0 (each_gives (λ (d : Change). IsInto (standing_at docs d.node) d.what) (λ (d : Change). Keeps d.what) (λ d h. h.0) y.0 all)
      (some_gives (λ what. has_name_twice (with_more (attrs_of (standing_at docs (record { name = name; place = place }))) (Some what)) ≡ false)
      (λ what. has_name_twice (with_more (attrs_of from) (Some what)) ≡ false)
      (λ what h. subst (λ it. has_name_twice (with_more (attrs_of it) (Some what)) ≡ false) there h)
      (done_in name y.0 place)
      (found_there (λ n what. has_name_twice (with_more (attrs_of (standing_at docs n)) (Some what)) ≡ false) name place y.0
      (each_gives (λ (d : Change). IsInto (standing_at docs d.node) d.what) (λ (d : Change). has_name_twice (with_more (attrs_of (standing_at docs d.node)) (Some d.what)) ≡ false) (λ d h. h.1) y.0 all)))

  beside_is : (put : EditKind) (it : Placed) (what : EditKind) → beside put it ≡ Ok what → put ≡ what
  beside_is put (the_document d) what e = absurd (no_code XPTY0004 what e)
  beside_is put (a_node n) what e = same_value put what e
  beside_is put (an_attribute a) what e = absurd (no_code XPTY0004 what e)

  beside_differ : (put : EditKind) → Keeps put → AddsNone put → (ns : List Stored) (made : Made) (y : List Change × Made)
      → each_alone docs (beside put) ns made ≡ Ok y → Differ y.0
  beside_differ put keeps none ns made y e =
      let all : Each (λ (d : Change). put ≡ d.what) y.0 =
      each_gives (λ (d : Change). beside put (standing_at docs d.node) ≡ Ok d.what) (λ (d : Change). put ≡ d.what)
      (λ d h. beside_is put (standing_at docs d.node) d.what h) y.0 (alone_has docs (beside put) ns made y e) in
      kept_differ y.0 (each_gives (λ (d : Change). put ≡ d.what) (λ (d : Change). Keeps d.what) (λ d h. subst Keeps h keeps) y.0 all)
      (some_gives (λ what. put ≡ what) (λ what. has_name_twice (with_more (attrs_of from) (Some what)) ≡ false)
      (λ what h. ap has_name_twice (subst AddsNone h none (attrs_of from)) ∙ at_first)
      (done_in name y.0 place) (found_there (λ n what. put ≡ what) name place y.0 all))

  -- ---- deletions

  unless_is : (removal : EditKind) (it : Placed) (what : EditKind) → unless_document removal it ≡ Ok what → removal ≡ what
  unless_is removal (the_document d) what e = absurd (no_code XPTY0004 what e)
  unless_is removal (a_node n) what e = same_value removal what e
  unless_is removal (an_attribute a) what e = same_value removal what e

  delete_differ : (removal : EditKind) → Thins removal → AddsNone removal → (ns : List Stored) (made : Made) (y : List Change × Made)
      → each_alone docs (unless_document removal) ns made ≡ Ok y → Differ y.0
  delete_differ removal thins none ns made y e =
      let all : Each (λ (d : Change). removal ≡ d.what) y.0 =
      each_gives (λ (d : Change). unless_document removal (standing_at docs d.node) ≡ Ok d.what) (λ (d : Change). removal ≡ d.what)
      (λ d h. unless_is removal (standing_at docs d.node) d.what h) y.0 (alone_has docs (unless_document removal) ns made y e) in
      thinned_differ y.0 (each_gives (λ (d : Change). removal ≡ d.what) (λ (d : Change). Thins d.what) (λ d h. subst Thins h thins) y.0 all)
      (each_gives (λ (d : Change). removal ≡ d.what) (λ (d : Change). AddsNone d.what) (λ d h. subst AddsNone h none) y.0 all)

  -- ---- replacing and renaming

  by_turn : (b d : Bool) (kind what : EditKind) → (if b then Ok kind else (if d then Err XQDY0025 else Ok kind)) ≡ Ok what → kind ≡ what
  by_turn true d kind what e = same_value kind what e
  by_turn false true kind what e = absurd (no_code XQDY0025 what e)
  by_turn false false kind what e = same_value kind what e

  once_is : (done : List Change) (ns : List Stored) (c : Change) (what : EditKind) → named_once docs done ns c ≡ Ok what → c.what ≡ what
  once_is done ns c what e = by_turn (goes_on c.node ns) (names_twice docs (done ++ c ∷ []) (element_of c.node)) c.what what e

  -- what is done to a node, once it passed its own tests and that of names
  named_by : (r : Result EditKind Code) (done : List Change) (n : Stored) (ns : List Stored) (what : EditKind) → ((k : EditKind) → r ≡ Ok k → AddsNone k)
      → (r >>? (λ k. named_once docs done ns (record { node = n; what = k }))) ≡ Ok what → Named done n ns what
  named_by r done n ns what none e =
      let b = before_plain r (λ k. named_once docs done ns (record { node = n; what = k })) what e in
      let same : b.0 ≡ what = once_is done ns (record { node = n; what = b.0 }) what b.1.1 in
      (subst (λ k. named_once docs done ns (record { node = n; what = k }) ≡ Ok what) same b.1.1, subst AddsNone same (none b.0 b.1.0))

  put_adds_none : (c : Content) (it : Placed) (what : EditKind) → in_place_of c it ≡ Ok what → AddsNone what
  put_adds_none c (the_document d) what e = absurd (no_code XPTY0004 what e)
  put_adds_none c (a_node n) what e =
      let b = before_plain (without_attributes c) (λ kids. Ok (edit.Put [] kids)) what e in
      subst AddsNone (same_value (edit.Put [] b.0) what b.1.1) (λ attrs. refl)
  put_adds_none c (an_attribute a) what e =
      let b = before_plain (with_attributes_alone c) (λ attrs. Ok (edit.Put attrs [])) what e in
      subst AddsNone (same_value (edit.Put b.0 []) what b.1.1) (λ attrs. refl)

  outermost_is : (b : Bool) (n m : Stored) → (if b then Err XPTY0004 else Ok n) ≡ Ok m → n ≡ m
  outermost_is true n m e = absurd (no_code XPTY0004 m e)
  outermost_is false n m e = same_value n m e

  replaced_named : (var : List ℕ) (by : Means) (done : List Change) (n : Stored) (ns : List Stored) (made : Made) (y : EditKind × Made)
      → replaced docs var by done n ns made ≡ Ok y → Named done n ns y.0
  replaced_named var by done n ns made y e =
      let own = unless_document edit.Delete (standing_at docs n) >>? (λ _. outermost done n) in
      let a = before (plain own made) (λ m. content docs by (record { name = var; value = node (record { tree = stored m.name; place = m.place }) ∷ [] } ∷ [])
      >>= (λ c. plain (in_place_of c (standing_at docs m) >>? (λ what. named_once docs done ns (record { node = m; what = what }))))) y e in
      let b = before_plain (unless_document edit.Delete (standing_at docs n)) (λ _. outermost done n) a.0.0 (of_plain own made a.0 a.1.0) in
      let same : n ≡ a.0.0 = outermost_is (list_any (stands_in n) done) n a.0.0 b.1.1 in
      let c = before (content docs by (record { name = var; value = node (record { tree = stored a.0.0.name; place = a.0.0.place }) ∷ [] } ∷ []) a.0.1)
      (λ c. plain (in_place_of c (standing_at docs a.0.0) >>? (λ what. named_once docs done ns (record { node = a.0.0; what = what })))) y a.1.1 in
      subst (λ m. Named done m ns y.0) (sym same)
      (named_by (in_place_of c.0.0 (standing_at docs a.0.0)) done a.0.0 ns y.0 (put_adds_none c.0.0 (standing_at docs a.0.0))
      (of_plain (in_place_of c.0.0 (standing_at docs a.0.0) >>? (λ what. named_once docs done ns (record { node = a.0.0; what = what }))) c.0.1 y c.1.1))

  layer_adds_none : (to : List ℕ) (l : Node-F Node) (what : EditKind) → renamed_layer to l ≡ Ok what → AddsNone what
  layer_adds_none to (Node-F.Element n attrs kids) what e = subst AddsNone (same_value (edit.Rename to) what e) (λ attrs. refl)
  layer_adds_none to (Node-F.Text value) what e = absurd (no_code XPTY0004 what e)
  layer_adds_none to (Node-F.Pi target value) what e = subst AddsNone (same_value (edit.Rename to) what e) (λ attrs. refl)

  rename_adds_none : (to : List ℕ) (it : Placed) (what : EditKind) → renamed to it ≡ Ok what → AddsNone what
  rename_adds_none to (the_document d) what e = absurd (no_code XPTY0004 what e)
  rename_adds_none to (a_node n) what e = layer_adds_none to (out-Node n) what e
  rename_adds_none to (an_attribute a) what e = subst AddsNone (same_value (edit.Rename to) what e) (λ attrs. refl)

  renamed_named : (to : List ℕ) (done : List Change) (n : Stored) (ns : List Stored) (made : Made) (y : EditKind × Made)
      → plain (renamed to (standing_at docs n) >>? (λ what. named_once docs done ns (record { node = n; what = what }))) made ≡ Ok y → Named done n ns y.0
  renamed_named to done n ns made y e =
      named_by (renamed to (standing_at docs n)) done n ns y.0 (rename_adds_none to (standing_at docs n))
      (of_plain (renamed to (standing_at docs n) >>? (λ what. named_once docs done ns (record { node = n; what = what }))) made y e)

  -- ---- the forms

  into_form : (source target : Means) (y : List Change × Made) → insert_into docs source target [] ≡ Ok y → Differ y.0
  into_form source target y e =
      let a = before (content docs source [] []) (λ c. targets docs target >>= each_alone docs (into c)) y e in
      let b = before (targets docs target a.0.1) (each_alone docs (into a.0.0)) y a.1.1 in
      into_differ a.0.0 b.0.0 b.0.1 y b.1.1

  beside_form : (put : List Node → EditKind) → ((kids : List Node) → Keeps (put kids)) → ((kids : List Node) → AddsNone (put kids))
      → (source target : Means) (y : List Change × Made) → insert_beside docs put source target [] ≡ Ok y → Differ y.0
  beside_form put keeps none source target y e =
      let a = before (content docs source [] []) (λ c. targets docs target >>= (λ ns. plain (without_attributes c) >>= (λ kids. each_alone docs (beside (put kids)) ns))) y e in
      let b = before (targets docs target a.0.1) (λ ns. plain (without_attributes a.0.0) >>= (λ kids. each_alone docs (beside (put kids)) ns)) y a.1.1 in
      let c = before (plain (without_attributes a.0.0) b.0.1) (λ kids. each_alone docs (beside (put kids)) b.0.0) y b.1.1 in
      beside_differ (put c.0.0) (keeps c.0.0) (none c.0.0) b.0.0 c.0.1 y c.1.1

  delete_form : (removal : EditKind) → Thins removal → AddsNone removal → (target : Means) (y : List Change × Made) → delete docs removal target [] ≡ Ok y → Differ y.0
  delete_form removal thins none target y e =
      let a = before (targets docs target []) (each_alone docs (unless_document removal)) y e in
      delete_differ removal thins none a.0.0 a.0.1 y a.1.1

  -- after the changes of an update no two attributes of the element have one name
  pub names_differ : (what : Update) (y : List Change × Made) → changes docs what [] ≡ Ok y → Differ y.0
  names_differ (update.Into source target) y e = into_form (meaning docs source) (meaning docs target) y e
  names_differ (update.Preceding source target) y e =
      beside_form edit.Before (λ kids a. refl) (λ kids attrs. refl) (meaning docs source) (meaning docs target) y e
  names_differ (update.Following source target) y e =
      beside_form edit.After (λ kids a. refl) (λ kids attrs. refl) (meaning docs source) (meaning docs target) y e
  names_differ (update.Delete target) y e = delete_form edit.Delete (false, λ a. refl) (λ attrs. refl) (meaning docs target) y e
  names_differ (update.DeleteUndeep target) y e = delete_form edit.Undeep (false, λ a. refl) (λ attrs. refl) (meaning docs target) y e
  names_differ (update.Replace var target by) y e =
      let a = before (targets docs (meaning docs target) []) (each docs (replaced docs var (meaning docs by)) []) y e in
      turned_differ (replaced docs var (meaning docs by)) (replaced_named var (meaning docs by)) a.0.0 a.0.1 y a.1.1
  names_differ (update.Rename target to) y e =
      let a = before (targets docs (meaning docs target) []) (each docs (λ done n more. plain (renamed to (standing_at docs n) >>? (λ what. named_once docs done more (record { node = n; what = what })))) []) y e in
      turned_differ (λ done n more. plain (renamed to (standing_at docs n) >>? (λ what. named_once docs done more (record { node = n; what = what })))) (renamed_named to) a.0.0 a.0.1 y a.1.1
