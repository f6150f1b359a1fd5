-- The names of an element's attributes once changes are made: changes in document order are gone through once.
use Rattle.std.proofs.Common.{◌≡◌, ℕ, zero, suc, ◌+◌, ◌-◌, ◌<◌, ◌≤◌, Bool, true, false, ◌&&◌, ◌||◌, List, [], ◌∷◌}
use Rattle.std.proofs.Common.{◌++◌, map, drop, Option, Some, None, refl, sym}
use Rattle.std.proofs.Common.{ap, ◌∙◌, length, get_or, arith}
use Rattle.std.specs.Prelude.{bytes_eq, if◌then◌else◌}
use Rattle.std.specs.Cmp.{alike_right}
use Rattle.std.specs.List.{flat_map, slice_get}
use Rattle.std.specs.Option.{option_map, option_or}
use Rattle.std.specs.Ordering.{ordering_reverse, is_eq, is_lt}
use Rattle.std.specs.declared.cmp.Ordering.{Ordering}
use Rattle.std.specs.declared.cmp.Ordering.TheVariants.{Less, Equal, Greater}
use Rattle.std.proofs.lemmas.Bool.{true≢false}
use Rattle.std.proofs.lemmas.List.{drop-map}
use Rattle.std.proofs.lemmas.Option.{none-some, same_Some, slice_get-get_or, slice_get-map}
use Rattle.xml_model.specs.declared.edit.EditKind.{EditKind}
use Rattle.xml_model.specs.declared.edit.EditKind.TheVariants as edit
use Rattle.xml_model.specs.declared.nav.Id.{Id}
use Rattle.xml_model.specs.declared.node.Attr.{Attr}
use Rattle.xml_model.specs.Constructors.{has_name_twice}
use Rattle.xml_model.specs.DocumentOrder.{node_cmp}
use Rattle.xml_model.specs.Edits.{Change, done_in}
use Rattle.xml_model.specs.Forest.{Forest}
use Rattle.xml_model.specs.Nav.{Stored}
use Rattle.xml_model.specs.Place.{place_cmp}
use Rattle.xml_model.specs.Rebuild.{edited_attribute}
use Rattle.xml_model.specs.Trees.{has_attribute}
use Rattle.xq_nodes.specs.Joins.{IsBefore, Rises}
use Rattle.xq_edits.specs.declared.change.Change.{Change as Made}
use Rattle.xq_edits.specs.Names.{names_of, names_edited, first_change, changes_from, change_at, name_at, names_along}
use Rattle.xq_edits.specs.Seen.{change_seen}
use Rattle.xq_edits.specs.Turns.{nodes_of}
use Rattle.xq_edits.proofs.Within.{stored_total, same_node}

-- what is done to a node by changes, in the words of the definition of updates
abbrev pub done_to : List Change → Stored → Option EditKind
done_to changes n = done_in n.name changes n.place

-- ---- names alone decide

names_decide : (name : List ℕ) (xs ys : List Attr) → names_of xs ≡ names_of ys → has_attribute name xs ≡ has_attribute name ys
names_decide name xs ys e = by_names xs ∙ (ap has_name e ∙ sym (by_names ys))
  where
    has_name : List (List ℕ) → Bool
    has_name [] = false
    has_name (n ∷ names) = bytes_eq n name || has_name names

    by_names : (xs : List Attr) → has_attribute name xs ≡ has_name (names_of xs)
    by_names [] = refl
    by_names (a ∷ xs) = ap (λ b. bytes_eq a.name name || b) (by_names xs)

abbrev with_name : List ℕ → Attr
with_name name = record { name = name; value = [] }

names_again : (xs : List Attr) → names_of (map with_name (names_of xs)) ≡ names_of xs
names_again [] = refl
names_again (a ∷ xs) = ap (λ l. a.name ∷ l) (names_again xs)

twice_by_names : (xs : List Attr) → has_name_twice xs ≡ has_name_twice (map with_name (names_of xs))
twice_by_names [] = refl
twice_by_names (a ∷ xs) =
    ap (λ b. b || has_name_twice xs) (names_decide a.name xs (map with_name (names_of xs)) (sym (names_again xs)))
    ∙ ap (λ b. has_attribute a.name (map with_name (names_of xs)) || b) (twice_by_names xs)

-- attributes of the same names have a name twice or not alike
pub names_twice_alike : (xs ys : List Attr) → names_of xs ≡ names_of ys → has_name_twice xs ≡ has_name_twice ys
names_twice_alike xs ys e = twice_by_names xs ∙ (ap (λ l. has_name_twice (map with_name l)) e ∙ sym (twice_by_names ys))

-- the names in the place of one attribute
pub one_edited : (a : Attr) (o : Option EditKind) → names_of (edited_attribute a o) ≡ names_edited a.name o
one_edited a None = refl
one_edited a (Some (edit.Into attrs kids)) = refl
one_edited a (Some (edit.Before kids)) = refl
one_edited a (Some (edit.After kids)) = refl
one_edited a (Some edit.Delete) = refl
one_edited a (Some edit.Undeep) = refl
one_edited a (Some (edit.Put attrs kids)) = refl
one_edited a (Some (edit.Rename name)) = refl

-- ---- changes before a node

-- each of these changes is before the node
abbrev pub AreBefore : List Change → Stored → Type 0
AreBefore [] n = Unit {0}
AreBefore (c ∷ changes) n = (node_cmp c.node n ≡ Less) × AreBefore changes n

-- changes before a node are passed
pub before_passed : (front tail : List Change) (n : Stored) → AreBefore front n → changes_from n (front ++ tail) ≡ changes_from n tail
before_passed [] tail n h = refl
before_passed (c ∷ front) tail n h =
    ap (λ o. if is_lt o then changes_from n (front ++ tail) else c ∷ (front ++ tail)) h.0 ∙ before_passed front tail n h.1

-- what is passed for a node is passed for a later one
passed_on : (n m : Stored) (changes : List Change) → node_cmp n m ≡ Less → changes_from m (changes_from n changes) ≡ changes_from m changes
passed_on n m [] e = refl
passed_on n m (c ∷ changes) e = go (node_cmp c.node n) refl (passed_on n m changes e)
  where
    go : (o : Ordering) → node_cmp c.node n ≡ o → changes_from m (changes_from n changes) ≡ changes_from m changes
        → changes_from m (if is_lt o then changes_from n changes else c ∷ changes) ≡ changes_from m (c ∷ changes)
    go Less h more = more ∙ sym (ap (λ o. if is_lt o then changes_from m changes else c ∷ changes) (stored_total.trans c.node n m h e))
    go Equal h more = refl
    go Greater h more = refl

-- a change that is not after one node is before any node after that
pub up_to : (e n : Stored) (c : Change) (o : Ordering) → o ≡ node_cmp e c.node → is_lt o ≡ false → node_cmp e n ≡ Less → node_cmp c.node n ≡ Less
up_to e n c Less q h less = absurd (true≢false h)
up_to e n c Equal q h less = sym (stored_total.congr e c.node n (sym q)) ∙ less
up_to e n c Greater q h less = stored_total.trans c.node e n (stored_total.antisymm c.node e ∙ ap ordering_reverse (sym q)) less

before_at : (x : Stored) (changes : List Change) (k : ℕ) (c : Change) → IsBefore node_cmp x (nodes_of changes) → slice_get changes k ≡ Some c
    → node_cmp x c.node ≡ Less
before_at x [] k c b e = absurd (none-some c e)
before_at x (d ∷ changes) zero c b e = ap (λ (c : Change). node_cmp x c.node) (sym (same_Some d c e)) ∙ b.0
before_at x (d ∷ changes) (suc k) c b e = before_at x changes k c b.1 e

passed_one : (d : Change) (changes : List Change) (n : Stored) → node_cmp d.node n ≡ Less → changes_from n (d ∷ changes) ≡ changes_from n changes
passed_one d changes n e = ap (λ o. if is_lt o then changes_from n changes else d ∷ changes) e

-- changes in order up to one that is before a node are passed
pub passed_up_to : (changes : List Change) (k : ℕ) (c : Change) (n : Stored) → slice_get changes k ≡ Some c → Rises node_cmp (nodes_of changes)
    → node_cmp c.node n ≡ Less
    → changes_from n (drop (k + 1) changes) ≡ changes_from n changes
passed_up_to [] k c n e r less = absurd (none-some c e)
passed_up_to (d ∷ changes) zero c n e r less =
    sym (passed_one d changes n (ap (λ (c : Change). node_cmp c.node n) (same_Some d c e) ∙ less))
passed_up_to (d ∷ changes) (suc k) c n e r less =
    let same : suc k + 1 ≡ suc (k + 1) = omega arith in
    ap (λ i. changes_from n (drop i (d ∷ changes))) same
    ∙ (passed_up_to changes k c n e r.1 less ∙ sym (passed_one d changes n (stored_total.trans d.node c.node n (before_at d.node changes k c r.0 e) less)))

-- changes up to one that is not after a node are passed for each node after that
pub up_to_passed : (place : Id → Stored) (done : List Made) (from : ℕ) (d : Made) (e n : Stored) (o : Ordering) → from ≤ length done → 0 < from
    → o ≡ node_cmp e (place (get_or done (from - 1) d).node) → is_lt o ≡ false → Rises node_cmp (nodes_of (map (change_seen place) done))
    → node_cmp e n ≡ Less
    → changes_from n (map (change_seen place) (drop from done)) ≡ changes_from n (map (change_seen place) done)
up_to_passed place done from d e n o within some order not r less =
    let c = get_or done (from - 1) d in
    let next : from ≡ (from - 1) + 1 = omega arith in
    let seen : slice_get (map (change_seen place) done) (from - 1) ≡ Some (change_seen place c) =
    slice_get-map (change_seen place) done (from - 1) ∙ ap (option_map (change_seen place)) (slice_get-get_or done (from - 1) d (omega arith)) in
    ap (changes_from n) (sym (drop-map (change_seen place) from done) ∙ ap (λ i. drop i (map (change_seen place) done)) next)
    ∙ passed_up_to (map (change_seen place) done) (from - 1) (change_seen place c) n seen r (up_to e n (change_seen place c) o order not less)

-- ---- what is done to a node

not_less : (a b : Stored) → node_cmp a b ≡ Greater → node_cmp b a ≡ Less
not_less a b e = stored_total.antisymm b a ∙ ap ordering_reverse e

by_order : (c : Change) (changes : List Change) (n : Stored) (o : Ordering) → node_cmp c.node n ≡ o
    → done_to (c ∷ changes) n ≡ (if is_eq o then Some c.what else done_to changes n)
by_order c changes n o e = ap (λ b. if b then Some c.what else done_to changes n) (sym (same_node c.node n) ∙ ap is_eq e)

-- nothing is done to a node before all changes
none_after : (changes : List Change) (n : Stored) → IsBefore node_cmp n (nodes_of changes) → done_to changes n ≡ None
none_after [] n h = refl
none_after (c ∷ changes) n h = by_order c changes n Greater (stored_total.antisymm c.node n ∙ ap ordering_reverse h.0) ∙ none_after changes n h.1

-- nor to one after all
none_before : (changes : List Change) (n : Stored) → AreBefore changes n → done_to changes n ≡ None
none_before [] n h = refl
none_before (c ∷ changes) n h = by_order c changes n Less h.0 ∙ none_before changes n h.1

before_all : (x y : Stored) (changes : List Change) → node_cmp x y ≡ Less → IsBefore node_cmp y (nodes_of changes) → IsBefore node_cmp x (nodes_of changes)
before_all x y [] e h = tt
before_all x y (c ∷ changes) e h = (stored_total.trans x y c.node e h.0, before_all x y changes e h.1)

-- of changes in order, what is done to a node is the first that is not before it, if that is of the node
pub by_first : (changes : List Change) (n : Stored) → Rises node_cmp (nodes_of changes) → done_to changes n ≡ first_change (changes_from n changes) n
by_first [] n r = refl
by_first (c ∷ changes) n r = go (node_cmp c.node n) refl (by_first changes n r.1)
  where
    at_head : (o : Ordering) → node_cmp c.node n ≡ o → first_change (c ∷ changes) n ≡ (if is_eq o then Some c.what else None)
    at_head o e = ap (λ o. if is_eq o then Some c.what else None) e

    go : (o : Ordering) → node_cmp c.node n ≡ o → done_to changes n ≡ first_change (changes_from n changes) n
        → done_to (c ∷ changes) n ≡ first_change (if is_lt o then changes_from n changes else c ∷ changes) n
    go Less e more = by_order c changes n Less e ∙ more
    go Equal e more = by_order c changes n Equal e ∙ sym (at_head Equal e)
    go Greater e more =
        by_order c changes n Greater e
        ∙ (none_after changes n (before_all n c.node changes (not_less c.node n e) r.0) ∙ sym (at_head Greater e))

-- one more change, after the others
appended : (changes : List Change) (last : Change) (n : Stored)
    → done_to (changes ++ last ∷ []) n ≡ option_or (done_to changes n) (if is_eq (node_cmp last.node n) then Some last.what else None)
appended [] last n = ap (λ b. if b then Some last.what else None) (sym (same_node last.node n))
appended (c ∷ changes) last n = go (bytes_eq c.node.name n.name && is_eq (place_cmp c.node.place n.place)) (appended changes last n)
  where
    go : (b : Bool) → done_to (changes ++ last ∷ []) n ≡ option_or (done_to changes n) (if is_eq (node_cmp last.node n) then Some last.what else None)
        → (if b then Some c.what else done_to (changes ++ last ∷ []) n)
        ≡ option_or (if b then Some c.what else done_to changes n) (if is_eq (node_cmp last.node n) then Some last.what else None)
    go true more = refl
    go false more = more

before_front : (x : Stored) (changes : List Change) (ys : List Stored) → IsBefore node_cmp x (nodes_of changes ++ ys) → IsBefore node_cmp x (nodes_of changes)
before_front x [] ys h = tt
before_front x (c ∷ changes) ys h = (h.0, before_front x changes ys h.1)

-- the first of changes and other nodes in order are in order
pub rises_front : (changes : List Change) (ys : List Stored) → Rises node_cmp (nodes_of changes ++ ys) → Rises node_cmp (nodes_of changes)
rises_front [] ys r = tt
rises_front (c ∷ changes) ys r = (before_front c.node changes ys r.0, rises_front changes ys r.1)

before_next : (x y : Stored) (changes : List Change) (ys : List Stored) → IsBefore node_cmp x (nodes_of changes ++ y ∷ ys) → node_cmp x y ≡ Less
before_next x y [] ys h = h.0
before_next x y (c ∷ changes) ys h = before_next x y changes ys h.1

-- and the first are before each of the others
pub all_before : (changes : List Change) (y : Stored) (ys : List Stored) → Rises node_cmp (nodes_of changes ++ y ∷ ys) → AreBefore changes y
all_before [] y ys r = tt
all_before (c ∷ changes) y ys r = (before_next c.node y changes ys r.0, all_before changes y ys r.1)

-- the others are in order too
pub rises_behind : (changes : List Change) (ys : List Stored) → Rises node_cmp (nodes_of changes ++ ys) → Rises node_cmp ys
rises_behind [] ys r = r
rises_behind (c ∷ changes) ys r = rises_behind changes ys r.1

before_to : (x y : Stored) (changes : List Change) (ys : List Stored) → IsBefore node_cmp x (nodes_of changes ++ y ∷ ys)
    → IsBefore node_cmp x (nodes_of changes ++ y ∷ [])
before_to x y [] ys h = (h.0, tt)
before_to x y (c ∷ changes) ys h = (h.0, before_to x y changes ys h.1)

-- and so are the first up to one of the others
pub rises_to : (changes : List Change) (y : Stored) (ys : List Stored) → Rises node_cmp (nodes_of changes ++ y ∷ ys)
    → Rises node_cmp (nodes_of changes ++ y ∷ [])
rises_to [] y ys r = (tt, tt)
rises_to (c ∷ changes) y ys r = (before_to c.node y changes ys r.0, rises_to changes y ys r.1)

before_same : (changes : List Change) (m n : Stored) → node_cmp m n ≡ Equal → AreBefore changes m → AreBefore changes n
before_same [] m n e h = tt
before_same (c ∷ changes) m n e h = (sym (alike_right stored_total m n c.node e) ∙ h.0, before_same changes m n e h.1)

or_none : (o : Option EditKind) → option_or o None ≡ o
or_none None = refl
or_none (Some what) = refl

-- what is done to a node by changes in order, and a last one after them
pub by_last : (changes : List Change) (last : Change) (n : Stored) → Rises node_cmp (nodes_of changes ++ last.node ∷ [])
    → done_to (changes ++ last ∷ []) n ≡ change_at last (changes_from n changes) n
by_last changes last n r = appended changes last n ∙ go (node_cmp last.node n) refl
  where
    other : done_to changes n ≡ first_change (changes_from n changes) n
    other = by_first changes n (rises_front changes (last.node ∷ []) r)

    go : (o : Ordering) → node_cmp last.node n ≡ o → option_or (done_to changes n) (if is_eq (node_cmp last.node n) then Some last.what else None)
        ≡ (if is_eq (node_cmp last.node n) then Some last.what else first_change (changes_from n changes) n)
    go Less e =
        ap (λ o. option_or (done_to changes n) (if is_eq o then Some last.what else None)) e
        ∙ (or_none (done_to changes n) ∙ (other ∙ sym (ap (λ o. if is_eq o then Some last.what else first_change (changes_from n changes) n) e)))
    go Equal e =
        ap (λ o. option_or o (if is_eq (node_cmp last.node n) then Some last.what else None))
        (none_before changes n (before_same changes last.node n e (all_before changes last.node [] r)))
        ∙ (ap (λ o. if is_eq o then Some last.what else None) e ∙ sym (ap (λ o. if is_eq o then Some last.what else first_change (changes_from n changes) n) e))
    go Greater e =
        ap (λ o. option_or (done_to changes n) (if is_eq o then Some last.what else None)) e
        ∙ (or_none (done_to changes n) ∙ (other ∙ sym (ap (λ o. if is_eq o then Some last.what else first_change (changes_from n changes) n) e)))

-- ---- along nodes

module _ (F : Forest) (last : Change) where
  abbrev names_by : List Change → Stored → List (List ℕ)
  names_by changes n = names_edited (name_at F n) (change_at last (changes_from n changes) n)

  -- changes that are the same for all nodes after one give the same names there
  pub along_same : (e : Stored) (xs ys : List Change) (nodes : List Stored) → ((n : Stored) → node_cmp e n ≡ Less → changes_from n xs ≡ changes_from n ys)
      → IsBefore node_cmp e nodes → names_along F last xs nodes ≡ names_along F last ys nodes
  along_same e xs ys [] h b = refl
  along_same e xs ys (n ∷ nodes) h b = ap (λ changes. names_edited (name_at F n) (change_at last changes n) ++ names_along F last changes nodes) (h n b.0)

  later_same : (n : Stored) (changes : List Change) (nodes : List Stored) → IsBefore node_cmp n nodes
      → flat_map (names_by (changes_from n changes)) nodes ≡ flat_map (names_by changes) nodes
  later_same n changes [] b = refl
  later_same n changes (m ∷ nodes) b =
      ap (λ left. names_edited (name_at F m) (change_at last left m) ++ flat_map (names_by (changes_from n changes)) nodes) (passed_on n m changes b.0)
      ∙ ap (λ rest. names_by changes m ++ rest) (later_same n changes nodes b.1)

  along_each : (changes : List Change) (nodes : List Stored) → Rises node_cmp nodes → names_along F last changes nodes ≡ flat_map (names_by changes) nodes
  along_each changes [] r = refl
  along_each changes (n ∷ nodes) r =
      ap (λ rest. names_by changes n ++ rest) (along_each (changes_from n changes) nodes r.1 ∙ later_same n changes nodes r.0)

  each_done : (changes : List Change) (nodes : List Stored) → Rises node_cmp (nodes_of changes ++ last.node ∷ [])
      → flat_map (names_by changes) nodes ≡ flat_map (λ n. names_edited (name_at F n) (done_to (changes ++ last ∷ []) n)) nodes
  each_done changes [] r = refl
  each_done changes (n ∷ nodes) r =
      ap (λ o. names_edited (name_at F n) o ++ flat_map (names_by changes) nodes) (sym (by_last changes last n r))
      ∙ ap (λ rest. names_edited (name_at F n) (done_to (changes ++ last ∷ []) n) ++ rest) (each_done changes nodes r)

  -- along nodes in order each gets what changes in order do to it
  pub along_is : (changes : List Change) (nodes : List Stored) → Rises node_cmp nodes → Rises node_cmp (nodes_of changes ++ last.node ∷ [])
      → names_along F last changes nodes ≡ flat_map (λ n. names_edited (name_at F n) (done_to (changes ++ last ∷ []) n)) nodes
  along_is changes nodes r q = along_each changes nodes r ∙ each_done changes nodes q
