-- How names lead to places: what another place changes, and what a free cell tells.
use Rattle.std.proofs.Common.{◌≡◌, ℕ, zero, suc, ◌+◌, ◌*◌, ◌-◌, ◌<◌, ◌≤◌, ◌%◌, ◌/◌, ◌⊎◌, inl, inr, Bool, true, false, ◌||◌, List, [], ◌∷◌, ◌++◌, length, get_or, set, refl, ap, ap₂, sym, ◌∙◌, subst, length-append, length-set, get_or-set_same, get_or-set_other, arith}
use Rattle.std.proofs.lemmas.List.{get_or_append_left}
use Rattle.std.proofs.lemmas.Grind.{merely}
use mathlib.Core.Logic.{∥∥₁_map}
use Rattle.std.specs.Str.{bytes_eq}
use Rattle.std.proofs.lemmas.Bool.{false≢true, cases_eq}
use Rattle.std.proofs.lemmas.Slice.Eq.{bytes_eq-Decides}
use Rattle.xml_model.specs.declared.node.Attr.{Attr}
use Rattle.xml_model.specs.Trees.{has_attribute}
use Rattle.pyx_text.specs.Ways.{hash_of, half_of, bit_of, way_of, cell_of, next_of, Leads, name_at, IsWord, HoldsName, IsMarked, IsLed, Tied, IsFree}
use Rattle.pyx_text.proofs.Tied.{has_attribute-append}

bit_of-lt : (half n : ℕ) → bit_of half n < 2
bit_of-lt half zero = omega arith
bit_of-lt half (suc zero) = omega arith
bit_of-lt half (suc (suc zero)) = omega arith
bit_of-lt half (suc (suc (suc n))) = omega arith

-- a way is one of two
pub way_of-lt : (name : List ℕ) (depth : ℕ) → way_of name depth < 2
unfolding way_of
way_of-lt name depth = bit_of-lt (half_of name (depth / 4)) (depth % 4)

-- a head is one of the heads
pub head-lt : (name : List ℕ) (heads : ℕ) → 0 < heads → hash_of name % heads < heads
head-lt name heads some = omega (arith, some)

-- a way is the bit at its depth
pub way_of-bit : (name : List ℕ) (depth half n : ℕ) → half ≡ half_of name (depth / 4) → depth % 4 ≡ n → bit_of half n ≡ way_of name depth
unfolding way_of
way_of-bit name depth half n is at = ap₂ (λ h k. bit_of h k) is (sym at)

-- what leads on from one number and from another is not in the same cell
cell_of-apart : (heads : ℕ) (name other : List ℕ) (depth at from to : ℕ) → 0 < heads
    → cell_of heads name depth from ≡ cell_of heads other at to → from ≡ to
cell_of-apart heads name other depth at zero zero some same = refl
cell_of-apart heads name other depth at zero (suc q) some same =
    let low : hash_of name % heads < heads = head-lt name heads some in
    absurd (omega (arith, low, same))
cell_of-apart heads name other depth at (suc p) zero some same =
    let low : hash_of other % heads < heads = head-lt other heads some in
    absurd (omega (arith, low, same))
cell_of-apart heads name other depth at (suc p) (suc q) some same =
    let one : way_of name (depth - 1) < 2 = way_of-lt name (depth - 1) in
    let two : way_of other (at - 1) < 2 = way_of-lt other (at - 1) in
    omega (arith, one, two, same)

-- the cells of the first n places are among a cell a head and two a place
pub cell_of-lt : (heads : ℕ) (name : List ℕ) (depth from n : ℕ) → 0 < heads → from ≤ n → cell_of heads name depth from < heads + n * 2
cell_of-lt heads name depth zero n some le =
    let low : hash_of name % heads < heads = head-lt name heads some in
    omega (arith, low)
cell_of-lt heads name depth (suc p) n some le =
    let one : way_of name (depth - 1) < 2 = way_of-lt name (depth - 1) in
    omega (arith, one, le)

-- the cell of a way from a place
pub cell_of-later : (heads : ℕ) (name : List ℕ) (depth next way : ℕ) → 0 < next → way ≡ way_of name depth
    → heads + (next - 1) * 2 + way ≡ cell_of heads name (depth + 1) next
cell_of-later heads name depth zero way more is = absurd (omega (arith, more))
cell_of-later heads name depth (suc p) way more is =
    let before : depth + 1 - 1 ≡ depth = omega arith in
    let one : way ≡ way_of name (depth + 1 - 1) = is ∙ ap (way_of name) (sym before) in
    omega (arith, one)

get_or-within : (xs : List ℕ) (i w : ℕ) → i < length xs → w ≡ get_or xs i w → w ≡ get_or xs i 0
get_or-within [] i w lt is = absurd (omega (arith, lt))
get_or-within (x ∷ xs) zero w lt is = is
get_or-within (x ∷ xs) (suc i) w lt is = get_or-within xs i w (omega (arith, lt)) is

-- the word read in a cell
pub word_read : (attrs : List Attr) (heads : ℕ) (cells name : List ℕ) (depth from cell word : ℕ) → 0 < heads → Tied attrs heads cells
    → from ≤ length attrs → cell ≡ cell_of heads name depth from → word ≡ get_or cells cell word → word ≡ get_or cells cell 0
word_read attrs heads cells name depth from cell word some t le at is =
    let lt : cell_of heads name depth from < heads + length attrs * 2 = cell_of-lt heads name depth from (length attrs) some le in
    get_or-within cells cell word (omega (arith, at, lt, t.full)) is

-- one more step at the end
pub Leads-more : (heads : ℕ) (cells name : List ℕ) (steps depth from found last : ℕ) → last ≡ depth + steps
    → Leads heads cells name steps depth from found → found < next_of heads cells name last found
    → Leads heads cells name (suc steps) depth from (next_of heads cells name last found)
Leads-more heads cells name zero depth from found last at h more =
    let same : depth ≡ last = omega (arith, at) in
    let next : next_of heads cells name depth from ≡ next_of heads cells name last found = ap₂ (λ d p. next_of heads cells name d p) same h in
    (omega (arith, next, h, more), next)
Leads-more heads cells name (suc steps) depth from found last at h more =
    (h.0, Leads-more heads cells name steps (depth + 1) (next_of heads cells name depth from) found last (omega (arith, at)) h.1 more)

-- the new cells have what the old ones lead on by
abbrev pub Keeps : ℕ → List ℕ → List ℕ → Type 0
Keeps heads cells new = (name : List ℕ) (depth from : ℕ) → from < next_of heads cells name depth from
    → next_of heads new name depth from ≡ next_of heads cells name depth from

-- what is kept leads as before
pub Leads-kept : (heads : ℕ) (cells new name : List ℕ) → Keeps heads cells new → (steps depth from found : ℕ)
    → Leads heads cells name steps depth from found → Leads heads new name steps depth from found
Leads-kept heads cells new name keeps zero depth from found h = h
Leads-kept heads cells new name keeps (suc steps) depth from found h =
    subst (λ (m : ℕ). (from < m) × Leads heads new name steps (depth + 1) m found) (sym (keeps name depth from h.0))
    (h.0, Leads-kept heads cells new name keeps steps (depth + 1) (next_of heads cells name depth from) found h.1)

get_or-some : (xs : List ℕ) (j : ℕ) → 0 < get_or xs j 0 → j < length xs
get_or-some [] j h = absurd (omega (arith, h))
get_or-some (x ∷ xs) zero h = omega arith
get_or-some (x ∷ xs) (suc j) h = let rest : j < length xs = get_or-some xs j h in omega (arith, rest)

-- the cells of one more place, both free
abbrev pub two : List ℕ
two = 0 ∷ 0 ∷ []

-- two more cells that are free hold no word
get_or-two : (cells : List ℕ) (j : ℕ) → get_or (cells ++ two) j 0 ≡ get_or cells j 0
get_or-two [] zero = refl
get_or-two [] (suc zero) = refl
get_or-two [] (suc (suc j)) = refl
get_or-two (c ∷ cells) zero = refl
get_or-two (c ∷ cells) (suc j) = get_or-two cells j

Keeps-two : (heads : ℕ) (cells : List ℕ) → Keeps heads cells (cells ++ two)
Keeps-two heads cells = λ name depth from lt. ap (λ word. word % 8388608) (get_or-two cells (cell_of heads name depth from))

Keeps-set : (heads : ℕ) (cells : List ℕ) (other : List ℕ) (at to v : ℕ) → 0 < heads → (to < next_of heads cells other at to → ⊥)
    → Keeps heads cells (set (cells ++ two) (cell_of heads other at to) v)
Keeps-set heads cells other at to v some free = λ name depth from lt.
    let apart : cell_of heads name depth from ≡ cell_of heads other at to → ⊥ = λ same.
    let one : from ≡ to = cell_of-apart heads name other depth at from to some same in
    let value : next_of heads cells name depth from ≡ next_of heads cells other at to = ap (λ k. get_or cells k 0 % 8388608) same in
    free (omega (arith, value, one, lt)) in
    ap (λ word. word % 8388608) (get_or-set_other (cells ++ two) (cell_of heads other at to) (cell_of heads name depth from) v 0 apart)
    ∙ Keeps-two heads cells name depth from lt

name_at-left : (attrs more : List Attr) (n : ℕ) → n < length attrs → name_at (attrs ++ more) n ≡ name_at attrs n
name_at-left [] more n lt = absurd (omega (arith, lt))
name_at-left (a ∷ attrs) more zero lt = refl
name_at-left (a ∷ attrs) more (suc n) lt = name_at-left attrs more n (omega (arith, lt))

name_at-last : (attrs : List Attr) (a : Attr) → name_at (attrs ++ a ∷ []) (length attrs) ≡ a.name
name_at-last [] a = refl
name_at-last (x ∷ attrs) a = name_at-last attrs a

-- the name at a place is that of the attribute there
pub name_at-get : (attrs : List Attr) (n : ℕ) (d : Attr) → n < length attrs → name_at attrs n ≡ (get_or attrs n d).name
name_at-get [] n d lt = absurd (omega (arith, lt))
name_at-get (a ∷ attrs) zero d lt = refl
name_at-get (a ∷ attrs) (suc n) d lt = name_at-get attrs n d (omega (arith, lt))

or-true : (b : Bool) → (b || true) ≡ true
or-true true = refl
or-true false = refl

-- the list has a name that stands at one of its places
pub has-at : (attrs : List Attr) (n : ℕ) (name : List ℕ) → n < length attrs → name_at attrs n ≡ name → has_attribute name attrs ≡ true
has-at [] n name lt same = absurd (omega (arith, lt))
has-at (a ∷ attrs) zero name lt same = rw ((bytes_eq-Decides a.name name).1 same) refl
has-at (a ∷ attrs) (suc n) name lt same =
    ap (λ b. bytes_eq a.name name || b) (has-at attrs n name (omega (arith, lt)) same) ∙ or-true (bytes_eq a.name name)

either-true : (p q : Bool) → (p || (q || false)) ≡ true → (p ≡ true) ⊎ (q ≡ true)
either-true true q h = inl refl
either-true false true h = inr refl
either-true false false h = inl h

old_or_new : (name : List ℕ) (attrs : List Attr) (a : Attr) → has_attribute name (attrs ++ a ∷ []) ≡ true
    → (has_attribute name attrs ≡ true) ⊎ (bytes_eq a.name name ≡ true)
old_or_new name attrs a h = either-true (has_attribute name attrs) (bytes_eq a.name name) (sym (has_attribute-append name attrs (a ∷ [])) ∙ h)

IsLed-more : (attrs : List Attr) (a : Attr) (heads : ℕ) (cells new name : List ℕ) → Keeps heads cells new
    → IsLed attrs heads cells name 0 0 → IsLed (attrs ++ a ∷ []) heads new name 0 0
IsLed-more attrs a heads cells new name keeps l = record {
  steps = l.steps;
  place = l.place;
  within = omega (arith, l.within, length-append attrs (a ∷ []));
  named = name_at-left attrs (a ∷ []) l.place l.within ∙ l.named;
  leads = Leads-kept heads cells new name keeps l.steps 0 0 (l.place + 1) l.leads;
}

-- a word that has its mark has it where there is another attribute
IsMarked-more : (attrs : List Attr) (a : Attr) (word : ℕ) → IsMarked attrs word → IsMarked (attrs ++ a ∷ []) word
IsMarked-more attrs a word marked = λ more.
    let old : word % 8388608 ≤ length attrs = (marked more).0 in
    let inside : word % 8388608 - 1 < length attrs = omega (arith, old, more) in (
      omega (arith, old, length-append attrs (a ∷ [])),
      (marked more).1 ∙ ap (λ (n : List ℕ). hash_of n / 8388608) (sym (name_at-left attrs (a ∷ []) (word % 8388608 - 1) inside)),
    )

-- another place, whose name is led to one
Tied-more : (attrs : List Attr) (a : Attr) (heads : ℕ) (cells new : List ℕ) → 0 < heads → length new ≡ heads + length attrs * 2 + 2
    → Keeps heads cells new → ((cell : ℕ) → IsMarked (attrs ++ a ∷ []) (get_or new cell 0)) → Tied attrs heads cells
    → ∥ IsLed (attrs ++ a ∷ []) heads new a.name 0 0 ∥₁ → Tied (attrs ++ a ∷ []) heads new
Tied-more attrs a heads cells new some long keeps marked t l = record {
  full = omega (arith, long, length-append attrs (a ∷ []));
  headed = λ more. some;
  marked = marked;
  led = λ name h. elim (old_or_new name attrs a h) [
    | inl has ↦ ∥∥₁_map (t.led name has) (λ old. IsLed-more attrs a heads cells new name keeps old)
    | inr same ↦ subst (λ (m : List ℕ). ∥ IsLed (attrs ++ a ∷ []) heads new m 0 0 ∥₁) ((bytes_eq-Decides a.name name).0 same) l
  ];
}

marked-two : (attrs : List Attr) (a : Attr) (cells : List ℕ) → ((cell : ℕ) → IsMarked attrs (get_or cells cell 0))
    → (cell : ℕ) → IsMarked (attrs ++ a ∷ []) (get_or (cells ++ two) cell 0)
marked-two attrs a cells marked cell = subst (IsMarked (attrs ++ a ∷ [])) (sym (get_or-two cells cell))
    (IsMarked-more attrs a (get_or cells cell 0) (marked cell))

-- a second attribute of a name needs no cell
pub twice_fits : (attrs : List Attr) (heads : ℕ) (cells name : List ℕ) → 0 < heads → Tied attrs heads cells → has_attribute name attrs ≡ true
    → (a : Attr) → a.name ≡ name → Tied (attrs ++ a ∷ []) heads (cells ++ two)
twice_fits attrs heads cells name some t has a same =
    let keeps : Keeps heads cells (cells ++ two) = Keeps-two heads cells in
    Tied-more attrs a heads cells (cells ++ two) some (omega (arith, t.full, length-append cells two)) keeps (marked-two attrs a cells t.marked) t
    (∥∥₁_map (t.led a.name (ap (λ m. has_attribute m attrs) same ∙ has)) (λ old. IsLed-more attrs a heads cells (cells ++ two) a.name keeps old))

-- the new word has the mark of the new name
new_marked : (attrs : List Attr) (a : Attr) (name : List ℕ) (word : ℕ) → IsWord word (hash_of name) (length attrs + 1) → a.name ≡ name
    → IsMarked (attrs ++ a ∷ []) word
new_marked attrs a name word w same = λ more.
    let last : word % 8388608 - 1 ≡ length attrs = omega (arith, w.low) in (
      omega (arith, w.low, length-append attrs (a ∷ [])),
      w.high ∙ ap (λ (n : List ℕ). hash_of n / 8388608) (sym (ap (name_at (attrs ++ a ∷ [])) last ∙ name_at-last attrs a ∙ same)),
    )

marked-set : (attrs : List Attr) (a : Attr) (cells : List ℕ) (at word : ℕ) → at < length (cells ++ two)
    → ((cell : ℕ) → IsMarked attrs (get_or cells cell 0)) → IsMarked (attrs ++ a ∷ []) word
    → (cell : ℕ) → IsMarked (attrs ++ a ∷ []) (get_or (set (cells ++ two) at word) cell 0)
marked-set attrs a cells at word inside marked new cell = elim (cases_eq cell at) [
  | inl here ↦ subst (IsMarked (attrs ++ a ∷ []))
      (sym (ap (λ k. get_or (set (cells ++ two) at word) k 0) here ∙ get_or-set_same (cells ++ two) at word 0 inside)) new
  | inr there ↦ subst (IsMarked (attrs ++ a ∷ [])) (sym (get_or-set_other (cells ++ two) at cell word 0 there))
      (marked-two attrs a cells marked cell)
]

-- with the next word in the cell at which the ways of a name end
fits_at : (attrs : List Attr) (heads : ℕ) (cells name : List ℕ) (steps from word : ℕ) → 0 < heads → Tied attrs heads cells → from ≤ length attrs
    → Leads heads cells name steps 0 0 from → (from < next_of heads cells name steps from → ⊥)
    → cell_of heads name steps from < length (cells ++ two) → IsWord word (hash_of name) (length attrs + 1) → (a : Attr) → a.name ≡ name
    → Tied (attrs ++ a ∷ []) heads (set (cells ++ two) (cell_of heads name steps from) word)
fits_at attrs heads cells name steps from word some t le leads free in_new w a same =
    let keeps : Keeps heads cells (set (cells ++ two) (cell_of heads name steps from) word) = Keeps-set heads cells name steps from word some free in
    let long : length (set (cells ++ two) (cell_of heads name steps from) word) ≡ heads + length attrs * 2 + 2 =
    omega (arith, t.full, length-append cells two, length-set (cells ++ two) (cell_of heads name steps from) word) in
    let next : next_of heads (set (cells ++ two) (cell_of heads name steps from) word) name steps from ≡ length attrs + 1 =
    ap (λ k. k % 8388608) (get_or-set_same (cells ++ two) (cell_of heads name steps from) word 0 in_new) ∙ w.low in
    let to_new : Leads heads (set (cells ++ two) (cell_of heads name steps from) word) name (suc steps) 0 0 (length attrs + 1) =
    subst (λ (m : ℕ). Leads heads (set (cells ++ two) (cell_of heads name steps from) word) name (suc steps) 0 0 m) next
    (Leads-more heads (set (cells ++ two) (cell_of heads name steps from) word) name steps 0 0 from steps (omega arith)
    (Leads-kept heads cells (set (cells ++ two) (cell_of heads name steps from) word) name keeps steps 0 0 from leads)
    (omega (arith, next, le))) in
    Tied-more attrs a heads cells (set (cells ++ two) (cell_of heads name steps from) word) some long keeps
    (marked-set attrs a cells (cell_of heads name steps from) word in_new t.marked (new_marked attrs a name word w same)) t (merely (record {
      steps = suc steps;
      place = length attrs;
      within = omega (arith, length-append attrs (a ∷ []));
      named = name_at-last attrs a;
      leads = subst (λ (m : List ℕ). Leads heads (set (cells ++ two) (cell_of heads name steps from) word) m (suc steps) 0 0 (length attrs + 1))
          (sym same) to_new;
    }))

-- the cell at which the ways of a name end is free
pub free_fits : (attrs : List Attr) (heads : ℕ) (cells name : List ℕ) (steps from : ℕ) → 0 < heads → Tied attrs heads cells → from ≤ length attrs
    → Leads heads cells name steps 0 0 from → (from < next_of heads cells name steps from → ⊥)
    → IsFree attrs heads cells name (cell_of heads name steps from)
free_fits attrs heads cells name steps from some t le leads free =
    let in_old : cell_of heads name steps from < heads + length attrs * 2 = cell_of-lt heads name steps from (length attrs) some le in
    let in_new : cell_of heads name steps from < length (cells ++ two) = omega (arith, in_old, t.full, length-append cells two) in
    record { within = in_old; fits = λ word w a same. fits_at attrs heads cells name steps from word some t le leads free in_new w a same }

-- with heads alone, which are free, no names
pub none_tied : (heads : ℕ) (cells : List ℕ) → length cells ≡ heads → ((cell : ℕ) → get_or cells cell 0 ≡ 0) → Tied [] heads cells
none_tied heads cells long free = record {
  full = omega (arith, long);
  headed = λ more. absurd (omega (arith, more));
  marked = λ cell more. absurd (omega (arith, more, free cell));
  led = λ name has. absurd (false≢true has);
}

-- the attribute with this number, from 1, has another name; 0 is the number of none
abbrev pub Other : List Attr → List ℕ → ℕ → Type 0
Other attrs name from = 0 < from → name_at attrs (from - 1) ≡ name → ⊥

steps_on : (attrs : List Attr) (heads : ℕ) (cells name : List ℕ) (depth from steps place : ℕ) → place < length attrs → name_at attrs place ≡ name
    → Leads heads cells name steps depth from (place + 1) → Other attrs name from
    → IsLed attrs heads cells name (depth + 1) (next_of heads cells name depth from)
steps_on attrs heads cells name depth from zero place within named leads other =
    let one : from - 1 ≡ place = omega (arith, leads) in
    absurd (other (omega (arith, leads)) (ap (name_at attrs) one ∙ named))
steps_on attrs heads cells name depth from (suc steps) place within named leads other =
    record { steps = steps; place = place; within = within; named = named; leads = leads.1 }

-- a name that is at none of the places passed is led on by one more step
pub led_on : (attrs : List Attr) (heads : ℕ) (cells name : List ℕ) (depth from : ℕ) → IsLed attrs heads cells name depth from
    → Other attrs name from → IsLed attrs heads cells name (depth + 1) (next_of heads cells name depth from)
led_on attrs heads cells name depth from l other = steps_on attrs heads cells name depth from l.steps l.place l.within l.named l.leads other

steps_after : (attrs : List Attr) (heads : ℕ) (cells name : List ℕ) (depth from steps place : ℕ) → name_at attrs place ≡ name
    → Leads heads cells name steps depth from (place + 1) → Other attrs name from → from < next_of heads cells name depth from
steps_after attrs heads cells name depth from zero place named leads other =
    let one : from - 1 ≡ place = omega (arith, leads) in
    absurd (other (omega (arith, leads)) (ap (name_at attrs) one ∙ named))
steps_after attrs heads cells name depth from (suc steps) place named leads other = leads.0

-- and the next number is a later one
pub led_after : (attrs : List Attr) (heads : ℕ) (cells name : List ℕ) (depth from : ℕ) → IsLed attrs heads cells name depth from
    → Other attrs name from → from < next_of heads cells name depth from
led_after attrs heads cells name depth from l other = steps_after attrs heads cells name depth from l.steps l.place l.named l.leads other

-- the attribute read at a place has another name
pub other_name : (attrs : List Attr) (n : ℕ) (a : Attr) (text name : List ℕ) → n < length attrs → text ≡ (get_or attrs n a).name
    → bytes_eq text name ≡ false → name_at attrs n ≡ name → ⊥
other_name attrs n a text name lt is differ h =
    let equal : bytes_eq text name ≡ true = (bytes_eq-Decides text name).1 (is ∙ (sym (name_at-get attrs n a lt) ∙ h)) in
    cc

-- the attribute read at a place has this name
pub this_name : (attrs : List Attr) (n : ℕ) (a : Attr) (text name : List ℕ) → n < length attrs → text ≡ (get_or attrs n a).name
    → bytes_eq text name ≡ true → name_at attrs n ≡ name
this_name attrs n a text name lt is equal = name_at-get attrs n a lt ∙ (sym is ∙ (bytes_eq-Decides text name).0 equal)

-- the answer of a comparison with the attribute read at a place
pub holds_name : (b : Bool) (attrs : List Attr) (n : ℕ) (a : Attr) (text name : List ℕ) → n < length attrs → text ≡ (get_or attrs n a).name
    → bytes_eq text name ≡ b → HoldsName b attrs n name
holds_name true attrs n a text name lt is equal = this_name attrs n a text name lt is equal
holds_name false attrs n a text name lt is differ = other_name attrs n a text name lt is differ

-- what cannot be true is false
pub is-false : (b : Bool) → (b ≡ true → ⊥) → false ≡ b
is-false true h = absurd (h refl)
is-false false h = refl
