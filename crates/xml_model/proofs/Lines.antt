-- The form of each canonical line, and what one line does to a reading.
use Rattle.std.proofs.Common.{◌≡◌, ℕ, ◌+◌, ◌<◌, ◌≤◌, Bool, true, false, ◌==◌, IsTrue, List, [], ◌∷◌, ◌++◌, length, None, refl, ap, ap₂, sym, ◌∙◌, append-nil, add-one, one-add, arith, true≢false}
use Rattle.std.specs.List.{list_all}
use Rattle.std.specs.Str.{bytes_eq}
use Rattle.std.proofs.lemmas.Bool.{eqb-true, false_from_ne_true, and_parts, lt-leb, le-ltb}
use Rattle.std.proofs.lemmas.Slice.Eq.{bytes_eq-Decides}
use Rattle.xml_model.specs.declared.limits.TheConstants.{DEPTH_MAX, NODES_MAX, TEXT_BYTES_MAX}
use Rattle.xml_model.specs.declared.node.Attr.{Attr}
use Rattle.xml_model.specs.declared.node.Node.{Node, Element', Text, Pi}
use Rattle.xml_model.specs.declared.node.Node.TheVariants.{Element, outs-Element', outs-Text, outs-Pi}
use Rattle.xq_ast.specs.Names.{is_name, begins_name, continues_name}
use Rattle.xml_model.specs.Trees.{has_attribute}
use Rattle.xml_model.specs.Values.{escaped, unescaped}
use Rattle.xml_model.specs.Pyx.{Line, Form, begins, ends, attribute, characters, instruction, form, before_space, behind_space, OpenElement, Reading, refusal, taken, next_line, after, texts_added, with_characters, ends_in_text, attribute_line, behind_target}
use Rattle.xml_model.proofs.Escapes.{escaped_again}

-- no space stands in a name
no_space : (b : ℕ) → continues_name b ≡ true → (b == 32) ≡ false
no_space b c = false_from_ne_true _ (λ e. true≢false (sym c ∙ ap continues_name (eqb-true b 32 e)))

-- before the first space stands each byte up to it
before_space-cons : (b : ℕ) (bs : List ℕ) → (b == 32) ≡ false → before_space (b ∷ bs) ≡ b ∷ before_space bs
before_space-cons b bs e = rw (e, one-add) refl

-- what stands behind the first space does not depend on the bytes before it
behind_space-cons : (b : ℕ) (bs : List ℕ) → (b == 32) ≡ false → behind_space (b ∷ bs) ≡ behind_space bs
behind_space-cons b bs e = rw e (simp (add-one, one-add))

-- before the first space of a name, a space and a value stands the name
before_space_all : (bs v : List ℕ) → list_all continues_name bs ≡ true → before_space (bs ++ 32 ∷ v) ≡ bs
before_space_all [] v h = refl
before_space_all (b ∷ bs) v h = let p = and_parts _ _ h in before_space-cons b (bs ++ 32 ∷ v) (no_space b p.0) ∙ ap (λ r. b ∷ r) (before_space_all bs v p.1)

-- and behind it the value
behind_space_all : (bs v : List ℕ) → list_all continues_name bs ≡ true → behind_space (bs ++ 32 ∷ v) ≡ v
behind_space_all [] v h = refl
behind_space_all (b ∷ bs) v h = let p = and_parts _ _ h in behind_space-cons b (bs ++ 32 ∷ v) (no_space b p.0) ∙ behind_space_all bs v p.1

-- before the first space of a name alone stands all of it
before_space_none : (bs : List ℕ) → list_all continues_name bs ≡ true → before_space bs ≡ bs
before_space_none [] h = refl
before_space_none (b ∷ bs) h = let p = and_parts _ _ h in before_space-cons b bs (no_space b p.0) ∙ ap (λ r. b ∷ r) (before_space_none bs p.1)

-- and behind it nothing
behind_space_none : (bs : List ℕ) → list_all continues_name bs ≡ true → behind_space bs ≡ []
behind_space_none [] h = refl
behind_space_none (b ∷ bs) h = let p = and_parts _ _ h in behind_space-cons b bs (no_space b p.0) ∙ behind_space_none bs p.1

-- what begins a name may also continue it
continues : (b : ℕ) → begins_name b ≡ true → continues_name b ≡ true
continues b e = rw e refl

-- each byte of a name may continue a name
pub name_continues : (name : List ℕ) → IsTrue (is_name name) → list_all continues_name name ≡ true
name_continues [] h = cc
name_continues (b ∷ bs) h =
    let p = and_parts _ _ h in
    let q = and_parts _ _ p.1 in
    rw (continues b p.0) q.0

-- the forms of the canonical lines

-- the line of an attribute is an attribute of that name and value
pub attribute_form : (a : Attr) → IsTrue (is_name a.name) → form (attribute_line a) ≡ attribute a.name a.value
attribute_form a h =
    let w = name_continues a.name h in
    ap₂ attribute (before_space_all a.name (escaped a.value) w) (ap unescaped (behind_space_all a.name (escaped a.value) w) ∙ escaped_again a.value)

-- the line of a text is its characters
pub characters_form : (value : List ℕ) → form (45 ∷ escaped value) ≡ characters value
characters_form value = ap characters (escaped_again value)

-- the line of an instruction is an instruction of that target and value
pub instruction_form : (target value : List ℕ) → IsTrue (is_name target) → form (63 ∷ (target ++ behind_target value)) ≡ instruction target value
instruction_form target [] h =
    let w = name_continues target h in
    rw append-nil (ap₂ instruction (before_space_none target w) (ap unescaped (behind_space_none target w)))
instruction_form target (b ∷ bs) h =
    let w = name_continues target h in
    ap₂ instruction (before_space_all target (escaped (b ∷ bs)) w) (ap unescaped (behind_space_all target (escaped (b ∷ bs)) w) ∙ escaped_again (b ∷ bs))

-- a line that is not refused is taken
pub taken_after : (line : Line) (f : Form) (r : Reading) (rest : List Line) → form line ≡ f → refusal f r ≡ None
    → after (line ∷ rest) r ≡ after rest (record (taken f r) { lines = next_line r.lines })
taken_after line f r rest e n = rw (e, n) refl

-- each list of bytes is the same as itself
pub same_bytes : (bs : List ℕ) → bytes_eq bs bs ≡ true
same_bytes bs = (bytes_eq-Decides bs bs).1 refl

-- whether two names are the same does not depend on their order
pub bytes_eq_sym : (xs ys : List ℕ) → bytes_eq xs ys ≡ false → bytes_eq ys xs ≡ false
bytes_eq_sym xs ys e = false_from_ne_true _ (λ h. true≢false (sym ((bytes_eq-Decides xs ys).1 (sym ((bytes_eq-Decides ys xs).0 h))) ∙ e))

-- characters that are a node of their own
pub texts_added_one : (value : List ℕ) (here : List Node) → 0 < length value → ends_in_text here ≡ false → texts_added value here ≡ 1
texts_added_one [] here h e = absurd (omega arith)
texts_added_one (c ∷ cs) here h e = rw e refl

-- characters behind what is no text are a text of their own
pub with_characters_apart : (c : ℕ) (cs : List ℕ) (here : List Node) → ends_in_text here ≡ false → with_characters (c ∷ cs) here ≡ here ++ Text (c ∷ cs) ∷ []
with_characters_apart c cs [] e = refl
with_characters_apart c cs (Element' name attrs s row ∷ []) e = rw (outs-Element' name attrs s row) refl
with_characters_apart c cs (Text first ∷ []) e = absurd (true≢false (rw (outs-Text first) at e))
with_characters_apart c cs (Pi target value ∷ []) e = rw (outs-Pi target value) refl
with_characters_apart c cs (n ∷ m ∷ more) e = ap (λ r. n ∷ r) (with_characters_apart c cs (m ∷ more) e)

-- the same of each value that is not empty
pub with_characters_more : (value : List ℕ) (here : List Node) → 0 < length value → ends_in_text here ≡ false
    → with_characters value here ≡ here ++ Text value ∷ []
with_characters_more [] here h e = absurd (omega arith)
with_characters_more (c ∷ cs) here h e = with_characters_apart c cs here e

-- a reading by its parts
abbrev pub state : List OpenElement → List Node → Bool → ℕ → ℕ → ℕ → Reading
state stack here tag n b l = record { stack = stack; here = here; in_tag = tag; nodes = n; bytes = b; lines = l }

-- an open element by its parts
abbrev pub opened : List ℕ → List Attr → List Node → OpenElement
opened name attrs before = record { name = name; attrs = attrs; before = before }

-- what each canonical line does to a reading that has room for it
module _ (stack : List OpenElement) (here : List Node) (tag : Bool) (n b l : ℕ) (rest : List Line) where
  -- the beginning of an element opens it
  pub begins_after : (name : List ℕ) → IsTrue (is_name name) → length stack < DEPTH_MAX → n + 1 ≤ NODES_MAX
      → after ((40 ∷ name) ∷ rest) (state stack here tag n b l) ≡ after rest (state (opened name [] here ∷ stack) [] true (n + 1) b (next_line l))
  begins_after name h room few =
      taken_after (40 ∷ name) (begins name) (state stack here tag n b l) rest refl
      (rw (h, lt-leb DEPTH_MAX (length stack) room, le-ltb NODES_MAX (n + 1) few) refl)

  -- the end of the innermost element puts it behind the nodes before it
  pub ends_after : (name : List ℕ) (attrs : List Attr) (before : List Node) → IsTrue (is_name name)
      → after ((41 ∷ name) ∷ rest) (state (opened name attrs before ∷ stack) here tag n b l)
      ≡ after rest (state stack (before ++ Element name attrs here ∷ []) false n b (next_line l))
  ends_after name attrs before h =
      taken_after (41 ∷ name) (ends name) (state (opened name attrs before ∷ stack) here tag n b l) rest refl (rw (h, same_bytes name) refl)

  -- an attribute of a new name goes to the innermost element
  pub attribute_after : (name : List ℕ) (attrs : List Attr) (before : List Node) (a : Attr) → IsTrue (is_name a.name) → has_attribute a.name attrs ≡ false
      → n + 1 ≤ NODES_MAX → b + length a.value ≤ TEXT_BYTES_MAX
      → after (attribute_line a ∷ rest) (state (opened name attrs before ∷ stack) here true n b l)
      ≡ after rest (state (opened name (attrs ++ a ∷ []) before ∷ stack) here true (n + 1) (b + length a.value) (next_line l))
  attribute_after name attrs before a h new few short =
      taken_after (attribute_line a) (attribute a.name a.value) (state (opened name attrs before ∷ stack) here true n b l) rest (attribute_form a h)
      (rw (h, new, le-ltb NODES_MAX (n + 1) few, le-ltb TEXT_BYTES_MAX (b + length a.value) short) refl)

  -- characters behind what is no text are a text
  pub characters_after : (value : List ℕ) → 0 < length value → ends_in_text here ≡ false → n + 1 ≤ NODES_MAX → b + length value ≤ TEXT_BYTES_MAX
      → after ((45 ∷ escaped value) ∷ rest) (state stack here tag n b l)
      ≡ after rest (state stack (here ++ Text value ∷ []) false (n + 1) (b + length value) (next_line l))
  characters_after value some apart few short =
      let added : texts_added value here ≡ 1 = texts_added_one value here some apart in
      taken_after (45 ∷ escaped value) (characters value) (state stack here tag n b l) rest (characters_form value)
      (rw (added, le-ltb NODES_MAX (n + 1) few, le-ltb TEXT_BYTES_MAX (b + length value) short) refl)
      ∙ ap₂ (λ h k. after rest (state stack h false (n + k) (b + length value) (next_line l))) (with_characters_more value here some apart) added

  -- an instruction is a node
  pub instruction_after : (target value : List ℕ) → IsTrue (is_name target) → n + 1 ≤ NODES_MAX → b + length value ≤ TEXT_BYTES_MAX
      → after ((63 ∷ (target ++ behind_target value)) ∷ rest) (state stack here tag n b l)
      ≡ after rest (state stack (here ++ Pi target value ∷ []) false (n + 1) (b + length value) (next_line l))
  instruction_after target value h few short =
      taken_after (63 ∷ (target ++ behind_target value)) (instruction target value) (state stack here tag n b l) rest (instruction_form target value h)
      (rw (h, le-ltb NODES_MAX (n + 1) few, le-ltb TEXT_BYTES_MAX (b + length value) short) refl)
