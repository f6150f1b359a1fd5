-- What lines spell within the limits is what they are read as.
use Rattle.std.proofs.Common.{◌≡◌, ℕ, ◌+◌, ◌<◌, ◌≤◌, Bool, true, false, ◌&&◌, IsTrue, List, [], ◌∷◌, ◌++◌, length, Ok, refl, ap, sym, ◌∙◌, subst, append_assoc, append-nil, length-append, arith}
use Rattle.std.proofs.lemmas.Bool.{and_left, and_right, lt-leb, le-ltb}
use Rattle.xml_model.specs.declared.limits.TheConstants.{DEPTH_MAX, NODES_MAX, TEXT_BYTES_MAX}
use Rattle.xml_model.specs.declared.node.Attr.{Attr}
use Rattle.xml_model.specs.declared.node.Doc.{Doc}
use Rattle.xml_model.specs.declared.node.Node.{Node, Text, Pi}
use Rattle.xml_model.specs.declared.node.Node.TheVariants.{Element}
use Rattle.xq_ast.specs.Names.{is_name}
use Rattle.xml_model.specs.Trees.{count_node, count_step, bytes_node, bytes_step, depth_step, has_attribute, value_bytes}
use Rattle.xml_model.specs.Pyx.{Line, OpenElement, begins, ends, attribute, characters, instruction, form, ends_in_text, texts_added, with_characters, after, next_line, start, ended, ◌>>=◌, read}
use Rattle.xml_model.specs.Spelling.{SpellAttributes, no_attributes, an_attribute, SpellCharacters, no_characters, some_characters, begins_with_characters, Spell, no_nodes, an_element, an_instruction, a_text, no_text, SpellsWithinLimits}
use Rattle.xml_model.proofs.Formed.{AreAttributes, attributes_of}
use Rattle.xml_model.proofs.Lines.{state, opened, taken_after, same_bytes, texts_added_one, with_characters_more}
use Rattle.xml_model.proofs.Nodes.{fold-Text, fold-Pi, fold-Element}
use Rattle.xml_model.proofs.ReadAgain.{Reads, Fits, FitsInside, attribute_is_new, ends_in_text-push, no_text_before, none_read, more_read, regrouped, fits_first, fits_others}
use Rattle.xml_model.proofs.ReadIsSpelled.{beside_more, text_goes_on, run_begins, run_is_there}

-- ---- what one line does to a reading that has room for it

module _ (stack : List OpenElement) (here : List Node) (tag : Bool) (n b l : ℕ) (rest : List Line) where
  begins_line : (line : Line) (name : List ℕ) → form line ≡ begins name → IsTrue (is_name name) → length stack < DEPTH_MAX → n + 1 ≤ NODES_MAX
      → after (line ∷ rest) (state stack here tag n b l) ≡ after rest (state (opened name [] here ∷ stack) [] true (n + 1) b (next_line l))
  begins_line line name e h room few =
      taken_after line (begins name) (state stack here tag n b l) rest e (rw (h, lt-leb DEPTH_MAX (length stack) room, le-ltb NODES_MAX (n + 1) few) refl)

  ends_line : (line : Line) (name : List ℕ) (attrs : List Attr) (before : List Node) → form line ≡ ends name → IsTrue (is_name name)
      → after (line ∷ rest) (state (opened name attrs before ∷ stack) here tag n b l)
      ≡ after rest (state stack (before ++ Element name attrs here ∷ []) false n b (next_line l))
  ends_line line name attrs before e h =
      taken_after line (ends name) (state (opened name attrs before ∷ stack) here tag n b l) rest e (rw (h, same_bytes name) refl)

  tag_line : (line : Line) (name : List ℕ) (attrs : List Attr) (before : List Node) (a : Attr) → form line ≡ attribute a.name a.value → IsTrue (is_name a.name)
      → has_attribute a.name attrs ≡ false
      → n + 1 ≤ NODES_MAX → b + length a.value ≤ TEXT_BYTES_MAX
      → after (line ∷ rest) (state (opened name attrs before ∷ stack) here true n b l)
      ≡ after rest (state (opened name (attrs ++ a ∷ []) before ∷ stack) here true (n + 1) (b + length a.value) (next_line l))
  tag_line line name attrs before a e h new few short =
      taken_after line (attribute a.name a.value) (state (opened name attrs before ∷ stack) here true n b l) rest e
      (rw (h, new, le-ltb NODES_MAX (n + 1) few, le-ltb TEXT_BYTES_MAX (b + length a.value) short) refl)

  characters_line : (line : Line) (w : List ℕ) → form line ≡ characters w → n + texts_added w here ≤ NODES_MAX → b + length w ≤ TEXT_BYTES_MAX
      → after (line ∷ rest) (state stack here tag n b l)
      ≡ after rest (state stack (with_characters w here) false (n + texts_added w here) (b + length w) (next_line l))
  characters_line line w e few short =
      taken_after line (characters w) (state stack here tag n b l) rest e
      (rw (le-ltb NODES_MAX (n + texts_added w here) few, le-ltb TEXT_BYTES_MAX (b + length w) short) refl)

  instruction_line : (line : Line) (target value : List ℕ) → form line ≡ instruction target value → IsTrue (is_name target) → n + 1 ≤ NODES_MAX
      → b + length value ≤ TEXT_BYTES_MAX
      → after (line ∷ rest) (state stack here tag n b l)
      ≡ after rest (state stack (here ++ Pi target value ∷ []) false (n + 1) (b + length value) (next_line l))
  instruction_line line target value e h few short =
      taken_after line (instruction target value) (state stack here tag n b l) rest e
      (rw (h, le-ltb NODES_MAX (n + 1) few, le-ltb TEXT_BYTES_MAX (b + length value) short) refl)

-- ---- attributes

record TagsRead (tags : List Line) (todo done : List Attr) (name : List ℕ) (before : List Node) (stack : List OpenElement) (n b l : ℕ)
    (rest : List Line) : Type 0 where
  pub nodes : ℕ
  pub bytes : ℕ
  pub line : ℕ
  pub nodes_are : nodes ≡ n + length todo
  pub bytes_are : bytes ≡ b + value_bytes todo
  pub reads : after (tags ++ rest) (state (opened name done before ∷ stack) [] true n b l)
      ≡ after rest (state (opened name (done ++ todo) before ∷ stack) [] true nodes bytes line)

tags_read : (tags : List Line) (todo done : List Attr) (name : List ℕ) (before : List Node) (stack : List OpenElement) (n b l : ℕ) (rest : List Line)
    → SpellAttributes tags todo → AreAttributes (done ++ todo) → n + length todo ≤ NODES_MAX → b + value_bytes todo ≤ TEXT_BYTES_MAX
    → TagsRead tags todo done name before stack n b l rest
tags_read _ _ done name before stack n b l rest no_attributes are few short =
    record { nodes = n; bytes = b; line = l; nodes_are = omega arith; bytes_are = omega arith; reads = rw append-nil refl }
tags_read _ _ done name before stack n b l rest (an_attribute {line = line} {lines = lines} {a = a} {attrs = todo} f more) are few short =
    let new = attribute_is_new done a todo are in
    let then = tags_read lines todo (done ++ a ∷ []) name before stack (n + 1) (b + length a.value) (next_line l) rest more
    (subst AreAttributes (sym (append_assoc done (a ∷ []) todo)) are) (omega arith) (omega arith) in
    record {
      nodes = then.nodes;
      bytes = then.bytes;
      line = then.line;
      nodes_are = omega (arith, then.nodes_are);
      bytes_are = omega (arith, then.bytes_are);
      reads = tag_line stack [] true n b l (lines ++ rest) line name done before a f new.0 new.1 (omega arith) (omega arith)
          ∙ (then.reads ∙ ap (λ attrs. after rest (state (opened name attrs before ∷ stack) [] true then.nodes then.bytes then.line))
          (append_assoc done (a ∷ []) todo));
    }

-- ---- runs of characters

-- a text that is last goes on
goes_on : (v w : List ℕ) (base : List Node) → with_characters w (base ++ Text v ∷ []) ≡ base ++ Text (v ++ w) ∷ []
goes_on v w [] = text_goes_on v w
goes_on v w (x ∷ []) = beside_more w x (Text v) [] ∙ ap (λ r. x ∷ r) (text_goes_on v w)
goes_on v w (x ∷ y ∷ base) = beside_more w x y (base ++ Text v ∷ []) ∙ ap (λ r. x ∷ r) (goes_on v w (y ∷ base))

none_added : (w : List ℕ) (here : List Node) → ends_in_text here ≡ true → texts_added w here ≡ 0
none_added [] here e = refl
none_added (c ∷ cs) here e = rw e refl

record RunRead (run : List Line) (v u : List ℕ) (base : List Node) (stack : List OpenElement) (tag : Bool) (n b l : ℕ) (rest : List Line) : Type 0 where
  pub tag_then : Bool
  pub bytes : ℕ
  pub line : ℕ
  pub bytes_are : bytes ≡ b + length v
  pub reads : after (run ++ rest) (state stack (base ++ Text u ∷ []) tag n b l) ≡ after rest (state stack (base ++ Text (u ++ v) ∷ []) tag_then n bytes line)

-- a run behind a text
run_goes : (run : List Line) (v u : List ℕ) (base : List Node) (stack : List OpenElement) (tag : Bool) (n b l : ℕ) (rest : List Line)
    → SpellCharacters run v → n ≤ NODES_MAX → b + length v ≤ TEXT_BYTES_MAX → RunRead run v u base stack tag n b l rest
run_goes _ _ u base stack tag n b l rest no_characters few short =
    record {
      tag_then = tag;
      bytes = b;
      line = l;
      bytes_are = omega arith;
      reads =
          ap (λ t. after rest (state stack (base ++ Text t ∷ []) tag n b l)) (sym (append-nil u));
    }
run_goes _ _ u base stack tag n b l rest (some_characters {line = line} {lines = lines} {value = w} {more = more} f r) few short =
    let all : length (w ++ more) ≡ length w + length more = length-append w more in
    let none : texts_added w (base ++ Text u ∷ []) ≡ 0 = none_added w (base ++ Text u ∷ []) (ends_in_text-push base (Text u)) in
    let same : n + texts_added w (base ++ Text u ∷ []) ≡ n = omega (arith, none) in
    let then = run_goes lines more (u ++ w) base stack false n (b + length w) (next_line l) rest r few (omega (arith, all)) in
    record {
      tag_then = then.tag_then;
      bytes = then.bytes;
      line = then.line;
      bytes_are = omega (arith, then.bytes_are, all);
      reads = characters_line stack (base ++ Text u ∷ []) tag n b l (lines ++ rest) line w f (omega (arith, none)) (omega (arith, all))
          ∙ ((λ i. after (lines ++ rest) (state stack (goes_on u w base i) false (same i) (b + length w) (next_line l)))
          ∙ (then.reads ∙ ap (λ t. after rest (state stack (base ++ Text t ∷ []) then.tag_then n then.bytes then.line)) (append_assoc u w more)));
    }

-- a line without characters
quiet_line : (stack : List OpenElement) (here : List Node) (tag : Bool) (n b l : ℕ) (rest : List Line) (line : Line) → form line ≡ characters [] → n ≤ NODES_MAX
    → b ≤ TEXT_BYTES_MAX
    → after (line ∷ rest) (state stack here tag n b l) ≡ after rest (state stack here false n b (next_line l))
quiet_line stack here tag n b l rest line f few short =
    let nodes : n + 0 ≡ n = omega arith in
    let bytes : b + 0 ≡ b = omega arith in
    characters_line stack here tag n b l rest line [] f (omega arith) (omega arith)
    ∙ (λ i. after rest (state stack here false (nodes i) (bytes i) (next_line l)))

-- a run behind what is no text, by the characters of its first line
run_read : (run : List Line) (v : List ℕ) (base : List Node) (stack : List OpenElement) (tag : Bool) (n b l : ℕ) (rest : List Line)
    → SpellCharacters run v → 0 < length v → ends_in_text base ≡ false → n + 1 ≤ NODES_MAX → b + length v ≤ TEXT_BYTES_MAX
    → Reads run stack base (Text v ∷ []) tag n b l rest
run_read _ _ base stack tag n b l rest no_characters some apart few short = absurd (omega arith)
run_read _ _ base stack tag n b l rest (some_characters {line = line} {lines = lines} {value = []} {more = more} f r) some apart few short =
    let then = run_read lines more base stack false n b (next_line l) rest r some apart few short in
    record {
      tag_then = then.tag_then;
      nodes = then.nodes;
      bytes = then.bytes;
      line = then.line;
      nodes_are = then.nodes_are;
      bytes_are = then.bytes_are;
      reads = quiet_line stack base tag n b l (lines ++ rest) line f (omega arith) (omega arith) ∙ then.reads;
    }
run_read _ _ base stack tag n b l rest (some_characters {line = line} {lines = lines} {value = c ∷ cs} {more = more} f r) some apart few short =
    let w = c ∷ cs in
    let all : length (w ++ more) ≡ length w + length more = length-append w more in
    let there : 0 < length w = omega arith in
    let one : texts_added w base ≡ 1 = texts_added_one w base there apart in
    let count : count_node (Text (w ++ more)) ≡ 1 = fold-Text ℕ count_step (w ++ more) in
    let bytes : bytes_node (Text (w ++ more)) ≡ length (w ++ more) = fold-Text ℕ bytes_step (w ++ more) in
    let nodes : n + texts_added w base ≡ n + 1 = omega (arith, one) in
    let then = run_goes lines more w base stack false (n + 1) (b + length w) (next_line l) rest r few (omega (arith, all)) in
    record {
      tag_then = then.tag_then;
      nodes = n + 1;
      bytes = then.bytes;
      line = then.line;
      nodes_are = omega (arith, count);
      bytes_are = omega (arith, then.bytes_are, all, bytes);
      reads = characters_line stack base tag n b l (lines ++ rest) line w f (omega (arith, one)) (omega (arith, all))
          ∙ ((λ i. after (lines ++ rest) (state stack (with_characters_more w base there apart i) false (nodes i) (b + length w) (next_line l))) ∙ then.reads);
    }

record QuietRead (run : List Line) (here : List Node) (stack : List OpenElement) (tag : Bool) (n b l : ℕ) (rest : List Line) : Type 0 where
  pub tag_then : Bool
  pub line : ℕ
  pub reads : after (run ++ rest) (state stack here tag n b l) ≡ after rest (state stack here tag_then n b line)

-- a run without characters
quiet_read : (run : List Line) (v : List ℕ) (here : List Node) (stack : List OpenElement) (tag : Bool) (n b l : ℕ) (rest : List Line)
    → SpellCharacters run v → v ≡ [] → n ≤ NODES_MAX → b ≤ TEXT_BYTES_MAX → QuietRead run here stack tag n b l rest
quiet_read _ _ here stack tag n b l rest no_characters none few short = record { tag_then = tag; line = l; reads = refl }
quiet_read _ _ here stack tag n b l rest (some_characters {line = line} {lines = lines} {value = []} {more = more} f r) none few short =
    let then = quiet_read lines more here stack false n b (next_line l) rest r none few short in
    record { tag_then = then.tag_then; line = then.line; reads = quiet_line stack here tag n b l (lines ++ rest) line f few short ∙ then.reads }
quiet_read _ _ here stack tag n b l rest (some_characters {value = c ∷ cs} f r) none few short = cc

-- ---- nodes

fits_kids : {k n b : ℕ} (name : List ℕ) (attrs : List Attr) (kids : List Node) → Fits k n b (Element name attrs kids ∷ []) → FitsInside k n b attrs kids
fits_kids name attrs kids fits =
    let depth = fold-Element ℕ depth_step name attrs kids in
    let count = fold-Element ℕ count_step name attrs kids in
    let bytes = fold-Element ℕ bytes_step name attrs kids in
    record {
      room = omega arith;
      few = omega arith;
      short = omega arith;
      inside =
          λ m c e f. record { deep = omega arith; few = omega arith; short = omega arith };
    }

element_read : (name : List ℕ) (attrs : List Attr) (kids : List Node) (first last : Line) (tags inside : List Line) (stack : List OpenElement)
    (here : List Node) (tag : Bool) (n b l : ℕ) (rest : List Line)
    → form first ≡ begins name → IsTrue (is_name name) → form last ≡ ends name → length stack < DEPTH_MAX → n + 1 ≤ NODES_MAX
    → (a : TagsRead tags attrs [] name here stack (n + 1) b (next_line l) (inside ++ last ∷ rest))
    → Reads inside (opened name attrs here ∷ stack) [] kids true a.nodes a.bytes a.line (last ∷ rest)
    → Reads (first ∷ (tags ++ (inside ++ last ∷ []))) stack here (Element name attrs kids ∷ []) tag n b l rest
element_read name attrs kids first last tags inside stack here tag n b l rest f named k room few a i =
    record {
      tag_then = false;
      nodes = i.nodes;
      bytes = i.bytes;
      line = next_line i.line;
      nodes_are = omega (arith, a.nodes_are, i.nodes_are, fold-Element ℕ count_step name attrs kids);
      bytes_are = omega (arith, a.bytes_are, i.bytes_are, fold-Element ℕ bytes_step name attrs kids);
      reads = ap (λ ls. after (first ∷ ls) (state stack here tag n b l)) (regrouped tags inside last rest)
          ∙ (begins_line stack here tag n b l (tags ++ (inside ++ last ∷ rest)) first name f named room few
          ∙ (a.reads ∙ (i.reads ∙ ends_line stack kids i.tag_then i.nodes i.bytes i.line rest last name attrs here k named)));
    }

instruction_read : (line : Line) (target value : List ℕ) (stack : List OpenElement) (here : List Node) (tag : Bool) (n b l : ℕ) (rest : List Line)
    → form line ≡ instruction target value → IsTrue (is_name target) → Fits (length stack) n b (Pi target value ∷ [])
    → Reads (line ∷ []) stack here (Pi target value ∷ []) tag n b l rest
instruction_read line target value stack here tag n b l rest f named fits =
    let one : count_node (Pi target value) ≡ 1 = fold-Pi ℕ count_step target value in
    let all : bytes_node (Pi target value) ≡ length value = fold-Pi ℕ bytes_step target value in
    let few = fits.few in
    let short = fits.short in
    record {
      tag_then = false;
      nodes = n + 1;
      bytes = b + length value;
      line = next_line l;
      nodes_are = omega arith;
      bytes_are = omega arith;
      reads = instruction_line stack here tag n b l rest line target value f named (omega arith) (omega arith);
    }

text_read : (run : List Line) (v : List ℕ) (stack : List OpenElement) (here : List Node) (tag : Bool) (n b l : ℕ) (rest : List Line)
    → SpellCharacters run v → 0 < length v → ends_in_text here ≡ false → Fits (length stack) n b (Text v ∷ [])
    → Reads run stack here (Text v ∷ []) tag n b l rest
text_read run v stack here tag n b l rest s some apart fits =
    let one : count_node (Text v) ≡ 1 = fold-Text ℕ count_step v in
    let all : bytes_node (Text v) ≡ length v = fold-Text ℕ bytes_step v in
    let few = fits.few in
    let short = fits.short in
    run_read run v here stack tag n b l rest s some apart (omega arith) (omega arith)

-- lines without a node, and then others
quiet_then : (run then : List Line) (stack : List OpenElement) (here nodes : List Node) (tag : Bool) (n b l : ℕ) (rest : List Line)
    → (q : QuietRead run here stack tag n b l (then ++ rest)) → Reads then stack here nodes q.tag_then n b q.line rest
    → Reads (run ++ then) stack here nodes tag n b l rest
quiet_then run then stack here nodes tag n b l rest q others =
    record {
      tag_then = others.tag_then;
      nodes = others.nodes;
      bytes = others.bytes;
      line = others.line;
      nodes_are = others.nodes_are;
      bytes_are = others.bytes_are;
      reads = ap (λ lines. after lines (state stack here tag n b l)) (append_assoc run then rest) ∙ (q.reads ∙ others.reads);
    }

spelled_reads : (lines : List Line) (nodes : List Node) (stack : List OpenElement) (here : List Node) (tag : Bool) (n b l : ℕ) (rest : List Line)
    → Spell lines nodes → (ends_in_text here && begins_with_characters lines) ≡ false → Fits (length stack) n b nodes
    → Reads lines stack here nodes tag n b l rest
spelled_reads _ _ stack here tag n b l rest no_nodes apart fits = none_read stack here tag n b l rest
spelled_reads _ _ stack here tag n b l rest
    (an_element {name = name} {attrs = attrs} {kids = kids} {nodes = nodes} {first = first} {tags = tags} {inside = inside} {rest =
    then} last f named a d k e r) apart fits =
    let x = Element name attrs kids in
    let within = fits_kids name attrs kids (fits_first fits) in
    let done = tags_read tags attrs [] name here stack (n + 1) b (next_line l) (inside ++ last ∷ (then ++ rest)) a (attributes_of attrs d)
    (omega (arith, within.few)) within.short in
    let content = spelled_reads inside kids (opened name attrs here ∷ stack) [] true done.nodes done.bytes done.line (last ∷ (then ++ rest)) k refl
    (within.inside done.nodes done.bytes (omega (arith, done.nodes_are)) done.bytes_are) in
    subst (λ ls. Reads ls stack here (x ∷ nodes) tag n b l rest) (regrouped (first ∷ tags) inside last then)
    (more_read (first ∷ (tags ++ (inside ++ last ∷ []))) then stack here x nodes tag n b l rest
    (element_read name attrs kids first last tags inside stack here tag n b l (then ++ rest) f named e within.room (omega (arith, within.few)) done content)
    (λ t m c o p q. spelled_reads then nodes stack (here ++ x ∷ []) t m c o rest r (and_left _ (begins_with_characters then) (ends_in_text-push here x))
    (fits_others m c fits p q)))
spelled_reads _ _ stack here tag n b l rest
    (an_instruction {target = target} {value = value} {nodes = nodes} {line = line} {rest = then} f named r) apart fits =
    let x = Pi target value in
    more_read (line ∷ []) then stack here x nodes tag n b l rest
    (instruction_read line target value stack here tag n b l (then ++ rest) f named (fits_first fits))
    (λ t m c o p q. spelled_reads then nodes stack (here ++ x ∷ []) t m c o rest r (and_left _ (begins_with_characters then) (ends_in_text-push here x))
    (fits_others m c fits p q))
spelled_reads _ _ stack here tag n b l rest (a_text {value = value} {nodes = nodes} {run = run} {rest = then} s some last r) apart fits =
    let x = Text value in
    more_read run then stack here x nodes tag n b l rest
    (text_read run value stack here tag n b l (then ++ rest) s some
    (no_text_before (ap (λ t. ends_in_text here && t) (sym (run_begins run value then s (run_is_there run value s some))) ∙ apart)) (fits_first fits))
    (λ t m c o p q. spelled_reads then nodes stack (here ++ x ∷ []) t m c o rest r (and_right (ends_in_text (here ++ x ∷ [])) _ last)
    (fits_others m c fits p q))
spelled_reads _ _ stack here tag n b l rest (no_text {value = value} {nodes = nodes} {line = line} {run = run} {rest = then} s none last r) apart fits =
    let few = fits.few in
    let short = fits.short in
    let q = quiet_read (line ∷ run) value here stack tag n b l (then ++ rest) s none (omega arith) (omega arith) in
    quiet_then (line ∷ run) then stack here nodes tag n b l rest q
    (spelled_reads then nodes stack here q.tag_then n b q.line rest r (and_right (ends_in_text here) _ last) fits)

-- what lines spell within the limits is what they are read as
pub spelled_is_read : (lines : List Line) (doc : Doc) → SpellsWithinLimits lines doc → read lines ≡ Ok doc
spelled_is_read lines doc s =
    let fits : Fits 0 0 0 doc.kids = record { deep = omega (arith, s.depth); few = omega (arith, s.nodes); short = omega (arith, s.text) } in
    let all = spelled_reads lines doc.kids [] [] false 0 0 0 [] s.spelled refl fits in
    ap (λ ls. after ls start >>= ended) (sym (append-nil lines)) ∙ ap (λ r. r >>= ended) all.reads
