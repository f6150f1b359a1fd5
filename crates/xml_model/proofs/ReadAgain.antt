-- What is written as PYX is read again.
use Rattle.std.proofs.Common.{◌≡◌, ℕ, suc, ◌+◌, ◌<◌, ◌≤◌, Bool, true, false, ◌&&◌, IsTrue, List, [], ◌∷◌, ◌++◌, map, length, Ok, refl, ap, sym, ◌∙◌, subst, append_assoc, append-nil, arith}
use Rattle.std.specs.Str.{bytes_eq}
use Rattle.std.proofs.lemmas.Bool.{or_parts}
use Rattle.xml_model.specs.declared.limits.TheConstants.{DEPTH_MAX, NODES_MAX, TEXT_BYTES_MAX}
use Rattle.xml_model.specs.declared.node.Attr.{Attr}
use Rattle.xml_model.specs.declared.node.Doc.{Doc}
use Rattle.xml_model.specs.declared.node.Node.{Node, Element', Text, Pi, Row_of-Node, end_of-Node, more_of-Node, items-the_row-Node}
use Rattle.xml_model.specs.declared.node.Node.TheVariants.{Element}
use Rattle.xq_ast.specs.Names.{is_name}
use Rattle.xml_model.specs.Trees.{count_of, count_node, count_step, bytes_of, bytes_node, bytes_step, depth_of, depth_step, has_attribute, value_bytes}
use Rattle.xml_model.specs.Values.{escaped}
use Rattle.xml_model.specs.Document.{IsValid}
use Rattle.xml_model.proofs.Formed.{IsFormed, AreFormed, AllFormed, IsApart, AreAttributes, is_text, valid_has_form}
use Rattle.xml_model.specs.Pyx.{Line, OpenElement, ends_in_text, after, next_line, attribute_line, behind_target, pyx_step, pyx_node, pyx_of, start, ended, ◌>>=◌, read, pyx}
use Rattle.xml_model.proofs.Lines.{bytes_eq_sym, state, opened, begins_after, ends_after, attribute_after, characters_after, instruction_after}
use Rattle.xml_model.proofs.Nodes.{fold-Text, fold-Pi, fold-Element, fold-Element', made-Element', is_text-layer}

-- a name that no attribute has is not that of any of them
not_behind : (name : List ℕ) (done : List Attr) (a : Attr) (more : List Attr) → has_attribute name (done ++ a ∷ more) ≡ false → bytes_eq a.name name ≡ false
not_behind name [] a more h = (or_parts _ _ h).0
not_behind name (d ∷ done) a more h = not_behind name done a more (or_parts _ _ h).1

-- an attribute behind others has a name that none of them has
pub attribute_is_new : (done : List Attr) (a : Attr) (more : List Attr) → AreAttributes (done ++ a ∷ more)
    → IsTrue (is_name a.name) × (has_attribute a.name done ≡ false)
attribute_is_new [] a more h = (h.0, refl)
attribute_is_new (d ∷ done) a more h =
    let i = attribute_is_new done a more h.2 in
    (i.0, rw (bytes_eq_sym a.name d.name (not_behind d.name done a more h.1)) i.1)

-- nodes end in a text just where the last one is a text
pub ends_in_text-push : (here : List Node) (x : Node) → ends_in_text (here ++ x ∷ []) ≡ is_text x
ends_in_text-push [] x = is_text-layer x
ends_in_text-push (n ∷ []) x = is_text-layer x
ends_in_text-push (n ∷ m ∷ more) x = ends_in_text-push (m ∷ more) x

-- before a text that stands apart there is no text
pub no_text_before : {b : Bool} → (b && true) ≡ false → b ≡ false
no_text_before {b = true} e = cc
no_text_before {b = false} e = refl

-- there is room for more nodes behind k open elements, n nodes and b bytes
pub record Fits (k n b : ℕ) (more : List Node) : Type 0 where
  pub deep : k + depth_of more ≤ DEPTH_MAX
  pub few : n + count_of more ≤ NODES_MAX
  pub short : b + bytes_of more ≤ TEXT_BYTES_MAX

-- from here on it reads as if the nodes had been read
pub record Reads (lines : List Line) (stack : List OpenElement) (here more : List Node) (tag : Bool) (n b l : ℕ) (rest : List Line) : Type 0 where
  pub tag_then : Bool
  pub nodes : ℕ
  pub bytes : ℕ
  pub line : ℕ
  pub nodes_are : nodes ≡ n + count_of more
  pub bytes_are : bytes ≡ b + bytes_of more
  pub reads : after (lines ++ rest) (state stack here tag n b l) ≡ after rest (state stack (here ++ more) tag_then nodes bytes line)

-- the same of the attributes of an element
record AttributesRead (todo done : List Attr) (name : List ℕ) (before : List Node) (stack : List OpenElement) (n b l : ℕ) (rest : List Line) : Type 0 where
  pub nodes : ℕ
  pub bytes : ℕ
  pub line : ℕ
  pub nodes_are : nodes ≡ n + length todo
  pub bytes_are : bytes ≡ b + value_bytes todo
  pub reads : after (map attribute_line todo ++ rest) (state (opened name done before ∷ stack) [] true n b l)
      ≡ after rest (state (opened name (done ++ todo) before ∷ stack) [] true nodes bytes line)

-- one attribute, and then the others
attributes_more : (a : Attr) (todo done : List Attr) (name : List ℕ) (before : List Node) (stack : List OpenElement) (n b l : ℕ) (rest : List Line)
    → after (attribute_line a ∷ (map attribute_line todo ++ rest)) (state (opened name done before ∷ stack) [] true n b l)
    ≡ after (map attribute_line todo ++ rest) (state (opened name (done ++ a ∷ []) before ∷ stack) [] true (n + 1) (b + length a.value) (next_line l))
    → AttributesRead todo (done ++ a ∷ []) name before stack (n + 1) (b + length a.value) (next_line l) rest
    → AttributesRead (a ∷ todo) done name before stack n b l rest
attributes_more a todo done name before stack n b l rest first then =
    record {
      nodes = then.nodes;
      bytes = then.bytes;
      line = then.line;
      nodes_are = omega (arith, then.nodes_are);
      bytes_are = omega (arith, then.bytes_are);
      reads = first ∙ (then.reads
          ∙ ap (λ attrs. after rest (state (opened name attrs before ∷ stack) [] true then.nodes then.bytes then.line)) (append_assoc done (a ∷ []) todo));
    }

-- the lines of attributes of different names are read as these attributes
attributes_read : (todo done : List Attr) (name : List ℕ) (before : List Node) (stack : List OpenElement) (n b l : ℕ) (rest : List Line)
    → AreAttributes (done ++ todo) → n + length todo ≤ NODES_MAX → b + value_bytes todo ≤ TEXT_BYTES_MAX → AttributesRead todo done name before stack n b l rest
attributes_read [] done name before stack n b l rest are few short =
    record { nodes = n; bytes = b; line = l; nodes_are = omega arith; bytes_are = omega arith; reads = rw append-nil refl }
attributes_read (a ∷ todo) done name before stack n b l rest are few short =
    let new = attribute_is_new done a todo are in
    attributes_more a todo done name before stack n b l rest
    (attribute_after stack [] true n b l (map attribute_line todo ++ rest) name done before a new.0 new.1 (omega arith) (omega arith))
    (attributes_read todo (done ++ a ∷ []) name before stack (n + 1) (b + length a.value) (next_line l) rest
    (subst AreAttributes (sym (append_assoc done (a ∷ []) todo)) are) (omega arith) (omega arith))

-- no nodes
pub none_read : (stack : List OpenElement) (here : List Node) (tag : Bool) (n b l : ℕ) (rest : List Line) → Reads [] stack here [] tag n b l rest
none_read stack here tag n b l rest =
    record { tag_then = tag; nodes = n; bytes = b; line = l; nodes_are = omega arith; bytes_are = omega arith; reads = rw append-nil refl }

-- a node, and more nodes behind it
behind_read : (first then : List Line) (stack : List OpenElement) (here : List Node) (x : Node) (xs : List Node) (tag : Bool) (n b l : ℕ) (rest : List Line)
    → (one : Reads first stack here (x ∷ []) tag n b l (then ++ rest)) → Reads then stack (here ++ x ∷ []) xs one.tag_then one.nodes one.bytes one.line rest
    → Reads (first ++ then) stack here (x ∷ xs) tag n b l rest
behind_read first then stack here x xs tag n b l rest one others =
    record {
      tag_then = others.tag_then;
      nodes = others.nodes;
      bytes = others.bytes;
      line = others.line;
      nodes_are = omega (arith, one.nodes_are, others.nodes_are);
      bytes_are = omega (arith, one.bytes_are, others.bytes_are);
      reads = ap (λ lines. after lines (state stack here tag n b l)) (append_assoc first then rest)
          ∙ (one.reads ∙ (others.reads
          ∙ ap (λ h. after rest (state stack h others.tag_then others.nodes others.bytes others.line)) (append_assoc here (x ∷ []) xs)));
    }

-- the same where the reading of the others is known from each place that the first may lead to
pub more_read : (first then : List Line) (stack : List OpenElement) (here : List Node) (x : Node) (xs : List Node) (tag : Bool) (n b l : ℕ) (rest : List Line)
    → Reads first stack here (x ∷ []) tag n b l (then ++ rest)
    → ((t : Bool) (m c k : ℕ) → m ≡ n + count_of (x ∷ []) → c ≡ b + bytes_of (x ∷ []) → Reads then stack (here ++ x ∷ []) xs t m c k rest)
    → Reads (first ++ then) stack here (x ∷ xs) tag n b l rest
more_read first then stack here x xs tag n b l rest one others =
    behind_read first then stack here x xs tag n b l rest one (others one.tag_then one.nodes one.bytes one.line one.nodes_are one.bytes_are)

-- an element, from its attributes and its content

-- the lines of an element, its end and the rest, with other brackets
pub regrouped : (front lines : List Line) (last : Line) (rest : List Line) → (front ++ (lines ++ last ∷ [])) ++ rest ≡ front ++ (lines ++ last ∷ rest)
regrouped front lines last rest = append_assoc front (lines ++ last ∷ []) rest ∙ ap (λ ls. front ++ ls) (append_assoc lines (last ∷ []) rest)

element_from : (name : List ℕ) (attrs : List Attr) (kids : List Node) (lines : List Line) (stack : List OpenElement) (here : List Node) (tag : Bool) (n b l : ℕ)
    (rest : List Line)
    → IsTrue (is_name name) → length stack < DEPTH_MAX → n + 1 ≤ NODES_MAX
    → (a : AttributesRead attrs [] name here stack (n + 1) b (next_line l) (lines ++ (41 ∷ name) ∷ rest))
    → Reads lines (opened name attrs here ∷ stack) [] kids true a.nodes a.bytes a.line ((41 ∷ name) ∷ rest)
    → Reads ((40 ∷ name) ∷ (map attribute_line attrs ++ (lines ++ (41 ∷ name) ∷ []))) stack here (Element name attrs kids ∷ []) tag n b l rest
element_from name attrs kids lines stack here tag n b l rest named room few a i =
    record {
      tag_then = false;
      nodes = i.nodes;
      bytes = i.bytes;
      line = next_line i.line;
      nodes_are = omega (arith, a.nodes_are, i.nodes_are, fold-Element ℕ count_step name attrs kids);
      bytes_are = omega (arith, a.bytes_are, i.bytes_are, fold-Element ℕ bytes_step name attrs kids);
      reads = ap (λ ls. after ((40 ∷ name) ∷ ls) (state stack here tag n b l)) (regrouped (map attribute_line attrs) lines (41 ∷ name) rest)
          ∙ (begins_after stack here tag n b l (map attribute_line attrs ++ (lines ++ (41 ∷ name) ∷ rest)) name named room few
          ∙ (a.reads ∙ (i.reads ∙ ends_after stack kids i.tag_then i.nodes i.bytes i.line rest name attrs here named)));
    }

-- the same where the reading of the content is known from each place that the attributes may lead to
element_reads : (name : List ℕ) (attrs : List Attr) (kids : List Node) (lines : List Line) (stack : List OpenElement) (here : List Node) (tag : Bool)
    (n b l : ℕ) (rest : List Line)
    → IsTrue (is_name name) → AreAttributes attrs → length stack < DEPTH_MAX → n + (1 + length attrs) ≤ NODES_MAX → b + value_bytes attrs ≤ TEXT_BYTES_MAX
    → ((m c k : ℕ) → m ≡ n + (1 + length attrs) → c ≡ b + value_bytes attrs
    → Reads lines (opened name attrs here ∷ stack) [] kids true m c k ((41 ∷ name) ∷ rest))
    → Reads ((40 ∷ name) ∷ (map attribute_line attrs ++ (lines ++ (41 ∷ name) ∷ []))) stack here (Element name attrs kids ∷ []) tag n b l rest
element_reads name attrs kids lines stack here tag n b l rest named are room few short inside =
    let a = attributes_read attrs [] name here stack (n + 1) b (next_line l) (lines ++ (41 ∷ name) ∷ rest) are (omega arith) short in
    element_from name attrs kids lines stack here tag n b l rest named room (omega arith) a (inside a.nodes a.bytes a.line (omega arith) a.bytes_are)

-- a text
text_reads : (value : List ℕ) (stack : List OpenElement) (here : List Node) (tag : Bool) (n b l : ℕ) (rest : List Line)
    → 0 < length value → ends_in_text here ≡ false → Fits (length stack) n b (Text value ∷ [])
    → Reads ((45 ∷ escaped value) ∷ []) stack here (Text value ∷ []) tag n b l rest
text_reads value stack here tag n b l rest some apart fits =
    let one : count_node (Text value) ≡ 1 = fold-Text ℕ count_step value in
    let all : bytes_node (Text value) ≡ length value = fold-Text ℕ bytes_step value in
    let few = fits.few in
    let short = fits.short in
    record {
      tag_then = false;
      nodes = n + 1;
      bytes = b + length value;
      line = next_line l;
      nodes_are = omega arith;
      bytes_are = omega arith;
      reads = characters_after stack here tag n b l rest value some apart (omega arith) (omega arith);
    }

-- an instruction
instruction_reads : (target value : List ℕ) (stack : List OpenElement) (here : List Node) (tag : Bool) (n b l : ℕ) (rest : List Line)
    → IsTrue (is_name target) → Fits (length stack) n b (Pi target value ∷ [])
    → Reads ((63 ∷ (target ++ behind_target value)) ∷ []) stack here (Pi target value ∷ []) tag n b l rest
instruction_reads target value stack here tag n b l rest named fits =
    let one : count_node (Pi target value) ≡ 1 = fold-Pi ℕ count_step target value in
    let all : bytes_node (Pi target value) ≡ length value = fold-Pi ℕ bytes_step target value in
    let few = fits.few in
    let short = fits.short in
    record {
      tag_then = false;
      nodes = n + 1;
      bytes = b + length value;
      line = next_line l;
      nodes_are = omega arith;
      bytes_are = omega arith;
      reads = instruction_after stack here tag n b l rest target value named (omega arith) (omega arith);
    }

-- where more nodes fit, the first fits
pub fits_first : {k n b : ℕ} {x : Node} {xs : List Node} → Fits k n b (x ∷ xs) → Fits k n b (x ∷ [])
fits_first fits = record { deep = omega arith; few = omega arith; short = omega arith }

-- the others fit behind it
pub fits_others : {k n b : ℕ} {x : Node} {xs : List Node} (m c : ℕ) → Fits k n b (x ∷ xs) → m ≡ n + count_of (x ∷ []) → c ≡ b + bytes_of (x ∷ [])
    → Fits k m c xs
fits_others m c fits e f = record { deep = omega arith; few = omega arith; short = omega arith }

-- where an element fits, its attributes fit, and its content behind them
pub record FitsInside (k n b : ℕ) (attrs : List Attr) (kids : List Node) : Type 0 where
  pub room : k < DEPTH_MAX
  pub few : n + (1 + length attrs) ≤ NODES_MAX
  pub short : b + value_bytes attrs ≤ TEXT_BYTES_MAX
  pub inside : (m c : ℕ) → m ≡ n + (1 + length attrs) → c ≡ b + value_bytes attrs → Fits (suc k) m c kids

fits_inside : {k n b : ℕ} (name : List ℕ) (attrs : List Attr) (s : _) (row : Row_of-Node _) → Fits k n b (Element' name attrs s row ∷ [])
    → FitsInside k n b attrs (items-the_row-Node _ row)
fits_inside name attrs s row fits =
    let depth = fold-Element' ℕ depth_step name attrs s row in
    let count = fold-Element' ℕ count_step name attrs s row in
    let bytes = fold-Element' ℕ bytes_step name attrs s row in
    record {
      room = omega arith;
      few = omega arith;
      short = omega arith;
      inside =
          λ m c e f. record { deep = omega arith; few = omega arith; short = omega arith };
    }

mutual
  node_reads : (x : Node) (stack : List OpenElement) (here : List Node) (tag : Bool) (n b l : ℕ) (rest : List Line)
      → IsFormed x → (ends_in_text here && is_text x) ≡ false → Fits (length stack) n b (x ∷ []) → Reads (pyx_node x) stack here (x ∷ []) tag n b l rest
  node_reads (Element' name attrs s row) stack here tag n b l rest formed apart fits =
      let within = fits_inside name attrs s row fits in
      rw (fold-Element' (List Line) pyx_step name attrs s row, ← made-Element' name attrs s row)
      (element_reads name attrs _ _ stack here tag n b l rest formed.0 formed.1 within.room within.few within.short
      (λ m c k e f. row_reads _ row (opened name attrs here ∷ stack) [] true m c k ((41 ∷ name) ∷ rest) formed.3 formed.2 (within.inside m c e f)))
  node_reads (Text value) stack here tag n b l rest formed apart fits =
      rw (fold-Text (List Line) pyx_step value) (text_reads value stack here tag n b l rest formed (no_text_before apart) fits)
  node_reads (Pi target value) stack here tag n b l rest formed apart fits =
      rw (fold-Pi (List Line) pyx_step target value) (instruction_reads target value stack here tag n b l rest formed fits)

  row_reads : (m : _) (row : Row_of-Node m) (stack : List OpenElement) (here : List Node) (tag : Bool) (n b l : ℕ) (rest : List Line)
      → AreFormed row → IsApart (ends_in_text here) (items-the_row-Node m row) → Fits (length stack) n b (items-the_row-Node m row)
      → Reads (pyx_of (items-the_row-Node m row)) stack here (items-the_row-Node m row) tag n b l rest
  row_reads _ end_of-Node stack here tag n b l rest formed apart fits = none_read stack here tag n b l rest
  row_reads _ (more_of-Node x row) stack here tag n b l rest formed apart fits =
      more_read (pyx_node x) _ stack here x _ tag n b l rest
      (node_reads x stack here tag n b l _ formed.0 apart.0 (fits_first fits))
      (λ t m c k e f. row_reads _ row stack (here ++ x ∷ []) t m c k rest formed.1
      (subst (λ after. IsApart after (items-the_row-Node _ row)) (sym (ends_in_text-push here x)) apart.1) (fits_others m c fits e f))

-- a list of top nodes, with no element open
list_reads : (xs : List Node) (here : List Node) (tag : Bool) (n b l : ℕ) → AllFormed xs → IsApart (ends_in_text here) xs → Fits 0 n b xs
    → Reads (pyx_of xs) [] here xs tag n b l []
list_reads [] here tag n b l formed apart fits = none_read [] here tag n b l []
list_reads (x ∷ xs) here tag n b l formed apart fits =
    more_read (pyx_node x) _ [] here x xs tag n b l []
    (node_reads x [] here tag n b l _ formed.0 apart.0 (fits_first fits))
    (λ t m c k e f. list_reads xs (here ++ x ∷ []) t m c k formed.1
    (subst (λ after. IsApart after xs) (sym (ends_in_text-push here x)) apart.1) (fits_others m c fits e f))

-- the lines of a valid document are read as that document
pub read_again : (doc : Doc) → IsValid doc → read (pyx doc) ≡ Ok doc
read_again doc valid =
    let fits : Fits 0 0 0 doc.kids = record { deep = omega (arith, valid.depth); few = omega (arith, valid.nodes); short = omega (arith, valid.text) } in
    let form = valid_has_form doc valid in
    let all = list_reads doc.kids [] false 0 0 0 form.formed form.apart fits in
    ap (λ lines. after lines start >>= ended) (sym (append-nil (pyx doc))) ∙ ap (λ r. r >>= ended) all.reads
