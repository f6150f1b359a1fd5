-- What lines are read as is what they spell.
use Rattle.std.proofs.Common.{◌≡◌, ℕ, ◌<◌, Bool, true, false, IsTrue, List, [], ◌∷◌, ◌++◌, length, Option, None, Some, Ok, refl, sym, ap, ◌∙◌, subst, true≢false, append_assoc, append-nil, length-append, arith}
use Rattle.std.specs.Str.{bytes_eq}
use Rattle.std.proofs.lemmas.Bool.{not-false}
use Rattle.std.proofs.lemmas.Slice.Eq.{bytes_eq-Decides}
use Rattle.xq_ast.specs.declared.refusal.PyxRefusal.{PyxRefusal}
use Rattle.xq_ast.specs.Names.{is_name}
use Rattle.xml_model.specs.declared.node.Attr.{Attr}
use Rattle.xml_model.specs.declared.node.Doc.{Doc}
use Rattle.xml_model.specs.declared.node.Node.{Node, Element', Text, Pi}
use Rattle.xml_model.specs.declared.node.Node.TheVariants.{Element, outs-Element', outs-Text, outs-Pi}
use Rattle.xml_model.specs.Trees.{has_attribute}
use Rattle.xml_model.specs.Document.{are_attributes}
use Rattle.xml_model.specs.Pyx.{Line, Form, no_form, begins, ends, attribute, characters, instruction, form, OpenElement, Reading, start, refusal, taken, next_line, closed, step, stepped, after, ended, ended_at, read, closes, has_already, with_characters, with_attribute}
use Rattle.xml_model.specs.Spelling.{SpellAttributes, no_attributes, an_attribute, SpellCharacters, no_characters, some_characters, is_characters, begins_with_characters, Spell, no_nodes, an_element, an_instruction, a_text, no_text, SpellsWithinLimits}
use Rattle.xml_model.proofs.Formed.{is_text, attributes_hold, attributes_of}
use Rattle.xml_model.proofs.ReadIsValid.{passed, ok_parts, AreAttributes-push, read_is_valid}

-- the same by other brackets
lines_are : {lines others : List Line} {nodes : List Node} → others ≡ lines → Spell lines nodes → Spell others nodes
lines_are {nodes = nodes} e k = subst (λ l. Spell l nodes) (sym e) k

nodes_are : {lines : List Line} {nodes others : List Node} → others ≡ nodes → Spell lines nodes → Spell lines others
nodes_are {lines = lines} e k = subst (Spell lines) (sym e) k

-- ---- one line more at the end

attributes-push : (tags : List Line) (attrs : List Attr) (line : Line) (a : Attr) → SpellAttributes tags attrs → form line ≡ attribute a.name a.value
    → SpellAttributes (tags ++ line ∷ []) (attrs ++ a ∷ [])
attributes-push _ _ line a no_attributes e = an_attribute e no_attributes
attributes-push _ _ line a (an_attribute f rest) e = an_attribute f (attributes-push _ _ line a rest e)

characters-push : (run : List Line) (v : List ℕ) (line : Line) (w : List ℕ) → SpellCharacters run v → form line ≡ characters w
    → SpellCharacters (run ++ line ∷ []) (v ++ w)
characters-push _ _ line w no_characters e = subst (SpellCharacters (line ∷ [])) (append-nil w) (some_characters e no_characters)
characters-push _ _ line w (some_characters {value = v} {more = more} f rest) e =
    subst (SpellCharacters _) (sym (append_assoc v more w)) (some_characters f (characters-push _ _ line w rest e))

-- ---- runs of characters

-- where a run of lines of characters is not empty, it and what follows begin with characters
pub run_begins : (run : List Line) (v : List ℕ) (rest : List Line) → SpellCharacters run v → 0 < length run → begins_with_characters (run ++ rest) ≡ true
run_begins _ _ rest no_characters h = absurd (omega arith)
run_begins _ _ rest (some_characters f more) h = ap is_characters f

-- a run of lines whose characters are not empty has a line
pub run_is_there : (run : List Line) (v : List ℕ) → SpellCharacters run v → 0 < length v → 0 < length run
run_is_there _ _ no_characters h = h
run_is_there _ _ (some_characters f more) h = omega arith

run_alone : (run : List Line) (v : List ℕ) → SpellCharacters run v → 0 < length run → Spell run (with_characters v [])
run_alone [] v s h = absurd (omega arith)
run_alone (line ∷ run) [] s h = subst (λ l. Spell l []) (append-nil (line ∷ run)) (no_text s refl refl no_nodes)
run_alone (line ∷ run) (c ∷ cs) s h = subst (λ l. Spell l (Text (c ∷ cs) ∷ [])) (append-nil (line ∷ run)) (a_text s (omega arith) refl no_nodes)

-- lines that do not begin with characters are there just where nodes are
abbrev AreBoth : List Line → List Node → Type 0
AreBoth [] [] = Unit {0}
AreBoth [] (n ∷ nodes) = ⊥
AreBoth (line ∷ lines) [] = ⊥
AreBoth (line ∷ lines) (n ∷ nodes) = Unit {0}

both_there : (lines : List Line) (nodes : List Node) → Spell lines nodes → begins_with_characters lines ≡ false → AreBoth lines nodes
both_there _ _ no_nodes e = tt
both_there _ _ (an_element last f n a d k l rest) e = tt
both_there _ _ (an_instruction f n rest) e = tt
both_there _ _ (a_text {run = run} {rest = rest} s some apart more) e = absurd (true≢false (sym (run_begins run _ rest s (run_is_there run _ s some)) ∙ e))
both_there _ _ (no_text {line = line} {run = run} {rest = rest} s none apart more) e =
    absurd (true≢false (sym (run_begins (line ∷ run) _ rest s (omega arith)) ∙ e))

begins-append : (rest lines : List Line) → begins_with_characters rest ≡ false → begins_with_characters lines ≡ false
    → begins_with_characters (rest ++ lines) ≡ false
begins-append [] lines e f = f
begins-append (line ∷ rest) lines e f = e

-- ---- nodes after nodes

element_lines : (first last : Line) (tags inside rest lines : List Line)
    → (first ∷ (tags ++ (inside ++ last ∷ rest))) ++ lines ≡ first ∷ (tags ++ (inside ++ last ∷ (rest ++ lines)))
element_lines first last tags inside rest lines =
    ap (λ l. first ∷ l) (append_assoc tags (inside ++ last ∷ rest) lines ∙ ap (λ l. tags ++ l) (append_assoc inside (last ∷ rest) lines))

-- lines that spell nodes, and behind them lines that spell more and do not begin with characters, spell all of them
pub Spell-append : (lines : List Line) (nodes : List Node) (then : List Line) (more : List Node) → Spell lines nodes → Spell then more
    → begins_with_characters then ≡ false → Spell (lines ++ then) (nodes ++ more)
Spell-append _ _ then more no_nodes t e = t
Spell-append _ _ then more (an_element {nodes = nodes} {first = first} {tags = tags} {inside = inside} {rest = rest} last f n a d k l r) t e =
    lines_are (element_lines first last tags inside rest then) (an_element last f n a d k l (Spell-append rest nodes then more r t e))
Spell-append _ _ then more (an_instruction {nodes = nodes} {line = line} {rest = rest} f n r) t e =
    an_instruction {line = line} f n (Spell-append rest nodes then more r t e)
Spell-append _ _ then more (a_text {nodes = nodes} {run = run} {rest = rest} s some apart r) t e =
    lines_are (append_assoc run rest then) (a_text s some (begins-append rest then apart e) (Spell-append rest nodes then more r t e))
Spell-append _ _ then more (no_text {nodes = nodes} {line = line} {run = run} {rest = rest} s none apart r) t e =
    lines_are (append_assoc (line ∷ run) rest then) (no_text s none (begins-append rest then apart e) (Spell-append rest nodes then more r t e))

-- ---- characters after nodes

-- they leave a first node that is no text
beside_first : (w : List ℕ) (x : Node) (nodes : List Node) → is_text x ≡ false → with_characters w (x ∷ nodes) ≡ x ∷ with_characters w nodes
beside_first [] x nodes e = refl
beside_first (c ∷ cs) (Element' name attrs s row) [] e = rw (outs-Element' name attrs s row) refl
beside_first (c ∷ cs) (Text value) [] e = absurd (true≢false e)
beside_first (c ∷ cs) (Pi target value) [] e = rw (outs-Pi target value) refl
beside_first (c ∷ cs) x (n ∷ nodes) e = refl

-- and a first node that others follow
pub beside_more : (w : List ℕ) (x n : Node) (nodes : List Node) → with_characters w (x ∷ n ∷ nodes) ≡ x ∷ with_characters w (n ∷ nodes)
beside_more [] x n nodes = refl
beside_more (c ∷ cs) x n nodes = refl

-- and they go on a text that is last
pub text_goes_on : (v w : List ℕ) → with_characters w (Text v ∷ []) ≡ Text (v ++ w) ∷ []
text_goes_on v [] = ap (λ t. Text t ∷ []) (sym (append-nil v))
text_goes_on v (c ∷ cs) = rw (outs-Text v) refl

element_no_text : (name : List ℕ) (attrs : List Attr) (kids : List Node) → is_text (Element name attrs kids) ≡ false
element_no_text name attrs kids = refl

-- a text at the end of its lines
text_last : (run rest : List Line) (v : List ℕ) (nodes : List Node) (line : Line) (w : List ℕ) → SpellCharacters run v → 0 < length v → AreBoth rest nodes
    → begins_with_characters rest ≡ false
    → form line ≡ characters w → Spell (rest ++ line ∷ []) (with_characters w nodes) → Spell ((run ++ rest) ++ line ∷ []) (with_characters w (Text v ∷ nodes))
text_last run [] v [] line w s some both apart e r =
    subst (λ nodes. Spell ((run ++ []) ++ line ∷ []) nodes) (sym (text_goes_on v w))
    (subst (λ lines. Spell lines (Text (v ++ w) ∷ [])) (append-nil (run ++ line ∷ []) ∙ ap (λ l. l ++ line ∷ []) (sym (append-nil run)))
    (a_text (characters-push run v line w s e) (omega (arith, some, length-append v w)) refl no_nodes))
text_last run [] v (n ∷ nodes) line w s some both apart e r = absurd both
text_last run (l ∷ rest) v [] line w s some both apart e r = absurd both
text_last run (l ∷ rest) v (n ∷ nodes) line w s some both apart e r =
    subst (λ t. Spell ((run ++ l ∷ rest) ++ line ∷ []) t) (sym (beside_more w (Text v) n nodes))
    (subst (λ lines. Spell lines (Text v ∷ with_characters w (n ∷ nodes))) (sym (append_assoc run (l ∷ rest) (line ∷ []))) (a_text s some apart r))

no_text_last : (first : Line) (run rest : List Line) (v : List ℕ) (nodes : List Node) (line : Line) (w : List ℕ) → SpellCharacters (first ∷ run) v → v ≡ []
    → AreBoth rest nodes → begins_with_characters rest ≡ false
    → form line ≡ characters w → Spell (rest ++ line ∷ []) (with_characters w nodes) → Spell (((first ∷ run) ++ rest) ++ line ∷ []) (with_characters w nodes)
no_text_last first run [] v [] line w s none both apart e r =
    subst (λ lines. Spell (lines ++ line ∷ []) (with_characters w [])) (sym (append-nil (first ∷ run)))
    (subst (λ t. Spell ((first ∷ run) ++ line ∷ []) (with_characters (t ++ w) [])) none
    (run_alone ((first ∷ run) ++ line ∷ []) (v ++ w) (characters-push (first ∷ run) v line w s e) (omega arith)))
no_text_last first run [] v (n ∷ nodes) line w s none both apart e r = absurd both
no_text_last first run (l ∷ rest) v [] line w s none both apart e r = absurd both
no_text_last first run (l ∷ rest) v (n ∷ nodes) line w s none both apart e r =
    subst (λ lines. Spell lines (with_characters w (n ∷ nodes))) (sym (append_assoc (first ∷ run) (l ∷ rest) (line ∷ []))) (no_text s none apart r)

-- lines that spell nodes spell, with a line of characters behind them, the nodes with these characters at the end
pub Spell-characters : (lines : List Line) (nodes : List Node) (line : Line) (w : List ℕ) → Spell lines nodes → form line ≡ characters w
    → Spell (lines ++ line ∷ []) (with_characters w nodes)
Spell-characters _ _ line w no_nodes e =
    subst (λ v. Spell (line ∷ []) (with_characters v [])) (append-nil w) (run_alone (line ∷ []) (w ++ []) (some_characters e no_characters) (omega arith))
Spell-characters _ _ line w
    (an_element {name = name} {attrs = attrs} {kids = kids} {nodes = nodes} {first = first} {tags = tags} {inside = inside} {rest = rest} last f n a d k l r)
    e =
    nodes_are (beside_first w (Element name attrs kids) nodes (element_no_text name attrs kids))
    (lines_are (element_lines first last tags inside rest (line ∷ [])) (an_element last f n a d k l (Spell-characters rest nodes line w r e)))
Spell-characters _ _ line w (an_instruction {target = target} {value = value} {nodes = nodes} {line = first} {rest = rest} f n r) e =
    nodes_are (beside_first w (Pi target value) nodes refl) (an_instruction {line = first} f n (Spell-characters rest nodes line w r e))
Spell-characters _ _ line w (a_text {value = v} {nodes = nodes} {run = run} {rest = rest} s some apart r) e =
    text_last run rest v nodes line w s some (both_there rest nodes r apart) apart e (Spell-characters rest nodes line w r e)
Spell-characters _ _ line w (no_text {value = v} {nodes = nodes} {line = first} {run = run} {rest = rest} s none apart r) e =
    no_text_last first run rest v nodes line w s none (both_there rest nodes r apart) apart e (Spell-characters rest nodes line w r e)

-- ---- what has been read of lines so far

-- the lines before the content of the innermost open element
data Open : List Line → List OpenElement → Type 0 where
  none_open : Open [] []
  one_open : {o : OpenElement} {outer_ones : List OpenElement} {outer inside tags : List Line} (first : Line)
      → Open outer outer_ones → Spell inside o.before → form first ≡ begins o.name → IsTrue (is_name o.name) → SpellAttributes tags o.attrs
      → IsTrue (are_attributes o.attrs)
      → Open (outer ++ (inside ++ first ∷ tags)) (o ∷ outer_ones)

record SoFar (lines : List Line) (stack : List OpenElement) (here : List Node) (tag : Bool) : Type 0 where
  pub outer : List Line
  pub inside : List Line
  pub whole : lines ≡ outer ++ inside
  pub opens : Open outer stack
  pub spelled : Spell inside here
  pub fresh : tag ≡ true → inside ≡ []
  pub within : tag ≡ true → 0 < length stack

-- a start tag
begins_so : (line : Line) (name : List ℕ) (lines : List Line) (stack : List OpenElement) (here : List Node) (tag : Bool) → form line ≡ begins name
    → IsTrue (is_name name) → SoFar lines stack here tag
    → SoFar (lines ++ line ∷ []) (record { name = name; attrs = []; before = here } ∷ stack) [] true
begins_so line name lines stack here tag e named s =
    record {
      outer = s.outer ++ (s.inside ++ line ∷ []);
      inside = [];
      whole = ap (λ l. l ++ line ∷ []) s.whole ∙ append_assoc s.outer s.inside (line ∷ []) ∙ sym (append-nil (s.outer ++ (s.inside ++ line ∷ [])));
      opens = one_open line s.opens s.spelled e named no_attributes refl;
      spelled = no_nodes;
      fresh = λ h. refl;
      within = λ h. omega arith;
    }

-- an end tag
ends_lines : (outer before inside tags : List Line) (first last : Line)
    → ((outer ++ (before ++ first ∷ tags)) ++ inside) ++ last ∷ [] ≡ outer ++ (before ++ first ∷ (tags ++ (inside ++ last ∷ [])))
ends_lines outer before inside tags first last =
    append_assoc (outer ++ (before ++ first ∷ tags)) inside (last ∷ []) ∙ append_assoc outer (before ++ first ∷ tags) (inside ++ last ∷ [])
    ∙ ap (λ l. outer ++ l) (append_assoc before (first ∷ tags) (inside ++ last ∷ []))

ends_so : (line : Line) (name : List ℕ) (outer inside : List Line) (o : OpenElement) (stack : List OpenElement) (here : List Node) → form line ≡ ends name
    → bytes_eq o.name name ≡ true → Open outer (o ∷ stack) → Spell inside here
    → SoFar ((outer ++ inside) ++ line ∷ []) stack (o.before ++ Element o.name o.attrs here ∷ []) false
ends_so line name _ inside o stack here e same (one_open {outer = outer} {inside = before} {tags = tags} first opens b f n a d) k =
    let last : form line ≡ ends o.name = e ∙ ap ends (sym ((bytes_eq-Decides o.name name).0 same)) in
    record {
      outer = outer;
      inside = before ++ first ∷ (tags ++ (inside ++ line ∷ []));
      whole = ends_lines outer before inside tags first line;
      opens = opens;
      spelled = Spell-append before o.before _ _ b (an_element line f n a d k last no_nodes) (ap is_characters f);
      fresh = λ h. absurd (true≢false (sym h));
      within = λ h. absurd (true≢false (sym h));
    }

-- an attribute
attribute_so : (line : Line) (a : Attr) (outer : List Line) (o : OpenElement) (stack : List OpenElement) (here : List Node)
    → form line ≡ attribute a.name a.value → IsTrue (is_name a.name) → has_attribute a.name o.attrs ≡ false
    → Open outer (o ∷ stack) → Spell [] here → SoFar (outer ++ line ∷ []) (record o { attrs = o.attrs ++ a ∷ [] } ∷ stack) here true
attribute_so line a _ o stack here e named new (one_open {outer = outer} {inside = before} {tags = tags} first opens b f n s d) k =
    record {
      outer = outer ++ (before ++ first ∷ (tags ++ line ∷ []));
      inside = [];
      whole = append_assoc outer (before ++ first ∷ tags) (line ∷ []) ∙ ap (λ l. outer ++ l) (append_assoc before (first ∷ tags) (line ∷ []))
          ∙ sym (append-nil (outer ++ (before ++ first ∷ (tags ++ line ∷ []))));
      opens = one_open first opens b f n (attributes-push tags o.attrs line a s e)
          (attributes_hold (o.attrs ++ a ∷ []) (AreAttributes-push o.attrs a (attributes_of o.attrs d) named new));
      spelled = k;
      fresh = λ h. refl;
      within = λ h. omega arith;
    }

-- more of the content
content_so : (line : Line) (lines : List Line) (stack : List OpenElement) (here more : List Node) (tag : Bool) → (s : SoFar lines stack here tag)
    → Spell (s.inside ++ line ∷ []) more → SoFar (lines ++ line ∷ []) stack more false
content_so line lines stack here more tag s k =
    record {
      outer = s.outer;
      inside = s.inside ++ line ∷ [];
      whole = ap (λ l. l ++ line ∷ []) s.whole ∙ append_assoc s.outer s.inside (line ∷ []);
      opens = s.opens;
      spelled = k;
      fresh = λ h. absurd (true≢false (sym h));
      within = λ h. absurd (true≢false (sym h));
    }

ends_by : (line : Line) (name : List ℕ) (lines : List Line) (stack : List OpenElement) (r : Reading) → form line ≡ ends name → closes name stack ≡ true
    → SoFar lines stack r.here r.in_tag
    → SoFar (lines ++ line ∷ []) (closed stack r).stack (closed stack r).here (closed stack r).in_tag
ends_by line name lines [] r e same s = absurd (true≢false (sym same))
ends_by line name lines (o ∷ outer) r e same s =
    subst (λ l. SoFar (l ++ line ∷ []) outer (o.before ++ Element o.name o.attrs r.here ∷ []) false) (sym s.whole)
    (ends_so line name s.outer s.inside o outer r.here e same s.opens s.spelled)

attribute_by : (line : Line) (a : Attr) (lines : List Line) (stack : List OpenElement) (here : List Node) → form line ≡ attribute a.name a.value
    → IsTrue (is_name a.name) → has_already a.name stack ≡ false → SoFar lines stack here true
    → SoFar (lines ++ line ∷ []) (with_attribute a stack) here true
attribute_by line a lines [] here e named new s = absurd (let none : 0 < 0 = s.within refl in omega arith)
attribute_by line a lines (o ∷ outer) here e named new s =
    let bare : s.inside ≡ [] = s.fresh refl in
    subst (λ l. SoFar (l ++ line ∷ []) (record o { attrs = o.attrs ++ a ∷ [] } ∷ outer) here true)
    (sym (s.whole ∙ ap (λ l. s.outer ++ l) bare ∙ append-nil s.outer))
    (attribute_so line a s.outer o outer here e named new s.opens (subst (λ l. Spell l here) bare s.spelled))

-- any line that is not refused
kept : (line : Line) (f : Form) (lines : List Line) (r : Reading) → form line ≡ f → refusal f r ≡ None → SoFar lines r.stack r.here r.in_tag
    → SoFar (lines ++ line ∷ []) (taken f r).stack (taken f r).here (taken f r).in_tag
kept line no_form lines r is e s = cc
kept line (begins name) lines r is e s = begins_so line name lines r.stack r.here r.in_tag is (not-false _ (passed _ _ _ e).0) s
kept line (ends name) lines r is e s =
    let p = passed _ _ _ e in
    let q = passed _ _ _ p.1 in
    ends_by line name lines r.stack r is (not-false _ q.0) s
kept line (attribute name value) lines r is e s =
    let p = passed _ _ _ e in
    let q = passed _ _ _ p.1 in
    let t = passed _ _ _ q.1 in
    let a : Attr = record { name = name; value = value } in
    let tag : r.in_tag ≡ true = not-false _ q.0 in
    subst (λ t. SoFar (lines ++ line ∷ []) (with_attribute a r.stack) r.here t) (sym tag)
    (attribute_by line a lines r.stack r.here is (not-false _ p.0) t.0 (subst (λ t. SoFar lines r.stack r.here t) tag s))
kept line (characters value) lines r is e s =
    content_so line lines r.stack r.here (with_characters value r.here) r.in_tag s (Spell-characters s.inside r.here line value s.spelled is)
kept line (instruction target value) lines r is e s =
    content_so line lines r.stack r.here (r.here ++ Pi target value ∷ []) r.in_tag s
    (Spell-append s.inside r.here (line ∷ []) (Pi target value ∷ []) s.spelled (an_instruction is (not-false _ (passed _ _ _ e).0) no_nodes)
    (ap is_characters is))

stepped_kept : (line : Line) (o : Option PyxRefusal) (lines : List Line) (r then : Reading) → refusal (form line) r ≡ o → stepped o (form line) r ≡ Ok then
    → SoFar lines r.stack r.here r.in_tag → SoFar (lines ++ line ∷ []) then.stack then.here then.in_tag
stepped_kept line (Some why) lines r then e g s = cc
stepped_kept line None lines r then e g s =
    let same : record (taken (form line) r) { lines = next_line r.lines } ≡ then = cc in
    subst (λ q. SoFar (lines ++ line ∷ []) q.stack q.here q.in_tag) same (kept line (form line) lines r refl e s)

after_kept : (todo done : List Line) (r then : Reading) → after todo r ≡ Ok then → SoFar done r.stack r.here r.in_tag
    → SoFar (done ++ todo) then.stack then.here then.in_tag
after_kept [] done r then e s =
    let same : r ≡ then = cc in
    subst (λ q. SoFar (done ++ []) q.stack q.here q.in_tag) same (subst (λ l. SoFar l r.stack r.here r.in_tag) (sym (append-nil done)) s)
after_kept (line ∷ todo) done r then e s =
    let p = ok_parts (step line r) (after todo) then e in
    subst (λ l. SoFar l then.stack then.here then.in_tag) (append_assoc done (line ∷ []) todo)
    (after_kept todo (done ++ line ∷ []) p.0 then p.2 (stepped_kept line (refusal (form line) r) done r p.0 refl p.1 s))

start_so : SoFar [] [] [] false
start_so = record { outer = []; inside = []; whole = refl; opens = none_open; spelled = no_nodes; fresh = λ h. refl; within = λ h. absurd (true≢false (sym h)) }

-- with no element open the content is all
all_inside : (outer inside lines : List Line) (here : List Node) → Open outer [] → lines ≡ outer ++ inside → Spell inside here → Spell lines here
all_inside _ inside lines here none_open e k = subst (λ l. Spell l here) (sym e) k

ended_spelled : (lines : List Line) (stack : List OpenElement) (r : Reading) (doc : Doc) → ended_at stack r ≡ Ok doc → SoFar lines stack r.here r.in_tag
    → Spell lines doc.kids
ended_spelled lines [] r doc e s =
    let same : record { kids = r.here } ≡ doc = cc in
    subst (λ d. Spell lines d.kids) same (all_inside s.outer s.inside lines r.here s.opens s.whole s.spelled)
ended_spelled lines (o ∷ outer) r doc e s = cc

-- what lines are read as is what they spell, within the limits
pub read_is_spelled : (lines : List Line) (doc : Doc) → read lines ≡ Ok doc → SpellsWithinLimits lines doc
read_is_spelled lines doc e =
    let p = ok_parts (after lines start) ended doc e in
    let valid = read_is_valid lines doc e in
    record {
      spelled = ended_spelled lines p.0.stack p.0 doc p.2 (after_kept lines [] start p.0 p.1 start_so);
      depth = valid.depth;
      nodes = valid.nodes;
      text =
          valid.text;
    }
