-- What is read from PYX is valid, and its nodes and bytes are counted.
use Rattle.std.proofs.Common.{◌≡◌, ℕ, ◌+◌, ◌<◌, ◌≤◌, Bool, true, false, cond, IsTrue, List, [], ◌∷◌, ◌++◌, length, Option, None, Some, Result, Ok, Err, refl, sym, subst, true≢false, arith}
use Rattle.std.specs.Str.{bytes_eq}
use Rattle.std.proofs.lemmas.Bool.{or_parts, or_from, and_left, not-false, leb-false, ltb-false}
use Rattle.std.proofs.lemmas.List.{length-append}
use Rattle.xq_ast.specs.declared.refusal.PyxRefusal.{PyxRefusal}
use Rattle.xml_model.specs.declared.limits.TheConstants.{DEPTH_MAX, NODES_MAX, TEXT_BYTES_MAX}
use Rattle.xml_model.specs.declared.node.Attr.{Attr}
use Rattle.xml_model.specs.declared.node.Doc.{Doc}
use Rattle.xml_model.specs.declared.node.RefusedLine.{RefusedLine}
use Rattle.xml_model.specs.declared.node.Node.{Node, Element', Text, Pi}
use Rattle.xml_model.specs.declared.node.Node.TheVariants.{Element, outs-Element', outs-Text, outs-Pi}
use Rattle.xq_ast.specs.Names.{is_name}
use Rattle.xml_model.specs.Trees.{count_of, count_step, bytes_of, bytes_step, depth_of, depth_step, has_attribute, value_bytes}
use Rattle.xml_model.specs.Counts.{open_nodes, open_bytes, IsCounted}
use Rattle.xml_model.specs.Document.{IsValid}
use Rattle.xml_model.proofs.Formed.{AllFormed, IsApart, AreAttributes, is_text, HasForm, form_is_valid}
use Rattle.xml_model.specs.Pyx.{Line, Form, no_form, begins, ends, attribute, characters, instruction, form, OpenElement, Reading, start, refusal, taken, next_line, closed, step, stepped, after, ended, ended_at, ◌>>=◌, read, closes, has_already, texts_added, with_characters, with_attribute}
use Rattle.xml_model.proofs.Lines.{bytes_eq_sym}
use Rattle.xml_model.proofs.Nodes.{fold-Text, fold-Pi, fold-Element, count_of-push, bytes_of-push, depth_of-push, AllFormed-push, IsApart-push, formed-Element}

-- an open element, with so many others round it
record IsOpen (outer : ℕ) (e : OpenElement) : Type 0 where
  pub named : IsTrue (is_name e.name)
  pub attributes : AreAttributes e.attrs
  pub formed : AllFormed e.before
  pub apart : IsApart false e.before
  pub deep : depth_of e.before + outer ≤ DEPTH_MAX

abbrev AreOpen : List OpenElement → Type 0
AreOpen [] = Unit {0}
AreOpen (e ∷ outer) = IsOpen (length outer) e × AreOpen outer

-- what holds of each reading, by its parts
record IsSound (stack : List OpenElement) (here : List Node) (tag : Bool) (nodes bytes : ℕ) : Type 0 where
  pub inside : tag ≡ true → 0 < length stack
  pub are_open : AreOpen stack
  pub formed : AllFormed here
  pub apart : IsApart false here
  pub deep : depth_of here + length stack ≤ DEPTH_MAX
  pub counted : nodes ≡ count_of here + open_nodes stack
  pub few : nodes ≤ NODES_MAX
  pub measured : bytes ≡ bytes_of here + open_bytes stack
  pub short : bytes ≤ TEXT_BYTES_MAX

-- a test that was passed
pub passed : (t : Bool) (why : PyxRefusal) (o : Option PyxRefusal) → cond t (Some why) o ≡ None → (t ≡ false) × (o ≡ None)
passed true why o e = cc
passed false why o e = (refl, e)

-- one attribute more, of a new name

-- a name that none of the attributes has, nor the new one, is not among them all
not_among-push : (name : List ℕ) (attrs : List Attr) (a : Attr) → has_attribute name attrs ≡ false → bytes_eq a.name name ≡ false
    → has_attribute name (attrs ++ a ∷ []) ≡ false
not_among-push name [] a h e = or_from _ _ e refl
not_among-push name (d ∷ attrs) a h e = let p = or_parts _ _ h in or_from _ _ p.0 (not_among-push name attrs a p.1 e)

-- attributes stay attributes with one more of a new name
pub AreAttributes-push : (attrs : List Attr) (a : Attr) → AreAttributes attrs → IsTrue (is_name a.name) → has_attribute a.name attrs ≡ false
    → AreAttributes (attrs ++ a ∷ [])
AreAttributes-push [] a are named new = (named, refl, tt)
AreAttributes-push (d ∷ attrs) a are named new =
    let p = or_parts _ _ new in
    (are.0, not_among-push d.name attrs a are.1 (bytes_eq_sym d.name a.name p.0), AreAttributes-push attrs a are.2 named p.1)

-- the bytes of values grow by those of the new one
value_bytes-push : (attrs : List Attr) (a : Attr) → value_bytes (attrs ++ a ∷ []) ≡ value_bytes attrs + length a.value
value_bytes-push [] a = omega arith
value_bytes-push (d ∷ attrs) a = omega (arith, value_bytes-push attrs a)

-- what characters do to the nodes that they follow
record Grows (first : Bool) (value : List ℕ) (here now : List Node) (added : ℕ) : Type 0 where
  pub formed : AllFormed here → AllFormed now
  pub apart : IsApart first here → IsApart first now
  pub deep : depth_of now ≡ depth_of here
  pub nodes : count_of now ≡ count_of here + added
  pub bytes : bytes_of now ≡ bytes_of here + length value

-- they are the first node, where there is none
characters_first : (c : ℕ) (cs : List ℕ) → Grows false (c ∷ cs) [] (with_characters (c ∷ cs) []) 1
characters_first c cs =
    let d = fold-Text ℕ depth_step (c ∷ cs) in
    let n = fold-Text ℕ count_step (c ∷ cs) in
    let b = fold-Text ℕ bytes_step (c ∷ cs) in
    record { formed = λ h. (omega arith, tt); apart = λ h. (refl, tt); deep = omega arith; nodes = omega arith; bytes = omega arith }

-- they are a text of their own behind an element or an instruction
characters_beside : (first : Bool) (c : ℕ) (cs : List ℕ) (x : Node) → is_text x ≡ false → Grows first (c ∷ cs) (x ∷ []) (x ∷ Text (c ∷ cs) ∷ []) 1
characters_beside first c cs x other =
    let d = fold-Text ℕ depth_step (c ∷ cs) in
    let n = fold-Text ℕ count_step (c ∷ cs) in
    let b = fold-Text ℕ bytes_step (c ∷ cs) in
    record {
      formed = λ h. (h.0, (omega arith, tt));
      apart = λ h. (h.0, (and_left _ _ other, tt));
      deep = omega arith;
      nodes = omega arith;
      bytes =
          omega arith;
    }

-- they go into a text
characters_joined : (first : Bool) (c : ℕ) (cs : List ℕ) (value : List ℕ) → Grows first (c ∷ cs) (Text value ∷ []) (Text (value ++ c ∷ cs) ∷ []) 0
characters_joined first c cs value =
    let d = fold-Text ℕ depth_step (value ++ c ∷ cs) in
    let n = fold-Text ℕ count_step (value ++ c ∷ cs) in
    let b = fold-Text ℕ bytes_step (value ++ c ∷ cs) in
    let d' = fold-Text ℕ depth_step value in
    let n' = fold-Text ℕ count_step value in
    let b' = fold-Text ℕ bytes_step value in
    let all = length-append value (c ∷ cs) in
    record { formed = λ h. (omega arith, tt); apart = λ h. h; deep = omega arith; nodes = omega arith; bytes = omega arith }

-- they go by the last node
characters_last : (first : Bool) (c : ℕ) (cs : List ℕ) (x : Node)
    → Grows first (c ∷ cs) (x ∷ []) (with_characters (c ∷ cs) (x ∷ [])) (texts_added (c ∷ cs) (x ∷ []))
characters_last first c cs (Element' name attrs s row) = rw (outs-Element' name attrs s row) (characters_beside first c cs (Element' name attrs s row) refl)
characters_last first c cs (Text value) = rw (outs-Text value) (characters_joined first c cs value)
characters_last first c cs (Pi target value) = rw (outs-Pi target value) (characters_beside first c cs (Pi target value) refl)

-- they change nothing before the last node
characters_more : (first : Bool) (c : ℕ) (cs : List ℕ) (x : Node) (more : List Node)
    → Grows first (c ∷ cs) (x ∷ more) (with_characters (c ∷ cs) (x ∷ more)) (texts_added (c ∷ cs) (x ∷ more))
characters_more first c cs x [] = characters_last first c cs x
characters_more first c cs x (y ∷ more) =
    let g = characters_more (is_text x) c cs y more in
    record {
      formed = λ h. (h.0, g.formed h.1);
      apart = λ h. (h.0, g.apart h.1);
      deep = omega (arith, g.deep);
      nodes = omega (arith, g.nodes);
      bytes =
          omega (arith, g.bytes);
    }

-- so they do, whatever the nodes are
characters_grow : (c : ℕ) (cs : List ℕ) (here : List Node) → Grows false (c ∷ cs) here (with_characters (c ∷ cs) here) (texts_added (c ∷ cs) here)
characters_grow c cs [] = characters_first c cs
characters_grow c cs (x ∷ more) = characters_more false c cs x more

-- what is taken keeps it

-- a beginning of an element
begins_kept : (name : List ℕ) (r : Reading) → refusal (begins name) r ≡ None → IsSound r.stack r.here r.in_tag r.nodes r.bytes
    → IsSound (record { name = name; attrs = []; before = r.here } ∷ r.stack) [] true (r.nodes + 1) r.bytes
begins_kept name r e s =
    let p = passed _ _ _ e in
    let q = passed _ _ _ p.1 in
    let t = passed _ _ _ q.1 in
    let room : length r.stack < DEPTH_MAX = leb-false _ _ q.0 in
    let few : r.nodes + 1 ≤ NODES_MAX = ltb-false _ _ t.0 in
    record {
      inside = λ h. omega arith;
      are_open = (record { named = not-false _ p.0; attributes = tt; formed = s.formed; apart = s.apart; deep = s.deep }, s.are_open);
      formed = tt;
      apart = tt;
      deep = omega arith;
      counted = omega (arith, s.counted);
      few = few;
      measured = omega (arith, s.measured);
      short = s.short;
    }

-- an end of an element
ends_kept : (name : List ℕ) (stack : List OpenElement) (r : Reading) → closes name stack ≡ true → IsSound stack r.here r.in_tag r.nodes r.bytes
    → IsSound (closed stack r).stack (closed stack r).here (closed stack r).in_tag (closed stack r).nodes (closed stack r).bytes
ends_kept name [] r e s = cc
ends_kept name (o ∷ outer) r e s =
    let is = s.are_open.0 in
    let x = Element o.name o.attrs r.here in
    record {
      inside = λ h. absurd (true≢false (sym h));
      are_open = s.are_open.1;
      formed = AllFormed-push o.before x is.formed (formed-Element o.name o.attrs r.here is.named is.attributes s.apart s.formed);
      apart = IsApart-push false o.before x is.apart refl;
      deep = omega (arith, depth_of-push o.before x, fold-Element ℕ depth_step o.name o.attrs r.here, s.deep, is.deep);
      counted = omega (arith, count_of-push o.before x, fold-Element ℕ count_step o.name o.attrs r.here, s.counted);
      few = s.few;
      measured = omega (arith, bytes_of-push o.before x, fold-Element ℕ bytes_step o.name o.attrs r.here, s.measured);
      short = s.short;
    }

-- an attribute
attribute_kept : (a : Attr) (stack : List OpenElement) (here : List Node) (n b : ℕ) → IsTrue (is_name a.name) → has_already a.name stack ≡ false
    → n + 1 ≤ NODES_MAX → b + length a.value ≤ TEXT_BYTES_MAX
    → IsSound stack here true n b → IsSound (with_attribute a stack) here true (n + 1) (b + length a.value)
attribute_kept a [] here n b named new few short s = absurd (omega (arith, s.inside refl))
attribute_kept a (o ∷ outer) here n b named new few short s =
    let is = s.are_open.0 in
    record {
      inside = λ h. omega arith;
      are_open = (
        record {
          named = is.named;
          attributes = AreAttributes-push o.attrs a is.attributes named new;
          formed = is.formed;
          apart = is.apart;
          deep =
              is.deep;
        },
        s.are_open.1,
      );
      formed = s.formed;
      apart = s.apart;
      deep = s.deep;
      counted = omega (arith, length-append o.attrs (a ∷ []), s.counted);
      few = few;
      measured = omega (arith, value_bytes-push o.attrs a, s.measured);
      short = short;
    }

-- characters
characters_kept : (value : List ℕ) (stack : List OpenElement) (here : List Node) (tag : Bool) (n b : ℕ) → n + texts_added value here ≤ NODES_MAX
    → b + length value ≤ TEXT_BYTES_MAX
    → IsSound stack here tag n b → IsSound stack (with_characters value here) false (n + texts_added value here) (b + length value)
characters_kept [] stack here tag n b few short s =
    record {
      inside = λ h. absurd (true≢false (sym h));
      are_open = s.are_open;
      formed = s.formed;
      apart = s.apart;
      deep = s.deep;
      counted =
          omega (arith, s.counted);
      few = few;
      measured = omega (arith, s.measured);
      short = short;
    }
characters_kept (c ∷ cs) stack here tag n b few short s =
    let g = characters_grow c cs here in
    record {
      inside = λ h. absurd (true≢false (sym h));
      are_open = s.are_open;
      formed = g.formed s.formed;
      apart = g.apart s.apart;
      deep = omega (arith, g.deep, s.deep);
      counted = omega (arith, g.nodes, s.counted);
      few = few;
      measured = omega (arith, g.bytes, s.measured);
      short = short;
    }

-- an instruction
instruction_kept : (target value : List ℕ) (stack : List OpenElement) (here : List Node) (tag : Bool) (n b : ℕ) → IsTrue (is_name target) → n + 1 ≤ NODES_MAX
    → b + length value ≤ TEXT_BYTES_MAX
    → IsSound stack here tag n b → IsSound stack (here ++ Pi target value ∷ []) false (n + 1) (b + length value)
instruction_kept target value stack here tag n b named few short s =
    let x = Pi target value in
    record {
      inside = λ h. absurd (true≢false (sym h));
      are_open = s.are_open;
      formed = AllFormed-push here x s.formed named;
      apart = IsApart-push false here x s.apart refl;
      deep = omega (arith, depth_of-push here x, fold-Pi ℕ depth_step target value, s.deep);
      counted = omega (arith, count_of-push here x, fold-Pi ℕ count_step target value, s.counted);
      few = few;
      measured = omega (arith, bytes_of-push here x, fold-Pi ℕ bytes_step target value, s.measured);
      short = short;
    }

-- any line that is not refused
kept : (f : Form) (r : Reading) → refusal f r ≡ None → IsSound r.stack r.here r.in_tag r.nodes r.bytes
    → IsSound (taken f r).stack (taken f r).here (taken f r).in_tag (taken f r).nodes (taken f r).bytes
kept no_form r e s = cc
kept (begins name) r e s = begins_kept name r e s
kept (ends name) r e s =
    let p = passed _ _ _ e in
    let q = passed _ _ _ p.1 in
    ends_kept name r.stack r (not-false _ q.0) s
kept (attribute name value) r e s =
    let p = passed _ _ _ e in
    let q = passed _ _ _ p.1 in
    let t = passed _ _ _ q.1 in
    let u = passed _ _ _ t.1 in
    let v = passed _ _ _ u.1 in
    let a : Attr = record { name = name; value = value } in
    let tag : r.in_tag ≡ true = not-false _ q.0 in
    let sound : IsSound r.stack r.here true r.nodes r.bytes = subst (λ t. IsSound r.stack r.here t r.nodes r.bytes) tag s in
    subst (λ t. IsSound (with_attribute a r.stack) r.here t (r.nodes + 1) (r.bytes + length value)) (sym tag)
    (attribute_kept a r.stack r.here r.nodes r.bytes (not-false _ p.0) t.0 (ltb-false _ _ u.0) (ltb-false _ _ v.0) sound)
kept (characters value) r e s =
    let p = passed _ _ _ e in
    let q = passed _ _ _ p.1 in
    characters_kept value r.stack r.here r.in_tag r.nodes r.bytes (ltb-false _ _ p.0) (ltb-false _ _ q.0) s
kept (instruction target value) r e s =
    let p = passed _ _ _ e in
    let q = passed _ _ _ p.1 in
    let t = passed _ _ _ q.1 in
    instruction_kept target value r.stack r.here r.in_tag r.nodes r.bytes (not-false _ p.0) (ltb-false _ _ q.0) (ltb-false _ _ t.0) s

-- what stands behind an answer

-- an answer that went on to another one was there
pub ok_parts : {A B : Type 0} (o : Result A RefusedLine) (f : A → Result B RefusedLine) (b : B) → (o >>= f) ≡ Ok b → (a : A) × (o ≡ Ok a) × (f a ≡ Ok b)
ok_parts (Ok a) f b e = (a, refl, e)
ok_parts (Err x) f b e = cc

-- a line that was read keeps it
stepped_kept : (o : Option PyxRefusal) (f : Form) (r then : Reading) → refusal f r ≡ o → stepped o f r ≡ Ok then
    → IsSound r.stack r.here r.in_tag r.nodes r.bytes → IsSound then.stack then.here then.in_tag then.nodes then.bytes
stepped_kept (Some why) f r then e g s = cc
stepped_kept None f r then e g s =
    let same : record (taken f r) { lines = next_line r.lines } ≡ then = cc in
    subst (λ q. IsSound q.stack q.here q.in_tag q.nodes q.bytes) same (kept f r e s)

-- all lines that were read keep it
after_kept : (lines : List Line) (r then : Reading) → after lines r ≡ Ok then → IsSound r.stack r.here r.in_tag r.nodes r.bytes
    → IsSound then.stack then.here then.in_tag then.nodes then.bytes
after_kept [] r then e s = let same : r ≡ then = cc in subst (λ q. IsSound q.stack q.here q.in_tag q.nodes q.bytes) same s
after_kept (line ∷ lines) r then e s =
    let p = ok_parts (step line r) (after lines) then e in
    after_kept lines p.0 then p.2 (stepped_kept (refusal (form line) r) (form line) r p.0 refl p.1 s)

-- at the end no element is open

ended_valid : (stack : List OpenElement) (r : Reading) (doc : Doc) → ended_at stack r ≡ Ok doc → IsSound stack r.here r.in_tag r.nodes r.bytes → HasForm doc
ended_valid [] r doc e s =
    let same : record { kids = r.here } ≡ doc = cc in
    subst HasForm same (record {
      formed = s.formed;
      apart = s.apart;
      depth = omega (arith, s.deep);
      nodes = omega (arith, s.counted, s.few);
      text =
          omega (arith, s.measured, s.short);
    })
ended_valid (f ∷ outer) r doc e s = cc

-- it holds at the start
start_sound : IsSound [] [] false 0 0
start_sound = record {
  inside = λ h. absurd (true≢false (sym h));
  are_open = tt;
  formed = tt;
  apart = tt;
  deep = omega arith;
  counted = omega arith;
  few =
      omega arith;
  measured = omega arith;
  short = omega arith;
}

-- what lines are read as is a valid document
pub read_is_valid : (lines : List Line) (doc : Doc) → read lines ≡ Ok doc → IsValid doc
read_is_valid lines doc e =
    let p = ok_parts (after lines start) ended doc e in
    form_is_valid doc (ended_valid p.0.stack p.0 doc p.2 (after_kept lines start p.0 p.1 start_sound))

-- what has been read is counted
pub read_is_counted : (lines : List Line) (r : Reading) → after lines start ≡ Ok r → IsCounted r
read_is_counted lines r e =
    let s = after_kept lines start r e start_sound in
    record { nodes = s.counted; bytes = s.measured }
