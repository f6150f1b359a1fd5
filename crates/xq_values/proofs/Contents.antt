-- Content: items one after another make the attributes and children of the content that all of them make.
use Rattle.std.proofs.Common.{◌≡◌, ℕ, Bool, true, false, not, ◌||◌, List, [], ◌∷◌, ◌++◌, refl, ap, sym, ◌∙◌, subst, append_assoc, append-nil, Option, Some, None}
use Rattle.std.specs.Prelude.{filter, if◌then◌else◌}
use Rattle.std.specs.List.{join_with_byte}
use Rattle.xml_model.specs.declared.node.Attr.{Attr}
use Rattle.xml_model.specs.declared.node.Node.{Node, Element', Text, Pi, out-Node}
use Rattle.xml_model.specs.declared.node.Node.TheVariants.{outs-Element', outs-Text, outs-Pi}
use Rattle.xml_model.specs.declared.value.Atom.{Atom}
use Rattle.xml_model.specs.declared.value.Atom.TheVariants as atom
use Rattle.xml_model.specs.Items.{Documents, Made, Items, node, string, integer, boolean, node_at}
use Rattle.xml_model.specs.Atoms.{atom_text}
use Rattle.xml_model.specs.Constructors.{Piece, an_attribute_piece, a_child, text_in, piece_text, pieces_of, pieces, joined_two, joined_to, joined_texts, is_empty_text, content_of, attributes_of, children_of, has_late_attribute}
use Rattle.xq_values.specs.declared.content.Content.{Content}
use Rattle.xq_values.specs.Words.{word}
use Rattle.xq_values.specs.Contents.{some, no_content, closed_by, closed, with_value, attribute_behind, node_behind, child_by, with_piece, with_pieces, at_node, with_items, StandsFor}

-- ---- pieces one after another

or_false : (b : Bool) → (b || false) ≡ b
or_false true = refl
or_false false = refl

or_true : (b : Bool) → (b || true) ≡ true
or_true true = refl
or_true false = refl

or_assoc : (a b c : Bool) → (a || (b || c)) ≡ ((a || b) || c)
or_assoc true b c = refl
or_assoc false b c = refl

attributes-append : (xs ys : List Piece) → attributes_of (xs ++ ys) ≡ attributes_of xs ++ attributes_of ys
attributes-append [] ys = refl
attributes-append (an_attribute_piece a ∷ xs) ys = ap (λ r. a ∷ r) (attributes-append xs ys)
attributes-append (a_child n ∷ xs) ys = attributes-append xs ys

children-append : (xs ys : List Piece) → children_of (xs ++ ys) ≡ children_of xs ++ children_of ys
children-append [] ys = refl
children-append (an_attribute_piece a ∷ xs) ys = children-append xs ys
children-append (a_child n ∷ xs) ys = ap (λ r. n ∷ r) (children-append xs ys)

late-append : (after : Bool) (xs ys : List Piece)
    → has_late_attribute after (xs ++ ys) ≡ (has_late_attribute after xs || has_late_attribute (after || some (children_of xs)) ys)
late-append after [] ys = ap (λ b. has_late_attribute b ys) (sym (or_false after))
late-append after (an_attribute_piece a ∷ xs) ys =
    ap (λ b. after || b) (late-append after xs ys) ∙ or_assoc after (has_late_attribute after xs) (has_late_attribute (after || some (children_of xs)) ys)
late-append after (a_child n ∷ xs) ys =
    late-append true xs ys ∙ ap (λ b. has_late_attribute true xs || has_late_attribute b ys) (sym (or_true after))

-- a text as a child, where it is not empty
abbrev text_child : List ℕ → List Piece
text_child [] = []
text_child (b ∷ text) = a_child (Text (b ∷ text)) ∷ []

closed_stands : (text : List ℕ) (c : Content) (ps : List Piece) → StandsFor c ps → StandsFor (closed_by text c) (ps ++ text_child text)
closed_stands [] c ps h = subst (StandsFor c) (sym (append-nil ps)) h
closed_stands (b ∷ text) c ps h =
    let more : List Piece = a_child (Text (b ∷ text)) ∷ [] in
    record {
      attrs = h.attrs ∙ sym (attributes-append ps more ∙ append-nil (attributes_of ps));
      kids = ap (λ k. k ++ Text (b ∷ text) ∷ []) h.kids ∙ sym (children-append ps more);
      late = h.late ∙ sym (late-append false ps more ∙ or_false (has_late_attribute false ps));
    }

attribute_stands : (c : Content) (ps : List Piece) (a : Attr) → StandsFor c ps → StandsFor (attribute_behind c a) (ps ++ an_attribute_piece a ∷ [])
attribute_stands c ps a h =
    let more : List Piece = an_attribute_piece a ∷ [] in
    record {
      attrs = ap (λ k. k ++ a ∷ []) h.attrs ∙ sym (attributes-append ps more);
      kids = h.kids ∙ sym (children-append ps more ∙ append-nil (children_of ps));
      late = ap (λ b. b || some c.kids) h.late ∙ (ap (λ k. has_late_attribute false ps || some k) h.kids
          ∙ (ap (λ b. has_late_attribute false ps || b) (sym (or_false (some (children_of ps)))) ∙ sym (late-append false ps more)));
    }

node_stands : (c : Content) (ps : List Piece) (n : Node) → StandsFor c ps → StandsFor (node_behind c n) (ps ++ a_child n ∷ [])
node_stands c ps n h =
    let more : List Piece = a_child n ∷ [] in
    record {
      attrs = h.attrs ∙ sym (attributes-append ps more ∙ append-nil (attributes_of ps));
      kids = ap (λ k. k ++ n ∷ []) h.kids ∙ sym (children-append ps more);
      late = h.late ∙ sym (late-append false ps more ∙ or_false (has_late_attribute false ps));
    }

-- ---- what pieces make behind a text

abbrev next : Option (List ℕ) → List ℕ → Piece → (List ℕ → List Piece) → List Piece
next (Some more) text p go = go (text ++ more)
next None text p go = text_child text ++ (p ∷ go [])

abbrev content_from : List ℕ → List Piece → List Piece
content_from text [] = text_child text
content_from text (p ∷ ps) = next (piece_text p) text p (λ t. content_from t ps)

-- the content so far stands for some pieces, and what follows it makes the rest of the whole
record Steps (whole : List Piece → List Piece) (c : Content) : Type 0 where
  done : List Piece
  stands : StandsFor c done
  ended : c.after_value ≡ false
  rest : (ps : List Piece) → done ++ content_from c.text ps ≡ whole ps

moved : (done text : List Piece) (p : Piece) (rest : List Piece) → ((done ++ text) ++ p ∷ []) ++ rest ≡ done ++ (text ++ (p ∷ rest))
moved done text p rest = append_assoc (done ++ text) (p ∷ []) rest ∙ append_assoc done text (p ∷ rest)

one_child : (o : Option (List ℕ)) (n : Node) (c : Content) (whole : List Piece → List Piece) (done : List Piece) → StandsFor c done
    → ((ps : List Piece) → done ++ next o c.text (a_child n) (λ t. content_from t ps) ≡ whole (a_child n ∷ ps)) → Steps (λ ps. whole (a_child n ∷ ps)) (child_by o c n)
one_child (Some text) n c whole done h rest =
    record { done = done; stands = record { attrs = h.attrs; kids = h.kids; late = h.late }; ended = refl; rest = rest }
one_child None n c whole done h rest =
    record {
      done = (done ++ text_child c.text) ++ a_child n ∷ [];
      stands = node_stands (closed c) (done ++ text_child c.text) n (closed_stands c.text c done h);
      ended = refl;
      rest = λ ps. moved done (text_child c.text) (a_child n) (content_from [] ps) ∙ rest ps;
    }

one_piece : (p : Piece) (c : Content) (whole : List Piece → List Piece) → Steps whole c → Steps (λ ps. whole (p ∷ ps)) (with_piece c p)
one_piece (an_attribute_piece a) c whole s =
    record {
      done = (s.done ++ text_child c.text) ++ an_attribute_piece a ∷ [];
      stands = attribute_stands (closed c) (s.done ++ text_child c.text) a (closed_stands c.text c s.done s.stands);
      ended = refl;
      rest = λ ps. moved s.done (text_child c.text) (an_attribute_piece a) (content_from [] ps) ∙ s.rest (an_attribute_piece a ∷ ps);
    }
one_piece (a_child n) c whole s = one_child (text_in (out-Node n)) n c whole s.done s.stands (λ ps. s.rest (a_child n ∷ ps))

all_pieces : (xs : List Piece) (c : Content) (whole : List Piece → List Piece) → Steps whole c → Steps (λ ps. whole (xs ++ ps)) (with_pieces c xs)
all_pieces [] c whole s = s
all_pieces (p ∷ xs) c whole s = all_pieces xs (with_piece c p) (λ ps. whole (p ∷ ps)) (one_piece p c whole s)

-- ---- items

-- the same where an atomic value came last: texts with spaces between stand behind a base
record Running (whole : List Piece → List Piece) (before : List (List ℕ)) (c : Content) : Type 0 where
  done : List Piece
  base : List ℕ
  stands : StandsFor c done
  running : c.after_value ≡ true
  text : c.text ≡ base ++ join_with_byte 32 before
  rest : (ps : List Piece) → done ++ content_from base ps ≡ whole ps

text_of_text : (text : List ℕ) → text_in (out-Node (Text text)) ≡ Some text
text_of_text text = ap text_in (outs-Text text)

join_more : (w : List ℕ) (ws : List (List ℕ)) (t : List ℕ) → join_with_byte 32 (w ∷ (ws ++ t ∷ [])) ≡ join_with_byte 32 (w ∷ ws) ++ (32 ∷ t)
join_more w [] t = refl
join_more w (v ∷ ws) t = ap (λ r. w ++ (32 ∷ r)) (join_more v ws t) ∙ sym (append_assoc w (32 ∷ join_with_byte 32 (v ∷ ws)) (32 ∷ t))

-- the run as one text that has come
as_text : (whole : List Piece → List Piece) (before : List (List ℕ)) (c : Content) (r : Running whole before c) (ps : List Piece)
    → r.done ++ content_from c.text ps ≡ whole (a_child (Text (join_with_byte 32 before)) ∷ ps)
as_text whole before c r ps =
    let run : List ℕ = join_with_byte 32 before in
    ap (λ t. r.done ++ content_from t ps) r.text
    ∙ (ap (λ o. r.done ++ next o r.base (a_child (Text run)) (λ t. content_from t ps)) (sym (text_of_text run)) ∙ r.rest (a_child (Text run) ∷ ps))

first_value : (whole : List Piece → List Piece) (c : Content) (a : Atom) → Steps whole c → Running whole (atom_text a ∷ []) (with_value c a)
first_value whole c a s =
    record {
      done = s.done;
      base = c.text;
      stands = record { attrs = s.stands.attrs; kids = s.stands.kids; late = s.stands.late };
      running = refl;
      text = ap (λ b. c.text ++ word b a) s.ended;
      rest = s.rest;
    }

next_value : (whole : List Piece → List Piece) (w : List ℕ) (ws : List (List ℕ)) (c : Content) (a : Atom) → Running whole (w ∷ ws) c
    → Running whole (w ∷ (ws ++ atom_text a ∷ [])) (with_value c a)
next_value whole w ws c a r =
    record {
      done = r.done;
      base = r.base;
      stands = record { attrs = r.stands.attrs; kids = r.stands.kids; late = r.stands.late };
      running = refl;
      text = ap (λ b. c.text ++ word b a) r.running ∙ (ap (λ t. t ++ (32 ∷ atom_text a)) r.text
          ∙ (append_assoc r.base (join_with_byte 32 (w ∷ ws)) (32 ∷ atom_text a) ∙ ap (λ t. r.base ++ t) (sym (join_more w ws (atom_text a)))));
      rest = r.rest;
    }

at_node_steps : (whole : List Piece → List Piece) (c : Content) → Steps whole c → Steps whole (at_node c)
at_node_steps whole c s =
    record { done = s.done; stands = record { attrs = s.stands.attrs; kids = s.stands.kids; late = s.stands.late }; ended = refl; rest = s.rest }

at_node_runs : (whole : List Piece → List Piece) (before : List (List ℕ)) (c : Content) → Running whole before c
    → Steps (λ ps. whole (a_child (Text (join_with_byte 32 before)) ∷ ps)) (at_node c)
at_node_runs whole before c r =
    record { done = r.done; stands = record { attrs = r.stands.attrs; kids = r.stands.kids; late = r.stands.late }; ended = refl; rest = as_text whole before c r }

mutual
  after_node : (docs : Documents) (made : Made) (items : Items) (c : Content) (whole : List Piece → List Piece) → Steps whole c
      → StandsFor (closed (with_items docs made c items)) (whole (pieces docs made [] items))
  after_node docs made [] c whole s = subst (StandsFor (closed c)) (s.rest []) (closed_stands c.text c s.done s.stands)
  after_node docs made (node n ∷ items) c whole s =
      let xs = pieces_of (node_at docs made n) in
      after_node docs made items (with_pieces (at_node c) xs) (λ ps. whole (xs ++ ps)) (all_pieces xs (at_node c) whole (at_node_steps whole c s))
  after_node docs made (string text ∷ items) c whole s =
      after_value docs made items (with_value c (atom.Text text)) whole (atom_text (atom.Text text)) [] (first_value whole c (atom.Text text) s)
  after_node docs made (integer n ∷ items) c whole s =
      after_value docs made items (with_value c (atom.Int n)) whole (atom_text (atom.Int n)) [] (first_value whole c (atom.Int n) s)
  after_node docs made (boolean b ∷ items) c whole s =
      after_value docs made items (with_value c (atom.Truth b)) whole (atom_text (atom.Truth b)) [] (first_value whole c (atom.Truth b) s)

  after_value : (docs : Documents) (made : Made) (items : Items) (c : Content) (whole : List Piece → List Piece) (w : List ℕ) (ws : List (List ℕ)) → Running whole (w ∷ ws) c
      → StandsFor (closed (with_items docs made c items)) (whole (pieces docs made (w ∷ ws) items))
  after_value docs made [] c whole w ws r = subst (StandsFor (closed c)) (as_text whole (w ∷ ws) c r []) (closed_stands c.text c r.done r.stands)
  after_value docs made (node n ∷ items) c whole w ws r =
      let xs = pieces_of (node_at docs made n) in
      let run : Piece = a_child (Text (join_with_byte 32 (w ∷ ws))) in
      after_node docs made items (with_pieces (at_node c) xs) (λ ps. whole (run ∷ (xs ++ ps)))
      (all_pieces xs (at_node c) (λ ps. whole (run ∷ ps)) (at_node_runs whole (w ∷ ws) c r))
  after_value docs made (string text ∷ items) c whole w ws r =
      after_value docs made items (with_value c (atom.Text text)) whole w (ws ++ atom_text (atom.Text text) ∷ []) (next_value whole w ws c (atom.Text text) r)
  after_value docs made (integer n ∷ items) c whole w ws r =
      after_value docs made items (with_value c (atom.Int n)) whole w (ws ++ atom_text (atom.Int n) ∷ []) (next_value whole w ws c (atom.Int n) r)
  after_value docs made (boolean b ∷ items) c whole w ws r =
      after_value docs made items (with_value c (atom.Truth b)) whole w (ws ++ atom_text (atom.Truth b) ∷ []) (next_value whole w ws c (atom.Truth b) r)

-- ---- texts joined, and empty ones dropped

abbrev keep : Piece → Bool
keep p = not (is_empty_text (piece_text p))

text_is : (n : Node) (text : List ℕ) → text_in (out-Node n) ≡ Some text → n ≡ Text text
text_is (Element' name attrs s row) text e = let f : None ≡ Some text = sym (ap text_in (outs-Element' name attrs s row)) ∙ e in absurd (cc)
text_is (Text value) text e = let f : Some value ≡ Some text = sym (ap text_in (outs-Text value)) ∙ e in cc
text_is (Pi target value) text e = let f : None ≡ Some text = sym (ap text_in (outs-Pi target value)) ∙ e in absurd (cc)

piece_is : (p : Piece) (text : List ℕ) → piece_text p ≡ Some text → p ≡ a_child (Text text)
piece_is (an_attribute_piece a) text e = absurd (cc)
piece_is (a_child n) text e = ap a_child (text_is n text e)

abbrev text_piece : List ℕ → Piece
text_piece text = a_child (Text text)

kept_by : (o : Option (List ℕ)) (text : List ℕ) (rest : List Piece) → o ≡ Some text
    → (if not (is_empty_text o) then text_piece text ∷ rest else rest) ≡ text_child text ++ rest
kept_by o [] rest e = ap (λ p. if not (is_empty_text p) then text_piece [] ∷ rest else rest) e
kept_by o (b ∷ text) rest e = ap (λ p. if not (is_empty_text p) then text_piece (b ∷ text) ∷ rest else rest) e

kept_text : (text : List ℕ) (rest : List Piece) → filter keep (text_piece text ∷ rest) ≡ text_child text ++ filter keep rest
kept_text text rest = kept_by (piece_text (text_piece text)) text (filter keep rest) (text_of_text text)

kept_other : (p : Piece) (rest : List Piece) → piece_text p ≡ None → filter keep (p ∷ rest) ≡ p ∷ filter keep rest
kept_other p rest e = ap (λ o. if not (is_empty_text o) then p ∷ filter keep rest else filter keep rest) e

two_texts : (s t : List ℕ) (p q : Piece) (ps : List Piece) → piece_text p ≡ Some s → piece_text q ≡ Some t → joined_to p (q ∷ ps) ≡ text_piece (s ++ t) ∷ ps
two_texts s t p q ps e f = ap (λ o. joined_two o (piece_text q) p q ps) e ∙ ap (λ o. joined_two (Some s) o p q ps) f

left_other : (p : Piece) (ps : List Piece) → piece_text p ≡ None → joined_to p ps ≡ p ∷ ps
left_other p [] e = refl
left_other p (q ∷ ps) e = ap (λ o. joined_two o (piece_text q) p q ps) e

right_other : (p q : Piece) (ps : List Piece) → piece_text q ≡ None → joined_to p (q ∷ ps) ≡ p ∷ q ∷ ps
right_other p q ps e = ap (λ o. joined_two (piece_text p) o p q ps) e ∙ by_first (piece_text p)
  where
    by_first : (o : Option (List ℕ)) → joined_two o None p q ps ≡ p ∷ q ∷ ps
    by_first (Some s) = refl
    by_first None = refl

-- a text before a text is one text
one_text : (s t : List ℕ) (ps : List Piece) → joined_to (text_piece (s ++ t)) ps ≡ joined_to (text_piece s) (joined_to (text_piece t) ps)
one_text s t [] = sym (two_texts s t (text_piece s) (text_piece t) [] (text_of_text s) (text_of_text t))
one_text s t (q ∷ ps) = by_text (piece_text q) refl
  where
    by_text : (o : Option (List ℕ)) → piece_text q ≡ o → joined_to (text_piece (s ++ t)) (q ∷ ps) ≡ joined_to (text_piece s) (joined_to (text_piece t) (q ∷ ps))
    by_text (Some u) e =
        two_texts (s ++ t) u (text_piece (s ++ t)) q ps (text_of_text (s ++ t)) e
        ∙ (ap (λ v. text_piece v ∷ ps) (append_assoc s t u)
        ∙ (sym (two_texts s (t ++ u) (text_piece s) (text_piece (t ++ u)) ps (text_of_text s) (text_of_text (t ++ u)))
        ∙ ap (joined_to (text_piece s)) (sym (two_texts t u (text_piece t) q ps (text_of_text t) e))))
    by_text None e =
        right_other (text_piece (s ++ t)) q ps e
        ∙ (sym (two_texts s t (text_piece s) (text_piece t) (q ∷ ps) (text_of_text s) (text_of_text t))
        ∙ ap (joined_to (text_piece s)) (sym (right_other (text_piece t) q ps e)))

-- an empty text in front makes nothing
empty_front : (ps : List Piece) → filter keep (joined_to (text_piece []) ps) ≡ filter keep ps
empty_front [] = kept_text [] []
empty_front (q ∷ ps) = by_text (piece_text q) refl
  where
    by_text : (o : Option (List ℕ)) → piece_text q ≡ o → filter keep (joined_to (text_piece []) (q ∷ ps)) ≡ filter keep (q ∷ ps)
    by_text (Some u) e = ap (filter keep) (two_texts [] u (text_piece []) q ps (text_of_text []) e ∙ ap (λ p. p ∷ ps) (sym (piece_is q u e)))
    by_text None e = ap (filter keep) (right_other (text_piece []) q ps e) ∙ kept_text [] (q ∷ ps)

from_text : (ps : List Piece) (text : List ℕ) → content_from text ps ≡ filter keep (joined_texts (text_piece text ∷ ps))
from_text [] text = sym (append-nil (text_child text)) ∙ sym (kept_text text [])
from_text (p ∷ ps) text = by_text (piece_text p) refl (from_text ps)
  where
    by_text : (o : Option (List ℕ)) → piece_text p ≡ o → ((t : List ℕ) → content_from t ps ≡ filter keep (joined_texts (text_piece t ∷ ps)))
        → next o text p (λ t. content_from t ps) ≡ filter keep (joined_to (text_piece text) (joined_to p (joined_texts ps)))
    by_text (Some u) e same =
        same (text ++ u) ∙ (ap (filter keep) (one_text text u (joined_texts ps))
        ∙ ap (λ q. filter keep (joined_to (text_piece text) (joined_to q (joined_texts ps)))) (sym (piece_is p u e)))
    by_text None e same =
        ap (λ r. text_child text ++ (p ∷ r)) (same [] ∙ empty_front (joined_texts ps))
        ∙ (ap (λ r. text_child text ++ r) (sym (kept_other p (joined_texts ps) e))
        ∙ (sym (kept_text text (p ∷ joined_texts ps))
        ∙ ap (filter keep) (sym (ap (joined_to (text_piece text)) (left_other p (joined_texts ps) e) ∙ right_other (text_piece text) p (joined_texts ps) e))))

from_nothing : (ps : List Piece) → content_from [] ps ≡ filter keep (joined_texts ps)
from_nothing ps = from_text ps [] ∙ empty_front (joined_texts ps)

nothing_yet : Steps (content_from []) no_content
nothing_yet = record { done = []; stands = record { attrs = refl; kids = refl; late = refl }; ended = refl; rest = λ ps. refl }

-- all items, one after another, make the attributes and children of the content that they make
pub items_make : (docs : Documents) (made : Made) (items : Items) → StandsFor (closed (with_items docs made no_content items)) (content_of docs made items)
items_make docs made items =
    subst (StandsFor (closed (with_items docs made no_content items))) (from_nothing (pieces docs made [] items))
    (after_node docs made items no_content (content_from []) nothing_yet)
