-- Texts that are read line by line.
use Rattle.std.proofs.Common.{◌≡◌, inl, inr, ℕ, suc, ◌+◌, ◌<◌, List, [], ◌∷◌, ◌++◌, length, drop, get_or, Result, Ok, Err, IsOk, IsErr, IsUtf8, true≢false, refl, sym, ap, ◌∙◌, subst, arith}
use Rattle.std.proofs.lemmas.List.{append_assoc, append-nil, length-append, take_at, drop_at, get_or_at}
use Rattle.std.proofs.lemmas.Str.{IsUtf8-append, IsUtf8-nil, IsUtf8-take, IsUtf8-drop, IsCharBoundary-before_ascii, IsCharBoundary-after_ascii}
use Rattle.page_bytes.specs.declared.ids.Space.{Space}
use Rattle.page_bytes.specs.declared.end.PageEnd.{PageEnd}
use Rattle.xml_model.specs.declared.node.Doc.{Doc}
use Rattle.xml_model.specs.declared.node.RefusedLine.{RefusedLine}
use Rattle.xml_model.specs.Pyx.{Line, Reading, start, step, after, ended, read, text_of, in_front, split_lines, IsPlain, ArePlain, ◌>>=◌}
use Rattle.xml_model.proofs.TextAgain.{first_line}
use Rattle.flat_doc.specs.Reading.{IsTextOf, SpellsNone}
use Rattle.flat_doc.specs.Lines.{IsRead, Reads, GivesDoc}

-- a text that goes on behind some lines
text_of-more : (lines : List Line) (line : Line) (rest : List ℕ) → (text_of lines ++ line) ++ 10 ∷ rest ≡ text_of (lines ++ line ∷ []) ++ rest
text_of-more [] line rest = sym (append_assoc line (10 ∷ []) rest)
text_of-more (first ∷ lines) line rest =
    ap (λ l. l ++ 10 ∷ rest) (append_assoc first (10 ∷ text_of lines) line)
    ∙ append_assoc first (10 ∷ (text_of lines ++ line)) (10 ∷ rest)
    ∙ ap (λ l. first ++ 10 ∷ l) (text_of-more lines line rest)
    ∙ sym (append_assoc first (10 ∷ text_of (lines ++ line ∷ [])) rest)

-- plain lines, and then a text, are those lines and the lines of the text
split-plain : (lines : List Line) (rest : List ℕ) → ArePlain lines → split_lines (text_of lines ++ rest) ≡ lines ++ split_lines rest
split-plain [] rest plain = refl
split-plain (first ∷ lines) rest plain =
    ap split_lines (append_assoc first (10 ∷ text_of lines) rest) ∙ first_line first (text_of lines ++ rest) plain.0
    ∙ ap (λ l. first ∷ l) (split-plain lines rest plain.1)

-- a plain text that isn't empty is one line
one_line : (b : ℕ) (bs : List ℕ) → IsPlain (b ∷ bs) → split_lines (b ∷ bs) ≡ (b ∷ bs) ∷ []
one_line b [] plain = rw plain.0 refl
one_line b (c ∷ bs) plain = rw plain.0 (ap (in_front b) (one_line c bs plain.1))

ArePlain-more : (lines : List Line) (line : Line) → ArePlain lines → IsPlain line → ArePlain (lines ++ line ∷ [])
ArePlain-more [] line plain is = (is, tt)
ArePlain-more (first ∷ lines) line plain is = (plain.0, ArePlain-more lines line plain.1 is)

-- bytes without a newline, behind others
IsPlain-append : (line bytes : List ℕ) → IsPlain line → IsPlain bytes → IsPlain (line ++ bytes)
IsPlain-append [] bytes plain is = is
IsPlain-append (b ∷ line) bytes plain is = (plain.0, IsPlain-append line bytes plain.1 is)

-- what has been read after some lines and one more
after-more : (lines : List Line) (line : Line) (rest : List Line) (r : Reading) → after (lines ++ line ∷ rest) r ≡ (after lines r >>= (λ q. step line q >>= after rest))
after-more [] line rest r = refl
after-more (first ∷ lines) line rest r = at (step first r) (λ q. after-more lines line rest q)
  where
    at : (q : Result Reading RefusedLine)
        → ((p : Reading) → after (lines ++ line ∷ rest) p ≡ (after lines p >>= (λ p. step line p >>= after rest)))
        → (q >>= after (lines ++ line ∷ rest)) ≡ ((q >>= after lines) >>= (λ p. step line p >>= after rest))
    at (Ok q) more = more q
    at (Err e) more = refl

-- the newline is text
newline_utf8 : IsUtf8 (10 ∷ [])
unfolding lib.Utf8.encode
newline_utf8 = (10 ∷ [], (refl, refl))

-- the line that ends a text of UTF-8, or that a newline ends there, is UTF-8
line_utf8 : (lines : List Line) (line : Line) (rest : List ℕ) → IsUtf8 (text_of lines ++ (line ++ 10 ∷ rest)) → IsUtf8 line
line_utf8 [] line rest is =
    let bs = line ++ 10 ∷ rest in
    let long : length bs ≡ length line + suc (length rest) = length-append line (10 ∷ rest) in
    let newline : get_or bs (length line) 0 ≡ 10 = get_or_at line 10 rest 0 (length line) refl in
    subst IsUtf8 (take_at line (10 ∷ rest) (length line) refl)
    (IsUtf8-take bs (length line) is (IsCharBoundary-before_ascii bs (length line) (omega (arith, long)) (omega (arith, newline))))
line_utf8 (first ∷ lines) line rest is =
    let more = text_of lines ++ (line ++ 10 ∷ rest) in
    let bs = first ++ 10 ∷ more in
    let whole : IsUtf8 bs = subst IsUtf8 (append_assoc first (10 ∷ text_of lines) (line ++ 10 ∷ rest)) is in
    let long : length bs ≡ length first + suc (length more) = length-append first (10 ∷ more) in
    let newline : get_or bs (length first) 0 ≡ 10 = get_or_at first 10 more 0 (length first) refl in
    let apart : bs ≡ (first ++ 10 ∷ []) ++ more = sym (append_assoc first (10 ∷ []) more) in
    let count : length (first ++ 10 ∷ []) ≡ length first + 1 = length-append first (10 ∷ []) in
    line_utf8 lines line rest
    (subst IsUtf8 (ap (drop (length first + 1)) apart ∙ drop_at (first ++ 10 ∷ []) more (length first + 1) count)
    (IsUtf8-drop bs (length first + 1) whole (IsCharBoundary-after_ascii bs (length first) whole (omega (arith, long)) (omega (arith, newline)))))

-- before anything was read
pub none_read : IsRead [] (Ok start) []
none_read = record {
  lines = [];
  whole = refl;
  plain = tt;
  line_plain = tt;
  utf8 = IsUtf8-nil;
  so_far = start;
  is_read = refl;
  kept = refl;
}

-- More bytes of the line are read.
pub bytes_read : (text : List ℕ) (reading : Result Reading RefusedLine) (line bytes : List ℕ) → IsRead text reading line → IsPlain bytes
    → IsRead (text ++ bytes) reading (line ++ bytes)
bytes_read text reading line bytes is plain = record {
  lines = is.lines;
  whole = ap (λ l. l ++ bytes) is.whole ∙ append_assoc (text_of is.lines) line bytes;
  plain = is.plain;
  line_plain = IsPlain-append line bytes is.line_plain plain;
  utf8 = is.utf8;
  so_far = is.so_far;
  is_read = is.is_read;
  kept = is.kept;
}

-- the text with its line ended, and more
ended_text : (text : List ℕ) (reading : Result Reading RefusedLine) (line more : List ℕ) (is : IsRead text reading line)
    → (text ++ 10 ∷ []) ++ more ≡ text_of (is.lines ++ line ∷ []) ++ more
ended_text text reading line more is =
    append_assoc text (10 ∷ []) more ∙ ap (λ l. l ++ 10 ∷ more) is.whole ∙ text_of-more is.lines line more

-- the line is read
pub line_read : (text : List ℕ) (reading new : Result Reading RefusedLine) (line : List ℕ) (next : Reading) → IsRead text reading line → IsUtf8 line
    → new ≡ (reading >>= step line) → new ≡ Ok next → IsRead (text ++ 10 ∷ []) new []
line_read text reading new line next is utf8 taken good =
    let stepped : step line is.so_far ≡ Ok next = sym (taken ∙ ap (λ r. r >>= step line) is.kept) ∙ good in
    let same : text ++ 10 ∷ [] ≡ text_of (is.lines ++ line ∷ []) ++ [] = sym (append-nil (text ++ 10 ∷ [])) ∙ ended_text text reading line [] is in
    record {
      lines = is.lines ++ line ∷ [];
      whole = same;
      plain = ArePlain-more is.lines line is.plain is.line_plain;
      line_plain = tt;
      utf8 = subst IsUtf8 (ap (λ l. l ++ 10 ∷ []) (sym is.whole) ∙ same ∙ append-nil (text_of (is.lines ++ line ∷ [])))
          (IsUtf8-append (text_of is.lines ++ line) (10 ∷ []) (IsUtf8-append (text_of is.lines) line is.utf8 utf8) newline_utf8);
      so_far = next;
      is_read = after-more is.lines line [] start ∙ ap (λ r. r >>= (λ q. step line q >>= after [])) is.is_read ∙ ap (λ r. r >>= after []) stepped;
      kept = good;
    }

-- a line that is refused
pub line_refused : (text : List ℕ) (reading new : Result Reading RefusedLine) (line : List ℕ) (e : RefusedLine) → IsRead text reading line
    → new ≡ (reading >>= step line) → new ≡ Err e → (more : List ℕ) → SpellsNone ((text ++ 10 ∷ []) ++ more)
line_refused text reading new line e is taken bad more =
    let stepped : step line is.so_far ≡ Err e = sym (taken ∙ ap (λ r. r >>= step line) is.kept) ∙ bad in
    let lines : split_lines ((text ++ 10 ∷ []) ++ more) ≡ is.lines ++ line ∷ split_lines more =
    ap split_lines (ended_text text reading line more is)
    ∙ split-plain (is.lines ++ line ∷ []) more (ArePlain-more is.lines line is.plain is.line_plain)
    ∙ append_assoc is.lines (line ∷ []) (split_lines more) in
    let none : read (split_lines ((text ++ 10 ∷ []) ++ more)) ≡ Err e =
    ap read lines ∙ ap (λ r. r >>= ended) (after-more is.lines line (split_lines more) start
    ∙ ap (λ r. r >>= (λ q. step line q >>= after (split_lines more))) is.is_read ∙ ap (λ r. r >>= after (split_lines more)) stepped) in
    inr (subst IsErr (sym none) refl)

-- a line that isn't UTF-8
pub line_not_utf8 : (text : List ℕ) (reading : Result Reading RefusedLine) (line : List ℕ) → IsRead text reading line → (IsUtf8 line → ⊥)
    → (more : List ℕ) → SpellsNone ((text ++ 10 ∷ []) ++ more)
line_not_utf8 text reading line is bad more =
    let whole : (text ++ 10 ∷ []) ++ more ≡ text_of is.lines ++ (line ++ 10 ∷ more) =
    append_assoc text (10 ∷ []) more ∙ ap (λ l. l ++ 10 ∷ more) is.whole ∙ append_assoc (text_of is.lines) line (10 ∷ more) in
    inl (λ utf8. bad (line_utf8 is.lines line more (subst IsUtf8 whole utf8)))

-- the whole text is read
pub all_read : (text : List ℕ) (reading : Result Reading RefusedLine) (doc : Doc) → IsRead text reading [] → (reading >>= ended) ≡ Ok doc → IsTextOf doc text
all_read text reading doc is gives =
    let same : text ≡ text_of is.lines ++ [] = is.whole in
    let lines : split_lines text ≡ is.lines = ap split_lines same ∙ split-plain is.lines [] is.plain ∙ append-nil is.lines in
    record {
      utf8 = subst IsUtf8 (sym (same ∙ append-nil (text_of is.lines))) is.utf8;
      reads = ap read lines ∙ ap (λ r. r >>= ended) (is.is_read ∙ sym is.kept) ∙ gives;
    }

pub none_given : (text : List ℕ) (reading : Result Reading RefusedLine) (e : RefusedLine) → IsRead text reading [] → (reading >>= ended) ≡ Err e → SpellsNone text
none_given text reading e is gives =
    let lines : split_lines text ≡ is.lines = ap split_lines is.whole ∙ split-plain is.lines [] is.plain ∙ append-nil is.lines in
    let none : read (split_lines text) ≡ Err e = ap read lines ∙ ap (λ r. r >>= ended) (is.is_read ∙ sym is.kept) ∙ gives in
    inr (subst IsErr (sym none) refl)

-- a text whose last line no newline ends has the lines that it has with one
same_lines : (text : List ℕ) (reading : Result Reading RefusedLine) (b : ℕ) (line : List ℕ) → IsRead text reading (b ∷ line)
    → split_lines (text ++ 10 ∷ []) ≡ split_lines text
same_lines text reading b line is =
    let with_newline : split_lines (text ++ 10 ∷ []) ≡ is.lines ++ (b ∷ line) ∷ [] =
    ap split_lines (sym (append-nil (text ++ 10 ∷ [])) ∙ ended_text text reading (b ∷ line) [] is)
    ∙ split-plain (is.lines ++ (b ∷ line) ∷ []) [] (ArePlain-more is.lines (b ∷ line) is.plain is.line_plain)
    ∙ append-nil (is.lines ++ (b ∷ line) ∷ []) in
    let without : split_lines text ≡ is.lines ++ (b ∷ line) ∷ [] =
    ap split_lines is.whole ∙ split-plain is.lines (b ∷ line) is.plain ∙ ap (λ l. is.lines ++ l) (one_line b line is.line_plain) in
    with_newline ∙ sym without

-- so it spells the same document
without_newline : (text : List ℕ) → IsUtf8 (text ++ 10 ∷ []) → IsUtf8 text
without_newline text utf8 =
    let bs = text ++ 10 ∷ [] in
    let long : length bs ≡ length text + 1 = length-append text (10 ∷ []) in
    let newline : get_or bs (length text) 0 ≡ 10 = get_or_at text 10 [] 0 (length text) refl in
    subst IsUtf8 (take_at text (10 ∷ []) (length text) refl)
    (IsUtf8-take bs (length text) utf8 (IsCharBoundary-before_ascii bs (length text) (omega (arith, long)) (omega (arith, newline))))

pub last_given : (space : Space) (text : List ℕ) (reading : Result Reading RefusedLine) (line : List ℕ) (r : Result Doc PageEnd) → IsRead text reading line
    → 0 < length line → GivesDoc space (text ++ 10 ∷ []) r → GivesDoc space text r
last_given space text reading [] r is some gives = absurd (omega (arith, some))
last_given space text reading (b ∷ line) (Ok doc) is some gives =
    record { utf8 = without_newline text gives.utf8; reads = ap read (sym (same_lines text reading b line is)) ∙ gives.reads }
last_given space text reading (b ∷ line) (Err end) is some (inl out) = inl out
last_given space text reading (b ∷ line) (Err end) is some (inr (damaged, inl bad)) =
    inr (damaged, inl (λ utf8. bad (IsUtf8-append text (10 ∷ []) utf8 newline_utf8)))
last_given space text reading (b ∷ line) (Err end) is some (inr (damaged, inr bad)) =
    inr (damaged, inr (subst (λ l. IsErr (read l)) (same_lines text reading b line is) bad))

-- what no text that begins so spells, it doesn't spell itself
pub none_at_all : (text : List ℕ) → ((more : List ℕ) → SpellsNone (text ++ more)) → SpellsNone text
none_at_all text none = subst SpellsNone (append-nil text) (none [])

-- what is there after a good line
good : (r : Result Reading RefusedLine) → IsOk r → (q : Reading) × (r ≡ Ok q)
good (Ok q) is = (q, refl)
good (Err e) is = absurd (true≢false (sym is))

-- a line that a reader takes
pub line_taken : (text : List ℕ) (reading new : Result Reading RefusedLine) (line : List ℕ) → IsRead text reading line → IsUtf8 line
    → new ≡ (reading >>= step line) → IsOk new → IsRead (text ++ 10 ∷ []) new []
line_taken text reading new line is utf8 taken ok = let next = good new ok in line_read text reading new line next.0 is utf8 taken next.1

-- a text of which no beginning is a document's has none
pub none_goes_on : (space : Space) (text : List ℕ) (end : PageEnd) (reading : Result Reading RefusedLine) (line : List ℕ)
    → Reads {T = Unit {0}} space text (Err end) reading line → GivesDoc space text (Err end)
none_goes_on space text end reading line (inl out) = inl out
none_goes_on space text end reading line (inr (damaged, none)) = inr (damaged, none_at_all text none)

-- bytes more behind those of which no text is a document's
pub none_more : (space : Space) (text bytes rest more : List ℕ) (end : PageEnd) (reading new : Result Reading RefusedLine) (line new_line : List ℕ)
    → bytes ≡ rest ++ more → Reads {T = Unit {0}} space (text ++ rest) (Err end) reading line → Reads {T = Unit {0}} space (text ++ bytes) (Err end) new new_line
none_more space text bytes rest more end reading new line new_line is (inl out) = inl out
none_more space text bytes rest more end reading new line new_line is (inr (damaged, none)) =
    let whole : (behind : List ℕ) → (text ++ bytes) ++ behind ≡ (text ++ rest) ++ (more ++ behind) =
    λ behind. ap (λ l. (text ++ l) ++ behind) is ∙ ap (λ l. l ++ behind) (sym (append_assoc text rest more)) ∙ append_assoc (text ++ rest) more behind in
    inr (damaged, λ behind. subst SpellsNone (sym (whole behind)) (none (more ++ behind)))
