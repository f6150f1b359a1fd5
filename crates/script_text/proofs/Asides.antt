-- Lines that are no call are read, anywhere in a script.
use Rattle.std.proofs.Common.{◌≡◌, ℕ, zero, suc, lit<, ◌<◌, ◌≤◌, ◌^◌, true, false, if◌then◌else◌, List, [], ◌∷◌, ◌++◌, map, Some, Ok, Err, IsUtf8, refl, ap, sym, ◌∙◌, arith, append_assoc, append-nil}
use Rattle.std.specs.Prelude.{codes}
use Rattle.std.specs.Fmt.{decimal}
use Rattle.std.specs.Str.{IsAscii}
use Rattle.std.proofs.lemmas.Fmt.{IsAscii-decimal}
use Rattle.std.proofs.lemmas.Str.{IsUtf8-append, IsUtf8-from_ascii, IsUtf8-nil}
use Rattle.xq_ast.proofs.Numbers.{has_space-decimal}
use Rattle.xml_model.specs.Pyx.{Line, next_line, behind_space}
use Rattle.script_text.specs.declared.scripts.fault.ScriptRefusal.TheVariants.{NotUtf8}
use Rattle.script_text.specs.declared.scripts.kinds.LineKind.{LineKind}
use Rattle.script_text.specs.declared.scripts.kinds.LineKind.TheVariants.{Skipped, Order}
use Rattle.script_text.specs.Scripts.{Reading, after, at_line, read_line, read_kind, loaded, is_text, kind_of, both, numbers, split_words, with_numbers, ◌>>=◌}
use Rattle.script_text.specs.Spelling.{Aside, skipped, ordered, spaced, line_of_aside, lines_of_asides, numbers_of, order_of, AreNumbers, IsAside, AreAsides}
use Rattle.script_text.proofs.OrderNumbers.{split_words-cut, split_words-one, named_found}
use Rattle.script_text.proofs.ScriptLines.{text_is_text}

-- a reading at a number of lines
abbrev pub at : ℕ → Reading → Reading
at n r = record r { lines = n }

-- where a line is read, the lines after it are read from what it leaves
pub step_ok : (s : ℕ) (line : Line) (behind : List Line) (r q : Reading) → read_line s line behind (at (next_line r.lines) r) ≡ Ok q
    → after s (line ∷ behind) r ≡ after s behind q
step_ok s line behind r q e = ap (λ x. at_line (next_line r.lines) x >>= after s behind) e

ascii_nil : IsAscii []
ascii_nil i = lit< tt

ascii_cons : (b : ℕ) (bs : List ℕ) → b < 128 → IsAscii bs → IsAscii (b ∷ bs)
ascii_cons b bs small rest zero = small
ascii_cons b bs small rest (suc i) = rest i

-- a dot is a text
pub dot_text : is_text (codes ".") ≡ true
dot_text = text_is_text (codes ".") (IsUtf8-from_ascii (codes ".") (ascii_cons 46 [] (lit< tt) ascii_nil))

-- the word SESSION is a text
pub session_text : is_text (codes "SESSION") ≡ true
session_text =
    text_is_text (codes "SESSION") (IsUtf8-from_ascii (codes "SESSION")
    (ascii_cons 83 (codes "ESSION") (lit< tt)
    (ascii_cons 69 (codes "SSION") (lit< tt) (ascii_cons 83 (codes "SION") (lit< tt) (ascii_cons 83 (codes "ION") (lit< tt)
    (ascii_cons 73 (codes "ON") (lit< tt) (ascii_cons 79 (codes "N") (lit< tt) (ascii_cons 78 [] (lit< tt) ascii_nil))))))))

-- the word ORDER is UTF-8
pub order_utf8 : IsUtf8 (codes "ORDER")
order_utf8 =
    IsUtf8-from_ascii (codes "ORDER")
    (ascii_cons 79 (codes "RDER") (lit< tt)
    (ascii_cons 82 (codes "DER") (lit< tt)
    (ascii_cons 68 (codes "ER") (lit< tt) (ascii_cons 69 (codes "R") (lit< tt) (ascii_cons 82 [] (lit< tt) ascii_nil)))))

-- numbers with spaces before them are UTF-8
pub spaced_utf8 : (most : ℕ) (ns : List ℕ) → most < 2 ^ 64 → AreNumbers most ns → IsUtf8 (spaced ns)
spaced_utf8 most [] small ok = IsUtf8-nil
spaced_utf8 most (n ∷ ns) small ok =
    let few : n < 2 ^ 64 = omega (arith, ok.1) in
    IsUtf8-append (32 ∷ []) (decimal n ++ spaced ns) (IsUtf8-from_ascii (32 ∷ []) (ascii_cons 32 [] (lit< tt) ascii_nil))
    (IsUtf8-append (decimal n) (spaced ns) (IsUtf8-from_ascii (decimal n) (IsAscii-decimal n few)) (spaced_utf8 most ns small ok.2))

-- a line of this kind
pub by_kind : (s : ℕ) (kind : LineKind) (line : Line) (behind : List Line) (r q : Reading) → kind_of line ≡ kind → is_text line ≡ true → r.in_load ≡ false
    → read_kind s kind line behind r ≡ Ok q
    → read_line s line behind r ≡ Ok q
by_kind s kind line behind r q is text outside e =
    ap (λ t. if t then (if r.in_load then Ok (loaded line r) else read_kind s (kind_of line) line behind r) else Err NotUtf8) text
    ∙ (ap (λ t. if t then Ok (loaded line r) else read_kind s (kind_of line) line behind r) outside ∙ (ap (λ k. read_kind s k line behind r) is ∙ e))

words_spaced : (most n : ℕ) (ns : List ℕ) → most < 2 ^ 64 → n ≤ most → AreNumbers most ns → split_words (decimal n ++ spaced ns) ≡ decimal n ∷ map decimal ns
words_spaced most n [] small within ok =
    let few : n < 2 ^ 64 = omega arith in
    ap split_words (append-nil (decimal n)) ∙ split_words-one (decimal n) (has_space-decimal n few)
words_spaced most n (k ∷ ns) small within ok =
    let few : n < 2 ^ 64 = omega arith in
    split_words-cut (decimal n ++ spaced (k ∷ ns)) (decimal n) (decimal k ++ spaced ns) (record { whole = refl; first = has_space-decimal n few })
    ∙ ap (λ ws. decimal n ∷ ws) (words_spaced most k ns small ok.1 ok.2)

numbers_spaced : (most : ℕ) (ns : List ℕ) → most < 2 ^ 64 → AreNumbers most ns → numbers most (map decimal ns) ≡ Some ns
numbers_spaced most [] small ok = refl
numbers_spaced most (n ∷ ns) small ok =
    ap (λ o. both o (numbers most (map decimal ns))) (named_found most n (decimal n) small refl ok.0 ok.1)
    ∙ ap (both (Some n)) (numbers_spaced most ns small ok.2)

-- ---- lines beside the calls

-- a reading with more numbers in its order
abbrev pub plus : List ℕ → Reading → Reading
plus ns r = record r { order = r.order ++ ns }

-- numbers added in turn are added together
pub plus_plus : (ns ms : List ℕ) (r : Reading) → plus ms (plus ns r) ≡ plus (ns ++ ms) r
plus_plus ns ms r = ap (λ o. let made : Reading = record r { order = o } in made) (append_assoc r.order ns ms)

order_line : (s : ℕ) (n : ℕ) (ns : List ℕ) (behind : List Line) (b : Reading) (m : ℕ) → s < 2 ^ 64 → AreNumbers s (n ∷ ns) → b.in_load ≡ false
    → after s (line_of_aside (ordered (n ∷ ns)) ∷ behind) (at m b) ≡ after s behind (at (next_line m) (plus (n ∷ ns) b))
order_line s n ns behind b m small ok outside =
    let line : Line = codes "ORDER" ++ spaced (n ∷ ns) in
    let given : numbers s (split_words (behind_space line)) ≡ Some (n ∷ ns) = ap (numbers s) (words_spaced s n ns small ok.1 ok.2)
    ∙ numbers_spaced s (n ∷ ns) small ok in
    let text : is_text line ≡ true = text_is_text line (IsUtf8-append (codes "ORDER") (spaced (n ∷ ns)) order_utf8 (spaced_utf8 s (n ∷ ns) small ok)) in
    step_ok s line behind (at m b) (at (next_line m) (plus (n ∷ ns) b))
    (by_kind s Order line behind (at (next_line m) b) (at (next_line m) (plus (n ∷ ns) b)) refl text outside
    (ap (λ o. with_numbers o (at (next_line m) b)) given))

aside_line : (s : ℕ) (a : Aside) (behind : List Line) (b : Reading) (m : ℕ) → s < 2 ^ 64 → IsAside s a → b.in_load ≡ false
    → after s (line_of_aside a ∷ behind) (at m b) ≡ after s behind (at (next_line m) (plus (numbers_of a) b))
aside_line s (skipped line) behind b m small ok outside =
    step_ok s line behind (at m b) (at (next_line m) (plus [] b))
    (by_kind s Skipped line behind (at (next_line m) b) (at (next_line m) (plus [] b)) ok.1 (text_is_text line ok.0) outside
    (ap (λ o. Ok (let made : Reading = record b { order = o; lines = next_line m } in made)) (sym (append-nil b.order))))
aside_line s (ordered []) behind b m small ok outside = absurd (omega (arith, ok.0))
aside_line s (ordered (n ∷ ns)) behind b m small ok outside = order_line s n ns behind b m small ok.1 outside

-- Lines that are no call leave all but the order and the number of lines.
pub asides_read : (s : ℕ) (behind : List Line) (asides : List Aside) (b : Reading) (m : ℕ) → s < 2 ^ 64 → AreAsides s asides → b.in_load ≡ false
    → (n : ℕ) × (after s (lines_of_asides asides ++ behind) (at m b) ≡ after s behind (at n (plus (order_of asides) b)))
asides_read s behind [] b m small ok outside =
    (m, ap (λ o. after s behind (let made : Reading = record b { order = o; lines = m } in made)) (sym (append-nil b.order)))
asides_read s behind (a ∷ asides) b m small ok outside =
    let rest = asides_read s behind asides (plus (numbers_of a) b) (next_line m) small ok.1 outside in (
      rest.0,
      aside_line s a (lines_of_asides asides ++ behind) b m small ok.0 outside
          ∙ (rest.1 ∙ ap (λ r. after s behind (at rest.0 r)) (plus_plus (numbers_of a) (order_of asides) b)),
    )
