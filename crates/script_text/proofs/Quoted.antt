-- Names between quotes.
use Rattle.std.proofs.Common.{◌≡◌, ◌≢◌, ℕ, suc, ◌<◌, Bool, true, false, ◌||◌, if◌then◌else◌, nat_eq, List, [], ◌∷◌, ◌++◌, length, get_or, Option, None, Some, Result, Ok, Err, IfOk, IsUtf8, length-append, refl, ap, sym, subst, ◌∙◌, arith, append_assoc, append-nil}
use Rattle.std.specs.Prelude.{codes}
use Rattle.std.proofs.lemmas.List.{append_cancel_left}
use Rattle.xq_ast.specs.declared.memory.NoMemory.{NoMemory}
use Rattle.xq_ast.specs.declared.need.LockMode.{LockMode}
use Rattle.xq_ast.specs.declared.need.LockMode.TheVariants.{S, X}
use Rattle.xq_ast.specs.declared.need.Need.{Need}
use Rattle.script_text.specs.declared.journals.parts.NameText.{NameText}
use Rattle.script_text.specs.Pieces.{others_text}
use Rattle.script_text.specs.JournalText.{doubled, quoted, mode_text, need_text, needs_text}
use Rattle.script_text.specs.JournalRows.{AreUtf8}
use Rattle.script_text.specs.JournalSteps.{in_name, unquoted, behind_name, begins_quoted, has_quote, ReadsName, ReadsQuoted}
use Rattle.script_text.proofs.OneLine.{not_eq}
use Rattle.script_text.proofs.OrderNumbers.{neither, not_true}
use Rattle.script_text.proofs.EventText.{needs_text-cons, others_text-append, others_text-one}

is_quote : (b : ℕ) → nat_eq b 39 ≡ true → 39 ≡ b
is_quote b test = grind (arith, test)

-- a byte that is no quote
unquoted_other : (b : ℕ) (bs : List ℕ) → nat_eq b 39 ≡ false → unquoted (b ∷ bs) ≡ in_name b (unquoted bs)
unquoted_other b [] other = rw other refl
unquoted_other b (c ∷ bs) other = rw other refl

-- the last quote of a name
unquoted_last : (rest : List ℕ) → begins_quoted rest ≡ false → unquoted (39 ∷ rest) ≡ Some ([], rest)
unquoted_last [] other = refl
unquoted_last (c ∷ more) other = rw other refl

-- a name with its quotes doubled is read
unquoted_again : (name rest : List ℕ) → begins_quoted rest ≡ false → unquoted (doubled name ++ 39 ∷ rest) ≡ Some (name, rest)
unquoted_again [] rest other = unquoted_last rest other
unquoted_again (b ∷ bs) rest other = by_test (nat_eq b 39) refl (unquoted_again bs rest other)
  where
    by_test : (t : Bool) → nat_eq b 39 ≡ t → unquoted (doubled bs ++ 39 ∷ rest) ≡ Some (bs, rest)
        → unquoted ((if t then b ∷ b ∷ doubled bs else b ∷ doubled bs) ++ 39 ∷ rest) ≡ Some (b ∷ bs, rest)
    by_test true test e =
        let quote : 39 ≡ b = is_quote b test in
        rw test (ap (in_name 39) e ∙ ap (λ x. Some (x ∷ bs, rest)) quote)
    by_test false test e = unquoted_other b (doubled bs ++ 39 ∷ rest) test ∙ ap (in_name b) e

-- what was read of a name is a name with its quotes doubled
abbrev IsUnquoted : List ℕ → Option (List ℕ × List ℕ) → Type 0
IsUnquoted bytes None = Unit {0}
IsUnquoted bytes (Some found) = (doubled found.0 ++ 39 ∷ found.1 ≡ bytes) × (begins_quoted found.1 ≡ false)

quote_more : (b c : ℕ) (more : List ℕ) (o : Option (List ℕ × List ℕ)) → 39 ≡ b → 39 ≡ c → IsUnquoted more o → IsUnquoted (b ∷ c ∷ more) (in_name 39 o)
quote_more b c more None p q is = tt
quote_more b c more (Some found) p q is = (ap (λ r. 39 ∷ 39 ∷ r) is.0 ∙ (ap (λ x. x ∷ 39 ∷ more) p ∙ ap (λ x. b ∷ x ∷ more) q), is.1)

other_more : (b : ℕ) (bs : List ℕ) (o : Option (List ℕ × List ℕ)) → nat_eq b 39 ≡ false → IsUnquoted bs o → IsUnquoted (b ∷ bs) (in_name b o)
other_more b bs None other is = tt
other_more b bs (Some found) other is = (rw other (ap (λ r. b ∷ r) is.0), is.1)

unquoted_is : (bytes : List ℕ) → IsUnquoted bytes (unquoted bytes)
unquoted_is [] = tt
unquoted_is (b ∷ []) = by_test (nat_eq b 39) refl
  where
    by_test : (t : Bool) → nat_eq b 39 ≡ t → IsUnquoted (b ∷ []) (if t then Some ([], []) else None)
    by_test true test = (ap (λ x. x ∷ []) (is_quote b test), refl)
    by_test false test = tt
unquoted_is (b ∷ c ∷ more) = by_test (nat_eq b 39) (nat_eq c 39) refl refl (unquoted_is more) (unquoted_is (c ∷ more))
  where
    by_test : (t u : Bool) → nat_eq b 39 ≡ t → nat_eq c 39 ≡ u → IsUnquoted more (unquoted more) → IsUnquoted (c ∷ more) (unquoted (c ∷ more))
        → IsUnquoted (b ∷ c ∷ more) (if t then (if u then in_name 39 (unquoted more) else Some ([], c ∷ more)) else in_name b (unquoted (c ∷ more)))
    by_test true true p q inner outer = quote_more b c more (unquoted more) (is_quote b p) (is_quote c q) inner
    by_test true false p q inner outer = (ap (λ x. x ∷ c ∷ more) (is_quote b p), q)
    by_test false u p q inner outer = other_more b (c ∷ more) (unquoted (c ∷ more)) p outer

-- between quotes
pub quoted_open : (name rest : List ℕ) → quoted name ++ rest ≡ 39 ∷ (doubled name ++ 39 ∷ rest)
quoted_open name rest = ap (λ r. 39 ∷ r) (append_assoc (doubled name) (39 ∷ []) rest)

-- a name that was read stands between quotes at the beginning, and no quote begins the rest
pub quoted_found : (bytes name rest : List ℕ) → unquoted bytes ≡ Some (name, rest) → (quoted name ++ rest ≡ 39 ∷ bytes) × (begins_quoted rest ≡ false)
quoted_found bytes name rest e =
    let is : IsUnquoted bytes (Some (name, rest)) = subst (IsUnquoted bytes) e (unquoted_is bytes) in
    (quoted_open name rest ∙ ap (λ r. 39 ∷ r) is.0, is.1)

-- what no name is read from does not stand after an opening quote
pub quoted_missing : (bytes name rest : List ℕ) → unquoted bytes ≡ None → begins_quoted rest ≡ false → quoted name ++ rest ≡ 39 ∷ bytes → ⊥
quoted_missing bytes name rest none other e =
    let tails : 39 ∷ (doubled name ++ 39 ∷ rest) ≡ 39 ∷ bytes = sym (quoted_open name rest) ∙ e in
    let same : doubled name ++ 39 ∷ rest ≡ bytes = cc in
    let read = unquoted_again name rest other in
    found_is_some (name, rest) (sym read ∙ (ap unquoted same ∙ none))
  where
    found_is_some : (found : List ℕ × List ℕ) → Some found ≡ None → ⊥
    found_is_some found e = cc

-- a text begins with one name
pub quoted_one : (n m x y : List ℕ) → begins_quoted x ≡ false → begins_quoted y ≡ false → quoted n ++ x ≡ quoted m ++ y → (n ≡ m) × (x ≡ y)
quoted_one n m x y p q e =
    let tails : 39 ∷ (doubled n ++ 39 ∷ x) ≡ 39 ∷ (doubled m ++ 39 ∷ y) = sym (quoted_open n x) ∙ (e ∙ quoted_open m y) in
    let same : doubled n ++ 39 ∷ x ≡ doubled m ++ 39 ∷ y = cc in
    let both : Some (n, x) ≡ Some (m, y) = sym (unquoted_again n x p) ∙ (ap unquoted same ∙ unquoted_again m y q) in
    let pairs = some_one (n, x) (m, y) both in
    (ap (λ f. f.0) pairs, ap (λ f. f.1) pairs)
  where
    some_one : (f g : List ℕ × List ℕ) → Some f ≡ Some g → f ≡ g
    some_one f g e = cc

-- ---- a name piece by piece

in_behind : (b : ℕ) (bs : List ℕ) (o : Option (List ℕ × List ℕ)) → in_name b (behind_name bs o) ≡ behind_name (b ∷ bs) o
in_behind b bs None = refl
in_behind b bs (Some found) = refl

behind_nothing : (o : Option (List ℕ × List ℕ)) → o ≡ behind_name [] o
behind_nothing None = refl
behind_nothing (Some found) = refl

-- what stands before a quote is the name's
pub unquoted_cut : (before more : List ℕ) → has_quote before ≡ false → unquoted (before ++ 39 ∷ more) ≡ behind_name before (unquoted (39 ∷ more))
unquoted_cut [] more none = behind_nothing (unquoted (39 ∷ more))
unquoted_cut (b ∷ bs) more none =
    let parts = neither (nat_eq b 39) (has_quote bs) none in
    unquoted_other b (bs ++ 39 ∷ more) parts.0 ∙ (ap (in_name b) (unquoted_cut bs more parts.1) ∙ in_behind b bs (unquoted (39 ∷ more)))

-- from bytes without a quote no name is read
pub unquoted_none : (bytes : List ℕ) → has_quote bytes ≡ false → unquoted bytes ≡ None
unquoted_none [] none = refl
unquoted_none (b ∷ bs) none =
    let parts = neither (nat_eq b 39) (has_quote bs) none in
    unquoted_other b bs parts.0 ∙ ap (in_name b) (unquoted_none bs parts.1)

behind_twice : (name before : List ℕ) (o : Option (List ℕ × List ℕ))
    → behind_name name (behind_name before (in_name 39 o)) ≡ behind_name ((name ++ before) ++ 39 ∷ []) o
behind_twice name before None = refl
behind_twice name before (Some found) =
    ap (λ n. Some (n, found.1)) (sym (append_assoc name before (39 ∷ found.0)) ∙ sym (append_assoc (name ++ before) (39 ∷ []) found.0))

-- a name goes on after two quotes
pub name_goes_on : (name rest before next whole : List ℕ) → rest ≡ before ++ 39 ∷ (39 ∷ next) → has_quote before ≡ false
    → behind_name name (unquoted rest) ≡ unquoted whole
    → behind_name ((name ++ before) ++ 39 ∷ []) (unquoted next) ≡ unquoted whole
name_goes_on name rest before next whole is none e =
    sym (behind_twice name before (unquoted next)) ∙ (ap (behind_name name) (sym (unquoted_cut before (39 ∷ next) none) ∙ ap unquoted (sym is)) ∙ e)

-- and ends at one
pub name_ends : (name rest before next whole : List ℕ) → rest ≡ before ++ 39 ∷ next → has_quote before ≡ false → begins_quoted next ≡ false
    → behind_name name (unquoted rest) ≡ unquoted whole
    → unquoted whole ≡ Some (name ++ before, next)
name_ends name rest before next whole is none other e =
    sym e ∙ (ap (λ b. behind_name name (unquoted b)) is
    ∙ (ap (behind_name name) (unquoted_cut before next none ∙ ap (behind_name before) (unquoted_last next other))
    ∙ ap (λ b. Some (name ++ b, next)) (append-nil before)))

-- and there is none where no quote ends it
pub name_is_open : (name rest whole : List ℕ) → has_quote rest ≡ false → behind_name name (unquoted rest) ≡ unquoted whole → unquoted whole ≡ None
name_is_open name rest whole none e = sym e ∙ ap (behind_name name) (unquoted_none rest none)

-- with nothing read so far, a name is what is read from the whole
pub name_begins : (whole : List ℕ) → behind_name [] (unquoted whole) ≡ unquoted whole
name_begins whole = sym (behind_nothing (unquoted whole))

-- bytes that do not start with a quote do not begin as a quoted name does
pub no_quote_first : (bytes : List ℕ) → ((rest : List ℕ) → bytes ≢ 39 ∷ rest) → begins_quoted bytes ≡ false
no_quote_first [] none = refl
no_quote_first (b ∷ more) none = not_true (nat_eq b 39) (λ test. none more (ap (λ x. x ∷ more) (sym (is_quote b test))))

either_false : (a b : Bool) → a ≡ false → b ≡ false → (a || b) ≡ false
either_false a b p q = rw (p, q) refl

-- bytes that have no quote at any index have none
pub no_quote_by_index : (bytes : List ℕ) → ((i : ℕ) → i < length bytes → get_or bytes i 0 ≢ 39) → has_quote bytes ≡ false
no_quote_by_index [] lacks = refl
no_quote_by_index (b ∷ bs) lacks =
    either_false (nat_eq b 39) (has_quote bs) (not_eq b 39 (lacks 0 (omega arith)))
    (no_quote_by_index bs (λ i h. let less : suc i < length (b ∷ bs) = omega arith in lacks (suc i) less))

-- ---- needs

other_letter : (x y : ℕ) (xs ys : List ℕ) → nat_eq x y ≡ false → x ∷ xs ≡ y ∷ ys → ⊥
other_letter x y xs ys ne e = let first : x ≡ y = cc in grind (arith, first, ne)

abbrev need_of : List ℕ → LockMode → Need
need_of name mode = record { name = name; mode = mode }

mode_one : (a b : LockMode) (x y : List ℕ) → mode_text a ++ x ≡ mode_text b ++ y → (a ≡ b) × (x ≡ y)
mode_one S S x y e = (refl, cc)
mode_one S X x y e = absurd (other_letter 83 88 x y refl e)
mode_one X S x y e = absurd (other_letter 88 83 x y refl e)
mode_one X X x y e = (refl, cc)

-- a need is a name between quotes, a space and a mode
pub need_open : (n : Need) (rest : List ℕ) → need_text n ++ rest ≡ quoted n.name ++ (codes " " ++ (mode_text n.mode ++ rest))
need_open n rest = append_assoc (quoted n.name) (codes " " ++ mode_text n.mode) rest

-- a text begins with one need
pub need_one : (n m : Need) (x y : List ℕ) → need_text n ++ x ≡ need_text m ++ y → (n ≡ m) × (x ≡ y)
need_one n m x y e =
    let parts = quoted_one n.name m.name (codes " " ++ (mode_text n.mode ++ x)) (codes " " ++ (mode_text m.mode ++ y)) refl refl (sym (need_open n x)
    ∙ (e ∙ need_open m y)) in
    let behind : 32 ∷ (mode_text n.mode ++ x) ≡ 32 ∷ (mode_text m.mode ++ y) = parts.1 in
    let tails : mode_text n.mode ++ x ≡ mode_text m.mode ++ y = cc in
    let modes = mode_one n.mode m.mode x y tails in
    (same_need parts.0 modes.0, modes.1)
  where
    same_need : n.name ≡ m.name → n.mode ≡ m.mode → n ≡ m
    same_need p q = ap (λ name. need_of name n.mode) p ∙ ap (λ mode. need_of m.name mode) q

others_open : (n : Need) (ns : List Need) (rest : List ℕ) → others_text (n ∷ ns) ++ rest ≡ codes ", " ++ (need_text n ++ (others_text ns ++ rest))
others_open n ns rest = ap (λ r. codes ", " ++ r) (append_assoc (need_text n) (others_text ns) rest)

others_tails : (n m : Need) (ns ms : List Need) (rest : List ℕ) → others_text (n ∷ ns) ++ rest ≡ others_text (m ∷ ms)
    → need_text n ++ (others_text ns ++ rest) ≡ need_text m ++ others_text ms
others_tails n m ns ms rest e =
    append_cancel_left (codes ", ") (need_text n ++ (others_text ns ++ rest)) (need_text m ++ others_text ms) (sym (others_open n ns rest) ∙ e)

-- what stands after the first needs of a list are its others
others_split : (ns ms : List Need) (rest : List ℕ) → others_text ns ++ rest ≡ others_text ms → (ks : List Need) × (others_text ks ≡ rest) × (ms ≡ ns ++ ks)
others_split [] ms rest e = (ms, sym e, refl)
others_split (n ∷ ns) [] rest e = let clash : 44 ∷ 32 ∷ (need_text n ++ (others_text ns ++ rest)) ≡ [] = sym (others_open n ns rest) ∙ e in cc
others_split (n ∷ ns) (m ∷ ms) rest e =
    let tails : need_text n ++ (others_text ns ++ rest) ≡ need_text m ++ others_text ms = others_tails n m ns ms rest e in
    let one = need_one n m (others_text ns ++ rest) (others_text ms) tails in
    let more = others_split ns ms rest one.1 in
    (more.0, more.1, ap (λ x. x ∷ ms) (sym one.0) ∙ ap (λ l. n ∷ l) more.2)

-- needs that begin with these are these and some others, whose text is the rest
pub needs_split : (ns ms : List Need) (rest : List ℕ) → 0 < length ns → needs_text ns ++ rest ≡ needs_text ms
    → (ks : List Need) × (others_text ks ≡ rest) × (ms ≡ ns ++ ks)
needs_split [] ms rest some e = absurd (omega arith)
needs_split (n ∷ ns) [] rest some e =
    let opened : need_text n ++ (others_text ns ++ rest) ≡ [] = sym (append_assoc (need_text n) (others_text ns) rest)
    ∙ (ap (λ x. x ++ rest) (sym (needs_text-cons n ns)) ∙ e) in
    let clash : 39 ∷ (doubled n.name ++ 39 ∷ (codes " " ++ (mode_text n.mode ++ (others_text ns ++ rest)))) ≡ [] =
    sym (quoted_open n.name (codes " " ++ (mode_text n.mode ++ (others_text ns ++ rest)))) ∙ (sym (need_open n (others_text ns ++ rest)) ∙ opened) in
    cc
needs_split (n ∷ ns) (m ∷ ms) rest some e =
    let opened : need_text n ++ (others_text ns ++ rest) ≡ need_text m ++ others_text ms =
    sym (append_assoc (need_text n) (others_text ns) rest) ∙ (ap (λ x. x ++ rest) (sym (needs_text-cons n ns)) ∙ (e ∙ needs_text-cons m ms)) in
    let one = need_one n m (others_text ns ++ rest) (others_text ms) opened in
    let more = others_split ns ms rest one.1 in
    (more.0, more.1, ap (λ x. x ∷ ms) (sym one.0) ∙ ap (λ l. n ∷ l) more.2)

-- needs are told by their text
pub needs_one : (ns ms : List Need) → 0 < length ns → needs_text ns ≡ needs_text ms → ns ≡ ms
needs_one ns ms some e =
    let split = needs_split ns ms [] some (append-nil (needs_text ns) ∙ e) in
    sym (split.2 ∙ (ap (λ ks. ns ++ ks) (no_others split.0 split.1) ∙ append-nil ns))
  where
    no_others : (ks : List Need) → others_text ks ≡ [] → ks ≡ []
    no_others [] e = refl
    no_others (k ∷ ks) e = cc

-- a need after others
pub needs_text-more : (ns : List Need) (n : Need) → 0 < length ns → needs_text (ns ++ n ∷ []) ≡ needs_text ns ++ (codes ", " ++ need_text n)
needs_text-more [] n some = absurd (omega arith)
needs_text-more (m ∷ ns) n some =
    needs_text-cons m (ns ++ n ∷ []) ∙ (ap (λ r. need_text m ++ r) (others_text-append ns (n ∷ []) ∙ ap (λ r. others_text ns ++ r) (others_text-one n))
    ∙ (sym (append_assoc (need_text m) (others_text ns) (codes ", " ++ need_text n)) ∙ ap (λ r. r ++ (codes ", " ++ need_text n)) (sym (needs_text-cons m ns))))

-- names in UTF-8 and one more in UTF-8 are all in UTF-8
pub AreUtf8-more : (ns : List Need) (n : Need) → AreUtf8 ns → AreUtf8 (n ∷ []) → AreUtf8 (ns ++ n ∷ [])
AreUtf8-more [] n are one = one
AreUtf8-more (m ∷ ns) n are one = (are.0, AreUtf8-more ns n are.1 one)

-- one need more was read
pub needs_go_on : (ns : List Need) (n : Need) (rest more next whole : List ℕ) → 0 < length ns → needs_text ns ++ rest ≡ whole → rest ≡ codes ", " ++ more
    → need_text n ++ next ≡ more
    → needs_text (ns ++ n ∷ []) ++ next ≡ whole
needs_go_on ns n rest more next whole some e is one =
    ap (λ x. x ++ next) (needs_text-more ns n some)
    ∙ (append_assoc (needs_text ns) (codes ", " ++ need_text n) next
    ∙ (ap (λ r. needs_text ns ++ (codes ", " ++ r)) one ∙ (ap (λ r. needs_text ns ++ r) (sym is) ∙ e)))

-- after a comma stands no need
pub needs_stop : (ns : List Need) (rest more whole : List ℕ) → 0 < length ns → needs_text ns ++ rest ≡ whole → rest ≡ codes ", " ++ more
    → ((n : Need) (next : List ℕ) → need_text n ++ next ≢ more) → (ms : List Need) → needs_text ms ≢ whole
needs_stop ns rest more whole some e is none ms same =
    let split = needs_split ns ms rest some (e ∙ sym same) in
    by_others split.0 (split.1 ∙ is)
  where
    by_others : (ks : List Need) → others_text ks ≡ 44 ∷ 32 ∷ more → ⊥
    by_others [] e = cc
    by_others (k ∷ ks) e = let tails : need_text k ++ others_text ks ≡ more = cc in none k (others_text ks) tails

-- after a need stands something else than a comma
pub needs_end : (ns : List Need) (rest whole : List ℕ) → 0 < length ns → needs_text ns ++ rest ≡ whole → ((more : List ℕ) → rest ≢ codes ", " ++ more)
    → rest ≢ []
    → (ms : List Need) → needs_text ms ≢ whole
needs_end ns rest whole some e other left ms same =
    let split = needs_split ns ms rest some (e ∙ sym same) in
    by_others split.0 split.1
  where
    by_others : (ks : List Need) → others_text ks ≡ rest → ⊥
    by_others [] e = left (sym e)
    by_others (k ∷ ks) e = other (need_text k ++ others_text ks) (sym e)

-- no need stands at the beginning
pub needs_none : (whole : List ℕ) → ((n : Need) (next : List ℕ) → need_text n ++ next ≢ whole) → (ms : List Need) → 0 < length ms → needs_text ms ≢ whole
needs_none whole none [] some same = absurd (omega arith)
needs_none whole none (m ∷ ms) some same = none m (others_text ms) (sym (needs_text-cons m ms) ∙ same)

-- ---- names that were read

quoted_from_name : (found : Option NameText) (rest whole : List ℕ) → whole ≡ 39 ∷ rest → ReadsName found rest → ReadsQuoted found whole
quoted_from_name None rest whole is none = λ name more other same. quoted_missing rest name more none other (same ∙ is)
quoted_from_name (Some found) rest whole is read =
    let both = quoted_found rest found.name found.rest.now read.1 in
    (read.0, both.0 ∙ sym is, both.1)

-- a name after a quote is a name between quotes
pub quoted_read : (r : Result (Option NameText) NoMemory) (rest whole : List ℕ) → whole ≡ 39 ∷ rest → IfOk r (λ found. ReadsName found rest)
    → IfOk r (λ found. ReadsQuoted found whole)
quoted_read (Ok found) rest whole is read = quoted_from_name found rest whole is read
quoted_read (Err e) rest whole is read = tt

-- after a name stands no mode
pub no_mode : (name rest whole : List ℕ) → quoted name ++ rest ≡ whole → begins_quoted rest ≡ false
    → ((mode : LockMode) (more : List ℕ) → codes " " ++ (mode_text mode ++ more) ≢ rest)
    → (need : Need) (more : List ℕ) → need_text need ++ more ≢ whole
no_mode name rest whole is other none need more same =
    let parts = quoted_one need.name name (codes " " ++ (mode_text need.mode ++ more)) rest refl other (sym (need_open need more) ∙ (same ∙ sym is)) in
    none need.mode more parts.1

-- where no name stands, no need does
pub no_name : (whole : List ℕ) → ((name rest : List ℕ) → begins_quoted rest ≡ false → quoted name ++ rest ≢ whole) → (need : Need) (more : List ℕ)
    → need_text need ++ more ≢ whole
no_name whole none need more same = none need.name (codes " " ++ (mode_text need.mode ++ more)) refl (sym (need_open need more) ∙ same)

-- needs that were read so far, and what is left
abbrev pub NeedsSoFar : List Need → List ℕ → List ℕ → Type 0
NeedsSoFar needs rest whole = (0 < length needs) × AreUtf8 needs × (needs_text needs ++ rest ≡ whole)

-- one need more
pub need_read : (ns : List Need) (n : Need) (rest more next whole : List ℕ) → 0 < length ns → AreUtf8 ns → needs_text ns ++ rest ≡ whole
    → rest ≡ codes ", " ++ more
    → IsUtf8 n.name → need_text n ++ next ≡ more → NeedsSoFar (ns ++ n ∷ []) next whole
need_read ns n rest more next whole some are e is utf8 one =
    (omega (arith, length-append ns (n ∷ [])), AreUtf8-more ns n are (utf8, tt), needs_go_on ns n rest more next whole some e is one)
