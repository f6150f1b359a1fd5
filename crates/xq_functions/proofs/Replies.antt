-- Replies: lines within the room of an answer, and lines past it.
use Rattle.std.proofs.Common.{◌≡◌, ℕ, ◌+◌, ◌-◌, ◌<◌, ◌≤◌, Bool, true, false, List, [], ◌∷◌, ◌++◌, length, refl, sym, ap, ◌∙◌, subst, arith, append_assoc, append-nil, length-append}
use Rattle.std.specs.Prelude.{Result, Ok, Err, nat_lt, nat_le, if◌then◌else◌}
use Rattle.std.proofs.lemmas.Bool.Decides.{nat_tests}
use Rattle.xq_ast.specs.declared.code.Code.{Code}
use Rattle.xq_ast.specs.declared.code.Code.TheVariants.{ReplyTooLong}
use Rattle.xml_model.specs.declared.limits.TheConstants.{REPLY_BYTES_MAX}
use Rattle.xml_model.specs.Pyx.{Line, text_of}
use Rattle.xml_model.specs.Statement.{lines, error, answer_of}
use Rattle.xml_model.specs.Items.{◌>>?◌}
use Rattle.xml_model.specs.Trees.{joined}
use Rattle.xq_nodes.specs.declared.end.EvalEnd.{EvalEnd}
use Rattle.xq_nodes.specs.declared.end.EvalEnd.TheVariants as ends
use Rattle.xq_nodes.specs.Answers.{Looks}
use Rattle.xq_functions.specs.Says.{Says}
use Rattle.xq_functions.specs.Rooms.{with_lines, replied, no_lines}
use Rattle.xq_functions.specs.declared.reply.Reply.{Reply}

-- The text of two lists of lines has as many bytes as both have.
pub text_bytes : (xs ys : List Line) → length (text_of (xs ++ ys)) ≡ length (text_of xs) + length (text_of ys)
text_bytes [] ys = omega arith
text_bytes (x ∷ xs) ys =
    let e = text_bytes xs ys in
    omega (arith, length-append x (10 ∷ text_of (xs ++ ys)), length-append x (10 ∷ text_of xs))

-- A reply within its room: its text and the room that is left are the most that an answer may have.
pub record IsWithin (reply : Reply) : Type 0 where
  pub bytes : length (text_of reply.lines) + reply.room ≡ REPLY_BYTES_MAX

le_of : (a b : ℕ) → nat_le a b ≡ true → a ≤ b
le_of a b h = grind (arith, nat_tests)

gt_of : (a b : ℕ) → nat_le a b ≡ false → b < a
gt_of a b h = grind (arith, nat_tests)

lt_is : (a b : ℕ) → a < b → nat_lt a b ≡ true
lt_is a b h = grind (arith, nat_tests)

lt_is_not : (a b : ℕ) → b ≤ a → nat_lt a b ≡ false
lt_is_not a b h = grind (arith, nat_tests)

too_long : (all : List Line) → REPLY_BYTES_MAX < length (text_of all) → answer_of all ≡ error ReplyTooLong
too_long all h = let b : nat_lt REPLY_BYTES_MAX (length (text_of all)) ≡ true = lt_is REPLY_BYTES_MAX (length (text_of all)) h in rw b refl

-- What stands in a reply that is within its room is its answer.
pub answered : (reply : Reply) → IsWithin reply → answer_of reply.lines ≡ lines reply.lines
answered reply h =
    let b : nat_lt REPLY_BYTES_MAX (length (text_of reply.lines)) ≡ false = lt_is_not REPLY_BYTES_MAX (length (text_of reply.lines)) (omega arith) in
    rw b refl

-- the reply with more lines, where these fit or not
abbrev fitted : Bool → Reply → List Line → Result Reply Code
fitted b reply more = if b then Ok (record { lines = reply.lines ++ more; room = reply.room - length (text_of more) }) else Err ReplyTooLong

-- Lines that fit leave it within its room.
pub grown : (reply next : Reply) (more : List Line) → IsWithin reply → with_lines reply more ≡ Ok next → IsWithin next × (next.lines ≡ reply.lines ++ more)
grown reply next more h e = go (nat_le (length (text_of more)) reply.room) refl e
  where
    go : (b : Bool) → nat_le (length (text_of more)) reply.room ≡ b
        → fitted b reply more ≡ Ok next
        → IsWithin next × (next.lines ≡ reply.lines ++ more)
    go true fits is =
        let made : Reply = record { lines = reply.lines ++ more; room = reply.room - length (text_of more) } in
        let same : made ≡ next = cc in
        let few : length (text_of more) ≤ reply.room = le_of (length (text_of more)) reply.room fits in
        let bytes : length (text_of (reply.lines ++ more)) + (reply.room - length (text_of more)) ≡ REPLY_BYTES_MAX =
        omega (arith, text_bytes reply.lines more) in
        let P : Reply → Type 0 = λ r. IsWithin r × (r.lines ≡ reply.lines ++ more) in
        subst P same (record { bytes = bytes }, refl)
    go false fits is = absurd (cc)

-- Lines that do not fit make too long an answer, whatever follows them.
pub overgrown : (reply : Reply) (more rest all : List Line) (code : Code)
    → IsWithin reply → with_lines reply more ≡ Err code → reply.lines ++ (more ++ rest) ≡ all → answer_of all ≡ error code
overgrown reply more rest all code h e is = go (nat_le (length (text_of more)) reply.room) refl e
  where
    go : (b : Bool) → nat_le (length (text_of more)) reply.room ≡ b
        → fitted b reply more ≡ Err code
        → answer_of all ≡ error code
    go true fits ends = absurd (cc)
    go false fits ends =
        let same : ReplyTooLong ≡ code = cc in
        let many : reply.room < length (text_of more) = gt_of (length (text_of more)) reply.room fits in
        let bytes : length (text_of (reply.lines ++ (more ++ rest))) ≡ length (text_of reply.lines) + (length (text_of more) + length (text_of rest)) =
        text_bytes reply.lines (more ++ rest) ∙ ap (λ n. length (text_of reply.lines) + n) (text_bytes more rest) in
        let past : REPLY_BYTES_MAX < length (text_of (reply.lines ++ (more ++ rest))) = omega arith in
        subst (λ (l : List Line). answer_of l ≡ error code) is (too_long (reply.lines ++ (more ++ rest)) past ∙ ap error same)

-- Replies that all lines fit into have the answer of all lines.
pub replied_lines : (pieces : List (List Line)) (reply next : Reply) → IsWithin reply → replied reply pieces ≡ Ok next
    → answer_of (reply.lines ++ joined pieces) ≡ lines next.lines
replied_lines [] reply next h e =
    let same : reply ≡ next = cc in
    ap answer_of (append-nil reply.lines) ∙ (answered reply h ∙ ap (λ (r : Reply). lines r.lines) same)
replied_lines (more ∷ rest) reply next h e = go (with_lines reply more) refl e (λ n. replied_lines rest n next)
  where
    go : (r : Result Reply Code) → with_lines reply more ≡ r → (r >>? (λ n. replied n rest)) ≡ Ok next
        → ((n : Reply) → IsWithin n → replied n rest ≡ Ok next → answer_of (n.lines ++ joined rest) ≡ lines next.lines)
        → answer_of (reply.lines ++ (more ++ joined rest)) ≡ lines next.lines
    go (Ok n) is e later =
        let g = grown reply n more h is in
        ap answer_of (sym (ap (λ l. l ++ joined rest) g.1 ∙ append_assoc reply.lines more (joined rest))) ∙ later n g.0 e
    go (Err code) is e later = absurd (cc)

-- And where some do not fit, the code is that answer.
pub replied_code : (pieces : List (List Line)) (reply : Reply) (code : Code) → IsWithin reply → replied reply pieces ≡ Err code
    → answer_of (reply.lines ++ joined pieces) ≡ error code
replied_code [] reply code h e = absurd (cc)
replied_code (more ∷ rest) reply code h e = go (with_lines reply more) refl e (λ n. replied_code rest n code)
  where
    go : (r : Result Reply Code) → with_lines reply more ≡ r → (r >>? (λ n. replied n rest)) ≡ Err code
        → ((n : Reply) → IsWithin n → replied n rest ≡ Err code → answer_of (n.lines ++ joined rest) ≡ error code)
        → answer_of (reply.lines ++ (more ++ joined rest)) ≡ error code
    go (Ok n) is e later =
        let g = grown reply n more h is in
        ap answer_of (sym (ap (λ l. l ++ joined rest) g.1 ∙ append_assoc reply.lines more (joined rest))) ∙ later n g.0 e
    go (Err other) is e later =
        let same : other ≡ code = cc in
        overgrown reply more (joined rest) (reply.lines ++ (more ++ joined rest)) other h is refl ∙ ap error same

no_lines_within : IsWithin no_lines
no_lines_within = record { bytes = omega arith }

-- A reply of all lines, from none, says the answer of these.
pub says_lines : {F : Type 0} (honest : Type 0) (passes : F → Type 0) (pieces : List (List Line)) (r : Reply)
    → Looks honest passes (λ (x : Reply). x) (Ok r) (replied no_lines pieces) → Says honest passes (Ok r.lines) (answer_of (joined pieces))
says_lines honest passes pieces r h = λ b. replied_lines pieces no_lines r no_lines_within (h b)

pub says_end : {F : Type 0} (honest : Type 0) (passes : F → Type 0) (pieces : List (List Line)) (e : EvalEnd F)
    → Looks honest passes (λ (x : Reply). x) (Err e) (replied no_lines pieces) → Says honest passes (Err e) (answer_of (joined pieces))
says_end honest passes pieces (ends.Code code) h = λ b. replied_code pieces no_lines code no_lines_within (h b)
says_end honest passes pieces (ends.Nav fault) h = h
says_end honest passes pieces ends.NoMemory h = tt
