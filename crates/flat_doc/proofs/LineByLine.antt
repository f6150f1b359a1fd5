-- Bytes that are read line by line.
use Rattle.std.proofs.Common.{◌≡◌, ℕ, List, [], ◌∷◌, ◌++◌, Result, Err, refl, sym, ap, ◌∙◌, subst}
use Rattle.std.proofs.lemmas.List.{append_assoc, append-nil}
use Rattle.page_bytes.specs.declared.ids.Space.{Space}
use Rattle.page_bytes.specs.declared.end.PageEnd.{PageEnd}
use Rattle.xml_model.specs.declared.node.RefusedLine.{RefusedLine}
use Rattle.xml_model.specs.Pyx.{Reading, IsCutLine}
use Rattle.flat_doc.specs.Lines.{IsRead, Reads}
use Rattle.flat_doc.proofs.Spelled.{none_more}

-- The front of these bytes has been read, and the rest of them hasn't. Before it another reading had another line.
pub record IsFrontRead (bytes rest : List ℕ) (old new : Result Reading RefusedLine) (old_line new_line : List ℕ) : Type 0 where
  pub front : List ℕ
  pub whole : bytes ≡ front ++ rest
  pub is_read : (text : List ℕ) → IsRead text old old_line → IsRead (text ++ front) new new_line

-- At first none of the bytes is read.
pub none_of_them : (bytes : List ℕ) (reading : Result Reading RefusedLine) (line : List ℕ) → IsFrontRead bytes bytes reading reading line line
none_of_them bytes reading line =
    record { front = []; whole = refl; is_read = λ text is. subst (λ t. IsRead t reading line) (sym (append-nil text)) is }

-- the front, with a line more
with_line : (bytes front rest line more : List ℕ) → bytes ≡ front ++ rest → IsCutLine rest line more → bytes ≡ (front ++ (line ++ 10 ∷ [])) ++ more
with_line bytes front rest line more whole cut =
    whole ∙ ap (λ l. front ++ l) (cut.whole ∙ sym (append_assoc line (10 ∷ []) more)) ∙ sym (append_assoc front (line ++ 10 ∷ []) more)

-- A line more is read.
pub one_line_more : (bytes rest line more : List ℕ) (old now new : Result Reading RefusedLine) (old_line now_line new_line : List ℕ)
    → IsFrontRead bytes rest old now old_line now_line → IsCutLine rest line more
    → ((text : List ℕ) → IsRead text now now_line → IsRead (text ++ (line ++ 10 ∷ [])) new new_line) → IsFrontRead bytes more old new old_line new_line
one_line_more bytes rest line more old now new old_line now_line new_line so_far cut read = record {
  front = so_far.front ++ (line ++ 10 ∷ []);
  whole = with_line bytes so_far.front rest line more so_far.whole cut;
  is_read = λ text is. subst (λ t. IsRead t new new_line) (append_assoc text so_far.front (line ++ 10 ∷ []))
      (read (text ++ so_far.front) (so_far.is_read text is));
}

-- A line is refused, and so no text that goes on behind the bytes is a document's.
pub no_line_more : (space : Space) (text bytes rest line more : List ℕ) (end : PageEnd) (old now new : Result Reading RefusedLine)
    (old_line now_line new_line : List ℕ) → IsFrontRead bytes rest old now old_line now_line → IsCutLine rest line more → IsRead text old old_line
    → ((text : List ℕ) → IsRead text now now_line → Reads {T = Unit {0}} space (text ++ (line ++ 10 ∷ [])) (Err end) new new_line)
    → Reads {T = Unit {0}} space (text ++ bytes) (Err end) new new_line
no_line_more space text bytes rest line more end old now new old_line now_line new_line so_far cut is refused =
    let front = so_far.front ++ (line ++ 10 ∷ []) in
    none_more space text bytes front more end new new new_line new_line (with_line bytes so_far.front rest line more so_far.whole cut)
    (subst (λ t. Reads {T = Unit {0}} space t (Err end) new new_line) (append_assoc text so_far.front (line ++ 10 ∷ []))
    (refused (text ++ so_far.front) (so_far.is_read text is)))

-- The rest of the bytes is read too, or refused.
pub all_of_them : (space : Space) (text bytes rest : List ℕ) (r : Result (Unit {0}) PageEnd) (old now new : Result Reading RefusedLine)
    (old_line now_line new_line : List ℕ) → IsFrontRead bytes rest old now old_line now_line → IsRead text old old_line
    → ((text : List ℕ) → IsRead text now now_line → Reads space (text ++ rest) r new new_line) → Reads space (text ++ bytes) r new new_line
all_of_them space text bytes rest r old now new old_line now_line new_line so_far is read =
    subst (λ t. Reads space t r new new_line) (append_assoc text so_far.front rest ∙ ap (λ l. text ++ l) (sym so_far.whole))
    (read (text ++ so_far.front) (so_far.is_read text is))
