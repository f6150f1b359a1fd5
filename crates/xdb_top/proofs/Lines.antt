-- Lines are read one after another.
use Rattle.std.proofs.Common.{◌≡◌, ℕ, ◌+◌, ◌==◌, List, [], ◌∷◌, Result, Ok, Err, IsOk, IsUtf8, count_by, length, eq-eqb, refl}
use Rattle.std.proofs.lemmas.Str.{utf8_valid_len-IsUtf8}
use Rattle.xdb_top.specs.Input.{not_text, spelled, of_text}
use Rattle.xdb_top.specs.declared.fault.InputRefusal.TheVariants.{NotUtf8}
use Rattle.xml_model.specs.declared.node.RefusedLine.{RefusedLine}
use Rattle.xml_model.specs.Pyx.{Reading, Line, step, after, read, split_lines, ◌>>=◌}

-- reading one line
pub after_one : (old : Result Reading RefusedLine) (line : Line) → (old >>= after (line ∷ [])) ≡ (old >>= step line)
after_one (Ok r) line = all_done (step line r)
  where
    all_done : (read : Result Reading RefusedLine) → (read >>= after []) ≡ read
    all_done (Ok q) = refl
    all_done (Err e) = refl
after_one (Err e) line = refl

-- one line and then the others
pub after_more : (old : Result Reading RefusedLine) (line : Line) (lines : List Line)
    → ((old >>= after (line ∷ [])) >>= after lines) ≡ (old >>= after (line ∷ lines))
after_more (Ok r) line lines = done (step line r)
  where
    done : (read : Result Reading RefusedLine) → ((read >>= after []) >>= after lines) ≡ (read >>= after lines)
    done (Ok q) = refl
    done (Err e) = refl
after_more (Err e) line lines = refl

-- what has been read after one line is the step of that line
pub ruleset line_laws = (after_one)

-- where no line before the bad byte is refused, its line is
pub not_text-Ok : (front : List ℕ) (read : Result Reading RefusedLine) → IsOk read
    → not_text front read ≡ Err (record { line = count_by (λ b. b == 10) front + 1; why = NotUtf8 })
not_text-Ok front (Ok r) ok = refl
not_text-Ok front (Err e) ok = cc

-- bytes that are text are read as text
pub spelled-text : (bytes : List ℕ) → IsUtf8 bytes → spelled bytes ≡ of_text (read (split_lines bytes))
spelled-text bytes text = rw (utf8_valid_len-IsUtf8 bytes text, eq-eqb (length bytes) (length bytes) refl) refl
