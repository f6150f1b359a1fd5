-- What an append and a settling make of the bytes round a gate.
use Rattle.std.proofs.Common.{◌≡◌, ℕ, ◌+◌, List, ◌∷◌, ◌++◌, length, take, drop, Bool, true, false, sym, ap, ◌∙◌, subst, arith, append_assoc, length-append}
use Rattle.std.specs.Prelude.{if◌then◌else◌}
use Rattle.page_device.specs.declared.device.Which.{Which}
use Rattle.page_device.specs.Image.{Image, bytes_of}
use Rattle.page_device.specs.Device.{FileIs}
use Rattle.page_device.specs.Gate.{Before, IsSettled}
use Rattle.page_device.proofs.Gate.{rests, front_long, gate_of, gate_is, doubted_is, whole_is}
use Rattle.redo_log.specs.declared.end.LogEnd.{LogEnd}
use Rattle.redo_log.specs.Record.{number, tail_of}
use Rattle.redo_log.specs.Append.{IsAtRest, recorded, IsInDoubt, Settles, next_end}

-- the next gate is closed behind a record, whatever the record's own gate is
module _ (file : Which) (front : List ℕ) (gate : ℕ) (body rest : List ℕ) where
  -- the bytes before the next gate: the front, the record's gate, the body's length and the body
  abbrev pub through : List ℕ
  through = front ++ gate ∷ (number (length body) ++ body)

  regrouped : front ++ gate ∷ (tail_of body ++ rest) ≡ through ++ 0 ∷ rest
  regrouped = simp append_assoc

  -- up to the next gate there are the bytes of the front, and as many as the record takes after its own gate with the next one
  pub length-through : length through ≡ length front + length (tail_of body)
  length-through = simp length-append (omega arith)

  -- an image that has the record has a closed gate behind its body
  pub next_closed : (i : Image) → bytes_of i file ≡ front ++ gate ∷ (tail_of body ++ rest) → Before file through i
  next_closed i is = record { gate = 0; shut = λ e. omega arith; rest = rest; is = is ∙ regrouped }

-- after Ok the log may be appended to behind the record
module _ (end : LogEnd) (body : List ℕ) (c : Image) (old : Image → Type 0) (here : old c) (r : IsAtRest end c old) where
  -- where each image has the record with its gate open, the log is at rest at the next gate
  pub rests_next : (next : LogEnd) (new : Image → Type 0) (d : Image) → next.file ≡ end.file → next.at ≡ end.at + length (tail_of body) → new d
      → FileIs end.file (recorded end body c) new → IsAtRest next d new
  rests_next next new d file_is at_is is only =
      let front = take end.at (bytes_of c end.file) in let rest = drop (end.at + 1 + length (tail_of body)) (bytes_of c end.file) in
      rests next.file next.at d new (through end.file front 1 body rest)
      (length-through end.file front 1 body rest
      ∙ (ap (λ (n : ℕ). n + length (tail_of body)) (front_long end.file end.at (tail_of body) c old here r) ∙ sym at_is)) is
      (λ i left. subst (λ (f : Which). Before f (through end.file front 1 body rest) i) (sym file_is) (next_closed end.file front 1 body rest i (only i left)))

-- over a record in doubt, as it is read
module _ (end : LogEnd) (body : List ℕ) (c : Image) (old : Image → Type 0) (here : old c) (r : IsInDoubt end body old) where
  abbrev gate_now : ℕ
  gate_now = gate_of end.file end.at (tail_of body) c old here r

  file_is : bytes_of c end.file ≡ r.front ++ gate_now ∷ (tail_of body ++ r.rest)
  file_is = doubted_is end.file end.at (tail_of body) c old here r

  module _ (new : Image → Type 0) (left : new c) where
    rests_on : (sure : Bool) → IsSettled end.file end.at c new sure → IsAtRest (if sure then next_end end body else end) c new
    rests_on true s = rests end.file (end.at + length (tail_of body)) c new (through end.file r.front gate_now body r.rest)
        (length-through end.file r.front gate_now body r.rest ∙ ap (λ (n : ℕ). n + length (tail_of body)) r.long) left
        (λ i is. next_closed end.file r.front gate_now body r.rest i (s.synced i is ∙ file_is))
    rests_on false s = rests end.file end.at c new r.front r.long left
        (λ i is. record {
          gate = gate_now;
          shut = λ one. absurd (cc (s.is_open.1 (gate_is end.file end.at (tail_of body) c old here r ∙ one)));
          rest =
              tail_of body ++ r.rest;
          is = s.synced i is ∙ file_is;
        })

    -- where the gate of a record in doubt is settled, the log's place is the next gate or the old one by the answer, and the log is at rest there
    pub settles : (sure : Bool) (next : LogEnd) → next ≡ (if sure then next_end end body else end) → IsSettled end.file end.at c new sure
        → Settles end next body c new sure
    settles sure next moved s = record {
      synced = s.synced;
      whole = whole_is end.file end.at (tail_of body) c old here r;
      answer = s.is_open;
      moved = moved;
      rest = subst (λ (n : LogEnd). IsAtRest n c new) (sym moved) (rests_on sure s);
    }
