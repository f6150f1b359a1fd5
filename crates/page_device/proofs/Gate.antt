-- What the two writes of a body behind a gate leave of the file.
use Rattle.std.proofs.Common.{◌≡◌, inl, inr, ℕ, ◌+◌, min, List, [], ◌∷◌, ◌++◌, length, take, drop, get_or, sym, ap, ◌∙◌, subst, arith, append_assoc, length-append, length-take, take-append-drop}
use Rattle.std.proofs.lemmas.List.{take_at, drop_at, drop_more, get_or_at}
use Rattle.page_device.specs.declared.device.Which.{Which}
use Rattle.page_device.specs.Image.{Image, bytes_of, with_bytes}
use Rattle.page_device.specs.Write.{overlay, Torn}
use Rattle.page_device.specs.Device.{FileIs}
use Rattle.page_device.specs.Run.{Each, InPart}
use Rattle.page_device.specs.Gate.{IsAtRest, Before, Lacks, HasBody, gated, AtAnyMoment, IsInDoubt, behind}
use Rattle.page_device.proofs.Bytes.{overlay-inside}
use Rattle.page_device.proofs.Runs.{bytes_of-with_bytes, others_from, others_from-twice}

-- over plain lists: a front, a gate, and what stands behind it
module _ (front : List ℕ) (gate : ℕ) (back : List ℕ) (at : ℕ) (long : length front ≡ at) where
  -- the file: the front, the gate and the back
  abbrev pub file_of : List ℕ
  file_of = front ++ gate ∷ back

  length-file : length file_of ≡ at + 1 + length back
  length-file = omega (arith, length-append front (gate ∷ back))

  front_of : take at file_of ≡ front
  front_of = take_at front (gate ∷ back) at long

  split : file_of ≡ (front ++ gate ∷ []) ++ back
  split = sym (append_assoc front (gate ∷ []) back)

  length-front : length (front ++ gate ∷ []) ≡ at + 1
  length-front = omega (arith, length-append front (gate ∷ []))

  through_of : take (at + 1) file_of ≡ front ++ gate ∷ []
  through_of = ap (take (at + 1)) split ∙ take_at (front ++ gate ∷ []) back (at + 1) length-front

  back_of : drop (at + 1) file_of ≡ back
  back_of = ap (drop (at + 1)) split ∙ drop_at (front ++ gate ∷ []) back (at + 1) length-front

  -- the gate stands in each outcome of a write behind it
  pub torn_behind : (n : ℕ) (c : List ℕ) → Torn (at + 1) n file_of c → c ≡ front ++ gate ∷ drop (at + 1) c
  torn_behind n c torn =
      let whole : min (at + 1) (length file_of) ≡ at + 1 = omega (arith, length-file) in
      let start : take (at + 1) c ≡ front ++ gate ∷ [] = ap (λ (k : ℕ). take k c) (sym whole)
      ∙ (torn.before ∙ (ap (λ (k : ℕ). take k file_of) whole ∙ through_of)) in
      sym (take-append-drop (at + 1) c) ∙ (ap (λ (l : List ℕ). l ++ drop (at + 1) c) start ∙ append_assoc front (gate ∷ []) (drop (at + 1) c))

  -- a write of the body right after the gate leaves the front and the gate, and then the body with what stood after it
  pub written_behind : (body : List ℕ) → overlay file_of (at + 1) body ≡ front ++ gate ∷ behind at body file_of
  written_behind body =
      let rest = drop (at + 1 + length body) file_of in
      overlay-inside file_of (at + 1) body (omega (arith, length-file))
      ∙ (ap (λ (l : List ℕ). l ++ body ++ rest) through_of
      ∙ (append_assoc (front ++ gate ∷ []) body rest ∙ append_assoc front (gate ∷ []) (body ++ rest)))

  -- the rest stands whole in each outcome of a write of the gate
  pub torn_gate : (c : List ℕ) → Torn at 1 file_of c → c ≡ front ++ get_or c at 0 ∷ back
  torn_gate c torn =
      let whole : min at (length file_of) ≡ at = omega (arith, length-file) in
      let start : take at c ≡ front = ap (λ (n : ℕ). take n c) (sym whole) ∙ (torn.before ∙ (ap (λ (n : ℕ). take n file_of) whole ∙ front_of)) in
      let rest : drop at c ≡ get_or c at 0 ∷ back = drop_more c at 0 (omega (arith, length-file, torn.no_shorter))
      ∙ ap (λ (l : List ℕ). get_or c at 0 ∷ l) (torn.after ∙ back_of) in
      sym (take-append-drop at c) ∙ (ap (λ (l : List ℕ). l ++ drop at c) start ∙ ap (λ (l : List ℕ). front ++ l) rest)

  -- a write of 1 at the gate's place opens the gate and changes nothing else
  pub written_gate : overlay file_of at (1 ∷ []) ≡ front ++ 1 ∷ back
  written_gate =
      overlay-inside file_of at (1 ∷ []) (omega (arith, length-file))
      ∙ (ap (λ (l : List ℕ). l ++ (1 ∷ []) ++ drop (at + 1) file_of) front_of
      ∙ (ap (λ (l : List ℕ). front ++ (1 ∷ []) ++ l) back_of
      ∙ append_assoc front (1 ∷ []) back))

-- a closed gate behind a front that each image has
pub rests : (file : Which) (at : ℕ) (c : Image) (images : Image → Type 0) (front : List ℕ) → length front ≡ at → images c → Each images (Before file front)
    → IsAtRest file at c images
rests file at c images front long here all =
    let own = all c here in
    let same : take at (bytes_of c file) ≡ front = ap (take at) own.is ∙ take_at front (own.gate ∷ own.rest) at long in record {
      long = omega (arith, long, ap length own.is, length-append front (own.gate ∷ own.rest));
      each = λ i left. subst (λ (f : List ℕ). Before file f i) (sym same) (all i left);
    }

-- over a file that rests behind a closed gate
module _ (file : Which) (at : ℕ) (body : List ℕ) (c : Image) (old : Image → Type 0) (here : old c) (r : IsAtRest file at c old) where
  abbrev front : List ℕ
  front = take at (bytes_of c file)

  abbrev back : List ℕ
  back = behind at body (bytes_of c file)

  -- the front is as long as the gate's place says
  pub front_long : length front ≡ at
  front_long = omega (arith, r.long, length-take at (bytes_of c file))

  -- the first write
  pub lacks : (i : Image) → InPart file (at + 1) (length body) old i → Lacks file at body c old i
  lacks i part = let was = r.each part.was part.is_old in record {
    closed = record {
      gate = was.gate;
      shut = was.shut;
      rest = drop (at + 1) (bytes_of i file);
      is = torn_behind front was.gate was.rest at front_long (length body) (bytes_of i file)
          (subst (λ (b : List ℕ). Torn (at + 1) (length body) b (bytes_of i file)) was.is part.torn.torn);
    };
    part = part;
  }

  -- what is read after it
  abbrev middle : List ℕ
  middle = overlay (bytes_of c file) (at + 1) body

  middle_is : middle ≡ front ++ (r.each c here).gate ∷ back
  middle_is = let was = r.each c here in
      ap (λ (b : List ℕ). overlay b (at + 1) body) was.is
      ∙ (written_behind front was.gate was.rest at front_long body ∙ ap (λ (b : List ℕ). front ++ was.gate ∷ behind at body b) (sym was.is))

  -- the gate's write
  pub has_body : (mid : Image → Type 0) → FileIs file middle mid → (i : Image) → InPart file at 1 mid i → HasBody file at body c i
  has_body mid only i part = record {
    gate = get_or (bytes_of i file) at 0;
    is = torn_gate front (r.each c here).gate back at front_long (bytes_of i file)
        (subst (λ (b : List ℕ). Torn at 1 b (bytes_of i file)) (only part.was part.is_old ∙ middle_is) part.torn.torn);
  }

  -- what is read after the write of the body and then of the gate has the body behind an open gate
  pub gated_is : overlay (bytes_of (with_bytes c file middle) file) at (1 ∷ []) ≡ gated file at body c
  gated_is = ap (λ (b : List ℕ). overlay b at (1 ∷ [])) (bytes_of-with_bytes c file middle ∙ middle_is)
      ∙ written_gate front (r.each c here).gate back at front_long

  -- an image from before the gate's write lacks the body, and its other files are those of an older image
  pub any_before : (i : Image) → InPart file (at + 1) (length body) old i → AtAnyMoment file at body c old i
  any_before i part = record { file_is = inl (lacks i part); others = others_from file (at + 1) (length body) old i part }

  -- an image from the gate's write on has the body, and its other files are those of an older image
  pub any_after : (mid : Image → Type 0) → FileIs file middle mid → Each mid (InPart file (at + 1) (length body) old) → (i : Image) → InPart file at 1 mid i
      → AtAnyMoment file at body c old i
  any_after mid only all i part = record {
    file_is = inr (has_body mid only i part);
    others = others_from-twice file (at + 1) (length body) old mid all i (others_from file at 1 mid i part);
  }

  -- after Failed the body may be written again
  pub rests_again : (new : Image → Type 0) (d : Image) → new d → Each new (InPart file (at + 1) (length body) old) → IsAtRest file at d new
  rests_again new d is all = rests file at d new front front_long is (λ i left. (lacks i (all i left)).closed)

  -- where each image has the body, the body is in doubt: only its gate may differ
  pub in_doubt : (new : Image → Type 0) → Each new (HasBody file at body c) → IsInDoubt file at body new
  in_doubt new all = record { front = front; rest = drop (at + 1 + length body) (bytes_of c file); long = front_long; each = all }

-- over a body in doubt, as it is read
module _ (file : Which) (at : ℕ) (body : List ℕ) (c : Image) (old : Image → Type 0) (here : old c) (r : IsInDoubt file at body old) where
  -- the gate as it is read
  abbrev pub gate_of : ℕ
  gate_of = (r.each c here).gate

  -- the file as it is read is the front that all images share, the gate, the body and the rest
  pub doubted_is : bytes_of c file ≡ r.front ++ gate_of ∷ (body ++ r.rest)
  doubted_is = (r.each c here).is

  front_is : take at (bytes_of c file) ≡ r.front
  front_is = ap (take at) doubted_is ∙ take_at r.front (gate_of ∷ (body ++ r.rest)) at r.long

  rest_is : drop (at + 1 + length body) (bytes_of c file) ≡ r.rest
  rest_is =
      ap (drop (at + 1 + length body)) (doubted_is ∙ sym (append_assoc r.front (gate_of ∷ body) r.rest))
      ∙ drop_at (r.front ++ gate_of ∷ body) r.rest (at + 1 + length body) (omega (arith, r.long, length-append r.front (gate_of ∷ body)))

  -- the gate is where it was
  pub gate_is : get_or (bytes_of c file) at 0 ≡ gate_of
  gate_is = ap (λ (l : List ℕ). get_or l at 0) doubted_is ∙ get_or_at r.front gate_of (body ++ r.rest) 0 at r.long

  -- the file as it is read has the body
  pub whole_is : HasBody file at body c c
  whole_is = record {
    gate = gate_of;
    is = doubted_is ∙ (ap (λ (l : List ℕ). l ++ gate_of ∷ (body ++ r.rest)) (sym front_is)
        ∙ ap (λ (l : List ℕ). take at (bytes_of c file) ++ gate_of ∷ (body ++ l)) (sym rest_is));
  }
