-- What was sent in turn was sent together.
use Rattle.std.proofs.Common.{◌≡◌, ℕ, ◌+◌, ◌≤◌, ◌<◌, IsErr, OnOk, Option, Some, None, List, [], ◌∷◌, ◌++◌, length, take, Result, Ok, Err, inl, inr, refl, ap, sym, ◌∙◌, append_assoc, append-nil, take-append-drop, drop, get_or, subst, length-append, arith}
use Rattle.std.proofs.lemmas.List.{take_more, take_at}
use Rattle.std.specs.Io.KnownBytes.{append_known}
use Rattle.byte_edge.specs.Faults.{Rose, HasCause}
use Rattle.byte_edge.specs.Took.{AppendedPrefix}
use Rattle.byte_edge.specs.Sending.{Stage, Sent, Broke, Sends}

append-append : (o : Option (List ℕ)) (xs ys : List ℕ) → append_known (append_known o xs) ys ≡ append_known o (xs ++ ys)
append-append None xs ys = refl
append-append (Some zs) xs ys = ap Some (append_assoc zs xs ys)

-- what is written in turn
written_then : (a b c : Option (List ℕ)) (xs ys : List ℕ) → b ≡ append_known a xs → c ≡ append_known b ys → c ≡ append_known a (xs ++ ys)
written_then a b c xs ys first second = second ∙ (ap (λ k. append_known k ys) first ∙ append-append a xs ys)

-- what waits in turn
waiting_then : (a b c bytes more xs ys : List ℕ) → a ++ bytes ≡ xs ++ b → b ++ more ≡ ys ++ c → a ++ (bytes ++ more) ≡ (xs ++ ys) ++ c
waiting_then a b c bytes more xs ys first second =
    sym (append_assoc a bytes more) ∙ (ap (λ l. l ++ more) first ∙ (append_assoc xs b more ∙ (ap (λ l. xs ++ l) second ∙ sym (append_assoc xs ys c))))

rose_then : (a b c : ℕ) → a ≤ b → Rose b c → Rose a c
rose_then a b c le (inl lt) = inl (omega arith)
rose_then a b c le (inr last) = grind (arith, le, last)

-- sent, and then sent
pub sent_then : {bytes more : List ℕ} {a b c : Stage} → Sent bytes a b → Sent more b c → Sent (bytes ++ more) a c
sent_then {bytes} {more} {a} {b} {c} s t = record {
  put = s.put ++ t.put;
  written = written_then a.written b.written c.written s.put t.put s.written t.written;
  waiting = waiting_then a.waiting b.waiting c.waiting bytes more s.put t.put s.waiting t.waiting;
  kept = t.kept ∙ s.kept;
}

-- sent, and then failed
pub broke_then : {bytes more : List ℕ} {a b c : Stage} → Sent bytes a b → Broke more b c → Broke (bytes ++ more) a c
broke_then {bytes} {more} {a} {b} {c} s t = record {
  put = s.put ++ t.put;
  lost = t.lost;
  written = written_then a.written b.written c.written s.put t.put s.written t.written;
  waiting = waiting_then a.waiting b.waiting t.lost bytes more s.put t.put s.waiting t.waiting;
  later = omega (arith, s.kept, t.later);
  rose = let le : a.faults ≤ b.faults = omega (arith, s.kept) in rose_then a.faults b.faults c.faults le t.rose;
}

-- failed before more was sent
pub broke_before : {bytes : List ℕ} {a b : Stage} → (more : List ℕ) → Broke bytes a b → Broke (bytes ++ more) a b
broke_before {bytes} {a} {b} more t = record {
  put = t.put;
  lost = t.lost ++ more;
  written = t.written;
  waiting = sym (append_assoc a.waiting bytes more) ∙ (ap (λ l. l ++ more) t.waiting ∙ append_assoc t.put t.lost more);
  later = t.later;
  rose = t.rose;
}

-- sent, and then an answer
pub sends_then : {T E : Type 0} {bytes : List ℕ} {a b : Stage} → (r : Result T E) → (more : List ℕ) → (c : Stage) → Sent bytes a b → Sends r more b c
    → Sends r (bytes ++ more) a c
sends_then (Ok x) more c s t = sent_then s t
sends_then (Err e) more c s t = broke_then s t

-- an answer that is a failure
pub failed : {T E : Type 0} {bytes : List ℕ} {a b : Stage} → (r : Result T E) → IsErr r → Broke bytes a b → Sends r bytes a b
failed (Ok x) h t = absurd (cc h)
failed (Err e) h t = t

-- of what waits, a front was written
pub broke_waiting : (bytes : List ℕ) (a b : Stage) → bytes ≡ a.waiting → AppendedPrefix bytes a.written b.written → a.faults ≤ b.faults → Rose a.faults b.faults
    → Broke [] a b
broke_waiting bytes a b all front later rose = record {
  put = take front.count bytes;
  lost = drop front.count bytes;
  written = front.appended;
  waiting = append-nil a.waiting ∙ (sym all ∙ sym (take-append-drop front.count bytes));
  later = later;
  rose = rose;
}

-- the same bytes
pub sends_as : {T E : Type 0} (r : Result T E) (a b : Stage) (bytes more : List ℕ) → bytes ≡ more → Sends r bytes a b → Sends r more a b
sends_as r a b bytes more same s = let P : List ℕ → Type 0 = λ l. Sends r l a b in subst P same s

-- a failure while some bytes were sent is one while any equal bytes were sent
pub broke_as : {a b : Stage} (bytes more : List ℕ) → bytes ≡ more → Broke bytes a b → Broke more a b
broke_as {a} {b} bytes more same s = let P : List ℕ → Type 0 = λ l. Broke l a b in subst P same s

-- where some bytes were sent, any equal bytes were sent
pub sent_as : {a b : Stage} (bytes more : List ℕ) → bytes ≡ more → Sent bytes a b → Sent more a b
sent_as {a} {b} bytes more same s = let P : List ℕ → Type 0 = λ l. Sent l a b in subst P same s

append_known-nil : (o : Option (List ℕ)) → o ≡ append_known o []
append_known-nil None = refl
append_known-nil (Some xs) = ap Some (sym (append-nil xs))

-- nothing was sent
pub sent_none : (a : Stage) → Sent [] a a
sent_none a = record { put = []; written = append_known-nil a.written; waiting = append-nil a.waiting; kept = refl }

-- what is sent item by item
module _ {A : Type 0} (f : List A → List ℕ) (g : A → List ℕ) (together : (xs ys : List A) → f (xs ++ ys) ≡ f xs ++ f ys) (alone : (x : A)
    → f (x ∷ []) ≡ g x) where
  -- one item more
  one_more : (xs : List A) (i : ℕ) (d : A) → i < length xs → f (take (i + 1) xs) ≡ f (take i xs) ++ g (get_or xs i d)
  one_more xs i d within = ap f (take_more xs i d within) ∙ (together (take i xs) (get_or xs i d ∷ []) ∙ ap (λ l. f (take i xs) ++ l) (alone (get_or xs i d)))

  -- the first i items were sent, and then the item at place i: so the first i + 1 were
  pub sent_next : {a b c : Stage} (xs : List A) (i : ℕ) (d x : A) → i < length xs → x ≡ get_or xs i d → Sent (f (take i xs)) a b → Sent (g x) b c
      → Sent (f (take (i + 1) xs)) a c
  sent_next xs i d x within at s t = sent_as _ _ (ap (λ y. f (take i xs) ++ g y) at ∙ sym (one_more xs i d within)) (sent_then s t)

  -- the first i items were sent, and the sending of the item at place i failed: so that of all the items failed
  pub broke_next : {a b c : Stage} (xs : List A) (i : ℕ) (d x : A) → i < length xs → x ≡ get_or xs i d → Sent (f (take i xs)) a b → Broke (g x) b c
      → Broke (f xs) a c
  broke_next xs i d x within at s t =
      broke_as _ _ (ap (λ l. l ++ f (drop (i + 1) xs)) (ap (λ y. f (take i xs) ++ g y) at ∙ sym (one_more xs i d within))
      ∙ (sym (together (take (i + 1) xs) (drop (i + 1) xs)) ∙ ap f (take-append-drop (i + 1) xs)))
      (broke_before (f (drop (i + 1) xs)) (broke_then s t))

-- what was sent from an empty buffer to an empty one was written
pub sends_all : {T E : Type 0} (r : Result T E) (bytes : List ℕ) (a b : Stage) → a.waiting ≡ [] → Sends r bytes a b → OnOk r (b.waiting ≡ [])
    → OnOk r (b.written ≡ append_known a.written bytes)
sends_all (Ok x) bytes a b none s done =
    s.written ∙ ap (append_known a.written) (sym (append-nil s.put) ∙ (ap (λ l. s.put ++ l) (sym done) ∙ (sym s.waiting ∙ ap (λ l. l ++ bytes) none)))
sends_all (Err e) bytes a b none s done = tt

prefix : (bytes put lost : List ℕ) (old new : Option (List ℕ)) → bytes ≡ put ++ lost → new ≡ append_known old put → AppendedPrefix bytes old new
prefix bytes put lost old new split written = record {
  count = length put;
  within = let len : length bytes ≡ length (put ++ lost) = ap length split in omega (arith, len, length-append put lost);
  appended = written ∙ ap (append_known old) (sym (ap (take (length put)) split ∙ take_at put lost (length put) refl));
}

-- from an empty buffer a prefix was written
pub sends_prefix : {T E : Type 0} (r : Result T E) (bytes : List ℕ) (a b : Stage) → a.waiting ≡ [] → Sends r bytes a b
    → AppendedPrefix bytes a.written b.written
sends_prefix (Ok x) bytes a b none s = prefix bytes s.put b.waiting a.written b.written (sym (ap (λ l. l ++ bytes) none) ∙ s.waiting) s.written
sends_prefix (Err e) bytes a b none s = prefix bytes s.put s.lost a.written b.written (sym (ap (λ l. l ++ bytes) none) ∙ s.waiting) s.written

-- a failure has its cause in the sink
pub sends_cause : {T E : Type 0} (r : Result T E) (bytes : List ℕ) (a b : Stage) → Sends r bytes a b → HasCause a.faults b.faults r
sends_cause (Ok x) bytes a b s = record { later = omega (arith, s.kept); failed = λ h. absurd (cc h); kept = λ h. s.kept }
sends_cause (Err e) bytes a b s = record { later = s.later; failed = λ h. s.rose; kept = λ h. absurd (cc h) }
