-- What the parts of a checkpoint leave, up to the gate of the new head and behind it.
use Rattle.std.proofs.Common.{◌≡◌, inr, ⊎_elim, ℕ, ◌+◌, ◌<◌, ◌*◌, ◌≤◌, List, [], ◌∷◌, ◌++◌, length, map, get_or, Option, Some, None, refl, sym, ap, ◌∙◌, subst, arith, append_assoc, length-append, rules, Bool, true, false}
use Rattle.std.specs.Prelude.{IfNone, slice_index}
use Rattle.std.specs.List.{AllByRecursion, flat_map}
use Rattle.std.specs.FinMap as finite
use Rattle.std.proofs.lemmas.Bool.{cases_eq}
use Rattle.std.proofs.lemmas.List.{length-map}
use Rattle.page_device.specs.declared.device.Which.{Which}
use Rattle.page_device.specs.declared.device.Which.TheVariants.{Slots}
use Rattle.page_device.specs.Image.{Image, bytes_of, SameOthers}
use Rattle.page_device.specs.Device.{FileIs}
use Rattle.page_device.specs.Write.{Torn, overlay}
use Rattle.page_device.specs.Run.{Each, InPart, LeavesOnly}
use Rattle.page_device.proofs.Runs.{weaker, joined}
use Rattle.page_device.specs.Gate.{IsSettled}
use Rattle.page_device.proofs.Gate.{torn_gate}
use Rattle.slot_store.specs.declared.table.Row.{Row}
use Rattle.slot_store.specs.declared.state.Log.{Log}
use Rattle.slot_store.specs.declared.state.SlotState.{SlotState}
use Rattle.slot_store.specs.declared.planning.Placed.{Placed}
use Rattle.slot_store.specs.declared.planning.MadePlan.{MadePlan}
use Rattle.slot_store.specs.Slots.{slot_in, IsInside}
use Rattle.slot_store.specs.Logs.{file_of, other_log, other_file}
use Rattle.slot_store.specs.Head.{Head, head_bytes, front_bytes, row_bytes, IsRight}
use Rattle.slot_store.specs.Opens.{Opened, Opens, OpensFresh, Yields, store_of_head}
use Rattle.slot_store.specs.Planned.{IsPlaced, IsPlacedIn, written_slots, row_of, image_in, head_of, opened_of, IsMadeFor}
use Rattle.slot_store.specs.Steps.{From, SlotsStand, SlotsWritten, GateMoved, BehindGate, IsClosed, Stands, HasImage, HasImages}
use Rattle.slot_store.specs.Checkpoint.{IsAt, IsPlanned, StandsAs, IsInDoubt, IsPrepared, IsSettledAs}
use Rattle.page_device.specs.declared.device.TheConstants.{LONGEST}
use Rattle.slot_store.proofs.Writing.{length-rows}
use Rattle.slot_store.proofs.Steps.{stand_twice}
use Rattle.slot_store.proofs.Opening.{all_so, all_both, same_log_beside, same_slots, other_twice, of_table, unwritten, at_slots, at_gate, at_behind, commit_of_names, names_of_names, placed_rows, placed_image, begins, all_rows, placed_inside}

module _ (state : SlotState) (plan : MadePlan) (made : IsMadeFor state plan) (c : Image) where
  abbrev written : List ℕ
  written = written_slots plan.placed.items

  -- the slots of the table lie inside
  table_inside : (i : Image) → IsAt state (opened_of plan c) i → AllByRecursion (λ (r : Row). IsInside i.slots r.slot) state.table
  table_inside i at = subst (λ (rs : List Row). AllByRecursion (λ (r : Row). IsInside i.slots r.slot) rs) at.rows at.opens.inside

  stand_one : (a b : Image) → SlotsStand written a b → AllByRecursion (λ (r : Row). IsInside a.slots r.slot) state.table → (slot : ℕ)
      (page : Option (List ℕ)) → IsPlaced state.table slot page → StandsAs c a slot page → StandsAs c b slot page
  stand_one a b step inside slot None is stands =
      step.stand slot (unwritten state.table slot is plan.placed.items made.placed) (of_table (IsInside a.slots) state.table slot inside is) ∙ stands
  stand_one a b step inside slot (Some page) is stands = tt

  -- a write of free slots leaves what the plan finds
  pub planned_slots : (a b : Image) → SlotsWritten written a b → IsPlanned state plan c a → IsPlanned state plan c b
  planned_slots a b step was = record {
    at_rest = at_slots state plan.placed.items made.placed (opened_of plan c) a b step was.at_rest;
    stand = all_both (IsPlacedIn state.table) (λ (p : Placed). StandsAs c a p.slot p.page) (λ (p : Placed). StandsAs c b p.slot p.page)
        (λ p is stands. stand_one a b step.slots (table_inside a was.at_rest) p.slot p.page is stands) plan.placed.items made.placed was.stand;
  }

  stand_beside : (a b : Image) → SameOthers (other_file state.log) a b → AllByRecursion (λ (p : Placed). StandsAs c a p.slot p.page) plan.placed.items
      → AllByRecursion (λ (p : Placed). StandsAs c b p.slot p.page) plan.placed.items
  stand_beside a b same all = all_so (λ (p : Placed). StandsAs c a p.slot p.page) (λ (p : Placed). StandsAs c b p.slot p.page)
      (λ p stands. subst (λ (l : List ℕ). IfNone p.page (slot_in l p.slot ≡ slot_in c.slots p.slot)) (sym (same_slots (other_log state.log) a b same)) stands)
      plan.placed.items all

  -- so does a step at the other log's gate
  pub planned_gate : (a b : Image) → GateMoved (other_file state.log) a b → IsPlanned state plan c a → IsPlanned state plan c b
  planned_gate a b step was = record {
    at_rest = at_gate state (opened_of plan c) a b step was.at_rest;
    stand = stand_beside a b step.others was.stand;
  }

  -- and one behind it, where it is closed
  pub planned_behind : (a b : Image) (g : ℕ) (rest : List ℕ) → bytes_of a (other_file state.log) ≡ g ∷ rest → (g ≡ 1 → ⊥)
      → BehindGate (other_file state.log) a b → IsPlanned state plan c a → IsPlanned state plan c b
  planned_behind a b g rest is shut step was = record {
    at_rest = at_behind state (opened_of plan c) a b g rest is shut step was.at_rest;
    stand = stand_beside a b step.others was.stand;
  }

  -- the slots stand where a log changes
  pub stand_log : (written : List ℕ) (log : Log) (a b : Image) → SameOthers (file_of log) a b → SlotsStand written a b
  stand_log written log a b same = let slots = same_slots log a b same in record {
    longer = omega (arith, ap length slots);
    stand = λ s none inside. ap (λ (l : List ℕ). slot_in l s) slots;
  }

  -- the new head, where its gate is 1, counts beside the old one, and the store opens to the same by it
  module _ (right : IsRight (head_of plan)) (d : Image) (images : Image → Type 0) (ready : IsPrepared state plan c d images)
      (all : Each images (IsPlanned state plan c)) where
    abbrev new_head : Head
    new_head = head_of plan

    abbrev o : Opened
    o = opened_of plan c

    older : (a i : Image) → SameOthers (other_file state.log) a i → IsAt state o a → Yields plan.generation (bytes_of i (other_file (other_log state.log)))
    older a i same at =
        let start = begins at.head at.opens.rest in
        subst (λ (file : Which). Yields plan.generation (bytes_of i file)) (sym (other_twice state.log)) (inr (record {
          older = at.head.generation;
          below = omega (arith, made.generation, at.generation);
          rest = start.0;
          is = same_log_beside state.log a i same ∙ (at.opens.is ∙ ap (λ (l : List ℕ). 1 ∷ l) start.1);
        }))

    pub opens_new : (a i : Image) → images a → SameOthers (other_file state.log) a i → bytes_of i (other_file state.log) ≡ 1 ∷
        (head_bytes new_head ++ 0 ∷ ready.rest)
        → OpensFresh (other_log state.log) new_head o i
    opens_new a i left same is =
        let slots : i.slots ≡ d.slots = same_slots (other_log state.log) a i same ∙ ready.synced a left in
        let planned = all a left in
        let has : AllByRecursion (HasImage i.slots) plan.placed.items = subst (λ (l : List ℕ). AllByRecursion (HasImage l) plan.placed.items)
        (sym slots) ready.has in
        let stands = stand_beside a i same planned.stand in
        let inside = subst (λ (l : List ℕ). AllByRecursion (λ (r : Row). IsInside l r.slot) state.table) (sym (same_slots (other_log state.log) a i same))
        (table_inside a planned.at_rest) in
        let start = store_of_head new_head in
        record {
          opens = record {
            rest = 0 ∷ ready.rest;
            is = is;
            right = right;
            inside = all_rows (λ (r : Row). IsInside i.slots r.slot) plan.placed.items
                (all_both (IsPlacedIn state.table) (HasImage i.slots) (λ (p : Placed). IsInside i.slots p.slot)
                (λ p is_placed there. placed_inside state.table i.slots p.slot p.page inside is_placed there) plan.placed.items made.placed has);
            other = older a i same planned.at_rest;
            changes = [];
            end = 0 ∷ ready.rest;
            records = (refl, λ one. absurd (omega (arith, one)));
            commit = sym (commit_of_names plan.entries.value _);
            names = names_of_names plan.entries.value _;
            pages = placed_rows c.slots i.slots plan.placed.items
                (all_both (λ (p : Placed). StandsAs c i p.slot p.page) (HasImage i.slots)
                (λ (p : Placed). image_in c.slots p.slot p.page ≡ slot_in i.slots p.slot)
                (λ p stand there. placed_image c.slots i.slots p.slot p.page stand there) plan.placed.items stands has) finite.empty;
          };
          no_records = refl;
          gate = subst (λ (file : Which). 0 < length (bytes_of i file)) (sym (other_twice state.log))
              (omega (arith, ap length (same_log_beside state.log a i same ∙ planned.at_rest.opens.is)));
        }

    -- an image in which the gate's write was done in part
    pub torn_open : (i : Image) → InPart (other_file state.log) 0 1 images i → IsInDoubt state new_head ready.rest o i
    torn_open i part =
        let file = other_file state.log in let body = head_bytes new_head ++ 0 ∷ ready.rest in
        let was_is = ready.head part.was part.is_old in
        let is : bytes_of i file ≡ get_or (bytes_of i file) 0 0 ∷ body =
        torn_gate [] ready.gate body 0 refl (bytes_of i file) (subst (λ (l : List ℕ). Torn 0 1 l (bytes_of i file)) was_is part.torn.torn) in
        record {
          gate = get_or (bytes_of i file) 0 0;
          is = is;
          new = λ one. opens_new part.was i part.is_old part.torn.others (is ∙ ap (λ (g : ℕ). g ∷ body) one);
          old = λ shut. (planned_gate part.was i (record {
            others = part.torn.others;
            before = ready.gate;
            after = get_or (bytes_of i file) 0 0;
            rest = body;
            was_so = was_is;
            is = is;
            shut = λ one. absurd (shut one);
          }) (all part.was part.is_old)).at_rest;
        }

    -- an image that has the file with the gate written as 1
    pub opened_now : (new : Image → Type 0) → FileIs (other_file state.log) (overlay (bytes_of d (other_file state.log)) 0 (1 ∷ [])) new → (i : Image) → new i
        → InPart (other_file state.log) 0 1 images i → OpensFresh (other_log state.log) new_head o i
    opened_now new synced i left part =
        opens_new part.was i part.is_old part.torn.others (synced i left ∙ ap (λ (l : List ℕ). overlay l 0 (1 ∷ [])) ready.read)

-- an image with a head in doubt opens to the same, whatever the gate is
pub doubt_opens : (state : SlotState) (head : Head) (rest : List ℕ) (o : Opened) (i : Image) → IsInDoubt state head rest o i → Opens o i
doubt_opens state head rest o i doubt =
    ⊎_elim (λ one. (other_log state.log, head, (doubt.new one).opens)) (λ shut. let at = doubt.old shut in (state.log, at.head, at.opens))
    (cases_eq doubt.gate 1)

-- an image of the state opens
pub at_opens : (state : SlotState) (o : Opened) (i : Image) → IsAt state o i → Opens o i
at_opens state o i at = (state.log, at.head, at.opens)

-- over the parts of a preparation, one after another
module _ (state : SlotState) (plan : MadePlan) (made : IsMadeFor state plan) (c : Image) where
  abbrev file : Which
  file = other_file state.log

  abbrev slots : List ℕ
  slots = written_slots plan.placed.items

  pub from_slots : (old : Image → Type 0) → Each old (IsPlanned state plan c) → (i : Image) → From (SlotsWritten slots) old i → IsPlanned state plan c i
  from_slots old all i from = planned_slots state plan made c from.was i from.does (all from.was from.is_old)

  pub from_gate : (old : Image → Type 0) → Each old (IsPlanned state plan c) → (i : Image) → From (GateMoved file) old i → IsPlanned state plan c i
  from_gate old all i from = planned_gate state plan made c from.was i from.does (all from.was from.is_old)

  pub from_behind : (old : Image → Type 0) (k : Image) → IsClosed file k old → Each old (IsPlanned state plan c) → (i : Image) → From (BehindGate file) old i
      → IsPlanned state plan c i
  from_behind old k closed all i from =
      planned_behind state plan made c from.was i closed.gate closed.rest (closed.synced from.was from.is_old ∙ closed.is) closed.shut from.does
      (all from.was from.is_old)

  pub stand_slots : (old : Image → Type 0) (i : Image) → From (SlotsWritten slots) old i → From (SlotsStand slots) old i
  stand_slots old i from = record { was = from.was; is_old = from.is_old; does = from.does.slots }

  pub stand_on : (old mid : Image → Type 0) → Each mid (From (SlotsStand slots) old) → (was i : Image) → mid was → SameOthers file was i → From
      (SlotsStand slots) old i
  stand_on old mid all was i is same = let first = all was is in record {
    was = first.was;
    is_old = first.is_old;
    does = stand_twice slots first.was was i first.does (stand_log state plan made c slots (other_log state.log) was i same);
  }

  pub stand_gate : (old mid : Image → Type 0) → Each mid (From (SlotsStand slots) old) → (i : Image) → From (GateMoved file) mid i → From
      (SlotsStand slots) old i
  stand_gate old mid all i from = stand_on old mid all from.was i from.is_old from.does.others

  pub stand_behind : (old mid : Image → Type 0) → Each mid (From (SlotsStand slots) old) → (i : Image) → From (BehindGate file) mid i
      → From (SlotsStand slots) old i
  stand_behind old mid all i from = stand_on old mid all from.was i from.is_old from.does.others

  -- the head's bytes: its front, and its rows
  spelled_head : plan.front.items ++ flat_map row_bytes plan.table ≡ head_bytes (head_of plan)
  spelled_head =
      ap (λ (l : List ℕ). l ++ flat_map row_bytes plan.table)
      (made.front ∙ ap (front_bytes plan.generation plan.commit plan.entries.value) (sym (length-map plan.placed.items row_of)))
      ∙ ap (λ (rows : List Row). front_bytes plan.generation plan.commit plan.entries.value (length (map row_of plan.placed.items)) ++ flat_map row_bytes rows)
      made.table

  -- the head's bytes, as they are written
  spelled : (rest : List ℕ) → ((plan.front.items ++ flat_map row_bytes plan.table) ++ 0 ∷ []) ++ rest ≡ head_bytes (head_of plan) ++ 0 ∷ rest
  spelled rest =
      append_assoc (plan.front.items ++ flat_map row_bytes plan.table) (0 ∷ []) rest ∙ ap (λ (l : List ℕ). l ++ 0 ∷ rest) spelled_head

  -- the head fits the file, as it is written
  pub head_fits : (front : List ℕ) (rows : List Row) → front ≡ plan.front.items → rows ≡ plan.table → length front + length rows * 32 + 2 ≤ LONGEST
  head_fits front rows front_is rows_is =
      omega (
        arith,
        made.fits,
        ap length spelled_head,
        length-append plan.front.items (flat_map row_bytes plan.table),
        length-rows plan.table,
        ap length front_is,
        ap length rows_is,
      )

  -- all is written but the gate
  pub prepared : (mid mid' new : Image → Type 0) (k k' d : Image) → HasImages plan.placed.items c k → FileIs Slots k.slots mid → SameOthers file k k'
      → IsClosed file k' mid' → Each mid' (From (GateMoved file) mid)
      → Stands file ((plan.front.items ++ flat_map row_bytes plan.table) ++ 0 ∷ []) k' d → FileIs file (bytes_of d file) new → Each new
      (From (BehindGate file) mid')
      → IsPrepared state plan c d new
  prepared mid mid' new k k' d images synced same closed moved stands written behind =
      let log = other_log state.log in
      let slots_now : d.slots ≡ k.slots = same_slots log k' d stands.others ∙ same_slots log k k' same in
      let is : bytes_of d file ≡ stands.gate ∷ (head_bytes (head_of plan) ++ 0 ∷ stands.rest) =
      stands.is ∙ ap (λ (l : List ℕ). stands.gate ∷ l) (spelled stands.rest) in
      let gates : stands.gate ≡ closed.gate = ap (λ (l : List ℕ). get_or l 0 0) (sym stands.was_so ∙ closed.is) in
      record {
        synced = λ i left. let last = behind i left in let first = moved last.was last.is_old in
            same_slots log last.was i last.does.others ∙ (same_slots log first.was last.was first.does.others ∙
            (synced first.was first.is_old ∙ sym slots_now));
        stand = stand_twice slots c k d images.step.slots (stand_twice slots k k' d (stand_log state plan made c slots log k k' same)
            (stand_log state plan made c slots log k' d stands.others));
        has = subst (λ (l : List ℕ). AllByRecursion (HasImage l) plan.placed.items) (sym slots_now) images.each;
        gate = stands.gate;
        shut = λ one. closed.shut (sym gates ∙ one);
        rest = stands.rest;
        head = λ i left. written i left ∙ is;
        read = is;
      }

-- a head that was in doubt and is settled
pub settled_as : (state : SlotState) (head : Head) (rest : List ℕ) (o : Opened) (c : Image) (images : Image → Type 0) (sure : Bool)
    → IsSettled (other_file state.log) 0 c images sure → Each images (IsInDoubt state head rest o) → Each images (IsSettledAs state head o sure)
settled_as state head rest o c images sure settled all i left = one sure settled
  where
    doubt : IsInDoubt state head rest o i
    doubt = all i left

    gate_is : (b : Bool) → IsSettled (other_file state.log) 0 c images b → slice_index (bytes_of c (other_file state.log)) 0 ≡ doubt.gate
    gate_is b s = ap (λ (l : List ℕ). get_or l 0 0) (sym (s.synced i left) ∙ doubt.is)

    one : (b : Bool) → IsSettled (other_file state.log) 0 c images b → IsSettledAs state head o b i
    one true s = doubt.new (sym (gate_is true s) ∙ s.is_open.0 (search rules))
    one false s = doubt.old (λ is. absurd (cc (s.is_open.1 (gate_is false s ∙ is))))

-- the first two parts of a preparation, as images and as runs
module _ {D : Type 0} (moment : D → ℕ) (left_since : D → ℕ → Image → Type 0) (state : SlotState) (plan : MadePlan) (made : IsMadeFor state plan) (c : Image)
    (ps : List Placed) (placed_is : ps ≡ plan.placed.items) (file' : Which) (file_is : file' ≡ other_file state.log)
    (old mid mid' new : Image → Type 0) (ready : Each old (IsPlanned state plan c))
    (first : Each mid (From (SlotsWritten (written_slots ps)) old)) where
  abbrev slots' : List ℕ
  slots' = written_slots plan.placed.items

  pub first_is : Each mid (From (SlotsWritten slots') old)
  first_is = subst (λ (qs : List Placed). Each mid (From (SlotsWritten (written_slots qs)) old)) placed_is first

  pub first_planned : Each mid (IsPlanned state plan c)
  first_planned i left = from_slots state plan made c old ready i (first_is i left)

  pub first_stand : Each mid (From (SlotsStand slots') old)
  first_stand i left = stand_slots state plan made c old i (first_is i left)

  pub first_run : (d d' : D) → LeavesOnly moment left_since d d' (From (SlotsWritten (written_slots ps)) old) → LeavesOnly moment left_since d d'
      (IsPlanned state plan c)
  first_run d d' run = weaker moment left_since d d' (From (SlotsWritten slots') old) (IsPlanned state plan c)
      (subst (λ (qs : List Placed). LeavesOnly moment left_since d d' (From (SlotsWritten (written_slots qs)) old)) placed_is run)
      (from_slots state plan made c old ready)

  module _ (second : Each mid' (From (GateMoved file') mid)) where
    pub second_is : Each mid' (From (GateMoved (other_file state.log)) mid)
    second_is = subst (λ (f : Which). Each mid' (From (GateMoved f) mid)) file_is second

    pub second_planned : Each mid' (IsPlanned state plan c)
    second_planned i left = from_gate state plan made c mid first_planned i (second_is i left)

    pub second_stand : Each mid' (From (SlotsStand slots') old)
    second_stand i left = stand_gate state plan made c old mid first_stand i (second_is i left)

    pub second_run : (d d' d'' : D) → LeavesOnly moment left_since d d' (From (SlotsWritten (written_slots ps)) old)
        → LeavesOnly moment left_since d' d'' (From (GateMoved file') mid) → LeavesOnly moment left_since d d'' (IsPlanned state plan c)
    second_run d d' d'' run run' =
        joined moment left_since d d' d'' (IsPlanned state plan c) (From (GateMoved (other_file state.log)) mid) (IsPlanned state plan c) (first_run d d' run)
        (subst (λ (f : Which). LeavesOnly moment left_since d' d'' (From (GateMoved f) mid)) file_is run') (λ i is. is)
        (from_gate state plan made c mid first_planned)

    module _ (k : Image) (closed : IsClosed file' k mid') (third : Each new (From (BehindGate file') mid')) where
      closed_is : IsClosed (other_file state.log) k mid'
      closed_is = subst (λ (f : Which). IsClosed f k mid') file_is closed

      pub third_is : Each new (From (BehindGate (other_file state.log)) mid')
      third_is = subst (λ (f : Which). Each new (From (BehindGate f) mid')) file_is third

      pub third_planned : Each new (IsPlanned state plan c)
      third_planned i left = from_behind state plan made c mid' k closed_is second_planned i (third_is i left)

      pub third_stand : Each new (From (SlotsStand slots') old)
      third_stand i left = stand_behind state plan made c old mid' second_stand i (third_is i left)

      pub third_run : (d d' d'' e : D) → LeavesOnly moment left_since d d' (From (SlotsWritten (written_slots ps)) old)
          → LeavesOnly moment left_since d' d'' (From (GateMoved file') mid) → LeavesOnly moment left_since d'' e (From (BehindGate file') mid')
          → LeavesOnly moment left_since d e (IsPlanned state plan c)
      third_run d d' d'' e run run' run'' =
          joined moment left_since d d'' e (IsPlanned state plan c) (From (BehindGate (other_file state.log)) mid') (IsPlanned state plan c)
          (second_run d d' d'' run run')
          (subst (λ (f : Which). LeavesOnly moment left_since d'' e (From (BehindGate f) mid')) file_is run'') (λ i is. is)
          (from_behind state plan made c mid' k closed_is second_planned)

      pub third_prepared : (k1 d : Image) (front : List ℕ) (rows : List Row) → front ≡ plan.front.items → rows ≡ plan.table → HasImages ps c k1
          → FileIs Slots k1.slots mid
          → SameOthers file' k1 k → Stands file' ((front ++ flat_map row_bytes rows) ++ 0 ∷ []) k d → FileIs file' (bytes_of d file') new
          → IsPrepared state plan c d new
      third_prepared k1 d front rows front_is rows_is images synced same stands written =
          prepared state plan made c mid mid' new k1 k d (subst (λ (qs : List Placed). HasImages qs c k1) placed_is images) synced
          (subst (λ (f : Which). SameOthers f k1 k) file_is same) closed_is second_is
          (subst (λ (f : Which). Stands f ((plan.front.items ++ flat_map row_bytes plan.table) ++ 0 ∷ []) k d) file_is
          (subst (λ (l : List ℕ). Stands file' ((l ++ flat_map row_bytes plan.table) ++ 0 ∷ []) k d) front_is
          (subst (λ (l : List Row). Stands file' ((front ++ flat_map row_bytes l) ++ 0 ∷ []) k d) rows_is stands)))
          (subst (λ (f : Which). FileIs f (bytes_of d f) new) file_is written) third_is
