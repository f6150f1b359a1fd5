-- What a call on a workspace answers: the value and the workspace that are asked for, or the refusal. Want of memory may
-- stand in the place of either.
use Rattle.std.specs.Prelude.{◌≡◌, ℕ, ◌+◌, ◌<◌, ◌⊎◌, List, Option, Some, None, IsSome, Result, Ok, Err, IsTrue}
use Rattle.page_bytes.specs.declared.ids.Space.{Space}
use Rattle.page_bytes.specs.declared.ids.PageId.{PageId}
use Rattle.page_bytes.specs.declared.end.PageEnd.{PageEnd}
use Rattle.page_bytes.specs.declared.end.PageEnd.TheVariants.{Need, Spent, NoMemory}
use Rattle.page_bytes.specs.Known.{Known, is_unknown}
use Rattle.page_bytes.specs.Head.{LAST_PAGE}
use Rattle.page_bytes.specs.Links.{page_in}
use Rattle.page_bytes.specs.Seen.{PagesByNumber, next_of}
use Rattle.page_bytes.specs.Work.{Work}

-- where a value is asked for, that value with its workspace; where a refusal is, that refusal and never a value;
-- in either case memory may be wanting instead
abbrev pub Answers : {X : Type 0} → Result (X × Work) PageEnd → Result X PageEnd → Work → Type 0
Answers (Ok asked) (Ok x) w = (x ≡ asked.0) × (w ≡ asked.1)
Answers (Ok asked) (Err e) w = e ≡ NoMemory
Answers (Err end) (Ok x) w = ⊥
Answers (Err end) (Err e) w = (e ≡ end) ⊎ (e ≡ NoMemory)

-- a refusal, or else a value
abbrev pub unless : {X : Type 0} → Option PageEnd → X → Result X PageEnd
unless (Some end) x = Err end
unless None x = Ok x

-- a need of a page of the space: the map `all`, of which a part is known, has it, and nothing is known of it
abbrev pub IsNeed : Known → (PageId → Option (List ℕ)) → Space → PageEnd → Type 0
IsNeed k all space end =
    (n : ℕ) × ((end ≡ Need (page_in space n)) × IsTrue (is_unknown k (page_in space n)) × IsSome (all (page_in space n)))

-- why a call may stop that finds no fault: such a need, or want of memory
abbrev pub IsStop : Known → (PageId → Option (List ℕ)) → Space → PageEnd → Type 0
IsStop k all space end = (end ≡ NoMemory) ⊎ IsNeed k all space end

-- the page numbers are spent: the head's next one is too near the last for the `most` new pages that the call may make
abbrev pub IsSpent : PagesByNumber → ℕ → PageEnd → Type 0
IsSpent pages most end = (end ≡ Spent LAST_PAGE) × (LAST_PAGE < next_of pages + most)

-- a value, or such a need
abbrev pub GivesOrNeeds : {X : Type 0} → Known → (PageId → Option (List ℕ)) → Space → Result X PageEnd → X → Type 0
GivesOrNeeds k all space r x = (r ≡ Ok x) ⊎ ((end : PageEnd) × ((r ≡ Err end) × IsNeed k all space end))
