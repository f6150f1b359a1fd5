-- What is seen of the pages of a set once one page is written or freed, and which pages are in it.
use Rattle.std.proofs.Common.{◌≡◌, ◌≢◌, ℕ, ◌<◌, Bool, true, List, [], ◌∷◌, length, slice_index, Option, sym, ◌∙◌, subst, IsTrue, arith}
use Rattle.page_bytes.specs.declared.ids.Space.{Space}
use Rattle.page_bytes.specs.declared.ids.PageId.{PageId}
use Rattle.page_bytes.specs.Known.{Known, is_there}
use Rattle.page_bytes.specs.Links.{page_in, asked}
use Rattle.page_bytes.specs.Seen.{PagesByNumber, seen, bytes, only}
use Rattle.page_bytes.specs.Texts.{TEXT_KIND}
use Rattle.page_bytes.specs.Work.{Work, with_page, without_page, first_bytes}
use Rattle.page_bytes.proofs.Among.{bytes-only, bytes-in, in-bytes}
use Rattle.page_bytes.proofs.Askings.{Gives, asked-is}
use Rattle.page_bytes.proofs.SeenPages.{seen-written, seen-beside, seen-first, seen-freed, seen-freed_beside}
use Rattle.text_pages.specs.Meaning.{IsTextPage}

-- what is seen of the pages of a set
abbrev pub among : (ℕ → Bool) → Known → (PageId → Option (List ℕ)) → Space → PagesByNumber
among set k all space = only set (seen k all space)

-- a text page is in the set
pub text_in : (set : ℕ → Bool) (pages : PagesByNumber) (n : ℕ) → IsTextPage (only set pages) n → set n ≡ true
text_in set pages n is = in-bytes set pages n (some (bytes (only set pages) n) is)
  where
    some : (l : List ℕ) → slice_index l 0 ≡ TEXT_KIND → 0 < length l
    some [] is = let none : 0 ≡ 5 = is in absurd (omega (arith, none))
    some (x ∷ l) is = omega arith

-- and so is a page of 4,096 bytes
pub long_in : (set : ℕ → Bool) (pages : PagesByNumber) (n : ℕ) → length (bytes (only set pages) n) ≡ 4096 → set n ≡ true
long_in set pages n long = in-bytes set pages n (omega (arith, long))

module _ (set : ℕ → Bool) where
  -- a page of the set that is written is seen with the bytes written
  pub among-written : (w : Work) (all : PageId → Option (List ℕ)) (space : Space) (n : ℕ) (b : List ℕ) → set n ≡ true
      → bytes (among set (with_page w (page_in space n) b).now all space) n ≡ b
  among-written w all space n b is = bytes-in set (seen (with_page w (page_in space n) b).now all space) n is ∙ seen-written w all space n b

  -- every other page is seen as it was where one is written
  pub among-beside : (w : Work) (all : PageId → Option (List ℕ)) (space : Space) (n q : ℕ) (b : List ℕ) → q ≢ n
      → bytes (among set (with_page w (page_in space n) b).now all space) q ≡ bytes (among set w.now all space) q
  among-beside w all space n q b differ =
      bytes-only set (seen w.now all space) (seen (with_page w (page_in space n) b).now all space) q (seen-beside w all space n q b differ)

  -- a page of the set that is there is seen with the bytes that an edit begins with
  pub among-first : (k : Known) (all : PageId → Option (List ℕ)) (space : Space) (n : ℕ) → set n ≡ true → IsTrue (is_there k (page_in space n))
      → bytes (among set k all space) n ≡ first_bytes k (page_in space n)
  among-first k all space n is there = bytes-in set (seen k all space) n is ∙ seen-first k all space n there

  -- a page of the set that is freed is seen without bytes
  pub among-freed : (w : Work) (all : PageId → Option (List ℕ)) (space : Space) (n : ℕ) → set n ≡ true
      → bytes (among set (without_page w (page_in space n)).now all space) n ≡ []
  among-freed w all space n is = bytes-in set (seen (without_page w (page_in space n)).now all space) n is ∙ seen-freed w all space n

  -- every other page is seen as it was where one is freed
  pub among-freed_beside : (w : Work) (all : PageId → Option (List ℕ)) (space : Space) (n q : ℕ) → q ≢ n
      → bytes (among set (without_page w (page_in space n)).now all space) q ≡ bytes (among set w.now all space) q
  among-freed_beside w all space n q differ =
      bytes-only set (seen w.now all space) (seen (without_page w (page_in space n)).now all space) q (seen-freed_beside w all space n q differ)

  -- a page of the set that has bytes is given, or it is needed
  pub asked-among : (k : Known) (all : PageId → Option (List ℕ)) (space : Space) (from : PageId) (n : ℕ) → 0 < length (bytes (among set k all space) n)
      → Gives k all space (asked k from (page_in space n)) (bytes (among set k all space) n) (IsTrue (is_there k (page_in space n)))
  asked-among k all space from n some =
      let same = bytes-in set (seen k all space) n (in-bytes set (seen k all space) n some) in
      subst (λ b. Gives k all space (asked k from (page_in space n)) b (IsTrue (is_there k (page_in space n)))) (sym same)
      (asked-is k all space from n (subst (λ b. 0 < length b) same some))
