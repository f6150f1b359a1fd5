-- Calls that have nothing to do with texts: what they keep off.
use Rattle.std.specs.Prelude.{◌≡◌, ℕ, false}
use Rattle.page_bytes.specs.Frames.{Call, Keeps, before}
use Rattle.page_bytes.specs.Own.{HasNoField, AreBeside}
use Rattle.page_bytes.specs.Texts.{TEXT_KIND}
use Rattle.text_pages.specs.Meaning.{IsTextPage}

-- The call keeps to its own, which has no page of the texts' kind, no field of such a page, and nothing of the head's kind and of
-- the page that it tries first.
pub record SparesTexts (c : Call) : Type 0 where
  pub keeps : Keeps c
  pub kind : c.own.is_kind TEXT_KIND ≡ false
  pub untouched : (n : ℕ) → IsTextPage (before c) n → HasNoField c.own.fields n
  pub head : AreBeside c.own.fields 0 0 1
  pub first : AreBeside c.own.fields 0 26 8
