-- The tables of codes that are one word, of refusals and of kinds of number.
use Rattle.std.proofs.Common.{◌≡◌, ◌≢◌, ℕ, suc, ◌<◌, List, ◌∷◌, length, get_or, drop, drop-cons, subst, refl}
use Rattle.xq_ast.specs.CodeText.{code_text, refusal_name, kind_name, HasNoMark}
use Rattle.xq_ast.specs.CodeWords.{IsWord, AreWords, Misses}
use Rattle.xq_ast.specs.declared.code_reading.TheConstants.{WORDS, REFUSALS, KINDS}
use Rattle.xq_ast.specs.declared.refusal.PyxRefusal.{PyxRefusal}
use Rattle.xq_ast.specs.declared.refusal.PyxRefusal.TheVariants as refusals
use Rattle.xq_ast.specs.declared.code.SpentKind.{SpentKind}
use Rattle.xq_ast.specs.declared.code.SpentKind.TheVariants as kinds
use Rattle.xq_ast.specs.declared.code.Code.{Code}
use Rattle.xq_ast.specs.declared.code.Code.TheVariants.{XPST0003, XPST0008, XPST0017, XPDY0002, XPTY0004, XPTY0019, XPTY0020, XQTY0024, XQDY0025, FOAR0001, FOAR0002, FODC0002, FORG0001, FORG0006, TooLong, NestedTooDeep, BadName, NoTransaction, InTransaction, ReadOnly, Updating, Exists, TooDeep, TooManyNodes, TooMuchText, TooManyItems, ReplyTooLong, NoMemory, Failed, InDoubt, Pyx, Spent, Damaged}

-- all codes of the table are words, whose marks go from 0 to 0
pub words-AreWords : AreWords WORDS
words-AreWords = (
  tt,
  tt,
  (
    tt,
    tt,
    (
      tt,
      tt,
      (
        tt,
        tt,
        (
          tt,
          tt,
          (
            tt,
            tt,
            (
              tt,
              tt,
              (
                tt,
                tt,
                (
                  tt,
                  tt,
                  (
                    tt,
                    tt,
                    (
                      tt,
                      tt,
                      (
                        tt,
                        tt,
                        (
                          tt,
                          tt,
                          (
                            tt,
                            tt,
                            (
                              tt,
                              tt,
                              (
                                tt,
                                tt,
                                (
                                  tt,
                                  tt,
                                  (
                                    tt,
                                    tt,
                                    (
                                      tt,
                                      tt,
                                      (tt, tt, (tt, tt, (tt, tt, (tt, tt, (tt, tt, (tt, tt, (tt, tt, (tt, tt, (tt, tt, (tt, refl, (tt, refl, tt))))))))))),
                                    ),
                                  ),
                                ),
                              ),
                            ),
                          ),
                        ),
                      ),
                    ),
                  ),
                ),
              ),
            ),
          ),
        ),
      ),
    ),
  ),
)

-- a text that misses the table is no code's that is one word
pub word_missed : (text : List ℕ) → Misses code_text text WORDS → (c : Code) → IsWord c → code_text c ≢ text
word_missed text m XPST0003 is = m.0
word_missed text m XPST0008 is = m.1.0
word_missed text m XPST0017 is = m.1.1.0
word_missed text m XPDY0002 is = m.1.1.1.0
word_missed text m XPTY0004 is = m.1.1.1.1.0
word_missed text m XPTY0019 is = m.1.1.1.1.1.0
word_missed text m XPTY0020 is = m.1.1.1.1.1.1.0
word_missed text m XQTY0024 is = m.1.1.1.1.1.1.1.0
word_missed text m XQDY0025 is = m.1.1.1.1.1.1.1.1.0
word_missed text m FOAR0001 is = m.1.1.1.1.1.1.1.1.1.0
word_missed text m FOAR0002 is = m.1.1.1.1.1.1.1.1.1.1.0
word_missed text m FODC0002 is = m.1.1.1.1.1.1.1.1.1.1.1.0
word_missed text m FORG0001 is = m.1.1.1.1.1.1.1.1.1.1.1.1.0
word_missed text m FORG0006 is = m.1.1.1.1.1.1.1.1.1.1.1.1.1.0
word_missed text m TooLong is = m.1.1.1.1.1.1.1.1.1.1.1.1.1.1.0
word_missed text m NestedTooDeep is = m.1.1.1.1.1.1.1.1.1.1.1.1.1.1.1.0
word_missed text m BadName is = m.1.1.1.1.1.1.1.1.1.1.1.1.1.1.1.1.0
word_missed text m NoTransaction is = m.1.1.1.1.1.1.1.1.1.1.1.1.1.1.1.1.1.0
word_missed text m InTransaction is = m.1.1.1.1.1.1.1.1.1.1.1.1.1.1.1.1.1.1.0
word_missed text m ReadOnly is = m.1.1.1.1.1.1.1.1.1.1.1.1.1.1.1.1.1.1.1.0
word_missed text m Updating is = m.1.1.1.1.1.1.1.1.1.1.1.1.1.1.1.1.1.1.1.1.0
word_missed text m Exists is = m.1.1.1.1.1.1.1.1.1.1.1.1.1.1.1.1.1.1.1.1.1.0
word_missed text m TooDeep is = m.1.1.1.1.1.1.1.1.1.1.1.1.1.1.1.1.1.1.1.1.1.1.0
word_missed text m TooManyNodes is = m.1.1.1.1.1.1.1.1.1.1.1.1.1.1.1.1.1.1.1.1.1.1.1.0
word_missed text m TooMuchText is = m.1.1.1.1.1.1.1.1.1.1.1.1.1.1.1.1.1.1.1.1.1.1.1.1.0
word_missed text m TooManyItems is = m.1.1.1.1.1.1.1.1.1.1.1.1.1.1.1.1.1.1.1.1.1.1.1.1.1.0
word_missed text m ReplyTooLong is = m.1.1.1.1.1.1.1.1.1.1.1.1.1.1.1.1.1.1.1.1.1.1.1.1.1.1.0
word_missed text m NoMemory is = m.1.1.1.1.1.1.1.1.1.1.1.1.1.1.1.1.1.1.1.1.1.1.1.1.1.1.1.0
word_missed text m (Failed mark) is = m.1.1.1.1.1.1.1.1.1.1.1.1.1.1.1.1.1.1.1.1.1.1.1.1.1.1.1.1.0
word_missed text m (InDoubt mark) is = m.1.1.1.1.1.1.1.1.1.1.1.1.1.1.1.1.1.1.1.1.1.1.1.1.1.1.1.1.1.0
word_missed text m (Pyx why line) is = absurd is
word_missed text m (Spent kind number) is = absurd is
word_missed text m (Damaged commit ordinal page) is = absurd is

-- the next of the items that are left is a word
pub next_is_word : (cs : List Code) (i : ℕ) (d : Code) → i < length cs → AreWords (drop i cs) → IsWord (get_or cs i d) × HasNoMark (get_or cs i d)
next_is_word cs i d less are =
    let e : drop i cs ≡ get_or cs i d ∷ drop (suc i) cs = drop-cons cs i d less in
    let both : AreWords (get_or cs i d ∷ drop (suc i) cs) = subst AreWords e are in
    (both.0, both.1)

-- a text that misses the table of refusals is the name of none
pub refusal_missed : (text : List ℕ) → Misses refusal_name text REFUSALS → (why : PyxRefusal) → refusal_name why ≢ text
refusal_missed text m refusals.BadLine = m.0
refusal_missed text m refusals.BadName = m.1.0
refusal_missed text m refusals.EndMismatch = m.1.1.0
refusal_missed text m refusals.AttributeLate = m.1.1.1.0
refusal_missed text m refusals.AttributeTwice = m.1.1.1.1.0
refusal_missed text m refusals.TooDeep = m.1.1.1.1.1.0
refusal_missed text m refusals.TooManyNodes = m.1.1.1.1.1.1.0
refusal_missed text m refusals.TooMuchText = m.1.1.1.1.1.1.1.0
refusal_missed text m refusals.Unclosed = m.1.1.1.1.1.1.1.1.0

-- a text that misses the table of kinds is the name of none
pub kind_missed : (text : List ℕ) → Misses kind_name text KINDS → (kind : SpentKind) → kind_name kind ≢ text
kind_missed text m kinds.Commit = m.0
kind_missed text m kinds.Generation = m.1.0
kind_missed text m kinds.Page = m.1.1.0
kind_missed text m kinds.Slot = m.1.1.1.0
kind_missed text m kinds.Log = m.1.1.1.1.0
