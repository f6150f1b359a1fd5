-- The lines of answers to queries have no newlines.
use Rattle.std.proofs.Common.{◌≡◌, Bool, true, false, length, IsTrue, List, refl, subst}
use Rattle.std.specs.Prelude.{if◌then◌else◌, nat_lt, Result, Ok, Err}
use Rattle.std.specs.FinMap as map
use Rattle.xml_model.specs.Forest.{Forest, IsForest}
use Rattle.xml_model.specs.Pyx.{Line, ArePlain, text_of}
use Rattle.xq_ast.specs.declared.code.Code.{Code}
use Rattle.xq_ast.specs.declared.code.Code.TheVariants.{ReplyTooLong}
use Rattle.xq_ast.specs.declared.tree.Expr.{Expr}
use Rattle.xq_ast.specs.GoodNames.{are_good_in}
use Rattle.xml_model.specs.declared.limits.TheConstants.{REPLY_BYTES_MAX}
use Rattle.xml_model.specs.Evaluation.{eval}
use Rattle.xml_model.specs.ItemLines.{lines_of}
use Rattle.xml_model.specs.Items.{Items, Made}
use Rattle.xml_model.specs.Statement.{Answer, lines, error, answer_of, said_by, query_answer}
use Rattle.xml_model.proofs.QueryTrees.{answers_plain}

same_lines : {xs ys : List Line} → ◌≡◌ {A = Answer} (lines xs) (lines ys) → xs ≡ ys
same_lines is = cc

module _ (F : Forest) (e : Expr) (forest : IsForest F) (good : IsTrue (are_good_in e)) where
  lines_plain : (all xs : List Line) → ArePlain xs → answer_of xs ≡ lines all → ArePlain all
  lines_plain all xs plain = by_length (nat_lt REPLY_BYTES_MAX (length (text_of xs)))
    where
      by_length : (long : Bool) → (if long then error ReplyTooLong else lines xs) ≡ lines all → ArePlain all
      by_length true is = cc
      by_length false is = subst ArePlain (same_lines is) plain

  said_plain : (all : List Line) (r : Result (Items × Made) Code) → eval F e ≡ r → said_by (map.get F) r ≡ lines all → ArePlain all
  said_plain all (Ok found) is says = lines_plain all (lines_of (map.get F) found.1 found.0) (answers_plain F e found.0 found.1 forest good is) says
  said_plain all (Err code) is says = cc

  -- the lines of an answer have no newlines
  pub plain_answer : (all : List Line) → query_answer F e ≡ lines all → ArePlain all
  plain_answer all = said_plain all (eval F e) refl
