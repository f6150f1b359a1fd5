use Rattle.std.proofs.Common.{◌≡◌, ◌++◌, drop}
use Rattle.xml_model.specs.Constructors as constructors
use Rattle.xq_values.specs.Words as words
use Rattle.xq_values.proofs.text.spaced.Given as goal

abbrev pub invariant-loop-atom : goal.invariant-loop-atom
invariant-loop-atom l = l.all ++ words.all_words l.later (drop l.atom-index l.values) ≡ constructors.spaced l.values
