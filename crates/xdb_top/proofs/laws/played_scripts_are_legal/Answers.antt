use Rattle.std.proofs.Common.{ap, ◌∙◌}
use Rattle.xdb_top.specs.Turns.{turns_of}
use Rattle.xdb_top.proofs.Turns.{closed_by_turns, all_had}
use Rattle.xdb_top.proofs.Whole.{all_closed}
use Rattle.xdb_top.proofs.laws.played_scripts_are_legal.Goals as goal

pub returns : goal.returns
returns c = λ B P order journal so_far played turns. all_closed B P journal so_far played
    (λ s. closed_by_turns s journal ∙ ap (turns_of s) turns ∙ all_had P order s)
