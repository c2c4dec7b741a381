use Rattle.std.proofs.Common.{ap, ◌∙◌, codes}
use Rattle.command_words.specs.Table.{before, behind}
use Rattle.command_words.proofs.RuleLemmas.{same_parts}
use Rattle.command_words.proofs.table.Sections.of.Goals as goal

pub returns : goal.returns
returns c =
    same_parts _ _ _ _ _ _ _ _ c.split_at_mark-files.ensures.front c.split_at_mark-files.ensures.found
    (c.split_at_mark-names.ensures.front ∙ ap (before (codes "+")) c.split_at_mark-files.ensures.back)
    (c.split_at_mark-names.ensures.back ∙ ap (behind (codes "+")) c.split_at_mark-files.ensures.back)
