use Rattle.std.proofs.Common.{◌∙◌, ap}
use Rattle.command_words.specs.Names.{folder_of}
use Rattle.command_words.proofs.Paths.{all_of, folder_at_slash, folder_at_other}
use Rattle.command_words.proofs.names.folder.Goals as goal
use Rattle.command_words.proofs.names.folder.Goals.{then-b-eq47, else-b-eq47}

pub loop-at-preserved : goal.loop-at-preserved
loop-at-preserved c =
    elim c.if-b-eq47.branch [
      | then-b-eq47 w ↦ folder_at_slash c.args.name.now c.loop-at.at c.if-b-eq47.end c.loop-at-test.true w.if-b-eq47.true w.end-is
      | else-b-eq47 w ↦ folder_at_other c.args.name.now c.loop-at.at c.loop-at.end c.if-b-eq47.end c.loop-at-test.true w.if-b-eq47.false w.end-is c.loop-at.invariant
    ]

pub returns : goal.returns
returns c = c.loop-at.invariant.1 ∙ ap folder_of (all_of c.args.name.now c.loop-at.at c.loop-at-test.false)
