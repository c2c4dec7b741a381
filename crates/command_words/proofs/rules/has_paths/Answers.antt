use Rattle.command_words.specs.Asked.{parts_in}
use Rattle.command_words.specs.Scan.{AreAllPaths}
use Rattle.std.proofs.Common.{false, refl}
use Rattle.command_words.proofs.RuleLemmas.{paths_are, paths_not, fails, holds}
use Rattle.command_words.proofs.rules.has_paths.Goals as goal

pub returns-then-not-are_all_paths : goal.returns-then-not-are_all_paths
returns-then-not-are_all_paths c =
    paths_not c.args.command (parts_in c.args.words.now) false refl (fails c.are_all_paths.result (AreAllPaths c.args.command (parts_in c.args.words.now)) c.if-not-are_all_paths.true c.are_all_paths.ensures)

pub returns : goal.returns
returns c =
    paths_are c.args.command (parts_in c.args.words.now) c.in_ok-distinct.distinct
    (holds c.are_all_paths.result (AreAllPaths c.args.command (parts_in c.args.words.now)) c.if-not-are_all_paths.false c.are_all_paths.ensures) c.in_ok-distinct.ensures
