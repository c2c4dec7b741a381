use Rattle.std.proofs.Common.{arith}
use Rattle.refactor_app.proofs.Faults.{lexical_placed, left_out_placed, no_tree_placed}
use Rattle.refactor_app.proofs.lines.stop_line.Goals as goal

pub refused_in-requires-clause-name : goal.refused_in-requires-clause-name
refused_in-requires-clause-name c =
    let p = lexical_placed c.args.texts.now c.in-Lexical.rule c.in-Lexical.file c.in-Lexical.at c.requires.small (rw c.in-Lexical.is at c.requires.stopped) in
    omega (arith, p.low, c.requires.names)

pub refused_in-requires-clause-text : goal.refused_in-requires-clause-text
refused_in-requires-clause-text c = (lexical_placed c.args.texts.now c.in-Lexical.rule c.in-Lexical.file c.in-Lexical.at c.requires.small (rw c.in-Lexical.is at c.requires.stopped)).low

pub refused_in-requires-clause-within : goal.refused_in-requires-clause-within
refused_in-requires-clause-within c = (lexical_placed c.args.texts.now c.in-Lexical.rule c.in-Lexical.file c.in-Lexical.at c.requires.small (rw c.in-Lexical.is at c.requires.stopped)).within

pub refused_in-requires-in-LeftOut-clause-name : goal.refused_in-requires-in-LeftOut-clause-name
refused_in-requires-in-LeftOut-clause-name c =
    let p = left_out_placed c.args.texts.now c.in-LeftOut.rule c.in-LeftOut.file c.in-LeftOut.at c.requires.small (rw c.in-LeftOut.is at c.requires.stopped) in
    omega (arith, p.low, c.requires.names)

pub refused_in-requires-in-LeftOut-clause-text : goal.refused_in-requires-in-LeftOut-clause-text
refused_in-requires-in-LeftOut-clause-text c = (left_out_placed c.args.texts.now c.in-LeftOut.rule c.in-LeftOut.file c.in-LeftOut.at c.requires.small (rw c.in-LeftOut.is at c.requires.stopped)).low

pub refused_in-requires-in-LeftOut-clause-within : goal.refused_in-requires-in-LeftOut-clause-within
refused_in-requires-in-LeftOut-clause-within c = (left_out_placed c.args.texts.now c.in-LeftOut.rule c.in-LeftOut.file c.in-LeftOut.at c.requires.small (rw c.in-LeftOut.is at c.requires.stopped)).within

pub refused_in-requires-in-NoTree-clause-name : goal.refused_in-requires-in-NoTree-clause-name
refused_in-requires-in-NoTree-clause-name c =
    let p = no_tree_placed c.args.texts.now c.in-NoTree.file c.in-NoTree.at c.requires.small (rw c.in-NoTree.is at c.requires.stopped) in
    omega (arith, p.low, c.requires.names)

pub refused_in-requires-in-NoTree-clause-text : goal.refused_in-requires-in-NoTree-clause-text
refused_in-requires-in-NoTree-clause-text c = (no_tree_placed c.args.texts.now c.in-NoTree.file c.in-NoTree.at c.requires.small (rw c.in-NoTree.is at c.requires.stopped)).low

pub refused_in-requires-in-NoTree-clause-within : goal.refused_in-requires-in-NoTree-clause-within
refused_in-requires-in-NoTree-clause-within c = (no_tree_placed c.args.texts.now c.in-NoTree.file c.in-NoTree.at c.requires.small (rw c.in-NoTree.is at c.requires.stopped)).within
