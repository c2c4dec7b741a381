use Rattle.std.proofs.Common.{◌+◌, length}
use Rattle.java_parse_decl.specs.Parse.{one_import, imports_end}
use Rattle.java_parse_decl.proofs.Turns.{many_same_turn, import_there}
use Rattle.java_parse_decl.proofs.units.imports.Goals as goal

pub loop-turn-preserved : goal.loop-turn-preserved
loop-turn-preserved c =
    many_same_turn c.args.source.now.text.now c.args.source.now.toks.now (one_import c.args.source.now.text.now c.args.source.now.toks.now) (length c.args.source.now.toks.now + 1) c.loop-turn._turn c.loop-turn-test.true _
    c.loop-turn.done c.add.new.self c.in_ok-one.one c.in_ok-add.ensures (imports_end c.args.source.now.text.now c.args.source.now.toks.now) c.loop-turn.invariant
    (import_there c.args.source.now.text.now c.args.source.now.toks.now c.loop-turn.done.next c.is_keyword.result c.is_keyword.ensures.value c.if-not-is_keyword.false) c.in_ok-one.ensures
