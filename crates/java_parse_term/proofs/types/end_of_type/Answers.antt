use Rattle.std.proofs.Common.{rules, arith, length, ◌+◌}
use Rattle.std.proofs.lemmas.Grind.{common_steps}
use Rattle.java_parse_term.specs.Types.{scan, scan_step}
use Rattle.java_parse_term.proofs.Turns.{one_more}
use Rattle.java_parse_term.proofs.types.end_of_type.Goals as goal

pub loop-turn-preserved : goal.loop-turn-preserved
unfolding scan scan_step
loop-turn-preserved c =
    let e = one_more (λ n. scan c.args.toks.now n c.loop-turn.scan) (length c.args.toks.now + 2) c.loop-turn._turn (omega arith) c.loop-turn.invariant.same in
    first_of (search rules, grind (arith, common_steps))
