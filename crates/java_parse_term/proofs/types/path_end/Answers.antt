use Rattle.std.proofs.Common.{rules, arith, length}
use Rattle.std.proofs.lemmas.Grind.{common_steps}
use Rattle.java_parse_term.specs.Types.{path_end}
use Rattle.java_parse_term.proofs.Turns.{one_more}
use Rattle.java_parse_term.proofs.types.path_end.Goals as goal

pub loop-turn-preserved : goal.loop-turn-preserved
unfolding path_end
loop-turn-preserved c =
    let e = one_more (λ n. path_end c.args.toks.now n c.loop-turn.here) (length c.args.toks.now) c.loop-turn._turn (omega arith) c.loop-turn.invariant in
    first_of (search rules, grind (arith, common_steps))
