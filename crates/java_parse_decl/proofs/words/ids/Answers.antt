use Rattle.std.proofs.Common.{rules, arith, length}
use Rattle.std.proofs.lemmas.Grind.{common_steps}
use Rattle.java_parse_decl.specs.Parse.{ids}
use Rattle.java_parse_term.proofs.Turns.{one_more}
use Rattle.java_parse_decl.proofs.words.ids.Goals as goal

pub loop-turn-preserved : goal.loop-turn-preserved
unfolding ids
loop-turn-preserved c =
    let e = one_more (λ n. ids c.args.source.now.text.now c.args.source.now.toks.now c.args.mark n c.loop-turn.tree c.loop-turn.here) (length c.args.source.now.toks.now) c.loop-turn._turn (omega arith) c.loop-turn.invariant in
    first_of (search rules, grind (arith, common_steps))
