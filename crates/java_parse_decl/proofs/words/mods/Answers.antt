use Rattle.std.proofs.Common.{rules, arith, length}
use Rattle.std.proofs.lemmas.Grind.{common_steps}
use Rattle.java_parse_decl.specs.Parse.{mods_at}
use Rattle.java_parse_term.proofs.Turns.{one_more}
use Rattle.java_parse_decl.proofs.words.mods.Goals as goal

pub loop-turn-preserved : goal.loop-turn-preserved
unfolding mods_at
loop-turn-preserved c =
    let e = one_more (λ n. mods_at c.args.source.now.text.now c.args.source.now.toks.now n c.loop-turn.done.tree c.loop-turn.done.next) (length c.args.source.now.toks.now) c.loop-turn._turn (omega arith) c.loop-turn.invariant in
    first_of (search rules, grind (arith, common_steps))
