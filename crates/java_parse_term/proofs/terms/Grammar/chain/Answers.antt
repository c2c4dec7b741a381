use Rattle.std.proofs.Common.{rules, arith, ◌+◌}
use Rattle.std.proofs.lemmas.Grind.{common_steps}
use Rattle.java_tree.specs.View.{plain}
use Rattle.java_parse_term.specs.Seen.{seen}
use Rattle.java_parse_term.specs.Parse.{chain, parse}
use Rattle.java_parse_term.proofs.Turns.{one_more}
use Rattle.java_parse_term.proofs.terms.Grammar.chain.Goals as goal

pub loop-turn-preserved : goal.loop-turn-preserved
unfolding chain
loop-turn-preserved g c =
    let e = one_more (λ n. chain c.args.self.now.text.now c.args.self.now.toks.now c.args.self.now.limit (parse c.args.self.now.text.now c.args.self.now.toks.now c.args.self.now.limit) n c.args.at (seen plain c.loop-turn.left))
    (c.args.self.now.limit + 1) c.loop-turn._turn (omega arith) c.loop-turn.invariant in
    first_of (search rules, grind (arith, common_steps))
