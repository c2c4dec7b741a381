use Rattle.std.proofs.Common.{rules, arith, length, map}
use Rattle.std.proofs.lemmas.Grind.{common_steps}
use Rattle.java_tree.specs.View.{plain}
use Rattle.java_parse_term.specs.Parse.{more, parse}
use Rattle.java_parse_term.proofs.Turns.{one_more}
use Rattle.java_parse_term.proofs.terms.Grammar.more.Goals as goal

pub loop-turn-preserved : goal.loop-turn-preserved
unfolding more
loop-turn-preserved g c =
    let e = one_more (λ n. more c.args.self.now.text.now c.args.self.now.toks.now c.args.self.now.limit (parse c.args.self.now.text.now c.args.self.now.toks.now c.args.self.now.limit) c.args.row n (map plain c.loop-turn.tree) c.loop-turn.depth c.loop-turn.at)
    (length c.args.self.now.toks.now) c.loop-turn._turn (omega arith) c.loop-turn.invariant in
    first_of (search rules, grind (arith, common_steps))
