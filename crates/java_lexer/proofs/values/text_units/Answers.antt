use Rattle.std.proofs.Common.{◌-◌, arith, take, drop, length}
use Rattle.std.proofs.lemmas.List.{take_rest}
use Rattle.java_lexer.proofs.ValueLemmas.{units_turn}
use Rattle.java_lexer.proofs.values.text_units.Goals as goal

pub loop-rest-preserved : goal.loop-rest-preserved
loop-rest-preserved c =
    rw c.after-rest-in-len1-up.ensures
    (units_turn c.args.bytes.now c.loop-rest.units c.push_first.new.units c.loop-rest.rest.now (take (length c.loop-rest.rest.now - 1) (drop 1 c.loop-rest.rest.now)) c.in_ok-len.len
    (take_rest c.loop-rest.rest.now 1) (omega (arith, c.in-len1-up.len_at_least)) c.loop-rest.invariant c.in_ok-len.ensures)
