use Rattle.std.proofs.Common.{sym, subst}
use Rattle.alike_lookups.specs.Lookups.{FindsAlike, sides}
use Rattle.alike_lookups.proofs.Alike.{every_alike}
use Rattle.alike_lookups.proofs.Whole.{stand_in_alike}
use Rattle.alike_lookups.proofs.calls.other_finds_alike.Goals as goal

pub returns-then-goes : goal.returns-then-goes
returns-then-goes c h all =
    let x = (sides c.args.old.now c.args.new.now c.args.map.now c.args.strict) in
    subst (FindsAlike x c.args.method) (sym (c.goes.ensures.0 c.if-goes.true)) (every_alike x c.requires.whole all c.args.method)

pub returns-then-is_of_same_family : goal.returns-then-is_of_same_family
returns-then-is_of_same_family c h all =
    let x = (sides c.args.old.now c.args.new.now c.args.map.now c.args.strict) in
    stand_in_alike x c.args.method c.args.other (c.is_of_same_family.ensures c.if-is_of_same_family.true) (every_alike x c.requires.whole all c.args.method)
