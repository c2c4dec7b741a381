use Rattle.std.proofs.Common.{subst}
use Rattle.alike_lookups.specs.Lookups.{OthersFindAlike, sides}
use Rattle.alike_lookups.proofs.Alike.{calls_told}
use Rattle.alike_lookups.proofs.Ups.{ups_kept}
use Rattle.alike_lookups.proofs.calls.calls_found.Goals as goal

pub all_find_alike-requires-clause-ups : goal.all_find_alike-requires-clause-ups
all_find_alike-requires-clause-ups c = ups_kept (sides c.args.old.now c.args.new.now c.args.map.now c.args.strict) (c.is_whole.ensures c.if-not-is_whole.false) (c.are_ups_kept.ensures c.if-not-are_ups_kept.false)

pub returns : goal.returns
returns c h =
    let all = c.all_find_alike.ensures c.if-not-all_find_alike.false in
    calls_told c.args.old.now c.args.new.now c.args.map.now c.args.others.now c.args.strict (c.is_whole.ensures c.if-not-is_whole.false) all
    (subst (OthersFindAlike (sides c.args.old.now c.args.new.now c.args.map.now c.args.strict)) c.as_slice.ensures (c.others_find_alike.ensures h all))
