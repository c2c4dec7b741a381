use Rattle.std.proofs.Common.{arith}
use Rattle.std.proofs.lemmas.Option.{slice_get_within}
use Rattle.override_rules.specs.Judged.{TypeBreaches}
use Rattle.override_rules.proofs.Firsts.{first_more, all_below}
use Rattle.override_rules.proofs.inherited.first_inherited.Goals as goal

pub loop-c-preserved : goal.loop-c-preserved
loop-c-preserved c = first_more (TypeBreaches c.args.w.now) c.loop-c.c c.loop-c.first c.in_ok-first_at_type.field-0 c.earlier-first.result c.loop-c.invariant c.in_ok-first_at_type.ensures c.earlier-first.ensures

pub returns : goal.returns
returns c =
    all_below (TypeBreaches c.args.w.now) c.loop-c.c c.loop-c.first
    (λ d b h. let within = slice_get_within c.args.w.now.types d h.1.0 h.1.1 in omega (arith, within, c.loop-c-test.false, c.len-c-end.ensures)) c.loop-c.invariant
