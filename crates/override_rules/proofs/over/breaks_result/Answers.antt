use Rattle.std.proofs.Common.{subst}
use Rattle.seen_methods.specs.Seen.{TellsResult}
use Rattle.override_rules.proofs.Judging.{breaks_told}
use Rattle.override_rules.proofs.Seen.{result_of_world}
use Rattle.override_rules.proofs.over.breaks_result.Goals as goal

pub returns-in_default : goal.returns-in_default
returns-in_default c =
    let none = subst (TellsResult c.args.w.now c.args.c c.args.m) c.in_default.is c.in_ok-low.ensures in
    (λ e. absurd (cc e), λ h. absurd (none h.0 h.2))

pub returns-in_default-2 : goal.returns-in_default-2
returns-in_default-2 c =
    let none = subst (TellsResult c.args.w.now c.args.c c.args.k) c.in_default-2.is c.in_ok-high.ensures in
    (λ e. absurd (cc e), λ h. absurd (none h.1 h.3))

pub suits-requires-clause-types : goal.suits-requires-clause-types
suits-requires-clause-types c =
    let low = subst (TellsResult c.args.w.now c.args.c c.args.m) c.in-Some.is c.in_ok-low.ensures in
    let high = subst (TellsResult c.args.w.now c.args.c c.args.k) c.in-Some-2.is c.in_ok-high.ensures in
    (result_of_world c.args.w.now c.requires.sound c.requires.typed c.args.c c.args.m c.in-Some.low low.0, result_of_world c.args.w.now c.requires.sound c.requires.typed c.args.c c.args.k c.in-Some-2.high high.0)

pub returns : goal.returns
returns c =
    breaks_told c.args.w.now c.args.c c.args.m c.args.k c.in-Some.low c.in-Some-2.high c.suits.result (subst (TellsResult c.args.w.now c.args.c c.args.m) c.in-Some.is c.in_ok-low.ensures)
    (subst (TellsResult c.args.w.now c.args.c c.args.k) c.in-Some-2.is c.in_ok-high.ensures) c.suits.ensures
