use Rattle.std.proofs.Common.{◌+◌, sym, subst, arith}
use Rattle.std.specs.Prelude.{slice_index_or as get_or}
use Rattle.std.proofs.lemmas.Option.{slice_get_within}
use Rattle.method_ties.specs.declared.Meeting.{Meeting}
use Rattle.override_rules.specs.Judged.{IsLowest}
use Rattle.override_rules.proofs.Judging.{PairOf, pair_here, pairs_all}
use Rattle.override_rules.proofs.Listed.{item_or, contains_at}
use Rattle.override_rules.proofs.Numbers.{UpTo, lowest_more}
use Rattle.override_rules.proofs.inherited.lowest_met.Goals as goal

pub lowest_of_pair-requires-clause-met : goal.lowest_of_pair-requires-clause-met
lowest_of_pair-requires-clause-met c =
    let none : Meeting = record { lower = 0; upper = 0 } in
    let pairs = c.args.meetings.now in
    let i = c.loop-pair.pair-index in
    let p : Meeting = get_or pairs i none in
    (c.requires.meetings p.lower p.upper).0 (contains_at pairs i p (item_or pairs i none c.loop-pair-test.true))

pub loop-pair-preserved : goal.loop-pair-preserved
loop-pair-preserved c =
    let none : Meeting = record { lower = 0; upper = 0 } in
    let pairs = c.args.meetings.now in
    let i = c.loop-pair.pair-index in
    let p : Meeting = get_or pairs i none in
    let each = PairOf c.args.w.now c.args.c pairs in
    let here = pair_here c.args.w.now c.args.c pairs i p c.in_ok-lowest_of_pair.field-0 (item_or pairs i none c.loop-pair-test.true) c.in_ok-lowest_of_pair.ensures in
    subst (IsLowest (UpTo (i + 1) each)) (sym c.lower-lowest.ensures) (lowest_more each i c.loop-pair.lowest c.in_ok-lowest_of_pair.field-0 c.loop-pair.invariant here)

pub returns : goal.returns
returns c =
    let pairs = c.args.meetings.now in
    pairs_all c.args.w.now c.args.c pairs c.loop-pair.pair-index c.loop-pair.lowest c.requires.meetings
    (λ j p at. let within = slice_get_within pairs j p at in (omega (arith, within, c.loop-pair-test.false), contains_at pairs j p at)) c.loop-pair.invariant
