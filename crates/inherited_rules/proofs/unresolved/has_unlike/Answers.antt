use Rattle.std.proofs.Common.{refl, get_or}
use Rattle.std.proofs.lemmas.Option.{slice_get-get_or}
use Rattle.inherited_rules.proofs.Judged.{seen_none, seen_next, seen_unlike, seen_pair, seen_like}
use Rattle.inherited_rules.proofs.unresolved.has_unlike.Goals as goal

pub loop-m-init : goal.loop-m-init
loop-m-init c = seen_none c.args.w.now c.args.c c.args.methods.now c.new-results.result (c.new-results.ensures.kept c.args.w.now) c.new-results.ensures.none

pub add_result-requires-clause-kept : goal.add_result-requires-clause-kept
add_result-requires-clause-kept c = c.loop-m.invariant.kept

pub returns-then-branch : goal.returns-then-branch
returns-then-branch c =
    let ms = c.args.methods.now in
    let i = c.loop-m.m-index in
    (λ h. seen_unlike c.args.w.now c.args.c ms i (get_or ms i 0) c.loop-m.results (slice_get-get_or ms i 0 c.loop-m-test.true) c.loop-m.invariant (c.in_ok-add_result.ensures.yes c.if-branch.true), λ h. refl)

pub loop-m-preserved : goal.loop-m-preserved
loop-m-preserved c =
    let ms = c.args.methods.now in
    let i = c.loop-m.m-index in
    seen_next c.args.w.now c.args.c ms i (get_or ms i 0) c.loop-m.results c.add_result.new.results (slice_get-get_or ms i 0 c.loop-m-test.true) c.loop-m.invariant
    (c.in_ok-add_result.ensures.no (λ yes. cc (yes, c.if-branch.false)))

pub returns : goal.returns
returns c =
    let ms = c.args.methods.now in
    let i = c.loop-m.m-index in
    (λ h. seen_pair c.args.w.now c.args.c ms i c.loop-m.results c.loop-m.invariant (c.has_unlike-found.ensures.0 h), λ h. c.has_unlike-found.ensures.1 (seen_like c.args.w.now c.args.c ms i c.loop-m.results c.loop-m-test.false c.loop-m.invariant h))

pub has_unlike-found-requires-clause-kept : goal.has_unlike-found-requires-clause-kept
has_unlike-found-requires-clause-kept c = c.loop-m.invariant.kept
