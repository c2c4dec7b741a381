use Rattle.std.proofs.Common.{◌≡◌, true, false, nat_eq, refl, sym, ap, ◌∙◌, arith, get_or}
use Rattle.std.specs.List.{list_any}
use Rattle.std.proofs.lemmas.Option.{slice_get-get_or}
use Rattle.method_ties.proofs.Firsts.{at_contains}
use Rattle.inherited_rules.proofs.Judged.{judged_next, no_pair}
use Rattle.inherited_rules.proofs.results.has_unresolved_pair.Goals as goal

pub loop-m-init : goal.loop-m-init
loop-m-init c = (
  λ m h. let never : true ≡ false = sym h ∙ ap (list_any (nat_eq m)) c.new-judged.ensures.empty in absurd (cc never),
  λ x h. let lt = h.1 in absurd (omega (arith, lt)),
)

pub returns-then-branch : goal.returns-then-branch
returns-then-branch c = (λ h. c.in_ok-judge.ensures.yes c.args.methods.now c.requires.table c.if-branch.true, λ h. refl)

pub loop-m-preserved : goal.loop-m-preserved
loop-m-preserved c =
    let ms = c.args.methods.now in
    let i = c.loop-m.m-index in
    let m = get_or ms i 0 in
    let at = slice_get-get_or ms i 0 c.loop-m-test.true in
    let both = c.in_ok-judge.ensures.no ms c.requires.table (at_contains ms i m at) c.loop-m.invariant.0 (λ yes. cc (yes, c.if-branch.false)) in
    (both.1, judged_next c.args.w.now c.args.c ms i m c.loop-m.invariant.1 at both.0)

pub returns : goal.returns
returns c = (λ h. absurd (cc h), λ h. absurd (no_pair c.args.w.now c.args.c c.args.methods.now c.loop-m.m-index c.loop-m-test.false c.loop-m.invariant.1 h))
