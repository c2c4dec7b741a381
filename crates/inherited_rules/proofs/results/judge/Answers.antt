use Rattle.std.proofs.Common.{nat_eq, refl, sym, ◌∙◌}
use Rattle.std.specs.HashSet.{contains}
use Rattle.inherited_rules.proofs.Judged.{alike_unresolved, all_judged}
use Rattle.inherited_rules.proofs.results.judge.Goals as goal

pub returns-then-contains-clause-yes : goal.returns-then-contains-clause-yes
returns-then-contains-clause-yes c ms members h = absurd (cc h)

pub returns-then-contains-clause-no : goal.returns-then-contains-clause-no
returns-then-contains-clause-no c ms members there judged none = (judged c.args.m (sym c.contains.ensures ∙ c.if-contains.true), judged)

pub returns-then-branch-clause-yes : goal.returns-then-branch-clause-yes
returns-then-branch-clause-yes c ms members h =
    alike_unresolved c.args.w.now c.args.c c.requires.sound c.requires.typed c.requires.known ms c.args.m c.args.table.now c.in_ok-alike.alike.now members c.in_ok-alike.ensures (c.in_ok-has_unresolved.ensures.0 c.if-branch.true)

pub returns-then-branch-clause-no : goal.returns-then-branch-clause-no
returns-then-branch-clause-no c ms members there judged none = absurd (none refl)

pub returns-clause-yes : goal.returns-clause-yes
returns-clause-yes c ms members h = absurd (cc h)

pub returns-clause-no : goal.returns-clause-no
returns-clause-no c ms members there judged none =
    all_judged c.args.w.now c.args.c c.requires.sound c.requires.typed c.requires.known ms c.args.m c.args.table.now c.in_ok-alike.alike.now members c.in_ok-alike.ensures (contains nat_eq c.args.judged.now) (contains nat_eq c.insert_all.new.set)
    (λ h. let yes = c.in_ok-has_unresolved.ensures.1 h in cc (yes, c.if-branch.false)) c.in_ok-insert_all.ensures there judged
