use Rattle.std.proofs.Common.{sym, ◌∙◌}
use Rattle.method_ties.proofs.Members.{lower_told, lower_parts}
use Rattle.method_ties.proofs.meet.is_lower.Goals as goal
use Rattle.method_ties.proofs.meet.is_lower.Goals.{then-is_inherited, else-is_inherited}

pub returns-then-is_of_class : goal.returns-then-is_of_class
returns-then-is_of_class c = (
  λ h. elim c.if-is_inherited.branch [
    | then-is_inherited w ↦
        lower_told c.args.w.now c.args.c c.args.m c.args.supers.now c.requires.supers (c.is_inherited.ensures.0 w.if-is_inherited.true)
        (w.is_of_class.ensures.0 (sym w.value-is ∙ c.if-is_of_class.true)) (c.is_of_one.ensures.0 h)
    | else-is_inherited w ↦ absurd (cc (w.value-is, c.if-is_of_class.true))
  ],
  λ h. c.is_of_one.ensures.1 (lower_parts c.args.w.now c.args.c c.args.m c.args.supers.now c.requires.supers h).1,
)

pub returns-else-is_of_class : goal.returns-else-is_of_class
returns-else-is_of_class c = (
  λ h. absurd (cc (h, c.if-is_of_class.false)),
  λ h. elim c.if-is_inherited.branch [
    | then-is_inherited w ↦ let yes = w.is_of_class.ensures.1 h.1 in absurd (cc (yes, w.value-is, c.if-is_of_class.false))
    | else-is_inherited w ↦
        let yes = c.is_inherited.ensures.1 (lower_parts c.args.w.now c.args.c c.args.m c.args.supers.now c.requires.supers h).0 in
        absurd (cc (yes, w.if-is_inherited.false))
  ],
)
