use Rattle.class_world.proofs.Singles.{one_way}
use Rattle.class_world.proofs.Meets.{supers_single}
use Rattle.class_world.proofs.below_two.is_known_single.Goals as goal

pub returns-then-not-joins-clause-single : goal.returns-then-not-joins-clause-single
returns-then-not-joins-clause-single c = λ yes.
    let unmarked = c.has_marked_super.ensures (λ h. absurd (cc (h, c.if-has_marked_super.false))) in
    one_way c.args.w.now c.requires.supers c.args.rows.now.listed c.requires.rows.sequence c.args.flags.now c.requires.flags c.args.c (c.joins.ensures (λ h. absurd (cc (h, c.if-not-joins.true))))
    (λ g args direct. c.requires.told g args direct (unmarked g args direct))

pub is_single_join-requires-clause-singles : goal.is_single_join-requires-clause-singles
is_single_join-requires-clause-singles c =
    let unmarked = c.has_marked_super.ensures (λ h. absurd (cc (h, c.if-has_marked_super.false))) in
    supers_single c.args.w.now c.requires.supers c.args.c (λ g args direct. c.requires.told g args direct (unmarked g args direct))
