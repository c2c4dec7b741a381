use Rattle.std.proofs.Common.{sym, subst}
use Rattle.class_world.specs.Meets.{AreSingleTypes}
use Rattle.class_world.proofs.Meets.{agree_single}
use Rattle.class_world.proofs.joins.is_single_join.Goals as goal

pub all_agree-requires-clause-singles : goal.all_agree-requires-clause-singles
all_agree-requires-clause-singles c = subst (AreSingleTypes c.args.w.now) (sym c.supers_of.ensures) c.requires.singles

pub returns-clause-single : goal.returns-clause-single
returns-clause-single c = λ yes.
    agree_single c.args.w.now c.requires.supers c.args.rows.now.listed c.args.c c.supers_of.result.now c.requires.rows.sequence c.supers_of.ensures (c.in_ok-agree.ensures.agree yes)
