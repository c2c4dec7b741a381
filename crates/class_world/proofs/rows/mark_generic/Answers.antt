use Rattle.std.proofs.Common.{◌+◌, ◌∙◌, refl, sym, subst, arith}
use Rattle.class_world.proofs.Collected as by
use Rattle.class_world.proofs.Collected.{MarkFirst}
use Rattle.class_world.proofs.rows.mark_generic.Goals as goal
use Rattle.class_world.proofs.rows.mark_generic.Goals.{then-is_generic, else-is_generic}

pub loop-c-init : goal.loop-c-init
loop-c-init c = record { len = refl; marks = by.mark_none c.args.w.now c.args.words.now c.requires.none }

pub loop-c-preserved : goal.loop-c-preserved
loop-c-preserved c = elim c.if-is_generic.branch [
  | then-is_generic w ↦ record {
    len = c.if-is_generic.auto.words ∙ c.loop-c.invariant.len;
    marks = subst (λ ws. MarkFirst c.args.w.now ws (c.loop-c.c + 1)) (sym w.words-is)
        (by.mark_next c.args.w.now c.loop-c.words w.set.new.words c.loop-c.c c.loop-c.invariant.marks (w.if-is_generic.ensures.0 refl) w.set.ensures.sets);
  }
  | else-is_generic w ↦ record {
    len = c.if-is_generic.auto.words ∙ c.loop-c.invariant.len;
    marks = subst (λ ws. MarkFirst c.args.w.now ws (c.loop-c.c + 1)) (sym w.words-is)
        (by.mark_past c.args.w.now c.loop-c.words c.loop-c.c c.loop-c.invariant.marks (λ h. let never = w.if-is_generic.ensures.1 h in absurd (cc never)));
  }
]

pub returns : goal.returns
returns c = by.mark_end c.args.w.now c.loop-c.words c.loop-c.c c.loop-c.invariant.marks (omega arith)
