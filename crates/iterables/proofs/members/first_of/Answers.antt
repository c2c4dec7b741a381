use Rattle.std.proofs.Common.{sym, ◌∙◌}
use Rattle.std.proofs.lemmas.Option.{slice_get-get_or}
use Rattle.class_world.specs.Counted.{IsOfClass}
use Rattle.member_methods.proofs.Firsts.{none_next}
use Rattle.iterables.proofs.Counting.{class_told, others_told}
use Rattle.iterables.proofs.members.first_of.Goals as goal

pub loop-m-preserved : goal.loop-m-preserved
loop-m-preserved c =
    none_next (IsOfClass c.args.w.now) c.args.methods.now c.loop-m.m-index _ c.loop-m.invariant (slice_get-get_or c.args.methods.now c.loop-m.m-index 0 c.loop-m-test.true)
    (λ h. let yes = c.is_of_class.ensures.1 h in absurd (cc (yes, c.if-is_of_class.false)))

pub returns-then-is_of_class : goal.returns-then-is_of_class
returns-then-is_of_class c =
    class_told c.args.w.now c.args.methods.now c.requires c.loop-m.m-index c.loop-m.invariant _ (slice_get-get_or c.args.methods.now c.loop-m.m-index 0 c.loop-m-test.true)
    (c.is_of_class.ensures.0 c.if-is_of_class.true)

pub returns : goal.returns
returns c =
    others_told c.args.w.now c.args.methods.now c.requires c.loop-m.m-index c.loop-m.invariant c.copied.result c.loop-m-test.false (sym c.first.ensures.value ∙ sym c.copied.ensures)
