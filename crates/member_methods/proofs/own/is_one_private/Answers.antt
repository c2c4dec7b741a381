use Rattle.std.proofs.Common.{sym, ◌∙◌, get_or, arith}
use Rattle.std.proofs.lemmas.Bool.{true≢false}
use Rattle.std.proofs.lemmas.Option.{slice_get-get_or}
use Rattle.class_world.specs.Inheritance.{IsPrivateMethod}
use Rattle.member_methods.proofs.Firsts.{none_next, among_all}
use Rattle.member_methods.proofs.own.is_one_private.Goals as goal

pub loop-m-preserved : goal.loop-m-preserved
loop-m-preserved c =
    none_next (IsPrivateMethod c.args.w.now) c.args.methods.now c.loop-m.m-index (get_or c.args.methods.now c.loop-m.m-index 0) c.loop-m.invariant
    (slice_get-get_or c.args.methods.now c.loop-m.m-index 0 c.loop-m-test.true) (λ p. true≢false (sym (c.is_private.ensures.1 p) ∙ c.if-is_private.false))

pub returns : goal.returns
returns c = (
  λ never. absurd (true≢false (sym never)),
  λ h. absurd (c.loop-m.invariant h.0 (among_all c.args.methods.now c.loop-m.m-index h.0 (omega arith) h.1) h.2),
)
