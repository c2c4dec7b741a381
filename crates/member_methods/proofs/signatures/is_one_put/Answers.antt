use Rattle.std.proofs.Common.{◌≡◌, Some, None, map, sym, ap, ◌∙◌, get_or, arith}
use Rattle.std.specs.Prelude.{slice_get}
use Rattle.std.specs.Option.{option_copied}
use Rattle.std.proofs.lemmas.Bool.{true≢false}
use Rattle.std.proofs.lemmas.Option.{slice_get-get_or}
use Rattle.class_world.specs.declared.world.MethodInfo.{MethodInfo}
use Rattle.class_world.specs.Types.{substitute}
use Rattle.member_methods.proofs.Firsts.{none_next, among_all}
use Rattle.member_methods.proofs.signatures.is_one_put.Goals as goal
use Rattle.member_methods.proofs.signatures.is_one_put.Goals.{in-Some+else-are_put, in_default}

pub loop-k-preserved : goal.loop-k-preserved
loop-k-preserved c =
    none_next (λ k. (info : MethodInfo) × (slice_get c.args.w.now.methods k ≡ Some info) × (map (substitute c.args.args.now) c.args.params.now ≡ info.params)) c.args.methods.now c.loop-k.k-index
    (get_or c.args.methods.now c.loop-k.k-index 0) c.loop-k.invariant (slice_get-get_or c.args.methods.now c.loop-k.k-index 0 c.loop-k-test.true) (λ p. elim c.match-get.branch [
      | in-Some+else-are_put w ↦
          let at : slice_get c.args.w.now.methods (get_or c.args.methods.now c.loop-k.k-index 0) ≡ Some w.in-Some.info.now = sym c.get.ensures.value ∙ ap option_copied w.in-Some.is in
          let same : p.0 ≡ w.in-Some.info.now = cc (p.1, at) in
          true≢false (sym (w.are_put.ensures.1 (p.2 ∙ ap (λ (i : MethodInfo). i.params) same ∙ sym w.as_slice.ensures)) ∙ w.if-are_put.false)
      | in_default w ↦
          let never : None ≡ Some p.0 = ap option_copied (sym w.in_default.is) ∙ c.get.ensures.value ∙ p.1 in
          cc never
    ])

pub returns : goal.returns
returns c = (
  λ never. absurd (true≢false (sym never)),
  λ h. absurd (c.loop-k.invariant h.0 (among_all c.args.methods.now c.loop-k.k-index h.0 (omega arith) h.1) (h.2, h.3, h.4)),
)
