use Rattle.std.proofs.Common.{◌∙◌}
use Rattle.member_uses.specs.Receivers.{receiver}
use Rattle.member_uses.proofs.Steps.{call_is, if_ok}
use Rattle.member_uses.proofs.calls.call_made.Goals as goal

pub returns : goal.returns
returns c = λ f h.
    if_ok c.called_as.result _ _
    (λ r e. e ∙ call_is f c.args.place.now c.args.node (receiver c.args.of) c.args.c.now c.args.m.now c.args.args c.in_ok-ty.ty c.some_unchecked-erases.result c.is_static_method.result c.as_slice.result.now
    c.as_slice-2.result.now _ c.in_ok-ty.ensures c.as_slice.ensures c.as_slice-2.ensures (c.some_unchecked-erases.ensures f h) c.is_static_method.ensures c.in_ok-form.ensures)
    (c.called_as.ensures f h)
