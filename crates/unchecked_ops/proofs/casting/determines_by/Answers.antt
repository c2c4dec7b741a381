use Rattle.unchecked_ops.proofs.Bases.{led_told}
use Rattle.unchecked_ops.proofs.casting.determines_by.Goals as goal

pub returns : goal.returns
returns c =
    λ g has is. led_told c.args.w.now c.is_led.result c.args.s.now c.args.own.now g c.args.h c.args.n c.args.args.now c.in_ok-above.above c.in_ok-form.form has is
    c.in_ok-above.ensures c.in_ok-form.ensures c.is_led.ensures
