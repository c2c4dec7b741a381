-- One more array is made.
use Rattle.std.proofs.Common.{◌≡◌, suc, ◌+◌, ◌-◌, [], length, arith}
use Rattle.std.proofs.lemmas.Bool.{eqb-true}
use Rattle.std.proofs.lemmas.List.{nil_from_length}
use Rattle.core_meaning.specs.Expressions as spec
use Rattle.run_state.proofs.Repeats.{first_array, repeated_gives}
use Rattle.run_state.proofs.arrays.+arrays.Goals as goal

pub repeated-loop-made-preserved : goal.repeated-loop-made-preserved
repeated-loop-made-preserved t c =
    let one_less : c.args.size - c.loop-made._made ≡ suc (c.args.size - (c.loop-made._made + 1)) = omega arith in
    let e = repeated_gives (c.args.size - c.loop-made._made) (c.args.size - (c.loop-made._made + 1)) (spec.arrays_of c.args.sizes.now c.args.t.now)
    c.loop-made.state c.arrays_of.new.state c.in_ok-arrays_of.field-0 c.loop-made.items one_less c.in_ok-arrays_of.ensures in
    cc (e, c.loop-made.invariant, c.in_ok-push.ensures.ok)

-- With no inner sizes the first values stay.
pub array_of-returns-then-is_empty : goal.array_of-returns-then-is_empty
array_of-returns-then-is_empty t c =
    let empty : c.args.inner.now ≡ [] = nil_from_length c.args.inner.now (eqb-true (length c.args.inner.now) 0 (cc (c.is_empty.ensures, c.if-is_empty.true))) in
    rw empty (cc (first_array c.args.size c.args.item.now c.args.state.now, c.in_ok-array.ensures.number, c.in_ok-array.ensures.after))
