use Rattle.std.proofs.Common.{◌↔◌, subst}
use Rattle.std.specs.Prelude.{IsTrue}
use Rattle.unchecked_ops.specs.Casting.{Determines}
use Rattle.unchecked_ops.proofs.Bases.{arguments_told}
use Rattle.unchecked_ops.proofs.casting.is_to_arguments.Goals as goal

pub returns-in_ok-determines-in-Class : goal.returns-in_ok-determines-in-Class
returns-in_ok-determines-in-Class c =
    let w = c.args.w.now in
    let r = c.in_ok-determines-in-Class.field-0 in
    arguments_told w r c.args.s.now c.args.t.now c.in-Class.g c.in-Class.args c.in-Class.is (λ e. let no = c.is_empty.ensures.1 e in cc (no, c.if-is_empty.false))
    (λ e. let no = c.is_null.ensures.1 e in cc (no, c.if-is_null.false))
    (subst (λ xs. IsTrue r ↔ Determines w c.args.s.now c.in-Class.g xs) c.as_slice.ensures c.in_ok-determines-in-Class.ensures)
