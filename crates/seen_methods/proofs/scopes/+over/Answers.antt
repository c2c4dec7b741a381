use Rattle.std.proofs.lemmas.Bool.{ltb-true}
use Rattle.seen_methods.proofs.Overs.{over_class, over_variable, over_array, over_front}
use Rattle.seen_methods.proofs.scopes.+over.Goals as goal

pub are_over-returns-then-is_over : goal.are_over-returns-then-is_over
are_over-returns-then-is_over t c h =
    over_front c.args.n c.args.ts.now c.in-Some.t.now c.in-Some.ts.now c.in-Some.ensures.cases.0 (c.is_over.ensures c.if-is_over.true) (c.are_over.ensures h)

pub is_over-returns-in-Class : goal.is_over-returns-in-Class
is_over-returns-in-Class t c h = over_class c.args.n c.args.t.now _ c.in-Class.xs c.as_slice.result.now c.in-Class.is c.as_slice.ensures (c.are_over.ensures h)

pub is_over-returns-in-Var : goal.is_over-returns-in-Var
is_over-returns-in-Var t c h = over_variable c.args.n c.args.t.now c.in-Var.k c.in-Var.is (ltb-true _ _ h)

pub is_over-returns-in-Array : goal.is_over-returns-in-Array
is_over-returns-in-Array t c h = over_array c.args.n c.args.t.now c.in-Array.x c.get.result.now c.in-Array.is c.get.ensures (c.is_over.ensures h)
