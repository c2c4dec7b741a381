use Rattle.seen_methods.proofs.Arguments.{closed_class, closed_array, closed_front}
use Rattle.seen_methods.proofs.Opens.{open_class, open_array, open_variable, open_front}
use Rattle.seen_methods.proofs.closed.+closed.Goals as goal

pub are_closed-returns-then-is_closed : goal.are_closed-returns-then-is_closed
are_closed-returns-then-is_closed t c =
    let is = c.in-Some.ensures.cases.0 in (
      λ h. closed_front c.args.xs.now c.in-Some.x.now c.in-Some.xs.now is (c.is_closed.ensures.0 c.if-is_closed.true) (c.are_closed.ensures.0 h),
      λ h. c.are_closed.ensures.1 ((open_front c.args.xs.now c.in-Some.x.now c.in-Some.xs.now is h).1),
    )

pub are_closed-returns-else-is_closed : goal.are_closed-returns-else-is_closed
are_closed-returns-else-is_closed t c = (
  λ h. absurd (cc (h, c.if-is_closed.false)),
  λ h. c.is_closed.ensures.1 ((open_front c.args.xs.now c.in-Some.x.now c.in-Some.xs.now c.in-Some.ensures.cases.0 h).0),
)

pub is_closed-returns-in-Class : goal.is_closed-returns-in-Class
is_closed-returns-in-Class t c = (
  λ h. closed_class c.args.t.now c.in-Class.field-0 c.in-Class.xs c.as_slice.result.now c.in-Class.is c.as_slice.ensures (c.are_closed.ensures.0 h),
  λ h. c.are_closed.ensures.1 (open_class c.args.t.now c.in-Class.field-0 c.in-Class.xs c.as_slice.result.now c.in-Class.is c.as_slice.ensures h),
)

pub is_closed-returns-in-Var : goal.is_closed-returns-in-Var
is_closed-returns-in-Var t c = (λ h. absurd (cc h), λ h. absurd (open_variable c.args.t.now c.in-Var.field-0 c.in-Var.is h))

pub is_closed-returns-in-Array : goal.is_closed-returns-in-Array
is_closed-returns-in-Array t c = (
  λ h. closed_array c.args.t.now c.in-Array.x c.get.result.now c.in-Array.is c.get.ensures (c.is_closed.ensures.0 h),
  λ h. c.is_closed.ensures.1 (open_array c.args.t.now c.in-Array.x c.get.result.now c.in-Array.is c.get.ensures h),
)
