use Rattle.std.proofs.Common.{◌≡◌, ℕ, ap, sym, ◌∙◌, nat_eq, true, arith}
use Rattle.class_world.specs.Seen.{seen_as}
use Rattle.class_world.proofs.Substs.{put_known, put_unknown, told_as}
use Rattle.class_world.proofs.Frames as by
use Rattle.class_world.proofs.seen.+is_seen.Goals as goal

pub is_seen-returns-in-Prim : goal.is_seen-returns-in-Prim
is_seen-returns-in-Prim t c = told_as _ _ _ _ (ap (seen_as c.args.seen.now) c.in-Prim.is ∙ by.seen_primitive c.args.seen.now c.in-Prim.field-0 ∙ sym c.in-Prim.is) c.is_same.ensures

pub is_seen-returns-in-Null : goal.is_seen-returns-in-Null
is_seen-returns-in-Null t c = told_as _ _ _ _ (ap (seen_as c.args.seen.now) c.in-Null.is ∙ by.seen_null c.args.seen.now ∙ sym c.in-Null.is) c.is_same-in-Null.ensures

pub is_seen-returns-then-c-d : goal.is_seen-returns-then-c-d
is_seen-returns-then-c-d t c =
    by.class_seen c.are_seen.result c.args.seen.now c.args.s.now c.args.t.now c.in-Class.c c.in-Class-t.d c.in-Class.xs c.in-Class-t.ys c.as_slice.result.now c.as_slice-then-c-d.result.now
    c.in-Class.is c.in-Class-t.is c.if-c-d.true c.as_slice.ensures c.as_slice-then-c-d.ensures c.are_seen.ensures

pub is_seen-returns-else-c-d : goal.is_seen-returns-else-c-d
is_seen-returns-else-c-d t c = (
  λ h. absurd (c.if-c-d.false (from_test c.in-Class.c c.in-Class-t.d h)),
  λ h. absurd (c.if-c-d.false (by.other_class_seen c.args.seen.now c.args.s.now c.args.t.now c.in-Class.c c.in-Class-t.d c.in-Class.xs c.in-Class-t.ys c.in-Class.is c.in-Class-t.is h)),
)
  where
    from_test : (a b : ℕ) → nat_eq a b ≡ true → a ≡ b
    from_test a b h = grind (arith, h)

pub is_seen-returns-in_default : goal.is_seen-returns-in_default
is_seen-returns-in_default t c = (
  λ h. absurd (cc h),
  λ h. absurd (c.in_default.not-Class _ _ (sym h ∙ ap (seen_as c.args.seen.now) c.in-Class.is ∙ by.seen_type c.args.seen.now c.in-Class.c c.in-Class.xs)),
)

pub is_seen-returns-in-Some : goal.is_seen-returns-in-Some
is_seen-returns-in-Some t c =
    let at = c.in-Some.ensures.lookup in
    told_as _ _ _ _
    (ap (λ z. seen_as z c.args.s.now) c.in-Through.is
    ∙ ap (seen_as c.in-Through.further.now) (put_known c.in-Through.args.now c.args.s.now c.in-Some.a.now c.in-Var.k c.in-Var.is at.3.0 at.1))
    c.is_seen.ensures

pub is_seen-returns-in-None : goal.is_seen-returns-in-None
is_seen-returns-in-None t c =
    told_as _ _ _ _
    (ap (λ z. seen_as z c.args.s.now) c.in-Through.is
    ∙ ap (seen_as c.in-Through.further.now) (put_unknown c.in-Through.args.now c.args.s.now c.in-Var.k c.in-Var.is c.in-None.ensures.lookup.3))
    c.is_seen-in-None.ensures

pub is_seen-returns-in-Array-t : goal.is_seen-returns-in-Array-t
is_seen-returns-in-Array-t t c =
    by.array_seen c.is_seen-in-Array-t.result c.args.seen.now c.args.s.now c.args.t.now c.in-Array.x c.in-Array-t.y c.get-in-Array-t.result.now c.get-in-Array-t-2.result.now c.in-Array.is c.in-Array-t.is
    c.get-in-Array-t.ensures c.get-in-Array-t-2.ensures c.is_seen-in-Array-t.ensures

pub is_seen-returns-in_default-t : goal.is_seen-returns-in_default-t
is_seen-returns-in_default-t t c =
    (λ h. absurd (cc h), λ h. absurd (c.in_default-t.not-Array _ (sym h ∙ ap (seen_as c.args.seen.now) c.in-Array.is ∙ by.seen_array c.args.seen.now c.in-Array.x)))
