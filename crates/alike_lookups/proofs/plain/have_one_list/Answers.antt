use Rattle.std.proofs.Common.{sym, ◌∙◌, subst}
use Rattle.seen_methods.specs.Closed.{AreClosed}
use Rattle.alike_lookups.proofs.plain.have_one_list.Goals as goal

pub returns-then-are_same : goal.returns-then-are_same
returns-then-are_same c h = (
  c.in-Some.info.now,
  c.in-Some-method_of.other.now,
  c.in-Some.ensures.some,
  c.in-Some-method_of.ensures.some,
  sym c.as_slice.ensures ∙ c.are_same.ensures.0 c.if-are_same.true ∙ c.as_slice-2.ensures,
  subst AreClosed c.as_slice-then-are_same.ensures (c.are_closed.ensures.0 h),
)
