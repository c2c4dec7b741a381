use Rattle.std.proofs.Common.{sym, subst}
use Rattle.std.specs.List.{Contains}
use Rattle.overrides.specs.Families.{AreFamilies}
use Rattle.overrides.specs.Links.{AreAllLinks}
use Rattle.overrides.proofs.Overrides.of.Goals as goal

pub all_links-requires-clause-order : goal.all_links-requires-clause-order
all_links-requires-clause-order c m lt = subst (λ xs. Contains xs m) (sym c.as_slice.ensures.value) (c.in_ok-order.ensures m lt)

pub add_all-requires-clause-links : goal.add_all-requires-clause-links
add_all-requires-clause-links c = subst (AreAllLinks c.args.w.now) (sym c.as_slice-2.ensures.value) c.in_ok-links.ensures

pub returns : goal.returns
returns c = record {
  overriding = c.in_ok-add_all.ensures;
  labels = c.in_ok-labels.ensures;
  families = subst (λ labels. AreFamilies labels c.in_ok-families.families.items) c.as_slice-3.ensures.value c.in_ok-families.ensures;
}
