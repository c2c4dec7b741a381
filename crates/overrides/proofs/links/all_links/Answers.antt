use Rattle.std.proofs.Common.{ℕ, get_or}
use Rattle.std.proofs.lemmas.Option.{slice_get-get_or}
use Rattle.class_world.specs.Overriding.{OverridesAtOnce}
use Rattle.overrides.specs.Links.{HasLink}
use Rattle.overrides.proofs.Places.{items_more, items_all}
use Rattle.overrides.proofs.Belows.{at_once_within}
use Rattle.overrides.proofs.links.all_links.Goals as goal

pub loop-m-preserved : goal.loop-m-preserved
loop-m-preserved c =
    let order = c.args.order.now in
    let i = c.loop-m.m-index in
    let h = c.loop-m.invariant in
    let added = c.in_ok-add_links.ensures in
    let new = c.add_links.new.links.items in
    record {
      links = added.links;
      all = items_more (λ m. (t : ℕ) → OverridesAtOnce c.args.w.now m t → HasLink new m t) order i (get_or order i 0) (λ j m lt is t edge. added.kept m t (h.all j m lt is t edge))
          (slice_get-get_or order i 0 c.loop-m-test.true) added.all;
    }

pub returns : goal.returns
returns c = record {
  each = c.loop-m.invariant.links;
  all = λ m t edge.
      items_all (λ m. (t : ℕ) → OverridesAtOnce c.args.w.now m t → HasLink c.loop-m.links.items m t) c.args.order.now c.loop-m.m-index c.loop-m.invariant.all c.loop-m-test.false m
      (c.requires.order m (at_once_within edge).0) t edge;
}
