use Rattle.std.proofs.Common.{sym, subst, ◌∙◌}
use Rattle.class_world.specs.Subtypes.{Subtype, same}
use Rattle.class_world.specs.Climbs.{HasBase, IsClassType}
use Rattle.class_world.proofs.Ways as by
use Rattle.class_world.proofs.climb.base_above.Goals as goal

pub loop-alloc-init : goal.loop-alloc-init
loop-alloc-init c =
    let alike = sym c.in_ok-at.ensures in
    record {
      class = subst (IsClassType c.args.w.now) alike c.requires.class;
      below = subst (Subtype c.args.w.now c.args.t.now) alike same;
      above = subst (λ t. HasBase c.args.w.now t c.args.g) alike c.requires.above;
    }

pub unreachable-requires : goal.unreachable-requires
unreachable-requires c =
    let at = c.loop-alloc.at in
    let is = c.loop-alloc.invariant.class in
    let read = by.said_read c.args.w.now c.requires.sound at c.class_of-c.result c.args_of.result.now c.is_raw-raw.result is c.class_of-c.ensures c.args_of.ensures c.is_raw-raw.ensures in
    let number = c.in_default.ensures.none is.1.1 read.1 (subst (λ t. HasBase c.args.w.now t c.args.g) read.0 c.loop-alloc.invariant.above) in
    c.loop-alloc-test.true (c.class_of.ensures c.class_of-c.result is.1.1 read.0 ∙ number)

pub loop-alloc-smaller : goal.loop-alloc-smaller
loop-alloc-smaller c =
    let at = c.loop-alloc.at in
    let is = c.loop-alloc.invariant.class in
    let read = by.said_read c.args.w.now c.requires.sound at c.class_of-c.result c.args_of.result.now c.is_raw-raw.result is c.class_of-c.ensures c.args_of.ensures c.is_raw-raw.ensures in
    let found = c.in-Some.ensures.some in
    let next = by.next_type c.args.w.now c.requires.sound c.args.t.now at c.class_of-c.result c.args.g c.is_raw-raw.result is.1.1 c.in-Some.d.now c.in_ok-at-2.at read.0 read.1 found.0 found.1 c.in_ok-at-2.ensures
    c.loop-alloc.invariant.below in
    next.3

pub loop-alloc-preserved : goal.loop-alloc-preserved
loop-alloc-preserved c =
    let at = c.loop-alloc.at in
    let is = c.loop-alloc.invariant.class in
    let read = by.said_read c.args.w.now c.requires.sound at c.class_of-c.result c.args_of.result.now c.is_raw-raw.result is c.class_of-c.ensures c.args_of.ensures c.is_raw-raw.ensures in
    let found = c.in-Some.ensures.some in
    let next = by.next_type c.args.w.now c.requires.sound c.args.t.now at c.class_of-c.result c.args.g c.is_raw-raw.result is.1.1 c.in-Some.d.now c.in_ok-at-2.at read.0 read.1 found.0 found.1 c.in_ok-at-2.ensures
    c.loop-alloc.invariant.below in
    record { class = next.0; below = next.1; above = next.2 }

pub returns : goal.returns
returns c = (
  by.last_type c.args.w.now c.requires.sound c.loop-alloc.at c.class_of.result c.args.g c.loop-alloc.invariant.class c.class_of.ensures c.loop-alloc-test.false c.loop-alloc.invariant.above,
  c.loop-alloc.invariant.below,
)
