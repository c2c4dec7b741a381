use Rattle.std.proofs.Common.{◌≡◌, map, refl, sym, ap, ◌∙◌}
use Rattle.class_world.specs.declared.world.JavaType.TheVariants as ty
use Rattle.class_world.specs.declared.seen.Seen.{Through}
use Rattle.class_world.specs.Seen.{seen_as}
use Rattle.class_world.specs.Subtypes.{Parameterizes}
use Rattle.class_world.proofs.Ways as by
use Rattle.class_world.proofs.climb.+is_climbed.Goals as goal

pub returns-then-c-g : goal.returns-then-c-g
returns-then-c-g t c =
    let base = c.requires.above in
    by.here_told c.args.w.now c.requires.sound c.are_seen.result c.args.c base.0 c.class_of-g.result (map (seen_as c.args.seen.now) c.args.args.now) base.1.0 c.args_of.result.now c.args.t.now c.requires.class
    c.if-c-g.true (c.class_of-g.ensures base.0 base.1.0 base.1.1) base.1.1 base.1.2 base.2 (c.args_of.ensures base.0 base.1.0 base.1.1) c.are_seen.ensures

pub returns-in_default : goal.returns-in_default
returns-in_default t c =
    let base = c.requires.above in
    let g = c.class_of-g.result in
    let number : base.0 ≡ g = sym (c.class_of-g.ensures base.0 base.1.0 base.1.1) in
    let said = by.said_seen c.args.w.now c.requires.sound c.args.c c.is_raw-raw.result c.args.seen.now c.args.args.now c.requires.class c.is_raw-raw.ensures in
    absurd (c.if-c-g.false (c.in_default.ensures.none (map (seen_as c.args.seen.now) c.args.args.now) said
    (base.2.0, (base.2.1.0, base.2.1.1 ∙ ap (λ g. ty.Class g base.2.1.0) number, base.2.1.2), base.2.2)))

pub is_climbed-requires : goal.is_climbed-requires
is_climbed-requires t c =
    let base = c.requires.above in
    let g = c.class_of-g.result in
    let number : base.0 ≡ g = sym (c.class_of-g.ensures base.0 base.1.0 base.1.1) in
    let is_t : Parameterizes g c.args.t.now = (base.1.0, base.1.1 ∙ ap (λ g. ty.Class g base.1.0) number, base.1.2) in
    let said = by.said_seen c.args.w.now c.requires.sound c.args.c c.is_raw-raw.result c.args.seen.now c.args.args.now c.requires.class c.is_raw-raw.ensures in
    let found = c.in-Some.ensures.some in
    let high = by.raw_step c.args.w.now c.requires.sound c.args.c c.class_of.result g c.is_raw-raw.result (map (seen_as c.args.seen.now) c.args.args.now) c.in-Some.d.now c.args.t.now c.if-raw.true said found.0 found.1
    c.class_of.ensures is_t in
    (rw (← c.decreases) high.3, (c.requires.sound, (high.0, (g, is_t, high.1))))

pub is_climbed-requires-else-raw : goal.is_climbed-requires-else-raw
is_climbed-requires-else-raw t c =
    let base = c.requires.above in
    let g = c.class_of-g.result in
    let number : base.0 ≡ g = sym (c.class_of-g.ensures base.0 base.1.0 base.1.1) in
    let is_t : Parameterizes g c.args.t.now = (base.1.0, base.1.1 ∙ ap (λ g. ty.Class g base.1.0) number, base.1.2) in
    let said = by.said_seen c.args.w.now c.requires.sound c.args.c c.is_raw-raw.result c.args.seen.now c.args.args.now c.requires.class c.is_raw-raw.ensures in
    let found = c.in-Some.ensures.some in
    let d = c.in-Some.d.now in
    let h = c.class_of-else-raw.result in
    let ds = c.args_of-else-raw.result.now in
    let shape = by.read_shape c.args.w.now c.requires.sound c.args.c h c.is_raw-raw.result (map (seen_as c.args.seen.now) c.args.args.now) d ds said found.0 c.class_of-else-raw.ensures c.args_of-else-raw.ensures in
    let high = by.full_step c.args.w.now c.requires.sound c.args.c h g c.is_raw-raw.result c.args.args.now ds c.args.seen.now (Through c.args.args c.args.seen) d c.args.t.now (λ k. absurd (cc (k, c.if-raw.false))) said
    found.0 found.1 shape is_t (λ u. refl) in
    (rw (← c.decreases) high.3, (c.requires.sound, (high.0, (g, is_t, high.1))))

pub returns-then-raw : goal.returns-then-raw
returns-then-raw t c =
    let base = c.requires.above in
    let g = c.class_of-g.result in
    let number : base.0 ≡ g = sym (c.class_of-g.ensures base.0 base.1.0 base.1.1) in
    let is_t : Parameterizes g c.args.t.now = (base.1.0, base.1.1 ∙ ap (λ g. ty.Class g base.1.0) number, base.1.2) in
    let said = by.said_seen c.args.w.now c.requires.sound c.args.c c.is_raw-raw.result c.args.seen.now c.args.args.now c.requires.class c.is_raw-raw.ensures in
    let found = c.in-Some.ensures.some in
    let high = by.raw_step c.args.w.now c.requires.sound c.args.c c.class_of.result g c.is_raw-raw.result (map (seen_as c.args.seen.now) c.args.args.now) c.in-Some.d.now c.args.t.now c.if-raw.true said found.0 found.1
    c.class_of.ensures is_t in
    by.both_ways c.is_climbed.ensures high.2

pub returns-else-raw : goal.returns-else-raw
returns-else-raw t c =
    let base = c.requires.above in
    let g = c.class_of-g.result in
    let number : base.0 ≡ g = sym (c.class_of-g.ensures base.0 base.1.0 base.1.1) in
    let is_t : Parameterizes g c.args.t.now = (base.1.0, base.1.1 ∙ ap (λ g. ty.Class g base.1.0) number, base.1.2) in
    let said = by.said_seen c.args.w.now c.requires.sound c.args.c c.is_raw-raw.result c.args.seen.now c.args.args.now c.requires.class c.is_raw-raw.ensures in
    let found = c.in-Some.ensures.some in
    let d = c.in-Some.d.now in
    let h = c.class_of-else-raw.result in
    let ds = c.args_of-else-raw.result.now in
    let shape = by.read_shape c.args.w.now c.requires.sound c.args.c h c.is_raw-raw.result (map (seen_as c.args.seen.now) c.args.args.now) d ds said found.0 c.class_of-else-raw.ensures c.args_of-else-raw.ensures in
    let high = by.full_step c.args.w.now c.requires.sound c.args.c h g c.is_raw-raw.result c.args.args.now ds c.args.seen.now (Through c.args.args c.args.seen) d c.args.t.now (λ k. absurd (cc (k, c.if-raw.false))) said
    found.0 found.1 shape is_t (λ u. refl) in
    by.both_ways c.is_climbed-else-raw.ensures high.2
