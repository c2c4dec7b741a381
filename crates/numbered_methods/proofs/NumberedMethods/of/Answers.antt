use Rattle.std.proofs.Common.{◌+◌, get_or, ◌∙◌}
use Rattle.std.specs.List.{Contains}
use Rattle.std.proofs.lemmas.Option.{slice_get-get_or}
use Rattle.numbered_methods.proofs.Firsts.{Among, among_all, among_next, once_new}
use Rattle.numbered_methods.proofs.Listing.{listed_next, listed_same}
use Rattle.numbered_methods.proofs.NumberedMethods.of.Goals as goal

pub add-requires-clause-apart : goal.add-requires-clause-apart
add-requires-clause-apart c = c.loop-m.invariant.1.apart

pub loop-m-preserved : goal.loop-m-preserved
loop-m-preserved c =
    let w = c.args.w.now in
    let ms = c.args.methods.now in
    let i = c.loop-m.m-index in
    let m = get_or ms i 0 in
    let at = slice_get-get_or ms i 0 c.loop-m-test.true in
    let added = c.in_ok-add.ensures in (
      added.class ∙ c.loop-m.invariant.0,
      listed_next w (Among ms i) (Among ms (i + 1)) m c.loop-m.numbered c.add.new.self c.loop-m.invariant.1 added (once_new ms i m c.requires.once at) (λ k. among_next ms i k m at),
    )

pub returns : goal.returns
returns c =
    let ms = c.args.methods.now in
    let i = c.loop-m.m-index in
    (c.loop-m.invariant.0, listed_same c.args.w.now (Among ms i) (Contains ms) c.loop-m.numbered (λ k. among_all ms i k c.loop-m-test.false) c.loop-m.invariant.1)
