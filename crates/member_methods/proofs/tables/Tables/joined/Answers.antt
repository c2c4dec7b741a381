use Rattle.std.proofs.Common.{sym, subst}
use Rattle.std.specs.Prelude.{slice_index_or}
use Rattle.std.proofs.lemmas.Option.{slice_get-get_or}
use Rattle.shared_maps.specs.Maps.{AreDiffering, value_in}
use Rattle.member_methods.proofs.Maps.{joined_first, joined_next, joined_all}
use Rattle.member_methods.proofs.tables.Tables.joined.Goals as goal

pub loop-key-init : goal.loop-key-init
loop-key-init c =
    let is = c.in_ok-both.ensures in
    joined_first c.args.self.now c.union.new.self c.args.map c.args.more c.in_ok-both.both c.as_slice-key-items.result.now c.requires.0 c.requires.1 is.map is.kept is.value

pub joined_at-requires : goal.joined_at-requires
joined_at-requires c = (c.loop-key.invariant.good, c.loop-key.invariant.keeps.good c.args.more c.requires.1)

pub loop-key-preserved : goal.loop-key-preserved
loop-key-preserved c =
    let keys = c.as_slice-key-items.result.now in
    let i = c.loop-key.key-index in
    joined_next c.args.self.now c.loop-key.self c.joined_at.new.self c.args.map c.args.more c.loop-key.both c.in_ok-both-2.both keys i (slice_index_or keys i 0) c.requires.1
    (slice_get-get_or keys i 0 c.loop-key-test.true) c.loop-key.invariant c.in_ok-both-2.ensures

pub returns : goal.returns
returns c =
    let old = c.args.self.now in
    let keys = c.as_slice-key-items.result.now in
    let are = subst (AreDiffering (value_in old.maps c.args.map) (value_in old.maps c.args.more)) (sym c.as_slice-key-items.ensures.value) c.in_ok-keys.ensures in
    joined_all old c.loop-key.self c.args.map c.args.more c.loop-key.both keys c.loop-key.key-index are c.loop-key-test.false c.loop-key.invariant
