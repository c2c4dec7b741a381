use Rattle.std.proofs.Common.{refl}
use Rattle.std.proofs.lemmas.Option.{slice_get_read}
use Rattle.class_world.proofs.Searches.{direct_in}
use Rattle.class_world.proofs.Meets.{super_type}
use Rattle.class_world.proofs.paths.next_up.Goals as goal

pub leads-requires-clause-class : goal.leads-requires-clause-class
leads-requires-clause-class c =
    let w = c.args.w.now in
    let d = c.d-item-in-loop-d-2.result in
    let items = c.supers_of-d-items-2.result.now in
    let there = slice_get_read items _ c.loop-d-2.d-index d refl c.loop-d-2-test.true c.d-item-in-loop-d-2.is in
    super_type w c.requires.supers c.args.c d ((direct_in w c.args.c items c.supers_of-d-items-2.ensures d).0 (c.loop-d-2.d-index, there))
