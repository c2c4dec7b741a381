use Rattle.class_world.specs.Subtypes.{Subtype}
use Rattle.class_world.specs.Meets.{IsFullType, found_in}
use Rattle.class_world.proofs.Meets as by
use Rattle.class_world.proofs.paths.remember.Goals as goal

pub from_path-requires-clause-class : goal.from_path-requires-clause-class
from_path-requires-clause-class c = by.super_type c.args.w.now c.requires.supers c.args.from c.in-Some.d.now c.in-Some.ensures

pub returns-in_ok-insert : goal.returns-in_ok-insert
returns-in_ok-insert c =
    let w = c.args.w.now in
    let d = c.in-Some.d.now in
    let up = by.at_some (λ t. IsFullType w c.args.to t × Subtype w d t) c.in_ok-t.field-0 c.in-Some-2.t c.in-Some-2.is c.in_ok-t.ensures in
    by.paths_put w (found_in c.args.paths.now.types) (found_in c.insert.new.self) (record { from = c.args.from; to = c.args.to }) c.in-Some-2.t c.requires.paths c.in_ok-insert.ensures.updates.0
    (by.path_below w c.requires.supers c.args.from c.args.to d c.in-Some-2.t c.in-Some.ensures up)
