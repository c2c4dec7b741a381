use Rattle.iterables.proofs.Counting.{first_counts, listed_counts}
use Rattle.iterables.proofs.members.counted.Goals as goal

pub returns-in-Some : goal.returns-in-Some
returns-in-Some c = first_counts c.args.w.now c.requires.sound c.args.c c.requires.known.0 c.requires.known.1 c.args.name c.in-Some.m c.in-Some.ensures

pub first_of-requires : goal.first_of-requires
first_of-requires c = (c.named.ensures c.args.w.now c.in_ok-lists.ensures).1

pub returns : goal.returns
returns c =
    listed_counts c.args.w.now c.requires.sound c.args.c c.requires.known.0 c.requires.known.1 c.args.name c.named.result.now c.first_of.result
    (c.named.ensures c.args.w.now c.in_ok-lists.ensures) c.first_of.ensures
