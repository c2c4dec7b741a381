use Rattle.std.proofs.Common.{ap}
use Rattle.std.specs.Option.{option_map}
use Rattle.method_ties.specs.Tables.{IsKeyedLower}
use Rattle.method_ties.proofs.Firsts.{on_ok, once_rising}
use Rattle.method_ties.proofs.Numbering.{alike_in, pairs_alike, pairs_listed}
use Rattle.method_ties.proofs.meet.add_alike.Goals as goal

pub add_pairs-requires-clause-methods : goal.add_pairs-requires-clause-methods
add_pairs-requires-clause-methods c =
    let w = c.args.w.now in
    let t = c.args.tables.now in
    let key = c.args.key in
    (alike_in w (IsKeyedLower w) t key key.owner c.args.k c.in_ok-alike-in-Some.alike.now _ c.in-Some.table.now c.requires.tables c.requires.class c.get.ensures (ap (option_map (λ x. x.now)) c.in-Some.is) c.in_ok-alike-in-Some.ensures).1

pub add_pairs-requires-in-None-clause-methods : goal.add_pairs-requires-in-None-clause-methods
add_pairs-requires-in-None-clause-methods c = once_rising c.args.listed.now c.requires.listed.1

pub returns-in_ok-alike-in-Some-clause-has : goal.returns-in_ok-alike-in-Some-clause-has
returns-in_ok-alike-in-Some-clause-has c =
    let w = c.args.w.now in
    let t = c.args.tables.now in
    let key = c.args.key in
    let xs = c.in_ok-alike-in-Some.alike.now in
    let alike = alike_in w (IsKeyedLower w) t key key.owner c.args.k xs _ c.in-Some.table.now c.requires.tables c.requires.class c.get.ensures (ap (option_map (λ x. x.now)) c.in-Some.is) c.in_ok-alike-in-Some.ensures in
    on_ok c.add_pairs.result (pairs_alike w key c.args.k c.args.found.now.items c.add_pairs.new.found.items xs alike.0) c.add_pairs.ensures.has

pub returns-in-None-clause-has : goal.returns-in-None-clause-has
returns-in-None-clause-has c =
    on_ok c.add_pairs-in-None.result (pairs_listed c.args.w.now c.args.key c.args.k c.args.found.now.items c.add_pairs-in-None.new.found.items c.args.listed.now c.requires.listed.0) c.add_pairs-in-None.ensures.has
