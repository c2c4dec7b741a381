use Rattle.overrides.specs.Tables.{Has, HasRow}
use Rattle.overrides.proofs.Chains.{link_whole, of_pairs, whole_holds}
use Rattle.overrides.proofs.closed.add_all.Goals as goal

pub returns-then-not-lacks_third : goal.returns-then-not-lacks_third
returns-then-not-lacks_third c =
    let w = c.args.w.now in
    let table = c.add_rounds.new.table in
    let rounds = c.in_ok-add_rounds.ensures in
    let looked = c.lacks_third.ensures c.if-not-lacks_third.true in
    let all = c.requires.links in
    whole_holds w table
    (of_pairs w c.args.links.now (HasRow table) all
    (λ x has. link_whole w table x.lower x.upper x.free rounds.table (rounds.followed x has) (all.each x has).free (looked x has)))
    rounds.table

pub close_all-requires-clause-at_once : goal.close_all-requires-clause-at_once
close_all-requires-clause-at_once c =
    let table = c.add_rounds.new.table in
    of_pairs c.args.w.now c.args.links.now (Has table) c.requires.links (λ x has. (c.in_ok-add_rounds.ensures.followed x has).0)
