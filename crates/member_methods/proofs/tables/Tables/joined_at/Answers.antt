use Rattle.std.proofs.Common.{Some, ◌⊎◌, refl, sym, ◌∙◌}
use Rattle.std.specs.List.{Contains}
use Rattle.shared_maps.proofs.Views.{value_within}
use Rattle.member_methods.specs.Lists.{list_at}
use Rattle.member_methods.proofs.Arena.{list_there}
use Rattle.member_methods.proofs.Maps.{if_ok_three, map_put, map_says, says_new, says_joined, says_more, joined_there}
use Rattle.member_methods.proofs.tables.Tables.joined_at.Goals as goal

pub returns-in_default-get : goal.returns-in_default-get
returns-in_default-get c =
    let old = c.args.self.now in
    let list = c.in-Some.list in
    let some = sym c.get.ensures ∙ c.in-Some.is in
    if_ok_three c.put.result _ _ _ (λ r there is.
    map_says old _ r _ _ (says_more old c.args.map c.args.more c.args.key list some)
    (map_says old _ r _ _ (says_new old c.args.map c.args.key list (sym c.in_default-get.ensures))
    (map_put old c.put.new.self old.lists c.args.map r c.args.key list c.requires.0 (value_within old.maps c.args.more c.args.key list some) is c.put.ensures.kept (Contains (list_at old.lists (Some list)))
    there (list_there old.lists list _ (c.requires.1.lists c.args.key list some) (λ m. (λ x. x, λ x. x))))))
    c.put.ensures.map c.put.ensures.value

pub returns-then-both-here : goal.returns-then-both-here
returns-then-both-here c =
    let old = c.args.self.now in
    let list = c.in-Some.list in
    map_says old _ c.args.map _ _ (says_more old c.args.map c.args.more c.args.key list (sym c.get.ensures ∙ c.in-Some.is))
    (joined_there old (record { maps = old.maps; lists = c.joined.new.self }) c.args.map c.args.key list c.in-Some-get.here c.in_ok-both.both c.requires.0 (sym c.get-2.ensures ∙ c.in-Some-get.is) refl
    c.if-both-here.true c.in_ok-both.ensures)

pub returns-else-both-here : goal.returns-else-both-here
returns-else-both-here c =
    let old = c.args.self.now in
    let list = c.in-Some.list in
    let some = sym c.get.ensures ∙ c.in-Some.is in
    if_ok_three c.put-else-both-here.result _ _ _ (λ r there is.
    map_says old _ r _ _ (says_more old c.args.map c.args.more c.args.key list some)
    (map_says old _ r _ _ (says_joined old c.args.map c.args.key list c.in-Some-get.here (sym c.get-2.ensures ∙ c.in-Some-get.is))
    (map_put old c.put-else-both-here.new.self c.joined.new.self c.args.map r c.args.key c.in_ok-both.both c.requires.0 (value_within old.maps c.args.more c.args.key list some) is
    c.put-else-both-here.ensures.kept (λ m. Contains (list_at old.lists (Some c.in-Some-get.here)) m ⊎ Contains (list_at old.lists (Some list)) m) there c.in_ok-both.ensures)))
    c.put-else-both-here.ensures.map c.put-else-both-here.ensures.value
