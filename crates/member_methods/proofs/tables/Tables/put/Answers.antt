use Rattle.std.specs.List.{Contains}
use Rattle.member_methods.proofs.Maps.{if_ok_three, map_put}
use Rattle.member_methods.proofs.tables.Tables.put.Goals as goal

pub returns : goal.returns
returns c = if_ok_three c.put.result _ _ _ (λ r there is.
    map_put c.args.self.now c.put.new.self c.add.new.self c.args.map r c.args.key c.in_ok-list.list c.requires.good c.requires.key is c.put.ensures.kept (Contains c.args.numbers.items) there c.in_ok-list.ensures)
    c.put.ensures.map c.put.ensures.value
