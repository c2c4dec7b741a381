use Rattle.counted_methods.proofs.Keeping.{put_told}
use Rattle.counted_methods.specs.declared.CountedMethods.{CountedMethods}
use Rattle.counted_methods.proofs.CountedMethods.put.Goals as goal

pub returns : goal.returns
returns c =
    let new : CountedMethods = record { places = c.insert.new.self; lists = c.add_list.new.lists } in
    put_told c.args.c c.args.name c.args.arity c.in_ok-number.number c.args.counted.items c.args.self.now new c.requires.orderly c.requires.ascending c.in_ok-number.ensures.grows c.in_ok-number.ensures.list
    c.in_ok-insert.ensures.updates.0 c.in_ok-insert.ensures.updates.1
