use Rattle.std.proofs.Common.{sym, ◌∙◌}
use Rattle.std.proofs.lemmas.List.{length-map}
use Rattle.std.proofs.lemmas.Option.{slice_get_within}
use Rattle.java_tree.proofs.Tables.{found, absent, inserted, given, kept}
use Rattle.java_tree.proofs.names.Names.intern.Goals as goal

pub returns-in-Some-clause-number : goal.returns-in-Some-clause-number
returns-in-Some-clause-number c = rw (← c.self.view_is) (found c.args.text.now c.self.inside.texts.keys c.in-Some.at c.in-Some.ensures.index).number

pub returns-in-Some-clause-table : goal.returns-in-Some-clause-table
returns-in-Some-clause-table c = rw (← c.self.view_is) (found c.args.text.now c.self.inside.texts.keys c.in-Some.at c.in-Some.ensures.index).table

pub returns-in-Some-clause-given : goal.returns-in-Some-clause-given
returns-in-Some-clause-given c = rw (← c.self.view_is) (found c.args.text.now c.self.inside.texts.keys c.in-Some.at c.in-Some.ensures.index).given

pub returns-clause-number : goal.returns-clause-number
returns-clause-number c =
    let new = absent c.args.text.now c.self.inside.texts.keys c.in_default.ensures.index in
    rw (← c.self.view_is) (c.len-at.ensures.len ∙ sym (length-map _ _) ∙ sym new.number)

pub returns-clause-table : goal.returns-clause-table
returns-clause-table c =
    let new = absent c.args.text.now c.self.inside.texts.keys c.in_default.ensures.index in
    rw (← c.self.view_is) (inserted c.args.text.now c.self.inside.texts.keys c.in_ok-owned.owned c.insert.new.self.keys new c.in_ok-owned.ensures.ok c.in_ok-insert.ensures.keys)

pub returns-clause-given : goal.returns-clause-given
returns-clause-given c = rw (returns-clause-table c, returns-clause-number c) (given c.args.text.now c.args.self.now)

pub returns-clause-within : goal.returns-clause-within
returns-clause-within c = slice_get_within _ _ _ (returns-clause-given c)

pub returns-clause-kept : goal.returns-clause-kept
returns-clause-kept c = rw (returns-clause-table c) (kept c.args.text.now c.args.self.now)
