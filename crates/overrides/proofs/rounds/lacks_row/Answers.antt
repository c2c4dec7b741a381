use Rattle.std.proofs.Common.{◌≡◌, ◌∙◌, None, inl, refl, sym}
use Rattle.overrides.specs.Tables.{value_at}
use Rattle.overrides.proofs.Places.{absent, present}
use Rattle.overrides.proofs.Lacking.{itself_lacks, later_lacks, none_lacks}
use Rattle.overrides.proofs.rounds.lacks_row.Goals as goal

pub returns-then-is_none-clause-lacks : goal.returns-then-is_none-clause-lacks
returns-then-is_none-clause-lacks c e =
    let value = value_at c.args.table.now c.args.m c.args.t in
    let none : value ≡ None = absent c.get.result value c.is_none.result c.get.ensures c.is_none.ensures c.if-is_none.true in
    (c.args.t, λ had. absurd (cc (none, had.1)), inl refl)

pub returns-in_default-clause-whole : goal.returns-in_default-clause-whole
returns-in_default-clause-whole c e =
    let has = present c.get.result (value_at c.args.table.now c.args.m c.args.t) c.is_none.result c.get.ensures c.is_none.ensures c.if-is_none.false in
    none_lacks c.args.table.now c.args.m c.args.t has c.in_default.ensures.first

pub returns-clause-lacks : goal.returns-clause-lacks
returns-clause-lacks c e =
    let so = sym c.is_some.ensures ∙ e in
    later_lacks c.args.table.now c.args.m c.args.t c.in-Some.k c.if-k-m.false c.first_lacking-2.result c.first_lacking-2.ensures.first so

pub returns-clause-whole : goal.returns-clause-whole
returns-clause-whole c e =
    let has = present c.get.result (value_at c.args.table.now c.args.m c.args.t) c.is_none.result c.get.ensures c.is_none.ensures c.if-is_none.false in
    let none = sym c.is_some.ensures ∙ e in
    itself_lacks c.args.table.now c.args.m c.args.t c.in-Some.k c.if-k-m.false has c.in-Some.ensures.first c.first_lacking-2.result c.first_lacking-2.ensures.first none
