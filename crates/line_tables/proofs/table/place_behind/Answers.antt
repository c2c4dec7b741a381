use Rattle.std.proofs.Common.{arith}
use Rattle.line_tables.proofs.Places.{behind}
use Rattle.line_tables.proofs.table.place_behind.Goals as goal

pub overflow_sub-line : goal.overflow_sub-line
overflow_sub-line c = (behind c.args.text.now c.args.base c.args.more c.args.at c.place_at-inner.result c.requires.base c.place_at-inner.ensures).line.0

pub overflow_add-line : goal.overflow_add-line
overflow_add-line c =
    let b = behind c.args.text.now c.args.base c.args.more c.args.at c.place_at-inner.result c.requires.base c.place_at-inner.ensures in
    omega (arith, b.line.1)

pub overflow_sub-col : goal.overflow_sub-col
overflow_sub-col c =
    let b = behind c.args.text.now c.args.base c.args.more c.args.at c.place_at-inner.result c.requires.base c.place_at-inner.ensures in
    (b.col c.if-inner-eq1.true).0

pub overflow_add-col : goal.overflow_add-col
overflow_add-col c =
    let b = behind c.args.text.now c.args.base c.args.more c.args.at c.place_at-inner.result c.requires.base c.place_at-inner.ensures in
    omega (arith, (b.col c.if-inner-eq1.true).1)

pub returns-then-inner-eq1 : goal.returns-then-inner-eq1
returns-then-inner-eq1 c =
    let b = behind c.args.text.now c.args.base c.args.more c.args.at c.place_at-inner.result c.requires.base c.place_at-inner.ensures in
    b.beside c.if-inner-eq1.true

pub returns-else-inner-eq1 : goal.returns-else-inner-eq1
returns-else-inner-eq1 c =
    let b = behind c.args.text.now c.args.base c.args.more c.args.at c.place_at-inner.result c.requires.base c.place_at-inner.ensures in
    b.below c.if-inner-eq1.false
