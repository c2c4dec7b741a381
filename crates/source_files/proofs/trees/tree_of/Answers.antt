use Rattle.std.proofs.Common.{◌≡◌, Err, refl, ap, ◌∙◌, subst, arith}
use Rattle.java_tree.specs.View.{unit_plain}
use Rattle.java_grammar.specs.Interned.{interned}
use Rattle.java_parse_decl.specs.Found.{IsAnswer, UnlessNoMemory}
use Rattle.source_files.proofs.Parsing.{unit_few, next_is, none_is}
use Rattle.source_files.proofs.trees.tree_of.Goals as goal

pub number_unit-next-requires : goal.number_unit-next-requires
number_unit-next-requires c =
    let few = unit_few c.args.text.now c.parse_unit.new.names c.args.tokens.now c.args.first (unit_plain c.in-Ok.unit) c.in-Ok.ensures.found in
    omega (arith, few, c.requires.few, c.requires.numbers)

pub returns-in-Ok-clause-read : goal.returns-in-Ok-clause-read
returns-in-Ok-clause-read c count allowed =
    next_is c.args.text.now c.args.names.now c.parse_unit.new.names c.args.tokens.now c.args.first c.in-Ok.ensures.table
    c.in-Ok.unit c.number_unit-next.new.unit c.number_unit-next.result c.in-Ok.ensures.found c.number_unit-next.ensures.count c.number_unit-next.ensures.tree

pub returns-in-Err-Bad-clause-read : goal.returns-in-Err-Bad-clause-read
returns-in-Err-Bad-clause-read c count allowed =
    let bad = c.in-Err-Bad.is ∙ ap Err c.in-Err-Bad.field-0-is in
    let table = subst (λ r. UnlessNoMemory r (c.parse_unit.new.names ≡ interned c.args.text.now c.args.tokens.now c.args.names.now)) bad c.parse_unit.ensures.table in (
      refl,
      none_is c.args.text.now c.args.names.now c.parse_unit.new.names c.args.tokens.now c.args.first table count _ c.place_of.result allowed
          (λ x is. subst (λ r. IsAnswer r x) bad (c.parse_unit.ensures.only x is)) c.place_of.ensures,
    )
