use Rattle.java_tree.specs.View.{unit_plain}
use Rattle.java_parse_decl.proofs.Answered.{unit_found, unit_found_one, unit_fault, table_after}
use Rattle.java_parse_decl.proofs.read.parse_unit.Goals as goal

pub returns-in-Ok-clause-found : goal.returns-in-Ok-clause-found
returns-in-Ok-clause-found c =
    unit_found c.args.text.now c.toks.new.names c.args.tokens.now c.args.first c.in_ok-toks.toks c.as_slice.result.now c.as_slice.ensures c.in_ok-toks.ensures.toks c.in_ok-toks.ensures.one
    (unit_plain c.in-Ok.tree) c.in-Ok.ensures.found (unit_plain c.numbered.result) c.numbered.ensures

pub returns-in-Ok-clause-only : goal.returns-in-Ok-clause-only
returns-in-Ok-clause-only c =
    unit_found_one c.args.text.now c.toks.new.names c.args.tokens.now c.args.first c.in_ok-toks.toks c.as_slice.result.now c.as_slice.ensures c.in_ok-toks.ensures.toks c.in_ok-toks.ensures.one
    (unit_plain c.in-Ok.tree) c.in-Ok.ensures.only (unit_plain c.numbered.result) c.numbered.ensures

pub returns-clause-only : goal.returns-clause-only
returns-clause-only c =
    unit_fault c.args.text.now c.toks.new.names c.args.tokens.now c.args.first c.in_ok-toks.toks c.as_slice.result.now c.as_slice.ensures c.in_ok-toks.ensures.toks c.in_ok-toks.ensures.one
    c.in-Err.fault c.within.result c.within.ensures.memory.1 c.in-Err.ensures.only

pub returns-clause-table : goal.returns-clause-table
returns-clause-table c = table_after c.within.result _ c.in_ok-toks.ensures.table
