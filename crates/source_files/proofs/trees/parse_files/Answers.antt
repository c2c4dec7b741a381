use Rattle.std.proofs.Common.{◌≡◌, length, sym, ap, ◌∙◌, subst, arith}
use Rattle.source_files.specs.Trees.{AreAllowed}
use Rattle.source_files.specs.Answers.{HasParsed}
use Rattle.source_files.proofs.Reading.{passed_up}
use Rattle.source_files.proofs.Parsing.{text_at, small_at, parsing_none, parsing_more, parsing_stops, parsing_all}
use Rattle.source_files.proofs.trees.parse_files.Goals as goal

pub loop-file-init : goal.loop-file-init
loop-file-init c = rw (c.in_ok-names.ensures, c.new-units.ensures) (parsing_none c.args.texts.now)

pub tokens_of-requires-clause-small : goal.tokens_of-requires-clause-small
tokens_of-requires-clause-small c =
    let at = text_at c.args.texts.now c.loop-file.file c.index-texts-file.result c.as_slice-text.result.now (omega arith) c.index-texts-file.is c.as_slice-text.ensures in
    small_at c.args.texts.now c.loop-file.file c.as_slice-text.result.now c.requires.small at

pub returns-in_err-tokens : goal.returns-in_err-tokens
returns-in_err-tokens c =
    let at = text_at c.args.texts.now c.loop-file.file c.index-texts-file.result c.as_slice-text.result.now (omega arith) c.index-texts-file.is c.as_slice-text.ensures in
    passed_up c.from_residual-in_err-tokens.result c.in_err-tokens.field-0.0 (HasParsed c.args.texts.now) c.from_residual-in_err-tokens.ensures.1
    (parsing_stops c.args.texts.now c.loop-file.file c.loop-file.first c.loop-file.count c.loop-file.names c.loop-file.units c.loop-file.invariant c.as_slice-text.result.now at
    c.in_err-tokens.field-0.0 (c.in_err-tokens.ensures c.loop-file.names c.loop-file.first))

pub tree_of-requires-clause-small : goal.tree_of-requires-clause-small
tree_of-requires-clause-small c =
    let at = text_at c.args.texts.now c.loop-file.file c.index-texts-file.result c.as_slice-text.result.now (omega arith) c.index-texts-file.is c.as_slice-text.ensures in
    small_at c.args.texts.now c.loop-file.file c.as_slice-text.result.now c.requires.small at

pub returns-in_err-unit : goal.returns-in_err-unit
returns-in_err-unit c =
    let at = text_at c.args.texts.now c.loop-file.file c.index-texts-file.result c.as_slice-text.result.now (omega arith) c.index-texts-file.is c.as_slice-text.ensures in
    let allowed = subst (λ ts. AreAllowed c.loop-file.count c.as_slice-text.result.now ts) (sym c.as_slice.ensures) c.in_ok-tokens.ensures in
    passed_up c.from_residual-in_err-unit.result c.in_err-unit.field-0.0 (HasParsed c.args.texts.now) c.from_residual-in_err-unit.ensures.1
    (parsing_stops c.args.texts.now c.loop-file.file c.loop-file.first c.loop-file.count c.loop-file.names c.loop-file.units c.loop-file.invariant c.as_slice-text.result.now at
    c.in_err-unit.field-0.0 (c.in_err-unit.ensures.read c.loop-file.count allowed))

pub loop-file-preserved : goal.loop-file-preserved
loop-file-preserved c =
    let at = text_at c.args.texts.now c.loop-file.file c.index-texts-file.result c.as_slice-text.result.now (omega arith) c.index-texts-file.is c.as_slice-text.ensures in
    let allowed = subst (λ ts. AreAllowed c.loop-file.count c.as_slice-text.result.now ts) (sym c.as_slice.ensures) c.in_ok-tokens.ensures in
    let count : c.len.result ≡ length c.as_slice.result.now = c.len.ensures ∙ ap length (sym c.as_slice.ensures) in
    let step = c.in_ok-unit.ensures in
    rw (c.in_ok-push.ensures.ok, count)
    (parsing_more c.args.texts.now c.loop-file.file c.loop-file.first c.loop-file.count c.loop-file.names c.loop-file.units c.loop-file.invariant c.as_slice-text.result.now at
    c.as_slice.result.now c.in_ok-unit.unit c.in_ok-unit.next c.tree_of.new.names allowed (step.read c.loop-file.count allowed) step.table step.kept step.distinct step.grown)

pub returns : goal.returns
returns c = parsing_all c.args.texts.now c.loop-file.file _ _ c.loop-file.names c.loop-file.units c.loop-file.invariant (omega arith)
