use Rattle.std.proofs.Common.{◌∷◌, ◌++◌, ◌∙◌, ap, sym}
use Rattle.core_meaning.specs.Texts.{printed_bytes}
use Rattle.java_strings.proofs.Bytes.{after_last, after_lone, after_pair}
use Rattle.java_strings.proofs.printed.add_first.Goals as goal

pub returns-in_ok-add_lone_unit-in-None-clause-printed : goal.returns-in_ok-add_lone_unit-in-None-clause-printed
returns-in_ok-add_lone_unit-in-None-clause-printed c =
    after_last _ _ c.args.unit c.args.after.now c.in-None.ensures.cases c.in_ok-add_lone_unit-in-None.ensures

pub returns-in_ok-add_pair-in-Some-clause-printed : goal.returns-in_ok-add_pair-in-Some-clause-printed
returns-in_ok-add_pair-in-Some-clause-printed c =
    after_pair _ _ c.args.unit c.in-Some.low.now c.in-Some.rest.now (sym c.is_pair.ensures ∙ c.if-is_pair.true) c.in_ok-add_pair-in-Some.ensures
    ∙ ap (λ us. c.args.to.now ++ printed_bytes (c.args.unit ∷ us)) (sym c.in-Some.ensures.cases.0)

pub returns-in_ok-add_lone_unit-in-Some-clause-printed : goal.returns-in_ok-add_lone_unit-in-Some-clause-printed
returns-in_ok-add_lone_unit-in-Some-clause-printed c =
    let us = c.in-Some.ensures.cases.0 in
    ap (λ us. c.add_lone_unit-else-is_pair.new.to ++ printed_bytes us) us
    ∙ after_lone _ _ c.args.unit c.in-Some.low.now c.in-Some.rest.now (sym c.is_pair.ensures ∙ c.if-is_pair.false) c.in_ok-add_lone_unit-in-Some.ensures
    ∙ ap (λ us. c.args.to.now ++ printed_bytes (c.args.unit ∷ us)) (sym us)
