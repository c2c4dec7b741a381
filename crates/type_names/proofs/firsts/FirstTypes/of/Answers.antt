use Rattle.std.proofs.Common.{◌∙◌, false, sym, ap, cond, Some, None, get_or}
use Rattle.std.specs.Option.{option_or}
use Rattle.type_names.specs.declared.known.Known.{Known}
use Rattle.type_names.specs.Tables.{fits}
use Rattle.type_names.proofs.Lists.{place_take}
use Rattle.type_names.proofs.firsts.FirstTypes.of.Goals as goal

pub loop-at-preserved : goal.loop-at-preserved
loop-at-preserved c = λ q.
    let d : Known = record { «package» = 0; name = record { 0 = 0 }; is_public = false; user = false; node = None } in
    c.in_ok-note_keys.ensures q ∙ ap (λ o. option_or o (cond (fits q (get_or c.args.types.now c.loop-at.at d)) (Some c.loop-at.at) None)) (c.loop-at.invariant q)
    ∙ sym (place_take (fits q) c.args.types.now c.loop-at.at d c.loop-at-test.true)
