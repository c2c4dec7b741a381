use Rattle.std.proofs.Common.{length, refl, sym, ◌∙◌}
use Rattle.std.proofs.lemmas.Bool.{true≢false}
use Rattle.std.proofs.lemmas.Option.{slice_get_read}
use Rattle.class_world.specs.declared.world.TypeInfo.{TypeInfo}
use Rattle.extract_interface.specs.Asked.{TakesName}
use Rattle.extract_interface.proofs.Firsts.{each_all, each_next}
use Rattle.extract_interface.proofs.taken.is_of_type.Goals as goal

pub loop-info-preserved : goal.loop-info-preserved
loop-info-preserved c =
    let types = c.args.types.now in
    let info = c.info-item.result in
    let at = slice_get_read types (length types) c.loop-info.info-index info refl c.loop-info-test.true c.info-item.is in
    each_next (λ (i : TypeInfo). TakesName c.args.names.now c.args.word.now i → ⊥) types c.loop-info.info-index info at (λ p. true≢false (sym (c.takes_name.ensures.1 p) ∙ c.if-takes_name.false)) c.loop-info.invariant

pub returns : goal.returns
returns c = (
  λ never. absurd (true≢false (sym never)),
  λ h. absurd (each_all (λ (i : TypeInfo). TakesName c.args.names.now c.args.word.now i → ⊥) c.args.types.now c.loop-info.info-index c.loop-info-test.false c.loop-info.invariant h.0 h.1 h.2),
)
