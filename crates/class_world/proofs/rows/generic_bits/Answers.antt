use Rattle.std.proofs.Common.{◌≡◌, ◌∙◌, length, ap, sym, subst}
use Rattle.class_world.specs.Climbs.{MarkGeneric}
use Rattle.class_world.proofs.Words.{words_back}
use Rattle.class_world.proofs.rows.generic_bits.Goals as goal

pub returns : goal.returns
returns c =
    let size : length c.mark_generic.new.words ≡ length c.in_ok-words.words.items = c.mark_generic.auto.words ∙ ap length c.as_mut_slice.ensures.value in
    subst (MarkGeneric c.args.w.now) (sym (words_back c.mark_generic.new.words c.in_ok-words.words.items c.in_ok-words.words.len size c.in_ok-words.words.ok.0)) c.mark_generic.ensures
