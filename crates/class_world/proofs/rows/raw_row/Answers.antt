use Rattle.std.proofs.Common.{◌≡◌, ℕ, ◌∙◌, ◌↔◌, [], length, ap, sym, subst}
use Rattle.class_world.specs.declared.world.JavaType.TheVariants as ty
use Rattle.class_world.specs.Sound.{IsSet}
use Rattle.class_world.specs.Climbs.{HasBase}
use Rattle.class_world.proofs.Words.{words_back}
use Rattle.class_world.proofs.rows.raw_row.Goals as goal

pub returns : goal.returns
returns c = λ some.
    let size : length c.fill_raw.new.words ≡ length c.in_ok-words.words.items = c.fill_raw.auto.words ∙ ap length c.as_mut_slice.ensures.value in
    subst (λ ws. (g : ℕ) → IsSet ws g ↔ HasBase c.args.w.now (ty.Class c.args.c []) g) (sym (words_back c.fill_raw.new.words c.in_ok-words.words.items c.in_ok-words.words.len size c.in_ok-words.words.ok.0))
    c.fill_raw.ensures
