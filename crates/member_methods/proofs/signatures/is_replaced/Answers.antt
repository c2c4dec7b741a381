use Rattle.std.proofs.Common.{◌≡◌, Some, map, sym, ap, ◌∙◌, subst}
use Rattle.std.specs.Prelude.{slice_get}
use Rattle.std.specs.Option.{option_copied}
use Rattle.std.proofs.lemmas.Bool.{true≢false}
use Rattle.class_world.specs.Types.{substitute}
use Rattle.member_methods.specs.Signed.{AreSeen}
use Rattle.member_methods.proofs.Seen.{replaced_from, unseen_signature}
use Rattle.member_methods.proofs.signatures.is_replaced.Goals as goal

pub returns-in-Some-2 : goal.returns-in-Some-2
returns-in-Some-2 c = λ t own named.
    let w = c.args.w.now in
    let info = c.in-Some.info.now in
    let at : slice_get w.methods c.args.m ≡ Some info = sym c.get.ensures.value ∙ ap option_copied c.in-Some.is in
    let seen = subst (AreSeen w t info.owner) c.in-Some-2.is (c.in_ok-args.ensures t own) in
    let by = replaced_from w c.requires.sound t c.args.m c.args.methods.now info c.in-Some-2.args at seen named in
    let params : c.as_slice-in-Some-2.result.now ≡ info.params = c.as_slice-in-Some-2.ensures in
    let args : c.as_slice.result.now ≡ c.in-Some-2.args = c.as_slice.ensures in (
      λ h.
          let k = c.is_one_put.ensures.0 h in
          by.0 (k.0, k.1, k.2, k.3, sym (ap (λ xs. map (substitute xs) info.params) args) ∙ sym (ap (map (substitute c.as_slice.result.now)) params) ∙ k.4),
      λ h.
          let k = by.1 h in
          c.is_one_put.ensures.1 (k.0, k.1, k.2, k.3, ap (map (substitute c.as_slice.result.now)) params ∙ ap (λ xs. map (substitute xs) info.params) args ∙ k.4),
    )

pub returns-in-None : goal.returns-in-None
returns-in-None c = λ t own named.
    let w = c.args.w.now in
    let at : slice_get w.methods c.args.m ≡ Some c.in-Some.info.now = sym c.get.ensures.value ∙ ap option_copied c.in-Some.is in
    let none = subst (AreSeen w t c.in-Some.info.now.owner) c.in-None.is (c.in_ok-args.ensures t own) in
    (λ never. absurd (true≢false (sym never)), λ h. absurd (unseen_signature w t h.0 c.args.m c.in-Some.info.now at none h.2))
