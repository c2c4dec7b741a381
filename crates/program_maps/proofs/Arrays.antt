-- Arrays of types that are moved.
use Rattle.std.proofs.Common.{◌≡◌, ℕ, Bool, sym, ap, ◌∙◌}
use Rattle.std.specs.Prelude.{◌↔◌, IsTrue}
use Rattle.class_world.specs.declared.world.JavaType.{JavaType}
use Rattle.class_world.specs.declared.world.JavaType.TheVariants as ty
use Rattle.class_world.specs.declared.world.JavaType.TheFolds.{fold_out-JavaType, map-JavaType}
use Rattle.class_world.specs.Types.{erased}
use Rattle.class_world.proofs.Forms.{same_element}
use Rattle.class_world.proofs.Substs.{erased_array}
use Rattle.program_maps.specs.Ways.{moved, moved_form}

moved_array : (f : ℕ → ℕ) (x : JavaType) → moved f (ty.Array x) ≡ ty.Array (moved f x)
moved_array f x = fold_out-JavaType JavaType (moved_form f) (ty.Array x) ∙ ap (λ L. moved_form f (map-JavaType JavaType JavaType (moved f) L)) (ty.outs-Array x)

-- arrays are moved by erasure where their elements are
pub by_elements : (f : ℕ → ℕ) (s t x y x' y' : JavaType) (r : Bool) → s ≡ ty.Array x → t ≡ ty.Array y → x' ≡ x → y' ≡ y
    → IsTrue r ↔ (erased y' ≡ moved f (erased x')) → IsTrue r ↔ (erased t ≡ moved f (erased s))
by_elements f s t x y x' y' r is_s is_t same_x same_y told =
    let below : erased t ≡ ty.Array (erased y') = ap erased (is_t ∙ ap ty.Array (sym same_y)) ∙ erased_array y' in
    let above : moved f (erased s) ≡ ty.Array (moved f (erased x')) = ap (λ z. moved f (erased z)) (is_s ∙ ap ty.Array (sym same_x)) ∙ ap (moved f) (erased_array x') ∙ moved_array f (erased x') in
    (λ h. below ∙ ap ty.Array (told.0 h) ∙ sym above, λ h. told.1 (same_element _ _ (sym below ∙ h ∙ above)))
