-- No class is below an array type.
use Rattle.std.proofs.Common.{◌≡◌, ℕ, Bool, true, false, List, [], refl, sym, ap, ◌∙◌, subst}
use Rattle.std.specs.Prelude.{IsTrue}
use Rattle.class_world.specs.declared.world.World.{World}
use Rattle.class_world.specs.declared.world.JavaType.{JavaType}
use Rattle.class_world.specs.declared.world.JavaType.TheVariants as ty
use Rattle.class_world.specs.Types.{erased}
use Rattle.class_world.specs.Sound.{IsOfWorld, IsSound}
use Rattle.class_world.specs.Subtypes.{Subtype}
use Rattle.class_world.proofs.Forms.{array_kind, class_kind}
use Rattle.class_world.proofs.Orders.{class_above, class_supers}
use Rattle.class_world.proofs.Substs.{erased_array}
use Rattle.core_meaning.specs.Code.{Code}
use Rattle.core_meaning.specs.Variables.{is_below}
use Rattle.running_code.specs.declared.running.Running.{Running}
use Rattle.running_code.specs.Running.{IsCode, IsReady}

no_array : (w : World) → IsSound w → (k : ℕ) (xs : List JavaType) (y : JavaType) → IsOfWorld w (ty.Class k xs) → Subtype w (ty.Class k xs) (ty.Array y) → ⊥
no_array w sound k xs y over h =
    let above = class_above w (class_supers w sound.declared) over.0 (ty.Class k xs) (ty.Array y) h k xs refl over.1 in
    absurd (cc (class_kind above.0.0 above.0.1, array_kind y, above.0.2))

untrue : (b : Bool) → (IsTrue b → ⊥) → false ≡ b
untrue true h = absurd (h refl)
untrue false h = refl

pub class_under_array : (g : Running) (c : Code) (k : ℕ) (t x : JavaType) → IsReady g → IsCode g c → t ≡ ty.Array x → false ≡ is_below c (ty.Class k []) t
class_under_array g c k t x ready told is =
    let sound : IsSound c.world = subst IsSound (sym told.world) ready.sound in
    untrue (c.sub (ty.Class k []) (erased t)) (λ yes.
    let both = (told.told.sub (ty.Class k []) (erased t)).0 yes in
    no_array c.world sound k [] (erased x) both.0.0 (subst (Subtype c.world (ty.Class k [])) (ap erased is ∙ erased_array x) both.1))
