-- Up from a type over the shortcut of its class.
use Rattle.std.proofs.Common.{◌≡◌, ℕ, List, Some, inl, map, sym, ap, ◌∙◌, subst, length}
use Rattle.std.specs.Prelude.{slice_get, IfSome}
use Rattle.class_world.specs.declared.world.World.{World}
use Rattle.class_world.specs.declared.world.TypeInfo.{TypeInfo}
use Rattle.class_world.specs.declared.world.Above.{Above}
use Rattle.class_world.specs.declared.world.JavaType.{JavaType}
use Rattle.class_world.specs.declared.world.JavaType.TheVariants as ty
use Rattle.class_world.specs.Types.{substitute, with_own}
use Rattle.class_world.specs.DirectSupers.{IsDirectSuper}
use Rattle.class_world.specs.Subtypes.{Subtype, through, declared}
use Rattle.class_world.specs.Sound.{AreSupers, HaveClassSupers, IsShortcut, IsSuper}
use Rattle.class_world.specs.Merged.{HaveShortcuts, LeadsUp}
use Rattle.class_world.proofs.Forms.{same_class}
use Rattle.class_world.proofs.Substs.{put_class, put_own, length_map, variables_length}
use Rattle.class_world.proofs.Orders.{class_parts, class_supers, put_over}
use Rattle.class_world.proofs.Lifts.{put_below}
use Rattle.class_world.proofs.Steps.{put_same}

-- a declared supertype is above the class with its own variables
own_under : (w : World) → HaveClassSupers w → (c : ℕ) (info : TypeInfo) (d : JavaType) → slice_get w.types c ≡ Some info → IsDirectSuper w c d → Subtype w (with_own c info.params) d
own_under w sups c info d at direct =
    let alike : direct.0 ≡ info = cc (direct.1, at) in
    let over = (sups.supers c info d at direct).0 in
    let there : slice_get info.supers direct.2 ≡ Some d = ap (λ (i : TypeInfo). slice_get i.supers direct.2) (sym alike) ∙ direct.3 in
    declared (info, at, d, direct.2, there, inl (variables_length 0 info.params, sym (put_same w info.params d over)))

-- the type to which the shortcut of its class leads from a type that is not raw
pub past : (w : World) → AreSupers w → (c : ℕ) (info : TypeInfo) (xs : List JavaType) (s t : JavaType) → s ≡ ty.Class c xs → slice_get w.types c ≡ Some info → IsShortcut w c info.params t → LeadsUp w s (substitute xs t)
past w sound c info xs s t shape at short n is =
    let sups = class_supers w sound in
    let parts = class_parts w n s c xs is.0 shape in
    let same_parts = same_class is.1.0 c is.1.1 xs (sym is.1.3 ∙ shape) in
    let alike : is.1.2 ≡ info = cc (is.1.4, ap (slice_get w.types) same_parts.0 ∙ at) in
    let len : length xs ≡ info.params = ap length (sym same_parts.1) ∙ is.1.5 ∙ ap (λ (i : TypeInfo). i.params) alike in
    let far = short.0 in
    let made : substitute xs t ≡ ty.Class far.1.0 (map (substitute xs) far.1.1) = ap (substitute xs) far.1.3 ∙ put_class xs far.1.0 far.1.1 in
    let up = put_below w sups xs parts.3 (with_own c info.params) t (through (own_under w sups c info short.1.0 at short.1.1) short.1.2) in (
      (put_over w info.params n xs t len parts.3 parts.4 far.0, (far.1.0, map (substitute xs) far.1.1, far.1.2, made, far.1.4, length_map (substitute xs) far.1.1 ∙ far.1.5)),
      subst (λ s. Subtype w s (substitute xs t)) (put_own xs c info.params len ∙ sym shape) up,
    )

-- a type to which a declared supertype leads is a shortcut
pub from_super : (w : World) → AreSupers w → (c : ℕ) (info : TypeInfo) (d u : JavaType) → slice_get w.types c ≡ Some info → IsDirectSuper w c d → LeadsUp w d u → IsShortcut w c info.params u
from_super w sound c info d u at direct goes = let up = goes info.params (sound.supers c info d at direct) in (up.0, (d, direct, up.1))

-- what is read of the rows leads up
pub row_leads : (w : World) → AreSupers w → (rows : List Above) → HaveShortcuts w rows → (c : ℕ) (row : Above) (args : List JavaType) (s t u : JavaType) → slice_get rows c ≡ Some row → row.shortcut ≡ Some t
    → ((g : ℕ) (xs : List JavaType) → s ≡ ty.Class g xs → c ≡ g) → ((g : ℕ) (xs : List JavaType) → s ≡ ty.Class g xs → args ≡ xs) → u ≡ substitute args t → LeadsUp w s u
row_leads w sound rows have c row args s t u there short read read' made n is =
    let class = is.1 in
    let number = read class.0 class.1 class.3 in
    let far = subst (λ o. IfSome o (λ t. IsShortcut w class.0 class.2.params t)) short (have class.0 class.2 row class.4 (ap (slice_get rows) (sym number) ∙ there)) in
    let same_type : u ≡ substitute class.1 t = made ∙ ap (λ xs. substitute xs t) (read' class.0 class.1 class.3) in
    let up = past w sound class.0 class.2 class.1 s t class.3 class.4 far n is in
    (subst (IsSuper w n) (sym same_type) up.0, subst (Subtype w s) (sym same_type) up.1)
