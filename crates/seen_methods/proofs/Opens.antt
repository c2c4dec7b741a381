-- What is without type variables has only parts without.
use Rattle.std.proofs.Common.{◌≡◌, ℕ, zero, suc, List, ◌∷◌, Some, map, refl, sym, ap, ◌∙◌}
use Rattle.std.specs.Prelude.{slice_get, replicate}
use Rattle.class_world.specs.declared.world.JavaType.{JavaType}
use Rattle.class_world.specs.declared.world.JavaType.TheVariants as ty
use Rattle.class_world.specs.Types.{substitute}
use Rattle.class_world.proofs.Forms.{same_class, same_element, null_kind, variable_kind}
use Rattle.class_world.proofs.Substs.{put_class, put_array, put_at}
use Rattle.seen_methods.specs.Closed.{IsClosed, AreClosed}

pub open_class : (t : JavaType) (c : ℕ) (xs ys : List JavaType) → t ≡ ty.Class c xs → ys ≡ xs → IsClosed t → AreClosed ys
open_class t c xs ys shape is closed args =
    let whole : ty.Class c (map (substitute args) xs) ≡ ty.Class c xs = sym (put_class args c xs) ∙ ap (substitute args) (sym shape) ∙ closed args ∙ shape in
    ap (map (substitute args)) is ∙ (same_class c c (map (substitute args) xs) xs whole).1 ∙ sym is

pub open_array : (t x y : JavaType) → t ≡ ty.Array x → y ≡ x → IsClosed t → IsClosed y
open_array t x y shape is closed args =
    let whole : ty.Array (substitute args x) ≡ ty.Array x = sym (put_array args x) ∙ ap (substitute args) (sym shape) ∙ closed args ∙ shape in
    ap (substitute args) is ∙ same_element (substitute args x) x whole ∙ sym is

nulls : (k : ℕ) → slice_get (replicate (suc k) ty.Null) k ≡ Some ty.Null
nulls zero = refl
nulls (suc k) = nulls k

pub open_variable : (t : JavaType) (k : ℕ) → t ≡ ty.Var k → IsClosed t → ⊥
open_variable t k shape closed =
    let args : List JavaType = replicate (suc k) ty.Null in
    let e : ty.Null ≡ ty.Var k = sym (put_at args k ty.Null (nulls k)) ∙ ap (substitute args) (sym shape) ∙ closed args ∙ shape in
    absurd (cc (null_kind, variable_kind k, e))

pub open_front : (ts : List JavaType) (x : JavaType) (xs : List JavaType) → ts ≡ x ∷ xs → AreClosed ts → IsClosed x × AreClosed xs
open_front ts x xs is closed = (λ args. let e = parts args in cc e, λ args. let e = parts args in cc e)
  where
    parts : (args : List JavaType) → substitute args x ∷ map (substitute args) xs ≡ x ∷ xs
    parts args = ap (map (substitute args)) (sym is) ∙ closed args ∙ is
