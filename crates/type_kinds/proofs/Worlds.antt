-- Types of a world, by their parts.
use Rattle.std.proofs.Common.{◌≡◌, ℕ, ◌+◌, zero, suc, List, [], ◌∷◌, Some, ◌↔◌, Bool, refl, sym, ◌∙◌, subst, arith}
use Rattle.std.specs.Prelude.{slice_get, IsTrue}
use Rattle.java_tree.specs.declared.tree.Primitive.{Primitive}
use Rattle.class_world.specs.declared.world.World.{World}
use Rattle.class_world.specs.declared.world.JavaType.{JavaType}
use Rattle.class_world.specs.declared.world.JavaType.TheVariants as ty
use Rattle.class_world.specs.Types.{IsReference, AreReferences, IsTypeOver, a_primitive, the_null, a_class, a_variable, an_array}
use Rattle.class_world.specs.Sound.{IsOfWorld}
use Rattle.class_world.proofs.Forms.{primitive_kind, null_kind, class_kind, variable_kind, array_kind, same_element}
use Rattle.class_world.proofs.Orders.{class_parts, over_more}
use Rattle.type_kinds.specs.OfWorld.{AreArgs, Takes}

-- arguments of the world, over as many variables as all of them need
abbrev pub AreArgsOver : World → ℕ → List JavaType → Type 0
AreArgsOver w n xs = AreReferences xs × ((k : ℕ) (a : JavaType) → slice_get xs k ≡ Some a → IsTypeOver w n a)

one_more : (w : World) (n m : ℕ) (x : JavaType) (xs : List JavaType) → IsReference x → IsTypeOver w n x → AreArgsOver w m xs → AreArgsOver w (n + m) (x ∷ xs)
one_more w n m x xs r h hs = (refs, parts)
  where
    refs : AreReferences (x ∷ xs)
    refs zero a e = let same : x ≡ a = cc e in subst IsReference same r
    refs (suc k) a e = hs.0 k a e

    parts : (k : ℕ) (a : JavaType) → slice_get (x ∷ xs) k ≡ Some a → IsTypeOver w (n + m) a
    parts zero a e = let same : x ≡ a = cc e in subst (IsTypeOver w (n + m)) same (over_more w n (n + m) x (omega arith) h)
    parts (suc k) a e = over_more w m (n + m) a (omega arith) (hs.1 k a e)

pub args_over : (w : World) (xs : List JavaType) → AreArgs w xs → (n : ℕ) × AreArgsOver w n xs
args_over w [] h = (0, (λ k a e. absurd (cc e), λ k a e. absurd (cc e)))
args_over w (x ∷ xs) h = let rest = args_over w xs h.2 in (h.1.0 + rest.0, one_more w h.1.0 rest.0 x xs h.0 h.1.1 rest.1)

pub args_from : (w : World) (n : ℕ) (xs : List JavaType) → AreArgsOver w n xs → AreArgs w xs
args_from w n [] h = tt
args_from w n (x ∷ xs) h = (h.0 zero x refl, (n, h.1 zero x refl), args_from w n xs (λ k a e. h.0 (suc k) a e, λ k a e. h.1 (suc k) a e))

pub class_of_world : (w : World) (t : JavaType) (c : ℕ) (xs : List JavaType) → t ≡ ty.Class c xs → Takes w c xs → AreArgs w xs → IsOfWorld w t
class_of_world w t c xs is h args =
    let over = args_over w xs args in
    (over.0, subst (IsTypeOver w over.0) (sym is) (a_class h.1 h.2 over.1.0 over.1.1))

pub class_takes : (w : World) (t : JavaType) (c : ℕ) (xs : List JavaType) → t ≡ ty.Class c xs → IsOfWorld w t → Takes w c xs × AreArgs w xs
class_takes w t c xs is h =
    let parts = class_parts w h.0 t c xs h.1 is in
    ((parts.0, parts.1, parts.2), args_from w h.0 xs (parts.3, parts.4))

pub primitive_of_world : (w : World) (t : JavaType) (p : Primitive) → t ≡ ty.Prim p → IsOfWorld w t
primitive_of_world w t p is = (0, subst (IsTypeOver w 0) (sym is) (a_primitive p))

pub null_of_world : (w : World) (t : JavaType) → t ≡ ty.Null → IsOfWorld w t
null_of_world w t is = (0, subst (IsTypeOver w 0) (sym is) the_null)

pub variable_of_world : (w : World) (t : JavaType) (k : ℕ) → t ≡ ty.Var k → IsOfWorld w t
variable_of_world w t k is = (k + 1, subst (IsTypeOver w (k + 1)) (sym is) (a_variable (omega arith)))

pub array_of_world : (w : World) (t x : JavaType) → t ≡ ty.Array x → (x ≡ ty.Null → ⊥) → IsOfWorld w x → IsOfWorld w t
array_of_world w t x is some h = (h.0, subst (IsTypeOver w h.0) (sym is) (an_array some h.1))

pub array_parts : (w : World) (n : ℕ) (t x : JavaType) → IsTypeOver w n t → t ≡ ty.Array x → (x ≡ ty.Null → ⊥) × IsTypeOver w n x
array_parts w n t x (a_primitive p) e = absurd (cc (primitive_kind p, array_kind x, e))
array_parts w n t x the_null e = absurd (cc (null_kind, array_kind x, e))
array_parts w n t x (a_variable {k = k} lt) e = absurd (cc (variable_kind k, array_kind x, e))
array_parts w n t x (a_class {c = c} {args = ys} at counts refs parts) e = absurd (cc (class_kind c ys, array_kind x, e))
array_parts w n t x (an_array {element = y} some part) e =
    let same : y ≡ x = same_element y x e in
    (λ null. let none = some (same ∙ null) in none, subst (IsTypeOver w n) same part)

pub class_told : (w : World) (t : JavaType) (c : ℕ) (xs ys zs : List JavaType) (r : Bool) → t ≡ ty.Class c xs → ys ≡ xs → zs ≡ xs → Takes w c ys → IsTrue r ↔ AreArgs w zs → IsTrue r ↔ IsOfWorld w t
class_told w t c xs ys zs r is e i takes told = (
  λ h. class_of_world w t c xs is (subst (Takes w c) e takes) (subst (AreArgs w) i (told.0 h)),
  λ h. told.1 (subst (AreArgs w) (sym i) (class_takes w t c xs is h).1),
)

pub array_told : (w : World) (t x y z : JavaType) (r : Bool) → t ≡ ty.Array x → y ≡ x → z ≡ x → (y ≡ ty.Null → ⊥) → IsTrue r ↔ IsOfWorld w z → IsTrue r ↔ IsOfWorld w t
array_told w t x y z r is e i some told = (
  λ h. array_of_world w t x is (λ null. let no = some (e ∙ null) in no) (subst (IsOfWorld w) i (told.0 h)),
  λ h. told.1 (h.0, subst (IsTypeOver w h.0) (sym i) (array_parts w h.0 t x h.1 is).1),
)
