-- Whether types were read, form by form.
use Rattle.std.proofs.Common.{◌≡◌, ℕ, Bool, true, List, ◌↔◌, IsTrue, refl, sym, subst}
use Rattle.java_tree.specs.declared.tree.Primitive.{Primitive}
use Rattle.class_world.specs.declared.world.JavaType.{JavaType}
use Rattle.class_world.specs.declared.world.JavaType.TheVariants as ty
use Rattle.class_world.proofs.Forms.{class_kind, array_kind, same_class, same_element}
use Rattle.method_rules.specs.Repeats.{IsRead, a_primitive, a_class, a_variable, an_array, AreRead}

-- ---- what is read of a type that was read

class_read : (t : JavaType) (c : ℕ) (xs : List JavaType) → IsRead t → t ≡ ty.Class c xs → AreRead xs
class_read t c xs (a_primitive p) e = absurd (cc e)
class_read t c xs (a_class d ys all) e = subst AreRead (same_class d c ys xs e).1 all
class_read t c xs (a_variable k) e = absurd (cc e)
class_read t c xs (an_array x part) e = absurd (cc (array_kind x, class_kind c xs, e))

array_read : (t x : JavaType) → IsRead t → t ≡ ty.Array x → IsRead x
array_read t x (a_primitive p) e = absurd (cc e)
array_read t x (a_class c xs all) e = absurd (cc (class_kind c xs, array_kind x, e))
array_read t x (a_variable k) e = absurd (cc e)
array_read t x (an_array y part) e = subst IsRead (same_element y x e) part

-- ---- what the tests tell

pub primitive_told : (t : JavaType) (p : Primitive) → t ≡ ty.Prim p → IsTrue true ↔ IsRead t
primitive_told t p e = (λ h. subst IsRead (sym e) (a_primitive p), λ h. refl)

pub class_told : (r : Bool) (t : JavaType) (c : ℕ) (xs ys : List JavaType) → t ≡ ty.Class c xs → ys ≡ xs → IsTrue r ↔ AreRead ys → IsTrue r ↔ IsRead t
class_told r t c xs ys e same told = (
  λ h. subst IsRead (sym e) (a_class c xs (subst AreRead same (told.0 h))),
  λ h. told.1 (subst AreRead (sym same) (class_read t c xs h e)),
)

pub variable_told : (t : JavaType) (k : ℕ) → t ≡ ty.Var k → IsTrue true ↔ IsRead t
variable_told t k e = (λ h. subst IsRead (sym e) (a_variable k), λ h. refl)

pub array_told : (r : Bool) (t x y : JavaType) → t ≡ ty.Array x → y ≡ x → IsTrue r ↔ IsRead y → IsTrue r ↔ IsRead t
array_told r t x y e same told = (
  λ h. subst IsRead (sym e) (an_array x (subst IsRead same (told.0 h))),
  λ h. told.1 (subst IsRead (sym same) (array_read t x h e)),
)
