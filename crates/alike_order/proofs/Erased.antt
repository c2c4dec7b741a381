-- Erased types by their forms, and what a map of numbers makes of each.
use Rattle.std.proofs.Common.{◌≡◌, ℕ, List, [], map, sym, ap, ◌∙◌, subst}
use Rattle.java_tree.specs.declared.tree.Primitive.{Primitive}
use Rattle.class_world.specs.declared.world.JavaType.{JavaType, roll-JavaType}
use Rattle.class_world.specs.declared.world.JavaType.TheVariants as ty
use Rattle.class_world.specs.declared.world.JavaType.TheOpen as form
use Rattle.class_world.specs.declared.world.JavaType.TheOpen.{JavaType-F}
use Rattle.class_world.specs.declared.world.JavaType.TheFolds.{fold_out-JavaType, map-JavaType, ind-JavaType}
use Rattle.class_world.specs.Types.{erased, IsReference, of_class, of_variable, of_array}
use Rattle.class_world.proofs.Forms.{class_kind, variable_kind, same_element, same_class}
use Rattle.class_world.proofs.Substs.{erased_class, erased_variable, erased_array}
use Rattle.program_maps.specs.Ways.{moved, moved_form}

-- a type that is its own erasure
pub data IsErased : JavaType → Type 0 where
  plain_primitive : (p : Primitive) → IsErased (ty.Prim p)
  plain_null : IsErased ty.Null
  plain_class : (c : ℕ) → IsErased (ty.Class c [])
  plain_array : {x : JavaType} → IsErased x → IsErased (ty.Array x)

abbrev Claim : JavaType → Type 0
Claim t = erased t ≡ t → IsErased t

layer : (y : JavaType-F ((t : JavaType) × Claim t)) → Claim (roll-JavaType (map-JavaType ((t : JavaType) × Claim t) JavaType (λ e. e.0) y))
layer (form.Prim p) e = subst IsErased (sym (ty.rolls-Prim p)) (plain_primitive p)
layer form.Null e = subst IsErased (sym ty.rolls-Null) plain_null
layer (form.Class c ys) e =
    let xs : List JavaType = map (λ e. e.0) ys in
    let here : erased (ty.Class c xs) ≡ ty.Class c xs = subst (λ z. erased z ≡ z) (ty.rolls-Class c xs) e in
    let none = (same_class c c [] xs (sym (erased_class c xs) ∙ here)).1 in
    subst IsErased (sym (ty.rolls-Class c xs)) (subst (λ xs. IsErased (ty.Class c xs)) none (plain_class c))
layer (form.Var k) e =
    let here : erased (ty.Var k) ≡ ty.Var k = subst (λ z. erased z ≡ z) (ty.rolls-Var k) e in
    absurd (cc (class_kind 0 [], variable_kind k, sym (erased_variable k) ∙ here))
layer (form.Array y) e =
    let here : erased (ty.Array y.0) ≡ ty.Array y.0 = subst (λ z. erased z ≡ z) (ty.rolls-Array y.0) e in
    subst IsErased (sym (ty.rolls-Array y.0)) (plain_array (y.1 (same_element (erased y.0) y.0 (sym (erased_array y.0) ∙ here))))

pub is_erased : (t : JavaType) → erased t ≡ t → IsErased t
is_erased = ind-JavaType Claim (λ x y is. subst (λ z. Claim (roll-JavaType z)) is (layer y))

module _ (f : ℕ → ℕ) where
  abbrev level : JavaType-F JavaType → JavaType
  level L = moved_form f (map-JavaType JavaType JavaType (moved f) L)

  pub moved_primitive : (p : Primitive) → moved f (ty.Prim p) ≡ ty.Prim p
  moved_primitive p = fold_out-JavaType JavaType (moved_form f) (ty.Prim p) ∙ ap level (ty.outs-Prim p)

  pub moved_null : moved f ty.Null ≡ ty.Null
  moved_null = fold_out-JavaType JavaType (moved_form f) ty.Null ∙ ap level ty.outs-Null

  pub moved_class : (c : ℕ) → moved f (ty.Class c []) ≡ ty.Class (f c) []
  moved_class c = fold_out-JavaType JavaType (moved_form f) (ty.Class c []) ∙ ap level (ty.outs-Class c [])

  pub moved_array : (x : JavaType) → moved f (ty.Array x) ≡ ty.Array (moved f x)
  moved_array x = fold_out-JavaType JavaType (moved_form f) (ty.Array x) ∙ ap level (ty.outs-Array x)

  -- a reference type stays one
  pub refers_on : (t : JavaType) → IsReference t → IsReference (moved f (erased t))
  refers_on t (of_class c xs) = subst IsReference (sym (ap (moved f) (erased_class c xs) ∙ moved_class c)) (of_class _ _)
  refers_on t (of_variable k) = subst IsReference (sym (ap (moved f) (erased_variable k) ∙ moved_class 0)) (of_class _ _)
  refers_on t (of_array x) = subst IsReference (sym (ap (moved f) (erased_array x) ∙ moved_array (erased x))) (of_array _)
