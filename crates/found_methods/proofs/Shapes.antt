-- A method that overrides has the name and the number of parameters of what it overrides.
use Rattle.std.proofs.Common.{◌≡◌, ℕ, List, Some, sym, ap, ◌∙◌, length}
use Rattle.std.specs.Prelude.{slice_get}
use Rattle.std.specs.List.{Contains}
use Rattle.java_tree.specs.declared.tree.Name.{Name}
use Rattle.class_world.specs.declared.world.World.{World}
use Rattle.class_world.specs.declared.world.MethodInfo.{MethodInfo}
use Rattle.class_world.specs.Signatures.{IsMethod, HaveOneSignatureIn}
use Rattle.class_world.specs.Inheritance.{IsMemberMethod}
use Rattle.class_world.specs.Overriding as by
use Rattle.class_world.specs.Overriding.{Overriding}
use Rattle.member_methods.specs.Methods.{AreNamed}
use Rattle.method_ties.proofs.Members.{one_method, one_shape}
use Rattle.found_methods.specs.Found.{HaveOverriders}

module _ (w : World) where
  abbrev HaveOneShape : ℕ → ℕ → Type 0
  HaveOneShape m k = (i : MethodInfo) × (j : MethodInfo) × IsMethod w m i × IsMethod w k j × (i.name ≡ j.name) × (length i.params ≡ length j.params)

  shape_in : (c m k : ℕ) → HaveOneSignatureIn w c m k → HaveOneShape m k
  shape_in c m k h =
      let name = h.0 in
      let shape = one_shape w c m k name.0 name.1 h name.2 name.3 in
      (name.0, name.1, name.2, name.3, shape.0, shape.1)

  shape_on : (m t k : ℕ) → HaveOneShape m t → HaveOneShape t k → HaveOneShape m k
  shape_on m t k a b =
      let same = one_method w t a.1 b.0 a.3 b.2 in
      (a.0, b.1, a.2, b.3, a.4 ∙ ap (λ (i : MethodInfo). i.name) same ∙ b.4, a.5 ∙ ap (λ (i : MethodInfo). length i.params) same ∙ b.5)

  overriding_shape : (m k : ℕ) → Overriding w m k → HaveOneShape m k
  overriding_shape m k (by.at_once (by.declared {c = c} r are)) = shape_in c m k r.3
  overriding_shape m k (by.at_once (by.inherited {c = c} r are agree)) = shape_in c m k r.2
  overriding_shape m k (by.through {t = t} g h other agree) = shape_on m t k (overriding_shape m t g) (overriding_shape t k h)

  -- all that override m are among the members with its name and number of parameters
  pub overriders_named : (o m : ℕ) (info : MethodInfo) (name : Name) (arity : ℕ) (ts : List ℕ) → slice_get w.methods m ≡ Some info → name ≡ info.name → arity ≡ length info.params → AreNamed w o name arity ts
      → HaveOverriders w o m ts
  overriders_named o m info name arity ts at called many named = (λ t has. ((named.0 t).0 has).0, λ t member over. there t member (overriding_shape t m over))
    where
      there : (t : ℕ) → IsMemberMethod w o t → HaveOneShape t m → Contains ts t
      there t member shape =
          let is = shape.3 in
          let same : shape.1 ≡ info = cc (is.0, at) in
          (named.0 t).1 (member, (shape.0, shape.2, shape.4 ∙ ap (λ (i : MethodInfo). i.name) same ∙ sym called, shape.5 ∙ ap (λ (i : MethodInfo). length i.params) same ∙ sym many))
