-- The type of a name in a file, and the first operation of a list.
use Rattle.std.proofs.Common.{◌≡◌, ℕ, ◌≤◌, List, [], ◌∷◌, length, Option, Some, None, slice_get, slice_index_or, refl, sym, ◌∙◌, subst, arith}
use Rattle.std.specs.Prelude.{◌≢◌, codes, IfNone, IfSome}
use Rattle.java_tree.specs.Names.{AreDistinct}
use Rattle.java_tree.specs.declared.tree.Name.{Name}
use Rattle.java_tree.specs.declared.tree.SourceUnit.{SourceUnit}
use Rattle.class_world.specs.declared.world.World.{World}
use Rattle.unchecked_ops.specs.declared.program.Operation.{Operation}
use Rattle.generalize_declared.specs.declared.asked.CheckedSource.{CheckedSource}
use Rattle.generalize_declared.specs.Asked.{IsTarget, IsTargetAt}
use Rattle.generalize_declared.specs.Plans.{IsMain}

module _ (w : World) (s : CheckedSource) (file : ℕ) (word : List ℕ) (unit : SourceUnit) (there : slice_get s.units.now file ≡ Some unit) (name : ℕ) (named : slice_get s.names.now name ≡ Some word)
    (distinct : AreDistinct s.names.now) where
  at_name : (k : ℕ) → IsTarget w s file word k → IsTargetAt w unit.«package» name k
  at_name k h =
      let units : Some h.unit ≡ Some unit = sym h.there ∙ there in
      let one : h.unit ≡ unit = cc in
      subst (λ (u : SourceUnit). IsTargetAt w u.«package» name k) one (subst (λ (n : ℕ). IsTargetAt w h.unit.«package» n k) (distinct h.name name word h.named named) h.target)

  pub none_target : (o : Option ℕ) → IfNone o ((k : ℕ) → IsTargetAt w unit.«package» name k → ⊥) → IfNone o ((k : ℕ) → IsTarget w s file word k → ⊥)
  none_target None none = λ k h. none k (at_name k h)
  none_target (Some k) none = none

pub first_of : (os : List Operation) (d : Operation) → 1 ≤ length os → (x : Operation) × (xs : List Operation) × (os ≡ x ∷ xs) × (x.node.id ≡ (slice_index_or os 0 d).node.id)
first_of [] d more = absurd (omega (arith, more))
first_of (x ∷ xs) d more = (x, xs, refl, refl)

pub is_main : (names : List (List ℕ)) (o : Option Name) → IfSome o (λ n. slice_get names n.0 ≡ Some (codes "main")) → (o ≡ None → (n : ℕ) → slice_get names n ≢ Some (codes "main")) → IsMain names o
is_main names (Some n) found absent = found
is_main names None found absent = absent refl
