-- The results of methods, from what their crate answers.
use Rattle.std.proofs.Common.{◌≡◌, ℕ, Bool, Option, None, Some, sym, ◌∙◌, subst, ◌↔◌}
use Rattle.std.specs.Prelude.{IsTrue, IfSome, IfNone}
use Rattle.class_world.specs.declared.world.World.{World}
use Rattle.class_world.specs.declared.world.JavaType.{JavaType}
use Rattle.class_world.proofs.Forms.{same_class}
use Rattle.seen_methods.specs.Seen.{HasResult, TellsResult}
use Rattle.iterables.specs.Walks.{iterator_type}
use Rattle.iterables.specs.Told.{FindsOne, Gives, GivesIterator}

module _ (w : World) (c m : ℕ) where
  pub result_told : (r : Option JavaType) → TellsResult w c m (Some r) → FindsOne (Gives w c m) r
  result_told None told = λ t h. let never : Some t ≡ None = told.1 (Some t) h in absurd (cc never)
  result_told (Some r) told = (told.0, λ t h. let both : Some t ≡ Some r = told.1 (Some t) h in cc both)

  pub same_told : (r t : JavaType) (b : Bool) → FindsOne (Gives w c m) (Some r) → IsTrue b ↔ (r ≡ t) → IsTrue b ↔ HasResult w c m (Some t)
  same_told r t b found same = (λ e. subst (Gives w c m) (same.0 e) found.0, λ h. same.1 (sym (found.1 t h)))

  pub iterator_told : (r : JavaType) (o : Option ℕ) → FindsOne (Gives w c m) (Some r) → IfSome o (λ d. r ≡ iterator_type d) → IfNone o ((d : ℕ) → r ≡ iterator_type d → ⊥) → FindsOne (GivesIterator w c m) o
  iterator_told r None found some none = λ d h. none d (sym (found.1 (iterator_type d) h))
  iterator_told r (Some d) found some none = (subst (Gives w c m) some found.0, λ e h. (same_class e d _ _ (found.1 (iterator_type e) h ∙ some)).0)
