-- The marked types of locals, by slot.
use Rattle.std.proofs.Common.{◌≡◌, ℕ, zero, suc, ◌<◌, ◌≤◌, List, [], ◌∷◌, ◌++◌, length, refl, ap, ◌∙◌, arith}
use Rattle.std.specs.Prelude.{slice_set}
use Rattle.class_world.specs.declared.world.JavaType.{JavaType}
use Rattle.class_world.specs.declared.world.JavaType.TheVariants as ty
use Rattle.extract_constraints.specs.Links as li

-- one of none behind those that are there changes nothing for a slot beyond them
pub one_more : (ls : List JavaType) (n : ℕ) (t : JavaType) → length ls ≤ n → li.with_local (ls ++ (ty.Null ∷ [])) n t ≡ li.with_local ls n t
one_more [] zero t low = refl
one_more [] (suc n) t low = refl
one_more (x ∷ xs) zero t low = absurd (omega (arith, low))
one_more (x ∷ xs) (suc n) t low = ap (λ ys. x ∷ ys) (one_more xs n t (omega (arith, low)))

pub local_in : (ls : List JavaType) (n : ℕ) (t : JavaType) → n < length ls → slice_set ls n t ≡ li.with_local ls n t
local_in [] n t low = absurd (omega (arith, low))
local_in (x ∷ xs) zero t low = refl
local_in (x ∷ xs) (suc n) t low = ap (λ ys. x ∷ ys) (local_in xs n t (omega (arith, low)))

behind : (ls : List JavaType) (t : JavaType) → ls ++ (t ∷ []) ≡ li.with_local ls (length ls) t
behind [] t = refl
behind (x ∷ xs) t = ap (λ ys. x ∷ ys) (behind xs t)

pub local_behind : (ls : List JavaType) (n : ℕ) (t : JavaType) → length ls ≡ n → ls ++ (t ∷ []) ≡ li.with_local ls n t
local_behind ls n t is = behind ls t ∙ ap (λ n. li.with_local ls n t) is
