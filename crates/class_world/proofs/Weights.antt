-- The weight of a type, a measure for what goes down it.
use Rattle.std.proofs.Common.{◌≡◌, ℕ, ◌+◌, ◌<◌, zero, suc, List, [], ◌∷◌, map, length, ap, ◌∙◌, arith}
use Rattle.std.specs.Prelude.{slice_index_or as get_or}
use Rattle.class_world.specs.declared.world.JavaType.{JavaType}
use Rattle.class_world.specs.declared.world.JavaType.TheVariants as ty
use Rattle.class_world.specs.declared.world.JavaType.TheOpen as f
use Rattle.class_world.specs.declared.world.JavaType.TheFolds.{fold-JavaType, fold_out-JavaType, map-JavaType}

abbrev pub total : List ℕ → ℕ
total [] = 0
total (n ∷ ns) = n + total ns + 1

abbrev pub weigh : f.JavaType-F ℕ → ℕ
weigh (f.Class c ns) = total ns + 1
weigh (f.Array n) = n + 1
weigh _ = 1

abbrev pub weight : JavaType → ℕ
weight = fold-JavaType ℕ weigh

abbrev pub weights : List JavaType → ℕ
weights xs = total (map weight xs)

pub weight_class : (c : ℕ) (xs : List JavaType) → weight (ty.Class c xs) ≡ weights xs + 1
weight_class c xs = fold_out-JavaType ℕ weigh (ty.Class c xs) ∙ ap (λ L. weigh (map-JavaType JavaType ℕ weight L)) (ty.outs-Class c xs)

pub weight_array : (x : JavaType) → weight (ty.Array x) ≡ weight x + 1
weight_array x = fold_out-JavaType ℕ weigh (ty.Array x) ∙ ap (λ L. weigh (map-JavaType JavaType ℕ weight L)) (ty.outs-Array x)

-- an element weighs less than its list
pub lighter : (xs : List JavaType) (k : ℕ) (x : JavaType) → k < length xs → x ≡ get_or xs k x → weight x < weights xs
lighter [] k x lt e = absurd (omega (arith, lt))
lighter (y ∷ ys) zero x lt e = let same : weight x ≡ weight y = ap weight e in omega (arith, same)
lighter (y ∷ ys) (suc k) x lt e = let low = lighter ys k x (omega (arith, lt)) e in omega (arith, low)
