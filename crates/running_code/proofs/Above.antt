-- What the fields of a class and those above it hold, a class at a time.
use Rattle.std.proofs.Common.{◌≡◌, ℕ, ◌-◌, ◌<◌, zero, suc, List, [], ◌∷◌, ◌++◌, Some, map, refl, ap, ◌∙◌, arith}
use Rattle.std.specs.Prelude.{slice_get}
use Rattle.class_world.specs.declared.world.World.{World}
use Rattle.core_meaning.specs.Code.{declared_fields, fields_above, own_fields, superclass}
use Rattle.running_code.specs.Types.{held_above, held_in, own_held}

map_joined : {A B : Type 0} (f : A → B) (xs ys : List A) → map f (xs ++ ys) ≡ map f xs ++ map f ys
map_joined f [] ys = refl
map_joined f (x ∷ xs) ys = ap (λ l. f x ∷ l) (map_joined f xs ys)

pub held_step : (n : ℕ) (w : World) (k : ℕ) → 0 < n → held_above n w (Some k) ≡ held_above (n - 1) w (superclass w k) ++ own_held w (declared_fields (slice_get w.types k))
held_step zero w k some = absurd (omega (arith, some))
held_step (suc m) w k some =
    let less : m ≡ suc m - 1 = omega arith in
    map_joined (held_in w) (fields_above m w (superclass w k)) (own_fields w k)
    ∙ ap (λ n. held_above n w (superclass w k) ++ own_held w (declared_fields (slice_get w.types k))) less
