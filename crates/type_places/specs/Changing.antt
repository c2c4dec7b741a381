-- What changes together with the head of a place.
use Rattle.std.specs.Prelude.{◌≡◌, ℕ, zero, suc, ◌<◌, Bool, true, false, ◌&&◌, ◌||◌, ◌==◌, nat_le, nat_lt, ◌↔◌, IsTrue, List, [], ◌∷◌, length}
use Rattle.class_world.specs.declared.world.World.{World}
use Rattle.class_world.specs.Overriding.{IsFamily}
use Rattle.type_places.specs.declared.changes.Changes.{Changes}
use Rattle.type_places.specs.declared.places.Declared.{Declared}
use Rattle.type_places.specs.declared.places.Declared.TheVariants as declared
use Rattle.type_places.specs.Changes.{is_field, is_param, is_result, is_slot}

-- the flags with that of a number set; new ones before it are not
abbrev pub with_flag : ℕ → List Bool → List Bool
with_flag zero [] = true ∷ []
with_flag zero (b ∷ bs) = true ∷ bs
with_flag (suc k) [] = false ∷ with_flag k []
with_flag (suc k) (b ∷ bs) = b ∷ with_flag k bs

abbrev pub with_flags : List ℕ → List Bool → List Bool
with_flags [] bs = bs
with_flags (x ∷ xs) bs = with_flags xs (with_flag x bs)

abbrev pub is_among : List ℕ → ℕ → Bool
is_among [] k = false
is_among (x ∷ xs) k = (x == k) || is_among xs k

abbrev pub is_declared_field : Declared → ℕ → Bool
is_declared_field (declared.Fields fs) f = is_among fs f
is_declared_field _ f = false

abbrev pub is_declared_result : Declared → ℕ → Bool
is_declared_result (declared.Result method) m = method == m
is_declared_result _ m = false

-- a local of the body of m, by its slot and a byte of its scope
abbrev pub is_declared_local : Declared → (m slot at : ℕ) → Bool
is_declared_local (declared.Locals body slots scope) m k at = ((body == m) && (nat_le scope.from at && nat_lt at scope.to)) && is_among slots k
is_declared_local _ m k at = false

-- a method of the world is of the family of another one
abbrev pub IsTied : World → (method m : ℕ) → Type 0
IsTied w method m = (method < length w.methods) × IsFamily w method m

abbrev pub IsDeclaredParam : World → Declared → (m index : ℕ) → Type 0
IsDeclaredParam w (declared.Param method index) m i = (i ≡ index) × IsTied w method m
IsDeclaredParam w _ m i = ⊥

-- What is declared changes, the same parameter of a family together, and nothing else. Parameters have the slots of their places.
pub record IsChange (w : World) (old : ℕ) (d : Declared) (new : ℕ) (c : Changes) : Type 0 where
  pub from : c.old ≡ old
  pub to : c.new ≡ new
  pub field : (f : ℕ) → is_field c f ≡ is_declared_field d f
  pub result : (m : ℕ) → is_result c m ≡ is_declared_result d m
  pub param : (m i : ℕ) → IsTrue (is_param c m i) ↔ IsDeclaredParam w d m i
  pub slot : (m k at : ℕ) → is_slot c m k at ≡ (is_param c m k || is_declared_local d m k at)
