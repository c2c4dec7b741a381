-- The keys of methods, and their numbers.
use Rattle.std.specs.Prelude.{◌≡◌, ℕ, Bool, nat_eq, ◌&&◌, List, Option, Some, slice_get, length}
use Rattle.std.specs.declared.hash.FoldHasher.{FoldHasher}
use Rattle.std.specs.declared.hash.BuildHasherDefault.{BuildHasherDefault}
use Rattle.std.specs.HashMap.{get, HashMap}
use Rattle.class_world.specs.declared.world.World.{World}
use Rattle.class_world.specs.declared.world.MethodInfo.{MethodInfo}
use Rattle.member_methods.specs.declared.keys.Key.{Key}

-- a method's name and number of parameters
abbrev pub key_of : MethodInfo → Key
key_of info = record { name = info.name.0; arity = length info.params }

abbrev pub same_key : Key → Key → Bool
same_key k q = nat_eq k.name q.name && nat_eq k.arity q.arity

abbrev pub Keys : Type 0
Keys = HashMap Key ℕ (BuildHasherDefault FoldHasher)

abbrev pub found_in : Keys → Key → Option ℕ
found_in keys q = get same_key keys q

-- Each method's key has a number, which stands at the method's place, and each number is that of a method with the key.
pub record AreKeys (w : World) (find : Key → Option ℕ) (keyed : List ℕ) : Type 0 where
  pub size : length keyed ≡ length w.methods
  pub found : (m : ℕ) (info : MethodInfo) → slice_get w.methods m ≡ Some info → (k : ℕ) × (find (key_of info) ≡ Some k) × (slice_get keyed m ≡ Some k)
  pub only : (q : Key) (k : ℕ) → find q ≡ Some k → (info : MethodInfo) × (slice_get w.methods k ≡ Some info) × (key_of info ≡ q)

-- The methods have numbers by their keys: what the lists are made from.
abbrev pub AreKeyed : World → List ℕ → Type 0
AreKeyed w keyed = (find : Key → Option ℕ) × AreKeys w find keyed
