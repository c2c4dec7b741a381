-- Of methods of one name those that are preferred, one of each signature.
use Rattle.std.specs.Prelude.{◌≡◌, ℕ, ◌<◌, ◌↔◌, ◌⊎◌, List, Option, Some, None, slice_get, length}
use Rattle.std.specs.List.{Contains}
use Rattle.std.specs.List.Sorted.{IsStrictlyIncreasing}
use Rattle.java_tree.specs.declared.tree.Name.{Name}
use Rattle.class_world.specs.declared.world.World.{World}
use Rattle.class_world.specs.declared.world.MethodInfo.{MethodInfo}
use Rattle.class_world.specs.declared.world.JavaType.{JavaType}
use Rattle.class_world.specs.Signatures.{IsMethod, HasParams, HaveOneSignatureIn}
use Rattle.class_world.specs.Counted.{IsPreferred}
use Rattle.signature_numbers.specs.Steps.{Steps}
use Rattle.signature_numbers.specs.Numbers.{number_in}

-- methods of this name
abbrev pub HaveName : World → Name → List ℕ → Type 0
HaveName w n ms = (m : ℕ) → Contains ms m → (info : MethodInfo) × IsMethod w m info × (info.name ≡ n)

-- the number of the signature that m has in c with this name, or none where c does not see m
abbrev pub IsSign : World → ℕ → Name → Steps → ℕ → Option ℕ → Type 0
IsSign w c n t m None = (ps : List JavaType) → HasParams w c m ps → ⊥
IsSign w c n t m (Some k) = (ps : List JavaType) × HasParams w c m ps × ((qs : List JavaType) → HasParams w c m qs → qs ≡ ps) × (number_in t n ps ≡ Some k)

-- the i-th method has the sign n
abbrev pub HasSign : List (Option ℕ) → ℕ → ℕ → Type 0
HasSign signs i n = slice_get signs i ≡ Some (Some n)

-- two of the methods have one signature exactly if they have one sign
pub record AreSigns (w : World) (c : ℕ) (ms : List ℕ) (signs : List (Option ℕ)) : Type 0 where
  pub size : length signs ≡ length ms
  pub told : (i j m k : ℕ) → slice_get ms i ≡ Some m → slice_get ms j ≡ Some k → HaveOneSignatureIn w c m k ↔ ((n : ℕ) × HasSign signs i n × HasSign signs j n)

-- of the first i methods the best of each sign
pub record IsBest (w : World) (above ms : List ℕ) (signs : List (Option ℕ)) (i : ℕ) (best : ℕ → Option ℕ) : Type 0 where
  pub found : (j m n : ℕ) → j < i → slice_get ms j ≡ Some m → HasSign signs j n → (b : ℕ) × (best n ≡ Some b) × ((b ≡ m) ⊎ IsPreferred w above b m)
  pub from : (n b : ℕ) → best n ≡ Some b → (j : ℕ) × (j < i) × (slice_get ms j ≡ Some b) × HasSign signs j n

-- m is the best of its sign, if it is preferred to the one before
pub record IsBetter (w : World) (above : List ℕ) (sign m : ℕ) (old new : ℕ → Option ℕ) : Type 0 where
  pub others : (n : ℕ) → (n ≡ sign → ⊥) → new n ≡ old n
  pub here : ((new sign ≡ Some m) × ((k : ℕ) → old sign ≡ Some k → IsPreferred w above m k)) ⊎ ((k : ℕ) × (old sign ≡ Some k) × (new sign ≡ Some k) × (IsPreferred w above m k → ⊥))

-- the methods that are the best of their signs, ascending
abbrev pub AreKeptBy : (ℕ → Option ℕ) → List ℕ → List (Option ℕ) → List ℕ → Type 0
AreKeptBy best ms signs xs =
    ((m : ℕ) → Contains xs m ↔ (Contains ms m × ((j n : ℕ) → slice_get ms j ≡ Some m → HasSign signs j n → best n ≡ Some m))) × IsStrictlyIncreasing xs

-- those of the methods of which none of the others is preferred, ascending
abbrev pub AreChosen : World → ℕ → List ℕ → List ℕ → List ℕ → Type 0
AreChosen w c above ms xs =
    ((m : ℕ) → Contains xs m ↔ (Contains ms m × ((k : ℕ) → Contains ms k → HaveOneSignatureIn w c k m → IsPreferred w above k m → ⊥))) × IsStrictlyIncreasing xs
