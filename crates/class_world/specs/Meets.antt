-- What is above a class type, by the bits of a row, and where the ways up from several of them agree.
use Rattle.std.specs.Prelude.{◌≡◌, ℕ, ◌<◌, Bool, true, nat_eq, ◌&&◌, List, Option, Some, slice_get, length}
use Rattle.std.specs.declared.hash.FoldHasher.{FoldHasher}
use Rattle.std.specs.declared.hash.BuildHasherDefault.{BuildHasherDefault}
use Rattle.std.specs.HashMap.{get, HashMap}
use Rattle.class_world.specs.declared.world.World.{World}
use Rattle.class_world.specs.declared.world.TypeInfo.{TypeInfo}
use Rattle.class_world.specs.declared.world.JavaType.{JavaType}
use Rattle.class_world.specs.declared.world.JavaType.TheVariants as ty
use Rattle.class_world.specs.declared.class_rows.ClassRows.{ClassRows}
use Rattle.class_world.specs.declared.paths.Path.{Path}
use Rattle.class_world.specs.declared.paths.Paths.{Paths}
use Rattle.class_world.specs.Types.{with_own}
use Rattle.class_world.specs.Subtypes.{Subtype, Parameterizes}
use Rattle.class_world.specs.Sound.{IsSet}
use Rattle.class_world.specs.Sequences.{IsSequence}
use Rattle.class_world.specs.Climbs.{HasBase, IsClassType}
use Rattle.class_world.specs.Ordered.{IsClassBelowTwo, IsSingleClass}

-- t is a type of the class g with all its arguments
abbrev pub IsFullType : World → ℕ → JavaType → Type 0
IsFullType w g t = (us : List JavaType) × (t ≡ ty.Class g us) × (info : TypeInfo) × (slice_get w.types g ≡ Some info) × (length us ≡ info.params)

-- such a type is above s
abbrev pub HasFull : World → JavaType → ℕ → Type 0
HasFull w s g = (t : JavaType) × IsFullType w g t × Subtype w s t

-- The bits are places in a list of the classes: each is that of a class of which a type with all its arguments is above s, and the class of each
-- parameterization above s has its bit.
pub record IsAboveRow (w : World) (listed : List ℕ) (s : JavaType) (words : List ℕ) : Type 0 where
  pub full : (q : ℕ) → IsSet words q → (g : ℕ) × (slice_get listed q ≡ Some g) × HasFull w s g
  pub bases : (g : ℕ) → HasBase w s g → (q : ℕ) × (slice_get listed q ≡ Some g) × IsSet words q

-- each class that has a row has that of its type with its own variables
abbrev pub AreRows : World → List ℕ → List (Option (List ℕ)) → Type 0
AreRows w listed rows = (c : ℕ) (info : TypeInfo) (words : List ℕ) → slice_get w.types c ≡ Some info → slice_get rows c ≡ Some (Some words) → IsAboveRow w listed (with_own c info.params) words

pub record AreClassRows (w : World) (all : ClassRows) : Type 0 where
  pub sequence : IsSequence w all.listed
  pub rows : AreRows w all.listed all.rows

-- ways up that were gone

abbrev pub same_path : Path → Path → Bool
same_path p q = nat_eq p.from q.from && nat_eq p.to q.to

abbrev pub PathMap : Type 0
PathMap = HashMap Path JavaType (BuildHasherDefault FoldHasher)

abbrev pub found_in : PathMap → Path → Option JavaType
found_in types p = get same_path types p

-- what was found is a type with all its arguments, above the class that the way begins at
abbrev pub IsPath : World → Path → JavaType → Type 0
IsPath w p t = (info : TypeInfo) → slice_get w.types p.from ≡ Some info → IsFullType w p.to t × Subtype w (with_own p.from info.params) t

abbrev pub ArePaths : World → Paths → Type 0
ArePaths w paths = (p : Path) (t : JavaType) → found_in paths.types p ≡ Some t → IsPath w p t

-- the ways up from the declared supertypes of a class

-- class types whose classes are below at most one parameterization of each class
abbrev pub AreSingleTypes : World → List JavaType → Type 0
AreSingleTypes w ds = (k : ℕ) (d : JavaType) → slice_get ds k ≡ Some d → IsClassType w d × ((g : ℕ) (xs : List JavaType) → d ≡ ty.Class g xs → IsSingleClass w g)

-- two parameterizations of one class above two of the first i types are the same
abbrev pub AgreeBefore : World → List JavaType → ℕ → Type 0
AgreeBefore w ds i = (j k : ℕ) (d e : JavaType) (g : ℕ) (t u : JavaType) → j < i → k < i → slice_get ds j ≡ Some d → slice_get ds k ≡ Some e → Parameterizes g t → Parameterizes g u → Subtype w d t → Subtype w e u → t ≡ u

-- so are two of the class g above the i-th type and one before it
abbrev pub IsSettled : World → List JavaType → ℕ → ℕ → Type 0
IsSettled w ds i g = (j : ℕ) (d e : JavaType) (t u : JavaType) → j < i → slice_get ds j ≡ Some d → slice_get ds i ≡ Some e → Parameterizes g t → Parameterizes g u → Subtype w d t → Subtype w e u → t ≡ u

abbrev pub AreSettled : World → List ℕ → List JavaType → ℕ → List ℕ → Type 0
AreSettled w listed ds i words = (q g : ℕ) → IsSet words q → slice_get listed q ≡ Some g → IsSettled w ds i g

-- the class of each parameterization above one of the first i types has its bit
abbrev pub HaveBits : World → List ℕ → List JavaType → ℕ → List ℕ → Type 0
HaveBits w listed ds i words = (j : ℕ) (d : JavaType) (g : ℕ) → j < i → slice_get ds j ≡ Some d → HasBase w d g → (q : ℕ) × (slice_get listed q ≡ Some g) × IsSet words q

-- the classes below two parameterizations of one class are marked, and no other is below two
abbrev pub MarkDoubled : World → List Bool → Type 0
MarkDoubled w marks = (c : ℕ) → (slice_get marks c ≡ Some true → IsClassBelowTwo w c) × ((slice_get marks c ≡ Some true → ⊥) → IsSingleClass w c)
