-- Where Iterable is usable: the library's interface java.lang.Iterable and the methods that the enhanced for calls over what is below it (JLS 14.14.2).
use Rattle.std.specs.Prelude.{◌≡◌, ℕ, true, false, List, [], ◌∷◌, map, Option, Some, None, slice_get, codes}
use Rattle.java_tree.specs.declared.tree.Name.{Name}
use Rattle.java_tree.specs.declared.tree.Primitive.TheVariants as prim
use Rattle.class_world.specs.declared.world.World.{World}
use Rattle.class_world.specs.declared.world.Walk.{Walk}
use Rattle.class_world.specs.declared.world.TypeInfo.{TypeInfo}
use Rattle.class_world.specs.declared.world.MethodInfo.{MethodInfo}
use Rattle.class_world.specs.declared.world.JavaType.{JavaType}
use Rattle.class_world.specs.declared.world.JavaType.TheVariants as ty
use Rattle.class_world.specs.Inheritance.{IsMethodNamed}
use Rattle.class_world.specs.Counted.{Counts}
use Rattle.class_world.specs.Sound.{IsSound}
use Rattle.seen_methods.specs.Seen.{HasResult}

-- the name has this text
abbrev pub HasText : List (List ℕ) → List ℕ → Name → Type 0
HasText names text n = slice_get names n.0 ≡ Some text

-- the identifiers of a package's name have these texts
abbrev pub IsPackage : List (List ℕ) → List (List ℕ) → List Name → Type 0
IsPackage names texts package_name = map (λ (n : Name). slice_get names n.0) package_name ≡ map Some texts

-- an interface of one parameter, by its package and its name
pub record IsGeneric (names : List (List ℕ)) (texts : List (List ℕ)) (text : List ℕ) (info : TypeInfo) : Type 0 where
  pub interface : info.interface ≡ true
  pub home : IsPackage names texts info.«package»
  pub name : HasText names text info.name
  pub params : info.params ≡ 1

-- java.lang.Iterable, from a library file
abbrev pub IsIterable : List (List ℕ) → World → ℕ → Type 0
IsIterable names w c =
    (info : TypeInfo) × (slice_get w.types c ≡ Some info) × IsGeneric names (codes "java" ∷ codes "lang" ∷ []) (codes "Iterable") info × (info.user ≡ false)

-- java.util.Iterator
abbrev pub IsIterator : List (List ℕ) → World → ℕ → Type 0
IsIterator names w c = (info : TypeInfo) × (slice_get w.types c ≡ Some info) × IsGeneric names (codes "java" ∷ codes "util" ∷ []) (codes "Iterator") info

-- A member of the interface c that counts, of this name and without parameters. (An interface has no superclass, of which a member would count first.)
abbrev pub IsCounted : World → ℕ → Name → ℕ → Type 0
IsCounted w c n m = IsMethodNamed w c n 0 m × Counts w c [] m

abbrev pub ThrowsNothing : World → ℕ → Type 0
ThrowsNothing w m = (info : MethodInfo) × (slice_get w.methods m ≡ Some info) × (info.throws ≡ [])

-- A method that the enhanced for calls on the interface c: the member of this name without parameters. It has this result there, and no throws clause.
pub record IsCalled (names : List (List ℕ)) (w : World) (c : ℕ) (word : List ℕ) (t : JavaType) (m : ℕ) : Type 0 where
  pub name : Name
  pub text : HasText names word name
  pub member : IsCounted w c name m
  pub result : HasResult w c m (Some t)
  pub throws : ThrowsNothing w m

-- `Iterator<T>`, where T is the parameter of the type that says it
abbrev pub iterator_type : ℕ → JavaType
iterator_type d = ty.Class d (ty.Var 0 ∷ [])

-- Iterable is usable, and these are its number and those of the methods.
pub record IsUsable (names : List (List ℕ)) (w : World) (walk : Walk) : Type 0 where
  pub iterable : IsIterable names w walk.iterable
  pub of_iterators : ℕ
  pub iterators : IsIterator names w of_iterators
  pub iterator : IsCalled names w walk.iterable (codes "iterator") (iterator_type of_iterators) walk.iterator
  pub has_next : IsCalled names w of_iterators (codes "hasNext") (ty.Prim prim.Boolean) walk.has_next
  pub next : IsCalled names w of_iterators (codes "next") (ty.Var 0) walk.next

-- the walk, or none where Iterable is not usable
abbrev pub WalkIs : List (List ℕ) → Option Walk → World → Type 0
WalkIs names None w = (walk : Walk) → IsUsable names w walk → ⊥
WalkIs names (Some walk) w = IsUsable names w walk

-- The world v is the sound world w with the walk.
pub record IsWalked (names : List (List ℕ)) (w v : World) : Type 0 where
  pub types : v.types ≡ w.types
  pub methods : v.methods ≡ w.methods
  pub fields : v.fields ≡ w.fields
  pub sound : IsSound v
  pub walk : WalkIs names v.walk v
