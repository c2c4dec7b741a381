-- What the parts of the search answer.
use Rattle.std.specs.Prelude.{◌≡◌, ℕ, ◌<◌, ◌≤◌, ◌⊎◌, List, [], Option, Some, None, codes}
use Rattle.std.specs.List.{Contains}
use Rattle.java_tree.specs.declared.tree.Name.{Name}
use Rattle.java_tree.specs.declared.tree.Primitive.TheVariants as prim
use Rattle.class_world.specs.declared.world.World.{World}
use Rattle.class_world.specs.declared.world.Walk.{Walk}
use Rattle.class_world.specs.declared.world.MethodInfo.{MethodInfo}
use Rattle.class_world.specs.declared.world.JavaType.{JavaType}
use Rattle.class_world.specs.declared.world.JavaType.TheVariants as ty
use Rattle.class_world.specs.Signatures.{IsMethod}
use Rattle.class_world.specs.Counted.{IsOfClass}
use Rattle.seen_methods.specs.Seen.{HasResult}
use Rattle.iterables.specs.declared.calls.IteratorCall.{IteratorCall}
use Rattle.iterables.specs.declared.calls.StepCalls.{StepCalls}
use Rattle.iterables.specs.Walks.{HasText, IsCalled, IsCounted, IsUsable, ThrowsNothing, iterator_type}

-- P holds of the answer, or of nothing
abbrev pub Finds : {A : Type 0} → (A → Type 0) → Option A → Type 0
Finds {A = A} P None = (x : A) → P x → ⊥
Finds P (Some x) = P x

-- and of no other
abbrev pub FindsOne : {A : Type 0} → (A → Type 0) → Option A → Type 0
FindsOne {A = A} P None = (x : A) → P x → ⊥
FindsOne {A = A} P (Some x) = P x × ((y : A) → P y → y ≡ x)

-- the type c declares the method m, of this name and without parameters
abbrev pub DeclaresNamed : World → ℕ → Name → ℕ → Type 0
DeclaresNamed w c n m = (info : MethodInfo) × IsMethod w m info × (info.owner ≡ c) × (info.name ≡ n) × (info.params ≡ [])

-- and it is the first
abbrev pub IsFirstDeclared : World → ℕ → Name → ℕ → Type 0
IsFirstDeclared w c n m = DeclaresNamed w c n m × ((k : ℕ) → k < m → DeclaresNamed w c n k → ⊥)

-- Of the methods of which P holds m is the first that a class declares; or no class declares any, and it is the first of all.
abbrev pub ComesFirst : World → (ℕ → Type 0) → ℕ → Type 0
ComesFirst w P m = (IsOfClass w m × ((k : ℕ) → P k → IsOfClass w k → m ≤ k)) ⊎ (((k : ℕ) → P k → IsOfClass w k → ⊥) × ((k : ℕ) → P k → m ≤ k))

abbrev pub TellsFirst : World → List ℕ → Option ℕ → Type 0
TellsFirst w ms None = (m : ℕ) → Contains ms m → ⊥
TellsFirst w ms (Some m) = Contains ms m × ComesFirst w (Contains ms) m

-- a member that counts, by the text of its name, without a throws clause
abbrev pub IsPlain : List (List ℕ) → World → ℕ → List ℕ → ℕ → Type 0
IsPlain names w c text m = (n : Name) × HasText names text n × IsCounted w c n m × ThrowsNothing w m

-- the type c sees this result of the method
abbrev pub Gives : World → ℕ → ℕ → JavaType → Type 0
Gives w c m t = HasResult w c m (Some t)

-- it is `Iterator<T>`, of the type d
abbrev pub GivesIterator : World → ℕ → ℕ → ℕ → Type 0
GivesIterator w c m d = Gives w c m (iterator_type d)

-- the method `iterator`, and the type of its result
abbrev pub IsMade : List (List ℕ) → World → ℕ → IteratorCall → Type 0
IsMade names w c x = IsCalled names w c (codes "iterator") (iterator_type x.iterators) x.method

-- the methods of `Iterator<E>`
abbrev pub AreSteps : List (List ℕ) → World → ℕ → StepCalls → Type 0
AreSteps names w d x = IsCalled names w d (codes "hasNext") (ty.Prim prim.Boolean) x.has_next × IsCalled names w d (codes "next") (ty.Var 0) x.next

-- Iterable is usable, and this is its number
abbrev pub IsUsableAt : List (List ℕ) → World → ℕ → Walk → Type 0
IsUsableAt names w c walk = IsUsable names w walk × (walk.iterable ≡ c)
