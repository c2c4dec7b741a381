-- Which of several members of one signature counts: of methods that a type has from several sides one is its member for a call (JLS 8.4.8.4).
use Rattle.std.specs.Prelude.{ℕ, ◌<◌, ◌↔◌, List, []}
use Rattle.std.specs.List.{Contains}
use Rattle.java_tree.specs.declared.tree.Name.{Name}
use Rattle.class_world.specs.declared.world.World.{World}
use Rattle.class_world.specs.Signatures.{HaveOneSignatureIn}
use Rattle.class_world.specs.Inheritance.{DeclaresMethod, IsMemberMethod, IsMethodNamed}
use Rattle.class_world.specs.Overriding.{IsClass, IsSuperclass}

-- a class declares the method
abbrev pub IsOfClass : World → ℕ → Type 0
IsOfClass w m = (o : ℕ) × DeclaresMethod w o m × IsClass w o

-- Of two members of one signature the first is preferred, where the superclass counts those listed: what it counts comes first, then what a class declares, then what is
-- declared first.
pub data IsPreferred (w : World) (counted : List ℕ) (m k : ℕ) : Type 0 where
  from_superclass : Contains counted m → (Contains counted k → ⊥) → IsPreferred w counted m k
  of_class : (Contains counted m ↔ Contains counted k) → IsOfClass w m → (IsOfClass w k → ⊥) → IsPreferred w counted m k
  declared_first : (Contains counted m ↔ Contains counted k) → (IsOfClass w m ↔ IsOfClass w k) → m < k → IsPreferred w counted m k

-- a member of c that counts: no other of its signature is preferred
abbrev pub Counts : World → ℕ → List ℕ → ℕ → Type 0
Counts w c counted m = IsMemberMethod w c m × ((k : ℕ) → IsMemberMethod w c k → HaveOneSignatureIn w c k m → IsPreferred w counted k m → ⊥)

abbrev pub AreAllCounted : World → ℕ → List ℕ → List ℕ → Type 0
AreAllCounted w c counted ms = (m : ℕ) → Contains ms m ↔ Counts w c counted m

-- the list has the members of c that count
pub data HasCounted (w : World) : ℕ → List ℕ → Type 0 where
  without_superclass : {c : ℕ} {ms : List ℕ} → ((s : ℕ) → IsSuperclass w c s → ⊥) → AreAllCounted w c [] ms → HasCounted w c ms
  with_superclass : {c s : ℕ} {counted ms : List ℕ} → IsSuperclass w c s → HasCounted w s counted → AreAllCounted w c counted ms → HasCounted w c ms

-- a member of c that counts, of this name and so many parameters
abbrev pub IsCountedNamed : World → ℕ → Name → ℕ → ℕ → Type 0
IsCountedNamed w c n arity m = ((ms : List ℕ) × HasCounted w c ms × Contains ms m) × IsMethodNamed w c n arity m
