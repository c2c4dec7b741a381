-- Sets of signatures.
use Rattle.std.specs.Prelude.{◌≡◌, ℕ, ◌↔◌, List, Some, IsTrue, nat_eq, slice_get}
use Rattle.std.specs.List.{Contains}
use Rattle.std.specs.HashSet.{contains}
use Rattle.java_tree.specs.declared.tree.Name.{Name}
use Rattle.class_world.specs.declared.world.World.{World}
use Rattle.class_world.specs.declared.world.MethodInfo.{MethodInfo}
use Rattle.class_world.specs.declared.world.JavaType.{JavaType}
use Rattle.signature_numbers.specs.Numbers.{number_in}
use Rattle.member_methods.specs.declared.signature_set.SignatureSet.{SignatureSet}

-- the name with these parameter types is in the set
abbrev pub HasSignature : SignatureSet → Name → List JavaType → Type 0
HasSignature s a ps = (n : ℕ) × (number_in s.numbers a ps ≡ Some n) × IsTrue (contains nat_eq s.members n)

-- the set has the signatures of these methods, as they are declared, and no others
abbrev pub HasSignaturesOf : World → List ℕ → SignatureSet → Type 0
HasSignaturesOf w methods s = (a : Name) (ps : List JavaType) →
    HasSignature s a ps ↔ ((k : ℕ) × Contains methods k × (info : MethodInfo) × (slice_get w.methods k ≡ Some info) × (info.name ≡ a) × (info.params ≡ ps))
