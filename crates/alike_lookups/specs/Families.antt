-- Families of methods that are found as a whole.
use Rattle.std.specs.Prelude.{◌≡◌, ℕ, ◌⊎◌}
use Rattle.class_world.specs.declared.world.World.{World}
use Rattle.class_world.specs.Inheritance.{DeclaresMethod}
use Rattle.class_world.specs.Overriding.{IsClass, IsFamily, HaveOneParameterList, IsFixed, IsFound}
use Rattle.alike_lookups.specs.Classes.{IsUpKept}
use Rattle.alike_lookups.specs.Lookups.{Sides, FindsAlike, to_type, to_method}

-- the method is another one, or has its parameter types, which hold no type variable
abbrev pub IsLike : World → (k f : ℕ) → Type 0
IsLike w k f = (k ≡ f) ⊎ HaveOneParameterList w k f

-- So all methods of a family: then each of them that a class declares answers for each other one.
abbrev pub IsPlain : World → ℕ → Type 0
IsPlain w f = (k : ℕ) → IsFamily w f k → IsLike w k f

-- both look-ups find something on objects of the class c, the new one what the old one does
abbrev pub IsFoundAt : Sides → (m n c : ℕ) → Type 0
IsFoundAt x m n c = (j : ℕ) × IsFound x.old m c j × IsFound x.new n (to_type x c) (to_method x j)

-- the class c declares a method of the family of f
abbrev pub DeclaresOf : World → (f c : ℕ) → Type 0
DeclaresOf w f c = (j : ℕ) × IsClass w c × DeclaresMethod w c j × IsFamily w f j

-- so on objects of each class that declares the method j
abbrev pub IsFoundWhereDeclared : Sides → (m n j : ℕ) → Type 0
IsFoundWhereDeclared x m n j = (c : ℕ) → IsClass x.old c → DeclaresMethod x.old c j → IsFoundAt x m n c

-- a method of the old family: neither it nor the one that it goes to is fixed, that one is of the new family, and both programs find the same where it is declared
pub record IsMemberAlike (x : Sides) (m n j : ℕ) : Type 0 where
  pub free : IsFixed x.old j → ⊥
  pub free_new : IsFixed x.new (to_method x j) → ⊥
  pub family : IsFamily x.new n (to_method x j)
  pub found : IsFoundWhereDeclared x m n j

-- Where the class of a method k of the new family comes from one of the old program, that one declares a method of the old family.
abbrev pub IsCovered : Sides → (m k : ℕ) → Type 0
IsCovered x m k = (c : ℕ) → IsClass x.new (to_type x c) → DeclaresMethod x.new (to_type x c) k → DeclaresOf x.old m c

-- the families of m and n, as a whole
pub record IsFamilyAlike (x : Sides) (m n : ℕ) : Type 0 where
  pub plain : IsPlain x.old m
  pub plain_new : IsPlain x.new n
  pub members : (j : ℕ) → IsFamily x.old m j → IsMemberAlike x m n j
  pub covered : (k : ℕ) → IsFamily x.new n k → IsCovered x m k

-- superclasses stay, from each class on
abbrev pub AreUpsKept : Sides → Type 0
AreUpsKept x = (k : ℕ) → IsUpKept x.old x.new (to_type x) k

-- each method of the family finds as the one that it goes to does
abbrev pub FamilyFindsAlike : Sides → ℕ → Type 0
FamilyFindsAlike x m = (j : ℕ) → IsFamily x.old m j → FindsAlike x j (to_method x j)

-- the method n is of the family of m, which answers as a whole; neither is fixed
pub record IsStandIn (w : World) (m n : ℕ) : Type 0 where
  pub free : IsFixed w m → ⊥
  pub free_other : IsFixed w n → ⊥
  pub family : IsFamily w n m
  pub plain : IsPlain w n
