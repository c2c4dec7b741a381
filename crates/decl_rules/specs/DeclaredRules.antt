-- The DR rules on declarations that need no types of names, and how many declarations there are.
use Rattle.std.specs.Prelude.{◌≡◌, ◌≢◌, ◌⊎◌, ◌+◌, ℕ, Bool, true, false, List, [], ◌∷◌, ◌++◌, length, map, Some, None, Contains, slice_get, if◌then◌else◌}
use Rattle.java_tree.specs.declared.tree.Name.{Name}
use Rattle.java_tree.specs.declared.tree.Mod.{Mod}
use Rattle.java_tree.specs.declared.tree.Mod.TheVariants as mods
use Rattle.java_tree.specs.Plain as t
use Rattle.java_tree.specs.Plain.{SourceUnit, TypeDecl, MethodDecl, Member, Var, Param}
use Rattle.rule_order.specs.First.{Breaches, Either}
use Rattle.rule_order.specs.Noted.{At, Nowhere, SomeOf}
use Rattle.decl_rules.specs.Parts.{IsRepeat, mods_of, member_node}

-- ---- names

-- the variables that the fields declare, in order
abbrev pub field_vars : List Member → List Var
field_vars [] = []
field_vars (t.AField f ∷ ms) = f.vars ++ field_vars ms
field_vars (t.AMethod m ∷ ms) = field_vars ms

abbrev pub var_names : List Var → List Name
var_names = map (λ v. v.name)

abbrev pub param_names : List Param → List Name
param_names = map (λ p. p.name)

-- DR5: a type has two fields of one name (JLS 8.3, 9.3); at the later one.
abbrev pub RepeatsField : TypeDecl → Breaches
RepeatsField d b =
    (j : ℕ) × (v : Var) × (slice_get (field_vars d.members) j ≡ Some v) × At 5 v.node (IsRepeat (var_names (field_vars d.members)) j) b

-- DR8: two type parameters of a type have one name; at the type.
abbrev pub RepeatsTypeParameter : TypeDecl → Breaches
RepeatsTypeParameter d = At 8 d.node ((j : ℕ) × IsRepeat d.params j)

-- DR8: two parameters of a method or constructor have one name (JLS 8.4.1); at the later one.
abbrev pub RepeatsParameter : Member → Breaches
RepeatsParameter (t.AField f) b = ⊥
RepeatsParameter (t.AMethod m) b = (j : ℕ) × (p : Param) × (slice_get m.params j ≡ Some p) × At 8 p.node (IsRepeat (param_names m.params) j) b

-- DR11: a member without result type has not the name of its type (JLS 8.8).
abbrev pub IsMisnamed : TypeDecl → Member → Breaches
IsMisnamed d (t.AField f) = Nowhere
IsMisnamed d (t.AMethod m) = At 11 m.node ((m.constructor ≡ true) × (m.name ≢ d.name))

-- ---- modifiers

-- The modifiers that belong to a class and to an interface (JLS 8.1.1, 9.1.1), to a field (8.3.1, 9.3), a method (8.4.3, 9.4) and a constructor (8.8.3), as
-- far as tokens of a file are modifiers. The truth value says whether an interface declares the member.
abbrev pub type_mods : (interface : Bool) → List Mod
type_mods false = mods.Public ∷ mods.Abstract ∷ mods.Final ∷ []
type_mods true = mods.Public ∷ mods.Abstract ∷ []

abbrev pub field_mods : (interface : Bool) → List Mod
field_mods false = mods.Public ∷ mods.Protected ∷ mods.Private ∷ mods.Static ∷ mods.Final ∷ []
field_mods true = mods.Public ∷ mods.Static ∷ mods.Final ∷ []

abbrev pub method_mods : (interface : Bool) → List Mod
method_mods false = mods.Public ∷ mods.Protected ∷ mods.Private ∷ mods.Abstract ∷ mods.Static ∷ mods.Final ∷ []
method_mods true = mods.Public ∷ mods.Abstract ∷ []

abbrev pub constructor_mods : List Mod
constructor_mods = mods.Public ∷ mods.Protected ∷ mods.Private ∷ []

abbrev pub member_mods : (interface : Bool) → Member → List Mod
member_mods interface (t.AField f) = field_mods interface
member_mods interface (t.AMethod m) = if m.constructor then constructor_mods else method_mods interface

-- both stand there
abbrev pub Both : List Mod → Mod → Mod → Type 0
Both ms a b = Contains ms a × Contains ms b

-- two that contradict each other (JLS 6.6, 8.1.1.2, 8.4.3)
abbrev pub AreContradictory : List Mod → Type 0
AreContradictory ms =
    Both ms mods.Public mods.Protected ⊎ Both ms mods.Public mods.Private ⊎ Both ms mods.Protected mods.Private
    ⊎ Both ms mods.Abstract mods.Final ⊎ Both ms mods.Abstract mods.Private ⊎ Both ms mods.Abstract mods.Static

-- one is repeated, two contradict each other, or one does not belong there
abbrev pub AreWrong : (allowed ms : List Mod) → Type 0
AreWrong allowed ms = ((j : ℕ) × IsRepeat ms j) ⊎ AreContradictory ms ⊎ ((m : Mod) × Contains ms m × (Contains allowed m → ⊥))

-- DR9: modifiers are repeated, contradict each other or do not belong there.
abbrev pub HasWrongMods : TypeDecl → Breaches
HasWrongMods d = At 9 d.node (AreWrong (type_mods d.interface) d.mods)

abbrev pub IsWrongMember : TypeDecl → Member → Breaches
IsWrongMember d m = At 9 (member_node m) (AreWrong (member_mods d.interface m) (mods_of m))

-- ---- bodies and initialisers

abbrev pub IsAbstract : MethodDecl → Type 0
IsAbstract m = (m.constructor ≡ false) × Contains m.mods mods.Abstract

-- A body stands in an interface (JLS 9.4); an abstract method has one (8.4.7), any other method or a constructor has none; an abstract method stands in a
-- class that is not abstract (8.1.1.1).
abbrev pub HasWrongBody : TypeDecl → MethodDecl → Type 0
HasWrongBody d m =
    ((d.interface ≡ true) × (m.body ≢ None))
    ⊎ ((d.interface ≡ false) × IsAbstract m × (m.body ≢ None))
    ⊎ ((d.interface ≡ false) × (IsAbstract m → ⊥) × (m.body ≡ None))
    ⊎ ((d.interface ≡ false) × IsAbstract m × (Contains d.mods mods.Abstract → ⊥))

-- DR10: a body is there or missing against `abstract` or the interface, or an abstract method is in a class that is not abstract.
abbrev pub BreaksBody : TypeDecl → Member → Breaches
BreaksBody d (t.AField f) = Nowhere
BreaksBody d (t.AMethod m) = At 10 m.node (HasWrongBody d m)

-- DR12, on fields: a field of an interface has no initialiser (JLS 9.3.1).
abbrev pub LacksInit : TypeDecl → Member → Breaches
LacksInit d (t.AField f) = SomeOf f.vars (λ v. At 12 v.node ((d.interface ≡ true) × (v.init ≡ None)))
LacksInit d (t.AMethod m) = Nowhere

-- ---- a file

abbrev pub TypeIsWrong : TypeDecl → Breaches
TypeIsWrong d = Either (RepeatsField d) (Either (RepeatsTypeParameter d) (HasWrongMods d))

abbrev pub MemberIsWrong : TypeDecl → Member → Breaches
MemberIsWrong d m = Either (RepeatsParameter m) (Either (IsWrongMember d m) (Either (BreaksBody d m) (Either (IsMisnamed d m) (LacksInit d m))))

-- DR5, DR8, DR9, DR10, DR11, and DR12 on fields
abbrev pub BreaksDeclared : SourceUnit → Breaches
BreaksDeclared u = SomeOf u.types (λ d. Either (TypeIsWrong d) (SomeOf d.members (MemberIsWrong d)))

-- ---- how many

-- the methods and constructors among the members
abbrev pub methods_among : List Member → ℕ
methods_among [] = 0
methods_among (t.AField f ∷ ms) = methods_among ms
methods_among (t.AMethod m ∷ ms) = 1 + methods_among ms

-- the methods and constructors that types write
abbrev pub methods_of : List TypeDecl → ℕ
methods_of [] = 0
methods_of (d ∷ ds) = methods_among d.members + methods_of ds

-- how many types a file declares (L6), and how many methods and constructors it writes (L7)
abbrev pub declared_types : SourceUnit → ℕ
declared_types u = length u.types

abbrev pub declared_methods : SourceUnit → ℕ
declared_methods u = methods_of u.types
