-- What the parts of the search for a broken rule look for.
use Rattle.std.specs.Prelude.{◌≡◌, ◌≢◌, ℕ, ◌<◌, ◌⊎◌, Bool, true, false, List, [], ◌∷◌, Some, slice_get, nat_eq}
use Rattle.std.specs.List.{list_any}
use Rattle.java_tree.specs.declared.tree.Name.{Name}
use Rattle.java_tree.specs.declared.tree.SourceUnit as declared
use Rattle.java_tree.specs.Plain.{SourceUnit}
use Rattle.rule_order.specs.First.{Breaches, Either}
use Rattle.type_names.specs.declared.known.JavaNames.{JavaNames}
use Rattle.type_names.specs.declared.known.Known as code
use Rattle.type_names.specs.Known.{lang_package, io_package}
use Rattle.type_names.specs.Rules.{Among, IsAt, BreaksOnePackage, BreaksOwnPackage, BreaksNamedPackage, BreaksPackageName}

-- the rule at a node, where the test is true
abbrev pub IfBroken : ℕ → ℕ → Bool → Breaches
IfBroken node rule broken b = IsAt node rule b × (broken ≡ true)

-- a file of the list is in the package
abbrev pub HasPackage : List SourceUnit → List Name → Type 0
HasPackage us path = (i : ℕ) × (u : SourceUnit) × (slice_get us i ≡ Some u) × (path ≡ u.«package»)

abbrev pub IsBuiltInPackage : JavaNames → List Name → Type 0
IsBuiltInPackage j path = (path ≡ lang_package j) ⊎ (path ≡ io_package j)

-- the package is not that of the first file
abbrev pub IsApart : List SourceUnit → List Name → Type 0
IsApart us path = (first : SourceUnit) × (slice_get us 0 ≡ Some first) × (path ≢ first.«package»)

-- the package begins with the simple name of a built-in type
abbrev pub BeginsBuiltIn : List Name → Type 0
BeginsBuiltIn path = (x : Name) × (rest : List Name) × (path ≡ x ∷ rest) × (x.0 < 19)

-- what a user file breaks, and what a library file does
abbrev pub UserBreaches : JavaNames → List SourceUnit → List SourceUnit → SourceUnit → Breaches
UserBreaches j user lib u = Either (BreaksOnePackage user u) (Either (BreaksOwnPackage j lib u) (BreaksPackageName (record { unit = u; user = true })))

abbrev pub LibBreaches : SourceUnit → Breaches
LibBreaches u = Either (BreaksNamedPackage u) (BreaksPackageName (record { unit = u; user = false }))

-- whether a package begins with this name
abbrev pub begins : ℕ → List Name → Bool
begins q [] = false
begins q (x ∷ rest) = nat_eq x.0 q

abbrev pub begin : List declared.SourceUnit → ℕ → Bool
begin us q = list_any (λ u. begins q u.«package») us

-- the rule at a declared type, where the test is true
abbrev pub IfDeclared : ℕ → Bool → code.Known → Breaches
IfDeclared rule broken t b = (n : ℕ) × (t.node ≡ Some n) × IfBroken n rule broken b

-- a declared type whose name is among these
abbrev pub IsNamedAmong : (ℕ → Bool) → code.Known → Breaches
IsNamedAmong names t = IfDeclared 22 (names t.name.0) t

-- a declared type with the name of an earlier one
abbrev pub IsNamedTwice : List code.Known → Breaches
IsNamedTwice ts b =
    (i k : ℕ) × (s t : code.Known) × (n : ℕ)
    × (i < k) × (slice_get ts i ≡ Some s) × (slice_get ts k ≡ Some t) × (s.name ≡ t.name) × (t.node ≡ Some n) × IsAt n 23 b

abbrev pub TypeBreaches : (ℕ → Bool) → List code.Known → Breaches
TypeBreaches names ts = Either (Among (IsNamedAmong names) ts) (IsNamedTwice ts)
