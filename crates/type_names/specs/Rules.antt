-- The rules on names of packages and types, and on imports: where each is broken.
use Rattle.std.specs.Prelude.{◌≡◌, ◌≢◌, ℕ, ◌<◌, ◌⊎◌, Bool, true, false, List, [], ◌∷◌, Some, slice_get}
use Rattle.java_tree.specs.declared.tree.Name.{Name}
use Rattle.java_tree.specs.declared.tree.Import.{Import}
use Rattle.java_tree.specs.Plain.{SourceUnit}
use Rattle.rule_order.specs.declared.Breach.{Breach}
use Rattle.rule_order.specs.First.{Breaches}
use Rattle.type_names.specs.declared.known.JavaNames.{JavaNames}
use Rattle.type_names.specs.Known.{KnownType, File, files_of, types_of, lang_package, io_package}
use Rattle.type_names.specs.Sees.{full_name, is_open}

-- what one of a list breaks
abbrev pub Among : {X : Type 0} → (X → Breaches) → List X → Breaches
Among {X} broken xs b = (i : ℕ) × (x : X) × (slice_get xs i ≡ Some x) × broken x b

abbrev pub IsAt : ℕ → ℕ → Breach → Type 0
IsAt node rule b = (b.node ≡ node) × (b.rule ≡ rule)

-- S14: a user file whose package is not that of the first user file
abbrev pub BreaksOnePackage : List SourceUnit → SourceUnit → Breaches
BreaksOnePackage user u b = IsAt u.node.id 14 b × ((first : SourceUnit) × (slice_get user 0 ≡ Some first) × (u.«package» ≢ first.«package»))

-- S15: a user file whose package is that of a library file or of a built-in type
abbrev pub BreaksOwnPackage : JavaNames → List SourceUnit → SourceUnit → Breaches
BreaksOwnPackage j lib u b =
    IsAt u.node.id 15 b
    × ((u.«package» ≡ lang_package j) ⊎ (u.«package» ≡ io_package j) ⊎ ((i : ℕ) × (l : SourceUnit) × (slice_get lib i ≡ Some l) × (u.«package» ≡ l.«package»)))

-- S20: a library file in no package
abbrev pub BreaksNamedPackage : SourceUnit → Breaches
BreaksNamedPackage u b = IsAt u.node.id 20 b × (u.«package» ≡ [])

-- the name is the first identifier of a package: of a file's, or of java.lang and java.io
abbrev pub BeginsPackage : JavaNames → List File → Name → Type 0
BeginsPackage j fs x = (x ≡ j.java) ⊎ ((i : ℕ) × (f : File) × (slice_get fs i ≡ Some f) × ((rest : List Name) × (f.unit.«package» ≡ x ∷ rest)))

-- S22: a declared type with such a name
abbrev pub BreaksTypeName : JavaNames → List File → KnownType → Breaches
BreaksTypeName j fs t b = (n : ℕ) × (t.node ≡ Some n) × IsAt n 22 b × BeginsPackage j fs t.name

-- S22: a file whose package begins with the simple name of a built-in type
abbrev pub BreaksPackageName : File → Breaches
BreaksPackageName f b = IsAt f.unit.node.id 22 b × ((x : Name) × (rest : List Name) × (f.unit.«package» ≡ x ∷ rest) × (x.0 < 19))

-- S23: a declared type with the name of an earlier type; the built-in ones come first
abbrev pub BreaksOwnName : List KnownType → Breaches
BreaksOwnName types b =
    (i k : ℕ) × (s t : KnownType) × (n : ℕ)
    × (i < k) × (slice_get types i ≡ Some s) × (slice_get types k ≡ Some t) × (s.name ≡ t.name) × (t.node ≡ Some n) × IsAt n 23 b

-- all of them
abbrev pub NameBreaches : JavaNames → List SourceUnit → List SourceUnit → Breaches
NameBreaches j user lib b =
    Among (BreaksOnePackage user) user b
    ⊎ Among (BreaksOwnPackage j lib) user b
    ⊎ Among BreaksNamedPackage lib b
    ⊎ Among BreaksPackageName (files_of user lib) b
    ⊎ Among (BreaksTypeName j (files_of user lib)) (types_of j (files_of user lib)) b
    ⊎ BreaksOwnName (types_of j (files_of user lib)) b

-- A single-type import names nothing where it is the qualified name of no type that is open to the file (JLS 7.5.1).
abbrev pub NamesNoType : List KnownType → File → List Name → Type 0
NamesNoType types f path = (k : ℕ) (t : KnownType) → slice_get types k ≡ Some t → is_open f t ≡ true → path ≢ full_name t

-- An import on demand names nothing where it is no package of a built-in type and none of a file; in a library file, none of a library file (JLS 7.5.2).
abbrev pub NamesNoPackage : JavaNames → List File → Bool → List Name → Type 0
NamesNoPackage j fs user path =
    (path ≢ lang_package j) × (path ≢ io_package j)
    × ((k : ℕ) (g : File) → slice_get fs k ≡ Some g → (user ≡ true) ⊎ (g.user ≡ false) → path ≢ g.unit.«package»)

abbrev pub NamesNothing : List KnownType → JavaNames → List File → File → Import → Type 0
NamesNothing types j fs f i = ((i.all ≡ false) × NamesNoType types f i.path) ⊎ ((i.all ≡ true) × NamesNoPackage j fs f.user i.path)

-- DR1 at an import
abbrev pub BreaksImport : JavaNames → List File → File → Import → Breaches
BreaksImport j fs f i b = IsAt i.node.id 1 b × NamesNothing (types_of j fs) j fs f i

abbrev pub ImportBreaches : JavaNames → List File → Breaches
ImportBreaches j fs = Among (λ f. Among (BreaksImport j fs f) f.unit.imports) fs
