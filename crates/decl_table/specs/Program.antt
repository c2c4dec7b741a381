-- A program's declarations: the sets of rules on them in their order, and its world.
use Rattle.std.specs.Prelude.{◌≡◌, ℕ, ◌+◌, ◌<◌, ◌≤◌, ◌⊎◌, Bool, false, List, [], ◌∷◌, Option, Some, None, nat_lt, slice_get, unwrap_or}
use Rattle.std.specs.Option.{option_map}
use Rattle.java_tree.specs.declared.tree.Name.{Name}
use Rattle.java_tree.specs.declared.fault.Broken.{Broken}
use Rattle.java_tree.specs.declared.fault.Family.{Family}
use Rattle.java_tree.specs.declared.fault.Family.TheVariants as family
use Rattle.java_tree.specs.Plain.{SourceUnit}
use Rattle.rule_order.specs.declared.Breach.{Breach}
use Rattle.rule_order.specs.First.{Breaches, Either, IsNone, IsFirstOf}
use Rattle.type_names.specs.declared.known.JavaNames.{JavaNames}
use Rattle.type_names.specs.Known.{File, files_of}
use Rattle.type_names.specs.Sees.{meant}
use Rattle.type_names.specs.Rules.{Among, NameBreaches, ImportBreaches}
use Rattle.decl_rules.specs.PlainRules.{BreaksPlain}
use Rattle.decl_rules.specs.DeclaredRules.{BreaksDeclared, declared_types, declared_methods}
use Rattle.class_world.specs.declared.world.World.{World}
use Rattle.class_world.specs.declared.world.TypeInfo.{TypeInfo}
use Rattle.class_world.specs.declared.world.MethodInfo.{MethodInfo}
use Rattle.class_world.specs.Ordered.{IsFirstBelowTwo}
use Rattle.class_world.specs.Sound.{IsSound}
use Rattle.class_world.specs.Typed.{HaveTypes}
use Rattle.built_in_types.specs.declared.words.Words.{Words}
use Rattle.built_in_types.specs.declared.types.BuiltIns.{BuiltIns}
use Rattle.built_in_types.specs.BuiltIns.{name_of, built_in_types, built_in_methods, built_in_fields}
use Rattle.built_in_types.specs.declared.words.Word.TheVariants.{Java, Lang, Io}
use Rattle.type_headers.specs.Declared.{headers}
use Rattle.declared_types.specs.Rules.{DeclaredTypeBreaches}
use Rattle.super_rules.specs.Rules.{GenericSuperBreaches, SuperBreaches}
use Rattle.method_rules.specs.Repeats.{RepeatsMethod}
use Rattle.program_world.specs.ProgramWorld.{world_of}
use Rattle.iterables.specs.Walks.{WalkIs}

-- The files of a program, and the numbers of the names that the built-in types need.
pub record Program : Type 0 where
  pub words : Words
  pub user : List SourceUnit
  pub lib : List SourceUnit

-- the names of which the packages of built-in types are made
abbrev pub java_names : Words → JavaNames
java_names w = record { java = name_of w Java; lang = name_of w Lang; io = name_of w Io }

abbrev pub java : Program → JavaNames
java p = java_names p.words

abbrev pub files : Program → List File
files p = files_of p.user p.lib

abbrev pub built : Words → BuiltIns
built w = record { types = built_in_types w; methods = built_in_methods w; fields = built_in_fields w }

-- what is known of its types before written types are read
abbrev pub types : Program → List TypeInfo
types p = headers (built p.words).types (files p)

-- its types, methods and fields
abbrev pub world : Program → World
world p = world_of (built p.words) (java p) (files p)

-- ---- the rules on names, and on what a program leaves out

-- the type of this number is generic
abbrev pub is_generic_type : List TypeInfo → ℕ → Bool
is_generic_type ts c = unwrap_or (option_map (λ (info : TypeInfo). nat_lt 0 info.params) (slice_get ts c)) false

-- whether a simple name means a generic type in a file
abbrev pub is_generic_name : JavaNames → List File → List TypeInfo → File → Name → Bool
is_generic_name j fs ts f n = unwrap_or (option_map (is_generic_type ts) (meant j fs f n)) false

-- a generic type that a name means has this name
abbrev pub NamesGenerics : List TypeInfo → JavaNames → List File → Type 0
NamesGenerics ts j fs = (f : File) (n : Name) (c : ℕ) (info : TypeInfo) → meant j fs f n ≡ Some c → slice_get ts c ≡ Some info → 0 < info.params → info.name ≡ n

-- what a file breaks of S10, S12, S13 and S17 to S19
abbrev pub PlainBreaches : List (List ℕ) → JavaNames → List File → List TypeInfo → File → Breaches
PlainBreaches names j fs ts f = BreaksPlain f.unit f.user names (is_generic_name j fs ts f)

-- S10 to S20, S22 and S23, in a program of these files and headers of types
abbrev pub ScopeSet : List (List ℕ) → JavaNames → List SourceUnit → List SourceUnit → List TypeInfo → Breaches
ScopeSet names j user lib ts =
    Either (Among (PlainBreaches names j (files_of user lib) ts) (files_of user lib)) (Either (NameBreaches j user lib) (GenericSuperBreaches j (files_of user lib) ts))

abbrev pub ScopeBreaches : List (List ℕ) → Program → Breaches
ScopeBreaches names p = ScopeSet names (java p) p.user p.lib (types p)

-- ---- how many declarations there are

abbrev pub sum : (SourceUnit → ℕ) → List SourceUnit → ℕ
sum count [] = 0
sum count (u ∷ us) = count u + sum count us

-- those of user files and library files
abbrev pub total : (SourceUnit → ℕ) → List SourceUnit → List SourceUnit → ℕ
total count user lib = sum count user + sum count lib

abbrev pub type_count : Program → ℕ
type_count p = total declared_types p.user p.lib

abbrev pub method_count : Program → ℕ
method_count p = total declared_methods p.user p.lib

-- which limit so many types and methods go past: none, that of the types (6), or that of the methods (7)
abbrev pub IsLimitOver : (types methods : ℕ) → Option ℕ → Type 0
IsLimitOver types methods None = (types ≤ 4096) × (methods ≤ 65536)
IsLimitOver types methods (Some rule) = ((rule ≡ 6) × (4096 < types)) ⊎ ((rule ≡ 7) × (types ≤ 4096) × (65536 < methods))

-- ---- the rules on declarations

-- DR4: a declared type with its own variables is below two parameterizations of one type (JLS 8.1.5); at the first such type in the order of declarations,
-- which is that of nodes.
abbrev pub ClashBreaches : World → Breaches
ClashBreaches w b =
    (c : ℕ) × (info : TypeInfo) × (slice_get w.types c ≡ Some info) × IsFirstBelowTwo w (Some c) × (n : ℕ) × (info.node ≡ Some n) × (b.node ≡ n) × (b.rule ≡ 4)

-- DR1 to DR12 but for DR4, in a program of these files, headers of types, and methods
abbrev pub RuleBreaches : JavaNames → List File → List TypeInfo → List MethodInfo → Breaches
RuleBreaches j fs ts ms =
    Either (Among (λ f. BreaksDeclared f.unit) fs)
    (Either (ImportBreaches j fs) (Either (DeclaredTypeBreaches j fs ts) (Either (SuperBreaches j fs ts) (RepeatsMethod ms))))

-- DR1 to DR12, where the built-in types are these
abbrev pub DeclarationSet : BuiltIns → JavaNames → List File → Breaches
DeclarationSet b j fs = Either (RuleBreaches j fs (headers b.types fs) (world_of b j fs).methods) (ClashBreaches (world_of b j fs))

abbrev pub DeclarationBreaches : Program → Breaches
DeclarationBreaches p = DeclarationSet (built p.words) (java p) (files p)

-- ---- what comes of a program

-- a rule on the whole program, which has no node
abbrev pub IsLimit : ℕ → Broken → Type 0
IsLimit rule b = (b.family ≡ family.L) × (b.number ≡ rule) × (b.node ≡ None)

-- One of these rules, else L6, else L7, of so many types and methods.
abbrev pub IsEarlyRefusal : Breaches → (types methods : ℕ) → Broken → Type 0
IsEarlyRefusal S types methods b =
    IsFirstOf family.S S b ⊎ (IsNone S × (4096 < types) × IsLimit 6 b) ⊎ (IsNone S × (types ≤ 4096) × (65536 < methods) × IsLimit 7 b)

-- The broken rule that is named: one of the S rules, else L6, else L7, else one of the DR rules.
abbrev pub IsRefusal : List (List ℕ) → Program → Broken → Type 0
IsRefusal names p b =
    IsEarlyRefusal (ScopeBreaches names p) (type_count p) (method_count p) b
    ⊎ (IsNone (ScopeBreaches names p) × (type_count p ≤ 4096) × (method_count p ≤ 65536) × IsFirstOf family.DR (DeclarationBreaches p) b)

-- two worlds have the same types, methods and fields
abbrev pub SameDeclared : World → World → Type 0
SameDeclared w v = (v.types ≡ w.types) × (v.methods ≡ w.methods) × (v.fields ≡ w.fields)

-- No rule is broken, and the world is the program's, with the table of its order and with its walk. Its members are made of its types.
pub record IsProgramWorld (names : List (List ℕ)) (p : Program) (w : World) : Type 0 where
  pub scope : IsNone (ScopeBreaches names p)
  pub types : type_count p ≤ 4096
  pub methods : method_count p ≤ 65536
  pub declared : IsNone (DeclarationBreaches p)
  pub sound : IsSound w
  pub typed : HaveTypes w
  pub walk : WalkIs names w.walk w
  pub same : SameDeclared (world p) w
