-- The S rules on what a file writes, by what it writes and by which names mean generic types in it.
use Rattle.std.specs.Prelude.{◌≡◌, ◌≢◌, ◌<◌, ◌⊎◌, ℕ, Bool, true, false, List, [], ◌∷◌, Some, Contains, slice_get, codes}
use Rattle.java_tree.specs.declared.tree.Name.{Name}
use Rattle.java_tree.specs.declared.tree.Head.{Head}
use Rattle.java_tree.specs.declared.tree.Head.TheVariants as head
use Rattle.java_tree.specs.declared.tree.Mod.TheVariants as mods
use Rattle.java_tree.specs.declared.tree.UnOp.TheVariants as op
use Rattle.java_tree.specs.Plain as t
use Rattle.java_tree.specs.Plain.{SourceUnit, TypeDecl, FieldDecl, MethodDecl, Member, TypeExpr, Var, Expr}
use Rattle.decl_rules.specs.Children as c
use Rattle.decl_rules.specs.Children.{Item}
use Rattle.rule_order.specs.First.{Breaches, Either}
use Rattle.rule_order.specs.Noted.{At, Nowhere, SomeOf}
use Rattle.decl_rules.specs.Parts.{SomeWithin, node_of, head_of, args_of, dims_of, mods_of, member_node}

-- ---- written types

-- two or more names, with dots between them
abbrev pub IsQualified : Head → Type 0
IsQualified (head.Path (x ∷ y ∷ names)) = Unit {0}
IsQualified _ = ⊥

-- S13: a type is named by a qualified name.
abbrev pub NamesQualified : Item → Breaches
NamesQualified (c.TypeExpr x) = At 13 (node_of x) (IsQualified (head_of x))
NamesQualified _ = Nowhere

-- one of the variables has brackets behind its name
abbrev pub HasBrackets : List Var → Type 0
HasBrackets vars = (v : Var) × Contains vars v × (0 < v.dims)

-- The node makes an array type, and the type without its brackets is written as this one (JLS 10.1): a type with brackets, a declaration with brackets
-- behind a name, an array creation.
abbrev pub IsElement : Item → TypeExpr → Type 0
IsElement (c.TypeExpr x) ty = (ty ≡ x) × (0 < dims_of x)
IsElement (c.Member (t.AField f)) ty = (ty ≡ f.ty) × HasBrackets f.vars
IsElement (c.Param p) ty = (ty ≡ p.ty) × (0 < p.dims)
IsElement (c.Stmt (t.Local n final_ x vars)) ty = (ty ≡ x) × HasBrackets vars
IsElement (c.Expr (t.NewArray n x sizes extra)) ty = ty ≡ x
IsElement _ ty = ⊥

-- S17: an array's element type has type arguments.
abbrev pub HasGenericElements : Item → Breaches
HasGenericElements y b = (ty : TypeExpr) × IsElement y ty × At 17 (node_of ty) (args_of ty ≢ t.NoTypes) b

-- The head is the simple name of a generic type, by the names that mean generic types in the file. A type parameter of the type around shadows a name (JLS 6.3.1).
abbrev pub NamesGeneric : (generic : Name → Bool) → (vars : List Name) → Head → Type 0
NamesGeneric generic vars h = (n : Name) × (h ≡ head.Path (n ∷ [])) × (Contains vars n → ⊥) × (generic n ≡ true)

-- S12: an argument of a written type (JLS 4.5) is an array type or of a generic type.
abbrev pub Nests : (generic : Name → Bool) → (vars : List Name) → Item → Breaches
Nests generic vars (c.TypeExpr x) b =
    (y : TypeExpr) × Contains (c.types (args_of x)) (c.TypeExpr y) × At 12 (node_of y) ((0 < dims_of y) ⊎ NamesGeneric generic vars (head_of y)) b
Nests generic vars _ b = ⊥

-- S13 and S17 within a file, and S12 within each type that it declares
abbrev pub WrittenBreaks : SourceUnit → (generic : Name → Bool) → Breaches
WrittenBreaks u generic =
    Either (SomeWithin (c.File u) (λ y. Either (NamesQualified y) (HasGenericElements y))) (SomeOf u.types (λ d. SomeWithin (c.Decl d) (Nests generic d.params)))

-- ---- types and members

-- S10, of a user file: a type has type parameters. S18, of a library file: it is protected.
abbrev pub TypeBreaks : (user : Bool) → TypeDecl → Breaches
TypeBreaks user d = Either (At 10 d.node ((user ≡ true) × (d.params ≢ []))) (At 18 d.node ((user ≡ false) × Contains d.mods mods.Protected))

-- S18, of a library file: a member is protected.
abbrev pub IsProtected : (user : Bool) → Member → Breaches
IsProtected user m = At 18 (member_node m) ((user ≡ false) × Contains (mods_of m) mods.Protected)

-- methods of Object that a program does not have
abbrev pub left_out_names : List (List ℕ)
left_out_names = codes "getClass" ∷ codes "notify" ∷ codes "notifyAll" ∷ codes "clone" ∷ codes "finalize" ∷ []

abbrev pub IsLeftOut : MethodDecl → (text : List ℕ) → Type 0
IsLeftOut m text = (text ≡ codes "wait") ⊎ ((m.params ≡ []) × Contains left_out_names text)

-- S19: a method without parameters has one of those names, or a method is named wait.
abbrev pub TakesName : (names : List (List ℕ)) → Member → Breaches
TakesName names (t.AField f) = Nowhere
TakesName names (t.AMethod m) = At 19 m.node ((m.constructor ≡ false) × ((text : List ℕ) × (slice_get names m.name.0 ≡ Some text) × IsLeftOut m text))

abbrev pub MemberBreaks : (user : Bool) → (names : List (List ℕ)) → TypeDecl → Member → Breaches
MemberBreaks user names d m = Either (IsProtected user m) (TakesName names m)

-- S10, S12, S13, S17, S18 and S19, in a user's file or one of a library
abbrev pub BreaksPlain : SourceUnit → (user : Bool) → (names : List (List ℕ)) → (generic : Name → Bool) → Breaches
BreaksPlain u user names generic =
    Either (WrittenBreaks u generic) (SomeOf u.types (λ d. Either (TypeBreaks user d) (SomeOf d.members (MemberBreaks user names d))))
