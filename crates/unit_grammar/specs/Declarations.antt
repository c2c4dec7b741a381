-- The grammar of files and declarations (JLS 3rd edition, 7, 8, 9 and 18): which tokens a tree spells. A tree stands from token i to before token j.
-- Nodes have the number 0 here; `numbered` gives them theirs.
use Rattle.std.specs.Prelude.{◌≡◌, ℕ, zero, suc, ◌+◌, Bool, true, false, if◌then◌else◌, List, [], ◌∷◌, length, Option, Some, None}
use Rattle.java_tree.specs.declared.tree.Name.{Name}
use Rattle.java_tree.specs.declared.tree.Mod.{Mod}
use Rattle.java_tree.specs.declared.tree.Mod.TheVariants as mods
use Rattle.java_tree.specs.declared.tree.Import.{Import}
use Rattle.java_tree.specs.declared.tree.BinOp.TheVariants as op
use Rattle.java_tree.specs.Plain as t
use Rattle.java_tree.specs.Plain.{TypeExpr, Param, Stmt, FieldDecl, MethodDecl, Member, TypeDecl, SourceUnit}
use Rattle.java_grammar.specs.declared.token.Tok.{Tok}
use Rattle.java_grammar.specs.declared.token.Sort.TheVariants as s
use Rattle.java_grammar.specs.declared.token.Keyword.{Keyword}
use Rattle.java_grammar.specs.declared.token.Keyword.TheVariants as word
use Rattle.java_grammar.specs.declared.token.Mark.TheVariants as m
use Rattle.java_grammar.specs.Reads.{to_at}
use Rattle.java_grammar.specs.Expressions.{NamesClass, Stands, IsId, node_of, IsPath, SpellsType}
use Rattle.java_grammar.specs.Statements.{IsBlock, Mark_at, Word_at, AreVars, IsParam, SpellsStmt}
use Rattle.unit_grammar.specs.Calls.{CallsInPlace}

abbrev pub word_of : Mod → Keyword
word_of mods.Public = word.Public
word_of mods.Protected = word.Protected
word_of mods.Private = word.Private
word_of mods.Static = word.Static
word_of mods.Abstract = word.Abstract
word_of mods.Final = word.Final

module _ (text : List ℕ) (ts : List Tok) where
  -- ---- parts of declarations

  -- in any order, and perhaps repeated
  abbrev pub AreMods : List Mod → ℕ → ℕ → Type 0
  AreMods [] i j = j ≡ i
  AreMods (x ∷ xs) i j = Word_at text ts (word_of x) i × AreMods xs (i + 1) j

  -- one or more identifiers, with commas between them
  abbrev pub AreIds : List Name → ℕ → ℕ → Type 0
  AreIds [] i j = ⊥
  AreIds (x ∷ []) i j = IsId text ts x i × (j ≡ i + 1)
  AreIds (x ∷ y ∷ ys) i j = IsId text ts x i × Mark_at text ts m.Comma (i + 1) × AreIds (y ∷ ys) (i + 2) j

  -- type parameters (JLS 8.1.2), if any
  abbrev pub AreTypeParams : List Name → ℕ → ℕ → Type 0
  AreTypeParams [] i j = j ≡ i
  AreTypeParams (x ∷ xs) i j =
      Stands text ts (s.Infix op.Less) i × (a : ℕ) × AreIds (x ∷ xs) (i + 1) a × Stands text ts (s.Infix op.Greater) a × (j ≡ a + 1)

  -- a class or interface, perhaps with arguments
  abbrev pub IsRef : TypeExpr → ℕ → ℕ → Type 0
  IsRef x i j = NamesClass x × SpellsType text ts x i j

  -- one or more, with commas between them
  abbrev pub AreRefs : List TypeExpr → ℕ → ℕ → Type 0
  AreRefs [] i j = ⊥
  AreRefs (x ∷ []) i j = IsRef x i j
  AreRefs (x ∷ y ∷ ys) i j = (a : ℕ) × IsRef x i a × Mark_at text ts m.Comma a × AreRefs (y ∷ ys) (a + 1) j

  -- a word with such types behind it, or nothing
  abbrev pub AreBehind : Keyword → List TypeExpr → ℕ → ℕ → Type 0
  AreBehind w [] i j = j ≡ i
  AreBehind w (x ∷ xs) i j = Word_at text ts w i × AreRefs (x ∷ xs) (i + 1) j

  -- ---- members (JLS 8.3, 8.4, 8.8, 9.3, 9.4)

  -- parameters behind `(`, up to and with `)`
  abbrev pub AreMoreParams : List Param → ℕ → ℕ → Type 0
  AreMoreParams [] i j = Mark_at text ts m.Close i × (j ≡ i + 1)
  AreMoreParams (x ∷ xs) i j = Mark_at text ts m.Comma i × (a : ℕ) × IsParam text ts x (i + 1) a × AreMoreParams xs a j

  abbrev pub AreParams : List Param → ℕ → ℕ → Type 0
  AreParams [] i j = Mark_at text ts m.Close i × (j ≡ i + 1)
  AreParams (x ∷ xs) i j = (a : ℕ) × IsParam text ts x i a × AreMoreParams xs a j

  -- a type or `void`, and nothing in front of the name of a constructor
  abbrev pub IsResult : (constructor : Bool) → Option TypeExpr → ℕ → ℕ → Type 0
  IsResult true None i j = j ≡ i
  IsResult true (Some x) i j = ⊥
  IsResult false None i j = Word_at text ts word.Void i × (j ≡ i + 1)
  IsResult false (Some x) i j = SpellsType text ts x i j

  -- a block, or `;` where it is no constructor
  abbrev pub IsBody : (constructor : Bool) → Option Stmt → ℕ → ℕ → Type 0
  IsBody constructor None i j = (constructor ≡ false) × Mark_at text ts m.Semicolon i × (j ≡ i + 1)
  IsBody constructor (Some x) i j = IsBlock x × CallsInPlace constructor x × SpellsStmt text ts false x i j

  pub record IsField (x : FieldDecl) (i j : ℕ) : Type 0 where
    pub node : x.node ≡ node_of text ts i j
    pub type_at : ℕ
    pub mods : AreMods x.mods i type_at
    pub vars_at : ℕ
    pub type : SpellsType text ts x.ty type_at vars_at
    pub end : ℕ
    pub vars : AreVars text ts x.vars vars_at end
    pub semicolon : Mark_at text ts m.Semicolon end
    pub next : j ≡ end + 1

  pub record IsMethod (x : MethodDecl) (i j : ℕ) : Type 0 where
    pub node : x.node ≡ node_of text ts i j
    pub result_at : ℕ
    pub mods : AreMods x.mods i result_at
    pub name_at : ℕ
    pub result : IsResult x.constructor x.result result_at name_at
    pub name : IsId text ts x.name name_at
    pub opens : Mark_at text ts m.Open (name_at + 1)
    pub throws_at : ℕ
    pub params : AreParams x.params (name_at + 2) throws_at
    pub body_at : ℕ
    pub throws : AreBehind word.Throws x.throws throws_at body_at
    pub body : IsBody x.constructor x.body body_at j

  abbrev pub IsMember : Member → ℕ → ℕ → Type 0
  IsMember (t.AField x) i j = IsField x i j
  IsMember (t.AMethod x) i j = IsMethod x i j

  -- ---- types (JLS 8.1, 9.1)

  -- n of them
  abbrev pub AreSemicolons : ℕ → ℕ → ℕ → Type 0
  AreSemicolons zero i j = j ≡ i
  AreSemicolons (suc n) i j = Mark_at text ts m.Semicolon i × AreSemicolons n (i + 1) j

  -- with `;` anywhere between them
  abbrev pub AreMembers : List Member → ℕ → ℕ → Type 0
  AreMembers [] i j = (n : ℕ) × AreSemicolons n i j
  AreMembers (x ∷ xs) i j = (n a : ℕ) × AreSemicolons n i a × (b : ℕ) × IsMember x a b × AreMembers xs b j

  -- A class is below one class at most, and an interface implements nothing.
  abbrev pub AreAbove : (interface : Bool) → (extends implements : List TypeExpr) → ℕ → ℕ → Type 0
  AreAbove true extends [] i j = AreBehind word.Extends extends i j
  AreAbove true extends (y ∷ ys) i j = ⊥
  AreAbove false (x ∷ y ∷ ys) implements i j = ⊥
  AreAbove false extends implements i j = (a : ℕ) × AreBehind word.Extends extends i a × AreBehind word.Implements implements a j

  pub record IsDecl (x : TypeDecl) (i j : ℕ) : Type 0 where
    pub node : x.node ≡ node_of text ts i j
    pub word_at : ℕ
    pub mods : AreMods x.mods i word_at
    pub word : Word_at text ts (if x.interface then word.Interface else word.Class) word_at
    pub name : IsId text ts x.name (word_at + 1)
    pub name_end : x.name_end ≡ to_at ts (word_at + 1)
    pub above_at : ℕ
    pub params : AreTypeParams x.params (word_at + 2) above_at
    pub brace_at : ℕ
    pub above : AreAbove x.interface x.extends x.implements above_at brace_at
    pub brace : Mark_at text ts m.LeftBrace brace_at
    pub end : ℕ
    pub members : AreMembers x.members (brace_at + 1) end
    pub close : Mark_at text ts m.RightBrace end
    pub next : j ≡ end + 1

  -- ---- files (JLS 7.3)

  -- with `;` anywhere between them
  abbrev pub AreDecls : List TypeDecl → ℕ → ℕ → Type 0
  AreDecls [] i j = (n : ℕ) × AreSemicolons n i j
  AreDecls (x ∷ xs) i j = (n a : ℕ) × AreSemicolons n i a × (b : ℕ) × IsDecl x a b × AreDecls xs b j

  -- a file without a name is in the package without a name
  abbrev pub IsPackage : List Name → ℕ → ℕ → Type 0
  IsPackage [] i j = j ≡ i
  IsPackage (x ∷ xs) i j = Word_at text ts word.Package i × (a : ℕ) × IsPath text ts (x ∷ xs) (i + 1) a × Mark_at text ts m.Semicolon a × (j ≡ a + 1)

  -- `.*`, where all types of a package are imported
  abbrev pub IsAll : Bool → ℕ → ℕ → Type 0
  IsAll true i j = Mark_at text ts m.Dot i × Stands text ts (s.Infix op.Mul) (i + 1) × (j ≡ i + 2)
  IsAll false i j = j ≡ i

  pub record IsImport (x : Import) (i j : ℕ) : Type 0 where
    pub node : x.node ≡ node_of text ts i j
    pub word : Word_at text ts word.Import i
    pub path_end : ℕ
    pub path : IsPath text ts x.path (i + 1) path_end
    pub end : ℕ
    pub all : IsAll x.all path_end end
    pub semicolon : Mark_at text ts m.Semicolon end
    pub next : j ≡ end + 1

  abbrev pub AreImports : List Import → ℕ → ℕ → Type 0
  AreImports [] i j = j ≡ i
  AreImports (x ∷ xs) i j = (a : ℕ) × IsImport x i a × AreImports xs a j

  -- the tokens are this file
  pub record SpellsUnit (x : SourceUnit) : Type 0 where
    pub node : x.node ≡ node_of text ts 0 (length ts)
    pub imports_at : ℕ
    pub named : IsPackage x.«package» 0 imports_at
    pub types_at : ℕ
    pub imports : AreImports x.imports imports_at types_at
    pub types : AreDecls x.types types_at (length ts)
