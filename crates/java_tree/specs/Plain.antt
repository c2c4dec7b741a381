-- Trees without what the code needs to hold them, form by form.
use Rattle.std.specs.Prelude.{ℕ, Bool, List, Option}
use Rattle.java_tree.specs.declared.tree.Node.{Node}
use Rattle.java_tree.specs.declared.tree.Span.{Span}
use Rattle.java_tree.specs.declared.tree.Name as declared
use Rattle.java_tree.specs.declared.tree.Mod.{Mod}
use Rattle.java_tree.specs.declared.tree.Head.{Head}
use Rattle.java_tree.specs.declared.tree.Import.{Import}
use Rattle.java_tree.specs.declared.tree.UnOp.{UnOp}
use Rattle.java_tree.specs.declared.tree.BinOp.{BinOp}

mutual
  -- node, head, the head's place, arguments, array levels
  pub data TypeExpr : Type 0 where
    Written : Node → Head → Span → TypeExprs → ℕ → TypeExpr

  pub data TypeExprs : Type 0 where
    NoTypes : TypeExprs
    AndType : TypeExpr → TypeExprs → TypeExprs

mutual
  pub data Expr : Type 0 where
    Number : Node → (value : ℕ) → (decimal long : Bool) → Expr
    Char : Node → ℕ → Expr
    Text : Node → List ℕ → Expr
    Truth : Node → Bool → Expr
    Null : Node → Expr
    This : Node → Expr
    Name : Node → declared.Name → Expr
    Field : Node → Expr → declared.Name → Expr
    SuperField : Node → declared.Name → Expr
    Index : Node → Expr → Expr → Expr
    Call : Node → MaybeExpr → declared.Name → Exprs → Expr
    SuperMethod : Node → declared.Name → Exprs → Expr
    New : Node → TypeExpr → Exprs → Expr
    NewArray : Node → TypeExpr → Exprs → (extra : ℕ) → Expr
    NewFilled : Node → TypeExpr → Expr → Expr
    Items : Node → Exprs → Expr
    Paren : Node → Expr → Expr
    Unary : Node → UnOp → Expr → Expr
    Step : Node → (up before : Bool) → Expr → Expr
    Cast : Node → TypeExpr → (close : ℕ) → Expr → Expr
    Binary : Node → BinOp → Expr → Expr → Expr
    InstanceOf : Node → Expr → TypeExpr → Expr
    Cond : Node → Expr → Expr → Expr → Expr
    Assign : Node → Option BinOp → Expr → Expr → Expr

  pub data MaybeExpr : Type 0 where
    NoExpr : MaybeExpr
    AnExpr : Expr → MaybeExpr

  pub data Exprs : Type 0 where
    End : Exprs
    Also : Expr → Exprs → Exprs

pub record Var : Type 0 where
  pub node : Node
  pub name : declared.Name
  pub dims : ℕ
  pub init : Option Expr

pub record Param : Type 0 where
  pub node : Node
  pub is_final : Bool
  pub ty : TypeExpr
  pub name : declared.Name
  pub dims : ℕ

mutual
  pub data Stmt : Type 0 where
    Block : Node → Stmts → Stmt
    Local : Node → (is_final : Bool) → TypeExpr → List Var → Stmt
    Empty : Node → Stmt
    Value : Node → Expr → Stmt
    If : Node → Expr → Stmt → MaybeStmt → Stmt
    While : Node → Expr → Stmt → Stmt
    Do : Node → Stmt → Expr → Stmt
    For : Node → Stmts → Option Expr → Exprs → Stmt → Stmt
    ForEach : Node → (is_final : Bool) → TypeExpr → declared.Name → Expr → Stmt → Stmt
    Switch : Node → Expr → Groups → Stmt
    Break : Node → Stmt
    Continue : Node → Stmt
    Return : Node → Option Expr → Stmt
    Throw : Node → Expr → Stmt
    Try : Node → Stmt → Catches → MaybeStmt → Stmt
    ThisCall : Node → Exprs → Stmt
    SuperCall : Node → Exprs → Stmt

  pub data MaybeStmt : Type 0 where
    NoStmt : MaybeStmt
    AStmt : Stmt → MaybeStmt

  pub data Stmts : Type 0 where
    Last : Stmts
    Then : Stmt → Stmts → Stmts

  -- labels, of which `None` is `default`, with their statements
  pub data Group : Type 0 where
    Labelled : Node → List (Option Expr) → Stmts → Group

  pub data Groups : Type 0 where
    NoGroup : Groups
    AndGroup : Group → Groups → Groups

  pub data Catch : Type 0 where
    Caught : Node → Param → Stmt → Catch

  pub data Catches : Type 0 where
    NoCatch : Catches
    AndCatch : Catch → Catches → Catches

pub record FieldDecl : Type 0 where
  pub node : Node
  pub mods : List Mod
  pub ty : TypeExpr
  pub vars : List Var

-- No result is `void`, or none is written where it is a constructor.
pub record MethodDecl : Type 0 where
  pub node : Node
  pub mods : List Mod
  pub result : Option TypeExpr
  pub constructor : Bool
  pub name : declared.Name
  pub params : List Param
  pub throws : List TypeExpr
  pub body : Option Stmt

pub data Member : Type 0 where
  AField : FieldDecl → Member
  AMethod : MethodDecl → Member

pub record TypeDecl : Type 0 where
  pub node : Node
  pub mods : List Mod
  pub interface : Bool
  pub name : declared.Name
  pub name_end : ℕ
  pub params : List declared.Name
  pub extends : List TypeExpr
  pub implements : List TypeExpr
  pub members : List Member

pub record SourceUnit : Type 0 where
  pub node : Node
  pub «package» : List declared.Name
  pub imports : List Import
  pub types : List TypeDecl
