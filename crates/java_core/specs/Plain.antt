-- Cores without what the code needs to hold them, form by form.
use Rattle.std.specs.Prelude.{ℕ, ℤ, Bool, List, Option}
use Rattle.java_tree.specs.declared.tree.Node.{Node}
use Rattle.java_tree.specs.declared.tree.Span.{Span}
use Rattle.java_tree.specs.declared.tree.Name.{Name}
use Rattle.java_tree.specs.declared.tree.UnOp.{UnOp}
use Rattle.java_tree.specs.declared.tree.BinOp.{BinOp}
use Rattle.class_world.specs.declared.world.JavaType.{JavaType}
use Rattle.java_core.specs.declared.expr.Kind.{Kind}
use Rattle.java_core.specs.declared.expr.Before.{Before}
use Rattle.java_core.specs.declared.program.Implied as implied

mutual
  -- a written type: its node, the place of its head, what it says, and its arguments
  pub data Written : Type 0 where
    AType : Node → (head : Span) → JavaType → Writtens → Written

  pub data Writtens : Type 0 where
    NoTypes : Writtens
    AndType : Written → Writtens → Writtens

mutual
  -- an expression: its node, its type, and what it is
  pub data Expr : Type 0 where
    At : Node → JavaType → Form → Expr

  pub data Form : Type 0 where
    Int : ℤ → Form
    Long : ℤ → Form
    Char : ℕ → Form
    Text : List ℕ → Form
    Truth : Bool → Form
    Null : Form
    This : Form
    Local : (slot : ℕ) → Form
    Paren : Expr → Form
    Widen : Expr → Form
    Implied : Expr → Form
    Field : Expr → (simple : Bool) → (field : ℕ) → Form
    SuperField : (field : ℕ) → Form
    StaticField : Before → MaybeExpr → (field : ℕ) → Form
    Length : Expr → Form
    Index : Expr → Expr → Form
    Call : Expr → (simple : Bool) → (method : ℕ) → Exprs → Form
    SuperCall : (method : ℕ) → Exprs → Form
    StaticCall : Before → MaybeExpr → (method : ℕ) → Exprs → Form
    New : Written → (constructor : ℕ) → Exprs → Form
    NewArray : Written → Exprs → Form
    NewFilled : Written → Expr → Form
    Filled : Exprs → Form
    Unary : UnOp → Expr → Form
    Step : (up before : Bool) → Expr → Form
    Cast : Written → (close : ℕ) → Expr → Form
    Binary : BinOp → Kind → Expr → Expr → Form
    Logic : (both : Bool) → Expr → Expr → Form
    InstanceOf : Expr → Written → Form
    Cond : Expr → Expr → Expr → Form
    Assign : Expr → Expr → Form
    Compound : BinOp → Kind → Expr → Expr → Form

  pub data MaybeExpr : Type 0 where
    NoExpr : MaybeExpr
    AnExpr : Expr → MaybeExpr

  pub data Exprs : Type 0 where
    End : Exprs
    Also : Expr → Exprs → Exprs

pub record Var : Type 0 where
  pub node : Node
  pub name : Name
  pub slot : ℕ
  pub ty : JavaType
  pub init : Option Expr

pub record Param : Type 0 where
  pub node : Node
  pub is_final : Bool
  pub name : Name
  pub slot : ℕ
  pub ty : JavaType
  pub written : Written

mutual
  pub data Stmt : Type 0 where
    Block : Node → Stmts → Stmt
    Locals : Node → (is_final : Bool) → Written → List Var → Stmt
    Empty : Node → Stmt
    Value : Node → Expr → Stmt
    If : Node → Expr → Stmt → MaybeStmt → Stmt
    While : Node → Expr → Stmt → Stmt
    Do : Node → Stmt → Expr → Stmt
    For : Node → Stmts → Option Expr → Exprs → Stmt → Stmt
    ForEach : Node → (is_final : Bool) → Written → Var → Expr → (item : JavaType) → (implied : Bool) → Stmt → Stmt
    Switch : Node → Expr → Groups → Stmt
    Break : Node → Stmt
    Continue : Node → Stmt
    Return : Node → Option Expr → Stmt
    Throw : Node → Expr → Stmt
    Try : Node → Stmt → Catches → MaybeStmt → Stmt
    ThisCall : Node → (constructor : ℕ) → Exprs → Stmt
    SuperFirst : Node → (constructor : ℕ) → Exprs → Stmt

  pub data MaybeStmt : Type 0 where
    NoStmt : MaybeStmt
    AStmt : Stmt → MaybeStmt

  pub data Stmts : Type 0 where
    Last : Stmts
    Then : Stmt → Stmts → Stmts

  -- the values of labels, of which `None` is `default`, with their statements
  pub data Group : Type 0 where
    Labelled : Node → List (Option ℤ) → Stmts → Group

  pub data Groups : Type 0 where
    NoGroup : Groups
    AndGroup : Group → Groups → Groups

  pub data Catch : Type 0 where
    Caught : Node → Param → Stmt → Catch

  pub data Catches : Type 0 where
    NoCatch : Catches
    AndCatch : Catch → Catches → Catches

pub record FieldVar : Type 0 where
  pub node : Node
  pub field : ℕ
  pub init : Option Expr

pub record Method : Type 0 where
  pub node : Node
  pub method : ℕ
  pub result : Option Written
  pub params : List Param
  pub throws : List Written
  pub implied : Option implied.Implied
  pub body : Option Stmt

pub data Member : Type 0 where
  Fields : Node → Written → List FieldVar → Member
  AMethod : Method → Member

pub record Class : Type 0 where
  pub node : Node
  pub number : ℕ
  pub name_end : ℕ
  pub extends : List Written
  pub implements : List Written
  pub members : List Member
  pub default : Option implied.Implied

-- the types that a file declares, in order
pub record File : Type 0 where
  pub classes : List Class

-- user files before library files
pub record Program : Type 0 where
  pub files : List File
