-- What a form of the new tree has in the places of the parts of an old form, where all else is alike: the two forms are alike where these parts are.
use Rattle.std.specs.Prelude.{◌≡◌, ◌↔◌, ℕ, Bool, map, Option, Result, Ok, Err}
use Rattle.std.specs.Option.{option_map}
use Rattle.java_tree.specs.declared.tree.Node.{Node}
use Rattle.class_world.specs.declared.world.JavaType.{JavaType}
use Rattle.java_core.specs.declared.expr.Before.{Before}
use Rattle.java_core.specs.declared.expr.CoreExpr.{CoreExpr}
use Rattle.java_core.specs.declared.stmt.CoreStmt.{CoreStmt}
use Rattle.java_core.specs.Plain as e
use Rattle.java_core.specs.View.{catch_plain, catch_row, maybe, plain, plains, stmt_maybe, stmt_plain, stmts_plain}
use Rattle.program_maps.specs.Pairs.{Pair, CallAlike}
use Rattle.program_maps.specs.Trees.{ExprAlike, ExprsAlike, MaybeExprAlike, CatchesAlike, GroupsAlike, MaybeStmtAlike, StmtAlike, StmtsAlike}
use Rattle.alike_trees.specs.declared.pairs.Two.{Two}
use Rattle.alike_trees.specs.declared.pairs.Cond.{Cond}
use Rattle.alike_trees.specs.declared.calls.Call.{Call}
use Rattle.alike_trees.specs.declared.calls.StaticCall.{StaticCall}
use Rattle.alike_trees.specs.declared.blocks.Branches.{Branches}
use Rattle.alike_trees.specs.declared.blocks.For.{For}
use Rattle.alike_trees.specs.declared.blocks.Try.{Try}

-- there is a value, of which this holds
abbrev pub Has : {A E : Type 0} → Result A E → (A → Type 0) → Type 0
Has (Ok x) P = P x
Has (Err u) P = ⊥

-- ---- expressions

-- whether y is alike to a form without parts
abbrev pub TellsLeaf : {E : Type 0} → Pair → e.Form → CoreExpr → Result Unit E → Type 0
TellsLeaf p x y r = (n : Node) (t : JavaType) → (r ≡ Ok tt) ↔ ExprAlike p (e.At n t x) (plain y)

-- a form of one part
abbrev pub GivesOne : {A E : Type 0} → Pair → JavaType → (e.Expr → e.Form) → CoreExpr → Result A E → (A → e.Expr) → Type 0
GivesOne p t make y r part = (n : Node) (x : e.Expr) → Has r (λ a. ExprAlike p x (part a)) ↔ ExprAlike p (e.At n t (make x)) (plain y)

-- of two
abbrev pub GivesTwo : {E : Type 0} → Pair → JavaType → (e.Expr → e.Expr → e.Form) → CoreExpr → Result Two E → Type 0
GivesTwo p t make y r =
    (n : Node) (a b : e.Expr) → Has r (λ i. ExprAlike p a (plain i.first.now) × ExprAlike p b (plain i.second.now)) ↔ ExprAlike p (e.At n t (make a b)) (plain y)

-- of any number
abbrev pub GivesList : {A E : Type 0} → Pair → JavaType → (e.Exprs → e.Form) → CoreExpr → Result A E → (A → e.Exprs) → Type 0
GivesList p t make y r parts = (n : Node) (xs : e.Exprs) → Has r (λ a. ExprsAlike p xs (parts a)) ↔ ExprAlike p (e.At n t (make xs)) (plain y)

-- of one that may be missing
abbrev pub GivesMaybe : {A E : Type 0} → Pair → JavaType → (e.MaybeExpr → e.Form) → CoreExpr → Result A E → (A → e.MaybeExpr) → Type 0
GivesMaybe p t make y r part = (n : Node) (x : e.MaybeExpr) → Has r (λ a. MaybeExprAlike p x (part a)) ↔ ExprAlike p (e.At n t (make x)) (plain y)

abbrev pub GivesCond : {E : Type 0} → Pair → JavaType → CoreExpr → Result Cond E → Type 0
GivesCond p t y r =
    (n : Node) (a b c : e.Expr)
    → Has r (λ i. ExprAlike p a (plain i.test.now) × ExprAlike p b (plain i.yes.now) × ExprAlike p c (plain i.no.now)) ↔ ExprAlike p (e.At n t (e.Cond a b c)) (plain y)

abbrev pub GivesCall : {E : Type 0} → Pair → JavaType → Bool → ℕ → CoreExpr → Result Call E → Type 0
GivesCall p t simple m y r =
    (n : Node) (a : e.Expr) (xs : e.Exprs)
    → Has r (λ i. CallAlike p m i.method × ExprAlike p a (plain i.of.now) × ExprsAlike p xs (plains i.args.now)) ↔ ExprAlike p (e.At n t (e.Call a simple m xs)) (plain y)

abbrev pub GivesStaticCall : {E : Type 0} → Pair → JavaType → Before → ℕ → CoreExpr → Result StaticCall E → Type 0
GivesStaticCall p t before m y r =
    (n : Node) (a : e.MaybeExpr) (xs : e.Exprs)
    → Has r (λ i. MaybeExprAlike p a (maybe (option_map plain i.of.now)) × ExprsAlike p xs (plains i.args.now)) ↔ ExprAlike p (e.At n t (e.StaticCall before a m xs)) (plain y)

-- ---- statements

-- whether y is alike to a statement without others in it, at any node
abbrev pub TellsStmt : {E : Type 0} → Pair → (Node → e.Stmt) → CoreStmt → Result Unit E → Type 0
TellsStmt p make y r = (n : Node) → (r ≡ Ok tt) ↔ StmtAlike p (make n) (stmt_plain y)

-- a statement with one in it
abbrev pub GivesBody : {A E : Type 0} → Pair → (Node → e.Stmt → e.Stmt) → CoreStmt → Result A E → (A → e.Stmt) → Type 0
GivesBody p make y r body = (n : Node) (z : e.Stmt) → Has r (λ a. StmtAlike p z (body a)) ↔ StmtAlike p (make n z) (stmt_plain y)

abbrev pub GivesBlock : {A E : Type 0} → Pair → CoreStmt → Result A E → (A → e.Stmts) → Type 0
GivesBlock p y r body = (n : Node) (zs : e.Stmts) → Has r (λ a. StmtsAlike p zs (body a)) ↔ StmtAlike p (e.Block n zs) (stmt_plain y)

abbrev pub GivesBranches : {E : Type 0} → Pair → e.Expr → CoreStmt → Result Branches E → Type 0
GivesBranches p x y r =
    (n : Node) (a : e.Stmt) (b : e.MaybeStmt)
    → Has r (λ i. StmtAlike p a (stmt_plain i.yes.now) × MaybeStmtAlike p b (stmt_maybe (option_map stmt_plain i.no.now))) ↔ StmtAlike p (e.If n x a b) (stmt_plain y)

abbrev pub GivesFor : {E : Type 0} → Pair → Option e.Expr → e.Exprs → CoreStmt → Result For E → Type 0
GivesFor p x xs y r =
    (n : Node) (zs : e.Stmts) (b : e.Stmt)
    → Has r (λ i. StmtsAlike p zs (stmts_plain i.init.now) × StmtAlike p b (stmt_plain i.body.now)) ↔ StmtAlike p (e.For n zs x xs b) (stmt_plain y)

abbrev pub GivesGroups : {A E : Type 0} → Pair → e.Expr → CoreStmt → Result A E → (A → e.Groups) → Type 0
GivesGroups p x y r groups = (n : Node) (gs : e.Groups) → Has r (λ a. GroupsAlike p gs (groups a)) ↔ StmtAlike p (e.Switch n x gs) (stmt_plain y)

abbrev pub GivesTry : {E : Type 0} → Pair → CoreStmt → Result Try E → Type 0
GivesTry p y r =
    (n : Node) (a : e.Stmt) (cs : e.Catches) (b : e.MaybeStmt)
    → Has r (λ i. StmtAlike p a (stmt_plain i.body.now) × CatchesAlike p cs (catch_row (map catch_plain i.catches.now)) × MaybeStmtAlike p b (stmt_maybe (option_map stmt_plain i.last.now)))
    ↔ StmtAlike p (e.Try n a cs b) (stmt_plain y)
