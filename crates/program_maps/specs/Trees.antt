-- When trees of two programs are alike, a clause a form. Two forms that are not the same are not alike. Nodes, names and written types that nothing reads at run time
-- may differ.
use Rattle.std.specs.Prelude.{◌≡◌, ℕ, List, [], ◌∷◌, Option, Some, None, is_some}
use Rattle.std.specs.Option.{option_map}
use Rattle.class_world.specs.declared.world.JavaType.{JavaType}
use Rattle.java_core.specs.Plain as e
use Rattle.type_kinds.specs.Kinds.{class_number, ty_of, element}
use Rattle.core_meaning.specs.Expressions.{said}
use Rattle.core_meaning.specs.Code.{Body, Written, Default}
use Rattle.program_maps.specs.Pairs.{Pair, CallAlike, ErasedAlike, ArrayAlike, FitAlike, CastAlike, ImpliedAlike}

-- ---- expressions

abbrev mutual
  pub ExprAlike : Pair → e.Expr → e.Expr → Type 0
  ExprAlike p (e.At n t x) (e.At n' t' x') = FormAlike p t t' x x'

  -- with the types of both expressions
  pub FormAlike : Pair → JavaType → JavaType → e.Form → e.Form → Type 0
  FormAlike p t t' (e.Int z) (e.Int z') = z' ≡ z
  FormAlike p t t' (e.Long z) (e.Long z') = z' ≡ z
  FormAlike p t t' (e.Char c) (e.Char c') = c' ≡ c
  FormAlike p t t' (e.Text us) (e.Text us') = us' ≡ us
  FormAlike p t t' (e.Truth b) (e.Truth b') = b' ≡ b
  FormAlike p t t' e.Null e.Null = Unit {0}
  FormAlike p t t' e.This e.This = Unit {0}
  FormAlike p t t' (e.Local k) (e.Local k') = k' ≡ k
  FormAlike p t t' (e.Paren x) (e.Paren x') = ExprAlike p x x'
  FormAlike p t t' (e.Widen x) (e.Widen x') = FitAlike t t' × ExprAlike p x x'
  FormAlike p t t' (e.Implied x) (e.Implied x') = CastAlike p t t' × ExprAlike p x x'
  FormAlike p t t' (e.Field x simple f) (e.Field x' simple' f') = (f' ≡ p.ways.fields f) × ExprAlike p x x'
  FormAlike p t t' (e.SuperField f) (e.SuperField f') = f' ≡ p.ways.fields f
  FormAlike p t t' (e.StaticField before x f) (e.StaticField before' x' f') = (f' ≡ p.ways.fields f) × MaybeExprAlike p x x'
  FormAlike p t t' (e.Length x) (e.Length x') = ExprAlike p x x'
  FormAlike p t t' (e.Index x y) (e.Index x' y') = ExprAlike p x x' × ExprAlike p y y'
  FormAlike p t t' (e.Call x simple m xs) (e.Call x' simple' m' xs') = CallAlike p m m' × ExprAlike p x x' × ExprsAlike p xs xs'
  FormAlike p t t' (e.SuperCall m xs) (e.SuperCall m' xs') = (m' ≡ p.ways.methods m) × ExprsAlike p xs xs'
  FormAlike p t t' (e.StaticCall before x m xs) (e.StaticCall before' x' m' xs') =
      (m' ≡ p.ways.methods m) × MaybeExprAlike p x x' × ExprsAlike p xs xs'
  FormAlike p t t' (e.New w m xs) (e.New w' m' xs') =
      (class_number (said w') ≡ option_map p.ways.types (class_number (said w))) × (m' ≡ p.ways.methods m) × ExprsAlike p xs xs'
  FormAlike p t t' (e.NewArray w xs) (e.NewArray w' xs') = ArrayAlike p t t' × ExprsAlike p xs xs'
  FormAlike p t t' (e.NewFilled w x) (e.NewFilled w' x') = ExprAlike p x x'
  FormAlike p t t' (e.Filled xs) (e.Filled xs') = ArrayAlike p t t' × ExprsAlike p xs xs'
  FormAlike p t t' (e.Unary op x) (e.Unary op' x') = (op' ≡ op) × ExprAlike p x x'
  FormAlike p t t' (e.Step up before x) (e.Step up' before' x') = (up' ≡ up) × (before' ≡ before) × ExprAlike p x x'
  FormAlike p t t' (e.Cast w close x) (e.Cast w' close' x') = ErasedAlike p (said w) (said w') × ExprAlike p x x'
  FormAlike p t t' (e.Binary op k x y) (e.Binary op' k' x' y') = (op' ≡ op) × (k' ≡ k) × ExprAlike p x x' × ExprAlike p y y'
  FormAlike p t t' (e.Logic both x y) (e.Logic both' x' y') = (both' ≡ both) × ExprAlike p x x' × ExprAlike p y y'
  FormAlike p t t' (e.InstanceOf x w) (e.InstanceOf x' w') = ErasedAlike p (said w) (said w') × ExprAlike p x x'
  FormAlike p t t' (e.Cond x y z) (e.Cond x' y' z') = ExprAlike p x x' × ExprAlike p y y' × ExprAlike p z z'
  FormAlike p t t' (e.Assign x y) (e.Assign x' y') = ExprAlike p x x' × ExprAlike p y y'
  FormAlike p t t' (e.Compound op k x y) (e.Compound op' k' x' y') =
      FitAlike t t' × (op' ≡ op) × (k' ≡ k) × ExprAlike p x x' × ExprAlike p y y'
  FormAlike p t t' _ _ = ⊥

  pub MaybeExprAlike : Pair → e.MaybeExpr → e.MaybeExpr → Type 0
  MaybeExprAlike p e.NoExpr e.NoExpr = Unit {0}
  MaybeExprAlike p (e.AnExpr x) (e.AnExpr x') = ExprAlike p x x'
  MaybeExprAlike p _ _ = ⊥

  pub ExprsAlike : Pair → e.Exprs → e.Exprs → Type 0
  ExprsAlike p e.End e.End = Unit {0}
  ExprsAlike p (e.Also x xs) (e.Also x' xs') = ExprAlike p x x' × ExprsAlike p xs xs'
  ExprsAlike p _ _ = ⊥

abbrev pub OptExprAlike : Pair → Option e.Expr → Option e.Expr → Type 0
OptExprAlike p None None = Unit {0}
OptExprAlike p (Some x) (Some x') = ExprAlike p x x'
OptExprAlike p _ _ = ⊥

-- ---- statements

abbrev pub VarAlike : Pair → e.Var → e.Var → Type 0
VarAlike p x x' = (x'.slot ≡ x.slot) × OptExprAlike p x.init x'.init

abbrev pub VarsAlike : Pair → List e.Var → List e.Var → Type 0
VarsAlike p [] [] = Unit {0}
VarsAlike p (x ∷ xs) (x' ∷ xs') = VarAlike p x x' × VarsAlike p xs xs'
VarsAlike p _ _ = ⊥

-- the variable of an enhanced for
abbrev pub ItemAlike : e.Var → e.Var → Type 0
ItemAlike x x' = (x'.slot ≡ x.slot) × FitAlike x.ty x'.ty

-- what it goes over: an array or none
abbrev pub OverAlike : e.Expr → e.Expr → Type 0
OverAlike y y' = is_some (element (ty_of y')) ≡ is_some (element (ty_of y))

-- the parameter of a catch
abbrev pub CatchParamAlike : Pair → e.Param → e.Param → Type 0
CatchParamAlike p x x' = (x'.slot ≡ x.slot) × ErasedAlike p x.ty x'.ty

abbrev mutual
  pub StmtAlike : Pair → e.Stmt → e.Stmt → Type 0
  StmtAlike p (e.Block n xs) (e.Block n' xs') = StmtsAlike p xs xs'
  StmtAlike p (e.Locals n f w xs) (e.Locals n' f' w' xs') = VarsAlike p xs xs'
  StmtAlike p (e.Empty n) (e.Empty n') = Unit {0}
  StmtAlike p (e.Value n x) (e.Value n' x') = ExprAlike p x x'
  StmtAlike p (e.If n x y z) (e.If n' x' y' z') = ExprAlike p x x' × StmtAlike p y y' × MaybeStmtAlike p z z'
  StmtAlike p (e.While n x y) (e.While n' x' y') = ExprAlike p x x' × StmtAlike p y y'
  StmtAlike p (e.Do n y x) (e.Do n' y' x') = StmtAlike p y y' × ExprAlike p x x'
  StmtAlike p (e.For n xs x us y) (e.For n' xs' x' us' y') =
      StmtsAlike p xs xs' × OptExprAlike p x x' × ExprsAlike p us us' × StmtAlike p y y'
  StmtAlike p (e.ForEach n f w x y t i z) (e.ForEach n' f' w' x' y' t' i' z') =
      ItemAlike x x' × OverAlike y y' × ImpliedAlike p i i' t t' × ExprAlike p y y' × StmtAlike p z z'
  StmtAlike p (e.Switch n x gs) (e.Switch n' x' gs') = ExprAlike p x x' × GroupsAlike p gs gs'
  StmtAlike p (e.Break n) (e.Break n') = Unit {0}
  StmtAlike p (e.Continue n) (e.Continue n') = Unit {0}
  StmtAlike p (e.Return n x) (e.Return n' x') = OptExprAlike p x x'
  StmtAlike p (e.Throw n x) (e.Throw n' x') = ExprAlike p x x'
  StmtAlike p (e.Try n y cs z) (e.Try n' y' cs' z') = StmtAlike p y y' × CatchesAlike p cs cs' × MaybeStmtAlike p z z'
  StmtAlike p (e.ThisCall n m xs) (e.ThisCall n' m' xs') = (m' ≡ p.ways.methods m) × ExprsAlike p xs xs'
  StmtAlike p (e.SuperFirst n m xs) (e.SuperFirst n' m' xs') = (m' ≡ p.ways.methods m) × ExprsAlike p xs xs'
  StmtAlike p _ _ = ⊥

  pub MaybeStmtAlike : Pair → e.MaybeStmt → e.MaybeStmt → Type 0
  MaybeStmtAlike p e.NoStmt e.NoStmt = Unit {0}
  MaybeStmtAlike p (e.AStmt x) (e.AStmt x') = StmtAlike p x x'
  MaybeStmtAlike p _ _ = ⊥

  pub StmtsAlike : Pair → e.Stmts → e.Stmts → Type 0
  StmtsAlike p e.Last e.Last = Unit {0}
  StmtsAlike p (e.Then x xs) (e.Then x' xs') = StmtAlike p x x' × StmtsAlike p xs xs'
  StmtsAlike p _ _ = ⊥

  pub GroupAlike : Pair → e.Group → e.Group → Type 0
  GroupAlike p (e.Labelled n ls xs) (e.Labelled n' ls' xs') = (ls' ≡ ls) × StmtsAlike p xs xs'

  pub GroupsAlike : Pair → e.Groups → e.Groups → Type 0
  GroupsAlike p e.NoGroup e.NoGroup = Unit {0}
  GroupsAlike p (e.AndGroup g gs) (e.AndGroup g' gs') = GroupAlike p g g' × GroupsAlike p gs gs'
  GroupsAlike p _ _ = ⊥

  pub CatchAlike : Pair → e.Catch → e.Catch → Type 0
  CatchAlike p (e.Caught n x y) (e.Caught n' x' y') = CatchParamAlike p x x' × StmtAlike p y y'

  pub CatchesAlike : Pair → e.Catches → e.Catches → Type 0
  CatchesAlike p e.NoCatch e.NoCatch = Unit {0}
  CatchesAlike p (e.AndCatch c cs) (e.AndCatch c' cs') = CatchAlike p c c' × CatchesAlike p cs cs'
  CatchesAlike p _ _ = ⊥

-- ---- bodies and fields

-- the constructor that runs unsaid
abbrev pub FirstAlike : Pair → Option ℕ → Option ℕ → Type 0
FirstAlike p m m' = m' ≡ option_map p.ways.methods m

abbrev pub BodyAlike : Pair → Body → Body → Type 0
BodyAlike p (Written m x) (Written m' x') = FirstAlike p m m' × StmtAlike p x x'
BodyAlike p (Default m) (Default m') = m' ≡ p.ways.methods m
BodyAlike p _ _ = ⊥

abbrev pub OptBodyAlike : Pair → Option Body → Option Body → Type 0
OptBodyAlike p None None = Unit {0}
OptBodyAlike p (Some b) (Some b') = BodyAlike p b b'
OptBodyAlike p _ _ = ⊥

abbrev pub FieldAlike : Pair → e.FieldVar → e.FieldVar → Type 0
FieldAlike p x x' = (x'.field ≡ p.ways.fields x.field) × OptExprAlike p x.init x'.init

abbrev pub FieldsAlike : Pair → List e.FieldVar → List e.FieldVar → Type 0
FieldsAlike p [] [] = Unit {0}
FieldsAlike p (x ∷ xs) (x' ∷ xs') = FieldAlike p x x' × FieldsAlike p xs xs'
FieldsAlike p _ _ = ⊥
