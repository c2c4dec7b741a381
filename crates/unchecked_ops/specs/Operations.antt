-- The unchecked operations of a core, by their nodes, in order, each once. A conversion is at its value.
use Rattle.std.specs.Prelude.{◌≡◌, ℕ, ◌+◌, Bool, true, false, ◌&&◌, ◌||◌, not, List, [], ◌∷◌, ◌++◌, Option, Some, None, Result, OnOk, slice_get}
use Rattle.java_tree.specs.declared.tree.Node.{Node}
use Rattle.class_world.specs.declared.world.FieldInfo.{FieldInfo}
use Rattle.class_world.specs.declared.world.MethodInfo.{MethodInfo}
use Rattle.class_world.specs.declared.world.JavaType.{JavaType}
use Rattle.java_core.specs.Plain as p
use Rattle.type_kinds.specs.Kinds.{ty_of, element}
use Rattle.type_facts.specs.declared.questions.Questions.{Questions}
use Rattle.type_facts.specs.Facts.{AreFacts, Facts}
use Rattle.unchecked_ops.specs.Casting.{AreCasts}
use Rattle.type_kinds.specs.Members.{field_at, method_at}
use Rattle.unchecked_ops.specs.Raw.{params_on, declared_params, is_raw_call, sets_raw}

-- a value goes to a variable of the type, where there is one, by an unchecked conversion alone
abbrev pub converts : Facts → Option JavaType → p.Expr → Bool
converts f None x = false
converts f (Some t) x = f.unchecked (ty_of x) t

abbrev pub mark : Bool → Node → List Node
mark true n = n ∷ []
mark false n = []

-- a conversion that is not written
abbrev pub is_conversion : p.Form → Bool
is_conversion (p.Implied x) = true
is_conversion (p.Widen x) = true
is_conversion _ = false

-- `casts` says which casts are unchecked.
module _ (f : Facts) (casts : JavaType → JavaType → Bool) where
  -- the operation of a node itself
  abbrev pub is_unchecked : JavaType → p.Form → Bool
  is_unchecked t (p.Call x simple k xs) = is_raw_call f (ty_of x) (method_at f.world k)
  is_unchecked t (p.New w k xs) = is_raw_call f t (method_at f.world k)
  is_unchecked t (p.Assign x y) = sets_raw f x
  is_unchecked t (p.Compound op kind x y) = sets_raw f x
  is_unchecked t (p.Cast w close x) = casts (ty_of x) t
  is_unchecked t _ = false

  -- `here` says that the value goes to its variable by an unchecked conversion; conversions leave that to their value.
  abbrev pub is_noted : (here : Bool) → JavaType → p.Form → Bool
  is_noted here t x = not (is_conversion x) && (here || is_unchecked t x)

  abbrev pub own_mark : (here : Bool) → p.Expr → List Node
  own_mark here (p.At n t x) = mark (is_noted here t x) n

-- in a class below this type
module _ (f : Facts) (casts : JavaType → JavaType → Bool) (above : JavaType) where
  abbrev mutual
    pub ops : (here : Bool) → p.Expr → List Node
    ops here (p.At n t x) = mark (is_noted f casts here t x) n ++ parts here t x

    pub parts : (here : Bool) → JavaType → p.Form → List Node
    parts here t (p.Implied x) = ops here x
    parts here t (p.Widen x) = ops here x
    parts here t (p.Paren x) = ops false x
    parts here t (p.Field x simple k) = ops false x
    parts here t (p.StaticField before x k) = maybe_ops x
    parts here t (p.Length x) = ops false x
    parts here t (p.Index x y) = ops false x ++ ops false y
    parts here t (p.Call x simple k xs) = ops false x ++ args (params_on f (ty_of x) (method_at f.world k)) 0 xs
    parts here t (p.SuperCall k xs) = args (params_on f above (method_at f.world k)) 0 xs
    parts here t (p.StaticCall before x k xs) = maybe_ops x ++ args (declared_params (method_at f.world k)) 0 xs
    parts here t (p.New w k xs) = args (params_on f t (method_at f.world k)) 0 xs
    parts here t (p.NewArray w xs) = each_ops xs
    parts here t (p.NewFilled w x) = ops false x
    parts here t (p.Filled xs) = item_ops t xs
    parts here t (p.Unary op x) = ops false x
    parts here t (p.Step up before x) = ops false x
    parts here t (p.Cast w close x) = ops false x
    parts here t (p.Binary op kind x y) = ops false x ++ ops false y
    parts here t (p.Logic both x y) = ops false x ++ ops false y
    parts here t (p.InstanceOf x w) = ops false x
    parts here t (p.Cond x y z) = ops false x ++ (ops false y ++ ops false z)
    parts here t (p.Assign x y) = ops false x ++ ops (converts f (Some t) y) y
    parts here t (p.Compound op kind x y) = ops false x ++ ops false y
    parts here t _ = []

    pub maybe_ops : p.MaybeExpr → List Node
    maybe_ops p.NoExpr = []
    maybe_ops (p.AnExpr x) = ops false x

    pub each_ops : p.Exprs → List Node
    each_ops p.End = []
    each_ops (p.Also x xs) = ops false x ++ each_ops xs

    -- the items of an array of the type t
    pub item_ops : JavaType → p.Exprs → List Node
    item_ops t p.End = []
    item_ops t (p.Also x xs) = ops (converts f (element t) x) x ++ item_ops t xs

    -- arguments from the i-th on, for parameters of these types
    pub args : List JavaType → (i : ℕ) → p.Exprs → List Node
    args ts i p.End = []
    args ts i (p.Also x xs) = ops (converts f (slice_get ts i) x) x ++ args ts (i + 1) xs

-- a value that a variable, a field or the method's caller takes, whose type is t, where there is one
abbrev pub value_ops : Facts → (JavaType → JavaType → Bool) → (above : JavaType) → Option JavaType → Option p.Expr → List Node
value_ops f casts above t None = []
value_ops f casts above t (Some x) = ops f casts above (converts f t x) x

abbrev pub field_type : Option FieldInfo → Option JavaType
field_type None = None
field_type (Some i) = Some i.ty

abbrev pub result_of : Option MethodInfo → Option JavaType
result_of None = None
result_of (Some m) = m.result

-- ---- statements and members

module _ (f : Facts) (casts : JavaType → JavaType → Bool) (above : JavaType) where
  abbrev pub var_ops : List p.Var → List Node
  var_ops [] = []
  var_ops (v ∷ vs) = value_ops f casts above (Some v.ty) v.init ++ var_ops vs

  abbrev pub call_ops : JavaType → (constructor : ℕ) → p.Exprs → List Node
  call_ops t k xs = args f casts above (params_on f t (method_at f.world k)) 0 xs

  abbrev pub field_ops : List p.FieldVar → List Node
  field_ops [] = []
  field_ops (x ∷ xs) = value_ops f casts above (field_type (field_at f.world x.field)) x.init ++ field_ops xs

-- in a class with this type of `this`, below this type
module _ (f : Facts) (casts : JavaType → JavaType → Bool) (own above : JavaType) where
  abbrev mutual
    -- `r` is what the method gives
    pub stmt_ops : (r : Option JavaType) → p.Stmt → List Node
    stmt_ops r (p.Block n ss) = stmts_ops r ss
    stmt_ops r (p.Locals n is_final w vs) = var_ops f casts above vs
    stmt_ops r (p.Empty n) = []
    stmt_ops r (p.Value n x) = ops f casts above false x
    stmt_ops r (p.If n x a b) = ops f casts above false x ++ (stmt_ops r a ++ maybe_stmt r b)
    stmt_ops r (p.While n x a) = ops f casts above false x ++ stmt_ops r a
    stmt_ops r (p.Do n a x) = stmt_ops r a ++ ops f casts above false x
    stmt_ops r (p.For n ss x xs a) = stmts_ops r ss ++ (value_ops f casts above None x ++ (each_ops f casts above xs ++ stmt_ops r a))
    stmt_ops r (p.ForEach n is_final w v x item implied a) = ops f casts above (f.unchecked item v.ty) x ++ stmt_ops r a
    stmt_ops r (p.Switch n x gs) = ops f casts above false x ++ group_ops r gs
    stmt_ops r (p.Break n) = []
    stmt_ops r (p.Continue n) = []
    stmt_ops r (p.Return n x) = value_ops f casts above r x
    stmt_ops r (p.Throw n x) = ops f casts above false x
    stmt_ops r (p.Try n a cs b) = stmt_ops r a ++ (catch_ops r cs ++ maybe_stmt r b)
    stmt_ops r (p.ThisCall n k xs) = call_ops f casts above own k xs
    stmt_ops r (p.SuperFirst n k xs) = call_ops f casts above above k xs

    pub maybe_stmt : (r : Option JavaType) → p.MaybeStmt → List Node
    maybe_stmt r p.NoStmt = []
    maybe_stmt r (p.AStmt a) = stmt_ops r a

    pub stmts_ops : (r : Option JavaType) → p.Stmts → List Node
    stmts_ops r p.Last = []
    stmts_ops r (p.Then a ss) = stmt_ops r a ++ stmts_ops r ss

    pub group_ops : (r : Option JavaType) → p.Groups → List Node
    group_ops r p.NoGroup = []
    group_ops r (p.AndGroup (p.Labelled n ls ss) gs) = stmts_ops r ss ++ group_ops r gs

    pub catch_ops : (r : Option JavaType) → p.Catches → List Node
    catch_ops r p.NoCatch = []
    catch_ops r (p.AndCatch (p.Caught n x a) cs) = stmt_ops r a ++ catch_ops r cs

  abbrev pub body_ops : (r : Option JavaType) → Option p.Stmt → List Node
  body_ops r None = []
  body_ops r (Some a) = stmt_ops r a

  abbrev pub one_member : p.Member → List Node
  one_member (p.Fields n w xs) = field_ops f casts above xs
  one_member (p.AMethod m) = body_ops (result_of (method_at f.world m.method)) m.body

  abbrev pub member_ops : List p.Member → List Node
  member_ops [] = []
  member_ops (m ∷ ms) = one_member m ++ member_ops ms

-- ---- what is said of a call

-- It puts on what these make of any facts of the file, and of any function that says which casts are unchecked. Nothing is said where memory ran out.
abbrev pub Puts : {A E : Type 0} → Questions → Result A E → (old new : List Node) → (Facts → (JavaType → JavaType → Bool) → List Node) → Type 0
Puts q r old new made = (f : Facts) → AreFacts q f → (u : JavaType → JavaType → Bool) → AreCasts q.world.now u → OnOk r (new ≡ old ++ made f u)
