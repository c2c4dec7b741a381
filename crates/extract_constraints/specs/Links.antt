-- The constraints on the places of a class (Tip et al. 2011), a clause a form.
use Rattle.std.specs.Prelude.{ℕ, zero, suc, ◌+◌, Bool, true, false, List, [], ◌∷◌, Option, Some, None}
use Rattle.java_tree.specs.declared.tree.Node.{Node}
use Rattle.class_world.specs.declared.world.JavaType.{JavaType}
use Rattle.class_world.specs.declared.world.JavaType.TheVariants as ty
use Rattle.java_core.specs.Plain as p
use Rattle.type_kinds.specs.Kinds.{node_of, ty_of}
use Rattle.kept_places.specs.declared.links.Kind.TheVariants as kind
use Rattle.kept_places.specs.declared.links.Link.{Link}
use Rattle.marked_types.specs.Marked.{marked, marked_inside, mentions, own_mark}
use Rattle.marked_types.specs.Table.{field_mark, param_mark, result_mark}
use Rattle.extract_constraints.specs.declared.stmts.Walked.{Walked}
use Rattle.extract_constraints.specs.Told.{Told, Where, need_maybe}
use Rattle.extract_constraints.specs.Flows.{arms, cast, class_of, declare, initialise, value_to, value_to_maybe, value_type, walked}
use Rattle.extract_constraints.specs.Receivers.{field_use, maybe_field_use}
use Rattle.extract_constraints.specs.Arguments.{call, own_call, static_call, super_call, value_call}
use Rattle.extract_constraints.specs.Declarations.{declaration}

-- ---- expressions

abbrev pub assigned_if : (mentioned : Bool) → Told → Where → List JavaType → (x y : p.Expr) → List Link → List Link
assigned_if true k a locals x y ls = value_to k a locals y (value_type k a locals x) ls
assigned_if false k a locals x y ls = ls

-- y goes to what x names
abbrev pub assigned : Told → Where → List JavaType → (x y : p.Expr) → List Link → List Link
assigned k a locals x y ls = assigned_if (mentions (class_of a) (ty_of y)) k a locals x y ls

abbrev pub converted_if : (mentioned : Bool) → Told → Where → List JavaType → (node : ℕ) → p.Written → p.Expr → List Link → List Link
converted_if true k a locals n w x ls = cast k a (value_type k a locals x) (marked_inside (class_of a) w) n (node_of x) ls
converted_if false k a locals n w x ls = ls

abbrev pub converted : Told → Where → List JavaType → (node : ℕ) → p.Written → p.Expr → List Link → List Link
converted k a locals n w x ls = converted_if (mentions (class_of a) (ty_of x)) k a locals n w x ls

abbrev mutual
  pub value : Told → Where → List JavaType → p.Expr → List Link → List Link
  value k a locals (p.At n t x) ls = value_form k a locals n t (p.At n t x) x ls

  pub value_form : Told → Where → List JavaType → Node → JavaType → (whole : p.Expr) → p.Form → List Link → List Link
  value_form k a locals n t e (p.Paren x) ls = value k a locals x ls
  value_form k a locals n t e (p.Widen x) ls = value k a locals x ls
  value_form k a locals n t e (p.Implied x) ls = value k a locals x ls
  value_form k a locals n t e (p.Field x simple f) ls = field_use k a locals x n.id (value k a locals x ls)
  value_form k a locals n t e (p.StaticField b x f) ls = maybe_field_use k a locals x n.id (maybe_value k a locals x ls)
  value_form k a locals n t e (p.Length x) ls = value k a locals x ls
  value_form k a locals n t e (p.Index x y) ls = value k a locals y (value k a locals x ls)
  value_form k a locals n t e (p.Call x simple m xs) ls = value_call k a locals n.id x simple m xs (values k a locals xs (value k a locals x ls))
  value_form k a locals n t e (p.SuperCall m xs) ls = super_call k a locals n.id m xs (values k a locals xs ls)
  value_form k a locals n t e (p.StaticCall b x m xs) ls = static_call k a locals n.id b x m xs (values k a locals xs (maybe_value k a locals x ls))
  value_form k a locals n t e (p.New w m xs) ls = call k a locals n.id (marked_inside (class_of a) w) t false m xs (values k a locals xs ls)
  value_form k a locals n t e (p.NewArray w xs) ls = values k a locals xs ls
  value_form k a locals n t e (p.NewFilled w x) ls = initialise k a locals x (Some t) (value k a locals x ls)
  value_form k a locals n t e (p.Filled xs) ls = values k a locals xs ls
  value_form k a locals n t e (p.Unary op x) ls = value k a locals x ls
  value_form k a locals n t e (p.Step up before x) ls = value k a locals x ls
  value_form k a locals n t e (p.Cast w close x) ls = converted k a locals n.id w x (value k a locals x ls)
  value_form k a locals n t e (p.Binary op kind x y) ls = value k a locals y (value k a locals x ls)
  value_form k a locals n t e (p.Logic b x y) ls = value k a locals y (value k a locals x ls)
  value_form k a locals n t e (p.InstanceOf x w) ls = value k a locals x ls
  value_form k a locals n t e (p.Cond x y z) ls = arms k a locals e y z (value k a locals z (value k a locals y (value k a locals x ls)))
  value_form k a locals n t e (p.Assign x y) ls = assigned k a locals x y (value k a locals y (value k a locals x ls))
  value_form k a locals n t e (p.Compound op kind x y) ls = value k a locals y (value k a locals x ls)
  value_form k a locals n t e _ ls = ls

  pub values : Told → Where → List JavaType → p.Exprs → List Link → List Link
  values k a locals p.End ls = ls
  values k a locals (p.Also x xs) ls = values k a locals xs (value k a locals x ls)

  pub maybe_value : Told → Where → List JavaType → p.MaybeExpr → List Link → List Link
  maybe_value k a locals p.NoExpr ls = ls
  maybe_value k a locals (p.AnExpr x) ls = value k a locals x ls

abbrev pub optional : Told → Where → List JavaType → Option p.Expr → List Link → List Link
optional k a locals None ls = ls
optional k a locals (Some x) ls = value k a locals x ls

-- ---- statements: the marked types of locals stand by slot, and a declaration replaces what a slot held before

-- the type of a slot, behind slots of none where it lies beyond those that are there
abbrev pub with_local : List JavaType → (slot : ℕ) → JavaType → List JavaType
with_local [] zero t = t ∷ []
with_local [] (suc n) t = ty.Null ∷ with_local [] n t
with_local (x ∷ xs) zero t = t ∷ xs
with_local (x ∷ xs) (suc n) t = x ∷ with_local xs n t

abbrev pub walked_with : List JavaType → List Link → Walked
walked_with locals ls = record { locals = locals; links = ls }

-- links that leave the locals as they are
abbrev pub same_locals : Walked → (List JavaType → List Link → List Link) → Walked
same_locals s f = walked_with s.locals (f s.locals s.links)

abbrev pub init_to : Told → Where → List JavaType → Option p.Expr → JavaType → List Link → List Link
init_to k a locals None t ls = ls
init_to k a locals (Some x) t ls = declare k a locals x t (value k a locals x ls)

-- a variable is in scope in its own value (JLS 14.4.2)
abbrev pub declared_local : Told → Where → (slot : ℕ) → JavaType → Option p.Expr → Walked → Walked
declared_local k a n t x s = walked_with (with_local s.locals n t) (init_to k a (with_local s.locals n t) x t s.links)

abbrev pub locals : Told → Where → p.Written → List p.Var → Walked → Walked
locals k a w [] s = s
locals k a w (v ∷ vs) s = locals k a w vs (declared_local k a v.slot (marked (class_of a) w v.ty) v.init s)

-- the variable of a loop takes the items of a value
abbrev pub looped : Told → Where → p.Written → p.Var → p.Expr → Walked → Walked
looped k a w v x s =
    walked_with (with_local s.locals v.slot (marked (class_of a) w v.ty))
    (walked k a s.locals x (marked (class_of a) w v.ty) (value k a s.locals x s.links))

abbrev pub thrown_if : (mentioned : Bool) → Told → Where → List JavaType → p.Expr → (node : ℕ) → List Link → List Link
thrown_if true k a locals x n ls = need_maybe (own_mark (value_type k a locals x)) n kind.Throws ls
thrown_if false k a locals x n ls = ls

-- a thrown value stays of its class (14.18)
abbrev pub thrown : Told → Where → (node : ℕ) → p.Expr → List JavaType → List Link → List Link
thrown k a n x locals ls = thrown_if (mentions (class_of a) (ty_of x)) k a locals x n (value k a locals x ls)

abbrev pub given_mark : Where → Option ℕ → Option JavaType
given_mark a None = None
given_mark a (Some m) = result_mark a.reading.marks m

-- what a method gives
abbrev pub returned : Told → Where → Option p.Expr → List JavaType → List Link → List Link
returned k a None locals ls = ls
returned k a (Some x) locals ls = value_to_maybe k a locals x (given_mark a a.method) (value k a locals x ls)

abbrev mutual
  pub walk : Told → Where → p.Stmt → Walked → Walked
  walk k a (p.Block n ss) s = walks k a ss s
  walk k a (p.Locals n is_final w vs) s = locals k a w vs s
  walk k a (p.Empty n) s = s
  walk k a (p.Value n x) s = same_locals s (λ ls. value k a ls x)
  walk k a (p.If n x y z) s = maybe_walk k a z (walk k a y (same_locals s (λ ls. value k a ls x)))
  walk k a (p.While n x y) s = walk k a y (same_locals s (λ ls. value k a ls x))
  walk k a (p.Do n y x) s = same_locals (walk k a y s) (λ ls. value k a ls x)
  walk k a (p.For n ss x xs y) s =
      walk k a y (same_locals (same_locals (walks k a ss s) (λ ls. optional k a ls x)) (λ ls. values k a ls xs))
  walk k a (p.ForEach n is_final w v x item implied y) s = walk k a y (looped k a w v x s)
  walk k a (p.Switch n x gs) s = groups k a gs (same_locals s (λ ls. value k a ls x))
  walk k a (p.Break n) s = s
  walk k a (p.Continue n) s = s
  walk k a (p.Return n x) s = same_locals s (returned k a x)
  walk k a (p.Throw n x) s = same_locals s (thrown k a n.id x)
  walk k a (p.Try n y cs z) s = maybe_walk k a z (catches k a cs (walk k a y s))
  walk k a (p.ThisCall n m xs) s = same_locals s (λ ls l. own_call k a ls n.id false m xs (values k a ls xs l))
  walk k a (p.SuperFirst n m xs) s = same_locals s (λ ls l. super_call k a ls n.id m xs (values k a ls xs l))

  pub maybe_walk : Told → Where → p.MaybeStmt → Walked → Walked
  maybe_walk k a p.NoStmt s = s
  maybe_walk k a (p.AStmt y) s = walk k a y s

  pub walks : Told → Where → p.Stmts → Walked → Walked
  walks k a p.Last s = s
  walks k a (p.Then y ss) s = walks k a ss (walk k a y s)

  pub groups : Told → Where → p.Groups → Walked → Walked
  groups k a p.NoGroup s = s
  groups k a (p.AndGroup (p.Labelled n labels ss) gs) s = groups k a gs (walks k a ss s)

  -- the parameter of a catch is no place
  pub catches : Told → Where → p.Catches → Walked → Walked
  catches k a p.NoCatch s = s
  catches k a (p.AndCatch (p.Caught n x y) cs) s = catches k a cs (walk k a y (walked_with (with_local s.locals x.slot x.ty) s.links))

-- ---- members

abbrev pub field_value : Told → Where → Option JavaType → p.Expr → List Link → List Link
field_value k a None x ls = value k a [] x ls
field_value k a (Some t) x ls = declare k a [] x t (value k a [] x ls)

abbrev pub in_field : Told → Where → (field : ℕ) → Option p.Expr → List Link → List Link
in_field k a f None ls = ls
in_field k a f (Some x) ls = field_value k a (field_mark a.reading.marks f) x ls

abbrev pub in_fields : Told → Where → List p.FieldVar → List Link → List Link
in_fields k a [] ls = ls
in_fields k a (x ∷ xs) ls = in_fields k a xs (in_field k a x.field x.init ls)

abbrev pub or_own : Option JavaType → JavaType → JavaType
or_own None t = t
or_own (Some m) t = m

abbrev pub param_locals : Where → (m i : ℕ) → List p.Param → List JavaType → List JavaType
param_locals a m i [] locals = locals
param_locals a m i (x ∷ xs) locals = param_locals a m (i + 1) xs (with_local locals x.slot (or_own (param_mark a.reading.marks m i) x.ty))

-- the same in the body of a method, and in a class
abbrev pub in_method_of : Where → (method : Option ℕ) → Where
in_method_of a m = record { reading = a.reading; methods = a.methods; owner = a.owner; method = m }

abbrev pub in_class_of : Where → (owner : ℕ) → Where
in_class_of a c = record { reading = a.reading; methods = a.methods; owner = c; method = None }

abbrev pub in_body : Told → Where → p.Method → Option p.Stmt → List Link → List Link
in_body k a x None ls = ls
in_body k a x (Some y) ls = (walk k (in_method_of a (Some x.method)) y (walked_with (param_locals a x.method 0 x.params []) ls)).links

abbrev pub in_method : Told → Where → p.Method → List Link → List Link
in_method k a x ls = in_body k a x x.body (declaration k a x ls)

abbrev pub in_member : Told → Where → p.Member → List Link → List Link
in_member k a (p.Fields n w xs) ls = in_fields k a xs ls
in_member k a (p.AMethod x) ls = in_method k a x ls

abbrev pub in_members : Told → Where → List p.Member → List Link → List Link
in_members k a [] ls = ls
in_members k a (x ∷ xs) ls = in_members k a xs (in_member k a x ls)

abbrev pub in_classes : Told → Where → List p.Class → List Link → List Link
in_classes k a [] ls = ls
in_classes k a (x ∷ xs) ls = in_classes k a xs (in_members k (in_class_of a x.number) x.members ls)

abbrev pub in_files : Told → Where → List p.File → List Link → List Link
in_files k a [] ls = ls
in_files k a (x ∷ xs) ls = in_files k a xs (in_classes k a x.classes ls)
