-- The places of a class in a file, in the order of the file. Each function adds behind those of what stands before.
use Rattle.std.specs.Prelude.{ℕ, Bool, true, false, ◌==◌, List, [], ◌∷◌, ◌++◌, Option, Some, None}
use Rattle.class_world.specs.declared.world.JavaType.{JavaType}
use Rattle.class_world.specs.declared.world.JavaType.TheOpen as form
use Rattle.class_world.specs.declared.world.JavaType.TheOpen.{JavaType-F}
use Rattle.class_world.specs.declared.world.JavaType.TheFolds.{fold-JavaType}
use Rattle.java_core.specs.Plain as p
use Rattle.class_places.specs.declared.places.ClassPlace.{ClassPlace}

-- ---- written types (4.3, 4.5.1)

abbrev pub head_form : JavaType-F (Option ℕ) → Option ℕ
head_form (form.Prim q) = None
head_form form.Null = None
head_form (form.Class k xs) = Some k
head_form (form.Var k) = None
head_form (form.Array x) = x

-- the class or interface at the head, below the array levels
abbrev pub head_class : JavaType → Option ℕ
head_class = fold-JavaType (Option ℕ) head_form

abbrev pub names : (class : ℕ) → Option ℕ → Bool
names c None = false
names c (Some k) = k == c

abbrev pub is_named : (class : ℕ) → JavaType → Bool
is_named c ty = names c (head_class ty)

abbrev pub push_if : Bool → ClassPlace → List ClassPlace → List ClassPlace
push_if false x places = places
push_if true x places = places ++ x ∷ []

abbrev pub put_head : (class : ℕ) → p.Written → List ClassPlace → List ClassPlace
put_head c (p.AType n at ty args) places = push_if (is_named c ty) (record { node = n.id; head = at }) places

abbrev mutual
  -- a type whose head is a place where it names the class
  pub in_type : (class : ℕ) → p.Written → List ClassPlace → List ClassPlace
  in_type c (p.AType n at ty args) places = in_types c args (put_head c (p.AType n at ty args) places)

  pub in_types : (class : ℕ) → p.Writtens → List ClassPlace → List ClassPlace
  in_types c p.NoTypes places = places
  in_types c (p.AndType t ts) places = in_types c ts (in_type c t places)

-- a type whose own head is no place: its arguments are
abbrev pub in_args : (class : ℕ) → p.Written → List ClassPlace → List ClassPlace
in_args c (p.AType n at ty args) places = in_types c args places

abbrev pub in_all_args : (class : ℕ) → List p.Written → List ClassPlace → List ClassPlace
in_all_args c [] places = places
in_all_args c (t ∷ ts) places = in_all_args c ts (in_args c t places)

abbrev pub in_result : (class : ℕ) → Option p.Written → List ClassPlace → List ClassPlace
in_result c None places = places
in_result c (Some t) places = in_type c t places

-- ---- expressions (15.8 to 15.26)

abbrev mutual
  pub value : (class : ℕ) → p.Expr → List ClassPlace → List ClassPlace
  value c (p.At n t x) places = formed c x places

  pub formed : (class : ℕ) → p.Form → List ClassPlace → List ClassPlace
  formed c (p.Int k) places = places
  formed c (p.Long k) places = places
  formed c (p.Char k) places = places
  formed c (p.Text ks) places = places
  formed c (p.Truth b) places = places
  formed c p.Null places = places
  formed c p.This places = places
  formed c (p.Local k) places = places
  formed c (p.Paren x) places = value c x places
  formed c (p.Widen x) places = value c x places
  formed c (p.Implied x) places = value c x places
  formed c (p.Field x simple k) places = value c x places
  formed c (p.SuperField k) places = places
  formed c (p.StaticField before x k) places = maybe_value c x places
  formed c (p.Length x) places = value c x places
  formed c (p.Index x y) places = value c y (value c x places)
  formed c (p.Call x simple k xs) places = values c xs (value c x places)
  formed c (p.SuperCall k xs) places = values c xs places
  formed c (p.StaticCall before x k xs) places = values c xs (maybe_value c x places)
  formed c (p.New t k xs) places = values c xs (in_args c t places)
  formed c (p.NewArray t xs) places = values c xs (in_args c t places)
  formed c (p.NewFilled t x) places = value c x (in_args c t places)
  formed c (p.Filled xs) places = values c xs places
  formed c (p.Unary op x) places = value c x places
  formed c (p.Step up before x) places = value c x places
  formed c (p.Cast t close x) places = value c x (in_args c t places)
  formed c (p.Binary op k x y) places = value c y (value c x places)
  formed c (p.Logic both x y) places = value c y (value c x places)
  formed c (p.InstanceOf x t) places = in_args c t (value c x places)
  formed c (p.Cond x y z) places = value c z (value c y (value c x places))
  formed c (p.Assign x y) places = value c y (value c x places)
  formed c (p.Compound op k x y) places = value c y (value c x places)

  pub maybe_value : (class : ℕ) → p.MaybeExpr → List ClassPlace → List ClassPlace
  maybe_value c p.NoExpr places = places
  maybe_value c (p.AnExpr x) places = value c x places

  pub values : (class : ℕ) → p.Exprs → List ClassPlace → List ClassPlace
  values c p.End places = places
  values c (p.Also x xs) places = values c xs (value c x places)

abbrev pub optional : (class : ℕ) → Option p.Expr → List ClassPlace → List ClassPlace
optional c None places = places
optional c (Some x) places = value c x places

abbrev pub inits : (class : ℕ) → List p.Var → List ClassPlace → List ClassPlace
inits c [] places = places
inits c (v ∷ vs) places = inits c vs (optional c v.init places)

-- ---- statements (14)

abbrev mutual
  pub walk : (class : ℕ) → p.Stmt → List ClassPlace → List ClassPlace
  walk c (p.Block n ss) places = walks c ss places
  walk c (p.Locals n is_final t vs) places = inits c vs (in_type c t places)
  walk c (p.Empty n) places = places
  walk c (p.Value n x) places = value c x places
  walk c (p.If n x a b) places = maybe_walk c b (walk c a (value c x places))
  walk c (p.While n x a) places = walk c a (value c x places)
  walk c (p.Do n a x) places = value c x (walk c a places)
  walk c (p.For n ss x xs a) places = walk c a (values c xs (optional c x (walks c ss places)))
  walk c (p.ForEach n is_final t v x item implied a) places = walk c a (value c x (in_type c t places))
  walk c (p.Switch n x gs) places = groups c gs (value c x places)
  walk c (p.Break n) places = places
  walk c (p.Continue n) places = places
  walk c (p.Return n x) places = optional c x places
  walk c (p.Throw n x) places = value c x places
  walk c (p.Try n a cs b) places = maybe_walk c b (catches c cs (walk c a places))
  walk c (p.ThisCall n k xs) places = values c xs places
  walk c (p.SuperFirst n k xs) places = values c xs places

  pub maybe_walk : (class : ℕ) → p.MaybeStmt → List ClassPlace → List ClassPlace
  maybe_walk c p.NoStmt places = places
  maybe_walk c (p.AStmt a) places = walk c a places

  pub walks : (class : ℕ) → p.Stmts → List ClassPlace → List ClassPlace
  walks c p.Last places = places
  walks c (p.Then a ss) places = walks c ss (walk c a places)

  pub groups : (class : ℕ) → p.Groups → List ClassPlace → List ClassPlace
  groups c p.NoGroup places = places
  groups c (p.AndGroup (p.Labelled n ls ss) gs) places = groups c gs (walks c ss places)

  -- what a catch catches is no place, but its arguments are
  pub catches : (class : ℕ) → p.Catches → List ClassPlace → List ClassPlace
  catches c p.NoCatch places = places
  catches c (p.AndCatch (p.Caught n x a) cs) places = catches c cs (walk c a (in_args c x.written places))

-- ---- members (8, 9)

abbrev pub in_params : (class : ℕ) → List p.Param → List ClassPlace → List ClassPlace
in_params c [] places = places
in_params c (x ∷ xs) places = in_params c xs (in_type c x.written places)

abbrev pub in_body : (class : ℕ) → Option p.Stmt → List ClassPlace → List ClassPlace
in_body c None places = places
in_body c (Some a) places = walk c a places

abbrev pub in_method : (class : ℕ) → p.Method → List ClassPlace → List ClassPlace
in_method c m places = in_body c m.body (in_all_args c m.throws (in_params c m.params (in_result c m.result places)))

abbrev pub field_inits : (class : ℕ) → List p.FieldVar → List ClassPlace → List ClassPlace
field_inits c [] places = places
field_inits c (v ∷ vs) places = field_inits c vs (optional c v.init places)

abbrev pub in_member : (class : ℕ) → p.Member → List ClassPlace → List ClassPlace
in_member c (p.Fields n t vs) places = field_inits c vs (in_type c t places)
in_member c (p.AMethod m) places = in_method c m places

abbrev pub in_members : (class : ℕ) → List p.Member → List ClassPlace → List ClassPlace
in_members c [] places = places
in_members c (m ∷ ms) places = in_members c ms (in_member c m places)

abbrev pub in_class : (class : ℕ) → p.Class → List ClassPlace → List ClassPlace
in_class c x places = in_members c x.members (in_all_args c x.implements (in_all_args c x.extends places))

abbrev pub in_classes : (class : ℕ) → List p.Class → List ClassPlace → List ClassPlace
in_classes c [] places = places
in_classes c (x ∷ xs) places = in_classes c xs (in_class c x places)

-- The places of a class in a file.
abbrev pub places_in : (class : ℕ) → p.File → List ClassPlace
places_in c file = in_classes c file.classes []
