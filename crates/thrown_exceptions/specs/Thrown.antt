-- The checked exceptions that a body can throw (JLS 3rd edition, 11.2), a clause a form: rules F6 to F10.
use Rattle.std.specs.Prelude.{◌↔◌, IsTrue, ℕ, Bool, true, false, ◌&&◌, ◌||◌, not, List, [], ◌∷◌, ◌++◌, filter, Option, Some, None, ◌==◌, if◌then◌else◌, ◌≡◌, Result, IfOk, OnOk, map}
use Rattle.std.specs.List.{list_any}
use Rattle.std.specs.Option.{option_map}
use Rattle.java_tree.specs.declared.tree.Node.{Node}
use Rattle.class_world.specs.declared.world.World.{World}
use Rattle.class_world.specs.declared.world.MethodInfo.{MethodInfo}
use Rattle.class_world.specs.Subtypes.{Subtype}
use Rattle.class_world.specs.declared.world.JavaType.{JavaType}
use Rattle.class_world.specs.declared.world.JavaType.TheVariants as ty
use Rattle.java_core.specs.declared.stmt.CoreCatch.{CoreCatch}
use Rattle.java_core.specs.declared.stmt.CoreStmt.{CoreStmt}
use Rattle.java_core.specs.Plain as p
use Rattle.java_core.specs.View.{catch_plain, catch_row, stmt_maybe, stmt_plain}
use Rattle.java_core.specs.declared.program.Implied.{Implied}
use Rattle.type_kinds.specs.Kinds.{class_number, ty_of}
use Rattle.type_kinds.specs.OfWorld.{AreBoth}
use Rattle.type_kinds.specs.Members.{method_at}
use Rattle.reachability.specs.declared.flaw.Flaw.{Flaw}
use Rattle.reachability.specs.Reached.{completes, flaw_unless}
use Rattle.thrown_exceptions.specs.declared.state.Raised.{Raised}
use Rattle.thrown_exceptions.specs.declared.state.State.{State}

-- which types of a world are below which
abbrev pub IsOrder : World → (JavaType → JavaType → Bool) → Type 0
IsOrder w below = (s t : JavaType) → IsTrue (below s t) ↔ (AreBoth w s t × Subtype w s t)

-- ---- what is said of a call, whatever tells the order

-- what it gives, or makes of the state; nothing is said where memory ran out
abbrev pub Gives : {A E : Type 0} → World → Result A E → ((JavaType → JavaType → Bool) → A) → Type 0
Gives w r made = (below : JavaType → JavaType → Bool) → IsOrder w below → IfOk r (λ x. x ≡ made below)

abbrev pub Makes : {A E : Type 0} → World → Result A E → (new : State) → ((JavaType → JavaType → Bool) → State) → Type 0
Makes w r new made = (below : JavaType → JavaType → Bool) → IsOrder w below → OnOk r (new ≡ made below)

-- ---- states

abbrev pub with_raised : List Raised → State → State
with_raised rs s = record { raised = rs; first = s.first }

-- exceptions of these classes at a node
abbrev pub at_node : (node : ℕ) → List ℕ → List Raised
at_node n [] = []
at_node n (c ∷ cs) = record { node = n; class = c } ∷ at_node n cs

abbrev pub raise : (node : ℕ) → List ℕ → State → State
raise n cs s = with_raised (s.raised ++ at_node n cs) s

abbrev pub after : List Raised → State → State
after rs s = with_raised (rs ++ s.raised) s

-- behind a finally block that raised what the state has: where it cannot complete normally, nothing of these comes through
abbrev pub let_through : Bool → List Raised → State → State
let_through true rs s = with_raised (rs ++ s.raised) s
let_through false rs s = s

abbrev pub start : Option Flaw → State
start first = record { raised = []; first = first }

abbrev pub is_none_of : List Raised → Bool
is_none_of [] = true
is_none_of (r ∷ rs) = false

-- F9
abbrev pub none_raised : (node : ℕ) → State → Option Flaw
none_raised n s = flaw_unless (is_none_of s.raised) n 9 s.first

-- ---- classes of exceptions

-- what a method or constructor declares that it throws
abbrev pub throws_of : Option MethodInfo → List JavaType
throws_of None = []
throws_of (Some m) = m.throws

abbrev pub class_of : Option ℕ → List ℕ
class_of None = []
class_of (Some c) = c ∷ []

abbrev pub classes_in : List JavaType → List ℕ
classes_in [] = []
classes_in (t ∷ ts) = class_of (class_number t) ++ classes_in ts

abbrev pub caught_by : p.Catch → List ℕ
caught_by (p.Caught n x a) = class_of (class_number x.ty)

abbrev pub caught : p.Catches → List ℕ
caught p.NoCatch = []
caught (p.AndCatch c cs) = caught_by c ++ caught cs

module _ (below : JavaType → JavaType → Bool) where
  abbrev pub is_below : ℕ → ℕ → Bool
  is_below c d = below (ty.Class c []) (ty.Class d [])

  -- a checked exception: neither RuntimeException (7) nor Error (6) is above it
  abbrev pub is_checked : ℕ → Bool
  is_checked c = not (is_below c 7) && not (is_below c 6)

  -- the classes of these that are checked exceptions
  abbrev pub checked_of : Option ℕ → List ℕ
  checked_of None = []
  checked_of (Some c) = if is_checked c then c ∷ [] else []

  abbrev pub checked_in : List JavaType → List ℕ
  checked_in [] = []
  checked_in (t ∷ ts) = checked_of (class_number t) ++ checked_in ts

  -- the class is one of these, or below one
  abbrev pub is_under : List ℕ → ℕ → Bool
  is_under ds c = list_any (λ d. is_below c d) ds

  -- each of these classes is one of those or below one
  abbrev pub are_under : List ℕ → List ℕ → Bool
  are_under ds [] = true
  are_under ds (c ∷ cs) = is_under ds c && are_under ds cs

  -- ---- catches

  abbrev pub are_related : ℕ → ℕ → Bool
  are_related c d = is_below c d || is_below d c

  -- one of these may be caught as d: it is of a class above or below
  abbrev pub may_come : List Raised → (d : ℕ) → Bool
  may_come rs d = list_any (λ r. are_related r.class d) rs

  -- F7 asks it of checked exceptions alone, and not of Throwable (4) and Exception (5)
  abbrev pub has_cause : List Raised → (d : ℕ) → Bool
  has_cause rs d = not (is_checked d) || (d == 4) || (d == 5) || may_come rs d

  -- F7 and F8 of a catch of the class, behind catches of these; the try's block raises rs
  abbrev pub judged : (node : ℕ) → (before : List ℕ) → List Raised → Option ℕ → Option Flaw → Option Flaw
  judged n before rs None first = first
  judged n before rs (Some d) first = flaw_unless (not (is_under before d)) n 8 (flaw_unless (has_cause rs d) n 7 first)

  abbrev pub all_judged : (before : List ℕ) → List Raised → p.Catches → Option Flaw → Option Flaw
  all_judged before rs p.NoCatch first = first
  all_judged before rs (p.AndCatch (p.Caught n x a) cs) first =
      all_judged (before ++ class_of (class_number x.ty)) rs cs (judged n.id before rs (class_number x.ty) first)

  -- what catches of these classes leave
  abbrev pub uncaught : List ℕ → List Raised → List Raised
  uncaught ds rs = filter (λ r. not (is_under ds r.class)) rs

  -- behind the block of a try, which raised what the state has: its catches are judged, and take what they catch
  abbrev pub passed : p.Catches → State → State
  passed cs s = record { raised = uncaught (caught cs) s.raised; first = all_judged [] s.raised cs s.first }

  -- F6: each is declared
  abbrev pub declared : (throws : List ℕ) → List Raised → Option Flaw → Option Flaw
  declared ds [] first = first
  declared ds (r ∷ rs) first = declared ds rs (flaw_unless (is_under ds r.class) r.node 6 first)

  abbrev pub judge : (throws : List ℕ) → State → Option Flaw
  judge ds s = declared ds s.raised s.first

-- ---- expressions

module _ (w : World) (below : JavaType → JavaType → Bool) where
  -- a call, at its node
  abbrev pub called : Node → (method : ℕ) → State → State
  called n k s = raise n.id (checked_in below (throws_of (method_at w k))) s

  abbrev mutual
    pub value : p.Expr → State → State
    value (p.At n t x) s = value_form n x s

    pub value_form : Node → p.Form → State → State
    value_form n (p.Paren x) s = value x s
    value_form n (p.Widen x) s = value x s
    value_form n (p.Implied x) s = value x s
    value_form n (p.Field x simple k) s = value x s
    value_form n (p.StaticField b x k) s = maybe_value x s
    value_form n (p.Length x) s = value x s
    value_form n (p.Index x y) s = value y (value x s)
    value_form n (p.Call x simple k xs) s = called n k (values xs (value x s))
    value_form n (p.SuperCall k xs) s = called n k (values xs s)
    value_form n (p.StaticCall b x k xs) s = called n k (values xs (maybe_value x s))
    value_form n (p.New t k xs) s = called n k (values xs s)
    value_form n (p.NewArray t xs) s = values xs s
    value_form n (p.NewFilled t x) s = value x s
    value_form n (p.Filled xs) s = values xs s
    value_form n (p.Unary op x) s = value x s
    value_form n (p.Step up before x) s = value x s
    value_form n (p.Cast t close x) s = value x s
    value_form n (p.Binary op kind x y) s = value y (value x s)
    value_form n (p.Logic b x y) s = value y (value x s)
    value_form n (p.InstanceOf x t) s = value x s
    value_form n (p.Cond x y z) s = value z (value y (value x s))
    value_form n (p.Assign x y) s = value y (value x s)
    value_form n (p.Compound op kind x y) s = value y (value x s)
    value_form n _ s = s

    pub values : p.Exprs → State → State
    values p.End s = s
    values (p.Also x xs) s = values xs (value x s)

    pub maybe_value : p.MaybeExpr → State → State
    maybe_value p.NoExpr s = s
    maybe_value (p.AnExpr x) s = value x s

  abbrev pub optional : Option p.Expr → State → State
  optional None s = s
  optional (Some x) s = value x s

  abbrev pub vars : List p.Var → State → State
  vars [] s = s
  vars (x ∷ xs) s = vars xs (optional x.init s)

  -- ---- statements

  abbrev mutual
    pub walk : p.Stmt → State → State
    walk (p.Block n ss) s = walks ss s
    walk (p.Locals n is_final t vs) s = vars vs s
    walk (p.Empty n) s = s
    walk (p.Value n x) s = value x s
    walk (p.If n x a b) s = maybe_walk b (walk a (value x s))
    walk (p.While n x a) s = walk a (value x s)
    walk (p.Do n a x) s = value x (walk a s)
    walk (p.For n ss x xs a) s = walk a (values xs (optional x (walks ss s)))
    walk (p.ForEach n is_final t y x item implied a) s = walk a (value x s)
    walk (p.Switch n x gs) s = groups gs (value x s)
    walk (p.Break n) s = s
    walk (p.Continue n) s = s
    walk (p.Return n x) s = optional x s
    walk (p.Throw n x) s = raise n.id (checked_of below (class_number (ty_of x))) (value x s)
    walk (p.Try n a cs b) s = after s.raised (finished b (catches cs (passed below cs (walk a (with_raised [] s)))))
    walk (p.ThisCall n k xs) s = called n k (values xs s)
    walk (p.SuperFirst n k xs) s = called n k (values xs s)

    pub maybe_walk : p.MaybeStmt → State → State
    maybe_walk p.NoStmt s = s
    maybe_walk (p.AStmt a) s = walk a s

    pub walks : p.Stmts → State → State
    walks p.Last s = s
    walks (p.Then a ss) s = walks ss (walk a s)

    pub groups : p.Groups → State → State
    groups p.NoGroup s = s
    groups (p.AndGroup (p.Labelled n ls ss) gs) s = groups gs (walks ss s)

    pub catches : p.Catches → State → State
    catches p.NoCatch s = s
    catches (p.AndCatch (p.Caught n x a) cs) s = catches cs (walk a s)

    pub finished : p.MaybeStmt → State → State
    finished p.NoStmt s = s
    finished (p.AStmt a) s = let_through (completes a) s.raised (walk a (with_raised [] s))

  -- the catches and the finally block of a try whose block raised what the state has
  abbrev pub tried : p.Catches → p.MaybeStmt → State → State
  tried cs last s = finished last (catches cs (passed below cs s))

  -- the parts of a try, and the whole of one
  abbrev pub try_parts : CoreStmt → List CoreCatch → Option CoreStmt → State → State
  try_parts a cs last s = tried (catch_row (map catch_plain cs)) (stmt_maybe (option_map stmt_plain last)) (walk (stmt_plain a) s)

  abbrev pub whole_try : CoreStmt → List CoreCatch → Option CoreStmt → State → State
  whole_try a cs last s = after s.raised (try_parts a cs last (with_raised [] s))

  -- ---- members

  abbrev pub in_body : (throws : List ℕ) → Option p.Stmt → Option Flaw → Option Flaw
  in_body ds None first = first
  in_body ds (Some a) first = judge below ds (walk a (start first))

  -- F10: the constructor that an implied super() calls throws nothing checked but these
  abbrev pub in_implied : (throws : List ℕ) → Option Implied → Option Flaw → Option Flaw
  in_implied ds None first = first
  in_implied ds (Some i) first = flaw_unless (are_under below ds (checked_in below (throws_of (method_at w i.constructor)))) i.node.id 10 first

  abbrev pub in_method : p.Method → (throws : List ℕ) → Option Flaw → Option Flaw
  in_method m ds first = in_body ds m.body (in_implied ds m.implied first)

  abbrev pub in_field : p.FieldVar → Option Flaw → Option Flaw
  in_field x first = none_raised x.node.id (optional x.init (start first))

  abbrev pub in_fields : List p.FieldVar → Option Flaw → Option Flaw
  in_fields [] first = first
  in_fields (x ∷ xs) first = in_fields xs (in_field x first)

  abbrev pub in_member : p.Member → Option Flaw → Option Flaw
  in_member (p.Fields n t xs) first = in_fields xs first
  in_member (p.AMethod m) first = in_method m (classes_in (throws_of (method_at w m.method))) first

  abbrev pub in_members : List p.Member → Option Flaw → Option Flaw
  in_members [] first = first
  in_members (m ∷ ms) first = in_members ms (in_member m first)

  abbrev pub in_class : p.Class → Option Flaw → Option Flaw
  in_class c first = in_implied [] c.default (in_members c.members first)

  abbrev pub in_classes : List p.Class → Option Flaw → Option Flaw
  in_classes [] first = first
  in_classes (c ∷ cs) first = in_classes cs (in_class c first)

  abbrev pub in_files : List p.File → Option Flaw → Option Flaw
  in_files [] first = first
  in_files (x ∷ xs) first = in_files xs (in_classes x.classes first)

  -- The first of F6 to F10 that a program breaks.
  abbrev pub unhandled : p.Program → Option Flaw
  unhandled x = in_files x.files None
