-- Definite assignment of statements, members and programs (JLS 3rd edition, 8.3.1.2, 8.3.2.3, 16.2 to 16.9), a clause a form: rules F3, F4, F5, F11 and F12.
use Rattle.std.specs.Prelude.{ℕ, Bool, true, false, ◌&&◌, not, List, [], ◌∷◌, ◌++◌, Option, Some, None, is_some, ◌==◌, if◌then◌else◌, map}
use Rattle.std.specs.Option.{option_map}
use Rattle.class_world.specs.declared.world.World.{World}
use Rattle.class_world.specs.declared.world.FieldInfo.{FieldInfo}
use Rattle.class_world.specs.declared.world.MethodInfo.{MethodInfo}
use Rattle.java_core.specs.declared.expr.CoreExpr.{CoreExpr}
use Rattle.java_core.specs.declared.stmt.CoreCatch.{CoreCatch}
use Rattle.java_core.specs.declared.stmt.CoreGroup.{CoreGroup}
use Rattle.java_core.specs.declared.stmt.CoreStmt.{CoreStmt}
use Rattle.java_core.specs.Plain as p
use Rattle.java_core.specs.View.{catch_plain, catch_row, group_plain, group_row, plain, plains, stmt_maybe, stmt_plain}
use Rattle.type_kinds.specs.Members.{field_at, is_final_field, is_static_field, method_at}
use Rattle.reachability.specs.declared.flaw.Flaw.{Flaw}
use Rattle.reachability.specs.Flaws.{noted}
use Rattle.reachability.specs.Reached.{flaw_unless, has_default, is_same_truth}
use Rattle.definite_assignment.specs.declared.state.State.{State}
use Rattle.definite_assignment.specs.declared.state.Variable.{Variable}
use Rattle.definite_assignment.specs.declared.state.Variable.TheVariants as v
use Rattle.definite_assignment.specs.declared.state.Jumps.{Jumps}
use Rattle.definite_assignment.specs.Variables.{either, both, without}
use Rattle.definite_assignment.specs.Assigned.{arms, at, given, joined, test, under, ungiven, value, values, when_true}

-- ---- loops, switches and jumps

-- the jumps so far that leave or go on with the loop or switch around
abbrev pub jumps : State → Jumps
jumps s = record { breaks = s.breaks; continues = s.continues }

-- in a body of its own, whose jumps are told apart
abbrev pub inside : State → State
inside s = record { missing = s.missing; otherwise = s.otherwise; breaks = []; continues = []; first = s.first }

-- Behind a loop before which these were the jumps, whose test was false with these missing: at its end, or at a break.
abbrev pub behind : (outer : Jumps) → (failed : List Variable) → State → State
behind outer failed s = record { missing = either failed s.breaks; otherwise = []; breaks = outer.breaks; continues = outer.continues; first = s.first }

abbrev pub behind_test : (outer : Jumps) → State → State
behind_test outer s = behind outer s.otherwise s

-- where the body of a loop ended or a continue leads to
abbrev pub goes_on : State → State
goes_on s = joined s.continues s

-- before the groups of a switch: its breaks are its own
abbrev pub in_switch : State → State
in_switch s = record { missing = []; otherwise = []; breaks = []; continues = s.continues; first = s.first }

-- where no label is a default, a switch may end without any group
abbrev pub unless_default : (has_default : Bool) → List Variable → List Variable → List Variable
unless_default true before xs = xs
unless_default false before xs = either xs before

-- behind a switch before which these were the breaks, and these missing
abbrev pub behind_switch : (breaks : List Variable) → (has_default : Bool) → (before : List Variable) → State → State
behind_switch breaks d before s = record { missing = either (unless_default d before s.missing) s.breaks; otherwise = []; breaks = breaks; continues = s.continues; first = s.first }

abbrev pub broken : State → State
broken s = record { missing = []; otherwise = s.otherwise; breaks = either s.breaks s.missing; continues = s.continues; first = s.first }

abbrev pub continued : State → State
continued s = record { missing = []; otherwise = s.otherwise; breaks = s.breaks; continues = either s.continues s.missing; first = s.first }

-- F4: a blank field that has no value at the end, at its declaration
abbrev pub flaw_of : Variable → Option Flaw → Option Flaw
flaw_of (v.Local k) first = first
flaw_of (v.Blank n k) first = noted n 4 first

abbrev pub flaws_of : List Variable → Option Flaw → Option Flaw
flaws_of [] first = first
flaws_of (x ∷ xs) first = flaws_of xs (flaw_of x first)

abbrev pub returned : State → State
returned s = record { missing = []; otherwise = s.otherwise; breaks = s.breaks; continues = s.continues; first = flaws_of s.missing s.first }

-- behind a try without a finally block, or with one that ended so: what either gives has a value
abbrev pub met : List Variable → State → State
met xs s = at (both xs s.missing) s

-- ---- loops, switches and tries, by what their parts make of a state

abbrev pub while_body : (body : State → State) → (outer : Jumps) → State → State
while_body body outer s = behind outer s.otherwise (body (when_true s))

abbrev pub while_loop : (test body : State → State) → State → State
while_loop test body s = while_body body (jumps s) (test (inside s))

abbrev pub do_loop : (body test : State → State) → State → State
do_loop body test s = behind_test (jumps s) (test (goes_on (body (inside s))))

abbrev pub stepped : (step body : State → State) → State → State
stepped step body s = step (goes_on (body s))

-- a `for` behind its first part
abbrev pub for_loop : (test step body : State → State) → State → State
for_loop test step body s = while_body (stepped step body) (jumps s) (test (inside s))

abbrev pub each_item : (slot : ℕ) → (body : State → State) → (outer : Jumps) → State → State
each_item k body outer s = behind outer s.missing (body (given (v.Local k) s))

abbrev pub for_each : (slot : ℕ) → (over body : State → State) → State → State
for_each k over body s = each_item k body (jumps s) (over (inside s))

-- a switch behind its value
abbrev pub switch : (has_default : Bool) → (groups : (before : List Variable) → State → State) → State → State
switch d groups s = behind_switch s.breaks d s.missing (groups s.missing (in_switch s))

-- what is caught, or done at last, where these were missing before the try
abbrev pub caught : (before : List Variable) → (body : State → State) → State → State
caught before body s = joined s.missing (body (at before s))

abbrev pub at_last : (before : List Variable) → (body : State → State) → State → State
at_last before body s = met s.missing (body (at before s))

abbrev pub tried : (body : State → State) → (catches last : (before : List Variable) → State → State) → State → State
tried body catches last s = last s.missing (catches s.missing (body s))

-- ---- locals that a group of a switch declares: they have no value in the groups behind it

abbrev pub slots_of : List p.Var → List Variable
slots_of [] = []
slots_of (x ∷ xs) = v.Local x.slot ∷ slots_of xs

abbrev pub declared_by : p.Stmt → List Variable
declared_by (p.Locals n is_final t vs) = slots_of vs
declared_by _ = []

abbrev pub declared_in : p.Stmts → List Variable
declared_in p.Last = []
declared_in (p.Then a ss) = declared_by a ++ declared_in ss

-- ---- statements

module _ (w : World) where
  abbrev pub optional : (home : Option ℕ) → Option p.Expr → State → State
  optional home None s = s
  optional home (Some x) s = value w home x s

  -- a loop without a test goes on
  abbrev pub optional_test : Option p.Expr → State → State
  optional_test None s = when_true s
  optional_test (Some x) s = test w None x s

  -- F5
  abbrev pub var_given : (is_final : Bool) → p.Var → Option p.Expr → State → State
  var_given is_final x None s = under (not is_final) x.node.id 5 (ungiven (v.Local x.slot) s)
  var_given is_final x (Some y) s = given (v.Local x.slot) (value w None y (ungiven (v.Local x.slot) s))

  abbrev pub vars_given : (is_final : Bool) → List p.Var → State → State
  vars_given is_final [] s = s
  vars_given is_final (x ∷ xs) s = vars_given is_final xs (var_given is_final x x.init s)

  abbrev mutual
    pub walk : p.Stmt → State → State
    walk (p.Block n ss) s = walks ss s
    walk (p.Locals n is_final t vs) s = vars_given is_final vs s
    walk (p.Empty n) s = s
    walk (p.Value n x) s = value w None x s
    walk (p.If n x a b) s = arms (walk a) (maybe_walk b) (test w None x s)
    walk (p.While n x a) s = while_loop (test w None x) (walk a) s
    walk (p.Do n a x) s = do_loop (walk a) (test w None x) s
    walk (p.For n ss x xs a) s = for_loop (optional_test x) (values w None xs) (walk a) (walks ss s)
    walk (p.ForEach n is_final t x y item implied a) s = for_each x.slot (value w None y) (walk a) s
    walk (p.Switch n x gs) s = switch (has_default gs) (λ before. groups before gs) (value w None x s)
    walk (p.Break n) s = broken s
    walk (p.Continue n) s = continued s
    walk (p.Return n x) s = returned (optional None x s)
    walk (p.Throw n x) s = at [] (value w None x s)
    walk (p.Try n a cs b) s = tried (walk a) (λ before. catches before cs) (λ before. finished before b) s
    walk (p.ThisCall n k xs) s = values w None xs s
    walk (p.SuperFirst n k xs) s = values w None xs s

    pub walks : p.Stmts → State → State
    walks p.Last s = s
    walks (p.Then a ss) s = walks ss (walk a s)

    -- the second branch of an `if`
    pub maybe_walk : p.MaybeStmt → State → State
    maybe_walk p.NoStmt s = s
    maybe_walk (p.AStmt a) s = walk a s

    -- each group is reached from the switch too
    pub groups : (before : List Variable) → p.Groups → State → State
    groups before p.NoGroup s = s
    groups before (p.AndGroup (p.Labelled n ls ss) gs) s = groups (either before (declared_in ss)) gs (walks ss (joined before s))

    -- the catches of a try before which these were missing
    pub catches : (before : List Variable) → p.Catches → State → State
    catches before p.NoCatch s = s
    catches before (p.AndCatch (p.Caught n x a) cs) s = catches before cs (caught (without before (v.Local x.slot)) (walk a) s)

    pub finished : (before : List Variable) → p.MaybeStmt → State → State
    finished before p.NoStmt s = s
    finished before (p.AStmt a) s = at_last before (walk a) s

  -- ---- forms with several parts, of the trees that the code has

  abbrev pub for_of : Option CoreExpr → List CoreExpr → CoreStmt → State → State
  for_of x xs a s = for_loop (optional_test (option_map plain x)) (values w None (plains xs)) (walk (stmt_plain a)) s

  abbrev pub switch_of : List CoreGroup → State → State
  switch_of gs s = switch (has_default (group_row (map group_plain gs))) (λ before. groups before (group_row (map group_plain gs))) s

  abbrev pub try_of : CoreStmt → List CoreCatch → Option CoreStmt → State → State
  try_of a cs last s =
      tried (walk (stmt_plain a)) (λ before. catches before (catch_row (map catch_plain cs))) (λ before. finished before (stmt_maybe (option_map stmt_plain last))) s

-- ---- blank final fields: F4

abbrev pub is_static : World → Option FieldInfo → Bool
is_static w None = false
is_static w (Some i) = is_static_field w i

-- a final field without a value of its own, that is static where `of_class` says so
abbrev pub is_blank : World → (of_class : Bool) → p.FieldVar → Bool
is_blank w of_class x = not (is_some x.init) && (is_final_field w (field_at w x.field) && is_same_truth of_class (is_static w (field_at w x.field)))

abbrev pub blank_vars : World → List p.FieldVar → List Variable
blank_vars w [] = []
blank_vars w (x ∷ xs) = if is_blank w false x then v.Blank x.node.id x.field ∷ blank_vars w xs else blank_vars w xs

abbrev pub blanks_in : World → p.Member → List Variable
blanks_in w (p.Fields n t xs) = blank_vars w xs
blanks_in w (p.AMethod m) = []

-- the blank final instance fields of a class
abbrev pub blanks : World → List p.Member → List Variable
blanks w [] = []
blanks w (m ∷ ms) = blanks_in w m ++ blanks w ms

abbrev pub is_this : p.Expr → Bool
is_this (p.At n t p.This) = true
is_this _ = false

-- the field k of the object itself
abbrev pub is_own : ℕ → p.Expr → Bool
is_own k (p.At n t (p.Field x simple j)) = is_this x && (j == k)
is_own k _ = false

-- an expression that gives the field k its value
abbrev pub assigns : ℕ → p.Expr → Bool
assigns k (p.At n t (p.Assign x y)) = is_own k x
assigns k _ = false

abbrev pub set_by : ℕ → p.Expr → List ℕ
set_by k (p.At n t x) = if assigns k (p.At n t x) then n.id ∷ [] else []

-- the nodes of the statements directly in a body that give the field k its value
abbrev pub sets_by : ℕ → p.Stmt → List ℕ
sets_by k (p.Value m x) = set_by k x
sets_by k _ = []

abbrev pub sets_in : ℕ → p.Stmts → List ℕ
sets_in k p.Last = []
sets_in k (p.Then a ss) = sets_by k a ++ sets_in k ss

abbrev pub sets : ℕ → p.Stmt → List ℕ
sets k (p.Block n ss) = sets_in k ss
sets k _ = []

-- F4 at the declaration, where it is given none; or at the second
abbrev pub counted : (node : ℕ) → List ℕ → Option Flaw → Option Flaw
counted n [] first = noted n 4 first
counted n (x ∷ []) first = first
counted n (x ∷ y ∷ ys) first = noted y 4 first

abbrev pub one_counted : p.Stmt → Variable → Option Flaw → Option Flaw
one_counted a (v.Local k) first = first
one_counted a (v.Blank n k) first = counted n (sets k a) first

abbrev pub all_counted : p.Stmt → List Variable → Option Flaw → Option Flaw
all_counted a [] first = first
all_counted a (x ∷ xs) first = all_counted a xs (one_counted a x first)

-- ---- members

-- a body that begins with this(..)
abbrev pub is_this_call : p.Stmt → Bool
is_this_call (p.ThisCall n k xs) = true
is_this_call _ = false

abbrev pub first_is_this_call : p.Stmts → Bool
first_is_this_call p.Last = false
first_is_this_call (p.Then a ss) = is_this_call a

abbrev pub begins_with_this : p.Stmt → Bool
begins_with_this (p.Block n ss) = first_is_this_call ss
begins_with_this _ = false

abbrev pub start : List Variable → Option Flaw → State
start missing first = record { missing = missing; otherwise = []; breaks = []; continues = []; first = first }

-- a constructor that does not begin with this(..) gives the blank fields their values
abbrev pub is_first : Option MethodInfo → p.Stmt → Bool
is_first None a = false
is_first (Some i) a = i.constructor && not (begins_with_this a)

-- what a field's value may not use: a static one has no blank fields in sight
abbrev pub unless_static : Bool → List Variable → List Variable
unless_static true bs = []
unless_static false bs = bs

-- a default constructor gives no field a value
abbrev pub in_default : (is_default : Bool) → List Variable → Option Flaw → Option Flaw
in_default true bs first = flaws_of bs first
in_default false bs first = first

module _ (w : World) where
  abbrev pub in_body : List Variable → p.Stmt → Option Flaw → Option Flaw
  in_body missing a first = (walk w a (start missing first)).first

  abbrev pub in_first_body : (is_first : Bool) → List Variable → p.Stmt → Option Flaw → Option Flaw
  in_first_body true bs a first = in_body bs a (all_counted a bs first)
  in_first_body false bs a first = in_body [] a first

  abbrev pub in_method : List Variable → p.Method → Option p.Stmt → Option Flaw → Option Flaw
  in_method bs m None first = first
  in_method bs m (Some a) first = in_first_body (is_first (method_at w m.method) a) bs a first

  abbrev pub in_expr : (field : ℕ) → (missing : List Variable) → p.Expr → Option Flaw → Option Flaw
  in_expr k missing x first = (value w (Some k) x (start missing first)).first

  abbrev pub in_value : List Variable → p.FieldVar → Option p.Expr → Option Flaw → Option Flaw
  in_value bs x None first = flaw_unless (not (is_blank w true x)) x.node.id 4 first
  in_value bs x (Some y) first = in_expr x.field (unless_static (is_static w (field_at w x.field)) bs) y first

  abbrev pub in_fields : List Variable → List p.FieldVar → Option Flaw → Option Flaw
  in_fields bs [] first = first
  in_fields bs (x ∷ xs) first = in_fields bs xs (in_value bs x x.init first)

  abbrev pub in_member : List Variable → p.Member → Option Flaw → Option Flaw
  in_member bs (p.Fields n t xs) first = in_fields bs xs first
  in_member bs (p.AMethod m) first = in_method bs m m.body first

  abbrev pub in_members : List Variable → List p.Member → Option Flaw → Option Flaw
  in_members bs [] first = first
  in_members bs (m ∷ ms) first = in_members bs ms (in_member bs m first)

  abbrev pub in_class : List Variable → p.Class → Option Flaw → Option Flaw
  in_class bs c first = in_default (is_some c.default) bs (in_members bs c.members first)

  abbrev pub in_classes : List p.Class → Option Flaw → Option Flaw
  in_classes [] first = first
  in_classes (c ∷ cs) first = in_classes cs (in_class (blanks w c.members) c first)

  abbrev pub in_files : List p.File → Option Flaw → Option Flaw
  in_files [] first = first
  in_files (x ∷ xs) first = in_files xs (in_classes x.classes first)

  -- The first of F3, F4, F5, F11 and F12 that a program breaks.
  abbrev pub unassigned : p.Program → Option Flaw
  unassigned x = in_files x.files None
