-- What each form of statement makes of its parts, and its rules (JLS 14): T4 to T17, T39.
use Rattle.std.specs.Prelude.{ℕ, ℤ, Bool, true, false, ◌&&◌, not, List, [], ◌∷◌, ◌++◌, map, length, Option, Some, None, is_some, is_none, if◌then◌else◌}
use Rattle.std.specs.Option.{option_map}
use Rattle.java_tree.specs.declared.tree.Node.{Node}
use Rattle.java_tree.specs.declared.tree.Name.{Name}
use Rattle.java_tree.specs.declared.tree.Primitive.{Primitive}
use Rattle.java_tree.specs.declared.tree.Primitive.TheVariants as prim
use Rattle.java_tree.specs.Plain as t
use Rattle.class_world.specs.declared.world.Walk.{Walk}
use Rattle.class_world.specs.declared.world.JavaType.{JavaType}
use Rattle.class_world.specs.declared.world.JavaType.TheVariants as ty
use Rattle.class_world.specs.Types.{erased}
use Rattle.java_core.specs.Plain as p
use Rattle.java_core.specs.View.{row, stmt_row, group_row, catch_row}
use Rattle.checked.specs.Checked.{Checked, Fine, Broken, and_then, under, with_some}
use Rattle.type_kinds.specs.Kinds.{ty_of, element, args_of, class_number, is_boolean, is_short, primitive, throwable, converted, converted_all}
use Rattle.type_facts.specs.Facts.{Facts}
use Rattle.type_facts.specs.Scopes.{find_local, own_type}
use Rattle.type_facts.specs.declared.scope.LocalVar.{LocalVar}
use Rattle.type_facts.specs.declared.scope.Place.{Place}
use Rattle.written_types.specs.Types.{arrays}
use Rattle.member_uses.specs.Targets.{superclass, constructor}
use Rattle.operator_rules.specs.declared.uses.Use.{Use}
use Rattle.operator_rules.specs.declared.uses.Use.TheVariants as use_
use Rattle.operator_rules.specs.Writtens.{type_said}
use Rattle.check_stmt.specs.declared.jumps.Jumps.{Jumps}
use Rattle.check_stmt.specs.declared.each.Item.{Item}
use Rattle.check_stmt.specs.declared.scopes.Spot.{Spot}
use Rattle.check_stmt.specs.declared.labels.Label.{Label}
use Rattle.check_stmt.specs.Labels.{are_labels, value_of}

-- ---- locals

abbrev pub is_taken : List LocalVar → Name → Bool
is_taken ls x = is_some (find_local ls x)

-- the scope with one more; its slot is the number of those before it
abbrev pub declared : List LocalVar → Name → JavaType → (is_final : Bool) → List LocalVar
declared ls x ty is_final = ls ++ record { name = x; slot = length ls; ty = ty; is_final = is_final } ∷ []

-- the scope with these, of a written type
abbrev pub with_vars : List LocalVar → JavaType → (is_final : Bool) → List t.Var → List LocalVar
with_vars ls ty is_final [] = ls
with_vars ls ty is_final (v ∷ vs) = with_vars (declared ls v.name (arrays v.dims ty) is_final) ty is_final vs

-- nothing is declared by a type that says none
abbrev pub with_typed : List LocalVar → (is_final : Bool) → List t.Var → Checked p.Written → List LocalVar
with_typed ls is_final vs (Fine w) = with_vars ls (type_said w) is_final vs
with_typed ls is_final vs (Broken m r) = ls

-- the scope in the body of an enhanced for, and of a catch
abbrev pub with_one : List LocalVar → (is_final : Bool) → (levels : ℕ) → Name → Checked p.Written → List LocalVar
with_one ls is_final d x (Fine w) = declared ls x (arrays d (type_said w)) is_final
with_one ls is_final d x (Broken m r) = ls

-- where a local is to stand: its slot, and whether a local in scope has its name
abbrev pub spot_of : List LocalVar → Name → Spot
spot_of ls x = record { slot = length ls; taken = is_taken ls x }

abbrev pub var_made : (slot : ℕ) → Node → Name → JavaType → Option p.Expr → p.Var
var_made k n x ty init = record { node = n; name = x; slot = k; ty = ty; init = init }

-- T4 reads the value, T5 nothing.
abbrev pub var_fine : Facts → Spot → Node → Name → JavaType → p.Expr → Checked p.Var
var_fine f s n x ty y = under (f.fits (ty_of y) ty) n.id 4 (under (not s.taken) n.id 5 (Fine (var_made s.slot n x ty (Some (converted ty y)))))

abbrev pub var_set : Facts → Spot → Node → Name → JavaType → Checked p.Expr → Checked p.Var
var_set f s n x ty (Fine y) = var_fine f s n x ty y
var_set f s n x ty (Broken m r) = under (not s.taken) n.id 5 (Broken m r)

abbrev pub var_unset : Spot → Node → Name → JavaType → Checked p.Var
var_unset s n x ty = under (not s.taken) n.id 5 (Fine (var_made s.slot n x ty None))

-- T5 at a parameter of a catch
abbrev pub param_made : (slot : ℕ) → t.Param → p.Written → p.Param
param_made k x w = record { node = x.node; is_final = x.is_final; name = x.name; slot = k; ty = arrays x.dims (type_said w); written = w }

abbrev pub param_of : Spot → t.Param → Checked p.Written → Checked p.Param
param_of s x (Fine w) = under (not s.taken) x.node.id 5 (Fine (param_made s.slot x w))
param_of s x (Broken m r) = under (not s.taken) x.node.id 5 (Broken m r)

-- ---- T7: the test is boolean; it reads the test alone

abbrev pub test_of : Node → Checked p.Expr → Checked p.Expr
test_of n a = and_then a (λ x. under (is_boolean (ty_of x)) n.id 7 (Fine x))

abbrev pub if_of : Node → Checked p.Expr → Checked p.Stmt → Checked p.Stmt
if_of n a b = and_then (test_of n a) (λ x. and_then b (λ y. Fine (p.If n x y p.NoStmt)))

abbrev pub if_else : Node → Checked p.Expr → Checked p.Stmt → Checked p.Stmt → Checked p.Stmt
if_else n a b c = and_then (test_of n a) (λ x. and_then b (λ y. and_then c (λ z. Fine (p.If n x y (p.AStmt z)))))

abbrev pub while_of : Node → Checked p.Expr → Checked p.Stmt → Checked p.Stmt
while_of n a b = and_then (test_of n a) (λ x. and_then b (λ y. Fine (p.While n x y)))

-- What stands before a test that is broken comes first, and before it T7, which is at the statement.
abbrev pub do_while : Node → Checked p.Stmt → p.Expr → Checked p.Stmt
do_while n b x = under (is_boolean (ty_of x)) n.id 7 (and_then b (λ y. Fine (p.Do n y x)))

abbrev pub do_of : Node → Checked p.Stmt → Checked p.Expr → Checked p.Stmt
do_of n b (Fine x) = do_while n b x
do_of n b (Broken m r) = and_then b (λ y. Broken m r)

abbrev pub for_made : Node → Checked (List p.Stmt) → p.Expr → Checked (List p.Expr) → Checked p.Stmt → Checked p.Stmt
for_made n xs x ys b = and_then xs (λ xs. and_then ys (λ ys. and_then b (λ y. Fine (p.For n (stmt_row xs) (Some x) (row ys) y))))

abbrev pub for_while : Node → Checked (List p.Stmt) → p.Expr → Checked (List p.Expr) → Checked p.Stmt → Checked p.Stmt
for_while n xs x ys b = under (is_boolean (ty_of x)) n.id 7 (for_made n xs x ys b)

abbrev pub for_of : Node → Checked (List p.Stmt) → Checked p.Expr → Checked (List p.Expr) → Checked p.Stmt → Checked p.Stmt
for_of n xs (Fine x) ys b = for_while n xs x ys b
for_of n xs (Broken m r) ys b = and_then xs (λ xs. Broken m r)

abbrev pub for_ever : Node → Checked (List p.Stmt) → Checked (List p.Expr) → Checked p.Stmt → Checked p.Stmt
for_ever n xs ys b = and_then xs (λ xs. and_then ys (λ ys. and_then b (λ y. Fine (p.For n (stmt_row xs) None (row ys) y))))

-- ---- the enhanced for (14.14.2): T5, T9, T10

abbrev pub object : JavaType
object = ty.Class 0 []

abbrev pub argument : List JavaType → JavaType
argument (x ∷ []) = x
argument _ = object

-- what a type below Iterable gives: its argument, or Object where it is raw
abbrev pub given : JavaType → JavaType
given t = argument (args_of t)

abbrev pub walked : Option JavaType → Option JavaType
walked None = None
walked (Some t) = Some (given t)

abbrev pub walked_by : Facts → Option Walk → JavaType → Option JavaType
walked_by f None t = None
walked_by f (Some w) t = walked (f.super_as t w.iterable)

-- the type of the items, and whether each is cast to it
abbrev pub cast_item : Facts → JavaType → Item
cast_item f x = record { ty = x; is_cast = not (f.sub object (erased x)) }

abbrev pub items_by : Facts → Option JavaType → JavaType → Option Item
items_by f (Some x) t = Some (record { ty = x; is_cast = false })
items_by f None t = option_map (cast_item f) (walked_by f f.world.walk t)

abbrev pub items_of : Facts → JavaType → Option Item
items_of f t = items_by f (element t) t

-- T9 for an array, T10 for another type
abbrev pub items_rule : JavaType → ℕ
items_rule t = if is_some (element t) then 9 else 10

abbrev pub each_of : Node → (is_final : Bool) → Name → (slot : ℕ) → p.Written → p.Expr → Item → Checked p.Stmt → Checked p.Stmt
each_of n is_final x k w y item b = and_then b (λ z. Fine (p.ForEach n is_final w (var_made k n x (type_said w) None) y item.ty item.is_cast z))

abbrev pub each_over : Facts → Node → (is_final : Bool) → Name → (slot : ℕ) → p.Written → p.Expr → Checked p.Stmt → Checked p.Stmt
each_over f n is_final x k w y c = with_some (items_of f (ty_of y)) n.id (items_rule (ty_of y)) (λ item.
    under (f.fits item.ty (type_said w)) n.id (items_rule (ty_of y)) (each_of n is_final x k w y item c))

abbrev pub foreach : Facts → Node → (is_final : Bool) → Name → Spot → Checked p.Written → Checked p.Expr → Checked p.Stmt → Checked p.Stmt
foreach f n is_final x s a b c = under (not s.taken) n.id 5 (and_then a (λ w. and_then b (λ y. each_over f n is_final x s.slot w y c)))

-- ---- other statements

-- the use of an expression that is a statement; `first` says that it may set a blank final field
abbrev pub statement_use : (first : Bool) → Use
statement_use true = use_.PerformFirst
statement_use false = use_.Perform

abbrev pub value_of_stmt : Node → Checked p.Expr → Checked p.Stmt
value_of_stmt n a = and_then a (λ x. Fine (p.Value n x))

abbrev pub block : Node → Checked (List p.Stmt) → Checked p.Stmt
block n ss = and_then ss (λ ss. Fine (p.Block n (stmt_row ss)))

abbrev pub in_loop : Jumps
in_loop = record { breaks = true; continues = true }

abbrev pub in_switch : Jumps → Jumps
in_switch j = record { breaks = true; continues = j.continues }

-- T12
abbrev pub group_of : Node → List (Option Label) → (on_char : Bool) → (seen : List (Option ℤ)) → Checked (List p.Stmt) → Checked p.Group
group_of n ls on_char seen ss = under (are_labels on_char seen ls) n.id 12 (and_then ss (λ ss. Fine (p.Labelled n (map value_of ls) (stmt_row ss))))

-- T11
abbrev pub char_primitive : Option Primitive → Bool
char_primitive (Some prim.Char) = true
char_primitive _ = false

abbrev pub is_char : JavaType → Bool
is_char t = char_primitive (primitive t)

abbrev pub switch : Node → p.Expr → Checked (List p.Group) → Checked p.Stmt
switch n x gs = under (is_short (ty_of x)) n.id 11 (and_then gs (λ gs. Fine (p.Switch n x (group_row gs))))

-- T13
abbrev pub break_of : Jumps → Node → Checked p.Stmt
break_of j n = under j.breaks n.id 13 (Fine (p.Break n))

abbrev pub continue_of : Jumps → Node → Checked p.Stmt
continue_of j n = under j.continues n.id 13 (Fine (p.Continue n))

-- T14, which reads no value where the method has no result
abbrev pub return_of : Facts → Node → Option JavaType → Checked p.Expr → Checked p.Stmt
return_of f n None a = Broken n.id 14
return_of f n (Some t) a = and_then a (λ x. under (f.fits (ty_of x) t) n.id 14 (Fine (p.Return n (Some (converted t x)))))

-- T15
abbrev pub return_void : Node → Option JavaType → Checked p.Stmt
return_void n t = under (is_none t) n.id 15 (Fine (p.Return n None))

-- T16; the type of null is below Throwable too
abbrev pub throw_of : Facts → Node → Checked p.Expr → Checked p.Stmt
throw_of f n a = and_then a (λ x. under (f.sub (ty_of x) throwable) n.id 16 (Fine (p.Throw n x)))

-- T17 reads the parameter's type.
abbrev pub is_caught : Facts → JavaType → Bool
is_caught f t = is_some (class_number t) && f.sub t throwable

abbrev pub caught : Facts → t.Param → Checked p.Written → Bool
caught f x (Fine w) = is_caught f (arrays x.dims (type_said w))
caught f x (Broken m r) = true

abbrev pub catch_of : Facts → Spot → Node → t.Param → Checked p.Written → Checked p.Stmt → Checked p.Catch
catch_of f s n x a b = under (caught f x a) n.id 17 (and_then (param_of s x a) (λ q. and_then b (λ y. Fine (p.Caught n q y))))

abbrev pub try_of : Node → Checked p.Stmt → Checked (List p.Catch) → Checked p.Stmt
try_of n a cs = and_then a (λ x. and_then cs (λ cs. Fine (p.Try n x (catch_row cs) p.NoStmt)))

abbrev pub try_finally : Node → Checked p.Stmt → Checked (List p.Catch) → Checked p.Stmt → Checked p.Stmt
try_finally n a cs b = and_then a (λ x. and_then cs (λ cs. and_then b (λ y. Fine (p.Try n x (catch_row cs) (p.AStmt y)))))

-- no `this` among the arguments of this(..) and super(..)
abbrev pub before_this : Place → Place
before_this g = record g { is_static = true }

-- T39, but for a constructor that calls itself
abbrev pub this_called : Facts → Place → Node → List p.Expr → Checked p.Stmt
this_called f g n xs = with_some (constructor f g (own_type g) (map ty_of xs)) n.id 39 (λ c. Fine (p.ThisCall n c.method (row (converted_all c.params xs))))

abbrev pub this_call : Facts → Place → Node → Checked (List p.Expr) → Checked p.Stmt
this_call f g n xs = and_then xs (λ xs. this_called f g n xs)

abbrev pub super_called : Facts → Place → Node → JavaType → List p.Expr → Checked p.Stmt
super_called f g n t xs = with_some (constructor f g t (map ty_of xs)) n.id 39 (λ c. Fine (p.SuperFirst n c.method (row (converted_all c.params xs))))

abbrev pub super_call : Facts → Place → Node → Checked (List p.Expr) → Checked p.Stmt
super_call f g n xs = and_then xs (λ xs. with_some (superclass f.world g.class) n.id 39 (λ t. super_called f g n t xs))
