-- Operators, conditionals, casts and assignments (JLS 15.14 to 15.26).
use Rattle.std.specs.Prelude.{ℕ, Bool, true, false, ◌&&◌, ◌||◌, not, List, [], ◌∷◌, length, map, Option, Some, None, slice_get, ◌==◌, if◌then◌else◌}
use Rattle.std.specs.List.{list_any}
use Rattle.java_tree.specs.declared.tree.Node.{Node}
use Rattle.java_tree.specs.declared.tree.UnOp.{UnOp}
use Rattle.java_tree.specs.declared.tree.UnOp.TheVariants as un
use Rattle.java_tree.specs.declared.tree.BinOp.{BinOp}
use Rattle.java_tree.specs.declared.tree.BinOp.TheVariants as bin
use Rattle.java_tree.specs.declared.tree.Primitive.{Primitive}
use Rattle.java_tree.specs.declared.tree.Primitive.TheVariants as prim
use Rattle.class_world.specs.declared.world.JavaType.{JavaType}
use Rattle.class_world.specs.declared.world.JavaType.TheOpen as form
use Rattle.class_world.specs.declared.world.JavaType.TheOpen.{JavaType-F}
use Rattle.class_world.specs.declared.world.JavaType.TheFolds.{fold-JavaType}
use Rattle.java_core.specs.declared.expr.Kind.{Kind}
use Rattle.java_core.specs.declared.expr.Kind.TheVariants as kind
use Rattle.java_core.specs.Plain as p
use Rattle.checked.specs.Checked.{Checked, Fine, Broken, and_then, under, with_some}
use Rattle.type_kinds.specs.Kinds.{ty_of, form_of, int, long, boolean, primitive, element, is_numeric, is_boolean, is_long, is_short, is_string, is_reference, is_primitive, boolean_primitive, joint_kind, lone_kind, kind_type, operand, converted}
use Rattle.type_facts.specs.Facts.{Facts}
use Rattle.type_kinds.specs.Members.{is_final_field}
use Rattle.type_facts.specs.declared.scope.Place.{Place}
use Rattle.type_facts.specs.declared.scope.LocalVar.{LocalVar}
use Rattle.operator_rules.specs.declared.uses.Use.{Use}
use Rattle.operator_rules.specs.declared.uses.Use.TheVariants as use_
use Rattle.operator_rules.specs.Writtens.{type_said}

-- ---- prefix operators and steps: T42 to T44, T60

abbrev pub negated : Node → p.Expr → Checked p.Expr
negated n x = under (is_boolean (ty_of x)) n.id 43 (Fine (p.At n boolean (p.Unary un.Not x)))

abbrev pub promoted : Node → UnOp → p.Expr → p.Expr
promoted n op x = p.At n (kind_type (lone_kind (ty_of x))) (p.Unary op (operand (lone_kind (ty_of x)) x))

abbrev pub signed : Node → UnOp → p.Expr → Checked p.Expr
signed n op x = under (is_numeric (ty_of x)) n.id 42 (Fine (promoted n op x))

abbrev pub unary_of : Node → UnOp → p.Expr → Checked p.Expr
unary_of n un.Not x = negated n x
unary_of n op x = signed n op x

abbrev pub unary : Node → UnOp → Checked p.Expr → Checked p.Expr
unary n op a = and_then a (λ x. unary_of n op x)

-- ---- what may be assigned: T60

abbrev pub is_final_local : List LocalVar → (slot : ℕ) → Bool
is_final_local ls k = list_any (λ l. l.is_final && (l.slot == k)) ls

-- whether a variable is final, through brackets and the cast of its value
abbrev mutual
  pub is_final : Facts → List LocalVar → p.Expr → Bool
  is_final f ls (p.At n t x) = is_final_form f ls x

  pub is_final_form : Facts → List LocalVar → p.Form → Bool
  is_final_form f ls (p.Local k) = is_final_local ls k
  is_final_form f ls (p.Field x simple k) = is_final_field f.world (slice_get f.world.fields k)
  is_final_form f ls (p.SuperField k) = is_final_field f.world (slice_get f.world.fields k)
  is_final_form f ls (p.StaticField before x k) = is_final_field f.world (slice_get f.world.fields k)
  is_final_form f ls (p.Paren x) = is_final f ls x
  is_final_form f ls (p.Implied x) = is_final f ls x
  is_final_form f ls _ = false

abbrev pub is_this_form : p.Form → Bool
is_this_form p.This = true
is_this_form _ = false

abbrev pub is_among : ℕ → List ℕ → Bool
is_among k bs = list_any (λ b. b == k) bs

-- a field of the class without a value of its own, by its name or with `this.` before it
abbrev pub is_blank_form : Place → p.Form → Bool
is_blank_form g (p.Field x simple k) = is_this_form (form_of x) && is_among k g.blanks
is_blank_form g _ = false

abbrev pub may_set_first : Facts → Place → List LocalVar → p.Expr → Bool
may_set_first f g ls x = not (is_final f ls x) || is_blank_form g (form_of x)

abbrev pub may_set : Facts → Place → Use → List LocalVar → p.Expr → Bool
may_set f g use_.PerformFirst ls x = may_set_first f g ls x
may_set f g u ls x = not (is_final f ls x)

abbrev pub step : Facts → List LocalVar → Node → (up before : Bool) → Checked p.Expr → Checked p.Expr
step f ls n up before a = and_then a (λ x. under (is_numeric (ty_of x)) n.id 44 (under (not (is_final f ls x)) n.id 60 (Fine (p.At n (ty_of x) (p.Step up before x)))))

abbrev pub assignment : Node → p.Expr → p.Expr → p.Expr
assignment n x y = p.At n (ty_of x) (p.Assign x (converted (ty_of x) y))

-- T58 reads both sides, and T60 the left one
abbrev pub assigned : Facts → Place → Use → List LocalVar → Node → p.Expr → p.Expr → Checked p.Expr
assigned f g u ls n x y =
    under (f.fits (ty_of y) (ty_of x)) n.id 58 (under (may_set f g u ls x) n.id 60 (Fine (assignment n x y)))

-- T60 before a right side that breaks a rule
abbrev pub set_before : Facts → Place → Use → List LocalVar → Node → p.Expr → (node rule : ℕ) → Checked p.Expr
set_before f g u ls n x m r = under (may_set f g u ls x) n.id 60 (Broken m r)

abbrev pub assign : Facts → Place → Use → List LocalVar → Node → Checked p.Expr → Checked p.Expr → Checked p.Expr
assign f g u ls n (Fine x) (Fine y) = assigned f g u ls n x y
assign f g u ls n (Fine x) (Broken m r) = set_before f g u ls n x m r
assign f g u ls n (Broken m r) b = Broken m r

-- ---- operators on two values

abbrev pub is_shift : BinOp → Bool
is_shift bin.ShiftLeft = true
is_shift bin.ShiftRight = true
is_shift bin.ShiftRightZero = true
is_shift _ = false

abbrev pub are_numeric : JavaType → JavaType → Bool
are_numeric s t = is_numeric s && is_numeric t

abbrev pub are_boolean : JavaType → JavaType → Bool
are_boolean s t = is_boolean s && is_boolean t

-- What operators work on, where they take these types (T45 to T51).
abbrev pub number_kind : JavaType → JavaType → Option Kind
number_kind s t = if are_numeric s t then Some (joint_kind s t) else None

abbrev pub sum_kind : JavaType → JavaType → Option Kind
sum_kind s t = if is_string s || is_string t then Some kind.Text else number_kind s t

abbrev pub shift_kind : JavaType → JavaType → Option Kind
shift_kind s t = if are_numeric s t then Some (lone_kind s) else None

abbrev pub bit_kind : JavaType → JavaType → Option Kind
bit_kind s t = if are_numeric s t then Some (joint_kind s t) else (if are_boolean s t then Some kind.Boolean else None)

abbrev pub reference_kind : Facts → JavaType → JavaType → Option Kind
reference_kind f s t = if is_primitive s || is_primitive t then None else (if f.castable s t then Some kind.Reference else None)

abbrev pub equal_kind : Facts → JavaType → JavaType → Option Kind
equal_kind f s t = if are_numeric s t then Some (joint_kind s t) else (if are_boolean s t then Some kind.Boolean else reference_kind f s t)

abbrev pub kind_by : Facts → BinOp → JavaType → JavaType → Option Kind
kind_by f bin.Add s t = sum_kind s t
kind_by f bin.ShiftLeft s t = shift_kind s t
kind_by f bin.ShiftRight s t = shift_kind s t
kind_by f bin.ShiftRightZero s t = shift_kind s t
kind_by f bin.BitAnd s t = bit_kind s t
kind_by f bin.BitOr s t = bit_kind s t
kind_by f bin.BitXor s t = bit_kind s t
kind_by f bin.Equal s t = equal_kind f s t
kind_by f bin.NotEqual s t = equal_kind f s t
kind_by f _ s t = number_kind s t

abbrev pub equal_rule : JavaType → JavaType → ℕ
equal_rule s t = if is_primitive s || is_primitive t then 49 else 50

-- the number of the rule that an operator breaks on these types
abbrev pub binary_rule : BinOp → JavaType → JavaType → ℕ
binary_rule bin.Equal s t = equal_rule s t
binary_rule bin.NotEqual s t = equal_rule s t
binary_rule bin.ShiftLeft s t = 47
binary_rule bin.ShiftRight s t = 47
binary_rule bin.ShiftRightZero s t = 47
binary_rule bin.BitAnd s t = 51
binary_rule bin.BitOr s t = 51
binary_rule bin.BitXor s t = 51
binary_rule bin.Less s t = 48
binary_rule bin.Greater s t = 48
binary_rule bin.LessEqual s t = 48
binary_rule bin.GreaterEqual s t = 48
binary_rule _ s t = 45

-- the type of what an operator makes
abbrev pub binary_type : BinOp → Kind → JavaType
binary_type bin.Equal k = boolean
binary_type bin.NotEqual k = boolean
binary_type bin.Less k = boolean
binary_type bin.Greater k = boolean
binary_type bin.LessEqual k = boolean
binary_type bin.GreaterEqual k = boolean
binary_type _ k = kind_type k

abbrev pub takes_numbers : Kind → Bool
takes_numbers kind.Int = true
takes_numbers kind.Long = true
takes_numbers _ = false

-- An operand for this kind. The distance of a shift is promoted for itself (15.19).
abbrev pub left_operand : Kind → p.Expr → p.Expr
left_operand k x = if takes_numbers k then operand k x else x

abbrev pub right_kind : BinOp → Kind → JavaType → Kind
right_kind op k t = if is_shift op then lone_kind t else k

abbrev pub right_operand : BinOp → Kind → p.Expr → p.Expr
right_operand op k y = if takes_numbers k then operand (right_kind op k (ty_of y)) y else y

abbrev pub binary_made : Node → BinOp → Kind → p.Expr → p.Expr → p.Expr
binary_made n op k x y = p.At n (binary_type op k) (p.Binary op k (left_operand k x) (right_operand op k y))

abbrev pub binary : Facts → Node → BinOp → p.Expr → p.Expr → Checked p.Expr
binary f n op x y = with_some (kind_by f op (ty_of x) (ty_of y)) n.id (binary_rule op (ty_of x) (ty_of y)) (λ k. Fine (binary_made n op k x y))

abbrev pub truths : Node → (both : Bool) → p.Expr → p.Expr → Checked p.Expr
truths n both x y = under (is_boolean (ty_of x)) n.id 52 (under (is_boolean (ty_of y)) n.id 52 (Fine (p.At n boolean (p.Logic both x y))))

-- T52 on one operand, where the other one breaks a rule
abbrev pub truth_before : Node → p.Expr → (node rule : ℕ) → Checked p.Expr
truth_before n x m r = under (is_boolean (ty_of x)) n.id 52 (Broken m r)

-- `&&` where `both` holds, else `||`. T52 reads each operand for itself.
abbrev pub logic : Node → (both : Bool) → Checked p.Expr → Checked p.Expr → Checked p.Expr
logic n both (Fine x) (Fine y) = truths n both x y
logic n both (Fine x) (Broken m r) = truth_before n x m r
logic n both (Broken m r) (Fine y) = truth_before n y m r
logic n both (Broken m r) (Broken m' r') = Broken m r

-- whether an operator is `&&`, or `||`, if it is one of the two
abbrev pub logic_of : BinOp → Option Bool
logic_of bin.LogicAnd = Some true
logic_of bin.LogicOr = Some false
logic_of _ = None

abbrev pub operands_by : Facts → Option Bool → Node → BinOp → Checked p.Expr → Checked p.Expr → Checked p.Expr
operands_by f (Some both) n op a b = logic n both a b
operands_by f None n op a b = and_then a (λ x. and_then b (λ y. binary f n op x y))

abbrev pub operands : Facts → Node → BinOp → Checked p.Expr → Checked p.Expr → Checked p.Expr
operands f n op a b = operands_by f (logic_of op) n op a b

-- ---- compound assignment: T59 and T60

abbrev pub is_text_sum : BinOp → JavaType → Bool
is_text_sum bin.Add s = is_string s
is_text_sum _ s = false

abbrev pub are_primitive : JavaType → JavaType → Bool
are_primitive s t = is_primitive s && is_primitive t

-- What the operator works on, where its value can be taken back: a String takes back what `+=` makes; else numbers and truth values, as the operator takes them.
abbrev pub compound_kind : Facts → BinOp → JavaType → JavaType → Option Kind
compound_kind f op s t = if is_text_sum op s then Some kind.Text else (if are_primitive s t then kind_by f op s t else None)

abbrev pub compound_made : Node → BinOp → Kind → p.Expr → p.Expr → p.Expr
compound_made n op k x y = p.At n (ty_of x) (p.Compound op k x (right_operand op k y))

abbrev pub changed : Facts → List LocalVar → Node → BinOp → p.Expr → p.Expr → Checked p.Expr
changed f ls n op x y = with_some (compound_kind f op (ty_of x) (ty_of y)) n.id 59 (λ k. under (not (is_final f ls x)) n.id 60 (Fine (compound_made n op k x y)))

abbrev pub changed_before : Facts → List LocalVar → Node → p.Expr → (node rule : ℕ) → Checked p.Expr
changed_before f ls n x m r = under (not (is_final f ls x)) n.id 60 (Broken m r)

abbrev pub compound : Facts → List LocalVar → Node → BinOp → Checked p.Expr → Checked p.Expr → Checked p.Expr
compound f ls n op (Fine x) (Fine y) = changed f ls n op x y
compound f ls n op (Fine x) (Broken m r) = changed_before f ls n x m r
compound f ls n op (Broken m r) b = Broken m r

-- ---- conditionals: T7 reads the test, T53 and T54 the arms

abbrev pub wider : (s t : JavaType) → JavaType
wider s t = if is_long s || is_long t then long else s

abbrev pub is_int_or_long : Option Primitive → Bool
is_int_or_long (Some prim.Int) = true
is_int_or_long (Some prim.Long) = true
is_int_or_long _ = false

abbrev pub is_char : Option Primitive → Bool
is_char (Some prim.Char) = true
is_char _ = false

-- whether two primitives have one type, or are int and long
abbrev pub primitives_join : Option Primitive → Option Primitive → Bool
primitives_join None t = false
primitives_join (Some prim.Int) t = is_int_or_long t
primitives_join (Some prim.Long) t = is_int_or_long t
primitives_join (Some prim.Char) t = is_char t
primitives_join (Some prim.Boolean) t = boolean_primitive t

abbrev pub joined_primitives : JavaType → JavaType → Option JavaType
joined_primitives s t = if primitives_join (primitive s) (primitive t) then Some (wider s t) else None

abbrev pub larger : Facts → JavaType → JavaType → Option JavaType
larger f s t = if f.sub s t then Some t else (if f.sub t s then Some s else None)

abbrev pub is_one_primitive : JavaType → JavaType → Bool
is_one_primitive s t = is_primitive s || is_primitive t

-- the type of a conditional of these arms
abbrev pub joined : Facts → JavaType → JavaType → Option JavaType
joined f s t = if is_one_primitive s t then joined_primitives s t else larger f s t

abbrev pub join_rule : JavaType → JavaType → ℕ
join_rule s t = if is_one_primitive s t then 53 else 54

abbrev pub cond_made : Node → JavaType → p.Expr → p.Expr → p.Expr → p.Expr
cond_made n t x y z = p.At n t (p.Cond x (converted t y) (converted t z))

abbrev pub cond_of : Facts → Node → p.Expr → p.Expr → p.Expr → Checked p.Expr
cond_of f n x y z = with_some (joined f (ty_of y) (ty_of z)) n.id (join_rule (ty_of y) (ty_of z)) (λ t. Fine (cond_made n t x y z))

-- behind a test that breaks a rule: T53 and T54 are of an earlier node
abbrev pub broken_of : Facts → Node → (node rule : ℕ) → p.Expr → p.Expr → Checked p.Expr
broken_of f n m r y z = with_some (joined f (ty_of y) (ty_of z)) n.id (join_rule (ty_of y) (ty_of z)) (λ t. Broken m r)

-- the arms of a test that breaks no rule: the first rule that is broken in them, or the conditional
abbrev pub arms_of : Facts → Node → p.Expr → Checked p.Expr → Checked p.Expr → Checked p.Expr
arms_of f n x b c = and_then b (λ y. and_then c (λ z. cond_of f n x y z))

abbrev pub broken_arms : Facts → Node → (node rule : ℕ) → Checked p.Expr → Checked p.Expr → Checked p.Expr
broken_arms f n m r (Fine y) (Fine z) = broken_of f n m r y z
broken_arms f n m r (Fine y) (Broken m' r') = Broken m r
broken_arms f n m r (Broken m' r') c = Broken m r

abbrev pub cond : Facts → Node → Checked p.Expr → Checked p.Expr → Checked p.Expr → Checked p.Expr
cond f n (Fine x) b c = under (is_boolean (ty_of x)) n.id 7 (arms_of f n x b c)
cond f n (Broken m r) b c = broken_arms f n m r b c

-- ---- casts and instanceof: T55 to T57

abbrev pub primitive_cast : JavaType → JavaType → Bool
primitive_cast s t = (is_numeric s && is_numeric t) || (is_boolean s && is_boolean t)

abbrev pub cast_rule : JavaType → ℕ
cast_rule t = if is_primitive t then 55 else 56

abbrev pub may_be_cast : Facts → JavaType → JavaType → Bool
may_be_cast f s t = if is_primitive t then primitive_cast s t else (not (is_primitive s) && f.castable s t)

abbrev pub cast_made : Node → p.Written → (close : ℕ) → p.Expr → p.Expr
cast_made n w close x = p.At n (type_said w) (p.Cast w close x)

abbrev pub cast_of : Facts → Node → p.Written → (close : ℕ) → p.Expr → Checked p.Expr
cast_of f n w close x = under (may_be_cast f (ty_of x) (type_said w)) n.id (cast_rule (type_said w)) (Fine (cast_made n w close x))

abbrev pub cast : Facts → Node → Checked p.Written → (close : ℕ) → Checked p.Expr → Checked p.Expr
cast f n a close b = and_then a (λ w. and_then b (λ x. cast_of f n w close x))

-- no type variable, and no array of one
abbrev pub is_no_variable_form : JavaType-F Bool → Bool
is_no_variable_form (form.Var k) = false
is_no_variable_form (form.Array x) = x
is_no_variable_form _ = true

abbrev pub may_be_tested : Facts → (no_variable : Bool) → JavaType → JavaType → Bool
may_be_tested f no_variable s t = not (is_primitive s) && is_reference t && no_variable && f.castable s t

abbrev pub is_no_variable : JavaType → Bool
is_no_variable = fold-JavaType Bool is_no_variable_form

abbrev pub tested : Facts → Node → p.Expr → p.Written → Checked p.Expr
tested f n x w = under (may_be_tested f (is_no_variable (type_said w)) (ty_of x) (type_said w)) n.id 57 (Fine (p.At n boolean (p.InstanceOf x w)))

abbrev pub instance_of : Facts → Node → Checked p.Expr → Checked p.Written → Checked p.Expr
instance_of f n a b = and_then a (λ x. and_then b (λ w. tested f n x w))

-- ---- arrays: T31, T40, T41, T8

abbrev pub index_made : Node → JavaType → p.Expr → p.Expr → p.Expr
index_made n t x y = p.At n t (p.Index x (converted int y))

abbrev pub index_of : Node → p.Expr → p.Expr → Checked p.Expr
index_of n x y = with_some (element (ty_of x)) n.id 31 (λ t. under (is_short (ty_of y)) n.id 31 (Fine (index_made n t x y)))

abbrev pub index : Node → Checked p.Expr → Checked p.Expr → Checked p.Expr
index n a b = and_then a (λ x. and_then b (λ y. index_of n x y))

-- an array may have items of this type: one without arguments, and no type variable, under all array levels
abbrev pub is_creatable_form : JavaType-F Bool → Bool
is_creatable_form (form.Class c xs) = length xs == 0
is_creatable_form (form.Var k) = false
is_creatable_form (form.Array x) = x
is_creatable_form _ = true

abbrev pub is_creatable : JavaType → Bool
is_creatable = fold-JavaType Bool is_creatable_form

abbrev pub are_short : List p.Expr → Bool
are_short [] = true
are_short (x ∷ xs) = is_short (ty_of x) && are_short xs

abbrev pub size : p.Expr → p.Expr
size x = converted int x

abbrev pub sizes : List p.Expr → List p.Expr
sizes xs = map size xs
