-- Fields and methods as an expression uses them (JLS 6.5.6, 8.4.8, 15.11, 15.12).
use Rattle.std.specs.Prelude.{ℕ, Bool, true, false, ◌&&◌, ◌||◌, not, List, [], ◌∷◌, ◌++◌, map, length, filter, nat_eq, Option, Some, None, is_some, slice_get, option_and_then, ◌==◌, if◌then◌else◌}
use Rattle.std.specs.List.{list_any}
use Rattle.std.specs.Option.{option_map}
use Rattle.java_tree.specs.declared.tree.Node.{Node}
use Rattle.java_tree.specs.declared.tree.Name.{Name}
use Rattle.java_tree.specs.declared.tree.Mod.TheVariants as mods
use Rattle.java_tree.specs.Plain as t
use Rattle.class_world.specs.declared.world.World.{World}
use Rattle.class_world.specs.declared.world.TypeInfo.{TypeInfo}
use Rattle.class_world.specs.declared.world.MethodInfo.{MethodInfo}
use Rattle.class_world.specs.declared.world.FieldInfo.{FieldInfo}
use Rattle.class_world.specs.declared.world.JavaType.{JavaType}
use Rattle.class_world.specs.declared.world.JavaType.TheVariants as ty
use Rattle.class_world.specs.declared.access.Declared.TheVariants as declared
use Rattle.class_world.specs.Inheritance.{holder}
use Rattle.class_world.specs.Types.{erased}
use Rattle.java_core.specs.declared.expr.Before.TheVariants as before_
use Rattle.java_core.specs.Plain as p
use Rattle.java_core.specs.View.{row}
use Rattle.checked.specs.Checked.{Checked, Fine, Broken, under, with_some}
use Rattle.type_kinds.specs.Kinds.{ty_of, int, element, class_number, has, converted_all}
use Rattle.type_facts.specs.Facts.{Facts}
use Rattle.type_kinds.specs.Members.{is_interface, is_static_field}
use Rattle.type_facts.specs.Members.{seen_by, as_seen, accessed}
use Rattle.type_facts.specs.Scopes.{own_type, find_local}
use Rattle.type_facts.specs.declared.scope.Place.{Place}
use Rattle.type_facts.specs.declared.scope.LocalVar.{LocalVar}
use Rattle.method_choice.specs.declared.choice.Candidate.{Candidate}
use Rattle.method_choice.specs.Choice.{chosen}
use Rattle.operator_rules.specs.declared.uses.Use.{Use}
use Rattle.operator_rules.specs.Uses.{is_read, is_set, is_performed}

-- whose member is used: that of `this`, with nothing written before; of a value; of a type that is named; by `super`, of the type above
pub data Receiver : Type 0 where
  OfThis : Receiver
  OfValue : p.Expr → Receiver
  OfType : Node → (type : ℕ) → Receiver
  OfSuper : JavaType → Receiver

abbrev pub receiver_type : Place → Receiver → JavaType
receiver_type g OfThis = own_type g
receiver_type g (OfValue x) = ty_of x
receiver_type g (OfType n c) = ty.Class c []
receiver_type g (OfSuper t) = t

-- ---- the type above a class (8.1.4)

abbrev pub is_class_type : World → Option ℕ → Bool
is_class_type w None = false
is_class_type w (Some c) = not (is_interface w c)

abbrev pub first_class : World → List JavaType → Option JavaType
first_class w [] = None
first_class w (x ∷ xs) = if is_class_type w (class_number x) then Some x else first_class w xs

abbrev pub class_above : World → Option TypeInfo → Option JavaType
class_above w None = None
class_above w (Some info) = if info.interface then None else first_class w info.supers

abbrev pub superclass : World → ℕ → Option JavaType
superclass w c = class_above w (slice_get w.types c)

-- ---- what stands before a dot (6.5.2): T26

pub data Dotted : Type 0 where
  AValue : Dotted
  AType : Node → ℕ → Dotted
  Unknown : Node → Dotted

-- a local or parameter in scope, or a field that the class has
abbrev pub is_variable : Facts → Place → List LocalVar → Name → Bool
is_variable f g ls x = is_some (find_local ls x) || is_some (f.field (own_type g) x)

abbrev pub type_or_not : Node → Option ℕ → Dotted
type_or_not n None = Unknown n
type_or_not n (Some c) = AType n c

abbrev pub dotted_name : Facts → Place → List LocalVar → Node → Name → Dotted
dotted_name f g ls n x = if is_variable f g ls x then AValue else type_or_not n (f.mean x)

abbrev pub dotted : Facts → Place → List LocalVar → t.Expr → Dotted
dotted f g ls (t.Name n x) = dotted_name f g ls n x
dotted f g ls _ = AValue

-- ---- fields

abbrev pub value_field : p.Expr → (is_static : Bool) → ℕ → p.Form
value_field x true k = p.StaticField before_.Nothing (p.AnExpr x) k
value_field x false k = p.Field x false k

abbrev pub field_form : Place → Node → Receiver → (is_static : Bool) → ℕ → p.Form
field_form g n OfThis true k = p.StaticField before_.Nothing p.NoExpr k
field_form g n OfThis false k = p.Field (p.At n (own_type g) p.This) true k
field_form g n (OfValue x) is_static k = value_field x is_static k
field_form g n (OfType m c) is_static k = p.StaticField (before_.Type m c) p.NoExpr k
field_form g n (OfSuper t) true k = p.StaticField before_.Super p.NoExpr k
field_form g n (OfSuper t) false k = p.SuperField k

-- a value that is only assigned is not cast
abbrev pub access : Facts → Bool → Node → (declared t : JavaType) → p.Form → p.Expr
access f true n d t x = accessed f n d t x
access f false n d t x = p.At n t x

-- the type of a field as it is used
abbrev pub field_type : Facts → Place → Receiver → FieldInfo → JavaType
field_type f g r i = as_seen (seen_by f (receiver_type g r) i.owner (is_static_field f.world i)) i.ty

abbrev pub field_made : Facts → Place → Use → Node → Receiver → ℕ → FieldInfo → p.Expr
field_made f g u n r k i = access f (is_read u) n i.ty (field_type f g r i) (field_form g n r (is_static_field f.world i) k)

-- whether a field may be used so: by its simple name an instance field wants `this`; by a type's name it is static; by `super` it wants `this`
abbrev pub may_have_field : Place → Receiver → (is_static : Bool) → Bool
may_have_field g OfThis is_static = is_static || not g.is_static
may_have_field g (OfValue x) is_static = true
may_have_field g (OfType n c) is_static = is_static
may_have_field g (OfSuper t) is_static = not g.is_static

-- a simple name may name any field of the class, also one that the class can't access
abbrev pub can_access_field : Facts → Place → Receiver → ℕ → Bool
can_access_field f g OfThis k = true
can_access_field f g r k = f.sees g.class (declared.Field k)

abbrev pub field_numbered : Facts → Place → Use → Node → (rule : ℕ) → Receiver → ℕ → Checked p.Expr
field_numbered f g u n rule r k = with_some (slice_get f.world.fields k) n.id rule (λ i.
    under (can_access_field f g r k) n.id rule (under (may_have_field g r (is_static_field f.world i)) n.id rule (Fine (field_made f g u n r k i))))

-- the field that a name means, and the rule on it
abbrev pub field_of : Facts → Place → Use → Node → (rule : ℕ) → Receiver → Name → Checked p.Expr
field_of f g u n rule r x = with_some (f.field (receiver_type g r) x) n.id rule (λ k. field_numbered f g u n rule r k)

-- `length` of an array (10.7): T29
abbrev pub is_length : Facts → p.Expr → Name → Bool
is_length f x name = is_some (element (ty_of x)) && nat_eq name.0 f.length_name.0

abbrev pub length_of : Use → Node → p.Expr → Checked p.Expr
length_of u n x = under (not (is_set u)) n.id 29 (Fine (p.At n int (p.Length x)))

abbrev pub field_of_value : Facts → Place → Use → Node → p.Expr → Name → Checked p.Expr
field_of_value f g u n x name = if is_length f x name then length_of u n x else field_of f g u n 27 (OfValue x) name

abbrev pub local : Node → LocalVar → p.Expr
local n l = p.At n l.ty (p.Local l.slot)

-- T25
abbrev pub variable : Facts → Place → Use → Node → Option LocalVar → Name → Checked p.Expr
variable f g u n (Some l) x = Fine (local n l)
variable f g u n None x = field_of f g u n 25 OfThis x

-- T30
abbrev pub super_field : Facts → Place → Use → Node → Name → Checked p.Expr
super_field f g u n x = with_some (superclass f.world g.class) n.id 30 (λ t. field_of f g u n 30 (OfSuper t) x)

-- ---- methods

abbrev pub is_static_method : MethodInfo → Bool
is_static_method m = has mods.Static m.mods

-- methods of interfaces are abstract (9.4)
abbrev pub is_abstract : World → MethodInfo → Bool
is_abstract w m = has mods.Abstract m.mods || is_interface w m.owner

-- a method's parameter types as a type sees them
abbrev pub seen_params : Facts → JavaType → MethodInfo → List JavaType
seen_params f t m = map (as_seen (seen_by f t m.owner (is_static_method m))) m.params

abbrev pub candidate : Facts → JavaType → ℕ → Option MethodInfo → List Candidate
candidate f t k None = []
candidate f t k (Some m) = record { method = k; params = seen_params f t m } ∷ []

abbrev pub candidates : Facts → JavaType → List ℕ → List Candidate
candidates f t [] = []
candidates f t (k ∷ ks) = candidate f t k (slice_get f.world.methods k) ++ candidates f t ks

abbrev pub named_in : Facts → Option ℕ → Name → (arity : ℕ) → List ℕ
named_in f None x n = []
named_in f (Some c) x n = f.methods c x n

abbrev pub accessible : Facts → Place → List ℕ → List ℕ
accessible f g ks = filter (λ k. f.sees g.class (declared.Method k)) ks

-- A simple name may name any method of the class.
abbrev pub reachable : Facts → Place → Receiver → List ℕ → List ℕ
reachable f g OfThis ks = ks
reachable f g (OfValue x) ks = accessible f g ks
reachable f g (OfType n c) ks = accessible f g ks
reachable f g (OfSuper t) ks = accessible f g ks

abbrev pub value_call : p.Expr → (is_static : Bool) → ℕ → List p.Expr → p.Form
value_call x true k xs = p.StaticCall before_.Nothing (p.AnExpr x) k (row xs)
value_call x false k xs = p.Call x false k (row xs)

abbrev pub super_call : (is_static : Bool) → ℕ → List p.Expr → p.Form
super_call true k xs = p.StaticCall before_.Super p.NoExpr k (row xs)
super_call false k xs = p.SuperCall k (row xs)

abbrev pub call_form : Place → Node → Receiver → (is_static : Bool) → ℕ → List p.Expr → p.Form
call_form g n OfThis true k xs = p.StaticCall before_.Nothing p.NoExpr k (row xs)
call_form g n OfThis false k xs = p.Call (p.At n (own_type g) p.This) true k (row xs)
call_form g n (OfValue x) is_static k xs = value_call x is_static k xs
call_form g n (OfType m c) is_static k xs = p.StaticCall (before_.Type m c) p.NoExpr k (row xs)
call_form g n (OfSuper t) is_static k xs = super_call is_static k xs

-- an argument fits its parameter by an unchecked conversion alone
abbrev pub some_unchecked : Facts → List p.Expr → List JavaType → Bool
some_unchecked f [] ts = false
some_unchecked f (x ∷ xs) [] = false
some_unchecked f (x ∷ xs) (t ∷ ts) = f.unchecked (ty_of x) t || some_unchecked f xs ts

abbrev pub erased_if : Bool → JavaType → JavaType
erased_if true t = erased t
erased_if false t = t

-- T37; a void method's call has the null type
abbrev pub called_as : Facts → Node → (result : Option JavaType) → JavaType → p.Form → p.Expr
called_as f n None t x = p.At n ty.Null x
called_as f n (Some d) t x = accessed f n d t x

abbrev pub result_seen : Facts → JavaType → MethodInfo → Bool → Option JavaType → JavaType
result_seen f t m erases None = ty.Null
result_seen f t m erases (Some d) = erased_if erases (as_seen (seen_by f t m.owner (is_static_method m)) d)

abbrev pub call_made : Facts → Place → Node → Receiver → Candidate → MethodInfo → List p.Expr → p.Expr
call_made f g n r c m xs =
    called_as f n m.result (result_seen f (receiver_type g r) m (some_unchecked f xs c.params) m.result)
    (call_form g n r (is_static_method m) c.method (converted_all c.params xs))

-- the rule on how a method is used, and whether it may be used so: T32, T34, T35
abbrev pub call_rule : Receiver → ℕ
call_rule OfThis = 32
call_rule (OfValue x) = 33
call_rule (OfType n c) = 34
call_rule (OfSuper t) = 35

abbrev pub may_call : Facts → Place → Receiver → MethodInfo → Bool
may_call f g OfThis m = is_static_method m || not g.is_static
may_call f g (OfValue x) m = true
may_call f g (OfType n c) m = is_static_method m
may_call f g (OfSuper t) m = not (is_abstract f.world m)

-- only a statement calls a void method
abbrev pub may_answer : Use → MethodInfo → Bool
may_answer u m = is_some m.result || is_performed u

-- T6, then those
abbrev pub judged : Facts → Place → Use → Node → Receiver → Candidate → MethodInfo → List p.Expr → Checked p.Expr
judged f g u n r c m xs = under (may_answer u m) n.id 6 (under (may_call f g r m) n.id (call_rule r) (Fine (call_made f g n r c m xs)))

-- the method that a call chooses
abbrev pub choice : Facts → Place → Receiver → Name → List p.Expr → Option Candidate
choice f g r x xs = chosen f (map ty_of xs) (candidates f (receiver_type g r) (reachable f g r (named_in f (holder (receiver_type g r)) x (length xs))))

abbrev pub called_by : Facts → Place → Use → Node → Receiver → Candidate → List p.Expr → Checked p.Expr
called_by f g u n r c xs = with_some (slice_get f.world.methods c.method) n.id 36 (λ m. judged f g u n r c m xs)

-- T36
abbrev pub called : Facts → Place → Use → Node → Receiver → Name → List p.Expr → Checked p.Expr
called f g u n r x xs = with_some (choice f g r x xs) n.id 36 (λ c. called_by f g u n r c xs)

-- ---- constructors

abbrev pub is_constructor : (arity : ℕ) → Option MethodInfo → Bool
is_constructor n None = false
is_constructor n (Some m) = m.constructor && nat_eq (length m.params) n

abbrev pub constructors_among : Facts → (arity : ℕ) → List ℕ → List ℕ
constructors_among f n ks = filter (λ k. is_constructor n (slice_get f.world.methods k)) ks

abbrev pub constructors_of : Facts → (arity : ℕ) → Option TypeInfo → List ℕ
constructors_of f n None = []
constructors_of f n (Some info) = constructors_among f n info.methods

-- the accessible constructor of a class type that takes these arguments
abbrev pub constructor_in : Facts → Place → JavaType → Option ℕ → List JavaType → Option Candidate
constructor_in f g t None args = None
constructor_in f g t (Some c) args = chosen f args (candidates f t (accessible f g (constructors_of f (length args) (slice_get f.world.types c))))

abbrev pub constructor : Facts → Place → JavaType → List JavaType → Option Candidate
constructor f g t args = constructor_in f g t (class_number t) args
