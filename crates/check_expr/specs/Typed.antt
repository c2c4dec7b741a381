-- The typing of expressions, a clause a form: the core of an expression, or the first rule that it breaks (JLS 15). A rule at a node counts where all that it reads is
-- fine. It comes before all below the node, whose numbers are greater; below it the first part comes first.
use Rattle.std.specs.Prelude.{ℕ, ◌+◌, Bool, true, false, not, List, [], ◌∷◌, length, map, Option, Some, None, is_none, slice_get, if◌then◌else◌}
use Rattle.java_tree.specs.declared.tree.Node.{Node}
use Rattle.java_tree.specs.declared.tree.Name.{Name}
use Rattle.java_tree.specs.declared.tree.UnOp.{UnOp}
use Rattle.java_tree.specs.declared.tree.UnOp.TheVariants as un
use Rattle.java_tree.specs.declared.tree.Mod.TheVariants as mods
use Rattle.java_tree.specs.Plain as t
use Rattle.class_world.specs.declared.world.TypeInfo.{TypeInfo}
use Rattle.class_world.specs.declared.world.JavaType.{JavaType}
use Rattle.class_world.specs.declared.world.JavaType.TheVariants as ty
use Rattle.java_core.specs.Plain as p
use Rattle.java_core.specs.View.{row}
use Rattle.checked.specs.Checked.{Checked, Fine, Broken, and_then, under, with_some, also}
use Rattle.type_kinds.specs.Kinds.{ty_of, char, boolean, string, element, is_reference, class_number, has, converted, converted_all}
use Rattle.type_facts.specs.Facts.{Facts}
use Rattle.type_facts.specs.Scopes.{own_type, find_local}
use Rattle.type_facts.specs.declared.scope.Place.{Place}
use Rattle.type_facts.specs.declared.scope.LocalVar.{LocalVar}
use Rattle.written_types.specs.Types.{arrays}
use Rattle.operator_rules.specs.declared.uses.Use.{Use}
use Rattle.operator_rules.specs.declared.uses.Use.TheVariants as use_
use Rattle.operator_rules.specs.Uses.{within}
use Rattle.check_expr.specs.declared.exprs.Literal.{Literal}
use Rattle.operator_rules.specs.Constants.{number}
use Rattle.operator_rules.specs.Writtens.{type_said, written}
use Rattle.member_uses.specs.Targets.{Dotted, AValue, AType, Unknown, dotted, OfThis, OfValue, OfType, OfSuper, field_of, field_of_value, variable, super_field, superclass, called, constructor}
use Rattle.operator_rules.specs.Operators.{unary, step, assign, compound, operands, cond, cast, instance_of, index, is_creatable, are_short, sizes}

-- ---- what each form makes of its parts

-- T24
abbrev pub this_of : Place → Node → Checked p.Expr
this_of g n = under (not g.is_static) n.id 24 (Fine (p.At n (own_type g) p.This))

abbrev pub paren : Node → Checked p.Expr → Checked p.Expr
paren n a = and_then a (λ x. Fine (p.At n (ty_of x) (p.Paren x)))

-- a field behind a dot: T26 to T29
abbrev pub field_on : Facts → Place → Use → Node → Checked p.Expr → Name → Checked p.Expr
field_on f g u n a x = and_then a (λ y. field_of_value f g u n y x)

abbrev pub dotted_field : Facts → Place → Use → Node → Dotted → Checked p.Expr → Name → Checked p.Expr
dotted_field f g u n AValue a x = field_on f g u n a x
dotted_field f g u n (AType m c) a x = field_of f g u n 28 (OfType m c) x
dotted_field f g u n (Unknown m) a x = Broken m.id 26

-- T32, T36
abbrev pub call_here : Facts → Place → Use → Node → Name → Checked (List p.Expr) → Checked p.Expr
call_here f g u n x xs = and_then xs (λ xs. called f g u n OfThis x xs)

-- T33 reads the value before the dot alone.
abbrev pub call_on : Facts → Place → Use → Node → Checked p.Expr → Name → Checked (List p.Expr) → Checked p.Expr
call_on f g u n a x xs = and_then a (λ y. under (is_reference (ty_of y)) n.id 33 (and_then xs (λ xs. called f g u n (OfValue y) x xs)))

abbrev pub dotted_call : Facts → Place → Use → Node → Dotted → Checked p.Expr → Name → Checked (List p.Expr) → Checked p.Expr
dotted_call f g u n AValue a x xs = call_on f g u n a x xs
dotted_call f g u n (AType m c) a x xs = and_then xs (λ xs. called f g u n (OfType m c) x xs)
dotted_call f g u n (Unknown m) a x xs = Broken m.id 26

-- T35
abbrev pub super_called : Facts → Place → Use → Node → Name → List p.Expr → Checked p.Expr
super_called f g u n x xs = with_some (superclass f.world g.class) n.id 35 (λ t. called f g u n (OfSuper t) x xs)

abbrev pub super_call : Facts → Place → Use → Node → Name → Checked (List p.Expr) → Checked p.Expr
super_call f g u n x xs = and_then xs (λ xs. under (not g.is_static) n.id 35 (super_called f g u n x xs))

-- T38
abbrev pub is_concrete : Option TypeInfo → Bool
is_concrete None = false
is_concrete (Some info) = if info.interface then false else not (has mods.Abstract info.mods)

abbrev pub may_create : Facts → Option ℕ → Bool
may_create f None = false
may_create f (Some c) = is_concrete (slice_get f.world.types c)

abbrev pub created : Facts → Place → Node → p.Written → List p.Expr → Checked p.Expr
created f g n w xs = under (may_create f (class_number (type_said w))) n.id 38
    (with_some (constructor f g (type_said w) (map ty_of xs)) n.id 38 (λ c. Fine (p.At n (type_said w) (p.New w c.method (row (converted_all c.params xs))))))

abbrev pub new_of : Facts → Place → Node → Checked p.Written → Checked (List p.Expr) → Checked p.Expr
new_of f g n a xs = and_then a (λ w. and_then xs (λ xs. created f g n w xs))

-- T40; `extra` levels stand behind those that have a size
abbrev pub array_made : Node → p.Written → (extra : ℕ) → List p.Expr → Checked p.Expr
array_made n w extra xs = under (is_creatable (type_said w)) n.id 40 (under (are_short xs) n.id 40 (Fine (p.At n (arrays (length xs + extra) (type_said w)) (p.NewArray w (row (sizes xs))))))

abbrev pub array_of : Node → Checked p.Written → (extra : ℕ) → Checked (List p.Expr) → Checked p.Expr
array_of n a extra xs = and_then a (λ w. and_then xs (λ xs. array_made n w extra xs))

-- T41 reads the type alone.
abbrev pub filled_of : Node → p.Written → Checked p.Expr → Checked p.Expr
filled_of n w b = under (is_creatable (type_said w)) n.id 41 (and_then b (λ x. Fine (p.At n (type_said w) (p.NewFilled w x))))

-- T8: an item fits, at the item
abbrev pub item : Facts → JavaType → (node : ℕ) → Checked p.Expr → Checked p.Expr
item f t m a = and_then a (λ x. under (f.fits (ty_of x) t) m 8 (Fine (converted t x)))

abbrev pub node_of : t.Expr → Node
node_of (t.Number n k d l) = n
node_of (t.Char n x) = n
node_of (t.Text n x) = n
node_of (t.Truth n b) = n
node_of (t.Null n) = n
node_of (t.This n) = n
node_of (t.Name n x) = n
node_of (t.Field n e x) = n
node_of (t.SuperField n x) = n
node_of (t.Index n a b) = n
node_of (t.Call n of x es) = n
node_of (t.SuperMethod n x es) = n
node_of (t.New n x es) = n
node_of (t.NewArray n x es k) = n
node_of (t.NewFilled n x e) = n
node_of (t.Items n es) = n
node_of (t.Paren n e) = n
node_of (t.Unary n op e) = n
node_of (t.Step n up before e) = n
node_of (t.Cast n x k e) = n
node_of (t.Binary n op a b) = n
node_of (t.InstanceOf n e x) = n
node_of (t.Cond n a b c) = n
node_of (t.Assign n op a b) = n

abbrev pub filled : Node → JavaType → Checked (List p.Expr) → Checked p.Expr
filled n t xs = and_then xs (λ xs. Fine (p.At n t (p.Filled (row xs))))

-- ---- the forms

abbrev pub literal_of : t.Expr → Option Literal
literal_of (t.Number n k d l) = Some (record { node = n; value = k; decimal = d; long = l })
literal_of _ = None

abbrev pub behind_minus : Option Literal → Checked p.Expr → Checked p.Expr
behind_minus None a = a
behind_minus (Some x) a = number x.node x.value x.decimal x.long true

-- The operand of a sign: a number may be larger by one behind a minus.
abbrev pub signed : UnOp → t.Expr → Checked p.Expr → Checked p.Expr
signed un.Minus e a = behind_minus (literal_of e) a
signed op e a = a

-- items stand where an array is declared or created: T8
abbrev pub filled_by : Node → JavaType → Option JavaType → (JavaType → Checked (List p.Expr)) → Checked p.Expr
filled_by n x None xs = Broken n.id 8
filled_by n x (Some y) xs = filled n x (xs y)

module _ (f : Facts) (g : Place) (ls : List LocalVar) where
  abbrev mutual
    -- `to` is the type of the variable or item that the value is for, where it stands as one
    pub typed_for : (to : Option JavaType) → Use → t.Expr → Checked p.Expr
    typed_for to u (t.Number n k d l) = number n k d l false
    typed_for to u (t.Char n x) = Fine (p.At n char (p.Char x))
    typed_for to u (t.Text n x) = Fine (p.At n string (p.Text x))
    typed_for to u (t.Truth n b) = Fine (p.At n boolean (p.Truth b))
    typed_for to u (t.Null n) = Fine (p.At n ty.Null p.Null)
    typed_for to u (t.This n) = this_of g n
    typed_for to u (t.Name n x) = variable f g u n (find_local ls x) x
    typed_for to u (t.Field n e x) = dotted_field f g u n (dotted f g ls e) (typed_for None use_.Read e) x
    typed_for to u (t.SuperField n x) = super_field f g u n x
    typed_for to u (t.Index n a b) = index n (typed_for None use_.Read a) (typed_for None use_.Read b)
    typed_for to u (t.Call n of x es) = call u n of x (typeds es)
    typed_for to u (t.SuperMethod n x es) = super_call f g u n x (typeds es)
    typed_for to u (t.New n x es) = new_of f g n (written f g x) (typeds es)
    typed_for to u (t.NewArray n x es k) = array_of n (written f g x) k (typeds es)
    typed_for to u (t.NewFilled n x e) = and_then (written f g x) (λ w. filled_of n w (typed_for (Some (type_said w)) use_.Read e))
    typed_for None u (t.Items n es) = Broken n.id 8
    typed_for (Some x) u (t.Items n es) = filled_by n x (element x) (λ y. items y es)
    typed_for to u (t.Paren n e) = paren n (typed_for None (within u) e)
    typed_for to u (t.Unary n op e) = unary n op (signed op e (typed_for None use_.Read e))
    typed_for to u (t.Step n up before e) = step f ls n up before (typed_for None use_.Change e)
    typed_for to u (t.Cast n x k e) = cast f n (written f g x) k (typed_for None use_.Read e)
    typed_for to u (t.Binary n op a b) = operands f n op (typed_for None use_.Read a) (typed_for None use_.Read b)
    typed_for to u (t.InstanceOf n e x) = instance_of f n (typed_for None use_.Read e) (written f g x)
    typed_for to u (t.Cond n a b c) = cond f n (typed_for None use_.Read a) (typed_for None use_.Read b) (typed_for None use_.Read c)
    typed_for to u (t.Assign n None a b) = assign f g u ls n (typed_for None use_.Set a) (typed_for None use_.Read b)
    typed_for to u (t.Assign n (Some op) a b) = compound f ls n op (typed_for None use_.Change a) (typed_for None use_.Read b)

    -- a call, with its arguments
    pub call : Use → Node → t.MaybeExpr → Name → Checked (List p.Expr) → Checked p.Expr
    call u n t.NoExpr x xs = call_here f g u n x xs
    call u n (t.AnExpr e) x xs = dotted_call f g u n (dotted f g ls e) (typed_for None use_.Read e) x xs

    pub items : JavaType → t.Exprs → Checked (List p.Expr)
    items x t.End = Fine []
    items x (t.Also e es) = and_then (item f x (node_of e).id (typed_for (Some x) use_.Read e)) (λ y. also y (items x es))

    pub typeds : t.Exprs → Checked (List p.Expr)
    typeds t.End = Fine []
    typeds (t.Also e es) = and_then (typed_for None use_.Read e) (λ x. also x (typeds es))

  abbrev pub typed : Use → t.Expr → Checked p.Expr
  typed u e = typed_for None u e

  -- what gives a variable of this type its value
  abbrev pub initial : JavaType → t.Expr → Checked p.Expr
  initial x e = typed_for (Some x) use_.Read e
