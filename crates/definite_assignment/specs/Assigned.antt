-- Definite assignment (JLS 3rd edition, chapter 16), a clause a form: rules F3, F5, F11 and F12, and F4 at a return. What a state has are the variables that are not
-- definitely assigned; where nothing goes on, there are none.
use Rattle.std.specs.Prelude.{ℕ, Bool, true, false, ◌&&◌, not, nat_lt, List, [], Option, Some, None, ◌==◌}
use Rattle.java_tree.specs.declared.tree.Node.{Node}
use Rattle.java_tree.specs.declared.tree.UnOp.{UnOp}
use Rattle.java_tree.specs.declared.tree.UnOp.TheVariants as un
use Rattle.class_world.specs.declared.world.World.{World}
use Rattle.class_world.specs.declared.world.FieldInfo.{FieldInfo}
use Rattle.java_core.specs.declared.expr.Before.{Before}
use Rattle.java_core.specs.declared.expr.Before.TheVariants as before_
use Rattle.java_core.specs.Plain as p
use Rattle.type_kinds.specs.Members.{field_at, is_static_field}
use Rattle.reachability.specs.Reached.{flaw_unless, is_same_truth}
use Rattle.definite_assignment.specs.declared.state.State.{State}
use Rattle.definite_assignment.specs.declared.state.Variable.{Variable}
use Rattle.definite_assignment.specs.declared.state.Variable.TheVariants as v
use Rattle.definite_assignment.specs.Variables.{has, with_one, without, either}

-- ---- states

abbrev pub at : List Variable → State → State
at xs s = record { missing = xs; otherwise = s.otherwise; breaks = s.breaks; continues = s.continues; first = s.first }

-- a broken rule, where it does not hold
abbrev pub under : Bool → (node rule : ℕ) → State → State
under b n r s = record { missing = s.missing; otherwise = s.otherwise; breaks = s.breaks; continues = s.continues; first = flaw_unless b n r s.first }

abbrev pub given : Variable → State → State
given x s = at (without s.missing x) s

abbrev pub ungiven : Variable → State → State
ungiven x s = at (with_one s.missing x) s

-- behind this way too
abbrev pub joined : List Variable → State → State
joined xs s = at (either s.missing xs) s

-- a test that ends as this where it is true, and so where it is false
abbrev pub forked : (held failed : List Variable) → State → State
forked held failed s = record { missing = held; otherwise = failed; breaks = s.breaks; continues = s.continues; first = s.first }

-- behind a test where it is true, and where it is false
abbrev pub when_true : State → State
when_true s = forked s.missing [] s

abbrev pub when_false : State → State
when_false s = forked s.otherwise [] s

-- behind a test, whether it is true or not
abbrev pub merged : State → State
merged s = forked (either s.missing s.otherwise) [] s

-- a test that tells nothing more
abbrev pub told_alike : State → State
told_alike s = forked s.missing s.missing s

-- the test `true` or `false`
abbrev pub told : Bool → State → State
told true s = forked s.missing [] s
told false s = forked [] s.missing s

abbrev pub negated : State → State
negated s = forked s.otherwise s.missing s

-- where a test was false before, it is so here too; or true
abbrev pub also_no : List Variable → State → State
also_no failed s = forked s.missing (either s.otherwise failed) s

abbrev pub also_yes : List Variable → State → State
also_yes held s = forked (either s.missing held) s.otherwise s

abbrev pub both_ways : (held failed : List Variable) → State → State
both_ways held failed s = forked (either s.missing held) (either s.otherwise failed) s

-- ---- ways through what stands behind a test: what its parts make of a state

-- the arms of a conditional, or of an `if`, behind its test
abbrev pub second_arm : (second : State → State) → List Variable → State → State
second_arm second xs s = joined s.missing (second (at xs s))

abbrev pub arms : (first second : State → State) → State → State
arms first second s = second_arm second s.otherwise (first (when_true s))

-- `!` turns a test around, and the other operators are of numbers
abbrev pub unary_test : UnOp → (tested used : State → State) → State → State
unary_test un.Not tested used s = negated (tested s)
unary_test _ tested used s = told_alike (used s)

-- the right side of `&&` or `||`, behind its left side
abbrev pub logic : (both : Bool) → (right : State → State) → State → State
logic true right s = also_no s.otherwise (right (when_true s))
logic false right s = also_yes s.missing (right (when_false s))

-- the arms of a conditional that is a test, behind its own test
abbrev pub second_test : (second : State → State) → List Variable → State → State
second_test second xs s = both_ways s.missing s.otherwise (second (forked xs [] s))

abbrev pub test_arms : (first second : State → State) → State → State
test_arms first second s = second_test second s.otherwise (first (when_true s))

-- ---- uses of fields

-- the field k, where it is of i's class and as static as that is, and is not declared before
abbrev pub is_not_before : World → (i : ℕ) → Option FieldInfo → (k : ℕ) → Option FieldInfo → Bool
is_not_before w i (Some x) k (Some y) = (x.owner == y.owner) && is_same_truth (is_static_field w x) (is_static_field w y) && not (nat_lt k i)
is_not_before w i _ k _ = false

-- F11: in the value of this field, where it is in that of one
abbrev pub is_early : World → (home : Option ℕ) → (k : ℕ) → Bool
is_early w None k = false
is_early w (Some i) k = is_not_before w i (field_at w i) k (field_at w k)

-- ---- expressions

abbrev pub given_field : p.Expr → ℕ → State → State
given_field (p.At n t p.This) k s = given (v.Blank 0 k) s
given_field _ k s = s

-- what an assignment gives a value: a local, or a field of the object itself
abbrev mutual
  pub assigned : p.Expr → State → State
  assigned (p.At n t x) s = assigned_form x s

  pub assigned_form : p.Form → State → State
  assigned_form (p.Local k) s = given (v.Local k) s
  assigned_form (p.Field x simple k) s = given_field x k s
  assigned_form (p.Paren x) s = assigned x s
  assigned_form _ s = s

-- F3
abbrev pub use_local : Node → ℕ → State → State
use_local n k s = under (not (has s.missing (v.Local k))) n.id 3 s

module _ (w : World) (home : Option ℕ) where
  -- F11, and F12 of an instance field
  abbrev pub use_field : Node → ℕ → State → State
  use_field n k s = under (not (has s.missing (v.Blank 0 k))) n.id 12 (under (not (is_early w home k)) n.id 11 s)

  -- a static field; by its simple name where nothing is written before it
  abbrev pub use_static : Node → Before → ℕ → State → State
  use_static n before_.Nothing k s = under (not (is_early w home k)) n.id 11 s
  use_static n _ k s = s

  abbrev mutual
    pub value : p.Expr → State → State
    value (p.At n t x) s = value_form n x s

    pub value_form : Node → p.Form → State → State
    value_form n (p.Local k) s = use_local n k s
    value_form n (p.Paren x) s = value x s
    value_form n (p.Widen x) s = value x s
    value_form n (p.Implied x) s = value x s
    value_form n (p.Field x true k) s = use_field n k s
    value_form n (p.Field x false k) s = value x s
    value_form n (p.StaticField b x k) s = static_value n b x k s
    value_form n (p.Length x) s = value x s
    value_form n (p.Index x y) s = value y (value x s)
    value_form n (p.Call x simple k xs) s = values xs (value x s)
    value_form n (p.SuperCall k xs) s = values xs s
    value_form n (p.StaticCall b x k xs) s = values xs (maybe_value x s)
    value_form n (p.New t k xs) s = values xs s
    value_form n (p.NewArray t xs) s = values xs s
    value_form n (p.NewFilled t x) s = value x s
    value_form n (p.Filled xs) s = values xs s
    value_form n (p.Unary op x) s = value x s
    value_form n (p.Step up before x) s = value x s
    value_form n (p.Cast t close x) s = value x s
    value_form n (p.Binary op kind x y) s = value y (value x s)
    value_form n (p.Logic b x y) s = merged (logic b (test y) (test x s))
    value_form n (p.InstanceOf x t) s = value x s
    value_form n (p.Cond x y z) s = arms (value y) (value z) (test x s)
    value_form n (p.Assign x y) s = assigned x (value y (target x s))
    value_form n (p.Compound op kind x y) s = assigned x (value y (value x s))
    value_form n _ s = s

    pub values : p.Exprs → State → State
    values p.End s = s
    values (p.Also x xs) s = values xs (value x s)

    pub maybe_value : p.MaybeExpr → State → State
    maybe_value p.NoExpr s = s
    maybe_value (p.AnExpr x) s = value x s

    pub static_value : Node → Before → p.MaybeExpr → ℕ → State → State
    static_value n b p.NoExpr k s = use_static n b k s
    static_value n b (p.AnExpr x) k s = value x s

    -- the parts of what is assigned: a variable itself is not used; any other form is, as a value
    pub target : p.Expr → State → State
    target (p.At n t x) s = target_form x (value_form n x) s

    pub target_form : p.Form → (used : State → State) → State → State
    target_form (p.Local k) used s = s
    target_form (p.Paren x) used s = target x s
    target_form (p.Field x true k) used s = s
    target_form (p.StaticField b x k) used s = maybe_value x s
    target_form _ used s = used s

    -- an expression as a test; any other form as a value
    pub test : p.Expr → State → State
    test (p.At n t x) s = test_form x (value_form n x) s

    pub test_form : p.Form → (used : State → State) → State → State
    test_form (p.Truth b) used s = told b s
    test_form (p.Paren x) used s = test x s
    test_form (p.Unary op x) used s = unary_test op (test x) used s
    test_form (p.Logic b x y) used s = logic b (test y) (test x s)
    test_form (p.Cond x y z) used s = test_arms (test y) (test z) (test x s)
    test_form _ used s = told_alike (used s)
