-- New arrays.
use Rattle.std.specs.Prelude.{ℕ, ℤ, pos, List, map, replicate, int_lt, unsigned_abs}
use Rattle.std.specs.List.{find}
use Rattle.class_world.specs.declared.world.JavaType.{JavaType}
use Rattle.java_core.specs.declared.expr.CoreExpr.{CoreExpr}
use Rattle.java_core.specs.View.{plains}
use Rattle.core_meaning.specs.declared.values.Value.{Value}
use Rattle.core_meaning.specs.declared.values.State.{State}
use Rattle.core_meaning.specs.declared.values.Thing.TheVariants.{Array}
use Rattle.core_meaning.specs.State.{with_thing}
use Rattle.core_meaning.specs.Outcome.{Outcome}
use Rattle.core_meaning.specs.Code.{default_value}
use Rattle.core_meaning.specs.Variables.{Place}
use Rattle.core_meaning.specs.Expressions.{array_with, arrays_of, count, unless_negative, values}
use Rattle.run_frames.specs.declared.run.Run.{Run}

-- arrays of these sizes, unless one is negative
abbrev pub made_of : List ℤ → JavaType → State → Outcome Value
made_of zs t s = unless_negative (find (λ z. int_lt z (pos 0)) zs) (arrays_of (map unsigned_abs zs) t) s

-- a run with one more array, of n first values
abbrev pub with_firsts : ℕ → JavaType → Run → Run
with_firsts n t r = record r { state = with_thing (Array t (replicate n (default_value t))) r.state }

-- an array of these items, whose type is t
abbrev pub filled : Place → JavaType → List CoreExpr → State → Outcome Value
filled p t xs s = array_with t (count (plains xs)) (values p (plains xs)) s
