-- What the code says of a body.
use Rattle.std.specs.Prelude.{ℕ, ◌==◌, Option}
use Rattle.std.specs.List.{find}
use Rattle.java_core.specs.Plain as e
use Rattle.java_core.specs.View.{stmt_plain}
use Rattle.core_meaning.specs.Code.{Body, Written, Default, class_methods}
use Rattle.running_code.specs.declared.bodies.CodeBody.{CodeBody}
use Rattle.running_code.specs.declared.bodies.CodeBody.TheVariants as b

abbrev pub body_plain : CodeBody → Body
body_plain (b.Written first body) = Written first (stmt_plain body.now)
body_plain (b.Default first) = Default first

-- the method or constructor of this number that a class declares
abbrev pub method_in : ℕ → e.Class → Option e.Method
method_in m x = find (λ (y : e.Method). y.method == m) (class_methods x)
