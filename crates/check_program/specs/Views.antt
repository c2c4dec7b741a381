-- The code's choices, as the definitions have them.
use Rattle.check_program.specs.declared.methods.Beginning.{Beginning}
use Rattle.check_program.specs.declared.methods.Beginning.TheVariants as b
use Rattle.std.specs.Prelude.{map}
use Rattle.java_core.specs.View.{written}
use Rattle.check_program.specs.declared.classes.Heading.{Heading}
use Rattle.check_program.specs.Classes as spec

abbrev pub beginning : Beginning → spec.Beginning
beginning b.WithThis = spec.WithThis
beginning b.WithSuper = spec.WithSuper
beginning b.WithNeither = spec.WithNeither

abbrev pub heading : Heading → spec.Heading
heading h = record { default = h.default; extends = map written h.extends; implements = map written h.implements }
