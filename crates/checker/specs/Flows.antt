-- What a program whose types hold breaks on flow.
use Rattle.std.specs.Prelude.{◌≡◌, ℕ, Bool, length, Option, Some, None, Result, Ok, Err}
use Rattle.class_world.specs.declared.world.World.{World}
use Rattle.class_world.specs.declared.world.JavaType.{JavaType}
use Rattle.java_core.specs.Plain as core
use Rattle.java_core.specs.View.{program_plain}
use Rattle.type_facts.specs.declared.questions.Questions.{Questions}
use Rattle.type_facts.specs.Facts.{Facts}
use Rattle.reachability.specs.declared.flaw.Flaw.{Flaw}
use Rattle.reachability.specs.Flaws.{earlier}
use Rattle.reachability.specs.Reached.{unreached}
use Rattle.definite_assignment.specs.Bodies.{unassigned}
use Rattle.thrown_exceptions.specs.Thrown.{IsOrder, unhandled}
use Rattle.unchecked_ops.specs.Casting.{AreCasts}
use Rattle.unchecked_ops.specs.Programs.{AreFileFacts, program_ops}
use Rattle.checker.specs.declared.check.CheckedProgram.{CheckedProgram}
use Rattle.checker.specs.declared.fault.CheckFault.{CheckFault}
use Rattle.checker.specs.declared.fault.CheckFault.TheVariants as fault

-- the first of F1 to F12, by node and then by number
abbrev pub first_flaw : World → (below : JavaType → JavaType → Bool) → core.Program → Option Flaw
first_flaw w below x = earlier (unreached x) (earlier (unassigned w x) (unhandled w below x))

-- this is the first broken rule on flow, if there is one
abbrev pub IsFlow : World → core.Program → Option Flaw → Type 0
IsFlow w x first = (below : JavaType → JavaType → Bool) → IsOrder w below → first ≡ first_flaw w below x

-- what is said of a program whose types hold, by the facts of its files
abbrev pub IsJudged : Questions → core.Program → Result CheckedProgram CheckFault → Type 0
IsJudged q x (Ok c) = (program_plain c.core ≡ x) × IsFlow q.world.now x None
    × ((fs : ℕ → Facts) → AreFileFacts q (length x.files) fs → (casts : JavaType → JavaType → Bool) → AreCasts q.world.now casts → c.operations ≡ program_ops fs casts x)
IsJudged q x (Err (fault.Flow node rule)) = IsFlow q.world.now x (Some (record { node = node; rule = rule }))
IsJudged q x (Err (fault.Type node rule)) = ⊥
IsJudged q x (Err fault.NoMemory) = Unit {0}
