-- That a check says something, and one thing alone.
use Rattle.std.specs.Prelude.{◌≡◌, ℕ, Bool, Option}
use Rattle.class_world.specs.declared.world.World.{World}
use Rattle.class_world.specs.declared.world.JavaType.{JavaType}
use Rattle.class_world.specs.Sound.{IsSound}
use Rattle.decl_table.specs.Program.{Program}
use Rattle.type_facts.specs.Facts.{Facts}
use Rattle.type_facts.specs.Laws.{IsDecided}
use Rattle.java_core.specs.Plain as core
use Rattle.checked.specs.Checked.{Checked}
use Rattle.reachability.specs.declared.flaw.Flaw.{Flaw}
use Rattle.thrown_exceptions.specs.Thrown.{IsOrder}
use Rattle.checker.specs.Checking.{AreAllFacts, IsChecked}
use Rattle.checker.specs.Flows.{IsFlow}

abbrev pub HaveFacts : Type 0
HaveFacts = (p : Program) (w : World) → IsDecided w → IsSound w → (fs : ℕ → Facts) × AreAllFacts p w fs

-- which types are below which
abbrev pub HasOrder : Type 0
HasOrder = (w : World) → IsDecided w → (below : JavaType → JavaType → Bool) × IsOrder w below

abbrev pub IsOneCheck : Type 0
IsOneCheck = (p : Program) (w : World) (c d : Checked core.Program) → IsDecided w → IsSound w → IsChecked p w c → IsChecked p w d → c ≡ d

abbrev pub IsOneFlow : Type 0
IsOneFlow = (w : World) (x : core.Program) (a b : Option Flaw) → IsDecided w → IsFlow w x a → IsFlow w x b → a ≡ b
