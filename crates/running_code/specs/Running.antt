-- What a running program is, and what its look-ups say.
use Rattle.std.specs.Prelude.{◌≡◌, ℕ, List, ◌++◌, Result, IfOk, OnOk}
use Rattle.class_world.specs.declared.world.World.{World}
use Rattle.class_world.specs.Overriding.{IsSuperclass}
use Rattle.class_world.specs.Sound.{IsSound}
use Rattle.java_core.specs.declared.program.CoreProgram.{CoreProgram}
use Rattle.java_core.specs.View.{program_plain}
use Rattle.member_table.specs.declared.members.Members.{Members}
use Rattle.member_table.specs.Table.{HoldsMembers}
use Rattle.core_meaning.specs.Code.{Code, IsTold}
use Rattle.running_code.specs.declared.running.Running.{Running}
use Rattle.running_code.specs.Entries.{AreClasses}
use Rattle.running_code.specs.Types.{AreTypes}

-- no class has two superclasses (JLS 8.1.4)
abbrev pub HaveOneSuperclass : World → Type 0
HaveOneSuperclass w = (c s t : ℕ) → IsSuperclass w c s → IsSuperclass w c t → s ≡ t

-- what a running program is told; without the last the method that runs would not be one alone
pub record IsCode (g : Running) (c : Code) : Type 0 where
  pub world : c.world ≡ g.world.now
  pub names : c.names ≡ g.names.now
  pub core : c.core ≡ program_plain g.core.now
  pub told : IsTold c
  pub single : HaveOneSuperclass g.world.now

-- what a look-up says; nothing is said where memory ran out

abbrev pub Tells : {A : Type 0} → Running → A → (Code → A) → Type 0
Tells g r made = (c : Code) → IsCode g c → r ≡ made c

abbrev pub Makes : {A E : Type 0} → Running → Result A E → (Code → A) → Type 0
Makes g r made = (c : Code) → IsCode g c → IfOk r (λ x. x ≡ made c)

abbrev pub Adds : {A E : Type 0} → Running → Result A E → (old new : List ℕ) → (Code → List ℕ) → Type 0
Adds g r old new made = (c : Code) → IsCode g c → OnOk r (new ≡ old ++ made c)

-- the tables are those of the program
pub record IsReady (g : Running) : Type 0 where
  pub sound : IsSound g.world.now
  pub members : HoldsMembers g.world.now g.members.now
  pub classes : AreClasses (program_plain g.core.now) g.classes
  pub types : AreTypes g.world.now g.types

abbrev pub IsMadeOf : Running → World → List (List ℕ) → CoreProgram → Members → Type 0
IsMadeOf g w names core members = (g.world.now ≡ w) × (g.names.now ≡ names) × (g.core.now ≡ core) × (g.members.now ≡ members)
