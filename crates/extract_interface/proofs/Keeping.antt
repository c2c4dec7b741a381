-- The question whether the program with the created file keeps its behaviour.
use Rattle.std.proofs.Common.{◌≡◌, ℕ, ◌+◌, Bool, List, Result, Ok, Err, IfOk, subst}
use Rattle.std.specs.Prelude.{IsTrue}
use Rattle.java_tree.specs.declared.fault.NoMemory.{NoMemory}
use Rattle.class_world.specs.declared.world.World.{World}
use Rattle.member_table.specs.declared.members.Members.{Members}
use Rattle.running_code.specs.declared.running.Running.{Running}
use Rattle.running_code.specs.Running.{IsMadeOf}
use Rattle.kept_behaviour.specs.declared.maps.Inserted.{Inserted}
use Rattle.kept_behaviour.specs.Kept.{KeepsWith}
use Rattle.generalize_declared.specs.declared.asked.CheckedSource.{CheckedSource}
use Rattle.extract_interface.specs.Plans.{KeepsCreated, with_created}

module _ (w : World) (s : CheckedSource) (created : List ℕ) (texts all : List (List ℕ)) (old : Running) (members : Members) (inserted : Inserted)
    (made : IsMadeOf old w s.names.now s.core.now members) (are : all ≡ with_created s.users created texts) where
  pub keeps : (r : Result Bool NoMemory) → IfOk r (λ b. IsTrue b → KeepsWith old all (s.users + 1) inserted) → IfOk r (λ b. IsTrue b → KeepsCreated w s created texts)
  keeps (Err e) h = h
  keeps (Ok b) h = λ yes. record {
    old = old;
    members = members;
    is_old = made;
    inserted = inserted;
    keeps = subst (λ (it : List (List ℕ)). KeepsWith old it (s.users + 1) inserted) are (h yes);
  }
