use Rattle.std.proofs.Common.{◌≡◌, ℕ, List, Some, nat_eq, take}
use Rattle.std.specs.Prelude.{slice_get}
use Rattle.std.specs.List.{position_from}
use Rattle.std.specs.HashSet.{contains}
use Rattle.java_tree.specs.declared.tree.Name.{Name}
use Rattle.type_names.specs.Known.{KnownType, File}
use Rattle.type_names.specs.Paths.{number_in}
use Rattle.type_names.specs.Tables.{is_open_both, HoldsTypes}
use Rattle.type_names.proofs.table.first_in.Given as goal

abbrev pub invariant-loop-package : goal.invariant-loop-package
invariant-loop-package l = (ps : List (List Name)) (ts : List KnownType) (f : File) → HoldsTypes ps l.firsts ts → number_in ps f.unit.«package» ≡ Some l.home.«package» → l.home.user ≡ f.user
    → ((k p : ℕ) → slice_get l.packages k ≡ Some p → (path : List Name) × (number_in ps path ≡ Some p))
    → l.first ≡ position_from (is_open_both f ps (contains nat_eq l.seen) (take l.package-index l.packages) l.name.0) 0 ts
