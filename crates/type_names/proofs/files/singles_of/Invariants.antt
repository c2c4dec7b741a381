use Rattle.std.proofs.Common.{◌≡◌, ℕ, List, Some, nat_eq, take}
use Rattle.std.specs.List.{position_from}
use Rattle.std.specs.HashMap.{get}
use Rattle.type_names.specs.Known.{KnownType, File}
use Rattle.type_names.specs.Paths.{number_in}
use Rattle.type_names.specs.Tables.{is_named_by, HoldsTypes}
use Rattle.type_names.proofs.files.singles_of.Given as goal

abbrev pub invariant-loop-import : goal.invariant-loop-import
invariant-loop-import l = (ts : List KnownType) (f : File) → HoldsTypes l.packages l.firsts ts → number_in l.packages f.unit.«package» ≡ Some l.home.«package» → l.home.user ≡ f.user
    → (x : ℕ) → get nat_eq l.singles x ≡ position_from (is_named_by f (take l.import-index l.imports) x) 0 ts
