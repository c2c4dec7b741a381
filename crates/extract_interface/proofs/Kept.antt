-- The numbers of kept places ascend.
use Rattle.std.proofs.Common.{zero, suc, List, [], ◌∷◌, map, add-one, arith}
use Rattle.std.specs.List.Sorted.{IsStrictlyIncreasing}
use Rattle.kept_places.specs.declared.links.Kept.{Kept}
use Rattle.kept_places.specs.Kept.{IsAscending}
use Rattle.extract_interface.specs.Plans.{place_of}

pub ascending : (ks : List Kept) → IsAscending ks → IsStrictlyIncreasing (map place_of ks)
ascending [] h k low = absurd (omega (arith, low))
ascending (a ∷ []) h k low = absurd (omega (arith, low))
ascending (a ∷ b ∷ ks) (first, more) zero low = first 0 a (omega arith)
ascending (a ∷ b ∷ ks) (first, more) (suc k) low = let rest = ascending (b ∷ ks) more k (omega (arith, low)) in rw add-one (rw add-one at rest)
