-- The choice of a method or constructor (JLS 15.12.2): by subtyping alone, an unchecked conversion counts.
use Rattle.std.specs.Prelude.{Bool, true, false, not, ◌&&◌, ◌||◌, List, [], ◌∷◌, Option, Some, None, filter}
use Rattle.std.specs.List.{list_all}
use Rattle.class_world.specs.declared.world.JavaType.{JavaType}
use Rattle.type_facts.specs.Facts.{Facts}
use Rattle.method_choice.specs.declared.choice.Candidate.{Candidate}

-- whether R holds of the items at each place, and both are equally long
abbrev pub pairwise : (JavaType → JavaType → Bool) → List JavaType → List JavaType → Bool
pairwise R [] [] = true
pairwise R [] (y ∷ ys) = false
pairwise R (x ∷ xs) [] = false
pairwise R (x ∷ xs) (y ∷ ys) = R x y && pairwise R xs ys

-- parameters of these types take the arguments (15.12.2.2)
abbrev pub applies : Facts → (args : List JavaType) → Candidate → Bool
applies f args c = pairwise f.fits args c.params

-- each parameter type of the first is a subtype of the second's (15.12.2.5)
abbrev pub is_as_specific : Facts → Candidate → Candidate → Bool
is_as_specific f c d = pairwise f.sub c.params d.params

abbrev pub lone : List Candidate → Option Candidate
lone [] = None
lone (c ∷ []) = Some c
lone (c ∷ d ∷ cs) = None

-- one that was met before, and these
abbrev pub lone_after : Option Candidate → List Candidate → Option Candidate
lone_after None cs = lone cs
lone_after (Some c) [] = Some c
lone_after (Some c) (d ∷ cs) = None

-- the first is as specific as the second, where that takes the arguments
abbrev pub is_ahead : Facts → (args : List JavaType) → Candidate → Candidate → Bool
is_ahead f args c d = not (applies f args d) || is_as_specific f c d

abbrev pub is_most_specific : Facts → (args : List JavaType) → List Candidate → Candidate → Bool
is_most_specific f args cs c = list_all (is_ahead f args c) cs

-- it takes the arguments, and is as specific as each other candidate that does
abbrev pub is_best : Facts → (args : List JavaType) → List Candidate → Candidate → Bool
is_best f args cs c = applies f args c && is_most_specific f args cs c

-- the one candidate that is
abbrev pub chosen : Facts → (args : List JavaType) → List Candidate → Option Candidate
chosen f args cs = lone (filter (is_best f args cs) cs)
