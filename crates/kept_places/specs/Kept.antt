-- Links between places, and the places that they keep.
use Rattle.std.specs.Prelude.{◌≡◌, ℕ, ◌<◌, ◌≤◌, ◌↔◌, ◌==◌, nat_le, nat_lt, if◌then◌else◌, unwrap_or, Bool, IsTrue, Option, Some, None, List, [], ◌∷◌, length, map, All, Contains}
use Rattle.kept_places.specs.declared.links.Kind.{Kind}
use Rattle.kept_places.specs.declared.links.Kind.TheVariants as kind
use Rattle.kept_places.specs.declared.links.Link.{Link}
use Rattle.kept_places.specs.declared.links.Kept.{Kept}

-- ---- which places may change

-- what a link leads to is in the set: nothing is where it is a need
abbrev pub LeadsInto : Option ℕ → (ℕ → Bool) → Type 0
LeadsInto None s = ⊥
LeadsInto (Some p) s = IsTrue (s p)

-- No link from a member is a need, and each step from a member leads to a member.
abbrev pub IsClosed : List Link → (ℕ → Bool) → Type 0
IsClosed links s = (l : Link) → Contains links l → IsTrue (s l.from) → LeadsInto l.to s

-- some closed set holds the place
abbrev pub IsAllowed : List Link → ℕ → Type 0
IsAllowed links p = (s : ℕ → Bool) × IsClosed links s × IsTrue (s p)

-- a link leads from the place
abbrev pub IsFrom : List Link → ℕ → Type 0
IsFrom links p = (l : Link) × Contains links l × (l.from ≡ p)

-- ---- chains

-- The links lead from a place, each to the place of the next one, and the last one is a need. Behind a need there are none.
abbrev pub IsChain : List Link → Option ℕ → List Link → Type 0
IsChain links None [] = Unit {0}
IsChain links None (l ∷ ls) = ⊥
IsChain links (Some p) [] = ⊥
IsChain links (Some p) (l ∷ ls) = Contains links l × (l.from ≡ p) × IsChain links l.to ls

abbrev pub HasChain : List Link → ℕ → Type 0
HasChain links p = (ls : List Link) × IsChain links (Some p) ls

-- a chain of the place, and none of its chains is shorter
abbrev pub IsShortest : List Link → ℕ → List Link → Type 0
IsShortest links p ls = IsChain links (Some p) ls × ((ms : List Link) → IsChain links (Some p) ms → length ls ≤ length ms)

-- ---- the order of links

abbrev pub rank : Kind → ℕ
rank kind.Assign = 0
rank kind.Member = 1
rank kind.Field = 2
rank kind.Override = 3
rank kind.Overload = 4
rank kind.Result = 5
rank kind.Throws = 6
rank kind.Arm = 7
rank kind.Argument = 8

-- The same or before, by node, kind and next place. Of two links that begin shortest chains of one place both have a next place, or none has.
abbrev pub is_not_after : Link → Link → Bool
is_not_after a b =
    if a.node == b.node
    then (if rank a.kind == rank b.kind then nat_le (unwrap_or a.to 0) (unwrap_or b.to 0) else nat_lt (rank a.kind) (rank b.kind))
    else nat_lt a.node b.node

-- ---- the answer

-- the link that is told of a kept place
abbrev pub cause : Kept → Link
cause k = record { from = k.place; node = k.node; kind = k.kind; to = k.next }

abbrev pub IsListed : List Kept → ℕ → Type 0
IsListed ks p = (k : Kept) × Contains ks k × (k.place ≡ p)

abbrev pub IsAscending : List Kept → Type 0
IsAscending [] = Unit {0}
IsAscending (k ∷ ks) = All (λ m. k.place < m.place) ks × IsAscending ks

-- The causes, followed from place to place, are a shortest chain, and no shortest chain of the place begins with a link before its cause.
pub record IsCaused (links : List Link) (ks : List Kept) (k : Kept) : Type 0 where
  pub shortest : (ls : List Link) × IsChain (map cause ks) k.next ls × IsShortest links k.place (cause k ∷ ls)
  pub least : (l : Link) (ls : List Link) → IsShortest links k.place (l ∷ ls) → IsTrue (is_not_after (cause k) l)

-- The places that links keep, in ascending order: exactly those from which a link leads and which are not allowed, which are those with a chain. All others are allowed.
pub record AreKept (links : List Link) (ks : List Kept) : Type 0 where
  pub ascending : IsAscending ks
  pub kept : (p : ℕ) → IsListed ks p ↔ (IsFrom links p × (IsAllowed links p → ⊥))
  pub allowed : (p : ℕ) → (IsListed ks p → ⊥) → IsAllowed links p
  pub chained : (p : ℕ) → IsListed ks p ↔ HasChain links p
  pub caused : (k : Kept) → Contains ks k → IsCaused links ks k
