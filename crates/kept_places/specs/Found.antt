-- What a search for chains has found, and when it is right.
use Rattle.std.specs.Prelude.{ℕ, ◌+◌, ◌==◌, ◌&&◌, ◌||◌, nat_lt, Bool, true, false, Option, Some, None, unwrap_or, List, [], ◌∷◌, slice_get}
use Rattle.std.specs.Option.{option_map}
use Rattle.kept_places.specs.declared.links.Link.{Link}
use Rattle.kept_places.specs.declared.links.Kept.{Kept}
use Rattle.kept_places.specs.declared.check.Chain.{Chain}
use Rattle.kept_places.specs.Kept.{is_not_after}

-- by place
abbrev pub chain_at : List (Option Chain) → ℕ → Option Chain
chain_at found p = unwrap_or (slice_get found p) None

-- one link more than behind the first one of a chain
abbrev pub behind_place : Option Chain → Option ℕ
behind_place None = None
behind_place (Some c) = Some (c.behind + 1)

-- how many links stand behind a link with this target, where it begins a chain
abbrev pub links_behind : List (Option Chain) → Option ℕ → Option ℕ
links_behind found None = Some 0
links_behind found (Some p) = behind_place (chain_at found p)

abbrev pub is_known_not_after : Option Link → Link → Bool
is_known_not_after None l = false
is_known_not_after (Some first) l = is_not_after first l

abbrev pub is_first_not_after : List Link → Chain → Link → Bool
is_first_not_after links c l = is_known_not_after (slice_get links c.first) l

-- the chain of the link's place, and how many links stand behind the link
abbrev pub fits : List Link → Link → Option Chain → Option ℕ → Bool
fits links l c None = true
fits links l None (Some n) = false
fits links l (Some c) (Some n) = nat_lt c.behind n || ((c.behind == n) && is_first_not_after links c l)

-- Where the link begins a chain, its place has one that is no longer and, if they are equally long, doesn't begin with a later link.
abbrev pub link_fits : List Link → List (Option Chain) → Link → Bool
link_fits links found l = fits links l (chain_at found l.from) (links_behind found l.to)

abbrev pub is_number : Option ℕ → ℕ → Bool
is_number None n = false
is_number (Some m) n = m == n

abbrev pub is_first : List (Option Chain) → ℕ → Chain → Option Link → Bool
is_first found p c None = false
is_first found p c (Some l) = (l.from == p) && is_number (links_behind found l.to) c.behind

-- The first link of the chain leads from this place, and begins a chain of this length.
abbrev pub chain_fits : List Link → List (Option Chain) → ℕ → Chain → Bool
chain_fits links found p c = is_first found p c (slice_get links c.first)

abbrev pub links_fit : List Link → List (Option Chain) → List Link → Bool
links_fit links found [] = true
links_fit links found (l ∷ ls) = link_fits links found l && links_fit links found ls

-- of the places from the one with this number on
abbrev pub chains_fit : List Link → List (Option Chain) → ℕ → List (Option Chain) → Bool
chains_fit links found p [] = true
chains_fit links found p (None ∷ cs) = chains_fit links found (p + 1) cs
chains_fit links found p (Some c ∷ cs) = chain_fits links found p c && chains_fit links found (p + 1) cs

abbrev pub told : Link → Kept
told l = record { place = l.from; node = l.node; kind = l.kind; next = l.to }

abbrev pub first_of : List Link → Option Chain → Option Link
first_of links None = None
first_of links (Some c) = slice_get links c.first

abbrev pub kept_at : List Link → Option Chain → Option Kept
kept_at links c = option_map told (first_of links c)

abbrev pub before : Option Kept → List Kept → List Kept
before None ks = ks
before (Some k) ks = k ∷ ks

abbrev pub kept_of : List Link → List (Option Chain) → List Kept
kept_of links [] = []
kept_of links (c ∷ cs) = before (kept_at links c) (kept_of links cs)
