-- Which methods take the place of which, and which a class has from both sides.
use Rattle.std.specs.Prelude.{ℕ, ◌↔◌, List, [], slice_get, unwrap_or}
use Rattle.std.specs.List.{Contains}
use Rattle.std.specs.List.Sorted.{IsStrictlyIncreasing}
use Rattle.class_world.specs.declared.world.World.{World}
use Rattle.class_world.specs.Overriding.{Replaces, MeetIn}
use Rattle.method_ties.specs.declared.Meeting.{Meeting}
use Rattle.method_ties.specs.declared.MethodTies.{MethodTies}
use Rattle.method_ties.specs.Sides.{IsOnce}

-- the methods whose place m takes
abbrev pub AreReplaced : World → ℕ → List ℕ → Type 0
AreReplaced w m ks = ((k : ℕ) → Contains ks k ↔ ((c : ℕ) × Replaces w c m k)) × IsStrictlyIncreasing ks

-- the pairs that c has from both sides with one signature
abbrev pub AreMeetings : World → ℕ → List Meeting → Type 0
AreMeetings w c ps = (m k : ℕ) → Contains ps (record { lower = m; upper = k }) ↔ MeetIn w c m k

abbrev pub replaced_in : MethodTies → ℕ → List ℕ
replaced_in t m = unwrap_or (slice_get t.replaced.items m) []

abbrev pub meetings_in : MethodTies → ℕ → List Meeting
meetings_in t c = unwrap_or (slice_get t.meetings.items c) []

pub record HoldsTies (w : World) (t : MethodTies) : Type 0 where
  pub replaced : (m : ℕ) → AreReplaced w m (replaced_in t m)
  pub meetings : (c : ℕ) → AreMeetings w c (meetings_in t c)
  pub once : (c : ℕ) → IsOnce (meetings_in t c)
