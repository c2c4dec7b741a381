-- Ways put together.
use Rattle.std.proofs.Common.{◌≡◌, ℕ, ◌<◌, List, inl, inr, subst, sym}
use Rattle.std.specs.Prelude.{length}
use Rattle.type_reach.specs.Reach.{IsEdge, Leads, step, further}
use Rattle.type_reach.specs.Sources.{HasTarget}
use Rattle.type_reach.specs.Paths.{Ways}

pub edge_of : (g : List (List ℕ)) (a b : ℕ) → HasTarget g a b → b < length g → IsEdge g a b
edge_of g a b h lt = (h.0, h.1, h.2, lt)

pub joined : {g : List (List ℕ)} {a m b : ℕ} → Leads g a m → Leads g m b → Leads g a b
joined (step e) w = further e w
joined (further e v) w = further e (joined v w)

pub behind : (g : List (List ℕ)) (a m b : ℕ) → Leads g a m → Ways g m b → Leads g a b
behind g a m b v (inl e) = subst (λ x. Leads g a x) e v
behind g a m b v (inr w) = joined v w

pub before : (g : List (List ℕ)) (a m b : ℕ) → Ways g a m → Leads g m b → Leads g a b
before g a m b (inl e) w = subst (λ x. Leads g x b) (sym e) w
before g a m b (inr v) w = joined v w

-- a way between two that are not one
pub apart : (g : List (List ℕ)) (a b : ℕ) → Ways g a b → (a ≡ b → ⊥) → Leads g a b
apart g a b (inl e) other = absurd (other e)
apart g a b (inr w) other = w

-- the last edge of a way is put first in what it leads to: what is closed under edges holds a way
pub along : (g : List (List ℕ)) (P : ℕ → Type 0) → ((a b : ℕ) → IsEdge g a b → P a → P b) → {a b : ℕ} → Leads g a b → P a → P b
along g P closed (step {a = a} {b = b} e) h = closed a b e h
along g P closed (further {a = a} {m = m} e w) h = along g P closed w (closed a m e h)

pub against : (g : List (List ℕ)) (P : ℕ → Type 0) → ((a b : ℕ) → IsEdge g a b → P b → P a) → {a b : ℕ} → Leads g a b → P b → P a
against g P closed (step {a = a} {b = b} e) h = closed a b e h
against g P closed (further {a = a} {m = m} e w) h = closed a m e (against g P closed w h)
