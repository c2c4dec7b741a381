-- Pieces one behind the other.
use Rattle.std.proofs.Common.{◌≡◌, ℕ, ap}
use Rattle.core_meaning.specs.declared.values.State.{State}
use Rattle.core_meaning.specs.declared.values.Value.{Value}
use Rattle.core_meaning.specs.Outcome.{Outcome, Gives, Threw, Bound, after, and_then}
use Rattle.run_frames.specs.declared.focus.Answer.{Answer}
use Rattle.run_frames.specs.Frames.{nothing, valued}

-- what came of a piece that gave something goes on
pub goes_on : (o : Outcome (Unit {0})) (f : State → Outcome (Unit {0})) (a : Answer) (s : State) → Gives a s ≡ nothing o → nothing (f s) ≡ nothing (and_then o (λ u t. f t))
goes_on (Gives u t) f a s e = ap (λ o. nothing (f (after o))) e
goes_on (Threw k t) f a s e = search e
goes_on (Bound t) f a s e = search e

pub threw_on : (o : Outcome (Unit {0})) (f : State → Outcome (Unit {0})) (k : ℕ) (s : State) → Threw k s ≡ nothing o → Threw k s ≡ nothing (and_then o (λ u t. f t))
threw_on (Gives u t) f k s e = search e
threw_on (Threw n t) f k s e = e
threw_on (Bound t) f k s e = search e

pub bound_on : (o : Outcome (Unit {0})) (f : State → Outcome (Unit {0})) (s : State) → Bound s ≡ nothing o → Bound s ≡ nothing (and_then o (λ u t. f t))
bound_on (Gives u t) f s e = search e
bound_on (Threw n t) f s e = search e
bound_on (Bound t) f s e = e

-- what came of a piece that gave something goes on to a value
pub valued_on : (o : Outcome (Unit {0})) (f : State → Outcome Value) (a : Answer) (s : State) → Gives a s ≡ nothing o → valued (f s) ≡ valued (and_then o (λ u t. f t))
valued_on (Gives u t) f a s e = ap (λ o. valued (f (after o))) e
valued_on (Threw k t) f a s e = search e
valued_on (Bound t) f a s e = search e
