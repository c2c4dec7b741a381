-- Calls and initialisations by the depth that is left, and outcomes that leave a frame.
use Rattle.std.proofs.Common.{◌≡◌, ◌≢◌, ℕ, zero, suc, ◌-◌, List, slice_get, refl, ap, arith}
use Rattle.class_world.specs.declared.world.MethodInfo.{MethodInfo}
use Rattle.core_meaning.specs.declared.values.Value.{Value}
use Rattle.core_meaning.specs.declared.values.Frame.{Frame}
use Rattle.core_meaning.specs.declared.values.State.{State}
use Rattle.core_meaning.specs.Outcome.{Bound, with_some}
use Rattle.core_meaning.specs.Code.{Body, Code}
use Rattle.core_meaning.specs.Calls.{by_progress, enter, entered_with, initialise, initialised, place_at}
use Rattle.core_meaning.specs.Variables.{Place}
use Rattle.run_frames.specs.Frames.{valued}
use Rattle.run_calls.specs.Opened.{body_in, entered_from, entered_in, entered_of, started_from}

pub enter_from : (c : Code) (d m : ℕ) (a : Value) (xs : List Value) (s : State)
    → enter c d m a xs s ≡ with_some (slice_get c.world.methods m) s (λ (i : MethodInfo). entered_of c d i.owner m (entered_with a xs) s)
enter_from c zero m a xs s = refl
enter_from c (suc d) m a xs s = refl

pub initialise_from : (c : Code) (d k : ℕ) (s : State) → initialise c d k s ≡ by_progress (slice_get s.progress k) (started_from c d k) s
initialise_from c zero k s = refl
initialise_from c (suc d) k s = refl

pub entered_less : (c : Code) (d k m : ℕ) (b : Body) (f : Frame) (s : State) → d ≢ zero → entered_from c d k m b f s ≡ entered_in (place_at c (d - 1) k) m b f s
entered_less c d k m b f s some = let e : d ≡ suc (d - 1) = omega (arith, some) in ap (λ n. entered_from c n k m b f s) e

pub started_less : (c : Code) (d k : ℕ) (s : State) → d ≢ zero → started_from c d k s ≡ initialised (place_at c (d - 1) k) k s
started_less c d k s some = let e : d ≡ suc (d - 1) = omega (arith, some) in ap (λ n. started_from c n k s) e

-- a step is taken and a body begun in a frame
pub entered_step : (p : Place) (m : ℕ) (b : Body) (f : Frame) (old new : State) → old ≡ record new { left = suc new.left }
    → valued (entered_in p m b f old) ≡ valued (body_in p m b f new)
entered_step p m b f old new e = ap (λ s. valued (entered_in p m b f s)) e

pub no_step : (p : Place) (m : ℕ) (b : Body) (f : Frame) (s : State) → s.left ≡ 0 → valued (entered_in p m b f s) ≡ Bound s
no_step p m b f s e = rw e refl
