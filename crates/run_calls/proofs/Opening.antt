-- What comes of a run in which a frame was opened, for a body or for the initialisers of a type.
use Rattle.std.proofs.Common.{◌≡◌, ℕ, [], ◌∷◌, Result, IfOk, refl, ap, ◌∙◌}
use Rattle.core_meaning.specs.declared.values.Value.{Value}
use Rattle.core_meaning.specs.declared.values.Value.TheVariants as v
use Rattle.core_meaning.specs.declared.values.Progress.TheVariants as progress
use Rattle.core_meaning.specs.declared.values.Frame.{Frame}
use Rattle.core_meaning.specs.Outcome.{Outcome, Gives, Threw, Bound, leave}
use Rattle.core_meaning.specs.State.{with_entered, with_frame, with_progress}
use Rattle.core_meaning.specs.Code.{Body, Code, superclass}
use Rattle.core_meaning.specs.Calls.{body, entered_with, initialised, place_at, settled}
use Rattle.run_frames.specs.declared.focus.Focus.{Focus}
use Rattle.run_frames.specs.declared.run.Run.{Run}
use Rattle.run_frames.specs.declared.waits.Waits.TheVariants as w
use Rattle.run_frames.specs.Frames.{nothing, nothings, valued}
use Rattle.run_frames.specs.Runs.{comes, place_of, whole}
use Rattle.run_frames.proofs.Steps.{ok_as}
use Rattle.run_calls.specs.Opened.{body_in, given_behind, opened}

leave_valued : (f : Frame) (o : Outcome Value) → leave f (valued o) ≡ valued (leave f o)
leave_valued f (Gives a s) = refl
leave_valued f (Threw k s) = refl
leave_valued f (Bound s) = refl

pub opened_leads : {E : Type 0} (k : Code) (d j m : ℕ) (b : Body) (f : Frame) (r : Result Focus E) (old mid new : Run)
    → mid ≡ opened d f j (record old { state = with_entered m old.state })
    → IfOk r (λ x. whole k new x ≡ comes k mid (valued (body (place_of k mid) b mid.state)))
    → IfOk r (λ x. whole k new x ≡ comes k old (valued (body_in (place_at k d j) m b f old.state)))
opened_leads k d j m b f r old mid new is h =
    ok_as r (whole k new) (λ o. o) (comes k mid (valued (body (place_of k mid) b mid.state))) (comes k old (valued (body_in (place_at k d j) m b f old.state)))
    (ap (λ t. comes k t (valued (body (place_of k t) b t.state))) is
    ∙ ap (comes k old) (leave_valued old.state.frame (body (place_at k d j) b (with_frame f (with_entered m old.state))))) h

settle_left : (c : Code) (d e j k : ℕ) (f : Frame) (o : Outcome (Unit {0}))
    → nothing (settled (place_at c d j) k (nothings (leave f (nothing o)))) ≡ nothing (settled (place_at c e k) k (leave f o))
settle_left c d e j k f (Gives u s) = refl
settle_left c d e j k f (Threw x s) = refl
settle_left c d e j k f (Bound s) = refl

-- the same for the initialisers of a type
pub started_leads : {E : Type 0} (k : Code) (d j : ℕ) (r : Result Focus E) (old mid new : Run)
    → mid ≡ opened d (entered_with v.Null []) j (record old { state = with_progress j progress.Running old.state; stack = w.Settle j ∷ old.stack })
    → IfOk r (λ x. whole k new x ≡ comes k mid (nothing (given_behind (place_of k mid) (superclass k.world j) j mid.state)))
    → IfOk r (λ x. whole k new x ≡ comes k old (nothing (initialised (place_at k d j) j old.state)))
started_leads k d j r old mid new is h =
    let p = place_at k d j in
    let above = superclass k.world j in
    let s = with_progress j progress.Running old.state in
    ok_as r (whole k new) (λ o. o) (comes k mid (nothing (given_behind (place_of k mid) above j mid.state))) (comes k old (nothing (initialised p j old.state)))
    (ap (λ t. comes k t (nothing (given_behind (place_of k t) above j t.state))) is
    ∙ ap (comes k old) (settle_left k old.depth d old.class j old.state.frame (given_behind p above j (with_frame (entered_with v.Null []) s)))) h
