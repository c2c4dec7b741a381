-- Answers, where they are Ok.
use Rattle.std.proofs.Common.{◌≡◌, Result, Ok, Err, ◌∙◌}
use Rattle.std.specs.Prelude.{OnOk}

-- a call that is the whole
pub whole : {A E S : Type 0} (r : Result A E) (new a b : S) → a ≡ b → OnOk r (new ≡ a) → OnOk r (new ≡ b)
whole (Ok x) new a b e h = h ∙ e
whole (Err x) new a b e h = h
