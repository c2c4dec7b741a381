-- Answers, where they are Ok.
use Rattle.std.proofs.Common.{◌≡◌, List, Result, Ok, Err, ◌∙◌}
use Rattle.std.specs.Prelude.{IfOk, OnOk}

pub ok_as : {A E : Type 0} (r : Result A E) (a b : A) → a ≡ b → IfOk r (λ x. x ≡ a) → IfOk r (λ x. x ≡ b)
ok_as (Ok x) a b e h = h ∙ e
ok_as (Err x) a b e h = h

pub put_as : {A E Y : Type 0} (r : Result A E) (out a b : List Y) → a ≡ b → OnOk r (out ≡ a) → OnOk r (out ≡ b)
put_as (Ok x) out a b e h = h ∙ e
put_as (Err x) out a b e h = h
