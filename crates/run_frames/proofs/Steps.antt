-- What a step leads to, said in another way.
use Rattle.std.proofs.Common.{◌≡◌, Result, Ok, Err, IfOk, ap, ◌∙◌}

-- what comes of the run after it is what comes of b, where that is what comes of a
pub ok_as : {A E X Y : Type 0} (r : Result A E) (f : A → Y) (g : X → Y) (a b : X) → a ≡ b → IfOk r (λ x. f x ≡ g a) → IfOk r (λ x. f x ≡ g b)
ok_as (Ok x) f g a b e h = h ∙ ap g e
ok_as (Err x) f g a b e h = tt
