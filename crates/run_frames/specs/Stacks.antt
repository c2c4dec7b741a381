-- What taking the top off a stack does.
use Rattle.std.specs.Prelude.{◌≡◌, List, [], ◌∷◌, Option, Some, None}

abbrev pub Popped : {T : Type 0} → Option T → (old new : List T) → Type 0
Popped None old new = (old ≡ []) × (new ≡ [])
Popped (Some x) old new = old ≡ x ∷ new
