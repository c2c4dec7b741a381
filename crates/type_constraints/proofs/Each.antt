-- What holds whatever tells the program.
use Rattle.type_facts.specs.Facts.{AreFacts, Facts}
use Rattle.type_constraints.specs.declared.place.Place.{Place}
use Rattle.type_constraints.specs.Asked.{AreTies, Asked, Ties, asked}

abbrev pub Each : Place → (Asked → Type 0) → Type 0
Each p P = (f : Facts) → AreFacts p.q f → (t : Ties) → AreTies p.q.world.now t → P (asked p f t)
