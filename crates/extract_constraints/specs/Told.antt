-- What the constraints are asked of, and links.
use Rattle.std.specs.Prelude.{◌≡◌, ℕ, Bool, true, false, List, [], ◌∷◌, ◌++◌, Option, Some, None, Result, IfOk}
use Rattle.type_facts.specs.Facts.{AreFacts, Facts}
use Rattle.type_facts.specs.declared.questions.Questions.{Questions}
use Rattle.type_constraints.specs.Asked.{AreTies, Ties}
use Rattle.kept_places.specs.declared.links.Kind.{Kind}
use Rattle.kept_places.specs.declared.links.Link.{Link}
use Rattle.marked_types.specs.Read.{Reading, reading_of}
use Rattle.extract_constraints.specs.declared.place.Place.{Place}

-- what tells a program: its facts, and which methods override which, with their families and groups
pub record Told : Type 0 where
  pub facts : Facts
  pub ties : Ties

pub record AreTold (q : Questions) (k : Told) : Type 0 where
  pub facts : AreFacts q k.facts
  pub ties : AreTies q.world.now k.ties

-- where code stands: what types are read by, the class's methods that the new interface gets, and the class and the method around
pub record Where : Type 0 where
  pub reading : Reading
  pub methods : List ℕ
  pub owner : ℕ
  pub method : Option ℕ

abbrev pub where_of : Place → Where
where_of p = record { reading = reading_of p.reader; methods = p.methods.now; owner = p.owner; method = p.method }

-- ---- what is said of a call, whatever tells the program

abbrev pub Tells : {A : Type 0} → Place → A → (Told → Where → A) → Type 0
Tells p r made = (k : Told) → AreTold p.reader.q k → r ≡ made k (where_of p)

-- nothing is said where memory ran out
abbrev pub Gives : {A E : Type 0} → Place → Result A E → (Told → Where → A) → Type 0
Gives p r made = (k : Told) → AreTold p.reader.q k → IfOk r (λ x. x ≡ made k (where_of p))

-- ---- links, each put behind those before it

abbrev pub linked : Link → List Link → List Link
linked l ls = ls ++ (l ∷ [])

-- the place cannot change
abbrev pub need : (place node : ℕ) → Kind → List Link → List Link
need p n kind ls = linked (record { from = p; node = n; kind = kind; to = None }) ls

-- the place changes another one
abbrev pub step : (place to node : ℕ) → Kind → List Link → List Link
step p q n kind ls = linked (record { from = p; node = n; kind = kind; to = Some q }) ls

abbrev pub need_all : (places : List ℕ) → (node : ℕ) → Kind → List Link → List Link
need_all [] n kind ls = ls
need_all (p ∷ ps) n kind ls = need_all ps n kind (need p n kind ls)

abbrev pub need_maybe : Option ℕ → (node : ℕ) → Kind → List Link → List Link
need_maybe None n kind ls = ls
need_maybe (Some p) n kind ls = need p n kind ls

abbrev pub need_unless : (met : Bool) → (place node : ℕ) → Kind → List Link → List Link
need_unless true p n kind ls = ls
need_unless false p n kind ls = need p n kind ls
