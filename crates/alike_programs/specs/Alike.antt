-- What is told of two programs, for every code that is told of them.
use Rattle.std.specs.Prelude.{◌≡◌, ℕ, ◌<◌, Bool, Some, length}
use Rattle.core_meaning.specs.Code.{Code, body_of, class_at, class_fields}
use Rattle.core_meaning.specs.Runs.{all_fields}
use Rattle.running_code.specs.declared.running.Running.{Running}
use Rattle.running_code.specs.Running.{IsCode}
use Rattle.program_maps.specs.Ways.{Ways}
use Rattle.program_maps.specs.Trees.{OptBodyAlike, FieldsAlike}
use Rattle.program_maps.specs.Correspond.{method_owner}
use Rattle.program_maps.specs.Behave.{BehaveAlike}
use Rattle.program_maps.specs.Pairs.{Pair}
use Rattle.java_core.specs.View.{program_plain}
use Rattle.alike_programs.specs.Known.{AreKnownIn}

abbrev pub AlikeTold : (old new : Running) → Ways → (strict : Bool) → Type 0
AlikeTold g g' φ strict = (c c' : Code) → IsCode g c → IsCode g' c' → BehaveAlike φ strict c c'

abbrev pub BodyTold : Pair → (old new : Running) → (method : ℕ) → Type 0
BodyTold p g g' m = (c c' : Code) → IsCode g c → IsCode g' c' → (k : ℕ) → method_owner c m ≡ Some k
    → OptBodyAlike p (body_of c k m) (body_of c' (p.ways.types k) (p.ways.methods m))

abbrev pub ClassFieldsTold : Pair → (old new : Running) → (class : ℕ) → Type 0
ClassFieldsTold p g g' k = (c c' : Code) → IsCode g c → IsCode g' c'
    → FieldsAlike p (class_fields (class_at c k)) (class_fields (class_at c' (p.ways.types k)))

abbrev pub AllFieldsTold : Pair → (old new : Running) → Type 0
AllFieldsTold p g g' = (c c' : Code) → IsCode g c → IsCode g' c' → FieldsAlike p (all_fields c) (all_fields c')

abbrev pub AreBodiesBelow : Pair → (old new : Running) → (n : ℕ) → Type 0
AreBodiesBelow p g g' n = (m : ℕ) → m < n → BodyTold p g g' m

abbrev pub AreFieldsBelow : Pair → (old new : Running) → (n : ℕ) → Type 0
AreFieldsBelow p g g' n = (k : ℕ) → k < n → ClassFieldsTold p g g' k

-- the classes of its core have numbers of its world
abbrev pub KnowsClasses : Running → Type 0
KnowsClasses g = AreKnownIn (length g.world.now.types) (program_plain g.core.now).files
