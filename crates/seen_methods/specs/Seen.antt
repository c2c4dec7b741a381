-- What a declared type sees of a method of a type above it (JLS 4.5.2, 8.4.2), beside the parameter types (class_world's Signatures).
use Rattle.std.specs.Prelude.{◌≡◌, ℕ, List, Option, Some, None}
use Rattle.std.specs.Option.{option_map}
use Rattle.class_world.specs.declared.world.World.{World}
use Rattle.class_world.specs.declared.world.MethodInfo.{MethodInfo}
use Rattle.class_world.specs.declared.world.JavaType.{JavaType}
use Rattle.class_world.specs.Types.{substitute}
use Rattle.class_world.specs.Signatures.{IsMethod, IsSeenWith, HasParams}

-- the result of a method as the type c sees it; none for void
abbrev pub HasResult : World → ℕ → ℕ → Option JavaType → Type 0
HasResult w c m r = (info : MethodInfo) × IsMethod w m info × (args : List JavaType) × IsSeenWith w c info.owner args × (r ≡ option_map (substitute args) info.result)

-- what an answer says: this is it, or there is none
abbrev pub TellsParams : World → ℕ → ℕ → Option (List JavaType) → Type 0
TellsParams w c m None = (ps : List JavaType) → HasParams w c m ps → ⊥
TellsParams w c m (Some ps) = HasParams w c m ps × ((qs : List JavaType) → HasParams w c m qs → qs ≡ ps)

abbrev pub TellsResult : World → ℕ → ℕ → Option (Option JavaType) → Type 0
TellsResult w c m None = (r : Option JavaType) → HasResult w c m r → ⊥
TellsResult w c m (Some r) = HasResult w c m r × ((q : Option JavaType) → HasResult w c m q → q ≡ r)
