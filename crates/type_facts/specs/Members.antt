-- Members as a type has them: what their declared types are there (JLS 4.5.2, 4.8).
use Rattle.std.specs.Prelude.{ℕ, Bool, true, false, [], ◌∷◌, Option, Some, None, slice_get, nat_lt, if◌then◌else◌}
use Rattle.java_tree.specs.declared.tree.Node.{Node}
use Rattle.class_world.specs.declared.world.World.{World}
use Rattle.class_world.specs.declared.world.TypeInfo.{TypeInfo}
use Rattle.class_world.specs.declared.world.JavaType.{JavaType, out-JavaType}
use Rattle.class_world.specs.declared.world.JavaType.TheOpen as form
use Rattle.class_world.specs.declared.world.JavaType.TheOpen.{JavaType-F}
use Rattle.class_world.specs.Types.{erased, substitute}
use Rattle.java_core.specs.Plain as p
use Rattle.type_facts.specs.declared.seen.Seen.{Seen}
use Rattle.type_facts.specs.declared.seen.Seen.TheVariants as seen
use Rattle.type_facts.specs.Facts.{Facts}

abbrev pub params_of : Option TypeInfo → ℕ
params_of None = 0
params_of (Some info) = info.params

-- how many type parameters the class of this number declares
abbrev pub params_at : World → ℕ → ℕ
params_at w c = params_of (slice_get w.types c)

-- ---- declared types, as a type sees them

abbrev pub through_form : JavaType-F JavaType → (params : ℕ) → Seen
through_form (form.Class c []) n = if nat_lt 0 n then seen.Erased else seen.Put []
through_form (form.Class c (x ∷ xs)) n = seen.Put (x ∷ xs)
through_form _ n = seen.Put []

-- Through this supertype, whose class declares n parameters: erased where it is raw.
abbrev pub through : Option JavaType → (params : ℕ) → Seen
through None n = seen.Put []
through (Some t) n = through_form (out-JavaType t) n

-- How t sees what the class o declares. A static member is seen as it is declared.
abbrev pub seen_by : Facts → JavaType → (o : ℕ) → (is_static : Bool) → Seen
seen_by f t o true = seen.Put []
seen_by f t o false = through (f.super_as t o) (params_at f.world o)

abbrev pub as_seen : Seen → JavaType → JavaType
as_seen seen.Erased t = erased t
as_seen (seen.Put args) t = substitute args t

-- A value of a member of this declared type, seen as t: cast to t's erasure where the declared type's is not below it.
abbrev pub accessed : Facts → Node → (declared t : JavaType) → p.Form → p.Expr
accessed f n d t x = if f.sub (erased d) (erased t) then p.At n t x else p.At n t (p.Implied (p.At n (erased d) x))
