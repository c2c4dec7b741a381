-- What static fields have before the run, by number.
use Rattle.std.proofs.Common.{◌≡◌, ℕ, ◌+◌, zero, suc, Bool, true, false, List, [], ◌∷◌, Some, None, refl, sym, ap, ◌∙◌, subst, arith}
use Rattle.std.specs.Prelude.{slice_get, not, if◌then◌else◌}
use Rattle.std.specs.Option.{option_map}
use Rattle.class_world.specs.declared.world.World.{World}
use Rattle.class_world.specs.declared.world.FieldInfo.{FieldInfo}
use Rattle.type_kinds.specs.Members.{is_static_field}
use Rattle.core_meaning.specs.declared.values.Value.{Value}
use Rattle.core_meaning.specs.Code.{is_instance_field, is_static_at}
use Rattle.core_meaning.specs.Runs.{statics_from, first_static}
use Rattle.running_code.specs.declared.running.Running.{Running}
use Rattle.running_code.specs.Running.{Tells}
use Rattle.alike_tables.specs.Tables.{static_of, static_at}

from_number : (w : World) (n f : ℕ) (is : List FieldInfo) → slice_get (statics_from w n is) f ≡ option_map (static_of w (n + f)) (slice_get is f)
from_number w n f [] = refl
from_number w n zero (i ∷ is) = ap (λ k. Some (static_of w k i)) (omega arith)
from_number w n (suc f) (i ∷ is) = from_number w (n + 1) f is ∙ ap (λ k. option_map (static_of w k) (slice_get is f)) (omega arith)

pub static_is : (w : World) (f : ℕ) → static_at w f ≡ option_map (static_of w f) (slice_get w.fields f)
static_is w f = from_number w 0 f w.fields ∙ ap (λ k. option_map (static_of w k) (slice_get w.fields f)) (omega arith)

turned : (b s : Bool) (v : Value) → b ≡ not s → (if s then Some v else None) ≡ (if b then None else Some v)
turned true false v same = refl
turned false true v same = refl
turned true true v same = absurd (cc same)
turned false false v same = absurd (cc same)

static_by : (w : World) (f : ℕ) (i : FieldInfo) (b : Bool) → slice_get w.fields f ≡ Some i → b ≡ is_instance_field w f → static_at w f ≡ Some (if b then None else Some (first_static f i.ty))
static_by w f i b get is =
    static_is w f ∙ ap (option_map (static_of w f)) get
    ∙ ap (λ o. Some o) (turned b (is_static_field w i) (first_static f i.ty) (is ∙ ap (λ o. not (is_static_at w o)) get))

-- ---- as a running program looks it up

pub told_none : (g : Running) (f : ℕ) → slice_get g.world.now.fields f ≡ None → Tells g None (λ c. static_at c.world f)
told_none g f none code told = sym (ap (λ w. static_at w f) told.world ∙ static_is g.world.now f ∙ ap (option_map (static_of g.world.now f)) none)

told_some : (g : Running) (f : ℕ) (i : FieldInfo) (b : Bool) → slice_get g.world.now.fields f ≡ Some i → Tells g b (λ c. is_instance_field c.world f)
    → Tells g (Some (if b then None else Some (first_static f i.ty))) (λ c. static_at c.world f)
told_some g f i b get is code told =
    sym (ap (λ w. static_at w f) told.world ∙ static_by g.world.now f i b get (is code told ∙ ap (λ w. is_instance_field w f) told.world))

pub told_instance : (g : Running) (f : ℕ) (i : FieldInfo) (b : Bool) → slice_get g.world.now.fields f ≡ Some i → b ≡ true → Tells g b (λ c. is_instance_field c.world f)
    → Tells g (Some None) (λ c. static_at c.world f)
told_instance g f i true get holds is = told_some g f i true get is
told_instance g f i false get holds is = absurd (cc holds)

pub told_static : (g : Running) (f : ℕ) (i : FieldInfo) (b : Bool) (v : Value) → slice_get g.world.now.fields f ≡ Some i → b ≡ false → Tells g b (λ c. is_instance_field c.world f)
    → v ≡ first_static f i.ty → Tells g (Some (Some v)) (λ c. static_at c.world f)
told_static g f i false v get fails is same = subst (λ v. Tells g (Some (Some v)) (λ c. static_at c.world f)) (sym same) (told_some g f i false get is)
told_static g f i true v get fails is same = absurd (cc fails)
