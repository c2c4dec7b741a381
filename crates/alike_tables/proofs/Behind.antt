-- Numbers that the map has no place for: no look-up finds anything in either program.
use Rattle.std.proofs.Common.{◌≡◌, ℕ, ◌+◌, ◌≤◌, [], map, length, None, sym, ap, ◌∙◌, arith}
use Rattle.std.specs.Prelude.{slice_get}
use Rattle.std.specs.Option.{option_map}
use Rattle.std.proofs.lemmas.Option.{slice_get_past, slice_get-map}
use Rattle.class_world.specs.declared.world.World.{World}
use Rattle.class_world.specs.declared.world.MethodInfo.{MethodInfo}
use Rattle.class_world.specs.declared.world.FieldInfo.{FieldInfo}
use Rattle.type_kinds.specs.Members.{field_at}
use Rattle.core_meaning.specs.Code.{Code, superclass_of, is_static_at, is_constant_at, first_held, new_object}
use Rattle.core_meaning.specs.Classes.{full_name_of}
use Rattle.core_meaning.specs.Runs.{first_progress, main_among}
use Rattle.std.specs.Prelude.{not}
use Rattle.program_maps.specs.declared.numbers.Numbers.{Numbers}
use Rattle.program_maps.specs.Ways.{Ways, goes_to, or_behind}
use Rattle.alike_tables.specs.Tables.{HasPlaces, IsTypeKept, IsMethodKept, IsFieldKept, held_of, moved_held, progress_of, static_of, static_at}
use Rattle.alike_tables.proofs.Objects.{no_fields}
use Rattle.alike_tables.proofs.Firsts.{static_is}

pub goes_behind : (x : Numbers) (n n' k : ℕ) → HasPlaces x n n' → n ≤ k → n' ≤ goes_to x k
goes_behind x n n' k has past =
    let to = has.0 in
    let back = has.1 in
    let goes : goes_to x k ≡ length x.back + k = ap (or_behind (length x.back + k)) (slice_get_past x.to k (omega (arith, to, past))) in
    omega (arith, back, goes)

no_held : (c : Code) (k : ℕ) → slice_get c.world.types k ≡ None → held_of (new_object c k) ≡ []
no_held c k none = ap (map (λ f. first_held c.world f (field_at c.world f))) (no_fields (length c.world.types) c.world k none)

no_progress : (w : World) (k : ℕ) → slice_get w.types k ≡ None → progress_of w k ≡ None
no_progress w k none = slice_get-map first_progress w.types k ∙ ap (option_map first_progress) none

pub type_behind : (w : Ways) (c c' : Code) (k k' : ℕ) → length c.world.types ≤ k → length c'.world.types ≤ k' → IsTypeKept w c c' k k'
type_behind w c c' k k' past past' =
    let none : slice_get c.world.types k ≡ None = slice_get_past c.world.types k past in
    let none' : slice_get c'.world.types k' ≡ None = slice_get_past c'.world.types k' past' in
    record {
      superclass = ap (superclass_of c'.world) none' ∙ sym (ap (λ o. option_map w.types (superclass_of c.world o)) none);
      object = no_held c' k' none' ∙ sym (ap (map (moved_held w.fields)) (no_held c k none));
      name = ap (full_name_of c') none' ∙ sym (ap (full_name_of c) none);
      progress = no_progress c'.world k' none' ∙ sym (no_progress c.world k none);
      main = ap (main_among c') none' ∙ sym (ap (λ o. option_map w.methods (main_among c o)) none);
    }

pub method_behind : (w : Ways) (c c' : Code) (m m' : ℕ) → length c.world.methods ≤ m → length c'.world.methods ≤ m' → IsMethodKept w c c' m m'
method_behind w c c' m m' past past' =
    ap (option_map (λ (i : MethodInfo). i.owner)) (slice_get_past c'.world.methods m' past')
    ∙ sym (ap (λ o. option_map w.types (option_map (λ (i : MethodInfo). i.owner) o)) (slice_get_past c.world.methods m past))

no_static : (w : World) (f : ℕ) → slice_get w.fields f ≡ None → static_at w f ≡ None
no_static w f none = static_is w f ∙ ap (option_map (static_of w f)) none

pub field_behind : (w : Ways) (c c' : Code) (f f' : ℕ) → length c.world.fields ≤ f → length c'.world.fields ≤ f' → IsFieldKept w c c' f f'
field_behind w c c' f f' past past' =
    let none : slice_get c.world.fields f ≡ None = slice_get_past c.world.fields f past in
    let none' : slice_get c'.world.fields f' ≡ None = slice_get_past c'.world.fields f' past' in
    record {
      owner = ap (option_map (λ (i : FieldInfo). i.owner)) none' ∙ sym (ap (λ o. option_map w.types (option_map (λ (i : FieldInfo). i.owner) o)) none);
      on_instance = ap (λ o. not (is_static_at c'.world o)) none' ∙ sym (ap (λ o. not (is_static_at c.world o)) none);
      constant = ap (is_constant_at c' f') none' ∙ sym (ap (is_constant_at c f) none);
      static = no_static c'.world f' none' ∙ sym (no_static c.world f none);
    }
