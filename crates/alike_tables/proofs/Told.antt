-- What is decided number by number is so for all numbers.
use Rattle.std.proofs.Common.{◌≡◌, ℕ, ◌≤◌, length, inl, inr, refl, sym, ap, ◌∙◌, subst, arith}
use Rattle.std.specs.Prelude.{Bool, IsTrue, IfOk, Result, Ok, Err}
use Rattle.std.proofs.lemmas.Bool.{cases_lt}
use Rattle.java_tree.specs.declared.fault.NoMemory.{NoMemory}
use Rattle.std.proofs.lemmas.Option.{slice_get_past}
use Rattle.core_meaning.specs.BuiltIns.{members, built_in, out_field, to_string, hash_code, get_message}
use Rattle.core_meaning.specs.State.{held}
use Rattle.core_meaning.specs.Code.{Code, new_object}
use Rattle.running_code.specs.declared.running.Running.{Running}
use Rattle.program_maps.specs.declared.numbers.Map.{Map}
use Rattle.program_maps.specs.Ways.{Ways, ways}
use Rattle.program_maps.specs.Pairs.{Pair}
use Rattle.program_maps.specs.Correspond.{KeepsBuiltIn, TablesAlike}
use Rattle.alike_tables.specs.Tables.{Both, TellsWhether, held_of, IsTypeKept, IsMethodKept, IsFieldKept, IsWhole, AreTypesKept, AreMethodsKept, AreFieldsKept, IsBuiltInKept, IsRestKept, AreAlikeTold, built_in_members}
use Rattle.alike_tables.proofs.Objects.{held_moved}
use Rattle.alike_tables.proofs.Behind.{goes_behind, type_behind, method_behind, field_behind}

module _ (m : Map) (w : Ways) (same : w ≡ ways m) (c c' : Code) (whole : IsWhole m c c') where
  every_type : AreTypesKept m w c c' → (k : ℕ) → IsTypeKept w c c' k (w.types k)
  every_type all k = elim (cases_lt k (length m.types.to)) [
    | inl low ↦ all k low
    | inr past ↦
        let to = whole.types.0 in
        let over : length c.world.types ≤ k = omega (arith, to, past) in
        type_behind w c c' k (w.types k) over (subst (λ (w : Ways). length c'.world.types ≤ w.types k) (sym same) (goes_behind m.types (length c.world.types) (length c'.world.types) k whole.types over))
  ]

  every_method : AreMethodsKept m w c c' → (k : ℕ) → IsMethodKept w c c' k (w.methods k)
  every_method all k = elim (cases_lt k (length m.methods.to)) [
    | inl low ↦ all k low
    | inr past ↦
        let to = whole.methods.0 in
        let over : length c.world.methods ≤ k = omega (arith, to, past) in
        method_behind w c c' k (w.methods k) over (subst (λ (w : Ways). length c'.world.methods ≤ w.methods k) (sym same) (goes_behind m.methods (length c.world.methods) (length c'.world.methods) k whole.methods over))
  ]

  every_field : AreFieldsKept m w c c' → (k : ℕ) → IsFieldKept w c c' k (w.fields k)
  every_field all k = elim (cases_lt k (length m.fields.to)) [
    | inl low ↦ all k low
    | inr past ↦
        let to = whole.fields.0 in
        let over : length c.world.fields ≤ k = omega (arith, to, past) in
        field_behind w c c' k (w.fields k) over (subst (λ (w : Ways). length c'.world.fields ≤ w.fields k) (sym same) (goes_behind m.fields (length c.world.fields) (length c'.world.fields) k whole.fields over))
  ]

member_kept : (w : Ways) → IsBuiltInKept w → (k : ℕ) → built_in (w.methods k) ≡ built_in k
member_kept w kept k = elim (cases_lt k built_in_members) [
  | inl low ↦ ap built_in (kept.members k low)
  | inr past ↦ slice_get_past members (w.methods k) (kept.others k past) ∙ sym (slice_get_past members k past)
]

built_in_kept : (w : Ways) → IsBuiltInKept w → KeepsBuiltIn w
built_in_kept w kept = record {
  types = kept.types;
  out = kept.out out_field (omega arith);
  methods = member_kept w kept;
  to_string = kept.members to_string (omega arith);
  hash_code = kept.members hash_code (omega arith);
  get_message = kept.members get_message (omega arith);
}

tables : (m : Map) (p : Pair) (c c' : Code) → p.ways ≡ ways m → IsRestKept m p.ways c c' → AreTypesKept m p.ways c c' → TablesAlike p c c'
tables m p c c' same rest types =
    let type_at : (k : ℕ) → IsTypeKept p.ways c c' k (p.ways.types k) = every_type m p.ways same c c' rest.fit.whole types in
    let field_of : (k : ℕ) → IsFieldKept p.ways c c' k (p.ways.fields k) = every_field m p.ways same c c' rest.fit.whole rest.fields in
    record {
      method_owner = every_method m p.ways same c c' rest.fit.whole rest.methods;
      field_owner = λ f. (field_of f).owner;
      superclass = λ k. (type_at k).superclass;
      on_instance = λ f. (field_of f).on_instance;
      constant = λ f. (field_of f).constant;
      objects = λ k. (refl, refl, λ f. ap (held (p.ways.fields f)) (type_at k).object ∙ held_moved p.ways.fields rest.fit.one_field f (held_of (new_object c k)));
      names = λ k. (type_at k).name;
      walk = rest.walk;
      statics = λ f. (field_of f).static;
      progress = λ k. (type_at k).progress;
      mains = λ k. (type_at k).main;
      initialised = rest.depth;
    }

-- so for two running programs
pub told : (g h : Running) (m : Map) → Both g h (λ c c'. IsRestKept m (ways m) c c') → Both g h (λ c c'. AreTypesKept m (ways m) c c') → AreAlikeTold g h m
told g h m rest types p same c c' code code' =
    let all : IsRestKept m p.ways c c' = subst (λ w. IsRestKept m w c c') (sym same) (rest c c' code code') in
    record {
      tables = tables m p c c' same all (subst (λ w. AreTypesKept m w c c') (sym same) (types c c' code code'));
      built_in = built_in_kept p.ways all.fit.built_in;
      types = all.fit.one_type;
      fields = all.fit.one_field;
    }

-- as the types are decided
pub told_types : (g h : Running) (m : Map) (r : Result Bool NoMemory) → Both g h (λ c c'. IsRestKept m (ways m) c c') → IfOk r (λ b. TellsWhether g h b (AreTypesKept m (ways m))) → IfOk r (λ b. IsTrue b → AreAlikeTold g h m)
told_types g h m (Ok b) rest types = λ holds. told g h m rest (λ c c' code code'. (types c c' code code').0 holds)
told_types g h m (Err e) rest types = types
