-- What the types of the world declare as supertypes.
use Rattle.std.proofs.Common.{◌≡◌, ℕ, zero, suc, ◌+◌, Bool, true, false, ◌&&◌, List, [], ◌∷◌, map, length, Option, Some, None, ◌⊎◌, inl, inr, refl, sym, ap, ◌∙◌, subst, arith}
use Rattle.std.specs.Prelude.{slice_get, filter, unwrap_or}
use Rattle.java_tree.specs.Plain.{TypeExpr, TypeDecl}
use Rattle.class_world.specs.declared.world.TypeInfo.{TypeInfo}
use Rattle.class_world.specs.declared.world.JavaType.{JavaType}
use Rattle.class_world.specs.declared.world.JavaType.TheVariants as ty
use Rattle.class_world.specs.Types.{object_type}
use Rattle.type_names.specs.declared.known.JavaNames.{JavaNames}
use Rattle.type_names.specs.Known.{File}
use Rattle.written_types.specs.Places.{Place}
use Rattle.written_types.specs.Types.{type_of}
use Rattle.type_headers.specs.Declared.{Declaration, declarations, header, headers, written_supers}
use Rattle.built_in_types.specs.declared.types.BuiltIns.{BuiltIns}
use Rattle.program_world.specs.ProgramWorld.{read, class_form, argument, is_super, implied_super, supers_of, methods_of, fields_of, type_info, infos_from, place_among, world_of}
use Rattle.decl_table.proofs.Fitting.{HaveParams}
use Rattle.decl_table.proofs.Listed.{get_either, get_front, get_behind, get_mapped, get_filtered}

-- ---- the types of the world

-- the type that a declaration gives, with some numbers of members
abbrev pub IsInfoOf : (Declaration → Place) → Declaration → TypeInfo → Type 0
IsInfoOf at x info = (c m n : ℕ) × (info ≡ type_info (at x) c m n x)

info_at : (at : Declaration → Place) (xs : List Declaration) (c m n : ℕ) (k : ℕ) (info : TypeInfo) → slice_get (infos_from at c m n xs) k ≡ Some info
    → (x : Declaration) × (slice_get xs k ≡ Some x) × IsInfoOf at x info
info_at at [] c m n k info e = absurd (cc e)
info_at at (x ∷ xs) c m n zero info e = (x, refl, (c, m, n, sym (cc e)))
info_at at (x ∷ xs) c m n (suc k) info e = info_at at xs (c + 1) (m + length (methods_of (at x) c x.decl)) (n + length (fields_of (at x) c x.decl)) k info e

pub info_for : (at : Declaration → Place) (xs : List Declaration) (c m n : ℕ) (k : ℕ) (x : Declaration) → slice_get xs k ≡ Some x
    → (info : TypeInfo) × (slice_get (infos_from at c m n xs) k ≡ Some info) × IsInfoOf at x info
info_for at [] c m n k x e = absurd (cc e)
info_for at (y ∷ xs) c m n zero x e = let same : y ≡ x = cc e in (type_info (at y) c m n y, refl, (c, m, n, ap (λ z. type_info (at z) c m n z) same))
info_for at (y ∷ xs) c m n (suc k) x e = info_for at xs (c + 1) (m + length (methods_of (at y) c y.decl)) (n + length (fields_of (at y) c y.decl)) k x e

-- a type of the world: a built-in one, or a declared one
pub type_at : (built : BuiltIns) (j : JavaNames) (fs : List File) (c : ℕ) (info : TypeInfo) → length built.types ≡ 19 → slice_get (world_of built j fs).types c ≡ Some info
    → (slice_get built.types c ≡ Some info) ⊎ ((k : ℕ) × (x : Declaration) × (c ≡ 19 + k) × (slice_get (declarations fs) k ≡ Some x) × IsInfoOf (place_among built j fs) x info)
type_at built j fs c info nineteen e =
    elim (get_either built.types (infos_from (place_among built j fs) 19 (length built.methods) (length built.fields) (declarations fs)) c info e) [
      | inl h ↦ inl h
      | inr h ↦ (let at = info_at (place_among built j fs) (declarations fs) 19 (length built.methods) (length built.fields) h.0 info h.2 in
          inr (h.0, at.0, omega (arith, h.1, nineteen), at.1, at.2))
    ]

pub same_params : (built : BuiltIns) (j : JavaNames) (fs : List File) → HaveParams (headers built.types fs) (world_of built j fs)
same_params built j fs c info e =
    elim (get_either built.types (map header (declarations fs)) c info e) [
      | inl h ↦ (info, get_front built.types _ c info h, refl)
      | inr h ↦ declared h.0 h.1 (get_mapped header (declarations fs) h.0 info h.2)
    ]
  where
    declared : (k : ℕ) → c ≡ length built.types + k → (x : Declaration) × (slice_get (declarations fs) k ≡ Some x) × (header x ≡ info)
        → (own : TypeInfo) × (slice_get (world_of built j fs).types c ≡ Some own) × (own.params ≡ info.params)
    declared k is x =
        let own = info_for (place_among built j fs) (declarations fs) 19 (length built.methods) (length built.fields) k x.0 x.1 in (
          own.0,
          subst (λ n. slice_get (world_of built j fs).types n ≡ Some own.0) (sym is) (get_behind built.types _ k own.0 own.1),
          ap (λ (i : TypeInfo). i.params) own.2.3 ∙ ap (λ (i : TypeInfo). i.params) x.2,
        )

-- ---- supertypes

-- a supertype that is written: the place of its text, and the text
abbrev pub IsWrittenSuper : Place → TypeDecl → JavaType → Type 0
IsWrittenSuper p d s = (i : ℕ) × (x : TypeExpr) × (slice_get (written_supers d) i ≡ Some x) × (type_of p x ≡ Some s) × (is_super s ≡ true)

null_not : is_super ty.Null ≡ true → ⊥
null_not e = cc (sym e ∙ ap (λ L. class_form L && (argument ty.Null).whole) ty.outs-Null)

read_some : (p : Place) (x : TypeExpr) (s : JavaType) → read p x ≡ s → is_super s ≡ true → type_of p x ≡ Some s
read_some p x s is super = split (type_of p x) refl is
  where
    split : (o : Option JavaType) → type_of p x ≡ o → unwrap_or o ty.Null ≡ s → type_of p x ≡ Some s
    split None at e = absurd (null_not (ap is_super e ∙ super))
    split (Some y) at e = at ∙ ap Some e

implied_object : (interface : Bool) (extends : List TypeExpr) (k : ℕ) (s : JavaType) → slice_get (implied_super interface extends) k ≡ Some s → s ≡ object_type
implied_object true xs k s e = absurd (cc e)
implied_object false [] zero s e = sym (cc e)
implied_object false [] (suc k) s e = absurd (cc e)
implied_object false (x ∷ xs) k s e = absurd (cc e)

pub super_at : (p : Place) (d : TypeDecl) (k : ℕ) (s : JavaType) → slice_get (supers_of p d) k ≡ Some s → (s ≡ object_type) ⊎ IsWrittenSuper p d s
super_at p d k s e =
    elim (get_either (implied_super d.interface d.extends) (filter is_super (map (read p) (written_supers d))) k s e) [
      | inl h ↦ inl (implied_object d.interface d.extends k s h)
      | inr h ↦ (let passed = get_filtered is_super (map (read p) (written_supers d)) h.0 s h.2 in
          let text = get_mapped (read p) (written_supers d) passed.0 s passed.1 in
          inr (passed.0, text.0, text.1, read_some p text.0 s text.2 passed.2, passed.2))
    ]
