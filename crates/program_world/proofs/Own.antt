-- What the members of a declaration are, one by one.
use Rattle.std.proofs.Common.{◌≡◌, ℕ, ◌≤◌, true, false, cond, List, [], ◌∷◌, ◌++◌, map, flat_map, take, length, append_assoc, refl, sym, ap, ◌∙◌}
use Rattle.std.specs.Prelude.{◌||◌}
use Rattle.std.specs.List.{list_any}
use Rattle.std.proofs.lemmas.List.{take_all, append-nil}
use Rattle.java_tree.specs.declared.tree.Member as declared
use Rattle.java_tree.specs.declared.tree.TypeDecl as declared_decl
use Rattle.java_tree.specs.View.{member_plain, decl_plain}
use Rattle.java_tree.specs.Plain as t
use Rattle.java_tree.specs.Plain.{Member}
use Rattle.class_world.specs.declared.world.MethodInfo.{MethodInfo}
use Rattle.class_world.specs.declared.world.FieldInfo.{FieldInfo}
use Rattle.written_types.specs.Places.{Place}
use Rattle.program_world.specs.ProgramWorld.{method_info, own_methods, lacks_constructor, default_constructor, methods_of, field_info, own_fields, fields_of}
use Rattle.program_world.specs.Steps.{methods_in, fields_in, constructs}

methods : (p : Place) (c : ℕ) (ms : List Member) → flat_map (methods_in p c) ms ≡ map (method_info p c) (own_methods ms)
methods p c [] = refl
methods p c (t.AField f ∷ ms) = methods p c ms
methods p c (t.AMethod m ∷ ms) = ap (λ infos. method_info p c m ∷ infos) (methods p c ms)

fields : (p : Place) (c : ℕ) (ms : List Member) → flat_map (fields_in p c) ms ≡ flat_map (λ f. map (field_info p c f.mods f.ty) f.vars) (own_fields ms)
fields p c [] = refl
fields p c (t.AField f ∷ ms) = ap (λ infos. map (field_info p c f.mods f.ty) f.vars ++ infos) (fields p c ms)
fields p c (t.AMethod m ∷ ms) = fields p c ms

pub constructors : (ms : List declared.Member) → list_any (λ m. constructs (member_plain m)) ms ≡ list_any (λ m. m.constructor) (own_methods (map member_plain ms))
constructors [] = refl
constructors (m ∷ ms) = ap (λ b. constructs (member_plain m) || b) (constructors ms) ∙ first (member_plain m) (map member_plain ms)
  where
    first : (m : Member) (ms : List Member) → (constructs m || list_any (λ m. m.constructor) (own_methods ms)) ≡ list_any (λ m. m.constructor) (own_methods (m ∷ ms))
    first (t.AField f) ms = refl
    first (t.AMethod m) ms = refl

-- ---- behind all members

taken : {A : Type 0} (f : Member → List A) (ms : List declared.Member) (i : ℕ) (d : declared_decl.TypeDecl) (old all : List A)
    → ms ≡ d.members → length ms ≤ i → all ≡ old ++ flat_map f (map member_plain (take i ms)) → all ≡ old ++ flat_map f (decl_plain d).members
taken f ms i d old all e past so_far = so_far ∙ ap (λ ms. old ++ flat_map f (map member_plain ms)) (take_all i ms past ∙ e)

pub fields_all : (p : Place) (c : ℕ) (ms : List declared.Member) (i : ℕ) (d : declared_decl.TypeDecl) (old all : List FieldInfo)
    → ms ≡ d.members → length ms ≤ i → all ≡ old ++ flat_map (fields_in p c) (map member_plain (take i ms)) → all ≡ old ++ fields_of p c (decl_plain d)
fields_all p c ms i d old all e past so_far = taken (fields_in p c) ms i d old all e past so_far ∙ ap (λ infos. old ++ infos) (fields p c (decl_plain d).members)

-- with the default constructor
pub methods_all : (p : Place) (c : ℕ) (ms : List declared.Member) (i : ℕ) (d : declared_decl.TypeDecl) (old own : List MethodInfo)
    → ms ≡ d.members → length ms ≤ i → own ≡ old ++ flat_map (methods_in p c) (map member_plain (take i ms)) → lacks_constructor (decl_plain d) ≡ true
    → own ++ default_constructor c (decl_plain d) ∷ [] ≡ old ++ methods_of p c (decl_plain d)
methods_all p c ms i d old own e past so_far lacks =
    let more = default_constructor c (decl_plain d) ∷ [] in
    let declared = map (method_info p c) (own_methods (decl_plain d).members) in
    ap (λ infos. infos ++ more) (taken (methods_in p c) ms i d old own e past so_far ∙ ap (λ infos. old ++ infos) (methods p c (decl_plain d).members))
    ∙ append_assoc old declared more
    ∙ ap (λ b. old ++ (declared ++ cond b more [])) (sym lacks)

-- and without one
pub methods_own : (p : Place) (c : ℕ) (ms : List declared.Member) (i : ℕ) (d : declared_decl.TypeDecl) (old own : List MethodInfo)
    → ms ≡ d.members → length ms ≤ i → own ≡ old ++ flat_map (methods_in p c) (map member_plain (take i ms)) → lacks_constructor (decl_plain d) ≡ false
    → own ≡ old ++ methods_of p c (decl_plain d)
methods_own p c ms i d old own e past so_far has =
    let declared = map (method_info p c) (own_methods (decl_plain d).members) in
    taken (methods_in p c) ms i d old own e past so_far
    ∙ ap (λ infos. old ++ infos) (methods p c (decl_plain d).members ∙ sym (append-nil declared))
    ∙ ap (λ b. old ++ (declared ++ cond b (default_constructor c (decl_plain d) ∷ []) [])) (sym has)
