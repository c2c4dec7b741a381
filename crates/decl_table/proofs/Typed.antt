-- What the members of the world declare is made of its types.
use Rattle.std.proofs.Common.{◌≡◌, ℕ, zero, suc, ◌+◌, ◌<◌, Bool, true, false, List, [], ◌∷◌, ◌++◌, map, length, Option, Some, None, ◌⊎◌, inl, inr, refl, sym, ap, ◌∙◌, subst, arith}
use Rattle.std.specs.Prelude.{slice_get, if◌then◌else◌, nat_lt, unwrap_or, flat_map}
use Rattle.std.specs.Option.{option_map}
use Rattle.std.proofs.lemmas.Bool.Decides.{nat_tests}
use Rattle.std.proofs.lemmas.Option.{slice_get-map}
use Rattle.java_tree.specs.declared.tree.Primitive.TheVariants as prim
use Rattle.java_tree.specs.Plain.{TypeExpr, FieldDecl, MethodDecl, TypeDecl}
use Rattle.class_world.specs.declared.world.World.{World}
use Rattle.class_world.specs.declared.world.TypeInfo.{TypeInfo}
use Rattle.class_world.specs.declared.world.MethodInfo.{MethodInfo}
use Rattle.class_world.specs.declared.world.FieldInfo.{FieldInfo}
use Rattle.class_world.specs.declared.world.JavaType.{JavaType}
use Rattle.class_world.specs.declared.world.JavaType.TheVariants as ty
use Rattle.class_world.specs.Types.{IsTypeOver, a_primitive, the_null, a_class, an_array}
use Rattle.class_world.specs.Sound.{IsKnown}
use Rattle.class_world.specs.Typed.{HaveTypes}
use Rattle.class_world.proofs.Forms.{null_kind, primitive_kind}
use Rattle.type_names.specs.declared.known.JavaNames.{JavaNames}
use Rattle.type_names.specs.Known.{File}
use Rattle.written_types.specs.Places.{Place}
use Rattle.written_types.specs.Types.{type_of, arrays}
use Rattle.type_headers.specs.Declared.{Declaration, declarations, headers}
use Rattle.built_in_types.specs.declared.words.Words.{Words}
use Rattle.built_in_types.specs.declared.types.BuiltIns.{BuiltIns}
use Rattle.built_in_types.specs.BuiltIns as base
use Rattle.program_world.specs.ProgramWorld.{Argument, argument, leveled, member_type, param_type, method_info, own_methods, lacks_constructor, default_constructor, methods_of, field_info, own_fields, fields_of, methods_from, fields_from, place_among, world_of}
use Rattle.program_world.proofs.Supers.{argument_null}
use Rattle.decl_table.specs.Bases.{AreBases}
use Rattle.decl_table.specs.Program.{built, SameDeclared}
use Rattle.decl_table.proofs.Bases.{built_in_bases}
use Rattle.decl_table.proofs.Facts.{all_at, one_there}
use Rattle.decl_table.proofs.Fitting.{HaveParams, place_fits, get_there}
use Rattle.decl_table.proofs.Listed.{get_either, get_front, get_behind, get_mapped, get_flat, map_some, none_there}
use Rattle.decl_table.proofs.Supers.{info_for, same_params}
use Rattle.decl_table.proofs.Wholes.{Fits, type_over, arrays_over}

-- what a method declares is over n type variables
record AreOver (w : World) (n : ℕ) (info : MethodInfo) : Type 0 where
  params : (k : ℕ) (t : JavaType) → slice_get info.params k ≡ Some t → IsTypeOver w n t
  result : (t : JavaType) → info.result ≡ Some t → IsTypeOver w n t
  throws : (k : ℕ) (t : JavaType) → slice_get info.throws k ≡ Some t → IsTypeOver w n t

-- ---- members that are declared

member_over : (p : Place) (w : World) (n : ℕ) → Fits p w n → (d : ℕ) (x : TypeExpr) → IsTypeOver w n (member_type p d x)
member_over p w n fits d x = said (type_of p x) refl
  where
    unsaid : (b : Bool) → (argument ty.Null).whole ≡ b → IsTypeOver w n (if b then arrays d ty.Null else ty.Null)
    unsaid true e = absurd (cc (sym e ∙ ap (λ (a : Argument). a.whole) argument_null))
    unsaid false e = the_null

    leveled_over : (y : JavaType) → type_of p x ≡ Some y → (b : Bool) → (argument y).whole ≡ b → IsTypeOver w n (if b then arrays d y else ty.Null)
    leveled_over y says true whole = let over = type_over p w n fits x y says whole in (arrays_over w n d y over.0 over.1).0
    leveled_over y says false whole = the_null

    said : (o : Option JavaType) → type_of p x ≡ o → IsTypeOver w n (leveled d (unwrap_or o ty.Null))
    said None is = unsaid (argument ty.Null).whole refl
    said (Some y) is = leveled_over y is (argument y).whole refl

written_method : (p : Place) (w : World) (n : ℕ) → Fits p w n → (c : ℕ) (m : MethodDecl) → AreOver w n (method_info p c m)
written_method p w n fits c m = record {
  params = λ k t e. let x = get_mapped (param_type p) m.params k t e in subst (IsTypeOver w n) x.2 (member_over p w n fits x.0.dims x.0.ty);
  result = λ t e. let x = map_some (member_type p 0) m.result t e in subst (IsTypeOver w n) x.2 (member_over p w n fits 0 x.0);
  throws = λ k t e. let x = get_mapped (member_type p 0) m.throws k t e in subst (IsTypeOver w n) x.2 (member_over p w n fits 0 x.0);
}

unwritten_method : (w : World) (n c : ℕ) (d : TypeDecl) → AreOver w n (default_constructor c d)
unwritten_method w n c d = record {
  params = λ k t e. absurd (none_there k t e);
  result = λ t e. absurd (cc e);
  throws = λ k t e. absurd (none_there k t e);
}

own_method : (p : Place) (w : World) (n : ℕ) → Fits p w n → (c : ℕ) (d : TypeDecl) (m : ℕ) (info : MethodInfo) → slice_get (methods_of p c d) m ≡ Some info
    → AreOver w n info × (info.owner ≡ c)
own_method p w n fits c d m info e =
    elim (get_either (map (method_info p c) (own_methods d.members)) (if lacks_constructor d then default_constructor c d ∷ [] else []) m info e) [
      | inl h ↦ (let x = get_mapped (method_info p c) (own_methods d.members) m info h in
          (subst (AreOver w n) x.2 (written_method p w n fits c x.0), sym (ap (λ (i : MethodInfo). i.owner) x.2)))
      | inr h ↦ last (lacks_constructor d) h.0 h.2
    ]
  where
    last : (b : Bool) (k : ℕ) → slice_get (if b then default_constructor c d ∷ [] else []) k ≡ Some info → AreOver w n info × (info.owner ≡ c)
    last true zero e = let is : default_constructor c d ≡ info = cc e in (subst (AreOver w n) is (unwritten_method w n c d), sym (ap (λ (i : MethodInfo). i.owner) is))
    last true (suc k) e = absurd (none_there k info e)
    last false k e = absurd (none_there k info e)

own_field : (p : Place) (w : World) (n : ℕ) → Fits p w n → (c : ℕ) (d : TypeDecl) (m : ℕ) (info : FieldInfo) → slice_get (fields_of p c d) m ≡ Some info
    → IsTypeOver w n info.ty × (info.owner ≡ c)
own_field p w n fits c d m info e =
    let f = get_flat (λ (f : FieldDecl). map (field_info p c f.mods f.ty) f.vars) (own_fields d.members) m info e in
    let v = get_mapped (field_info p c f.0.mods f.0.ty) f.0.vars f.1 info f.2 in
    (subst (λ (i : FieldInfo). IsTypeOver w n i.ty) v.2 (member_over p w n fits v.0.dims f.0.ty), sym (ap (λ (i : FieldInfo). i.owner) v.2))

-- which declaration has a member

method_from : (at : Declaration → Place) (c : ℕ) (xs : List Declaration) (m : ℕ) (info : MethodInfo) → slice_get (methods_from at c xs) m ≡ Some info
    → (k : ℕ) × (x : Declaration) × (slice_get xs k ≡ Some x) × (i : ℕ) × (slice_get (methods_of (at x) (c + k) x.decl) i ≡ Some info)
method_from at c [] m info e = absurd (none_there m info e)
method_from at c (x ∷ xs) m info e =
    elim (get_either (methods_of (at x) c x.decl) (methods_from at (c + 1) xs) m info e) [
      | inl h ↦ (0, x, refl, m, subst (λ n. slice_get (methods_of (at x) n x.decl) m ≡ Some info) (let e : c ≡ c + 0 = omega arith in e) h)
      | inr h ↦ (let at' = method_from at (c + 1) xs h.0 info h.2 in
          (suc at'.0, at'.1, at'.2, at'.3, subst (λ n. slice_get (methods_of (at at'.1) n at'.1.decl) at'.3 ≡ Some info) (let e : c + 1 + at'.0 ≡ c + suc at'.0 = omega arith in e) at'.4))
    ]

field_from : (at : Declaration → Place) (c : ℕ) (xs : List Declaration) (m : ℕ) (info : FieldInfo) → slice_get (fields_from at c xs) m ≡ Some info
    → (k : ℕ) × (x : Declaration) × (slice_get xs k ≡ Some x) × (i : ℕ) × (slice_get (fields_of (at x) (c + k) x.decl) i ≡ Some info)
field_from at c [] m info e = absurd (none_there m info e)
field_from at c (x ∷ xs) m info e =
    elim (get_either (fields_of (at x) c x.decl) (fields_from at (c + 1) xs) m info e) [
      | inl h ↦ (0, x, refl, m, subst (λ n. slice_get (fields_of (at x) n x.decl) m ≡ Some info) (let e : c ≡ c + 0 = omega arith in e) h)
      | inr h ↦ (let at' = field_from at (c + 1) xs h.0 info h.2 in
          (suc at'.0, at'.1, at'.2, at'.3, subst (λ n. slice_get (fields_of (at at'.1) n at'.1.decl) at'.3 ≡ Some info) (let e : c + 1 + at'.0 ≡ c + suc at'.0 = omega arith in e) at'.4))
    ]

-- ---- built-in members

bare_over : (w : World) (n c : ℕ) → IsKnown w c → IsTypeOver w n (ty.Class c [])
bare_over w n c known = a_class known.1 (inl refl) (λ k a e. absurd (none_there k a e)) (λ k a e. absurd (none_there k a e))

-- a type over n type variables
abbrev Over : World → ℕ → Type 0
Over w n = (t : JavaType) × IsTypeOver w n t

abbrev type_in : (w : World) (n : ℕ) → Over w n → JavaType
type_in w n o = o.0

-- parameter types, result and thrown types
abbrev Signature : Type 0
Signature = List JavaType × Option JavaType × List JavaType

abbrev signature_of : MethodInfo → Signature
signature_of info = (info.params, info.result, info.throws)

-- parameter types and result of a method that throws nothing
abbrev Parts : World → ℕ → Type 0
Parts w n = List (Over w n) × Option (Over w n)

abbrev signature_in : (w : World) (n : ℕ) → Parts w n → Signature
signature_in w n x = (map (type_in w n) x.0, option_map (type_in w n) x.1, [])

parts_over : (w : World) (n : ℕ) (x : Parts w n) (info : MethodInfo) → signature_in w n x ≡ signature_of info → AreOver w n info
parts_over w n x info same = record {
  params = λ k t e. let o = get_mapped (type_in w n) x.0 k t (ap (λ (s : Signature). slice_get s.0 k) same ∙ e) in over o.0 t o.2;
  result = λ t e. let o = map_some (type_in w n) x.1 t (ap (λ (s : Signature). s.1) same ∙ e) in over o.0 t o.2;
  throws = λ k t e. absurd (none_there k t (ap (λ (s : Signature). slice_get s.2 k) same ∙ e));
}
  where
    over : (o : Over w n) (t : JavaType) → type_in w n o ≡ t → IsTypeOver w n t
    over o t is = subst (IsTypeOver w n) is o.1

-- the signatures of the built-in methods in the order of their table
abbrev built_in_parts : (w : World) (n : ℕ) → ((c : ℕ) → c < 19 → IsKnown w c) → List (Parts w n)
built_in_parts w n known =
    ([], None) ∷ ([], Some text) ∷ (object ∷ [], Some boolean) ∷ ([], Some int)
    ∷ ([], Some int) ∷ (int ∷ [], Some char) ∷ (int ∷ [], Some text)
    ∷ (int ∷ int ∷ [], Some text) ∷ (text ∷ [], Some int) ∷ (object ∷ [], Some boolean)
    ∷ ([], Some int) ∷ ([], Some text)
    ∷ (prints ++ prints ++ ([], None) ∷ throwables (4 ∷ []) ++ ([], Some text)
    ∷ ([], Some text) ∷ throwables (5 ∷ 6 ∷ 7 ∷ 8 ∷ 9 ∷ 10 ∷ 11 ∷ 12 ∷ 13 ∷ 14 ∷ 15 ∷ 16 ∷ 17 ∷ 18 ∷ []))
  where
    object : Over w n
    object = (ty.Class 0 [], bare_over w n 0 (known 0 (omega arith)))

    text : Over w n
    text = (ty.Class 1 [], bare_over w n 1 (known 1 (omega arith)))

    boolean : Over w n
    boolean = (ty.Prim prim.Boolean, a_primitive prim.Boolean)

    char : Over w n
    char = (ty.Prim prim.Char, a_primitive prim.Char)

    int : Over w n
    int = (ty.Prim prim.Int, a_primitive prim.Int)

    long : Over w n
    long = (ty.Prim prim.Long, a_primitive prim.Long)

    chars : Over w n
    chars = (ty.Array (ty.Prim prim.Char), an_array (λ e. cc (primitive_kind prim.Char, null_kind, e)) (a_primitive prim.Char))

    prints : List (Parts w n)
    prints = map (λ (o : Over w n). (o ∷ [], None)) (boolean ∷ char ∷ int ∷ long ∷ chars ∷ text ∷ object ∷ [])

    throwables : List ℕ → List (Parts w n)
    throwables = flat_map (λ (k : ℕ). ([], None) ∷ (text ∷ [], None) ∷ [])

built_in_signatures : (words : Words) (w : World) (n : ℕ) (known : (c : ℕ) → c < 19 → IsKnown w c)
    → map (signature_in w n) (built_in_parts w n known) ≡ map signature_of (base.built_in_methods words)
built_in_signatures words w n known = refl

table_over : (words : Words) (w : World) (n : ℕ) → ((c : ℕ) → c < 19 → IsKnown w c) → (m : ℕ) (info : MethodInfo) → slice_get (base.built_in_methods words) m ≡ Some info
    → AreOver w n info
table_over words w n known m info e =
    let there : slice_get (map (signature_in w n) (built_in_parts w n known)) m ≡ Some (signature_of info) =
    ap (λ ss. slice_get ss m) (built_in_signatures words w n known) ∙ slice_get-map signature_of (base.built_in_methods words) m ∙ ap (option_map signature_of) e in
    let x = get_mapped (signature_in w n) (built_in_parts w n known) m (signature_of info) there in
    parts_over w n x.0 info x.2

built_in_method : (words : Words) (w : World) → ((c : ℕ) → c < 19 → IsKnown w c) → (m : ℕ) (info : MethodInfo) → slice_get (base.built_in_methods words) m ≡ Some info
    → IsKnown w info.owner × ((n : ℕ) → AreOver w n info)
built_in_method words w known m info e =
    let test : nat_lt info.owner 19 ≡ true = all_at (λ (i : MethodInfo). nat_lt i.owner 19) (base.built_in_methods words) m info refl e in
    let low : info.owner < 19 = grind (arith, nat_tests, test) in
    (known info.owner low, λ n. table_over words w n known m info e)

built_in_field : (words : Words) (w : World) → ((c : ℕ) → c < 19 → IsKnown w c) → (m : ℕ) (info : FieldInfo) → slice_get (base.built_in_fields words) m ≡ Some info
    → IsKnown w info.owner × ((n : ℕ) → IsTypeOver w n info.ty)
built_in_field words w known zero info e =
    let owner : 2 ≡ info.owner = cc e in
    let type : ty.Class 3 [] ≡ info.ty = cc e in (
      subst (IsKnown w) owner (known 2 (omega arith)),
      λ n. subst (IsTypeOver w n) type (bare_over w n 3 (known 3 (omega arith))),
    )
built_in_field words w known (suc m) info e = absurd (none_there m info e)

-- ---- all members

module _ (b : BuiltIns) (j : JavaNames) (fs : List File) (w : World) (bases : AreBases b.types) (same : SameDeclared (world_of b j fs) w) where
  known_base : (c : ℕ) → c < 19 → IsKnown w c
  known_base c low =
      let at = get_there b.types c (omega (arith, low, bases.count)) in
      (at.0, ap (λ ts. slice_get ts c) same.0 ∙ get_front b.types _ c at.0 at.1)

  known_declared : (k : ℕ) (x : Declaration) → slice_get (declarations fs) k ≡ Some x → (own : TypeInfo) × (slice_get w.types (19 + k) ≡ Some own) × (own.params ≡ length x.decl.params)
  known_declared k x at =
      let own = info_for (place_among b j fs) (declarations fs) 19 (length b.methods) (length b.fields) k x at in (
        own.0,
        ap (λ ts. slice_get ts (19 + k)) same.0 ∙ subst (λ n. slice_get (world_of b j fs).types (n + k) ≡ Some own.0) bases.count (get_behind b.types _ k own.0 own.1),
        ap (λ (i : TypeInfo). i.params) own.2.3,
      )

  fits : (x : Declaration) → Fits (place_among b j fs x) w (length x.decl.params)
  fits x = place_fits j b.types fs w x bases.count params
    where
      params : HaveParams (headers b.types fs) w
      params c info e = let own = same_params b j fs c info e in (own.0, ap (λ ts. slice_get ts c) same.0 ∙ own.1, own.2)

  method_cases : (m : ℕ) (info : MethodInfo) → slice_get w.methods m ≡ Some info
      → (slice_get b.methods m ≡ Some info) ⊎ ((own : TypeInfo) × (slice_get w.types info.owner ≡ Some own) × AreOver w own.params info)
  method_cases m info e =
      elim (get_either b.methods (methods_from (place_among b j fs) 19 (declarations fs)) m info (ap (λ ms. slice_get ms m) (sym same.1) ∙ e)) [
        | inl h ↦ inl h
        | inr h ↦ (let x = method_from (place_among b j fs) 19 (declarations fs) h.0 info h.2 in
            let own = known_declared x.0 x.1 x.2 in
            let said = own_method (place_among b j fs x.1) w (length x.1.decl.params) (fits x.1) (19 + x.0) x.1.decl x.3 info x.4 in
            inr (own.0, ap (slice_get w.types) said.1 ∙ own.1, subst (λ n. AreOver w n info) (sym own.2) said.0))
      ]

  field_cases : (m : ℕ) (info : FieldInfo) → slice_get w.fields m ≡ Some info
      → (slice_get b.fields m ≡ Some info) ⊎ ((own : TypeInfo) × (slice_get w.types info.owner ≡ Some own) × IsTypeOver w own.params info.ty)
  field_cases m info e =
      elim (get_either b.fields (fields_from (place_among b j fs) 19 (declarations fs)) m info (ap (λ ms. slice_get ms m) (sym same.2) ∙ e)) [
        | inl h ↦ inl h
        | inr h ↦ (let x = field_from (place_among b j fs) 19 (declarations fs) h.0 info h.2 in
            let own = known_declared x.0 x.1 x.2 in
            let said = own_field (place_among b j fs x.1) w (length x.1.decl.params) (fits x.1) (19 + x.0) x.1.decl x.3 info x.4 in
            inr (own.0, ap (slice_get w.types) said.1 ∙ own.1, subst (λ n. IsTypeOver w n info.ty) (sym own.2) said.0))
      ]

pub typed_world : (words : Words) (j : JavaNames) (fs : List File) (w : World) → SameDeclared (world_of (built words) j fs) w → HaveTypes w
typed_world words j fs w same = record {
  params = λ m k info own t at there e. (method m info own at there).params k t e;
  results = λ m info own t at there e. (method m info own at there).result t e;
  throws = λ m k info own t at there e. (method m info own at there).throws k t e;
  fields = field;
  owners = (
    λ m info at. elim (method_cases b j fs w bases same m info at) [ inl h ↦ (built_in_method words w known m info h).0 | inr h ↦ (h.0, h.1) ],
    λ m info at. elim (field_cases b j fs w bases same m info at) [ inl h ↦ (built_in_field words w known m info h).0 | inr h ↦ (h.0, h.1) ],
  );
}
  where
    b : BuiltIns
    b = built words

    bases : AreBases b.types
    bases = built_in_bases words

    known : (c : ℕ) → c < 19 → IsKnown w c
    known = known_base b j fs w bases same

    method : (m : ℕ) (info : MethodInfo) (own : TypeInfo) → slice_get w.methods m ≡ Some info → slice_get w.types info.owner ≡ Some own → AreOver w own.params info
    method m info own at there =
        elim (method_cases b j fs w bases same m info at) [
          | inl h ↦ (built_in_method words w known m info h).1 own.params
          | inr h ↦ subst (λ (o : TypeInfo). AreOver w o.params info) (one_there (slice_get w.types info.owner) h.0 own h.1 there) h.2
        ]

    field : (m : ℕ) (info : FieldInfo) (own : TypeInfo) → slice_get w.fields m ≡ Some info → slice_get w.types info.owner ≡ Some own → IsTypeOver w own.params info.ty
    field m info own at there =
        elim (field_cases b j fs w bases same m info at) [
          | inl h ↦ (built_in_field words w known m info h).1 own.params
          | inr h ↦ subst (λ (o : TypeInfo). IsTypeOver w o.params info.ty) (one_there (slice_get w.types info.owner) h.0 own h.1 there) h.2
        ]
