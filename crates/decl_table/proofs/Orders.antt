-- Where no supertype is wrong, the supertypes that the world declares are in order.
use Rattle.std.proofs.Common.{◌≡◌, ℕ, zero, suc, ◌<◌, Bool, true, false, List, [], ◌∷◌, length, Option, Some, None, inl, inr, refl, sym, ap, ◌∙◌, subst, arith}
use Rattle.std.specs.Prelude.{slice_get, if◌then◌else◌}
use Rattle.std.proofs.lemmas.Option.{slice_get_within}
use Rattle.java_tree.specs.declared.tree.Name.{Name}
use Rattle.java_tree.specs.declared.tree.Head.{Head}
use Rattle.java_tree.specs.declared.tree.Head.TheVariants as head
use Rattle.java_tree.specs.Plain as t
use Rattle.java_tree.specs.Plain.{TypeExpr, TypeExprs, TypeDecl}
use Rattle.class_world.specs.declared.world.World.{World}
use Rattle.class_world.specs.declared.world.TypeInfo.{TypeInfo}
use Rattle.class_world.specs.declared.world.JavaType.{JavaType}
use Rattle.class_world.specs.declared.world.JavaType.TheVariants as ty
use Rattle.class_world.specs.Types.{a_class}
use Rattle.class_world.specs.Sound.{IsSuper, AreSupers, IsClassOver, HaveClassSupers}
use Rattle.class_world.specs.DirectSupers.{IsDirectSuper}
use Rattle.class_world.proofs.Forms.{class_kind, array_kind, same_class}
use Rattle.class_world.proofs.Orders.{class_parts}
use Rattle.rule_order.specs.declared.Breach.{Breach}
use Rattle.type_names.specs.declared.known.JavaNames.{JavaNames}
use Rattle.type_names.specs.Known.{File}
use Rattle.written_types.specs.Places.{Place}
use Rattle.written_types.specs.Types.{arrays, variable, named_type, head_type, type_of, types_of, takes}
use Rattle.written_types.specs.Breaks.{node_of, head_of, args_of, NamesType}
use Rattle.written_types.proofs.Places.{variable_not}
use Rattle.type_headers.specs.Declared.{Declaration, declarations, headers}
use Rattle.built_in_types.specs.declared.types.BuiltIns.{BuiltIns}
use Rattle.declared_types.specs.Rules.{DeclaredTypeBreaches}
use Rattle.program_world.specs.ProgramWorld.{argument, is_class, place_among, world_of}
use Rattle.decl_table.specs.Bases.{AreBases, IsBase}
use Rattle.decl_table.proofs.Wholes.{said_parts, joined_parts, over_class, type_over}
use Rattle.decl_table.proofs.Fitting.{place_fits, get_there}
use Rattle.decl_table.proofs.Listed.{get_front, contains_at, map_some}
use Rattle.decl_table.proofs.Supers.{IsInfoOf, type_at, same_params, IsWrittenSuper, super_at}
use Rattle.decl_table.proofs.Facts.{both, one_there}

-- ---- a written class type

named_class : (p : Place) (n : Name) (v m : Option ℕ) (args : List JavaType) (g : ℕ) (xs : List JavaType) → variable n p.vars ≡ v → p.mean n ≡ m
    → named_type p v m args ≡ Some (ty.Class g xs) → NamesType p (head.Path (n ∷ [])) g × (args ≡ xs)
named_class p n (Some k) m [] g xs var mean e = absurd (let is : ty.Var k ≡ ty.Class g xs = cc e in cc is)
named_class p n (Some k) m (a ∷ args) g xs var mean e = absurd (cc e)
named_class p n None None args g xs var mean e = absurd (cc e)
named_class p n None (Some c) args g xs var mean e = split (takes (p.params c) (length args)) e
  where
    split : (b : Bool) → (if b then Some (ty.Class c args) else None) ≡ Some (ty.Class g xs) → NamesType p (head.Path (n ∷ [])) g × (args ≡ xs)
    split false e = absurd (cc e)
    split true e =
        let is : ty.Class c args ≡ ty.Class g xs = cc e in
        let same = same_class c g args xs is in
        ((n, refl, variable_not n p.vars var, mean ∙ ap Some same.0), same.1)

head_class : (p : Place) (h : Head) (args : List JavaType) (g : ℕ) (xs : List JavaType) → head_type p h args ≡ Some (ty.Class g xs) → NamesType p h g × (args ≡ xs)
head_class p (head.Prim q) [] g xs e = absurd (let is : ty.Prim q ≡ ty.Class g xs = cc e in cc is)
head_class p (head.Prim q) (a ∷ args) g xs e = absurd (cc e)
head_class p (head.Path []) args g xs e = absurd (cc e)
head_class p (head.Path (n ∷ [])) args g xs e = named_class p n (variable n p.vars) (p.mean n) args g xs refl refl e
head_class p (head.Path (n ∷ m ∷ names)) args g xs e = absurd (cc e)

no_levels : (d g : ℕ) (xs : List JavaType) (z : JavaType) → ty.Class g xs ≡ arrays d z → z ≡ ty.Class g xs
no_levels zero g xs z e = sym e
no_levels (suc d) g xs z e = absurd (cc (class_kind g xs, array_kind (arrays d z), e))

none_written : (p : Place) (xs : TypeExprs) → types_of p xs ≡ Some [] → xs ≡ t.NoTypes
none_written p t.NoTypes e = refl
none_written p (t.AndType x xs) e = absurd (let parts = joined_parts (type_of p x) (types_of p xs) [] e in cc parts.4)

-- its head names the class, and without arguments it has none
pub class_written : (p : Place) (x : TypeExpr) (g : ℕ) (xs : List JavaType) → type_of p x ≡ Some (ty.Class g xs) → NamesType p (head_of x) g × (xs ≡ [] → args_of x ≡ t.NoTypes)
class_written p (t.Written node h s ys d) g xs e =
    let parts = said_parts p h d (types_of p ys) (ty.Class g xs) e in
    let named = head_class p h parts.0 g xs (parts.3 ∙ ap Some (no_levels d g xs parts.1 parts.4)) in
    (named.0, λ none. none_written p ys (parts.2 ∙ ap Some (named.1 ∙ none)))

-- ---- supertypes in order

-- a written supertype is a class type over the type parameters of its class
pub written_over : (built : BuiltIns) (j : JavaNames) (fs : List File) → AreBases built.types → (x : Declaration) (s : JavaType) → IsWrittenSuper (place_among built j fs x) x.decl s
    → IsClassOver (world_of built j fs) (length x.decl.params) s
written_over built j fs bases x s (i, y, there, says, super) =
    let fits = place_fits j built.types fs (world_of built j fs) x bases.count (same_params built j fs) in
    let parts = both (is_class s) (argument s).whole super in
    let over = (type_over (place_among built j fs x) (world_of built j fs) (length x.decl.params) fits y s says parts.1).0 in
    (over, over_class (world_of built j fs) (length x.decl.params) s over parts.0)

bare_super : (w : World) (n g : ℕ) (info : TypeInfo) → slice_get w.types g ≡ Some info → info.params ≡ 0 → IsSuper w n (ty.Class g [])
bare_super w n g info at none = (a_class at (inl refl) (λ k a e. absurd (cc e)) (λ k a e. absurd (cc e)), (g, [], info, refl, at, sym none))

abbrev AreRight : BuiltIns → JavaNames → List File → Type 0
AreRight built j fs = (b : Breach) → DeclaredTypeBreaches j fs (headers built.types fs) b → ⊥

written_super : (built : BuiltIns) (j : JavaNames) (fs : List File) → AreBases built.types → AreRight built j fs
    → (k : ℕ) (x : Declaration) → slice_get (declarations fs) k ≡ Some x → (s : JavaType) → IsWrittenSuper (place_among built j fs x) x.decl s
    → IsSuper (world_of built j fs) (length x.decl.params) s
written_super built j fs bases right k x at s (i, y, there, says, super) =
    let p = place_among built j fs x in
    let w = world_of built j fs in
    let fits = place_fits j built.types fs w x bases.count (same_params built j fs) in
    let over_class = written_over built j fs bases x s (i, y, there, says, super) in
    let over = over_class.0 in
    let class = over_class.1 in
    let parts = class_parts w (length x.decl.params) s class.0 class.1 over class.2 in
    let written = class_written p y class.0 class.1 (says ∙ ap Some class.2) in
    let named = written.0 in
    let known = fits.known named.0 class.0 named.3 in
    let head = map_some (λ (i : TypeInfo). i.params) (slice_get (headers built.types fs) class.0) known.0.params known.2 in
    let same : known.0 ≡ parts.0 = one_there _ known.0 parts.0 known.1 parts.1 in (
      over,
      (
        class.0,
        class.1,
        parts.0,
        class.2,
        parts.1,
        elim parts.2 [
          | inr count ↦ count
          | inl none ↦ ap length none ∙ sym (zero_if parts.0.params (λ some. right (record { node = (node_of y).id; rule = 2 }) (
            x,
            contains_at (declarations fs) k x at,
            inr (
              i,
              y,
              there,
              (
                refl,
                refl,
                inr (inl (class.0, named, (head.0, head.1, inr (inr (subst (λ n. 0 < n) (sym (head.2 ∙ ap (λ (i : TypeInfo). i.params) same)) some, written.1 none))))),
              ),
            ),
          )))
        ],
      ),
    )
  where
    zero_if : (n : ℕ) → (0 < n → ⊥) → n ≡ 0
    zero_if zero not = refl
    zero_if (suc n) not = absurd (not (omega arith))

-- ---- all declared supertypes

-- what holds of Object in each class, of each built-in type without arguments, and of each written supertype, holds of each declared supertype
each_super : (P : ℕ → JavaType → Type 0) (built : BuiltIns) (j : JavaNames) (fs : List File) → AreBases built.types
    → ((n g : ℕ) (info : TypeInfo) → slice_get (world_of built j fs).types g ≡ Some info → info.params ≡ 0 → P n (ty.Class g []))
    → ((k : ℕ) (x : Declaration) → slice_get (declarations fs) k ≡ Some x → (s : JavaType) → IsWrittenSuper (place_among built j fs x) x.decl s → P (length x.decl.params) s)
    → (c : ℕ) (info : TypeInfo) (d : JavaType) → slice_get (world_of built j fs).types c ≡ Some info → IsDirectSuper (world_of built j fs) c d → P info.params d
each_super P built j fs bases bare written c info d at (own, there, k, e) =
    elim (type_at built j fs c info bases.count at) [
      | inl h ↦ base h
      | inr h ↦ declared h.0 h.1 h.3 h.4
    ]
  where
    same : slice_get info.supers k ≡ Some d
    same = sym (ap (λ (v : TypeInfo). slice_get v.supers k) (one_there (slice_get (world_of built j fs).types c) own info there at)) ∙ e

    base : slice_get built.types c ≡ Some info → P info.params d
    base h =
        let low = (bases.each c info h).1 k d same in
        let within : c < length built.types = slice_get_within built.types c info h in
        let at = get_there built.types low.0 (omega (arith, low.1, within)) in
        subst (P info.params) (sym low.2) (bare info.params low.0 at.0 (get_front built.types _ low.0 at.0 at.1) (bases.each low.0 at.0 at.1).0)

    object : (n : ℕ) → P n (ty.Class 0 [])
    object n =
        let at = get_there built.types 0 (omega (arith, bases.count)) in
        bare n 0 at.0 (get_front built.types _ 0 at.0 at.1) (bases.each 0 at.0 at.1).0

    declared : (m : ℕ) (x : Declaration) → slice_get (declarations fs) m ≡ Some x → IsInfoOf (place_among built j fs) x info → P info.params d
    declared m x there is =
        subst (λ n. P n d) (sym (ap (λ (i : TypeInfo). i.params) is.3))
        (elim (super_at (place_among built j fs x) x.decl k d (sym (ap (λ (v : TypeInfo). slice_get v.supers k) is.3) ∙ same)) [
          | inl top ↦ subst (P (length x.decl.params)) (sym top) (object (length x.decl.params))
          | inr text ↦ written m x there d text
        ])

top_bare : (built : BuiltIns) (j : JavaNames) (fs : List File) → AreBases built.types → (info : TypeInfo) → slice_get (world_of built j fs).types 0 ≡ Some info
    → (info.params ≡ 0) × (info.supers ≡ [])
top_bare built j fs bases info e =
    elim (type_at built j fs 0 info bases.count e) [
      | inl h ↦ (let base = bases.each 0 info h in (base.0, none_above base info.supers refl))
      | inr h ↦ absurd (omega (arith, h.2))
    ]
  where
    none_above : IsBase 0 info → (supers : List JavaType) → info.supers ≡ supers → supers ≡ []
    none_above base [] e = refl
    none_above base (d ∷ ds) e = absurd (let low = base.1 0 d (ap (λ xs. slice_get xs 0) e) in omega (arith, low.1))

-- each declared supertype is a class type
pub class_supers : (built : BuiltIns) (j : JavaNames) (fs : List File) → AreBases built.types → HaveClassSupers (world_of built j fs)
class_supers built j fs bases = record {
  top = top_bare built j fs bases;
  supers = each_super (IsClassOver (world_of built j fs)) built j fs bases (λ n g info at none. (a_class at (inl refl) (λ k a e. absurd (cc e)) (λ k a e. absurd (cc e)), (g, [], refl)))
      (λ k x at s written. written_over built j fs bases x s written);
}

-- and in order, where none is wrong
pub supers_in_order : (built : BuiltIns) (j : JavaNames) (fs : List File) → AreBases built.types → AreRight built j fs → AreSupers (world_of built j fs)
supers_in_order built j fs bases right = record {
  top = top_bare built j fs bases;
  supers = each_super (IsSuper (world_of built j fs)) built j fs bases (bare_super (world_of built j fs)) (written_super built j fs bases right);
}
