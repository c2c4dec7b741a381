-- A type that is written is one of the world, where the names have their types there.
use Rattle.std.proofs.Common.{◌≡◌, ℕ, zero, suc, ◌+◌, ◌<◌, Bool, true, false, List, [], ◌∷◌, map, length, Option, Some, None, ◌⊎◌, inl, inr, refl, sym, ap, ◌∙◌, subst, arith}
use Rattle.std.specs.Prelude.{slice_get, if◌then◌else◌, option_and_then}
use Rattle.std.specs.Option.{option_map}
use Rattle.std.specs.List.{position_from, list_all}
use Rattle.std.proofs.lemmas.Bool.Decides.{nat_tests}
use Rattle.java_tree.specs.declared.tree.Name.{Name}
use Rattle.java_tree.specs.declared.tree.Head.{Head}
use Rattle.java_tree.specs.declared.tree.Head.TheVariants as head
use Rattle.java_tree.specs.Plain as t
use Rattle.java_tree.specs.Plain.{TypeExpr, TypeExprs}
use Rattle.class_world.specs.declared.world.World.{World}
use Rattle.class_world.specs.declared.world.TypeInfo.{TypeInfo}
use Rattle.class_world.specs.declared.world.JavaType.{JavaType}
use Rattle.class_world.specs.declared.world.JavaType.TheVariants as ty
use Rattle.class_world.specs.Types.{IsReference, of_class, of_variable, of_array, AreReferences, IsTypeOver, a_primitive, the_null, a_class, a_variable, an_array}
use Rattle.class_world.proofs.Forms.{null_kind, class_kind, array_kind}
use Rattle.program_world.specs.ProgramWorld.{Argument, passes, argument, class_form, is_class}
use Rattle.program_world.proofs.Supers.{argument_primitive, argument_null, argument_class, argument_array}
use Rattle.written_types.specs.Places.{Place}
use Rattle.written_types.specs.Types.{arrays, variable, takes, named_type, head_type, joined, type_of, types_of}
use Rattle.type_names.proofs.Lists.{empty_is}
use Rattle.decl_table.proofs.Facts.{both}

-- the place's types are those of the world, and it has n type parameters
pub record Fits (p : Place) (w : World) (n : ℕ) : Type 0 where
  pub known : (x : Name) (c : ℕ) → p.mean x ≡ Some c → (info : TypeInfo) × (slice_get w.types c ≡ Some info) × (p.params c ≡ Some info.params)
  pub vars : length p.vars ≡ n

-- all arguments within the type are reference types
abbrev pub IsWhole : JavaType → Type 0
IsWhole t = (argument t).whole ≡ true

abbrev AreWhole : List JavaType → Type 0
AreWhole args = (k : ℕ) (a : JavaType) → slice_get args k ≡ Some a → ((argument a).reference ≡ true) × IsWhole a

abbrev AreOver : World → ℕ → List JavaType → Type 0
AreOver w n args = (k : ℕ) (a : JavaType) → slice_get args k ≡ Some a → IsTypeOver w n a

array_whole : (x : JavaType) → IsWhole (ty.Array x) → IsWhole x
array_whole x h = sym (ap (λ (a : Argument). a.whole) (argument_array x)) ∙ h

all_pass : (xs : List JavaType) → list_all passes (map argument xs) ≡ true → AreWhole xs
all_pass [] e k a at = absurd (cc at)
all_pass (x ∷ xs) e zero a at =
    let here = both (passes (argument x)) (list_all passes (map argument xs)) e in
    subst (λ y. ((argument y).reference ≡ true) × IsWhole y) (cc at) (both (argument x).reference (argument x).whole here.0)
all_pass (x ∷ xs) e (suc k) a at = all_pass xs (both (passes (argument x)) (list_all passes (map argument xs)) e).1 k a at

class_whole : (t : JavaType) → IsWhole t → (c : ℕ) (args : List JavaType) → t ≡ ty.Class c args → AreWhole args
class_whole t h c args e = all_pass args (sym (ap (λ (x : JavaType). (argument x).whole) e ∙ ap (λ (a : Argument). a.whole) (argument_class c args)) ∙ h)

-- a type of the world that is a reference type as an argument
over_refers : (w : World) (n : ℕ) (t : JavaType) → IsTypeOver w n t → (argument t).reference ≡ true → IsReference t
over_refers w n t (a_primitive p) e = absurd (cc (sym e ∙ ap (λ (a : Argument). a.reference) (argument_primitive p)))
over_refers w n t the_null e = absurd (cc (sym e ∙ ap (λ (a : Argument). a.reference) argument_null))
over_refers w n t (a_class {c = c} {args = args} at counts refs parts) e = of_class c args
over_refers w n t (a_variable {k = k} lt) e = of_variable k
over_refers w n t (an_array {element = x} some part) e = of_array x

-- one that is a class type
pub over_class : (w : World) (n : ℕ) (t : JavaType) → IsTypeOver w n t → is_class t ≡ true → (c : ℕ) × (args : List JavaType) × (t ≡ ty.Class c args)
over_class w n t (a_primitive p) e = absurd (cc (sym e ∙ ap class_form (ty.outs-Prim p)))
over_class w n t the_null e = absurd (cc (sym e ∙ ap class_form ty.outs-Null))
over_class w n t (a_class {c = c} {args = args} at counts refs parts) e = (c, args, refl)
over_class w n t (a_variable {k = k} lt) e = absurd (cc (sym e ∙ ap class_form (ty.outs-Var k)))
over_class w n t (an_array {element = x} some part) e = absurd (cc (sym e ∙ ap class_form (ty.outs-Array x)))

-- ---- the parts of a type that was read

pub joined_parts : (a : Option JavaType) (b : Option (List JavaType)) (ys : List JavaType) → joined a b ≡ Some ys
    → (y : JavaType) × (rest : List JavaType) × (a ≡ Some y) × (b ≡ Some rest) × (ys ≡ y ∷ rest)
joined_parts None b ys e = absurd (cc e)
joined_parts (Some y) None ys e = absurd (cc e)
joined_parts (Some y) (Some rest) ys e = (y, rest, refl, refl, sym (cc e))

pub said_parts : (p : Place) (h : Head) (d : ℕ) (o : Option (List JavaType)) (y : JavaType) → option_map (arrays d) (option_and_then (head_type p h) o) ≡ Some y
    → (ys : List JavaType) × (z : JavaType) × (o ≡ Some ys) × (head_type p h ys ≡ Some z) × (y ≡ arrays d z)
said_parts p h d None y e = absurd (cc e)
said_parts p h d (Some ys) y e = split (head_type p h ys) refl e
  where
    split : (o : Option JavaType) → head_type p h ys ≡ o → option_map (arrays d) o ≡ Some y
        → (zs : List JavaType) × (z : JavaType) × (Some ys ≡ Some zs) × (head_type p h zs ≡ Some z) × (y ≡ arrays d z)
    split None is e = absurd (cc e)
    split (Some z) is e = (ys, z, refl, is, sym (cc e))

-- ---- arrays

abbrev pub no_null : JavaType → Type 0
no_null t = t ≡ ty.Null → ⊥

whole_inside : (d : ℕ) (z : JavaType) → IsWhole (arrays d z) → IsWhole z
whole_inside zero z h = h
whole_inside (suc d) z h = whole_inside d z (array_whole (arrays d z) h)

pub arrays_over : (w : World) (n : ℕ) (d : ℕ) (z : JavaType) → IsTypeOver w n z → no_null z → IsTypeOver w n (arrays d z) × no_null (arrays d z)
arrays_over w n zero z over not = (over, not)
arrays_over w n (suc d) z over not = let inside = arrays_over w n d z over not in (an_array inside.1 inside.0, λ e. cc (array_kind (arrays d z), null_kind, e))

-- ---- heads

pub place_below : {A : Type 0} (q : A → Bool) (i : ℕ) (xs : List A) (k : ℕ) → position_from q i xs ≡ Some k → k < i + length xs
place_below q i [] k e = absurd (cc e)
place_below q i (x ∷ xs) k e = split (q x) e (place_below q (i + 1) xs k)
  where
    split : (b : Bool) → (if b then Some i else position_from q (i + 1) xs) ≡ Some k → (position_from q (i + 1) xs ≡ Some k → k < (i + 1) + length xs) → k < i + length (x ∷ xs)
    split true e later = let is : i ≡ k = cc e in omega (arith, is)
    split false e later = omega (arith, later e)

takes_fit : (m k : ℕ) → takes (Some m) k ≡ true → (k ≡ 0) ⊎ (k ≡ m)
takes_fit m zero e = inl refl
takes_fit m (suc k) e = inr (sym (grind (arith, nat_tests, e)))

class_over : (p : Place) (w : World) (n : ℕ) → Fits p w n → (x : Name) (c : ℕ) (args : List JavaType) → p.mean x ≡ Some c → takes (p.params c) (length args) ≡ true
    → AreReferences args → AreOver w n args → IsTypeOver w n (ty.Class c args)
class_over p w n fits x c args mean fit refs over =
    let is = fits.known x c mean in
    a_class is.1 (elim (takes_fit is.0.params (length args) (ap (λ q. takes q (length args)) (sym is.2) ∙ fit)) [ inl none ↦ inl (empty_is args none) | inr all ↦ inr all ]) refs over

named_over : (p : Place) (w : World) (n : ℕ) → Fits p w n → (x : Name) (args : List JavaType) (v m : Option ℕ) (z : JavaType) → variable x p.vars ≡ v → p.mean x ≡ m
    → named_type p v m args ≡ Some z → IsWhole z → AreOver w n args → IsTypeOver w n z × no_null z
named_over p w n fits x [] (Some k) m z var mean e whole over =
    let is : ty.Var k ≡ z = cc e in
    let low : k < 0 + length p.vars = place_below _ 0 p.vars k var in
    (subst (IsTypeOver w n) is (a_variable (omega (arith, low, fits.vars))), λ null. cc (is ∙ null))
named_over p w n fits x (a ∷ args) (Some k) m z var mean e whole over = absurd (cc e)
named_over p w n fits x args None None z var mean e whole over = absurd (cc e)
named_over p w n fits x args None (Some c) z var mean e whole over = split (takes (p.params c) (length args)) refl e
  where
    split : (b : Bool) → takes (p.params c) (length args) ≡ b → (if b then Some (ty.Class c args) else None) ≡ Some z → IsTypeOver w n z × no_null z
    split false fit e = absurd (cc e)
    split true fit e =
        let is : ty.Class c args ≡ z = cc e in
        (subst (IsTypeOver w n) is (class_over p w n fits x c args mean fit (λ k a at. over_refers w n a (over k a at) (class_whole z whole c args (sym is) k a at).0) over), λ null. cc (class_kind c args, null_kind, is ∙ null))

head_over : (p : Place) (w : World) (n : ℕ) → Fits p w n → (h : Head) (args : List JavaType) (z : JavaType) → head_type p h args ≡ Some z → IsWhole z → AreOver w n args
    → IsTypeOver w n z × no_null z
head_over p w n fits (head.Prim q) [] z e whole over = let is : ty.Prim q ≡ z = cc e in (subst (IsTypeOver w n) is (a_primitive q), λ null. cc (is ∙ null))
head_over p w n fits (head.Prim q) (a ∷ args) z e whole over = absurd (cc e)
head_over p w n fits (head.Path []) args z e whole over = absurd (cc e)
head_over p w n fits (head.Path (x ∷ [])) args z e whole over = named_over p w n fits x args (variable x p.vars) (p.mean x) z refl refl e whole over
head_over p w n fits (head.Path (x ∷ y ∷ names)) args z e whole over = absurd (cc e)

-- the arguments of a type of a head are its own
named_args : (p : Place) (args : List JavaType) (v m : Option ℕ) (z : JavaType) → named_type p v m args ≡ Some z → IsWhole z → AreWhole args
named_args p [] (Some k) m z e whole = λ k a at. cc at
named_args p (a ∷ args) (Some k) m z e whole = absurd (cc e)
named_args p args None None z e whole = absurd (cc e)
named_args p args None (Some c) z e whole = split (takes (p.params c) (length args)) e
  where
    split : (b : Bool) → (if b then Some (ty.Class c args) else None) ≡ Some z → AreWhole args
    split false e = absurd (cc e)
    split true e = let is : ty.Class c args ≡ z = cc e in class_whole z whole c args (sym is)

head_args : (p : Place) (h : Head) (args : List JavaType) (z : JavaType) → head_type p h args ≡ Some z → IsWhole z → AreWhole args
head_args p (head.Prim q) [] z e whole = λ k a at. cc at
head_args p (head.Prim q) (a ∷ args) z e whole = absurd (cc e)
head_args p (head.Path []) args z e whole = absurd (cc e)
head_args p (head.Path (x ∷ [])) args z e whole = named_args p args (variable x p.vars) (p.mean x) z e whole
head_args p (head.Path (x ∷ y ∷ names)) args z e whole = absurd (cc e)

-- ---- written types

each : {w : World} {n : ℕ} (y : JavaType) (ys : List JavaType) → IsTypeOver w n y → AreOver w n ys → AreOver w n (y ∷ ys)
each {w} {n} y ys first rest zero a at = subst (IsTypeOver w n) (cc at) first
each y ys first rest (suc k) a at = rest k a at

mutual
  pub type_over : (p : Place) (w : World) (n : ℕ) → Fits p w n → (x : TypeExpr) (y : JavaType) → type_of p x ≡ Some y → IsWhole y → IsTypeOver w n y × no_null y
  type_over p w n fits (t.Written node h s xs d) y e whole =
      let parts = said_parts p h d (types_of p xs) y e in
      let inside = whole_inside d parts.1 (subst IsWhole parts.4 whole) in
      let made = head_over p w n fits h parts.0 parts.1 parts.3 inside (types_over p w n fits xs parts.0 parts.2 (head_args p h parts.0 parts.1 parts.3 inside)) in
      subst (λ z. IsTypeOver w n z × no_null z) (sym parts.4) (arrays_over w n d parts.1 made.0 made.1)

  types_over : (p : Place) (w : World) (n : ℕ) → Fits p w n → (xs : TypeExprs) (ys : List JavaType) → types_of p xs ≡ Some ys → AreWhole ys → AreOver w n ys
  types_over p w n fits t.NoTypes ys e whole = λ k a at. absurd (let is : [] ≡ ys = cc e in cc (ap (λ zs. slice_get zs k) is ∙ at))
  types_over p w n fits (t.AndType x xs) ys e whole =
      let parts = joined_parts (type_of p x) (types_of p xs) ys e in
      let all : AreWhole (parts.0 ∷ parts.1) = subst AreWhole parts.4 whole in
      subst (AreOver w n) (sym parts.4) (each parts.0 parts.1 (type_over p w n fits x parts.0 parts.2 (all 0 parts.0 refl).1).0 (types_over p w n fits xs parts.1 parts.3 (λ k a at. all (suc k) a at)))
