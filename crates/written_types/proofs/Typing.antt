-- A written type says a type exactly where DR1 is broken nowhere within it.
use Rattle.std.proofs.Common.{◌≡◌, ℕ, suc, Bool, true, false, not, cond, inl, inr, List, [], ◌∷◌, length, Option, Some, None, refl, sym, ap, ◌∙◌}
use Rattle.std.specs.Prelude.{option_and_then}
use Rattle.std.specs.Option.{option_map}
use Rattle.java_tree.specs.declared.tree.Head.{Head}
use Rattle.java_tree.specs.declared.tree.Head.TheVariants as head
use Rattle.java_tree.specs.Plain as t
use Rattle.java_tree.specs.Plain.{TypeExpr, TypeExprs}
use Rattle.class_world.specs.declared.world.JavaType.{JavaType}
use Rattle.class_world.specs.declared.world.JavaType.TheVariants as ty
use Rattle.written_types.specs.Places.{Place}
use Rattle.written_types.specs.Types.{variable, arrays, named_type, head_type, joined, type_of, types_of}
use Rattle.written_types.specs.Breaks.{length_of, node_of, IsOneOf, IsArgument, IsWithin, itself, below, IsIllNamed, IsTypedWhereNamed}
use Rattle.written_types.specs.declared.scope.Named.{Named}
use Rattle.written_types.specs.declared.scope.Named.TheVariants as named
use Rattle.written_types.specs.Walk.{named_by, head_named, well_by, made_by}
use Rattle.written_types.proofs.Deciding.{ill_decides}

abbrev IsTyped : Place → TypeExpr → Type 0
IsTyped p x = (y : JavaType) × (type_of p x ≡ Some y)

abbrev AreTyped : Place → TypeExprs → Type 0
AreTyped p xs = (ys : List JavaType) × (types_of p xs ≡ Some ys)

-- ---- the options

joined_parts : (a : Option JavaType) (b : Option (List JavaType)) (ys : List JavaType) → joined a b ≡ Some ys
    → (y : JavaType) × (rest : List JavaType) × (a ≡ Some y) × (b ≡ Some rest) × (ys ≡ y ∷ rest)
joined_parts None b ys e = absurd (cc e)
joined_parts (Some y) None ys e = absurd (cc e)
joined_parts (Some y) (Some rest) ys e = (y, rest, refl, refl, sym (cc e))

said_parts : (p : Place) (h : Head) (d : ℕ) (o : Option (List JavaType)) (y : JavaType) → option_map (arrays d) (option_and_then (head_type p h) o) ≡ Some y
    → (ys : List JavaType) × (z : JavaType) × (o ≡ Some ys) × (head_type p h ys ≡ Some z)
said_parts p h d None y e = absurd (cc e)
said_parts p h d (Some ys) y e = split (head_type p h ys) refl e
  where
    split : (z : Option JavaType) → head_type p h ys ≡ z → option_map (arrays d) z ≡ Some y → (xs : List JavaType) × (w : JavaType) × (Some ys ≡ Some xs) × (head_type p h xs ≡ Some w)
    split None is e = absurd (cc e)
    split (Some z) is e = (ys, z, refl, is)

types_count : (p : Place) (xs : TypeExprs) (ys : List JavaType) → types_of p xs ≡ Some ys → length ys ≡ length_of xs
types_count p t.NoTypes [] e = refl
types_count p t.NoTypes (y ∷ ys) e = absurd (cc e)
types_count p (t.AndType x xs) ys e =
    let parts = joined_parts (type_of p x) (types_of p xs) ys e in
    ap length parts.4 ∙ ap suc (types_count p xs parts.1 parts.3)

-- ---- the head

named_as : (p : Place) (v m : Option ℕ) (ys : List JavaType) → named_type p v m ys ≡ cond (well_by p (named_by v m) (length ys)) (made_by (named_by v m) ys) None
named_as p (Some k) m [] = refl
named_as p (Some k) m (y ∷ ys) = refl
named_as p None None ys = refl
named_as p None (Some c) ys = refl

-- the type that a head says
pub head_as : (p : Place) (h : Head) (ys : List JavaType) → head_type p h ys ≡ cond (well_by p (head_named p h) (length ys)) (made_by (head_named p h) ys) None
head_as p (head.Prim q) [] = refl
head_as p (head.Prim q) (y ∷ ys) = refl
head_as p (head.Path []) ys = refl
head_as p (head.Path (n ∷ [])) ys = named_as p (variable n p.vars) (p.mean n) ys
head_as p (head.Path (n ∷ m ∷ names)) ys = refl

made_well : (p : Place) (m : Named) (ys : List JavaType) → well_by p m (length ys) ≡ true → (y : JavaType) × (made_by m ys ≡ Some y)
made_well p (named.Primitive q) ys e = (ty.Prim q, refl)
made_well p (named.Variable k) ys e = (ty.Var k, refl)
made_well p (named.Type c) ys e = (ty.Class c ys, refl)
made_well p named.Nothing ys e = absurd (cc e)

head_typed : (p : Place) (h : Head) (ys : List JavaType) → well_by p (head_named p h) (length ys) ≡ true → (y : JavaType) × (head_type p h ys ≡ Some y)
head_typed p h ys e =
    let made = made_well p (head_named p h) ys e in
    (made.0, head_as p h ys ∙ ap (λ b. cond b (made_by (head_named p h) ys) None) e ∙ made.1)

head_untyped : (p : Place) (h : Head) (ys : List JavaType) → well_by p (head_named p h) (length ys) ≡ false → head_type p h ys ≡ None
head_untyped p h ys e = head_as p h ys ∙ ap (λ b. cond b (made_by (head_named p h) ys) None) e

-- ---- where a type is said, nothing is ill-named

untrue : (b : Bool) → not b ≡ true → b ≡ false
untrue true e = absurd (cc e)
untrue false e = refl

own_named : (p : Place) (x : TypeExpr) (y : JavaType) → type_of p x ≡ Some y → IsIllNamed p x → ⊥
own_named p (t.Written n h s xs d) y e ill =
    let parts = said_parts p h d (types_of p xs) y e in
    let count = types_count p xs parts.0 parts.2 in
    let test = ap (well_by p (head_named p h)) count ∙ untrue (well_by p (head_named p h) (length_of xs)) ((ill_decides p (t.Written n h s xs d)).1 ill) in
    cc (sym (head_untyped p h parts.0 test) ∙ parts.3)

one_typed : (p : Place) (xs : TypeExprs) (y : TypeExpr) (ys : List JavaType) → types_of p xs ≡ Some ys → IsOneOf xs y → IsTyped p y
one_typed p t.NoTypes y ys e h = absurd h
one_typed p (t.AndType x xs) y ys e (inl is) =
    let parts = joined_parts (type_of p x) (types_of p xs) ys e in
    (parts.0, ap (type_of p) is ∙ parts.2)
one_typed p (t.AndType x xs) y ys e (inr rest) =
    let parts = joined_parts (type_of p x) (types_of p xs) ys e in
    one_typed p xs y parts.1 parts.3 rest

argument_typed : (p : Place) (x y : TypeExpr) (z : JavaType) → type_of p x ≡ Some z → IsArgument x y → IsTyped p y
argument_typed p (t.Written n h s xs d) y z e arg =
    let parts = said_parts p h d (types_of p xs) z e in
    one_typed p xs y parts.0 parts.2 arg

all_named : (p : Place) (x z : TypeExpr) (y : JavaType) → type_of p x ≡ Some y → IsWithin x z → IsIllNamed p z → ⊥
all_named p x z y e (itself w) ill = own_named p x y e ill
all_named p x z y e (below v w u arg within) ill =
    let typed = argument_typed p x w y e arg in
    all_named p w z typed.0 typed.1 within ill

-- ---- where nothing is ill-named, a type is said

abbrev NoneWithin : Place → TypeExpr → Type 0
NoneWithin p x = (z : TypeExpr) → IsWithin x z → IsIllNamed p z → ⊥

mutual
  typed : (p : Place) (x : TypeExpr) → NoneWithin p x → IsTyped p x
  typed p (t.Written n h s xs d) none =
      let x = t.Written n h s xs d in
      let args = all_typed p xs (λ y arg z within ill. none z (below x y z arg within) ill) in
      let count = types_count p xs args.0 args.1 in
      let test = ap (well_by p (head_named p h)) count ∙ well (well_by p (head_named p h) (length_of xs)) refl in
      let own = head_typed p h args.0 test in
      (arrays d own.0, ap (λ o. option_map (arrays d) (option_and_then (head_type p h) o)) args.1 ∙ ap (option_map (arrays d)) own.1)
    where
      well : (b : Bool) → well_by p (head_named p h) (length_of xs) ≡ b → b ≡ true
      well true is = refl
      well false is = absurd (none (t.Written n h s xs d) (itself (t.Written n h s xs d)) ((ill_decides p (t.Written n h s xs d)).0 (ap not is)))

  all_typed : (p : Place) (xs : TypeExprs) → ((y : TypeExpr) → IsOneOf xs y → NoneWithin p y) → AreTyped p xs
  all_typed p t.NoTypes none = ([], refl)
  all_typed p (t.AndType x xs) none =
      let first = typed p x (none x (inl refl)) in
      let rest = all_typed p xs (λ y h. none y (inr h)) in
      (first.0 ∷ rest.0, ap (λ o. joined o (types_of p xs)) first.1 ∙ ap (joined (Some first.0)) rest.1)

pub typed_where_named : (p : Place) (x : TypeExpr) → IsTypedWhereNamed p x
typed_where_named p x = (
  λ h b broken. all_named p x broken.0 h.0 h.1 broken.1 broken.2.2,
  λ none. typed p x (λ z within ill. none (record { node = (node_of z).id; rule = 1 }) (z, within, (refl, refl, ill))),
)
