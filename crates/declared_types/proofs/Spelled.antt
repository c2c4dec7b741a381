-- Two written types that say a type say the same exactly if they are spelled alike.
use Rattle.std.proofs.Common.{◌≡◌, ℕ, zero, suc, Bool, true, false, cond, List, [], ◌∷◌, ◌++◌, length, Option, Some, None, refl, sym, ap, subst, ◌∙◌, append_assoc}
use Rattle.std.specs.Prelude.{option_and_then}
use Rattle.std.specs.Option.{option_map}
use Rattle.java_tree.specs.declared.tree.Head.{Head}
use Rattle.java_tree.specs.declared.tree.Primitive.{Primitive}
use Rattle.java_tree.specs.declared.tree.Primitive.TheVariants as prim
use Rattle.java_tree.specs.Plain as t
use Rattle.java_tree.specs.Plain.{TypeExpr, TypeExprs}
use Rattle.class_world.specs.declared.world.JavaType.{JavaType}
use Rattle.class_world.specs.declared.world.JavaType.TheVariants as ty
use Rattle.class_world.proofs.Forms.{primitive_kind, class_kind, variable_kind, array_kind, same_primitive, same_variable, same_class, same_element}
use Rattle.written_types.specs.Places.{Place}
use Rattle.written_types.specs.Types.{takes, arrays, head_type, joined, type_of, types_of}
use Rattle.written_types.specs.Breaks.{length_of}
use Rattle.written_types.specs.declared.scope.Named.{Named}
use Rattle.written_types.specs.declared.scope.Named.TheVariants as named
use Rattle.written_types.specs.Walk.{head_named, well_by, made_by}
use Rattle.written_types.proofs.Typing.{head_as}
use Rattle.declared_types.specs.declared.spelling.Sign.{Sign}
use Rattle.declared_types.specs.declared.spelling.Sign.TheVariants as sign
use Rattle.declared_types.specs.Spelling.{head_sign, spelled, all_spelled}

-- ---- heads

same_primitive_sign : (q r : Primitive) → head_sign (named.Primitive q) ≡ head_sign (named.Primitive r) → q ≡ r
same_primitive_sign prim.Int prim.Int e = refl
same_primitive_sign prim.Long prim.Long e = refl
same_primitive_sign prim.Char prim.Char e = refl
same_primitive_sign prim.Boolean prim.Boolean e = refl
same_primitive_sign _ _ e = absurd (cc e)

same_head : (m n : Named) → head_sign m ≡ head_sign n → m ≡ n
same_head (named.Primitive q) (named.Primitive r) e = ap named.Primitive (same_primitive_sign q r e)
same_head (named.Primitive prim.Int) _ e = absurd (cc e)
same_head (named.Primitive prim.Long) _ e = absurd (cc e)
same_head (named.Primitive prim.Char) _ e = absurd (cc e)
same_head (named.Primitive prim.Boolean) _ e = absurd (cc e)
same_head _ (named.Primitive prim.Int) e = absurd (cc e)
same_head _ (named.Primitive prim.Long) e = absurd (cc e)
same_head _ (named.Primitive prim.Char) e = absurd (cc e)
same_head _ (named.Primitive prim.Boolean) e = absurd (cc e)
same_head (named.Variable j) (named.Variable k) e = ap named.Variable (cc e)
same_head (named.Type c) (named.Type d) e = ap named.Type (cc e)
same_head named.Nothing named.Nothing e = refl
same_head _ _ e = absurd (cc e)

abbrev type_by : Place → Named → List JavaType → Option JavaType
type_by p m ys = cond (well_by p m (length ys)) (made_by m ys) None

head_alike : (p : Place) (h k : Head) (o : Option (List JavaType)) → head_named p h ≡ head_named p k → option_and_then (head_type p h) o ≡ option_and_then (head_type p k) o
head_alike p h k None e = refl
head_alike p h k (Some ys) e = head_as p h ys ∙ ap (λ m. type_by p m ys) e ∙ sym (head_as p k ys)

-- ---- what is spelled alike says the same

mutual
  pub same_type : (p : Place) (x y : TypeExpr) (us vs : List Sign) → spelled p x ++ us ≡ spelled p y ++ vs → (type_of p x ≡ type_of p y) × (us ≡ vs)
  same_type p (t.Written n h s xs d) (t.Written m k r ys e) us vs is =
      let levels : d ≡ e = cc is in
      let heads : head_sign (head_named p h) ≡ head_sign (head_named p k) = cc is in
      let counts : length_of xs ≡ length_of ys = cc is in
      let args = same_types p xs ys us vs counts (cc is) in (
        ap (λ n. option_map (arrays n) (option_and_then (head_type p h) (types_of p xs))) levels
            ∙ ap (λ o. option_map (arrays e) (option_and_then (head_type p h) o)) args.0
            ∙ ap (option_map (arrays e)) (head_alike p h k (types_of p ys) (same_head (head_named p h) (head_named p k) heads)),
        args.1,
      )

  same_types : (p : Place) (xs ys : TypeExprs) (us vs : List Sign) → length_of xs ≡ length_of ys → all_spelled p xs ++ us ≡ all_spelled p ys ++ vs → (types_of p xs ≡ types_of p ys) × (us ≡ vs)
  same_types p t.NoTypes t.NoTypes us vs count is = (refl, is)
  same_types p t.NoTypes (t.AndType y ys) us vs count is = absurd (cc count)
  same_types p (t.AndType x xs) t.NoTypes us vs count is = absurd (cc count)
  same_types p (t.AndType x xs) (t.AndType y ys) us vs count is =
      let one =
      same_type p x y (all_spelled p xs ++ us) (all_spelled p ys ++ vs) (sym (append_assoc (spelled p x) (all_spelled p xs) us) ∙ is ∙ append_assoc (spelled p y) (all_spelled p ys) vs) in
      let rest = same_types p xs ys us vs (cc count) one.1 in
      (ap (λ o. joined o (types_of p xs)) one.0 ∙ ap (joined (type_of p y)) rest.0, rest.1)

-- ---- what says the same is spelled alike

-- a type that a head says
record IsHead (p : Place) (m : Named) (ys : List JavaType) (z : JavaType) : Type 0 where
  well : well_by p m (length ys) ≡ true
  made : made_by m ys ≡ Some z

head_of_type : (p : Place) (m : Named) (ys : List JavaType) (z : JavaType) → type_by p m ys ≡ Some z → IsHead p m ys z
head_of_type p m ys z e = split (well_by p m (length ys)) refl e
  where
    split : (b : Bool) → well_by p m (length ys) ≡ b → cond b (made_by m ys) None ≡ Some z → IsHead p m ys z
    split true is e = record { well = is; made = e }
    split false is e = absurd (cc e)

none_taken : (ys : List JavaType) → takes None (length ys) ≡ true → ys ≡ []
none_taken [] e = refl
none_taken (y ∷ ys) e = absurd (cc e)

-- the type that is made of each sort of name
primitive_is : (p : Place) (q : Primitive) (ys : List JavaType) (z : JavaType) → IsHead p (named.Primitive q) ys z → (ty.Prim q ≡ z) × (ys ≡ [])
primitive_is p q ys z h = let made = h.made in (cc made, none_taken ys h.well)

variable_is : (p : Place) (k : ℕ) (ys : List JavaType) (z : JavaType) → IsHead p (named.Variable k) ys z → (ty.Var k ≡ z) × (ys ≡ [])
variable_is p k ys z h = let made = h.made in (cc made, none_taken ys h.well)

class_is : (p : Place) (c : ℕ) (ys : List JavaType) (z : JavaType) → IsHead p (named.Type c) ys z → ty.Class c ys ≡ z
class_is p c ys z h = let made = h.made in cc made

nothing_is : (p : Place) (ys : List JavaType) (z : JavaType) → IsHead p named.Nothing ys z → ⊥
nothing_is p ys z h = let made = h.made in cc made

-- no array
flat : (p : Place) (m : Named) (ys : List JavaType) (z x : JavaType) → IsHead p m ys z → z ≡ ty.Array x → ⊥
flat p (named.Primitive q) ys z x h e = let is = (primitive_is p q ys z h).0 in absurd (cc (primitive_kind q, array_kind x, is, e))
flat p (named.Variable k) ys z x h e = let is = (variable_is p k ys z h).0 in absurd (cc (variable_kind k, array_kind x, is, e))
flat p (named.Type c) ys z x h e = let is = class_is p c ys z h in absurd (cc (class_kind c ys, array_kind x, is, e))
flat p named.Nothing ys z x h e = absurd (nothing_is p ys z h)

one_array : (d e : ℕ) (z w : JavaType) → ((x : JavaType) → z ≡ ty.Array x → ⊥) → ((x : JavaType) → w ≡ ty.Array x → ⊥) → arrays d z ≡ arrays e w → (d ≡ e) × (z ≡ w)
one_array zero zero z w f g is = (refl, is)
one_array zero (suc e) z w f g is = absurd (f (arrays e w) is)
one_array (suc d) zero z w f g is = absurd (g (arrays d z) (sym is))
one_array (suc d) (suc e) z w f g is = let below = one_array d e z w f g (same_element (arrays d z) (arrays e w) is) in (ap suc below.0, below.1)

one_head : (p : Place) (m n : Named) (ys zs : List JavaType) (w : JavaType) → IsHead p m ys w → IsHead p n zs w → (m ≡ n) × (ys ≡ zs)
one_head p (named.Primitive q) (named.Primitive r) ys zs w f g =
    let a = primitive_is p q ys w f in
    let b = primitive_is p r zs w g in
    (ap named.Primitive (same_primitive q r (a.0 ∙ sym b.0)), a.1 ∙ sym b.1)
one_head p (named.Primitive q) (named.Variable k) ys zs w f g =
    let a = (primitive_is p q ys w f).0 in let b = (variable_is p k zs w g).0 in absurd (cc (primitive_kind q, variable_kind k, a, b))
one_head p (named.Primitive q) (named.Type d) ys zs w f g =
    let a = (primitive_is p q ys w f).0 in let b = class_is p d zs w g in absurd (cc (primitive_kind q, class_kind d zs, a, b))
one_head p (named.Variable j) (named.Primitive r) ys zs w f g =
    let a = (variable_is p j ys w f).0 in let b = (primitive_is p r zs w g).0 in absurd (cc (variable_kind j, primitive_kind r, a, b))
one_head p (named.Variable j) (named.Variable k) ys zs w f g =
    let a = variable_is p j ys w f in
    let b = variable_is p k zs w g in
    (ap named.Variable (same_variable j k (a.0 ∙ sym b.0)), a.1 ∙ sym b.1)
one_head p (named.Variable j) (named.Type d) ys zs w f g =
    let a = (variable_is p j ys w f).0 in let b = class_is p d zs w g in absurd (cc (variable_kind j, class_kind d zs, a, b))
one_head p (named.Type c) (named.Primitive r) ys zs w f g =
    let a = class_is p c ys w f in let b = (primitive_is p r zs w g).0 in absurd (cc (class_kind c ys, primitive_kind r, a, b))
one_head p (named.Type c) (named.Variable k) ys zs w f g =
    let a = class_is p c ys w f in let b = (variable_is p k zs w g).0 in absurd (cc (class_kind c ys, variable_kind k, a, b))
one_head p (named.Type c) (named.Type d) ys zs w f g =
    let same = same_class c d ys zs (class_is p c ys w f ∙ sym (class_is p d zs w g)) in
    (ap named.Type same.0, same.1)
one_head p named.Nothing n ys zs w f g = absurd (nothing_is p ys w f)
one_head p m named.Nothing ys zs w f g = absurd (nothing_is p zs w g)

-- the parts of what is said
record AreParts (p : Place) (h : Head) (xs : TypeExprs) (d : ℕ) (y : JavaType) : Type 0 where
  args : List JavaType
  own : JavaType
  are : types_of p xs ≡ Some args
  head : IsHead p (head_named p h) args own
  is : arrays d own ≡ y

parts_of : (p : Place) (h : Head) (xs : TypeExprs) (d : ℕ) (y : JavaType) → option_map (arrays d) (option_and_then (head_type p h) (types_of p xs)) ≡ Some y → AreParts p h xs d y
parts_of p h xs d y e = split (types_of p xs) refl e
  where
    in_head : (ys : List JavaType) (o : Option JavaType) → types_of p xs ≡ Some ys → head_type p h ys ≡ o → option_map (arrays d) o ≡ Some y → AreParts p h xs d y
    in_head ys None are is e = absurd (cc e)
    in_head ys (Some z) are is e = record { args = ys; own = z; are = are; head = head_of_type p (head_named p h) ys z (sym (head_as p h ys) ∙ is); is = cc e }

    split : (o : Option (List JavaType)) → types_of p xs ≡ o → option_map (arrays d) (option_and_then (head_type p h) o) ≡ Some y → AreParts p h xs d y
    split None is e = absurd (cc e)
    split (Some ys) is e = in_head ys (head_type p h ys) is refl e

joined_parts : (a : Option JavaType) (b : Option (List JavaType)) (ys : List JavaType) → joined a b ≡ Some ys → (y : JavaType) × (rest : List JavaType) × (a ≡ Some y) × (b ≡ Some rest) × (ys ≡ y ∷ rest)
joined_parts None b ys e = absurd (cc e)
joined_parts (Some y) None ys e = absurd (cc e)
joined_parts (Some y) (Some rest) ys e = (y, rest, refl, refl, sym (cc e))

mutual
  pub one_spelling : (p : Place) (x y : TypeExpr) (z : JavaType) → type_of p x ≡ Some z → type_of p y ≡ Some z → spelled p x ≡ spelled p y
  one_spelling p (t.Written n h s xs d) (t.Written m k r ys e) z is same =
      let a = parts_of p h xs d z is in
      let b = parts_of p k ys e z same in
      let level = one_array d e a.own b.own (λ x. flat p (head_named p h) a.args a.own x a.head) (λ x. flat p (head_named p k) b.args b.own x b.head) (a.is ∙ sym b.is) in
      let head = one_head p (head_named p h) (head_named p k) a.args b.args b.own (subst (IsHead p (head_named p h) a.args) level.1 a.head) b.head in
      let args = one_row p xs ys b.args (a.are ∙ ap Some head.1) b.are in
      let all : ℕ → Named → ℕ → List Sign → List Sign = λ d m n rest. (sign.Levels d ∷ head_sign m ∷ sign.Arguments n ∷ []) ++ rest in
      ap (λ d. all d (head_named p h) (length_of xs) (all_spelled p xs)) level.0 ∙ ap (λ m. all e m (length_of xs) (all_spelled p xs)) head.0
      ∙ ap (λ n. all e (head_named p k) n (all_spelled p xs)) args.0 ∙ ap (all e (head_named p k) (length_of ys)) args.1

  one_row : (p : Place) (xs ys : TypeExprs) (zs : List JavaType) → types_of p xs ≡ Some zs → types_of p ys ≡ Some zs → (length_of xs ≡ length_of ys) × (all_spelled p xs ≡ all_spelled p ys)
  one_row p t.NoTypes t.NoTypes zs e f = (refl, refl)
  one_row p t.NoTypes (t.AndType y ys) zs e f = let parts = joined_parts (type_of p y) (types_of p ys) zs f in absurd (let more = parts.4 in cc (more, e))
  one_row p (t.AndType x xs) t.NoTypes zs e f = let parts = joined_parts (type_of p x) (types_of p xs) zs e in absurd (let more = parts.4 in cc (more, f))
  one_row p (t.AndType x xs) (t.AndType y ys) zs e f =
      let a = joined_parts (type_of p x) (types_of p xs) zs e in
      let b = joined_parts (type_of p y) (types_of p ys) zs f in
      let same = sym a.4 ∙ b.4 in
      let first : a.0 ≡ b.0 = cc same in
      let later : a.1 ≡ b.1 = cc same in
      let one = one_spelling p x y b.0 (a.2 ∙ ap Some first) b.2 in
      let rest = one_row p xs ys b.1 (a.3 ∙ ap Some later) b.3 in
      (ap suc rest.0, ap (λ l. l ++ all_spelled p xs) one ∙ ap (λ l. spelled p y ++ l) rest.1)
