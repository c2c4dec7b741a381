-- The rules on members speak of a world's types and methods alone: they are broken alike in two worlds that have the same.
use Rattle.std.proofs.Common.{◌≡◌, ℕ, ◌⊎◌, inl, inr, List, Option, Some, None, slice_get, sym, ◌∙◌, ap}
use Rattle.rule_order.specs.declared.Breach.{Breach}
use Rattle.java_tree.specs.declared.tree.Mod.{Mod}
use Rattle.class_world.specs.declared.world.World.{World}
use Rattle.class_world.specs.declared.world.TypeInfo.{TypeInfo}
use Rattle.class_world.specs.declared.world.MethodInfo.{MethodInfo}
use Rattle.class_world.specs.declared.world.JavaType.{JavaType}
use Rattle.class_world.specs.Access.{IsInterface}
use Rattle.class_world.specs.DirectSupers.{IsDirectSuper}
use Rattle.class_world.specs.Subtypes.{Subtype, same, through, declared, object, raw, null, arrays, char_int, int_long, IsUnchecked, Fits}
use Rattle.class_world.specs.Signatures.{IsSeenWith, IsMethod, HasParams, HaveOneName, HaveOneSignatureIn, AgreeBelow}
use Rattle.class_world.specs.Inheritance.{IsDirectlyAbove, DeclaresMethod, IsPrivateMethod, IsMemberMethod, Inherits}
use Rattle.class_world.specs.Inheritance as inheritance
use Rattle.class_world.specs.Overriding.{IsInstanceMethod, AreInstanceMethods, IsClass, IsSuperclass, IsSuperinterface, InheritsBoth, Replaces, MeetIn, OverridesAtOnce, Overriding}
use Rattle.class_world.specs.Overriding as overriding
use Rattle.class_world.specs.Counted.{IsOfClass}
use Rattle.seen_methods.specs.Seen.{HasResult}
use Rattle.override_rules.specs.Rules.{Suits, BreaksResult, IsWeaker, IsUncheckedException, ThrowsMore, HasMod, AreOfOneKind, TakesPlace, OverrideBreaches}
use Rattle.override_rules.specs.Rules as over
use Rattle.inherited_rules.specs.Rules.{IsAbstractMethod, IsConcrete, LacksBody, FitsResult, IsInherited, AreOverridden, HasUnlikeResults, HaveOneErasure, HasClash, InheritedBreaches}
use Rattle.inherited_rules.specs.Rules as inherited_rules
use Rattle.member_table.specs.Table.{MemberBreaches}

pub record AreAlike (w v : World) : Type 0 where
  pub types : w.types ≡ v.types
  pub methods : w.methods ≡ v.methods

back : (w v : World) → AreAlike w v → AreAlike v w
back w v l = record { types = sym l.types; methods = sym l.methods }

-- ---- types

known : (w v : World) → AreAlike w v → (c : ℕ) (info : TypeInfo) → slice_get w.types c ≡ Some info → slice_get v.types c ≡ Some info
known w v l c info h = ap (λ (ts : List TypeInfo). slice_get ts c) (sym l.types) ∙ h

direct : (w v : World) → AreAlike w v → (c : ℕ) (d : JavaType) → IsDirectSuper w c d → IsDirectSuper v c d
direct w v l c d h = (h.0, known w v l c h.0 h.1, h.2, h.3)

subtype : (w v : World) → AreAlike w v → (s t : JavaType) → Subtype w s t → Subtype v s t
subtype w v l s t same = same
subtype w v l s t (through {m = m} a b) = through (subtype w v l s m a) (subtype w v l m t b)
subtype w v l s t (declared {c = c} {args = xs} h) = declared (h.0, known w v l c h.0 h.1, h.2, h.3, h.4, h.5)
subtype w v l s t (object r) = object r
subtype w v l s t (raw c xs) = raw c xs
subtype w v l s t (null r) = null r
subtype w v l s t (arrays {s = x} {t = y} r r' h) = arrays r r' (subtype w v l x y h)
subtype w v l s t char_int = char_int
subtype w v l s t int_long = int_long

unchecked : (w v : World) → AreAlike w v → (s t : JavaType) → IsUnchecked w s t → IsUnchecked v s t
unchecked w v l s t h = (h.0, h.1, subtype w v l s _ h.2, λ u p b. h.3 u p (subtype v w (back w v l) s u b))

fits : (w v : World) → AreAlike w v → (s t : JavaType) → Fits w s t → Fits v s t
fits w v l s t (inl h) = inl (subtype w v l s t h)
fits w v l s t (inr h) = inr (unchecked w v l s t h)

interface : (w v : World) → AreAlike w v → (c : ℕ) → IsInterface w c → IsInterface v c
interface w v l c h = (h.0, known w v l c h.0 h.1, h.2)

is_class : (w v : World) → AreAlike w v → (c : ℕ) → IsClass w c → IsClass v c
is_class w v l c h = (h.0, known w v l c h.0 h.1, h.2)

directly_above : (w v : World) → AreAlike w v → (c s : ℕ) → IsDirectlyAbove w c s → IsDirectlyAbove v c s
directly_above w v l c s (inl h) = inl (h.0, direct w v l c _ h.1)
directly_above w v l c s (inr h) = inr (h.0, (h.1.0, known w v l c h.1.0 h.1.1, h.1.2, h.1.3))

superclass : (w v : World) → AreAlike w v → (c s : ℕ) → IsSuperclass w c s → IsSuperclass v c s
superclass w v l c s h = (is_class w v l c h.0, (h.1.0, direct w v l c _ h.1.1), is_class w v l s h.2)

superinterface : (w v : World) → AreAlike w v → (c i : ℕ) → IsSuperinterface w c i → IsSuperinterface v c i
superinterface w v l c i h = ((h.0.0, direct w v l c _ h.0.1), interface w v l i h.1)

-- ---- methods and signatures

there : (w v : World) → AreAlike w v → (m : ℕ) (info : MethodInfo) → slice_get w.methods m ≡ Some info → slice_get v.methods m ≡ Some info
there w v l m info h = ap (λ (ms : List MethodInfo). slice_get ms m) (sym l.methods) ∙ h

method : (w v : World) → AreAlike w v → (m : ℕ) (info : MethodInfo) → IsMethod w m info → IsMethod v m info
method w v l m info h = (there w v l m info h.0, h.1)

seen_with : (w v : World) → AreAlike w v → (c g : ℕ) (args : List JavaType) → IsSeenWith w c g args → IsSeenWith v c g args
seen_with w v l c g args h = (h.0, known w v l c h.0 h.1, h.2, known w v l g h.2 h.3, h.4, subtype w v l _ _ h.5)

params : (w v : World) → AreAlike w v → (c m : ℕ) (ps : List JavaType) → HasParams w c m ps → HasParams v c m ps
params w v l c m ps h = (h.0, method w v l m h.0 h.1, h.2, seen_with w v l c _ h.2 h.3, h.4)

result : (w v : World) → AreAlike w v → (c m : ℕ) (r : Option JavaType) → HasResult w c m r → HasResult v c m r
result w v l c m r h = (h.0, method w v l m h.0 h.1, h.2, seen_with w v l c _ h.2 h.3, h.4)

one_name : (w v : World) → AreAlike w v → (m k : ℕ) → HaveOneName w m k → HaveOneName v m k
one_name w v l m k h = (h.0, h.1, method w v l m h.0 h.2, method w v l k h.1 h.3, h.4)

one_signature : (w v : World) → AreAlike w v → (c m k : ℕ) → HaveOneSignatureIn w c m k → HaveOneSignatureIn v c m k
one_signature w v l c m k h = (one_name w v l m k h.0, (h.1.0, params w v l c m h.1.0 h.1.1, params w v l c k h.1.0 h.1.2))

agree : (w v : World) → AreAlike w v → (m k : ℕ) → AgreeBelow w m k → AgreeBelow v m k
agree w v l m k h c i j xs ys a b p q =
    let r = back w v l in
    one_signature w v l c m k (h c i j xs ys (method v w r m i a) (method v w r k j b) (seen_with v w r c _ xs p) (seen_with v w r c _ ys q))

declares : (w v : World) → AreAlike w v → (c m : ℕ) → DeclaresMethod w c m → DeclaresMethod v c m
declares w v l c m h = (h.0, method w v l m h.0 h.1, h.2)

private : (w v : World) → AreAlike w v → (m : ℕ) → IsPrivateMethod w m → IsPrivateMethod v m
private w v l m h = (h.0, there w v l m h.0 h.1, h.2)

-- ---- members

member : (w v : World) → AreAlike w v → (c m : ℕ) → IsMemberMethod w c m → IsMemberMethod v c m
member w v l c m (inheritance.declared h) = inheritance.declared (declares w v l c m h)
member w v l c m (inheritance.inherited {s = s} above h open_ none) =
    let r = back w v l in
    inheritance.inherited (directly_above w v l c s above) (member w v l s m h) (λ p. open_ (private v w r m p))
    (λ k d same. none k (declares v w r c k d) (one_signature v w r c k m same))

inherits : (w v : World) → AreAlike w v → (c s m : ℕ) → Inherits w c s m → Inherits v c s m
inherits w v l c s m h =
    let r = back w v l in
    (directly_above w v l c s h.0, member w v l s m h.1, λ p. h.2 (private v w r m p), λ k d one. h.3 k (declares v w r c k d) (one_signature v w r c k m one))

inherits_both : (w v : World) → AreAlike w v → (c m k : ℕ) → InheritsBoth w c m k → InheritsBoth v c m k
inherits_both w v l c m k h = (
  (h.0.0, superclass w v l c h.0.0 h.0.1, inherits w v l c h.0.0 m h.0.2),
  (h.1.0, superinterface w v l c h.1.0 h.1.1, inherits w v l c h.1.0 k h.1.2),
  (h.2.0, declares w v l h.2.0 m h.2.1, is_class w v l h.2.0 h.2.2),
)

replaces : (w v : World) → AreAlike w v → (c m k : ℕ) → Replaces w c m k → Replaces v c m k
replaces w v l c m k h =
    (declares w v l c m h.0, (h.1.0, directly_above w v l c h.1.0 h.1.1, member w v l h.1.0 k h.1.2), λ p. h.2 (private v w (back w v l) k p), one_signature w v l c m k h.3)

meet : (w v : World) → AreAlike w v → (c m k : ℕ) → MeetIn w c m k → MeetIn v c m k
meet w v l c m k h = (inherits_both w v l c m k h.0, h.1, one_signature w v l c m k h.2)

instance : (w v : World) → AreAlike w v → (m : ℕ) → IsInstanceMethod w m → IsInstanceMethod v m
instance w v l m h = (h.0, method w v l m h.0 h.1, h.2)

instances : (w v : World) → AreAlike w v → (m k : ℕ) → AreInstanceMethods w m k → AreInstanceMethods v m k
instances w v l m k h = (instance w v l m h.0, instance w v l k h.1)

at_once : (w v : World) → AreAlike w v → (m k : ℕ) → OverridesAtOnce w m k → OverridesAtOnce v m k
at_once w v l m k (overriding.declared {c = c} h are) = overriding.declared (replaces w v l c m k h) (instances w v l m k are)
at_once w v l m k (overriding.inherited {c = c} h are all) = overriding.inherited (meet w v l c m k h) (instances w v l m k are) (agree w v l m k all)

overrides : (w v : World) → AreAlike w v → (m k : ℕ) → Overriding w m k → Overriding v m k
overrides w v l m k (overriding.at_once h) = overriding.at_once (at_once w v l m k h)
overrides w v l m k (overriding.through {t = t} h more other all) = overriding.through (overrides w v l m t h) (overrides w v l t k more) other (agree w v l m k all)

-- ---- DR13 to DR17

suits : (w v : World) → AreAlike w v → (r q : Option JavaType) → Suits w r q → Suits v r q
suits w v l None None h = tt
suits w v l (Some s) (Some t) (inl h) = inl h
suits w v l (Some s) (Some t) (inr h) = inr (h.0, subtype w v l s t h.1)
suits w v l None (Some t) h = absurd h
suits w v l (Some s) None h = absurd h

breaks_result : (w v : World) → AreAlike w v → (c m k : ℕ) → BreaksResult w c m k → BreaksResult v c m k
breaks_result w v l c m k h = (h.0, h.1, result w v l c m h.0 h.2, result w v l c k h.1 h.3, λ s. h.4 (suits v w (back w v l) h.0 h.1 s))

weaker : (w v : World) → AreAlike w v → (m k : ℕ) → IsWeaker w m k → IsWeaker v m k
weaker w v l m k h = (h.0, h.1, method w v l m h.0 h.2, method w v l k h.1 h.3, h.4, h.5, known w v l _ h.4 h.6, known w v l _ h.5 h.7, h.8)

unchecked_exception : (w v : World) → AreAlike w v → (t : JavaType) → IsUncheckedException w t → IsUncheckedException v t
unchecked_exception w v l t (inl h) = inl (subtype w v l t _ h)
unchecked_exception w v l t (inr h) = inr (subtype w v l t _ h)

throws_more : (w v : World) → AreAlike w v → (m k : ℕ) → ThrowsMore w m k → ThrowsMore v m k
throws_more w v l m k h =
    let r = back w v l in
    (h.0, h.1, method w v l m h.0 h.2, method w v l k h.1 h.3, h.4, h.5, λ u. h.6 (unchecked_exception v w r h.4 u), λ f there_ below. h.7 f there_ (subtype v w r h.4 f below))

has_mod : (w v : World) → AreAlike w v → (m : ℕ) (x : Mod) → HasMod w m x → HasMod v m x
has_mod w v l m x h = (h.0, method w v l m h.0 h.1, h.2)

one_kind : (w v : World) → AreAlike w v → (m k : ℕ) → AreOfOneKind w m k → AreOfOneKind v m k
one_kind w v l m k (inl h) = inl (has_mod w v l m _ h.0, has_mod w v l k _ h.1)
one_kind w v l m k (inr h) = let r = back w v l in inr (λ s. h.0 (has_mod v w r m _ s), λ s. h.1 (has_mod v w r k _ s))

breaks_over : (w v : World) → AreAlike w v → (c m k n : ℕ) → over.Breaks w c m k n → over.Breaks v c m k n
breaks_over w v l c m k n (over.result kind h) = over.result (one_kind w v l m k kind) (breaks_result w v l c m k h)
breaks_over w v l c m k n (over.access_of kind h) = over.access_of (one_kind w v l m k kind) (weaker w v l m k h)
breaks_over w v l c m k n (over.throws kind h) = over.throws (one_kind w v l m k kind) (throws_more w v l m k h)
breaks_over w v l c m k n (over.final kind h) = over.final (one_kind w v l m k kind) (has_mod w v l k _ h)
breaks_over w v l c m k n (over.static other) = over.static (λ kind. other (one_kind v w (back w v l) m k kind))

takes_place : (w v : World) → AreAlike w v → (m k : ℕ) → TakesPlace w m k → TakesPlace v m k
takes_place w v l m k (over.at_once {c = c} h) = over.at_once (replaces w v l c m k h)
takes_place w v l m k (over.further {c = c} {t = t} h more) = over.further (replaces w v l c m t h) (takes_place w v l t k more)

agree_or_other : (w v : World) → AreAlike w v → (m k : ℕ) → AgreeBelow w m k ⊎ (AreOfOneKind w m k → ⊥) → AgreeBelow v m k ⊎ (AreOfOneKind v m k → ⊥)
agree_or_other w v l m k (inl h) = inl (agree w v l m k h)
agree_or_other w v l m k (inr h) = inr (λ kind. h (one_kind v w (back w v l) m k kind))

of_overriding : (w v : World) → AreAlike w v → (b : Breach) → OverrideBreaches w b → OverrideBreaches v b
of_overriding w v l b (over.declared {c = c} {m = m} {k = k} {info = info} d place breaks at node) =
    over.declared (declares w v l c m d) (takes_place w v l m k place) (breaks_over w v l c m k b.rule breaks) (there w v l m info at) node
of_overriding w v l b (over.inherited {c = c} {m = m} {k = k} {info = info} both all breaks at node) =
    over.inherited (meet w v l c m k both) (agree_or_other w v l m k all) (breaks_over w v l c m k b.rule breaks) (known w v l c info at) node

-- ---- DR18 to DR20

abstract_method : (w v : World) → AreAlike w v → (m : ℕ) → IsAbstractMethod w m → IsAbstractMethod v m
abstract_method w v l m (info, is, inl h) = (info, method w v l m info is, inl h)
abstract_method w v l m (info, is, inr h) = (info, method w v l m info is, inr (interface w v l _ h))

concrete : (w v : World) → AreAlike w v → (c : ℕ) → IsConcrete w c → IsConcrete v c
concrete w v l c h = (h.0, known w v l c h.0 h.1, λ i. h.2 (interface v w (back w v l) c i), h.3)

lacks_body : (w v : World) → AreAlike w v → (c : ℕ) → LacksBody w c → LacksBody v c
lacks_body w v l c h =
    let r = back w v l in (
      concrete w v l c h.0,
      (
        h.1.0,
        member w v l c h.1.0 h.1.1,
        abstract_method w v l h.1.0 h.1.2,
        λ k is body below. h.1.3 k (member v w r c k is) (λ a. body (abstract_method w v l k a)) (overrides v w r k h.1.0 below),
      ),
    )

fits_result : (w v : World) → AreAlike w v → (r q : Option JavaType) → FitsResult w r q → FitsResult v r q
fits_result w v l None None h = tt
fits_result w v l (Some s) (Some t) (inl h) = inl h
fits_result w v l (Some s) (Some t) (inr h) = inr (h.0, h.1, fits w v l s t h.2)
fits_result w v l None (Some t) h = absurd h
fits_result w v l (Some s) None h = absurd h

inherited : (w v : World) → AreAlike w v → (c m : ℕ) → IsInherited w c m → IsInherited v c m
inherited w v l c m h = (member w v l c m h.0, λ d. h.1 (declares v w (back w v l) c m d))

of_class : (w v : World) → AreAlike w v → (m : ℕ) → IsOfClass w m → IsOfClass v m
of_class w v l m h = (h.0, declares w v l h.0 m h.1, is_class w v l h.0 h.2)

overridden : (w v : World) → AreAlike w v → (c m k : ℕ) → AreOverridden w c m k → AreOverridden v c m k
overridden w v l c m k h = (h.0, inherited w v l c h.0 h.1, of_class w v l h.0 h.2, overrides w v l h.0 m h.3, overrides w v l h.0 k h.4)

unlike_results : (w v : World) → AreAlike w v → (c : ℕ) → HasUnlikeResults w c → HasUnlikeResults v c
unlike_results w v l c h =
    let b = back w v l in (
      h.0,
      h.1,
      inherited w v l c h.0 h.2,
      inherited w v l c h.1 h.3,
      one_signature w v l c h.0 h.1 h.4,
      λ over_both. h.5 (overridden v w b c h.0 h.1 over_both),
      h.6,
      h.7,
      result w v l c h.0 h.6 h.8,
      result w v l c h.1 h.7 h.9,
      λ f. h.10 (fits_result v w b h.6 h.7 f),
      λ f. h.11 (fits_result v w b h.7 h.6 f),
    )

one_erasure : (w v : World) → AreAlike w v → (m k : ℕ) → HaveOneErasure w m k → HaveOneErasure v m k
one_erasure w v l m k h = (h.0, h.1, method w v l m h.0 h.2, method w v l k h.1 h.3, h.4, h.5)

clash : (w v : World) → AreAlike w v → (c : ℕ) → HasClash w c → HasClash v c
clash w v l c h =
    (h.0, h.1, member w v l c h.0 h.2, member w v l c h.1 h.3, one_erasure w v l h.0 h.1 h.4, λ s. h.5 (one_signature v w (back w v l) c h.0 h.1 s))

breaks_in : (w v : World) → AreAlike w v → (c n : ℕ) → inherited_rules.Breaks w c n → inherited_rules.Breaks v c n
breaks_in w v l c n (inherited_rules.lacks_body h) = inherited_rules.lacks_body (lacks_body w v l c h)
breaks_in w v l c n (inherited_rules.unlike_results h) = inherited_rules.unlike_results (unlike_results w v l c h)
breaks_in w v l c n (inherited_rules.clash h) = inherited_rules.clash (clash w v l c h)

of_members : (w v : World) → AreAlike w v → (b : Breach) → InheritedBreaches w b → InheritedBreaches v b
of_members w v l b h = (h.0, h.1, known w v l h.0 h.1 h.2, h.3, breaks_in w v l h.0 b.rule h.4)

-- ---- all of them

pub broken_alike : (w v : World) → AreAlike w v → (b : Breach) → MemberBreaches w b → MemberBreaches v b
broken_alike w v l b (inl h) = inl (of_overriding w v l b h)
broken_alike w v l b (inr h) = inr (of_members w v l b h)
