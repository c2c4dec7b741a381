-- What is said of a world's order, members and walks, of another with the same types and methods.
use Rattle.std.proofs.Common.{◌≡◌, ℕ, List, [], Option, None, Some, inl, inr, ap, sym, ◌∙◌}
use Rattle.std.specs.Prelude.{slice_get, IfSome}
use Rattle.java_tree.specs.declared.tree.Name.{Name}
use Rattle.class_world.specs.declared.world.World.{World}
use Rattle.class_world.specs.declared.world.Walk.{Walk}
use Rattle.class_world.specs.declared.world.TypeInfo.{TypeInfo}
use Rattle.class_world.specs.declared.world.MethodInfo.{MethodInfo}
use Rattle.class_world.specs.declared.world.Above.{Above}
use Rattle.class_world.specs.declared.world.JavaType.{JavaType}
use Rattle.class_world.specs.declared.world.JavaType.TheVariants as ty
use Rattle.class_world.specs.DirectSupers.{IsDirectSuper}
use Rattle.class_world.specs.Types.{IsTypeOver, a_primitive, the_null, a_class, a_variable, an_array}
use Rattle.class_world.specs.Subtypes.{Subtype, same, through, declared, object, raw, null, arrays, char_int, int_long}
use Rattle.class_world.specs.Sound.{AreSupers, IsRow, IsShortcut, IsSound, IsSuper}
use Rattle.class_world.specs.Signatures.{IsMethod, IsSeenWith, HasParams, HaveOneSignatureIn}
use Rattle.class_world.specs.Inheritance.{IsDirectlyAbove, DeclaresMethod, IsPrivateMethod, IsMemberMethod}
use Rattle.class_world.specs.Inheritance as inheritance
use Rattle.class_world.specs.Counted.{IsOfClass, IsPreferred, from_superclass, of_class, declared_first}
use Rattle.iterables.specs.Walks.{IsCalled, IsCounted, IsUsable, WalkIs}

pub record AreAlike (w v : World) : Type 0 where
  pub types : w.types ≡ v.types
  pub methods : w.methods ≡ v.methods

pub back : (w v : World) → AreAlike w v → AreAlike v w
back w v l = record { types = sym l.types; methods = sym l.methods }

-- ---- the order

known : (w v : World) → AreAlike w v → (c : ℕ) (info : TypeInfo) → slice_get w.types c ≡ Some info → slice_get v.types c ≡ Some info
known w v l c info h = ap (λ (ts : List TypeInfo). slice_get ts c) (sym l.types) ∙ h

direct : (w v : World) → AreAlike w v → (c : ℕ) (d : JavaType) → IsDirectSuper w c d → IsDirectSuper v c d
direct w v l c d h = (h.0, known w v l c h.0 h.1, h.2, h.3)

subtype : (w v : World) → AreAlike w v → (s t : JavaType) → Subtype w s t → Subtype v s t
subtype w v l s t same = same
subtype w v l s t (through {m = m} a b) = through (subtype w v l s m a) (subtype w v l m t b)
subtype w v l s t (declared {c = c} {args = xs} h) = declared (h.0, known w v l c h.0 h.1, h.2, h.3, h.4, h.5)
subtype w v l s t (object r) = object r
subtype w v l s t (raw c xs) = raw c xs
subtype w v l s t (null r) = null r
subtype w v l s t (arrays {s = x} {t = y} r r' h) = arrays r r' (subtype w v l x y h)
subtype w v l s t char_int = char_int
subtype w v l s t int_long = int_long

over : (w v : World) → AreAlike w v → (n : ℕ) (t : JavaType) → IsTypeOver w n t → IsTypeOver v n t
over w v l n t (a_primitive p) = a_primitive p
over w v l n t the_null = the_null
over w v l n t (a_class {c = c} {info = info} at counts refs parts) = a_class (known w v l c info at) counts refs (λ k x h. over w v l n x (parts k x h))
over w v l n t (a_variable lt) = a_variable lt
over w v l n t (an_array {element = x} some part) = an_array some (over w v l n x part)

module _ (w v : World) (l : AreAlike w v) where
  super_there : (n : ℕ) (d : JavaType) → IsSuper w n d → IsSuper v n d
  super_there n d s = (over w v l n d s.0, (s.1.0, s.1.1, s.1.2, s.1.3, known w v l s.1.0 s.1.2 s.1.4, s.1.5))

  supers_there : AreSupers w → AreSupers v
  supers_there sup = record {
    top = λ info at. sup.top info (known v w (back w v l) 0 info at);
    supers = λ c info d at h. super_there info.params d (sup.supers c info d (known v w (back w v l) c info at) (direct v w (back w v l) c d h));
  }

  shortcut_there : (c n : ℕ) (o : Option JavaType) → IfSome o (λ t. IsShortcut w c n t) → IfSome o (λ t. IsShortcut v c n t)
  shortcut_there c n None h = tt
  shortcut_there c n (Some t) h = (super_there n t h.0, (h.1.0, direct w v l c h.1.0 h.1.1, subtype w v l h.1.0 t h.1.2))

  row_there : (c n : ℕ) (a : Above) → IsRow w c n a → IsRow v c n a
  row_there c n a r = record {
    types = λ g. (λ h. subtype w v l _ _ ((r.types g).0 h), λ h. (r.types g).1 (subtype v w (back w v l) _ _ h));
    raw_bases = λ some g. (
      λ h. let k = (r.raw_bases some g).0 h in (k.0, k.1, subtype w v l _ _ k.2),
      λ h. (r.raw_bases some g).1 (h.0, h.1, subtype v w (back w v l) _ _ h.2),
    );
    shortcut = shortcut_there c n a.shortcut r.shortcut;
  }

  pub sound_there : w.above ≡ v.above → IsSound w → IsSound v
  sound_there above sound = record {
    declared = supers_there sound.declared;
    rank = sound.rank;
    falls = λ c g args h. sound.falls c g args (direct v w (back w v l) c (ty.Class g args) h);
    single = λ c info at g t u p q a b. sound.single c info (known v w (back w v l) c info at) g t u p q (subtype v w (back w v l) _ _ a) (subtype v w (back w v l) _ _ b);
    rows = λ c info at.
        let h = sound.rows c info (known v w (back w v l) c info at) in
        (h.0, ap (λ (rs : List Above). slice_get rs c) (sym above) ∙ h.1, row_there c info.params h.0 h.2);
  }

-- ---- members

directly_above : (w v : World) → AreAlike w v → (c s : ℕ) → IsDirectlyAbove w c s → IsDirectlyAbove v c s
directly_above w v l c s (inl h) = inl (h.0, direct w v l c _ h.1)
directly_above w v l c s (inr h) = inr (h.0, (h.1.0, known w v l c h.1.0 h.1.1, h.1.2, h.1.3))

there : (w v : World) → AreAlike w v → (m : ℕ) (info : MethodInfo) → slice_get w.methods m ≡ Some info → slice_get v.methods m ≡ Some info
there w v l m info h = ap (λ (ms : List MethodInfo). slice_get ms m) (sym l.methods) ∙ h

method : (w v : World) → AreAlike w v → (m : ℕ) (info : MethodInfo) → IsMethod w m info → IsMethod v m info
method w v l m info h = (there w v l m info h.0, h.1)

seen_with : (w v : World) → AreAlike w v → (c g : ℕ) (args : List JavaType) → IsSeenWith w c g args → IsSeenWith v c g args
seen_with w v l c g args h = (h.0, known w v l c h.0 h.1, h.2, known w v l g h.2 h.3, h.4, subtype w v l _ _ h.5)

params : (w v : World) → AreAlike w v → (c m : ℕ) (ps : List JavaType) → HasParams w c m ps → HasParams v c m ps
params w v l c m ps h = (h.0, method w v l m h.0 h.1, h.2, seen_with w v l c _ h.2 h.3, h.4)

one_signature : (w v : World) → AreAlike w v → (c m k : ℕ) → HaveOneSignatureIn w c m k → HaveOneSignatureIn v c m k
one_signature w v l c m k h =
    ((h.0.0, h.0.1, method w v l m h.0.0 h.0.2, method w v l k h.0.1 h.0.3, h.0.4), (h.1.0, params w v l c m h.1.0 h.1.1, params w v l c k h.1.0 h.1.2))

declares : (w v : World) → AreAlike w v → (c m : ℕ) → DeclaresMethod w c m → DeclaresMethod v c m
declares w v l c m h = (h.0, method w v l m h.0 h.1, h.2)

private : (w v : World) → AreAlike w v → (m : ℕ) → IsPrivateMethod w m → IsPrivateMethod v m
private w v l m h = (h.0, there w v l m h.0 h.1, h.2)

member : (w v : World) → AreAlike w v → (c m : ℕ) → IsMemberMethod w c m → IsMemberMethod v c m
member w v l c m (inheritance.declared h) = inheritance.declared (declares w v l c m h)
member w v l c m (inheritance.inherited {s = s} above h open_ none) =
    let r = back w v l in
    inheritance.inherited (directly_above w v l c s above) (member w v l s m h) (λ p. open_ (private v w r m p))
    (λ k d same. none k (declares v w r c k d) (one_signature v w r c k m same))

of_class_there : (w v : World) → AreAlike w v → (m : ℕ) → IsOfClass w m → IsOfClass v m
of_class_there w v l m h = (h.0, declares w v l h.0 m h.1, (h.2.0, known w v l h.0 h.2.0 h.2.1, h.2.2))

preferred : (w v : World) → AreAlike w v → (counted : List ℕ) (m k : ℕ) → IsPreferred w counted m k → IsPreferred v counted m k
preferred w v l counted m k (from_superclass here not) = from_superclass here not
preferred w v l counted m k (of_class alike is not) = of_class alike (of_class_there w v l m is) (λ h. not (of_class_there v w (back w v l) k h))
preferred w v l counted m k (declared_first alike kind lt) = declared_first alike (
  λ h. of_class_there w v l k (kind.0 (of_class_there v w (back w v l) m h)),
  λ h. of_class_there w v l m (kind.1 (of_class_there v w (back w v l) k h)),
) lt

-- ---- walks

module _ (names : List (List ℕ)) where
  counted : (w v : World) → AreAlike w v → (c : ℕ) (n : Name) (m : ℕ) → IsCounted w c n m → IsCounted v c n m
  counted w v l c n m h =
      let r = back w v l in (
        (member w v l c m h.0.0, (h.0.1.0, method w v l m h.0.1.0 h.0.1.1, h.0.1.2, h.0.1.3)),
        (member w v l c m h.1.0, λ k is one less. h.1.1 k (member v w r c k is) (one_signature v w r c k m one) (preferred v w r [] k m less)),
      )

  called : (w v : World) → AreAlike w v → (c : ℕ) (word : List ℕ) (t : JavaType) (m : ℕ) → IsCalled names w c word t m → IsCalled names v c word t m
  called w v l c word t m h = record {
    name = h.name;
    text = h.text;
    member = counted w v l c h.name m h.member;
    result = (h.result.0, method w v l m h.result.0 h.result.1, h.result.2, seen_with w v l c _ h.result.2 h.result.3, h.result.4);
    throws = (h.throws.0, there w v l m h.throws.0 h.throws.1, h.throws.2);
  }

  usable : (w v : World) → AreAlike w v → (walk : Walk) → IsUsable names w walk → IsUsable names v walk
  usable w v l walk h = record {
    iterable = (h.iterable.0, known w v l walk.iterable h.iterable.0 h.iterable.1, h.iterable.2, h.iterable.3);
    of_iterators = h.of_iterators;
    iterators = (h.iterators.0, known w v l h.of_iterators h.iterators.0 h.iterators.1, h.iterators.2);
    iterator = called w v l walk.iterable _ _ walk.iterator h.iterator;
    has_next = called w v l h.of_iterators _ _ walk.has_next h.has_next;
    next = called w v l h.of_iterators _ _ walk.next h.next;
  }

  pub walk_there : (w v : World) → AreAlike w v → (o : Option Walk) → WalkIs names o w → WalkIs names o v
  walk_there w v l None none = λ walk h. none walk (usable v w (back w v l) walk h)
  walk_there w v l (Some walk) h = usable w v l walk h
