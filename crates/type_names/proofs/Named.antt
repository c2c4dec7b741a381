-- The names of types.
use Rattle.std.proofs.Common.{◌≡◌, ℕ, zero, suc, ◌+◌, ◌<◌, Bool, true, false, cond, ◌||◌, ◌⊎◌, ◌↔◌, inl, inr, List, [], ◌∷◌, ◌++◌, map, take, Option, Some, None, refl, sym, ap, ◌∙◌, subst, length, get_or, arith}
use Rattle.std.specs.Prelude.{slice_get, nat_eq}
use Rattle.std.specs.List.{list_any}
use Rattle.std.specs.Option.{option_map}
use Rattle.std.proofs.lemmas.List.{take_more}
use Rattle.std.proofs.lemmas.Option.{slice_get-map, slice_get_within}
use Rattle.std.proofs.lemmas.Bool.{eqb-true, eq-eqb, cases_Bool}
use Rattle.java_tree.specs.declared.tree.Name.{Name}
use Rattle.java_tree.specs.declared.tree.SourceUnit as declared
use Rattle.java_tree.specs.Plain.{SourceUnit}
use Rattle.java_tree.specs.View.{unit_plain}
use Rattle.rule_order.specs.declared.Breach.{Breach}
use Rattle.rule_order.specs.First.{Breaches, Either, IsFirst, IsEarlier}
use Rattle.rule_order.proofs.Firsts.{first_alike, first_of_both}
use Rattle.type_names.specs.declared.known.JavaNames.{JavaNames}
use Rattle.type_names.specs.declared.known.Known as code
use Rattle.type_names.specs.Known.{KnownType, File, files_of, types_of}
use Rattle.type_names.specs.Rules.{Among, BeginsPackage, BreaksTypeName, BreaksPackageName, BreaksOwnName, NameBreaches}
use Rattle.type_names.specs.Tables.{brief, files_in}
use Rattle.type_names.specs.Searches.{IfBroken, IfDeclared, IsNamedAmong, IsNamedTwice, TypeBreaches, UserBreaches, LibBreaches, begins, begin}
use Rattle.type_names.proofs.Lists.{get_push, any_more}
use Rattle.type_names.proofs.Held.{get_left, get_right, get_split, get_mapped}
use Rattle.type_names.proofs.Breaches.{get_last, among_push}

name_is : (x y : Name) → nat_eq x.0 y.0 ≡ true → x ≡ y
name_is x y e = ap (λ n. (λ (r : Name). r) (record { 0 = n })) (eqb-true x.0 y.0 e)

-- ---- tests on a list

pub any_at : {A : Type 0} (p : A → Bool) (xs : List A) (i : ℕ) (x : A) → slice_get xs i ≡ Some x → p x ≡ true → list_any p xs ≡ true
any_at p [] i x e h = absurd (cc e)
any_at p (y ∷ xs) zero x e h = let same : y ≡ x = cc e in ap (λ b. b || list_any p xs) (ap p same ∙ h)
any_at p (y ∷ xs) (suc i) x e h = ap (λ b. p y || b) (any_at p xs i x e h) ∙ or_yes (p y)
  where
    or_yes : (b : Bool) → (b || true) ≡ true
    or_yes true = refl
    or_yes false = refl

pub any_from : {A : Type 0} (p : A → Bool) (xs : List A) → list_any p xs ≡ true → (i : ℕ) × (x : A) × (slice_get xs i ≡ Some x) × (p x ≡ true)
any_from p [] e = absurd (cc e)
any_from p (y ∷ xs) e = elim (cases_Bool (p y)) [
  | inl hit ↦ (0, y, refl, hit)
  | inr miss ↦ let later = any_from p xs (sym (ap (λ b. b || list_any p xs) miss) ∙ e) in (suc later.0, later.1, later.2, later.3)
]

or_parts : (a b : Bool) → (a || b) ≡ true → (a ≡ true) ⊎ (b ≡ true)
or_parts true b e = inl refl
or_parts false b e = inr e

or_left : (a b : Bool) → a ≡ true → (a || b) ≡ true
or_left true b e = refl
or_left false b e = absurd (cc e)

or_right : (a b : Bool) → b ≡ true → (a || b) ≡ true
or_right true b e = refl
or_right false b e = e

-- ---- a type more

-- a name more among those seen
pub seen_more : (ts : List code.Known) (i : ℕ) (t : code.Known) (q : ℕ) (old new : Bool) → i < length ts → t ≡ get_or ts i t → new ≡ cond (nat_eq t.name.0 q) true old
    → old ≡ list_any (λ (k : code.Known). nat_eq k.name.0 q) (take i ts) → new ≡ list_any (λ (k : code.Known). nat_eq k.name.0 q) (take (i + 1) ts)
seen_more ts i t q old new lt at is was = is ∙ ap (cond (nat_eq t.name.0 q) true) was ∙ turn (nat_eq t.name.0 q) (list_any (λ (k : code.Known). nat_eq k.name.0 q) (take i ts))
    ∙ sym (any_more (λ (k : code.Known). nat_eq k.name.0 q) ts i t lt at)
  where
    turn : (a b : Bool) → cond a true b ≡ (b || (a || false))
    turn true true = refl
    turn true false = refl
    turn false true = refl
    turn false false = refl

declared_is : (t : code.Known) (n rule : ℕ) (test : Bool) (b : Breach) → t.node ≡ Some n → IfBroken n rule test b ↔ IfDeclared rule test t b
declared_is t n rule test b at = (
  λ h. (n, at, h),
  λ h. let one = h.1 in let same : n ≡ h.0 = cc (at, one) in subst (λ x. IfBroken x rule test b) (sym same) h.2,
)

-- the rules at one declared type
pub declared_first : (t : code.Known) (n : ℕ) (root seen : Bool) (x y r : Option Breach) → t.node ≡ Some n → IsFirst (IfBroken n 22 root) x → IsFirst (IfBroken n 23 seen) y → IsEarlier x y r
    → IsFirst (Either (IfDeclared 22 root t) (IfDeclared 23 seen t)) r
declared_first t n root seen x y r at one two is =
    first_of_both (IfDeclared 22 root t) (IfDeclared 23 seen t) x y r is
    (first_alike (IfBroken n 22 root) (IfDeclared 22 root t) (λ b. declared_is t n 22 root b at) x one)
    (first_alike (IfBroken n 23 seen) (IfDeclared 23 seen t) (λ b. declared_is t n 23 seen b at) y two)

twice_push : (ts : List code.Known) (t : code.Known) (b : Breach)
    → IsNamedTwice (ts ++ t ∷ []) b ↔ Either (IsNamedTwice ts) (IfDeclared 23 (list_any (λ (k : code.Known). nat_eq k.name.0 t.name.0) ts) t) b
twice_push ts t b = (to, from)
  where
    to : IsNamedTwice (ts ++ t ∷ []) b → Either (IsNamedTwice ts) (IfDeclared 23 (list_any (λ (k : code.Known). nat_eq k.name.0 t.name.0) ts) t) b
    to (i, k, s, u, n, lt, at_i, at_k, same, node, is) = elim (get_push ts t k u at_k) [
      | inl old ↦ elim (get_push ts t i s at_i) [
        | inl before ↦ inl (i, k, s, u, n, lt, before, old, same, node, is)
        | inr new ↦ let low = slice_get_within ts k u old in absurd (omega (arith, lt, low, new.0))
      ]
      | inr last ↦ elim (get_push ts t i s at_i) [
        | inl before ↦ inr (
          n,
          ap (λ (x : code.Known). x.node) last.1 ∙ node,
          (
            is,
            any_at (λ (k : code.Known). nat_eq k.name.0 t.name.0) ts i s before (eq-eqb s.name.0 t.name.0 (ap (λ (x : Name). x.0) (same ∙ ap (λ (x : code.Known). x.name) (sym last.1)))),
          ),
        )
        | inr new ↦ absurd (omega (arith, lt, last.0, new.0))
      ]
    ]

    from : Either (IsNamedTwice ts) (IfDeclared 23 (list_any (λ (k : code.Known). nat_eq k.name.0 t.name.0) ts) t) b → IsNamedTwice (ts ++ t ∷ []) b
    from (inl (i, k, s, u, n, lt, at_i, at_k, same, node, is)) = (i, k, s, u, n, lt, get_left ts (t ∷ []) i s at_i, get_left ts (t ∷ []) k u at_k, same, node, is)
    from (inr (n, node, (is, there))) =
        let before = any_from (λ (k : code.Known). nat_eq k.name.0 t.name.0) ts there in
        (before.0, length ts, before.1, t, n, slice_get_within ts before.0 before.1 before.2, get_left ts (t ∷ []) before.0 before.1 before.2, get_last ts t, name_is before.1.name t.name before.3, node, is)

-- the rules at one declared type more
pub types_more : (names : ℕ → Bool) (ts : List code.Known) (i : ℕ) (t : code.Known) (root seen : Bool) (old here new : Option Breach) → i < length ts → t ≡ get_or ts i t
    → root ≡ names t.name.0 → seen ≡ list_any (λ (k : code.Known). nat_eq k.name.0 t.name.0) (take i ts)
    → IsFirst (TypeBreaches names (take i ts)) old → IsFirst (Either (IfDeclared 22 root t) (IfDeclared 23 seen t)) here → IsEarlier old here new → IsFirst (TypeBreaches names (take (i + 1) ts)) new
types_more names ts i t root seen old here new lt at is_root is_seen first one is =
    subst (λ l. IsFirst (TypeBreaches names l) new) (sym (take_more ts i t lt ∙ ap (λ y. take i ts ++ y ∷ []) (sym at)))
    (first_alike (Either (TypeBreaches names (take i ts)) both) (TypeBreaches names (take i ts ++ t ∷ [])) parts new
    (first_of_both (TypeBreaches names (take i ts)) both old here new is first
    (subst (λ r. IsFirst (Either (IfDeclared 22 r t) (IfDeclared 23 (list_any (λ (k : code.Known). nat_eq k.name.0 t.name.0) (take i ts)) t)) here) is_root
    (subst (λ s. IsFirst (Either (IfDeclared 22 root t) (IfDeclared 23 s t)) here) is_seen one))))
  where
    both : Breaches
    both = Either (IfDeclared 22 (names t.name.0) t) (IfDeclared 23 (list_any (λ (k : code.Known). nat_eq k.name.0 t.name.0) (take i ts)) t)

    parts : (b : Breach) → Either (TypeBreaches names (take i ts)) both b ↔ TypeBreaches names (take i ts ++ t ∷ []) b
    parts b =
        let roots = among_push (IsNamedAmong names) (take i ts) t b in
        let twice = twice_push (take i ts) t b in (
          λ h. elim h [
            | inl old ↦ elim old [ inl x ↦ inl (roots.1 (inl x)) | inr x ↦ inr (twice.1 (inl x)) ]
            | inr new ↦ elim new [ inl x ↦ inl (roots.1 (inr x)) | inr x ↦ inr (twice.1 (inr x)) ]
          ],
          λ h. elim h [
            | inl x ↦ elim (roots.0 x) [ inl y ↦ inl (inl y) | inr y ↦ inr (inl y) ]
            | inr x ↦ elim (twice.0 x) [ inl y ↦ inl (inr y) | inr y ↦ inr (inr y) ]
          ],
        )

pub types_none : (names : ℕ → Bool) → IsFirst (TypeBreaches names []) None
types_none names = λ b h. elim h [ inl x ↦ absurd (let e = x.2 in cc e) | inr (i, k, s, t, n, lt, at_i, at_k, same, node, is) ↦ absurd (cc at_i) ]

-- ---- first identifiers of packages

begin_is : (user : Bool) (us : List declared.SourceUnit) (q : ℕ) (x : Name) → x.0 ≡ q
    → (begin us q ≡ true) ↔ ((i : ℕ) × (f : File) × (slice_get (files_in user (map unit_plain us)) i ≡ Some f) × ((rest : List Name) × (f.unit.«package» ≡ x ∷ rest)))
begin_is user us q x is = (
  λ e.
      let found = any_from (λ (u : declared.SourceUnit). begins q u.«package») us e in
      (found.0, record { unit = unit_plain found.1; user = user }, file_is found.0 found.1 found.2, starts found.1.«package» found.3),
  λ (i, f, at, (rest, path)).
      let u = get_mapped file (map unit_plain us) i f at in
      let d = get_mapped unit_plain us i u.0 u.1 in
      any_at (λ (u : declared.SourceUnit). begins q u.«package») us i d.0 d.1
      (ap (begins q) (ap (λ (v : SourceUnit). v.«package») d.2 ∙ ap (λ (g : File). g.unit.«package») u.2 ∙ path) ∙ eq-eqb x.0 q is),
)
  where
    file : SourceUnit → File
    file u = record { unit = u; user = user }

    file_is : (i : ℕ) (u : declared.SourceUnit) → slice_get us i ≡ Some u → slice_get (map file (map unit_plain us)) i ≡ Some (file (unit_plain u))
    file_is i u at = slice_get-map file (map unit_plain us) i ∙ ap (option_map file) (slice_get-map unit_plain us i ∙ ap (option_map unit_plain) at)

    starts : (path : List Name) → begins q path ≡ true → (rest : List Name) × (path ≡ x ∷ rest)
    starts [] e = absurd (cc e)
    starts (y ∷ rest) e = (rest, ap (λ z. z ∷ rest) (name_is y x (ap (nat_eq y.0) is ∙ e)))

pub root_is : (j : JavaNames) (us ls : List declared.SourceUnit) (x : Name)
    → (((nat_eq j.java.0 x.0 || begin us x.0) || begin ls x.0) ≡ true) ↔ BeginsPackage j (files_of (map unit_plain us) (map unit_plain ls)) x
root_is j us ls x = (
  λ e. elim (or_parts (nat_eq j.java.0 x.0 || begin us x.0) (begin ls x.0) e) [
    | inl front ↦ elim (or_parts (nat_eq j.java.0 x.0) (begin us x.0) front) [
      | inl java ↦ inl (sym (name_is j.java x java))
      | inr user ↦ let f = (begin_is true us x.0 x refl).0 user in inr (f.0, f.1, get_left (files_in true (map unit_plain us)) (files_in false (map unit_plain ls)) f.0 f.1 f.2, f.3)
    ]
    | inr lib ↦
        let f = (begin_is false ls x.0 x refl).0 lib in
        let there = get_right (files_in true (map unit_plain us)) (files_in false (map unit_plain ls)) f.0 f.1 f.2 in
        inr (there.0, f.1, there.1, f.3)
  ],
  λ h. elim h [
    | inl java ↦ or_left (nat_eq j.java.0 x.0 || begin us x.0) (begin ls x.0) (or_left (nat_eq j.java.0 x.0) (begin us x.0) (eq-eqb j.java.0 x.0 (ap (λ (n : Name). n.0) (sym java))))
    | inr (i, f, at, rest) ↦ elim (get_split (files_in true (map unit_plain us)) (files_in false (map unit_plain ls)) i f at) [
      | inl left ↦ or_left (nat_eq j.java.0 x.0 || begin us x.0) (begin ls x.0) (or_right (nat_eq j.java.0 x.0) (begin us x.0) ((begin_is true us x.0 x refl).1 (i, f, left, rest)))
      | inr right ↦ or_right (nat_eq j.java.0 x.0 || begin us x.0) (begin ls x.0) ((begin_is false ls x.0 x refl).1 (right.0, f, right.1, rest))
    ]
  ],
)

-- ---- all rules together

brief_twice : (ps : List (List Name)) (ts : List KnownType) (b : Breach) → IsNamedTwice (map (brief ps) ts) b ↔ BreaksOwnName ts b
brief_twice ps ts b = (to, from)
  where
    to : IsNamedTwice (map (brief ps) ts) b → BreaksOwnName ts b
    to (i, k, s, t, n, lt, at_i, at_k, same, node, is) =
        let x = get_mapped (brief ps) ts i s at_i in
        let y = get_mapped (brief ps) ts k t at_k in
        (i, k, x.0, y.0, n, lt, x.1, y.1, ap (λ (k : code.Known). k.name) x.2 ∙ same ∙ ap (λ (k : code.Known). k.name) (sym y.2), ap (λ (k : code.Known). k.node) y.2 ∙ node, is)

    from : BreaksOwnName ts b → IsNamedTwice (map (brief ps) ts) b
    from (i, k, s, t, n, lt, at_i, at_k, same, node, is) =
        (i, k, brief ps s, brief ps t, n, lt, slice_get-map (brief ps) ts i ∙ ap (option_map (brief ps)) at_i, slice_get-map (brief ps) ts k ∙ ap (option_map (brief ps)) at_k, same, node, is)

brief_named : (ps : List (List Name)) (names : ℕ → Bool) (j : JavaNames) (fs : List File) (ts : List KnownType) → ((x : Name) → (names x.0 ≡ true) ↔ BeginsPackage j fs x) → (b : Breach)
    → Among (IsNamedAmong names) (map (brief ps) ts) b ↔ Among (BreaksTypeName j fs) ts b
brief_named ps names j fs ts tells b = (to, from)
  where
    to : Among (IsNamedAmong names) (map (brief ps) ts) b → Among (BreaksTypeName j fs) ts b
    to (i, t, at, (n, node, (is, named))) =
        let x = get_mapped (brief ps) ts i t at in
        (i, x.0, x.1, (n, ap (λ (k : code.Known). k.node) x.2 ∙ node, is, (tells x.0.name).0 (ap (λ (k : code.Known). names k.name.0) x.2 ∙ named)))

    from : Among (BreaksTypeName j fs) ts b → Among (IsNamedAmong names) (map (brief ps) ts) b
    from (i, t, at, (n, node, is, begins_)) = (i, brief ps t, slice_get-map (brief ps) ts i ∙ ap (option_map (brief ps)) at, (n, node, (is, (tells t.name).1 begins_)))

package_names : (user : Bool) (us : List SourceUnit) (b : Breach) → Among BreaksPackageName (files_in user us) b ↔ Among (λ u. BreaksPackageName (record { unit = u; user = user })) us b
package_names user us b = (
  λ (i, f, at, h).
      let u = get_mapped (λ (u : SourceUnit). (λ (f : File). f) (record { unit = u; user = user })) us i f at in
      (i, u.0, u.1, subst (λ f. BreaksPackageName f b) (sym u.2) h),
  λ (i, u, at, h).
      (i, record { unit = u; user = user }, slice_get-map (λ (u : SourceUnit). (λ (f : File). f) (record { unit = u; user = user })) us i ∙ ap (option_map (λ (u : SourceUnit). (λ (f : File). f) (record { unit = u; user = user }))) at, h),
)

pub all_together : (ps : List (List Name)) (names : ℕ → Bool) (j : JavaNames) (us ls : List SourceUnit) → ((x : Name) → (names x.0 ≡ true) ↔ BeginsPackage j (files_of us ls) x) → (b : Breach)
    → Either (Either (Among (UserBreaches j us ls) us) (Among LibBreaches ls)) (TypeBreaches names (map (brief ps) (types_of j (files_of us ls)))) b ↔ NameBreaches j us ls b
all_together ps names j us ls tells b = (to, from)
  where
    named : Among (IsNamedAmong names) (map (brief ps) (types_of j (files_of us ls))) b ↔ Among (BreaksTypeName j (files_of us ls)) (types_of j (files_of us ls)) b
    named = brief_named ps names j (files_of us ls) (types_of j (files_of us ls)) tells b

    twice : IsNamedTwice (map (brief ps) (types_of j (files_of us ls))) b ↔ BreaksOwnName (types_of j (files_of us ls)) b
    twice = brief_twice ps (types_of j (files_of us ls)) b

    in_user : Among (λ u. BreaksPackageName (record { unit = u; user = true })) us b → Among BreaksPackageName (files_of us ls) b
    in_user h = let (i, f, at, broken) = (package_names true us b).1 h in (i, f, get_left (files_in true us) (files_in false ls) i f at, broken)

    in_lib : Among (λ u. BreaksPackageName (record { unit = u; user = false })) ls b → Among BreaksPackageName (files_of us ls) b
    in_lib h = let k = (package_names false ls b).1 h in let there = get_right (files_in true us) (files_in false ls) k.0 k.1 k.2 in (there.0, k.1, there.1, k.3)

    to : Either (Either (Among (UserBreaches j us ls) us) (Among LibBreaches ls)) (TypeBreaches names (map (brief ps) (types_of j (files_of us ls)))) b → NameBreaches j us ls b
    to (inl (inl (i, u, at, inl h))) = inl (i, u, at, h)
    to (inl (inl (i, u, at, inr (inl h)))) = inr (inl (i, u, at, h))
    to (inl (inl (i, u, at, inr (inr h)))) = inr (inr (inr (inl (in_user (i, u, at, h)))))
    to (inl (inr (i, u, at, inl h))) = inr (inr (inl (i, u, at, h)))
    to (inl (inr (i, u, at, inr h))) = inr (inr (inr (inl (in_lib (i, u, at, h)))))
    to (inr (inl h)) = inr (inr (inr (inr (inl (named.0 h)))))
    to (inr (inr h)) = inr (inr (inr (inr (inr (twice.0 h)))))

    in_files : Among BreaksPackageName (files_of us ls) b → Either (Among (UserBreaches j us ls) us) (Among LibBreaches ls) b
    in_files (i, f, at, h) = elim (get_split (files_in true us) (files_in false ls) i f at) [
      | inl left ↦ let k = (package_names true us b).0 (i, f, left, h) in inl (k.0, k.1, k.2, inr (inr k.3))
      | inr right ↦ let k = (package_names false ls b).0 (right.0, f, right.1, h) in inr (k.0, k.1, k.2, inr k.3)
    ]

    from : NameBreaches j us ls b → Either (Either (Among (UserBreaches j us ls) us) (Among LibBreaches ls)) (TypeBreaches names (map (brief ps) (types_of j (files_of us ls)))) b
    from (inl (i, u, at, h)) = inl (inl (i, u, at, inl h))
    from (inr (inl (i, u, at, h))) = inl (inl (i, u, at, inr (inl h)))
    from (inr (inr (inl (i, u, at, h)))) = inl (inr (i, u, at, inl h))
    from (inr (inr (inr (inl h)))) = inl (in_files h)
    from (inr (inr (inr (inr (inl h))))) = inr (inl (named.1 h))
    from (inr (inr (inr (inr (inr h))))) = inr (inr (twice.1 h))
