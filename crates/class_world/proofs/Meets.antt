-- Rows of what is above a class, ways up that were gone, and the classes in which ways up meet.
use Rattle.std.proofs.Common.{◌≡◌, ℕ, ◌+◌, ◌/◌, ◌%◌, ◌<◌, ◌≤◌, zero, suc, Bool, true, false, cond, nat_eq, List, [], ◌∷◌, Option, Some, ◌⊎◌, inl, inr, map, refl, sym, ap, ◌∙◌, subst, length, bit_and, w64, arith}
use Rattle.std.specs.Prelude.{slice_get, slice_set, replicate, IfSome, ◌^◌}
use Rattle.std.specs.Int.{bit_at, bit_not}
use Rattle.std.proofs.lemmas.Bool.{and_parts, eqb-true}
use Rattle.std.proofs.lemmas.Nat.Bits.{bit_at_and, bit_at_not, bit_at-lt, bit_at-zero}
use Rattle.std.proofs.lemmas.Option.{slice_get_within}
use Rattle.class_world.specs.declared.world.World.{World}
use Rattle.class_world.specs.declared.world.TypeInfo.{TypeInfo}
use Rattle.class_world.specs.declared.world.JavaType.{JavaType}
use Rattle.class_world.specs.declared.world.JavaType.TheVariants as ty
use Rattle.class_world.specs.declared.paths.Path.{Path}
use Rattle.class_world.specs.Types.{substitute, variables, with_own, IsTypeOver}
use Rattle.class_world.specs.DirectSupers.{IsDirectSuper}
use Rattle.class_world.specs.Subtypes.{Subtype, same, through, declared, Parameterizes}
use Rattle.class_world.specs.Sound.{HaveClassSupers, IsSet}
use Rattle.class_world.specs.Sequences.{IsSequence}
use Rattle.class_world.specs.Merged.{AreWithin, Sets, SetsAll, declared_supers, supers_in}
use Rattle.class_world.specs.Ordered.{IsSingleClass}
use Rattle.class_world.specs.Climbs.{FlagBases, HasBase, IsClassType, IsGeneric, IsRaw}
use Rattle.class_world.specs.Meets.{AgreeBefore, AreRows, AreSettled, AreSingleTypes, HasFull, HaveBits, IsAboveRow, IsFullType, IsPath, same_path}
use Rattle.class_world.proofs.Forms.{same_class}
use Rattle.class_world.proofs.Substs.{put_class, put_own, length_map, variables_length}
use Rattle.class_world.proofs.Orders.{class_parts, class_above}
use Rattle.class_world.proofs.Lifts.{base_generic, base_of_own, one_base, put_below}
use Rattle.class_world.proofs.Steps.{put_same}
use Rattle.class_world.proofs.Words.{same_or_other, set_here, set_there, word_told}
use Rattle.class_world.proofs.Searches.{direct_at, direct_in, flag_at}
use Rattle.class_world.proofs.Singles.{base_way, joined}

lower_or_last : (k i : ℕ) → k < i + 1 → (k < i) ⊎ (k ≡ i)
lower_or_last k i h = grind (arith, h)

-- what is said of an answer, at the answer
pub at_some : {A : Type 0} (P : A → Type 0) (o : Option A) (x : A) → o ≡ Some x → IfSome o P → P x
at_some P o x e h = subst (λ o. IfSome o P) e h

zero_word : (n i x : ℕ) → slice_get (replicate n 0) i ≡ Some x → x ≡ 0
zero_word zero i x e = absurd (cc e)
zero_word (suc n) zero x e = let h : 0 ≡ x = cc e in sym h
zero_word (suc n) (suc i) x e = zero_word n i x e

-- words that are all 0 have no bit
pub zeros_bare : (words : List ℕ) (n : ℕ) → words ≡ replicate n 0 → (q : ℕ) → IsSet words q → ⊥
zeros_bare words n made q set =
    let none : set.0 ≡ 0 = zero_word n (q / 64) set.0 (ap (λ ws. slice_get ws (q / 64)) (sym made) ∙ set.1) in
    let zero_is : bit_at set.0 (q % 64) ≡ 0 = ap (λ x. bit_at x (q % 64)) none ∙ bit_at-zero (q % 64) in
    absurd (omega (arith, zero_is, set.2))

no_bit : (q : ℕ) → IsSet [] q → ⊥
no_bit q set = absurd (cc set.1)

-- the bits of a row are within as many words as there are classes by 64
pub row_within : (w : World) (listed : List ℕ) (s : JavaType) (words : List ℕ) (n : ℕ) → IsAboveRow w listed s words → n ≡ length listed / 64 + 1 → AreWithin words n
row_within w listed s words n row size q set =
    let at = row.full q set in
    let lt : q < length listed = slice_get_within listed q at.0 at.1 in
    omega (arith, lt, size)

-- the rows with one that is written
pub rows_written : (w : World) (listed : List ℕ) (rows : List (Option (List ℕ))) (c : ℕ) (row : Option (List ℕ)) → AreRows w listed rows → c < length rows
    → IfSome row (λ words. (info : TypeInfo) → slice_get w.types c ≡ Some info → IsAboveRow w listed (with_own c info.params) words) → AreRows w listed (slice_set rows c row)
rows_written w listed rows c row old lt new g info words at there = elim (same_or_other c g) [
  | inr other ↦ old g info words at (sym (set_there rows c g row other) ∙ there)
  | inl e ↦
      let here : row ≡ Some words = cc (set_here rows c row lt, ap (slice_get (slice_set rows c row)) e ∙ there) in
      let is = at_some (λ words. (info : TypeInfo) → slice_get w.types c ≡ Some info → IsAboveRow w listed (with_own c info.params) words) row words here new in
      subst (λ g. IsAboveRow w listed (with_own g info.params) words) e (is info (ap (slice_get w.types) e ∙ at))
]

-- a class that is below no parameterized type
pub empty_row : (w : World) (listed : List ℕ) (flags : List Bool) (c : ℕ) (info : TypeInfo) (words : List ℕ) → FlagBases w flags → (slice_get flags c ≡ Some true → ⊥) → slice_get w.types c ≡ Some info → words ≡ []
    → IsAboveRow w listed (with_own c info.params) words
empty_row w listed flags c info words flagged not at none =
    let lt : c < length flags = subst (λ n. c < n) (sym flagged.0) (slice_get_within w.types c info at) in
    subst (IsAboveRow w listed (with_own c info.params)) (sym none) (record {
      full = λ q set. absurd (no_bit q set);
      bases = λ g base. absurd (elim (flag_at flags c lt) [ inl holds ↦ not holds | inr fails ↦ flagged.1 c info g fails at base ]);
    })

-- of the types below a class, the first i have their bits, and so has the class
pub record IsFilling (w : World) (listed : List ℕ) (s : JavaType) (place : ℕ) (ds : List JavaType) (i : ℕ) (words : List ℕ) : Type 0 where
  pub full : (q : ℕ) → IsSet words q → (g : ℕ) × (slice_get listed q ≡ Some g) × HasFull w s g
  pub bases : HaveBits w listed ds i words
  pub own : IsSet words place

pub bits_begin : (w : World) (listed : List ℕ) (ds : List JavaType) (words : List ℕ) → HaveBits w listed ds 0 words
bits_begin w listed ds words j d g lt = absurd (omega (arith, lt))

pub bits_next : (w : World) (listed : List ℕ) (ds : List JavaType) (i : ℕ) (d : JavaType) (words row new : List ℕ) → HaveBits w listed ds i words → slice_get ds i ≡ Some d → IsAboveRow w listed d row → SetsAll words new row
    → HaveBits w listed ds (i + 1) new
bits_next w listed ds i d words row new before at is sets j e g lt at' base = elim (lower_or_last j i lt) [
  | inl low ↦ let b = before j e g low at' base in (b.0, b.1, (sets b.0).1 (inl b.2))
  | inr last ↦
      let alike : e ≡ d = cc (at, ap (slice_get ds) (sym last) ∙ at') in
      let b = is.bases g (subst (λ e. HasBase w e g) alike base) in
      (b.0, b.1, (sets b.0).1 (inr b.2))
]

-- the declared supertypes of the class at a place of a list
pub direct_there : (w : World) (listed : List ℕ) (place c k i : ℕ) (items : List JavaType) (d : JavaType) → slice_get listed place ≡ Some c → slice_get listed place ≡ Some k → items ≡ declared_supers w c → slice_get items i ≡ Some d → IsDirectSuper w k d
direct_there w listed place c k i items d at at' alike there =
    let number : c ≡ k = cc (at, at') in
    subst (λ k. IsDirectSuper w k d) number ((direct_in w c items alike d).0 (i, there))

pub supers_there : (w : World) (listed : List ℕ) (place c k : ℕ) (items : List JavaType) → slice_get listed place ≡ Some c → slice_get listed place ≡ Some k → items ≡ declared_supers w c → items ≡ declared_supers w k
supers_there w listed place c k items at at' alike =
    let number : c ≡ k = cc (at, at') in
    alike ∙ ap (declared_supers w) number

module _ (w : World) (sups : HaveClassSupers w) where
  own_super : (c : ℕ) (info : TypeInfo) (d : JavaType) → slice_get w.types c ≡ Some info → IsDirectSuper w c d → Subtype w (with_own c info.params) d
  own_super c info d at direct =
      let alike : direct.0 ≡ info = cc (direct.1, at) in
      let low : Subtype w (with_own c direct.0.params) d =
      declared (direct.0, direct.1, d, direct.2, direct.3, inl (variables_length 0 direct.0.params, sym (put_same w direct.0.params d (sups.supers c direct.0 d direct.1 direct).0))) in
      subst (λ (i : TypeInfo). Subtype w (with_own c i.params) d) alike low

  pub super_type : (c : ℕ) (d : JavaType) → IsDirectSuper w c d → IsClassType w d
  super_type c d direct = let sup = sups.supers c direct.0 d direct.1 direct in ((direct.0.params, sup.0), sup.1)

  pub filling_begins : (listed : List ℕ) (c place : ℕ) (info : TypeInfo) (ds : List JavaType) (old new : List ℕ) → slice_get listed place ≡ Some c → slice_get w.types c ≡ Some info → ((q : ℕ) → IsSet old q → ⊥) → Sets old new place
      → IsFilling w listed (with_own c info.params) place ds 0 new
  filling_begins listed c place info ds old new at known none sets = record {
    full = λ q set. elim ((sets q).0 set) [
      | inl was ↦ absurd (none q was)
      | inr here ↦ (c, ap (slice_get listed) here ∙ at, (with_own c info.params, (variables 0 info.params, refl, info, known, variables_length 0 info.params), same))
    ];
    bases = bits_begin w listed ds new;
    own = (sets place).1 (inr refl);
  }

  pub filling_next : (listed : List ℕ) (c place : ℕ) (info : TypeInfo) (ds : List JavaType) (i : ℕ) (d : JavaType) (words row new : List ℕ) → slice_get w.types c ≡ Some info → IsFilling w listed (with_own c info.params) place ds i words
      → slice_get ds i ≡ Some d → IsDirectSuper w c d → IsAboveRow w listed d row → SetsAll words new row → IsFilling w listed (with_own c info.params) place ds (i + 1) new
  filling_next listed c place info ds i d words row new known before at direct is sets = record {
    full = λ q set. elim ((sets q).0 set) [
      | inl was ↦ before.full q was
      | inr more ↦ let one = is.full q more in (one.0, one.1, (one.2.0, one.2.1, through (own_super c info d known direct) one.2.2))
    ];
    bases = bits_next w listed ds i d words row new before.bases at is sets;
    own = (sets place).1 (inl before.own);
  }

  pub filling_ends : (listed : List ℕ) (c place : ℕ) (info : TypeInfo) (ds : List JavaType) (i : ℕ) (words : List ℕ) → slice_get listed place ≡ Some c → slice_get w.types c ≡ Some info → ds ≡ declared_supers w c → length ds ≤ i
      → IsFilling w listed (with_own c info.params) place ds i words → IsAboveRow w listed (with_own c info.params) words
  filling_ends listed c place info ds i words at known alike all filled = record {
    full = filled.full;
    bases = λ g base. elim (base_way w sups c g info base.0 known base.1 base.2) [
      | inl own ↦
          let number : g ≡ c = (same_class g c base.1.0 (variables 0 info.params) (sym base.1.1 ∙ own)).0 in
          (place, at ∙ ap (λ g. Some g) (sym number), filled.own)
      | inr m ↦
          let there : slice_get ds m.0 ≡ Some m.1 = ap (λ ds. slice_get ds m.0) alike ∙ ap (λ o. slice_get (supers_in o) m.0) known ∙ m.2 in
          let lt = slice_get_within ds m.0 m.1 there in
          filled.bases m.0 m.1 g (omega (arith, lt, all)) there (base.0, base.1, m.3)
    ];
  }

  -- a class type that is not raw has all its arguments
  pub full_of : (n c : ℕ) (xs : List JavaType) → IsTypeOver w n (ty.Class c xs) → (IsRaw w c xs → ⊥) → IsFullType w c (ty.Class c xs)
  full_of n c xs over not_raw =
      let parts = class_parts w n (ty.Class c xs) c xs over refl in
      (xs, refl, parts.0, parts.1, elim parts.2 [ inl none ↦ all parts.0.params none (λ some. not_raw (none, (parts.0, parts.1, some))) | inr len ↦ len ])
    where
      all : (k : ℕ) → xs ≡ [] → (0 < k → ⊥) → length xs ≡ k
      all zero none some = ap length none
      all (suc k) none some = absurd (some (omega arith))

  -- with all its arguments, a type has above it what its class with its own variables has, with the arguments put
  pub full_lift : (n h m : ℕ) (ds : List JavaType) (t : JavaType) (info : TypeInfo) → IsTypeOver w n (ty.Class h ds) → slice_get w.types h ≡ Some info → length ds ≡ info.params → IsFullType w m t
      → Subtype w (with_own h info.params) t → IsFullType w m (substitute ds t) × Subtype w (ty.Class h ds) (substitute ds t)
  full_lift n h m ds t info over at len full up =
      let parts = class_parts w n (ty.Class h ds) h ds over refl in (
        (map (substitute ds) full.0, ap (substitute ds) full.1 ∙ put_class ds m full.0, full.2, full.3, length_map (substitute ds) full.0 ∙ full.4),
        subst (λ s. Subtype w s (substitute ds t)) (put_own ds h info.params len) (put_below w sups ds parts.3 (with_own h info.params) t up),
      )

  row_of_full : (listed : List ℕ) (rows : List (Option (List ℕ))) (n h : ℕ) (ds : List JavaType) (words : List ℕ) → AreRows w listed rows → IsTypeOver w n (ty.Class h ds) → (IsRaw w h ds → ⊥)
      → slice_get rows h ≡ Some (Some words) → IsAboveRow w listed (ty.Class h ds) words
  row_of_full listed rows n h ds words are over not_raw there =
      let full = full_of n h ds over not_raw in
      let row = are h full.2 words full.3 there in
      let len : length ds ≡ full.2.params = ap length (same_class h h ds full.0 full.1).1 ∙ full.4 in
      record {
        full = λ q set.
            let one = row.full q set in
            let up = full_lift n h one.0 ds one.2.0 full.2 over full.3 len one.2.1 one.2.2 in
            (one.0, one.1, (substitute ds one.2.0, up.0, up.1));
        bases = λ g base. row.bases g (base_of_own w sups n h g ds full.2 over full.3 base);
      }

  -- a class type, its class and its arguments as they are read
  read_type : (d : JavaType) (c : ℕ) (xs : List JavaType) → (is : IsClassType w d) → ((g : ℕ) (ys : List JavaType) → d ≡ ty.Class g ys → c ≡ g) → ((g : ℕ) (ys : List JavaType) → d ≡ ty.Class g ys → xs ≡ ys) → d ≡ ty.Class c xs
  read_type d c xs is read read' = is.1.2 ∙ ap (λ g. ty.Class g is.1.1) (sym (read is.1.0 is.1.1 is.1.2)) ∙ ap (λ ys. ty.Class c ys) (sym (read' is.1.0 is.1.1 is.1.2))

  pub row_read : (listed : List ℕ) (rows : List (Option (List ℕ))) (d : JavaType) (c : ℕ) (xs : List JavaType) (words : List ℕ) → AreRows w listed rows → IsClassType w d
      → ((g : ℕ) (ys : List JavaType) → d ≡ ty.Class g ys → c ≡ g) → ((g : ℕ) (ys : List JavaType) → d ≡ ty.Class g ys → xs ≡ ys) → (IsRaw w c xs → ⊥) → slice_get rows c ≡ Some (Some words)
      → IsAboveRow w listed d words
  row_read listed rows d c xs words are is read read' not_raw there =
      let shape = read_type d c xs is read read' in
      subst (λ d. IsAboveRow w listed d words) (sym shape) (row_of_full listed rows is.0.0 c xs words are (subst (IsTypeOver w is.0.0) shape is.0.1) not_raw there)

  pub full_read : (d : JavaType) (c : ℕ) (xs : List JavaType) → IsClassType w d → ((g : ℕ) (ys : List JavaType) → d ≡ ty.Class g ys → c ≡ g) → ((g : ℕ) (ys : List JavaType) → d ≡ ty.Class g ys → xs ≡ ys)
      → (IsRaw w c xs → ⊥) → IsFullType w c d
  full_read d c xs is read read' not_raw =
      let shape = read_type d c xs is read read' in
      subst (IsFullType w c) (sym shape) (full_of is.0.0 c xs (subst (IsTypeOver w is.0.0) shape is.0.1) not_raw)

  -- a class without parameters has one type
  pub bare_full : (s : JavaType) (g : ℕ) → (IsGeneric w g → ⊥) → HasFull w s g → IsFullType w g (ty.Class g []) × Subtype w s (ty.Class g [])
  bare_full s g plain has =
      let full = has.1 in
      let none : full.0 ≡ [] = go full.0 full.2.params full.4 (λ some. plain (full.2, full.3, some)) in
      let shape : has.0 ≡ ty.Class g [] = full.1 ∙ ap (λ us. ty.Class g us) none in
      (subst (IsFullType w g) shape full, subst (Subtype w s) shape has.2)
    where
      go : (us : List JavaType) (n : ℕ) → length us ≡ n → (0 < n → ⊥) → us ≡ []
      go [] n len plain = refl
      go (u ∷ us) n len plain = absurd (plain (omega (arith, len)))

  -- ways that were gone

  pub path_lift : (d : JavaType) (c m : ℕ) (xs : List JavaType) (t u : JavaType) → IsClassType w d → ((g : ℕ) (ys : List JavaType) → d ≡ ty.Class g ys → c ≡ g)
      → ((g : ℕ) (ys : List JavaType) → d ≡ ty.Class g ys → xs ≡ ys) → (IsRaw w c xs → ⊥) → IsPath w (record { from = c; to = m }) t → u ≡ substitute xs t → IsFullType w m u × Subtype w d u
  path_lift d c m xs t u is read read' not_raw path e =
      let shape = read_type d c xs is read read' in
      let over = subst (IsTypeOver w is.0.0) shape is.0.1 in
      let full = full_of is.0.0 c xs over not_raw in
      let len : length xs ≡ full.2.params = ap length (same_class c c xs full.0 full.1).1 ∙ full.4 in
      let there = path full.2 full.3 in
      let up = full_lift is.0.0 c m xs t full.2 over full.3 len there.0 there.1 in
      (subst (IsFullType w m) (sym e) up.0, subst (λ d. Subtype w d u) (sym shape) (subst (Subtype w (ty.Class c xs)) (sym e) up.1))

  pub path_below : (c m : ℕ) (d t : JavaType) → IsDirectSuper w c d → IsFullType w m t × Subtype w d t → IsPath w (record { from = c; to = m }) t
  path_below c m d t direct up info at = (up.0, through (own_super c info d at direct) up.1)

  -- the ways up from the types of a list

  type_over : (ds : List JavaType) → AreSingleTypes w ds → (k : ℕ) (d : JavaType) → slice_get ds k ≡ Some d → (n : ℕ) × (g : ℕ) × (xs : List JavaType) × (d ≡ ty.Class g xs) × IsTypeOver w n (ty.Class g xs) × IsSingleClass w g
  type_over ds are k d at =
      let is = are k d at in
      (is.0.0.0, is.0.1.0, is.0.1.1, is.0.1.2, subst (IsTypeOver w is.0.0.0) is.0.1.2 is.0.0.1, is.1 is.0.1.0 is.0.1.1 is.0.1.2)

  -- each of them is below at most one parameterization of a class
  one_above : (ds : List JavaType) (k : ℕ) (d : JavaType) (g : ℕ) (t u : JavaType) → AreSingleTypes w ds → slice_get ds k ≡ Some d → Parameterizes g t → Parameterizes g u → Subtype w d t → Subtype w d u → t ≡ u
  one_above ds k d g t u are at p q a b =
      let is = type_over ds are k d at in
      one_base w sups is.0 is.1 g is.2 t u is.5 is.4 p q (subst (λ d. Subtype w d t) is.3 a) (subst (λ d. Subtype w d u) is.3 b)

  some_args : (us : List JavaType) (n : ℕ) → length us ≡ n → 0 < n → us ≡ [] → ⊥
  some_args us n len some none = let zero_is : length us ≡ 0 = ap length none in omega (arith, len, some, zero_is)

  -- Where one type of a class is above two of the types, so is of each class that is above that one; and of these no other is above either.
  pub settles : (listed : List ℕ) (rows : List (Option (List ℕ))) (ds : List JavaType) (i j m : ℕ) (d e t : JavaType) (old row new : List ℕ) → AreRows w listed rows → AreSingleTypes w ds → AgreeBefore w ds i → j < i
      → slice_get ds j ≡ Some e → slice_get ds i ≡ Some d → IsFullType w m t → Subtype w e t → Subtype w d t → slice_get rows m ≡ Some (Some row) → AreSettled w listed ds i old → SetsAll old new row → AreSettled w listed ds i new
  settles listed rows ds i j m d e t old row new are singles agree lt at_j at_i full under_e under_d there before sets q g set at = elim ((sets q).0 set) [
    | inl was ↦ before q g was at
    | inr more ↦ λ k e' d' t' u' lt_k at_k at_d p r a b.
        let one = (are m full.2 row full.3 there).full q more in
        let number : one.0 ≡ g = cc (one.1, at) in
        let is_e = type_over ds singles j e at_j in
        let shape = full.1 in
        let over : IsTypeOver w is_e.0 t = (class_above w sups is_e.0 (ty.Class is_e.1 is_e.2) t (subst (λ s. Subtype w s t) is_e.3 under_e) is_e.1 is_e.2 refl is_e.4).1 in
        let up = full_lift is_e.0 m one.0 full.0 one.2.0 full.2 (subst (IsTypeOver w is_e.0) shape over) full.3 full.4 one.2.1 one.2.2 in
        let z = substitute full.0 one.2.0 in
        let high : Subtype w t z = subst (λ s. Subtype w s z) (sym shape) up.1 in
        let is_k = type_over ds singles k e' at_k in
        let generic = base_generic w sups is_k.0 is_k.1 g is_k.2 is_k.4 (t', p, subst (λ s. Subtype w s t') is_k.3 a) in
        let info : up.0.2 ≡ generic.0 = cc (up.0.3, ap (slice_get w.types) number ∙ generic.1) in
        let len : length up.0.0 ≡ generic.0.params = up.0.4 ∙ ap (λ (i : TypeInfo). i.params) info in
        let is_z : Parameterizes g z = (up.0.0, up.0.1 ∙ ap (λ g. ty.Class g up.0.0) number, some_args up.0.0 generic.0.params len generic.2) in
        let same_d : d' ≡ d = cc (at_d, at_i) in
        let first : t' ≡ z = agree k j e' e g t' z lt_k lt at_k at_j p is_z a (through under_e high) in
        let second : u' ≡ z = one_above ds i d g u' z singles at_i r is_z (subst (λ d. Subtype w d u') same_d b) (through under_d high) in
        first ∙ sym second
  ]

  pub agree_begins : (ds : List JavaType) → AgreeBefore w ds 0
  agree_begins ds j k d e g t u lt = absurd (omega (arith, lt))

  -- where all that is above the next type and an earlier one is settled, the next agrees with them
  pub agree_next : (listed : List ℕ) (ds : List JavaType) (i : ℕ) (d : JavaType) (above row settled : List ℕ) → IsSequence w listed → AreSingleTypes w ds → AgreeBefore w ds i → slice_get ds i ≡ Some d → HaveBits w listed ds i above
      → IsAboveRow w listed d row → AreSettled w listed ds i settled → ((q : ℕ) → IsSet above q → IsSet row q → IsSet settled q) → AgreeBefore w ds (i + 1)
  agree_next listed ds i d above row settled seq singles agree at bits is done all j k x y g t u lt_j lt_k at_j at_k p r a b = elim (lower_or_last j i lt_j) [
    | inl low_j ↦ elim (lower_or_last k i lt_k) [
      | inl low_k ↦ agree j k x y g t u low_j low_k at_j at_k p r a b
      | inr last ↦ across j x y g t u low_j at_j (ap (slice_get ds) (sym last) ∙ at_k) p r a b
    ]
    | inr last_j ↦ elim (lower_or_last k i lt_k) [
      | inl low_k ↦ sym (across k y x g u t low_k at_k (ap (slice_get ds) (sym last_j) ∙ at_j) r p b a)
      | inr last_k ↦
          let here : slice_get ds j ≡ Some y = ap (slice_get ds) (last_j ∙ sym last_k) ∙ at_k in
          let alike : y ≡ x = cc (here, at_j) in
          one_above ds j x g t u singles at_j p r a (subst (λ y. Subtype w y u) alike b)
    ]
  ]
    where
      across : (j : ℕ) (x y : JavaType) (g : ℕ) (t u : JavaType) → j < i → slice_get ds j ≡ Some x → slice_get ds i ≡ Some y → Parameterizes g t → Parameterizes g u → Subtype w x t → Subtype w y u → t ≡ u
      across j x y g t u low at_j at_i p r a b =
          let alike : y ≡ d = cc (at_i, at) in
          let first = bits j x g low at_j (t, p, a) in
          let second = is.bases g (u, r, subst (λ y. Subtype w y u) alike b) in
          let place_is : second.0 ≡ first.0 = seq.once second.0 first.0 g second.1 first.1 in
          let set = all first.0 first.2 (subst (IsSet row) place_is second.2) in
          done first.0 g set first.1 j x y t u low at_j at_i p r a b

  pub agree_single : (listed : List ℕ) (c : ℕ) (ds : List JavaType) → IsSequence w listed → ds ≡ declared_supers w c → AgreeBefore w ds (length ds) → IsSingleClass w c
  agree_single listed c ds seq alike agree = joined w sups listed seq c (λ j k d e g t u at_j at_k p q a b.
      let here_j = ap (λ l. slice_get l j) alike ∙ at_j in
      let here_k = ap (λ l. slice_get l k) alike ∙ at_k in
      agree j k d e g t u (slice_get_within ds j d here_j) (slice_get_within ds k e here_k) here_j here_k p q a b)

  -- the declared supertypes of a class whose classes are below at most one parameterization of each class
  pub supers_single : (c : ℕ) → ((g : ℕ) (args : List JavaType) → IsDirectSuper w c (ty.Class g args) → IsSingleClass w g) → AreSingleTypes w (declared_supers w c)
  supers_single c single k d there =
      let direct = (direct_at w c d).0 (k, there) in
      (super_type c d direct, λ g xs shape. single g xs (subst (IsDirectSuper w c) shape direct))

-- a way that is remembered

path_same : (p q : Path) → same_path p q ≡ true → p ≡ q
path_same p q e =
    let both = and_parts (nat_eq p.from q.from) (nat_eq p.to q.to) e in
    let froms = eqb-true p.from q.from both.0 in
    let tos = eqb-true p.to q.to both.1 in
    ap (λ x. (λ (r : Path). r) (record { from = x; to = p.to })) froms ∙ ap (λ x. (λ (r : Path). r) (record { from = q.from; to = x })) tos

pub paths_put : (w : World) (f g : Path → Option JavaType) (key : Path) (u : JavaType) → ((p : Path) (t : JavaType) → f p ≡ Some t → IsPath w p t) → ((p : Path) → g p ≡ cond (same_path key p) (Some u) (f p)) → IsPath w key u
    → (p : Path) (t : JavaType) → g p ≡ Some t → IsPath w p t
paths_put w f g key u old puts new p t = go (same_path key p) refl
  where
    go : (b : Bool) → same_path key p ≡ b → g p ≡ Some t → IsPath w p t
    go true e h =
        let here : g p ≡ Some u = puts p ∙ ap (λ b. cond b (Some u) (f p)) e in
        let alike : u ≡ t = cc (here, h) in
        subst (IsPath w p) alike (subst (λ p. IsPath w p u) (path_same key p e) new)
    go false e h =
        let there : g p ≡ f p = puts p ∙ ap (λ b. cond b (Some u) (f p)) e in
        old p t (sym there ∙ h)

-- where a word of two lists has no bit in both that the third has not, each that is in both is in the third
pub word_settled : (words others settled : List ℕ) (i a b s : ℕ) → slice_get words i ≡ Some a → slice_get others i ≡ Some b → slice_get settled i ≡ Some s → s < 2 ^ 64 → bit_and (bit_and a b) (bit_not w64 s) ≡ 0
    → (q : ℕ) → i ≡ q / 64 → IsSet words q → IsSet others q → IsSet settled q
word_settled words others settled i a b s at_a at_b at_s small none q place in_a in_b =
    let k = q % 64 in
    let low : q % 64 < 64 = omega arith in
    let x = (word_told words i a at_a q place).0 in_a in
    let y = (word_told others i b at_b q place).0 in_b in
    let left : bit_at (bit_and (bit_and a b) (bit_not w64 s)) k ≡ 0 = ap (λ n. bit_at n k) none ∙ bit_at-zero k in
    let whole = bit_at_and (bit_and a b) (bit_not w64 s) k in
    let first = bit_at_and a b k in
    let second = bit_at_not w64 s k small low in
    (word_told settled i s at_s q place).1 (omega (arith, x, y, left, whole, first, second, bit_at-lt s k))
