-- The search for a sequence of the classes, step by step.
use Rattle.std.proofs.Common.{◌≡◌, ℕ, ◌+◌, ◌<◌, ◌≤◌, zero, suc, Bool, true, false, List, [], ◌∷◌, ◌++◌, Option, None, Some, ◌⊎◌, ◌↔◌, inl, inr, map, refl, sym, ap, ◌∙◌, subst, length, arith}
use Rattle.std.specs.Prelude.{slice_get, slice_set, replicate}
use Rattle.std.proofs.lemmas.List.{map-append}
use Rattle.std.proofs.lemmas.Option.{slice_get_within}
use Rattle.class_world.specs.declared.world.TypeInfo.{TypeInfo}
use Rattle.class_world.specs.declared.world.World.{World}
use Rattle.class_world.specs.declared.world.JavaType.{JavaType}
use Rattle.class_world.specs.declared.world.JavaType.TheVariants as ty
use Rattle.class_world.specs.DirectSupers.{IsDirectSuper}
use Rattle.class_world.specs.Subtypes.{Subtype, same, through}
use Rattle.class_world.specs.Sound.{HaveClassSupers}
use Rattle.class_world.specs.declared.sequence.Visit.{Visit}
use Rattle.class_world.specs.Merged.{FinishedBefore, IsAboveItself, IsSearch, declared_supers, supers_in}
use Rattle.class_world.specs.Sequences.{IsSequence}
use Rattle.class_world.proofs.Substs.{there_is}
use Rattle.class_world.proofs.Orders.{class_parts}
use Rattle.class_world.proofs.Lifts.{bare_declared}
use Rattle.class_world.proofs.Words.{set_here, set_there, same_or_other, length_set}
use Rattle.class_world.proofs.Ends.{at_last, at_first, first_or_end}

-- how many are not yet seen
abbrev pub unseen : List Bool → ℕ
unseen [] = 0
unseen (true ∷ bs) = unseen bs
unseen (false ∷ bs) = unseen bs + 1

pub one_seen : (bs : List Bool) (i : ℕ) → slice_get bs i ≡ Some false → unseen (slice_set bs i true) + 1 ≡ unseen bs
one_seen [] i e = absurd (cc e)
one_seen (true ∷ bs) zero e = absurd (cc e)
one_seen (false ∷ bs) zero e = refl
one_seen (true ∷ bs) (suc i) e = one_seen bs i e
one_seen (false ∷ bs) (suc i) e = ap (λ n. n + 1) (one_seen bs i e)

true_or_false : (b : Bool) → (b ≡ true) ⊎ (b ≡ false)
true_or_false true = inl refl
true_or_false false = inr refl

-- within a table a flag is set or not
pub flag_at : (bs : List Bool) (i : ℕ) → i < length bs → (slice_get bs i ≡ Some true) ⊎ (slice_get bs i ≡ Some false)
flag_at bs i lt =
    let h = there_is bs i lt in
    elim (true_or_false h.0) [ inl e ↦ inl (h.1 ∙ ap (λ b. Some b) e) | inr e ↦ inr (h.1 ∙ ap (λ b. Some b) e) ]

-- a flag after one is set
pub set_kept : (bs : List Bool) (i j : ℕ) → slice_get bs j ≡ Some true → slice_get (slice_set bs i true) j ≡ Some true
set_kept bs i j e = elim (same_or_other i j) [
  | inl is ↦ ap (slice_get (slice_set bs i true)) (sym is) ∙ set_here bs i true (subst (λ k. k < length bs) (sym is) (slice_get_within bs j true e))
  | inr other ↦ set_there bs i j true other ∙ e
]

set_before : (bs : List Bool) (i j : ℕ) (b : Bool) → (i ≡ j → ⊥) → slice_get (slice_set bs i true) j ≡ Some b → slice_get bs j ≡ Some b
set_before bs i j b other e = sym (set_there bs i j true other) ∙ e

pub none_seen : (n c : ℕ) → slice_get (replicate n false) c ≡ Some true → ⊥
none_seen zero c e = absurd (cc e)
none_seen (suc n) zero e = absurd (cc e)
none_seen (suc n) (suc c) e = none_seen n c e

pub length_replicate : (n : ℕ) (b : Bool) → length (replicate n b) ≡ n
length_replicate zero b = refl
length_replicate (suc n) b = ap suc (length_replicate n b)

pub length_snoc : {A : Type 0} (xs : List A) (x : A) → length (xs ++ x ∷ []) ≡ length xs + 1
length_snoc [] x = refl
length_snoc (y ∷ ys) x = let rest = length_snoc ys x in omega (arith, rest)

module _ (w : World) (sups : HaveClassSupers w) where
  -- the class of a declared supertype is one of the world
  pub super_within : (c g : ℕ) (args : List JavaType) → IsDirectSuper w c (ty.Class g args) → g < length w.types
  super_within c g args h =
      let parts = class_parts w h.0.params (ty.Class g args) g args (sups.supers c h.0 (ty.Class g args) h.1 h).0 refl in
      slice_get_within w.types g parts.0 parts.1

  pub super_is_class : (c : ℕ) (d : JavaType) → IsDirectSuper w c d → (g : ℕ) × (args : List JavaType) × (d ≡ ty.Class g args)
  super_is_class c d h = (sups.supers c h.0 d h.1 h).1

  pub search_begins : (seen finished : List Bool) (listed : List ℕ) → seen ≡ replicate (length w.types) false → finished ≡ replicate (length w.types) false → listed ≡ []
      → IsSearch w seen finished [] listed
  search_begins seen finished listed e f g = record {
    seen_size = ap length e ∙ length_replicate (length w.types) false;
    finished_size = ap length f ∙ length_replicate (length w.types) false;
    stacked = λ i c at. absurd (cc at);
    waiting = λ c is not. absurd (none_seen (length w.types) c (ap (λ bs. slice_get bs c) (sym e) ∙ is));
    chain = λ i j a b le at at'. absurd (cc at);
    begun = λ c is. absurd (none_seen (length w.types) c (ap (λ bs. slice_get bs c) (sym f) ∙ is));
    noticed = λ i c at. absurd (cc at);
    pending = λ i c at. absurd (cc at);
    apart = λ i j c at. absurd (cc at);
    known = λ i c at. let none : slice_get [] i ≡ Some c = ap (λ xs. slice_get xs i) (sym g) ∙ at in absurd (cc none);
    over = λ i c at. let none : slice_get [] i ≡ Some c = ap (λ xs. slice_get xs i) (sym g) ∙ at in absurd (cc none);
    once = λ i j c at. let none : slice_get [] i ≡ Some c = ap (λ xs. slice_get xs i) (sym g) ∙ at in absurd (cc none);
    done = λ c is. absurd (none_seen (length w.types) c (ap (λ bs. slice_get bs c) (sym f) ∙ is));
    before = λ i c h args at. let none : slice_get [] i ≡ Some c = ap (λ xs. slice_get xs i) (sym g) ∙ at in absurd (cc none);
  }

  pub search_enters : (seen new finished : List Bool) (listed : List ℕ) (start : ℕ) → IsSearch w seen finished [] listed → start < length w.types → slice_get seen start ≡ Some false → new ≡ slice_set seen start true
      → IsSearch w new finished (start ∷ []) listed
  search_enters seen new finished listed start h lt fresh made = record {
    seen_size = ap length made ∙ length_set seen start true ∙ h.seen_size;
    finished_size = h.finished_size;
    stacked = one;
    waiting = λ c is not. elim (same_or_other start c) [
      | inl e ↦ (0, ap (λ x. Some x) e)
      | inr other ↦ let k = h.waiting c (set_before seen start c true other (ap (λ bs. slice_get bs c) (sym made) ∙ is)) not in absurd (cc k.1)
    ];
    chain = one_chain;
    begun = λ c is. ap (λ bs. slice_get bs c) made ∙ set_kept seen start c (h.begun c is);
    noticed = λ i c at. subst (λ c. slice_get new c ≡ Some true) (start_is i c at).0
        (ap (λ bs. slice_get bs start) made ∙ set_here seen start true (subst (λ n. start < n) (sym h.seen_size) lt));
    pending = λ i c at. subst (λ c. slice_get finished c ≡ Some false) (start_is i c at).0 (elim (flag_at finished start (subst (λ n. start < n) (sym h.finished_size) lt)) [
      | inl done ↦ let never = h.begun start done in absurd (cc (never, fresh))
      | inr open_yet ↦ open_yet
    ]);
    apart = λ i j c at at'. (start_is i c at).1 ∙ sym (start_is j c at').1;
    known = h.known;
    over = h.over;
    once = h.once;
    done = h.done;
    before = h.before;
  }
    where
      one : (i c : ℕ) → slice_get (start ∷ []) i ≡ Some c → c < length w.types
      one zero c at = let e : start ≡ c = cc at in subst (λ c. c < length w.types) e lt
      one (suc i) c at = absurd (cc at)

      start_is : (i c : ℕ) → slice_get (start ∷ []) i ≡ Some c → (start ≡ c) × (i ≡ 0)
      start_is zero c at = (cc at, refl)
      start_is (suc i) c at = absurd (cc at)

      one_chain : (i j a b : ℕ) → i ≤ j → slice_get (start ∷ []) i ≡ Some a → slice_get (start ∷ []) j ≡ Some b → Subtype w (ty.Class a []) (ty.Class b [])
      one_chain zero zero a b le at at' = let e : a ≡ b = cc (at, at') in subst (λ b. Subtype w (ty.Class a []) (ty.Class b [])) e same
      one_chain zero (suc j) a b le at at' = absurd (cc at')
      one_chain (suc i) j a b le at at' = absurd (cc at)

  pub last_stacked : (seen finished : List Bool) (stack rest listed : List ℕ) (top : ℕ) → IsSearch w seen finished stack listed → stack ≡ rest ++ top ∷ [] → top < length w.types
  last_stacked seen finished stack rest listed top h is_stack = h.stacked (length rest) top (ap (λ xs. slice_get xs (length rest)) is_stack ∙ at_last rest top)

  -- the class on top is finished
  pub search_leaves : (seen finished new : List Bool) (stack rest listed longer : List ℕ) (top : ℕ) → IsSearch w seen finished stack listed → stack ≡ rest ++ top ∷ []
      → new ≡ slice_set finished top true → longer ≡ listed ++ top ∷ [] → ((g : ℕ) (args : List JavaType) → IsDirectSuper w top (ty.Class g args) → slice_get finished g ≡ Some true)
      → IsSearch w seen new rest longer
  search_leaves seen finished new stack rest listed longer top h is_stack is_new is_longer supers =
      let in_stack : (i c : ℕ) → slice_get rest i ≡ Some c → slice_get stack i ≡ Some c = λ i c at. ap (λ xs. slice_get xs i) is_stack ∙ at_first rest top c i at in
      let top_at : slice_get stack (length rest) ≡ Some top = ap (λ xs. slice_get xs (length rest)) is_stack ∙ at_last rest top in
      let never : (k c : ℕ) → slice_get listed k ≡ Some c → c ≡ top → ⊥ = λ k c was e. let done = h.over k c was in let yet = h.pending (length rest) top top_at in cc (done, yet, e) in
      let in_list : (i c : ℕ) → slice_get longer i ≡ Some c → (slice_get listed i ≡ Some c) ⊎ ((c ≡ top) × (i ≡ length listed)) =
      λ i c at. first_or_end listed top c i (ap (λ xs. slice_get xs i) (sym is_longer) ∙ at) in
      let top_lt : top < length w.types = h.stacked (length rest) top top_at in
      let top_set : slice_get new top ≡ Some true = ap (λ bs. slice_get bs top) is_new ∙ set_here finished top true (subst (λ n. top < n) (sym h.finished_size) top_lt) in
      let last_at : slice_get longer (length listed) ≡ Some top = ap (λ xs. slice_get xs (length listed)) is_longer ∙ at_last listed top in
      let keep : (i c : ℕ) → slice_get listed i ≡ Some c → slice_get longer i ≡ Some c = λ i c at. ap (λ xs. slice_get xs i) is_longer ∙ at_first listed top c i at in
      record {
        seen_size = h.seen_size;
        finished_size = ap length is_new ∙ length_set finished top true ∙ h.finished_size;
        stacked = λ i c at. h.stacked i c (in_stack i c at);
        waiting = λ c is not. elim (same_or_other top c) [
          | inl e ↦ let never : Some true ≡ Some false = sym top_set ∙ ap (slice_get new) e ∙ not in absurd (cc never)
          | inr other ↦
              let k = h.waiting c is (set_before finished top c false other (ap (λ bs. slice_get bs c) (sym is_new) ∙ not)) in
              elim (first_or_end rest top c k.0 (ap (λ xs. slice_get xs k.0) (sym is_stack) ∙ k.1)) [ inl at ↦ (k.0, at) | inr last ↦ absurd (other (sym last.0)) ]
        ];
        chain = λ i j a b le at at'. h.chain i j a b le (in_stack i a at) (in_stack j b at');
        begun = λ c is. elim (same_or_other top c) [
          | inl e ↦ subst (λ c. slice_get seen c ≡ Some true) e (h.noticed (length rest) top top_at)
          | inr other ↦ h.begun c (set_before finished top c true other (ap (λ bs. slice_get bs c) (sym is_new) ∙ is))
        ];
        noticed = λ i c at. h.noticed i c (in_stack i c at);
        pending = λ i c at. elim (same_or_other top c) [
          | inl e ↦
              let within = slice_get_within rest i c at in
              let place : i ≡ length rest = h.apart i (length rest) c (in_stack i c at) (top_at ∙ ap (λ x. Some x) e) in
              absurd (omega (arith, within, place))
          | inr other ↦ ap (λ bs. slice_get bs c) is_new ∙ set_there finished top c true other ∙ h.pending i c (in_stack i c at)
        ];
        apart = λ i j c at at'. h.apart i j c (in_stack i c at) (in_stack j c at');
        known = λ i c at. elim (first_or_end listed top c i (ap (λ xs. slice_get xs i) (sym is_longer) ∙ at)) [
          | inl was ↦ h.known i c was
          | inr last ↦ subst (λ c. c < length w.types) (sym last.0) top_lt
        ];
        over = λ i c at. elim (in_list i c at) [
          | inl was ↦ ap (λ bs. slice_get bs c) is_new ∙ set_kept finished top c (h.over i c was)
          | inr last ↦ subst (λ c. slice_get new c ≡ Some true) (sym last.0) top_set
        ];
        once = λ i j c at at'. elim (in_list i c at) [
          | inl was ↦ elim (in_list j c at') [ inl too ↦ h.once i j c was too | inr last ↦ absurd (never i c was last.0) ]
          | inr last ↦ elim (in_list j c at') [ inl was ↦ absurd (never j c was last.0) | inr too ↦ last.1 ∙ sym too.1 ]
        ];
        done = λ c is. elim (same_or_other top c) [
          | inl e ↦ (length listed, last_at ∙ ap (λ x. Some x) e)
          | inr other ↦ let k = h.done c (set_before finished top c true other (ap (λ bs. slice_get bs c) (sym is_new) ∙ is)) in (k.0, keep k.0 c k.1)
        ];
        before = λ i c g args at super. elim (first_or_end listed top c i (ap (λ xs. slice_get xs i) (sym is_longer) ∙ at)) [
          | inl was ↦ let k = h.before i c g args was super in (k.0, k.1, keep k.0 g k.2)
          | inr last ↦
              let k = h.done g (supers g args (subst (λ c. IsDirectSuper w c (ty.Class g args)) last.0 super)) in
              let lt = slice_get_within listed k.0 g k.1 in
              (k.0, omega (arith, lt, last.1), keep k.0 g k.1)
        ];
      }

  -- a class not seen comes on top
  pub search_goes_up : (seen new finished : List Bool) (stack rest longer listed : List ℕ) (top g : ℕ) (args : List JavaType) → IsSearch w seen finished stack listed → stack ≡ rest ++ top ∷ []
      → slice_get seen g ≡ Some false → new ≡ slice_set seen g true → longer ≡ stack ++ g ∷ [] → IsDirectSuper w top (ty.Class g args) → IsSearch w new finished longer listed
  search_goes_up seen new finished stack rest longer listed top g args h is_stack fresh is_new is_longer super =
      let lt : g < length w.types = super_within top g args super in
      let top_at : slice_get stack (length rest) ≡ Some top = ap (λ xs. slice_get xs (length rest)) is_stack ∙ at_last rest top in
      let up : Subtype w (ty.Class top []) (ty.Class g []) = bare_declared w sups top super.0 (ty.Class g args) super.2 super.1 super.3 g args refl in
      let old_or_last : (i c : ℕ) → slice_get longer i ≡ Some c → (slice_get stack i ≡ Some c) ⊎ ((c ≡ g) × (i ≡ length stack)) =
      λ i c at. first_or_end stack g c i (ap (λ xs. slice_get xs i) (sym is_longer) ∙ at) in
      let never : (k c : ℕ) → slice_get stack k ≡ Some c → c ≡ g → ⊥ = λ k c was e. let noticed = h.noticed k c was in cc (noticed, fresh, e) in
      let size : length stack ≡ length rest + 1 = ap length is_stack ∙ longer_by_one rest top in
      record {
        seen_size = ap length is_new ∙ length_set seen g true ∙ h.seen_size;
        finished_size = h.finished_size;
        stacked = λ i c at. elim (old_or_last i c at) [ inl was ↦ h.stacked i c was | inr last ↦ subst (λ c. c < length w.types) (sym last.0) lt ];
        waiting = λ c is not. elim (same_or_other g c) [
          | inl e ↦ (length stack, ap (λ xs. slice_get xs (length stack)) is_longer ∙ at_last stack g ∙ ap (λ x. Some x) e)
          | inr other ↦
              let k = h.waiting c (set_before seen g c true other (ap (λ bs. slice_get bs c) (sym is_new) ∙ is)) not in
              (k.0, ap (λ xs. slice_get xs k.0) is_longer ∙ at_first stack g c k.0 k.1)
        ];
        chain = λ i j a b le at at'. elim (old_or_last i a at) [
          | inl was_a ↦ elim (old_or_last j b at') [
            | inl was_b ↦ h.chain i j a b le was_a was_b
            | inr last_b ↦
                let within = slice_get_within stack i a was_a in
                subst (λ b. Subtype w (ty.Class a []) (ty.Class b [])) (sym last_b.0) (through (h.chain i (length rest) a top (omega (arith, within, size)) was_a top_at) up)
          ]
          | inr last_a ↦ elim (old_or_last j b at') [
            | inl was_b ↦ let within = slice_get_within stack j b was_b in absurd (omega (arith, within, last_a.1, le))
            | inr last_b ↦ subst (λ b. Subtype w (ty.Class a []) (ty.Class b [])) (last_a.0 ∙ sym last_b.0) same
          ]
        ];
        begun = λ c is. ap (λ bs. slice_get bs c) is_new ∙ set_kept seen g c (h.begun c is);
        noticed = λ i c at. elim (old_or_last i c at) [
          | inl was ↦ ap (λ bs. slice_get bs c) is_new ∙ set_kept seen g c (h.noticed i c was)
          | inr last ↦ subst (λ c. slice_get new c ≡ Some true) (sym last.0) (ap (λ bs. slice_get bs g) is_new ∙ set_here seen g true (subst (λ n. g < n) (sym h.seen_size) lt))
        ];
        pending = λ i c at. elim (old_or_last i c at) [
          | inl was ↦ h.pending i c was
          | inr last ↦ subst (λ c. slice_get finished c ≡ Some false) (sym last.0) (elim (flag_at finished g (subst (λ n. g < n) (sym h.finished_size) lt)) [
            | inl done ↦ let was = h.begun g done in absurd (cc (was, fresh))
            | inr open_yet ↦ open_yet
          ])
        ];
        apart = λ i j c at at'. elim (old_or_last i c at) [
          | inl was ↦ elim (old_or_last j c at') [ inl too ↦ h.apart i j c was too | inr last ↦ absurd (never i c was last.0) ]
          | inr last ↦ elim (old_or_last j c at') [ inl was ↦ absurd (never j c was last.0) | inr too ↦ last.1 ∙ sym too.1 ]
        ];
        known = h.known;
        over = h.over;
        once = h.once;
        done = h.done;
        before = h.before;
      }
    where
      longer_by_one : (xs : List ℕ) (x : ℕ) → length (xs ++ x ∷ []) ≡ length xs + 1
      longer_by_one [] x = refl
      longer_by_one (y ∷ ys) x = let rest = longer_by_one ys x in omega (arith, rest)

  -- a class seen and not finished is below the one on top
  pub search_meets : (seen finished : List Bool) (stack rest listed : List ℕ) (top g : ℕ) (args : List JavaType) → IsSearch w seen finished stack listed → stack ≡ rest ++ top ∷ []
      → slice_get seen g ≡ Some true → slice_get finished g ≡ Some false → IsDirectSuper w top (ty.Class g args) → IsAboveItself w top
  search_meets seen finished stack rest listed top g args h is_stack is not super =
      let k = h.waiting g is not in
      let le : k.0 ≤ length rest = elim (first_or_end rest top g k.0 (ap (λ xs. slice_get xs k.0) (sym is_stack) ∙ k.1)) [
        | inl at ↦ let lt = slice_get_within rest k.0 g at in omega (arith, lt)
        | inr last ↦ omega (arith, last.1)
      ] in
      (g, args, super, h.chain k.0 (length rest) g top le k.1 (ap (λ xs. slice_get xs (length rest)) is_stack ∙ at_last rest top))

  -- where all are seen and none waits, the list is a sequence of all
  pub search_ends : (seen finished : List Bool) (listed : List ℕ) → IsSearch w seen finished [] listed → ((c : ℕ) → c < length w.types → slice_get seen c ≡ Some true) → IsSequence w listed
  search_ends seen finished listed h all = record {
    known = h.known;
    once = h.once;
    all = λ c lt. elim (flag_at finished c (subst (λ n. c < n) (sym h.finished_size) lt)) [
      | inl is ↦ h.done c is
      | inr not ↦ let k = h.waiting c (all c lt) not in absurd (cc k.1)
    ];
    before = h.before;
  }

  -- a super of a class that is not finished
  pub unfinished : (c g : ℕ) (finished : List Bool) (d : JavaType) → length finished ≡ length w.types → IsDirectSuper w c d → ((h : ℕ) (args : List JavaType) → d ≡ ty.Class h args → g ≡ h)
      → (slice_get finished g ≡ Some true → ⊥) → ((args : List JavaType) × IsDirectSuper w c (ty.Class g args)) × (slice_get finished g ≡ Some false)
  unfinished c g finished d size super read not =
      let is = super_is_class c d super in
      let number : is.0 ≡ g = sym (read is.0 is.1 is.2) in
      let direct : IsDirectSuper w c (ty.Class g is.1) = subst (λ d. IsDirectSuper w c d) (is.2 ∙ ap (λ g. ty.Class g is.1) number) super in
      let lt : g < length w.types = super_within c g is.1 direct in
      ((is.1, direct), elim (flag_at finished g (subst (λ n. g < n) (sym size) lt)) [ inl done ↦ absurd (not done) | inr h ↦ h ])

-- the declared supertypes of a class, by their places
pub direct_at : (w : World) (c : ℕ) (d : JavaType) → ((k : ℕ) × (slice_get (declared_supers w c) k ≡ Some d)) ↔ IsDirectSuper w c d
direct_at w c d = (
  λ h. go (slice_get w.types c) refl h,
  λ h. (h.2, ap (λ o. slice_get (supers_in o) h.2) h.1 ∙ h.3),
)
  where
    go : (o : Option TypeInfo) → slice_get w.types c ≡ o → ((k : ℕ) × (slice_get (supers_in o) k ≡ Some d)) → IsDirectSuper w c d
    go None e h = absurd (cc h.1)
    go (Some info) e h = (info, e, h.0, h.1)

-- a class's declared supertypes, read as a list
pub direct_in : (w : World) (c : ℕ) (items : List JavaType) → items ≡ declared_supers w c → (d : JavaType) → ((k : ℕ) × (slice_get items k ≡ Some d)) ↔ IsDirectSuper w c d
direct_in w c items e d = subst (λ items. ((k : ℕ) × (slice_get items k ≡ Some d)) ↔ IsDirectSuper w c d) (sym e) (direct_at w c d)

-- the classes of the supertypes that the visits have passed are finished

abbrev pub classes : List Visit → List ℕ
classes = map (λ (v : Visit). v.class)

abbrev pub HavePassed : World → List Bool → List Visit → Type 0
HavePassed w finished stack = (i : ℕ) (v : Visit) → slice_get stack i ≡ Some v → FinishedBefore finished (declared_supers w v.class) v.passed

pub classes_snoc : (stack rest : List Visit) (v : Visit) → stack ≡ rest ++ v ∷ [] → classes stack ≡ classes rest ++ v.class ∷ []
classes_snoc stack rest v e = ap classes e ∙ map-append (λ (v : Visit). v.class) rest (v ∷ [])

-- those below one on the stack, as more is finished
pub passed_below : (w : World) (finished new : List Bool) (stack rest : List Visit) (top : Visit) → HavePassed w finished stack → stack ≡ rest ++ top ∷ []
    → ((g : ℕ) → slice_get finished g ≡ Some true → slice_get new g ≡ Some true) → HavePassed w new rest
passed_below w finished new stack rest top h e kept i v at k g args lt there = kept g (h i v (ap (λ vs. slice_get vs i) e ∙ at_first rest top v i at) k g args lt there)

pub passed_push : (w : World) (finished : List Bool) (stack new : List Visit) (v : Visit) → HavePassed w finished stack → new ≡ stack ++ v ∷ []
    → FinishedBefore finished (declared_supers w v.class) v.passed → HavePassed w finished new
passed_push w finished stack new v h e here i u at = elim (first_or_end stack v u i (ap (λ vs. slice_get vs i) (sym e) ∙ at)) [
  | inl was ↦ h i u was
  | inr last ↦ subst (λ (v : Visit). FinishedBefore finished (declared_supers w v.class) v.passed) (sym last.0) here
]

pub none_before : (finished : List Bool) (ds : List JavaType) → FinishedBefore finished ds 0
none_before finished ds k g args lt = absurd (omega (arith, lt))

pub finished_next : (finished : List Bool) (ds : List JavaType) (i n : ℕ) (x : JavaType) → FinishedBefore finished ds i → slice_get ds i ≡ Some x → ((h : ℕ) (args : List JavaType) → x ≡ ty.Class h args → n ≡ h)
    → slice_get finished n ≡ Some true → FinishedBefore finished ds (i + 1)
finished_next finished ds i n x before at read done k g args lt at' = elim (lower_or_last k i lt) [
  | inl low ↦ before k g args low at'
  | inr last ↦
      let is : x ≡ ty.Class g args = cc (at, ap (slice_get ds) (sym last) ∙ at') in
      ap (slice_get finished) (sym (read g args is)) ∙ done
]
  where
    lower_or_last : (k i : ℕ) → k < i + 1 → (k < i) ⊎ (k ≡ i)
    lower_or_last k i h = grind (arith, h)
