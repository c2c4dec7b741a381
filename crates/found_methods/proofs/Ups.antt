-- Answers along superclasses.
use Rattle.std.proofs.Common.{◌≡◌, ℕ, ◌<◌, ◌≤◌, List, Option, Some, None, inl, inr, refl, sym, ap, ◌∙◌, subst, length, get_or, arith}
use Rattle.std.specs.Prelude.{slice_get}
use Rattle.std.specs.List.{Contains}
use Rattle.std.proofs.lemmas.Bool.{cases_lt}
use Rattle.std.proofs.lemmas.List.Kept.{AllPairs-from_increasing}
use Rattle.std.proofs.lemmas.List.Elements.{Contains-get_or}
use Rattle.std.proofs.lemmas.Option.{slice_get_within, get_or_from_slice_get}
use Rattle.class_world.specs.declared.world.World.{World}
use Rattle.class_world.specs.Overriding as by
use Rattle.class_world.specs.Overriding.{IsSuperclass, Answers, IsAnswer, IsFixed, IsFound, FoundIs}
use Rattle.method_ties.proofs.Firsts.{Among, contains_at, among_all}
use Rattle.overrides.specs.Families.{AreLabels}
use Rattle.overrides.specs.Tables.{value_at}
use Rattle.overrides.proofs.Belows.{overriding_within}
use Rattle.found_methods.specs.declared.callees.Callee.{Callee}
use Rattle.found_methods.specs.declared.firsts.Firsts.{Firsts}
use Rattle.found_methods.specs.Own.{IsOwn, IsLowest, LowestIs, IsGroup}
use Rattle.found_methods.specs.Firsts as rise
use Rattle.found_methods.specs.Firsts.{IsOnlySuperclass, Rises, Meets, HoldsFirsts}
use Rattle.found_methods.specs.Callees.{AreCallees}
use Rattle.found_methods.specs.Supers.{AreRanked}
use Rattle.found_methods.specs.Found.{IsInPlaceOf, OwnAnswerIs, AnswerIs}
use Rattle.found_methods.proofs.Owns.{own_within}

-- ---- answers and methods of a label

module _ (w : World) (labels : List ℕ) (are : AreLabels w labels) (m l : ℕ) (at : slice_get labels m ≡ Some l) where
  known : m < length w.methods
  known = let lt = slice_get_within labels m l at in let size = are.size in omega (arith, lt, size)

  pub answer_own : (o c k : ℕ) → Answers w o m c k → IsOwn w labels l c k
  answer_own o c k h =
      let alike = (are.each m k known).1 h.2 in
      let one : Some alike.0 ≡ Some l = sym alike.1 ∙ at in
      (h.0, h.1, alike.2 ∙ one)

  pub own_answer : (o c k : ℕ) → IsOwn w labels l c k → IsInPlaceOf w o k m → Answers w o m c k
  own_answer o c k own in_place = (own.0, own.1, (are.each m k known).0 (l, at, own.2), in_place)

  none_own : (o c : ℕ) → ((k : ℕ) → IsOwn w labels l c k → ⊥) → (k : ℕ) → Answers w o m c k → ⊥
  none_own o c none k h = none k (answer_own o c k h)

  -- ---- along the classes that declare none

  pub lift_answer : {c e : ℕ} (o k : ℕ) → Rises w labels l c e → IsAnswer w o m e k → IsAnswer w o m c k
  lift_answer o k rise.here h = h
  lift_answer o k (rise.up {c = c} none only rest) h = by.further (none_own o c none) only.0 (lift_answer o k rest h)

  lower_once : {c s k : ℕ} (o : ℕ) → ((j : ℕ) → IsOwn w labels l c j → ⊥) → IsOnlySuperclass w c s → IsAnswer w o m c k → IsAnswer w o m s k
  lower_once {c = c} {k = k} o none only (by.here h first) = absurd (none_own o c none k h)
  lower_once {c = c} {k = k} o none only (by.further {s = s} not is h) = subst (λ x. IsAnswer w o m x k) (only.1 s is) h

  pub lower_answer : {c e : ℕ} (o k : ℕ) → Rises w labels l c e → IsAnswer w o m c k → IsAnswer w o m e k
  lower_answer o k rise.here h = h
  lower_answer o k (rise.up none only rest) h = lower_answer o k rest (lower_once o none only h)

  pub meets_lowest : (c end : ℕ) (v : Option ℕ) → Meets w labels l c end v → (o : ℕ) × Rises w labels l c o × LowestIs w labels l o v
  meets_lowest c end None h = (end, h.0, h.1)
  meets_lowest c end (Some k) h = (h.0, h.1, h.2)

pub rise_falls : (w : World) (labels : List ℕ) (most l : ℕ) (ranked : AreRanked w most) {c o : ℕ} → Rises w labels l c o → ranked.rank o ≤ ranked.rank c
rise_falls w labels most l ranked rise.here = omega arith
rise_falls w labels most l ranked (rise.up {c = c} {s = s} none only rest) =
    let above = rise_falls w labels most l ranked rest in
    let here = ranked.falls c s only.0 in
    omega (arith, above, here)

-- ---- at the class itself

pub own_some : (w : World) (o m c k : ℕ) → OwnAnswerIs w o m c (Some k) → IsAnswer w o m c k
own_some w o m c k h = by.here h.0 h.1

-- an answer further up than a class that has none
pub answer_above : (w : World) (o m c k : ℕ) → OwnAnswerIs w o m c None → IsAnswer w o m c k → (s : ℕ) × IsSuperclass w c s × IsAnswer w o m s k
answer_above w o m c k none (by.here h first) = absurd (none k h)
answer_above w o m c k none (by.further {s = s} not is h) = (s, is, h)

-- nothing is declared by what is no class
pub no_answer : (w : World) (o m c k : ℕ) → length w.types ≤ c → IsAnswer w o m c k → ⊥
no_answer w o m c k past (by.here h first) = let class = h.0 in let lt = slice_get_within w.types c class.0 class.1 in absurd (omega (arith, lt, past))
no_answer w o m c k past (by.further not is h) = let class = is.0 in let lt = slice_get_within w.types c class.0 class.1 in absurd (omega (arith, lt, past))

-- what answers for a method is so only for one of the world
answered_within : (w : World) (o m c k : ℕ) → Answers w o m c k → m < length w.methods
answered_within w o m c k (class, own, family, inl same) = let lt = slice_get_within w.methods k own.0 own.1.0 in omega (arith, lt, same)
answered_within w o m c k (class, own, family, inr (inl over)) = (overriding_within over).1
answered_within w o m c k (class, own, family, inr (inr (inl one))) = let at = one.3 in slice_get_within w.methods m one.1 at.0
answered_within w o m c k (class, own, family, inr (inr (inr for))) = (overriding_within for.2).1

answer_within : (w : World) (o m : ℕ) {c k : ℕ} → IsAnswer w o m c k → m < length w.methods
answer_within w o m (by.here {c = c} {k = k} h first) = answered_within w o m c k h
answer_within w o m (by.further not is h) = answer_within w o m h

-- ---- look-ups

pub nothing_found : (w : World) (m c : ℕ) → length w.methods ≤ m → FoundIs w m c None
nothing_found w m c past k (by.fixed is) = let lt = slice_get_within w.methods m is.0 is.1 in absurd (omega (arith, lt, past))
nothing_found w m c past k (by.chosen not h) = let lt = answer_within w c m h in absurd (omega (arith, lt, past))

pub fixed_found : (w : World) (m c : ℕ) → IsFixed w m → FoundIs w m c (Some m)
fixed_found w m c is = by.fixed is

none_found : (w : World) (m c k : ℕ) → (IsFixed w m → ⊥) → AnswerIs w c m c None → IsFound w m c k → ⊥
none_found w m c k not none (by.fixed is) = not is
none_found w m c k not none (by.chosen other h) = none k h

pub answer_found : (w : World) (m c : ℕ) (r : Option ℕ) → (IsFixed w m → ⊥) → AnswerIs w c m c r → FoundIs w m c r
answer_found w m c None not none = λ k h. none_found w m c k not none h
answer_found w m c (Some k) not h = by.chosen not h

-- ---- the methods of one label that the class declares, in turn

module _ (w : World) (labels : List ℕ) (are : AreLabels w labels) (o m l c : ℕ) (at : slice_get labels m ≡ Some l) (list : List ℕ) (group : IsGroup w labels (length w.methods) l c list) where
  before_it : (j i : ℕ) → Contains list j → i < length list → j < get_or list i 0 → Among list i j
  before_it j i has lt low =
      let spot = contains_at list j has in
      let value : get_or list spot.0 0 ≡ j = get_or_from_slice_get list spot.0 j 0 spot.1 in
      elim (cases_lt spot.0 i) [
        | inl less ↦ (spot.0, less, spot.1)
        | inr more ↦ elim (cases_lt i spot.0) [
          | inl later ↦
              let over = AllPairs-from_increasing list group.ascending i spot.0 0 later (slice_get_within list spot.0 j spot.1) in
              absurd (omega (arith, value, over, low))
          | inr le ↦
              let same : spot.0 ≡ i = omega (arith, more, le) in
              let here : get_or list spot.0 0 ≡ get_or list i 0 = ap (λ x. get_or list x 0) same in
              absurd (omega (arith, value, here, low))
        ]
      ]

  pub first_here : (i : ℕ) → i < length list → IsInPlaceOf w o (get_or list i 0) m → ((j : ℕ) → Among list i j → IsInPlaceOf w o j m → ⊥) → OwnAnswerIs w o m c (Some (get_or list i 0))
  first_here i lt in_place none = (
    own_answer w labels are m l at o c (get_or list i 0) ((group.each (get_or list i 0)).0 (Contains-get_or list i 0 lt)).1 in_place,
    λ j low h.
        let own = answer_own w labels are m l at o c j h in
        none j (before_it j i ((group.each j).1 (own_within w labels own, own)) lt low) h.3,
  )

  pub none_here : (i : ℕ) → length list ≤ i → ((j : ℕ) → Among list i j → IsInPlaceOf w o j m → ⊥) → OwnAnswerIs w o m c None
  none_here i past none k h =
      let own = answer_own w labels are m l at o c k h in
      none k (among_all list i k past ((group.each k).1 (own_within w labels own, own))) h.3

-- ---- where the search for a label stops

pub stops_some : (w : World) (labels : List ℕ) (callees : List Callee) (t : Firsts) (l c k : ℕ) (x : Callee) → AreCallees w callees → HoldsFirsts w labels t c → value_at t.table c l ≡ Some k → slice_get callees k ≡ Some x
    → Rises w labels l c x.owner × LowestIs w labels l x.owner (Some k)
stops_some w labels callees t l c k x are firsts value at =
    let met : Meets w labels l c firsts.0 (Some k) = subst (Meets w labels l c firsts.0) value (firsts.2 l) in
    let declared = met.2.0.1 in
    let owner : met.0 ≡ x.owner = sym declared.2 ∙ sym (are.owner k x declared.0 at declared.1.0) in
    (subst (Rises w labels l c) owner met.1, subst (λ o. IsLowest w labels l o k) owner met.2)

pub stops_none : (w : World) (labels : List ℕ) (t : Firsts) (l c end : ℕ) → HoldsFirsts w labels t c → value_at t.table c l ≡ None → slice_get t.ends.items c ≡ Some end
    → Rises w labels l c end × LowestIs w labels l end None
stops_none w labels t l c end firsts value at =
    let one : Some firsts.0 ≡ Some end = sym firsts.1 ∙ at in
    let same : firsts.0 ≡ end = cc one in
    subst (λ e. Rises w labels l c e × LowestIs w labels l e None) same (subst (Meets w labels l c firsts.0) value (firsts.2 l))

pub met_within : (w : World) (labels : List ℕ) (t : Firsts) (l c k : ℕ) → HoldsFirsts w labels t c → value_at t.table c l ≡ Some k → k < length w.methods
met_within w labels t l c k firsts value =
    let met : Meets w labels l c firsts.0 (Some k) = subst (Meets w labels l c firsts.0) value (firsts.2 l) in
    own_within w labels met.2.0

-- ---- from the class upwards

module _ (w : World) (labels : List ℕ) (are : AreLabels w labels) (m l : ℕ) (at : slice_get labels m ≡ Some l) (o : ℕ) where
  pub found_at : (c e k : ℕ) → Rises w labels l c e → OwnAnswerIs w o m e (Some k) → AnswerIs w o m c (Some k)
  found_at c e k rises own = lift_answer w labels are m l at o k rises (own_some w o m e k own)

  pub found_above : (c e s k : ℕ) → Rises w labels l c e → OwnAnswerIs w o m e None → IsSuperclass w e s → AnswerIs w o m s (Some k) → AnswerIs w o m c (Some k)
  found_above c e s k rises none is h = lift_answer w labels are m l at o k rises (by.further none is h)

  pub none_above : (c e : ℕ) → Rises w labels l c e → OwnAnswerIs w o m e None → ((s : ℕ) → IsSuperclass w e s → (k : ℕ) → IsAnswer w o m s k → ⊥) → AnswerIs w o m c None
  none_above c e rises none above k h =
      let further = answer_above w o m e k none (lower_answer w labels are m l at o k rises h) in
      above further.0 further.1 k further.2

  -- what is answered for the class, where its first methods' own class has this answer
  pub own_returned : (c e : ℕ) (v : Option ℕ) → Rises w labels l c e → OwnAnswerIs w o m e v → (v ≡ None → (s : ℕ) → IsSuperclass w e s → (k : ℕ) → IsAnswer w o m s k → ⊥) → AnswerIs w o m c v
  own_returned c e None rises own none = none_above c e rises own (none refl)
  own_returned c e (Some k) rises own none = found_at c e k rises own

  -- or one further up
  pub above_returned : (c e s : ℕ) (v : Option ℕ) → Rises w labels l c e → OwnAnswerIs w o m e None → IsSuperclass w e s → AnswerIs w o m s v → (v ≡ None → ⊥) → AnswerIs w o m c v
  above_returned c e s None rises own is h not = absurd (not refl)
  above_returned c e s (Some k) rises own is h not = found_above c e s k rises own is h

-- ---- ranks

pub step_up : (w : World) (labels : List ℕ) (most l n : ℕ) (ranked : AreRanked w most) (c o s : ℕ) → Rises w labels l c o → IsSuperclass w o s → ranked.rank c ≤ n → ranked.rank s < n
step_up w labels most l n ranked c o s rises is few =
    let low = rise_falls w labels most l ranked rises in
    let falls = ranked.falls o s is in
    omega (arith, low, falls, few)

pub superclass_known : (w : World) (o s : ℕ) → IsSuperclass w o s → (o < length w.types) × (s < length w.types)
superclass_known w o s is = let low = is.0 in let high = is.2 in (slice_get_within w.types o low.0 low.1, slice_get_within w.types s high.0 high.1)
