-- The walk over the methods whose place a method takes.
use Rattle.std.proofs.Common.{◌≡◌, ℕ, ◌+◌, ◌<◌, List, [], ◌∷◌, ◌++◌, Option, None, Some, Bool, true, length, ◌⊎◌, inl, inr, refl, sym, ap, ◌∙◌, subst, arith}
use Rattle.std.specs.Prelude.{slice_get, slice_set}
use Rattle.std.specs.List.{Contains}
use Rattle.std.proofs.lemmas.Option.{slice_get_within}
use Rattle.std.proofs.lemmas.List.Elements.{Contains-append_left, Contains-append_right, Contains-append_cases}
use Rattle.rule_order.proofs.Lists.{in_none, in_first, in_cases}
use Rattle.class_world.proofs.Words.{set_here, set_there, same_or_other}
use Rattle.class_world.specs.declared.world.World.{World}
use Rattle.class_world.specs.declared.world.MethodInfo.{MethodInfo}
use Rattle.class_world.specs.Sound.{IsSound}
use Rattle.class_world.specs.Inheritance.{DeclaresMethod}
use Rattle.seen_methods.specs.Closed.{IsDeclaredBelow}
use Rattle.method_ties.specs.Ties.{AreReplaced}
use Rattle.override_rules.specs.Rules.{Breaks, TakesPlace, at_once, further}
use Rattle.override_rules.specs.Judged.{IsLowest, lower_of, BreaksAbove, AreClean, IsReplacedBy, IsBehind, IsMarked, Pushes}
use Rattle.class_world.specs.Typed.{HaveTypes}
use Rattle.override_rules.proofs.Numbers.{IsAtMost, lowest_at_most, lowest_in, at_most_left, at_most_right, lower_cases, lowest_from}
use Rattle.override_rules.proofs.Seen.{taken_below, taken_on}
use Rattle.override_rules.proofs.Laws.{law}

-- What m breaks over t is counted, and t breaks nothing, or all that it replaces is marked.
abbrev pub IsJudged : World → ℕ → ℕ → List Bool → List ℕ → ℕ → Option ℕ → ℕ → Type 0
IsJudged w c m clean marks stamp lowest t =
    ((r : ℕ) → Breaks w c m t r → IsAtMost lowest r) × ((slice_get clean t ≡ Some true) ⊎ ((k : ℕ) → IsReplacedBy w t k → IsMarked marks stamp k))

-- Marked are only methods whose place m takes, and all that m replaces; those that are not on the stack any more are judged.
pub record IsWalk (w : World) (c m : ℕ) (clean : List Bool) (marks : List ℕ) (stamp : ℕ) (stack : List ℕ) (lowest : Option ℕ) : Type 0 where
  pub reached : (k : ℕ) → IsMarked marks stamp k → TakesPlace w m k
  pub stacked : (k : ℕ) → Contains stack k → IsMarked marks stamp k
  pub nearest : (k : ℕ) → IsReplacedBy w m k → IsMarked marks stamp k
  pub done : (t : ℕ) → IsMarked marks stamp t → Contains stack t ⊎ IsJudged w c m clean marks stamp lowest t
  pub found : (q : ℕ) → lowest ≡ Some q → (k : ℕ) × TakesPlace w m k × Breaks w c m k q

pub replaced_within : (w : World) (m k : ℕ) → IsReplacedBy w m k → k < length w.methods
replaced_within w m k h = let has = h.1.3.1.2 in slice_get_within w.methods k has.0 has.1.0

-- what is on top of the stack
pub popped_takes : (w : World) (c m : ℕ) (clean : List Bool) (marks : List ℕ) (stamp : ℕ) (whole rest : List ℕ) (t : ℕ) (lowest : Option ℕ) → IsWalk w c m clean marks stamp whole lowest → whole ≡ rest ++ t ∷ []
    → TakesPlace w m t
popped_takes w c m clean marks stamp whole rest t lowest walk is =
    walk.reached t (walk.stacked t (subst (λ l. Contains l t) (sym is) (Contains-append_right rest (t ∷ []) t (in_first t []))))

module _ (w : World) (c m : ℕ) (clean : List Bool) (stamp : ℕ) where
  pub walk_begin : (ks old marks stack : List ℕ) → AreReplaced w m ks → ((k : ℕ) → IsMarked old stamp k → ⊥) → Pushes (Contains ks) stamp old marks [] stack → IsWalk w c m clean marks stamp stack None
  walk_begin ks old marks stack are fresh pushes = record {
    reached = λ k mark. elim (pushes.only k mark) [ inl was ↦ absurd (fresh k was) | inr in_ks ↦ at_once ((are.0 k).0 in_ks).1 ];
    stacked = λ k on. elim (pushes.marked k on) [ inl none ↦ absurd (in_none k none) | inr mark ↦ mark ];
    nearest = λ k rep. pushes.all k ((are.0 k).1 rep);
    done = λ t mark. elim (pushes.stacked t mark) [ inl was ↦ absurd (fresh t was) | inr on ↦ inl on ];
    found = λ q e. absurd (cc e);
  }

  pub walk_next : (marks new whole rest more ks : List ℕ) (t : ℕ) (lowest b : Option ℕ) → IsWalk w c m clean marks stamp whole lowest → whole ≡ rest ++ t ∷ [] → IsLowest (Breaks w c m t) b
      → IsBehind w clean t ks → Pushes (Contains ks) stamp marks new rest more → IsWalk w c m clean new stamp more (lower_of lowest b)
  walk_next marks new whole rest more ks t lowest b walk is low behind pushes =
      let takes = popped_takes w c m clean marks stamp whole rest t lowest walk is in
      record {
        reached = λ k mark. elim (pushes.only k mark) [ inl was ↦ walk.reached k was | inr in_ks ↦ taken_on w m t k takes (at_once (behind.0 k in_ks).1) ];
        stacked = λ k on. elim (pushes.marked k on) [
          | inl left ↦ pushes.kept k (walk.stacked k (subst (λ l. Contains l k) (sym is) (Contains-append_left rest (t ∷ []) k left)))
          | inr mark ↦ mark
        ];
        nearest = λ k rep. pushes.kept k (walk.nearest k rep);
        done = λ x mark. elim (pushes.stacked x mark) [
          | inr on ↦ inl on
          | inl was ↦
              elim (walk.done x was) [
                | inr h ↦ inr (λ r breaks. at_most_left lowest b r (h.0 r breaks), elim h.1 [ inl flag ↦ inl flag | inr all ↦ inr (λ k rep. pushes.kept k (all k rep)) ])
                | inl on ↦ popped x (Contains-append_cases rest (t ∷ []) x (subst (λ l. Contains l x) is on))
              ]
        ];
        found = λ q e. elim (lower_cases lowest b q e) [ inl first ↦ walk.found q first | inr here ↦ (t, takes, lowest_in (Breaks w c m t) b q low here) ];
      }
    where
      judged : IsJudged w c m clean new stamp (lower_of lowest b) t
      judged = (
        λ r breaks. at_most_right lowest b r (lowest_at_most (Breaks w c m t) b r low breaks),
        elim behind.1 [ inl flag ↦ inl flag | inr all ↦ inr (λ k rep. pushes.all k (all k rep)) ],
      )

      popped : (x : ℕ) → Contains rest x ⊎ Contains (t ∷ []) x → Contains more x ⊎ IsJudged w c m clean new stamp (lower_of lowest b) x
      popped x (inl left) = inl (pushes.still x left)
      popped x (inr last) = elim (in_cases t x [] last) [ inl e ↦ inr (subst (IsJudged w c m clean new stamp (lower_of lowest b)) (sym e) judged) | inr none ↦ absurd (in_none x none) ]

module _ (w : World) (sound : IsSound w) (typed : HaveTypes w) (c m : ℕ) (clean : List Bool) (marks : List ℕ) (stamp : ℕ) (lowest : Option ℕ) (are : AreClean w clean)
    (walk : IsWalk w c m clean marks stamp [] lowest) (decl : DeclaresMethod w c m) where
  judged_all : (t : ℕ) → IsMarked marks stamp t → IsJudged w c m clean marks stamp lowest t
  judged_all t mark = elim (walk.done t mark) [ inl on ↦ absurd (in_none t on) | inr h ↦ h ]

  -- behind a method that breaks nothing
  behind_clean : (t k r : ℕ) → IsMarked marks stamp t → slice_get clean t ≡ Some true → TakesPlace w t k → Breaks w c m k r → (IsAtMost lowest r → ⊥) → ⊥
  behind_clean t k r mark flag takes breaks missed =
      let tk = taken_below w sound t k takes in
      law w sound typed c tk.0.owner m t k decl (tk.0, tk.2, refl) (taken_below w sound m t (walk.reached t mark)) tk r breaks
      (λ low. missed ((judged_all t mark).0 r low))
      (λ q b. are t flag q (tk.0.owner, k, (tk.0, tk.2, refl), takes, b))

  counted : (t k : ℕ) → TakesPlace w t k → (r : ℕ) → IsMarked marks stamp t → Breaks w c m k r → (IsAtMost lowest r → ⊥) → ⊥
  counted t k (at_once {c = d} h) r mark breaks missed = elim ((judged_all t mark).1) [
    | inl flag ↦ behind_clean t k r mark flag (at_once h) breaks missed
    | inr all ↦ missed ((judged_all k (all k (d, h))).0 r breaks)
  ]
  counted t k (further {c = d} {t = s} h rest) r mark breaks missed = elim ((judged_all t mark).1) [
    | inl flag ↦ behind_clean t k r mark flag (further h rest) breaks missed
    | inr all ↦ counted s k rest r (all s (d, h)) breaks missed
  ]

  counted_first : (k : ℕ) → TakesPlace w m k → (r : ℕ) → Breaks w c m k r → (IsAtMost lowest r → ⊥) → ⊥
  counted_first k (at_once {c = d} h) r breaks missed = missed ((judged_all k (walk.nearest k (d, h))).0 r breaks)
  counted_first k (further {c = d} {t = s} h rest) r breaks missed = counted s k rest r (walk.nearest s (d, h)) breaks missed

pub walk_end : (w : World) → IsSound w → HaveTypes w → (m : ℕ) (info : MethodInfo) (clean : List Bool) (marks : List ℕ) (stamp : ℕ) (stack : List ℕ) (lowest : Option ℕ) → slice_get w.methods m ≡ Some info
    → AreClean w clean → IsWalk w info.owner m clean marks stamp stack lowest → stack ≡ [] → IsLowest (BreaksAbove w m) lowest
walk_end w sound typed m info clean marks stamp stack lowest at are walk empty = lowest_from (BreaksAbove w m) lowest
    (λ q e. let h = walk.found q e in (info.owner, h.0, declares h.0 (taken_below w sound m h.0 h.1), h.1, h.2))
    (λ r h missed.
    let owner : info.owner ≡ h.0 = own h.0 h.2 in
    counted_first w sound typed info.owner m clean marks stamp lowest are (subst (λ l. IsWalk w info.owner m clean marks stamp l lowest) empty walk)
    (subst (λ c. DeclaresMethod w c m) (sym owner) h.2) h.1 h.3 r (subst (λ c. Breaks w c m h.1 r) (sym owner) h.4) missed)
  where
    own : (c : ℕ) → DeclaresMethod w c m → info.owner ≡ c
    own c d = let same : info ≡ d.0 = let e = d.1.0 in cc (at, e) in ap (λ (i : MethodInfo). i.owner) same ∙ d.2

    declares : (k : ℕ) → IsDeclaredBelow w m k → DeclaresMethod w info.owner m
    declares k h = let same : h.0 ≡ info = let e = h.2.0 in cc (e, at) in (h.0, h.2, ap (λ (i : MethodInfo). i.owner) same)

-- one more flag, which is set only where the method breaks nothing
pub clean_next : (w : World) (clean new : List Bool) (m : ℕ) (flag : Bool) (rule : Option ℕ) → AreClean w clean → m < length clean → new ≡ slice_set clean m flag → IsLowest (BreaksAbove w m) rule
    → (flag ≡ true → rule ≡ None) → AreClean w new
clean_next w clean new m flag rule are lt made low told t set r = elim (same_or_other m t) [
  | inr apart ↦ are t (sym (ap (λ l. slice_get l t) made ∙ set_there clean m t flag apart) ∙ set) r
  | inl e ↦
      let there : slice_get new t ≡ Some flag = ap (slice_get new) (sym e) ∙ ap (λ l. slice_get l m) made ∙ set_here clean m flag lt in
      let is : flag ≡ true = cc (there, set) in
      λ h. subst (IsLowest (BreaksAbove w m)) (told is) low r (subst (λ x. BreaksAbove w x r) (sym e) h)
]

-- the marks of earlier stamps, and others that are no stamp
abbrev pub AreEarlier : List ℕ → ℕ → ℕ → Type 0
AreEarlier marks at count = (s k : ℕ) → IsMarked marks s k → (s < at) ⊎ (s ≡ count)

pub more_earlier : (marks new : List ℕ) (at count : ℕ) → AreEarlier marks at count → ((s k : ℕ) → IsMarked new s k → (s ≡ at) ⊎ IsMarked marks s k) → AreEarlier new (at + 1) count
more_earlier marks new at count are others s k mark = elim (others s k mark) [
  | inl e ↦ inl (omega (arith, e))
  | inr was ↦ elim (are s k was) [ inl low ↦ inl (omega (arith, low)) | inr e ↦ inr e ]
]
