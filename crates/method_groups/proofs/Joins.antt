-- Overloads that are added to the labels, and what they join.
use Rattle.std.proofs.Common.{◌≡◌, ℕ, ◌+◌, ◌<◌, ◌≤◌, List, [], ◌∷◌, ◌++◌, Option, Some, None, ◌⊎◌, inl, inr, ◌↔◌, sym, ◌∙◌, subst, length, arith}
use Rattle.std.specs.Prelude.{slice_get}
use Rattle.std.specs.List.{Contains}
use Rattle.std.proofs.lemmas.List.Elements.{Contains-push_cases}
use Rattle.class_world.specs.declared.world.World.{World}
use Rattle.class_world.specs.declared.world.MethodInfo.{MethodInfo}
use Rattle.class_world.specs.Sequences.{IsSequence}
use Rattle.method_groups.specs.declared.overloads.Overloads.{Overloads}
use Rattle.method_groups.specs.declared.labels.Labels.{Labels}
use Rattle.method_groups.specs.Beside.{AreBeside}
use Rattle.method_groups.specs.Labels.{IsLabelled, AreJoined, IsFit, KeepsJoined, AreAdditions, AreLabels, AreAllLabels, IsLimit, IsAgain}
use Rattle.method_groups.proofs.Firsts.{Among, among_last, among_more, among_cases, at_contains, low_or_last}
use Rattle.method_groups.proofs.Beside.{member_first, beside_within, beside_first, beside_turned, beside_both, alike_beside, holder_known}

-- the methods of the first i have these overloads too
abbrev pub AreAdded : Labels → Labels → Overloads → List ℕ → ℕ → Type 0
AreAdded old new x methods i = (k : ℕ) (y : Overloads) → IsLabelled new k y ↔ (IsLabelled old k y ⊎ (Among methods i k × (y ≡ x)))

pub added_none : (t : Labels) (x : Overloads) (methods : List ℕ) → AreAdded t t x methods 0
added_none t x methods k y = (λ h. inl h, λ h. elim h [ inl was ↦ was | inr none ↦ let lt = none.0.1 in absurd (omega (arith, lt)) ])

pub added_next : (old now new : Labels) (x : Overloads) (methods : List ℕ) (i m : ℕ) → AreAdded old now x methods i → slice_get methods i ≡ Some m
    → ((k : ℕ) (y : Overloads) → IsLabelled new k y ↔ (IsLabelled now k y ⊎ ((k ≡ m) × (y ≡ x)))) → AreAdded old new x methods (i + 1)
added_next old now new x methods i m added at one k y = (
  λ h. elim ((one k y).0 h) [
    | inl was ↦ elim ((added k y).0 was) [ inl before ↦ inl before | inr among ↦ inr (among_more methods i k among.0, among.1) ]
    | inr is ↦ inr (subst (Among methods (i + 1)) (sym is.0) (among_last methods i m at), is.1)
  ],
  λ h. (one k y).1 (elim h [
    | inl before ↦ inl ((added k y).1 (inl before))
    | inr among ↦ elim (among_cases methods i k m at among.0) [
      | inl early ↦ inl ((added k y).1 (inr (early, among.1)))
      | inr last ↦ inr (last, among.1)
    ]
  ]),
)

-- ---- the overloads of a type's members

-- what is beside the method k in c is joined
abbrev pub AreAllBeside : World → ℕ → Labels → ℕ → Type 0
AreAllBeside w c t k = (a b : ℕ) → AreBeside w c k a → AreBeside w c k b → AreJoined t a b

abbrev pub IsPassed : World → ℕ → Labels → Option ℕ → Type 0
IsPassed w c t None = Unit {0}
IsPassed w c t (Some k) = AreBeside w c k k × AreAllBeside w c t k

pub again_joined : (w : World) (c m : ℕ) (t : Labels) (before : Option ℕ) → IsPassed w c t before → IsAgain w before m → AreBeside w c m m → AreAllBeside w c t m
again_joined w c m t None passed again its = absurd again
again_joined w c m t (Some k) passed again its = λ a b p q.
    let here = passed.0 in
    let with_k = alike_beside w c k m here.2.1.0 (member_first w c k k here) here.2.1.1 again its in
    let back = beside_turned w c k m with_k in
    passed.1 a b (beside_both w c m k a back p) (beside_both w c m k b back q)

pub joined_kept : (old new : Labels) → ((m : ℕ) (y : Overloads) → IsLabelled old m y → IsLabelled new m y) → KeepsJoined old new
joined_kept old new kept m k h = (h.0, kept m h.0 h.1, kept k h.0 h.2)

pub passed_kept : (w : World) (c : ℕ) (old new : Labels) (members : List ℕ) (i : ℕ) → KeepsJoined old new → ((j : ℕ) → Among members i j → AreAllBeside w c old j)
    → (j : ℕ) → Among members i j → AreAllBeside w c new j
passed_kept w c old new members i kept all j among a b p q = kept a b (all j among a b p q)

pub passed_next : (w : World) (c : ℕ) (t : Labels) (members : List ℕ) (i m : ℕ) → slice_get members i ≡ Some m → ((j : ℕ) → Among members i j → AreAllBeside w c t j) → AreAllBeside w c t m
    → (j : ℕ) → Among members (i + 1) j → AreAllBeside w c t j
passed_next w c t members i m at all here j among = elim (among_cases members i j m at among) [
  | inl early ↦ all j early
  | inr last ↦ subst (AreAllBeside w c t) (sym last) here
]

pub list_within : (w : World) (c m : ℕ) (t : Labels) (list : List ℕ) → AreLabels w t → ((k : ℕ) → Contains list k ↔ AreBeside w c m k) → (k : ℕ) → Contains list k → k < length t.labels.items
list_within w c m t list labels listed k h = let lt = beside_within w c m k ((listed k).0 h) in let size = labels.size in omega (arith, lt, size)

pub labels_more : (w : World) (x : Overloads) (old new : Labels) (list : List ℕ) → ((k : ℕ) → Contains list k ↔ AreBeside w x.member_of x.method k) → AreLabels w old → IsFit new
    → AreAdditions w new.rows.items new.added.items → length new.labels.items ≡ length old.labels.items
    → ((k : ℕ) (y : Overloads) → IsLabelled new k y → IsLabelled old k y ⊎ ((y ≡ x) × Contains list k)) → AreLabels w new
labels_more w x old new list listed labels fit additions size only = record {
  fit = fit;
  additions = additions;
  size = size ∙ labels.size;
  sound = λ k y h. elim (only k y h) [
    | inl was ↦ labels.sound k y was
    | inr is ↦ subst (λ (z : Overloads). AreBeside w z.member_of z.method k) (sym is.0) ((listed k).0 is.1)
  ];
}

pub list_joined : (w : World) (c m : ℕ) (t : Labels) (list : List ℕ) → ((k : ℕ) → Contains list k ↔ AreBeside w c m k) → ((a b : ℕ) → Contains list a → Contains list b → AreJoined t a b)
    → AreAllBeside w c t m
list_joined w c m t list listed joined a b p q = joined a b ((listed a).1 p) ((listed b).1 q)

-- ---- all types

abbrev pub IsDone : World → Labels → ℕ → Type 0
IsDone w t c = (m k : ℕ) → AreBeside w c m k → AreJoined t m k

pub done_kept : (w : World) (c : ℕ) (old new : Labels) → KeepsJoined old new → IsDone w old c → IsDone w new c
done_kept w c old new kept done m k h = kept m k (done m k h)

-- each type is done or still in the sequence
abbrev pub AreDone : World → Labels → List ℕ → Type 0
AreDone w t order = (c : ℕ) → c < length w.types → Contains order c ⊎ IsDone w t c

pub done_begins : (w : World) (t : Labels) (order : List ℕ) → IsSequence w order → AreDone w t order
done_begins w t order seq c lt = let at = seq.all c lt in inl (at_contains order at.0 c at.1)

pub done_next : (w : World) (old new : Labels) (order left : List ℕ) (c : ℕ) → order ≡ left ++ c ∷ [] → AreDone w old order → KeepsJoined old new → IsDone w new c → AreDone w new left
done_next w old new order left c is done kept here d lt = elim (done d lt) [
  | inl has ↦ elim (Contains-push_cases left c d (subst (λ l. Contains l d) is has)) [
    | inl more ↦ inl more
    | inr same ↦ inr (subst (IsDone w new) same here)
  ]
  | inr was ↦ inr (done_kept w d old new kept was)
]

pub done_ends : (w : World) (t : Labels) (order : List ℕ) → order ≡ [] → AreDone w t order → (c : ℕ) → c < length w.types → IsDone w t c
done_ends w t order none done c lt = elim (done c lt) [
  | inl has ↦ let gone = subst (λ l. Contains l c) none has in let never = gone.1 in absurd (omega (arith, never))
  | inr was ↦ was
]

pub past_next : (w : World) (old new : Labels) (i : ℕ) → ((c : ℕ) → c < i → IsDone w old c) → KeepsJoined old new → IsDone w new i → (c : ℕ) → c < i + 1 → IsDone w new c
past_next w old new i done kept here c lt = elim (low_or_last c i lt) [
  | inl low ↦ done_kept w c old new kept (done c low)
  | inr last ↦ subst (IsDone w new) (sym last) here
]

pub labels_all : (w : World) (t : Labels) (i limit : ℕ) → AreLabels w t → IsLimit w limit → limit ≤ i → ((c : ℕ) → c < i → IsDone w t c) → AreAllLabels w t
labels_all w t i limit labels is full done = record {
  labels = labels;
  all = λ c m k h. let lt = is.owners c m (beside_first w c m k h) in done c (omega (arith, lt, full)) m k h;
}

pub limit_holds : (w : World) (limit : ℕ) → length w.types ≤ limit → ((m : ℕ) (info : MethodInfo) → slice_get w.methods m ≡ Some info → info.owner < limit) → IsLimit w limit
limit_holds w limit types owners = record {
  types = λ c lt. omega (arith, lt, types);
  owners = λ c m h. elim (holder_known w c m (member_first w c m m h)) [
    | inl lt ↦ omega (arith, lt, types)
    | inr o ↦ let lt = owners m o.0 o.1 in let e = o.2 in omega (arith, lt, e)
  ];
}
