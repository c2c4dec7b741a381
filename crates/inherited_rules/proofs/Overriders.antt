-- Who overrides whom among the members of one type.
use Rattle.std.proofs.Common.{ℕ, Bool, List, ◌↔◌, IsTrue, map, sym, subst}
use Rattle.std.specs.List.{Contains}
use Rattle.class_world.specs.declared.world.World.{World}
use Rattle.class_world.specs.Types.{substitute}
use Rattle.class_world.specs.Sound.{IsKnown, IsSound}
use Rattle.class_world.specs.Signatures.{AgreeBelow, HaveOneSignatureIn}
use Rattle.class_world.specs.Inheritance.{IsMemberMethod}
use Rattle.class_world.specs.Overriding as overriding
use Rattle.class_world.specs.Overriding.{OverridesAtOnce, Overriding, at_once, through}
use Rattle.class_world.specs.Typed.{HaveTypes}
use Rattle.class_world.proofs.Substs.{map_alike, put_twice}
use Rattle.seen_methods.specs.Scopes.{IsScoped}
use Rattle.seen_methods.proofs.Belows.{lower_agrees}
use Rattle.numbered_methods.specs.declared.NumberedMethods.{NumberedMethods}
use Rattle.numbered_methods.specs.Alike.{AreAlike, IsNumbered}
use Rattle.inherited_rules.specs.Rules.{IsAbstractMethod}
use Rattle.inherited_rules.specs.Parts.{HasBodies, IsBodyOf}
use Rattle.inherited_rules.proofs.Members.{member_seen}
use Rattle.inherited_rules.proofs.Pairs.{signature_swap}

-- parameter types hold their own type's variables alone
scoped : (w : World) → HaveTypes w → (m : ℕ) → IsScoped w m
scoped w typed m info owner at there xs args len =
    map_alike (substitute xs) (substitute args) (substitute (map (substitute xs) args)) info.params (λ k t is. put_twice w owner.params xs args t len (typed.params m k info owner t at there is))

module _ (w : World) (sound : IsSound w) (typed : HaveTypes w) where
  once_agree : (m k : ℕ) → OverridesAtOnce w m k → AgreeBelow w m k
  once_agree m k (overriding.declared {c = c} h both) =
      let own = h.0 in
      lower_agrees w sound m k own.0 own.1 (scoped w typed m) (scoped w typed k) (subst (λ c. HaveOneSignatureIn w c m k) (sym own.2) h.3)
  once_agree m k (overriding.inherited {c = c} h both agree) = agree

  overriding_agrees : (m k : ℕ) → Overriding w m k → AgreeBelow w m k
  overriding_agrees m k (at_once h) = once_agree m k h
  overriding_agrees m k (through {t = t} h rest other agree) = agree

  -- of two members one that overrides the other has its signature
  pub overriding_alike : (c k m : ℕ) → IsKnown w c → IsMemberMethod w c k → IsMemberMethod w c m → Overriding w k m → HaveOneSignatureIn w c m k
  overriding_alike c k m known member other h =
      let a = member_seen w sound c k member known.0 known.1 in
      let b = member_seen w sound c m other known.0 known.1 in
      signature_swap w c k m (overriding_agrees k m h c a.0 b.0 a.2.0 b.2.0 a.1 b.1 a.2.1 b.2.1)

  -- a body is among those of the method's signature
  pub body_alike : (c m : ℕ) (t : NumberedMethods) (xs : List ℕ) (r : Bool) → IsKnown w c → IsMemberMethod w c m → HasBodies w c t → ((d : ℕ) (ms : List ℕ) → IsNumbered w d ms t → AreAlike w d m ms xs)
      → IsTrue r ↔ ((k : ℕ) × Contains xs k × (IsAbstractMethod w k → ⊥) × Overriding w k m) → IsTrue r ↔ ((k : ℕ) × IsBodyOf w c m k)
  body_alike c m t xs r known member has told found =
      let alike = told c has.0 has.2 in (
        λ h. let b = found.0 h in let there = ((alike.0 b.0).0 b.1).0 in (b.0, (((has.1 b.0).0 there).0, b.2, b.3)),
        λ h.
            let k = h.0 in
            let body = h.1 in
            found.1 (k, (alike.0 k).1 ((has.1 k).1 (body.0, body.1), overriding_alike c k m known body.0 member body.2), body.1, body.2),
      )
