-- What the walk finds within a node.
use Rattle.std.proofs.Common.{◌≡◌, ◌⊎◌, inl, inr, Bool, true, false, Option, List, [], ◌∷◌, ◌++◌, ◌↔◌, refl, subst}
use Rattle.std.specs.Prelude.{Contains, Decides, ◌≢◌}
use Rattle.std.proofs.lemmas.Bool.Decides.{Decides-and}
use Rattle.java_tree.specs.declared.tree.Name.{Name}
use Rattle.java_tree.specs.Plain as t
use Rattle.decl_rules.specs.Children as c
use Rattle.decl_rules.specs.Children.{Item, children}
use Rattle.rule_order.specs.declared.Breach.{Breach}
use Rattle.rule_order.specs.First.{Breaches, Either}
use Rattle.rule_order.specs.Noted.{At, SomeOf}
use Rattle.decl_rules.specs.Parts.{IsWithin, Itself, Below, SomeWithin, node_of, args_of}
use Rattle.decl_rules.specs.PlainRules.{NamesQualified, IsElement, HasGenericElements, Nests}
use Rattle.rule_order.specs.Noted.{Adds}
use Rattle.decl_rules.specs.Walk.{has_args, element}
use Rattle.rule_order.proofs.Adding.{adds_nothing, adds_both, adds_alike, adds_noted}
use Rattle.rule_order.proofs.Lists.{some_none, some_more, some_append}

-- what a node breaks by itself, and all within it, and within some of a list
abbrev pub Own : (generic : Name → Bool) → (vars : List Name) → Item → Breaches
Own generic vars y = Either (NamesQualified y) (Either (HasGenericElements y) (Nests generic vars y))

abbrev pub In : (generic : Name → Bool) → (vars : List Name) → Item → Breaches
In generic vars x = SomeWithin x (Own generic vars)

pub record GoesOn (generic : Name → Bool) (vars : List Name) (x : Item) (a r : Option Breach) : Type 0 where
  pub is : Adds (In generic vars x) a r

pub record AllGoOn (generic : Name → Bool) (vars : List Name) (xs : List Item) (a r : Option Breach) : Type 0 where
  pub is : Adds (SomeOf xs (In generic vars)) a r

pub within_cases : (x z : Item) → IsWithin x z → (z ≡ x) ⊎ ((y : Item) × Contains (children x) y × IsWithin y z)
within_cases x z (Itself y) = inl refl
within_cases x z (Below v y w h k) = inr (y, h, k)

-- whether a node is a written type: no other has a name of its own or type arguments
abbrev pub is_type : Item → Bool
is_type (c.TypeExpr x) = true
is_type _ = false

pub nameless : (x : Item) → is_type x ≡ false → (b : Breach) → NamesQualified x b → ⊥
nameless (c.TypeExpr x) e b h = absurd (cc e)
nameless _ e b h = h

pub childless : (generic : Name → Bool) (vars : List Name) (x : Item) → is_type x ≡ false → (b : Breach) → Nests generic vars x b → ⊥
childless generic vars (c.TypeExpr x) e b h = absurd (cc e)
childless generic vars _ e b h = h

args_decide : (x : t.TypeExpr) → Decides (has_args x) (args_of x ≢ t.NoTypes)
args_decide (t.Written n h s t.NoTypes d) = (λ e. absurd (cc e), λ f. absurd (f refl))
args_decide (t.Written n h s (t.AndType x xs) d) = (λ e f. cc f, λ f. refl)

-- the element type of a node that makes an array type if Q holds
pub element_adds : (y : Item) (ty : t.TypeExpr) (Q : Type 0) (holds : Bool) (a : Option Breach) → Decides holds Q → ((x : t.TypeExpr) → IsElement y x ↔ ((x ≡ ty) × Q))
    → Adds (HasGenericElements y) a (element holds ty a)
element_adds y ty Q holds a d same =
    adds_alike (At 17 (node_of ty) (Q × (args_of ty ≢ t.NoTypes))) (HasGenericElements y) a (element holds ty a) (λ b. (to b, from b))
    (adds_noted 17 (node_of ty) (Q × (args_of ty ≢ t.NoTypes)) _ a (Decides-and holds (has_args ty) d (args_decide ty)))
  where
    to : (b : Breach) → At 17 (node_of ty) (Q × (args_of ty ≢ t.NoTypes)) b → HasGenericElements y b
    to b h = (ty, (same ty).1 (refl, h.2.0), (h.0, h.1, h.2.1))

    from : (b : Breach) → HasGenericElements y b → At 17 (node_of ty) (Q × (args_of ty ≢ t.NoTypes)) b
    from b h =
        let is = (same h.0).0 h.1 in
        let at : At 17 (node_of ty) (args_of ty ≢ t.NoTypes) b = subst (λ (x : t.TypeExpr). At 17 (node_of x) (args_of x ≢ t.NoTypes) b) is.0 h.2 in
        (at.0, at.1, (is.1, at.2))

module _ {generic : Name → Bool} {vars : List Name} where
  -- a node and its children
  pub with_own : (x : Item) (a m r : Option Breach) → Adds (Own generic vars x) a m → AllGoOn generic vars (children x) m r → GoesOn generic vars x a r
  with_own x a m r f g = record {
    is =
        adds_alike (Either (Own generic vars x) (SomeOf (children x) (In generic vars))) (In generic vars x) a r (λ b. (to b, from b))
        (adds_both (Own generic vars x) (SomeOf (children x) (In generic vars)) a m r f g.is);
  }
    where
      to : (b : Breach) → Either (Own generic vars x) (SomeOf (children x) (In generic vars)) b → In generic vars x b
      to b h = elim h [ inl u ↦ (x, Itself x, u) | inr u ↦ (u.2.0, Below x u.0 u.2.0 u.1 u.2.1, u.2.2) ]

      from : (b : Breach) → In generic vars x b → Either (Own generic vars x) (SomeOf (children x) (In generic vars)) b
      from b h = elim (within_cases x h.0 h.1) [ inl e ↦ inl (subst (λ (y : Item). Own generic vars y b) e h.2) | inr u ↦ inr (u.0, u.1, (h.0, u.2, h.2)) ]

  -- a node, other than a written type, that makes no array type
  pub bare : {x : Item} {a r : Option Breach} → is_type x ≡ false → ((ty : t.TypeExpr) → IsElement x ty → ⊥) → AllGoOn generic vars (children x) a r → GoesOn generic vars x a r
  bare {x} {a} {r} e f h =
      with_own x a a r
      (adds_nothing (Own generic vars x) a (λ b k. elim k [ inl u ↦ nameless x e b u | inr u ↦ elim u [ inl v ↦ f v.0 v.1 | inr v ↦ childless generic vars x e b v ] ])) h

  -- a node, other than a written type, that makes an array type
  pub with_element : {x : Item} {r : Option Breach} (ty : t.TypeExpr) (Q : Type 0) (holds : Bool) (a : Option Breach) → is_type x ≡ false → Decides holds Q
      → ((z : t.TypeExpr) → IsElement x z ↔ ((z ≡ ty) × Q)) → AllGoOn generic vars (children x) (element holds ty a) r → GoesOn generic vars x a r
  with_element {x} {r} ty Q holds a e d same h =
      let m = element holds ty a in
      with_own x a m r
      (adds_both (NamesQualified x) (Either (HasGenericElements x) (Nests generic vars x)) a a m (adds_nothing (NamesQualified x) a (nameless x e))
      (adds_both (HasGenericElements x) (Nests generic vars x) a m m (element_adds x ty Q holds a d same) (adds_nothing (Nests generic vars x) m (childless generic vars x e))))
      h

  pub none : {a : Option Breach} → AllGoOn generic vars [] a a
  none {a} = record { is = some_none (In generic vars) a }

  pub more : {x : Item} {xs : List Item} {a m r : Option Breach} → GoesOn generic vars x a m → AllGoOn generic vars xs m r → AllGoOn generic vars (x ∷ xs) a r
  more {x} {xs} {a} {m} {r} f g = record { is = some_more (In generic vars) x xs a m r f.is g.is }

  pub one : {x : Item} {a r : Option Breach} → GoesOn generic vars x a r → AllGoOn generic vars (x ∷ []) a r
  one f = more f none

  pub both : {xs ys : List Item} {a m r : Option Breach} → AllGoOn generic vars xs a m → AllGoOn generic vars ys m r → AllGoOn generic vars (xs ++ ys) a r
  both {xs} {ys} {a} {m} {r} f g = record { is = some_append (In generic vars) xs ys a m r f.is g.is }
