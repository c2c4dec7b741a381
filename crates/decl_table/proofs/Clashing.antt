-- The first type below two parameterizations, by its node.
use Rattle.std.proofs.Common.{◌≡◌, ℕ, ◌+◌, ◌<◌, List, Option, Some, None, inl, inr, refl, sym, ap, ◌∙◌, subst, arith}
use Rattle.std.specs.Prelude.{slice_get, option_and_then}
use Rattle.std.proofs.lemmas.Option.{slice_get_within}
use Rattle.rule_order.specs.declared.Breach.{Breach}
use Rattle.rule_order.specs.First.{IsBefore, IsFirst, IsEarlier}
use Rattle.class_world.specs.declared.world.World.{World}
use Rattle.class_world.specs.declared.world.TypeInfo.{TypeInfo}
use Rattle.class_world.specs.Ordered.{IsClassBelowTwo, IsFirstBelowTwo}
use Rattle.type_names.specs.declared.known.JavaNames.{JavaNames}
use Rattle.type_names.specs.Known.{File}
use Rattle.type_headers.specs.Declared.{Declaration, declarations}
use Rattle.built_in_types.specs.declared.types.BuiltIns.{BuiltIns}
use Rattle.program_world.specs.ProgramWorld.{world_of}
use Rattle.decl_table.specs.Bases.{AreBases}
use Rattle.decl_table.specs.Program.{ClashBreaches}
use Rattle.decl_table.specs.Clashes.{node_at, IsFirstClash}
use Rattle.decl_table.proofs.Listed.{get_front}
use Rattle.decl_table.proofs.Lows.{not_below_two}
use Rattle.decl_table.proofs.Supers.{type_at}
use Rattle.decl_table.proofs.Facts.{one_there}

-- a type of the world that is below two has a declaration
pub declared_clash : (built : BuiltIns) (j : JavaNames) (fs : List File) → AreBases built.types → (c : ℕ) → IsClassBelowTwo (world_of built j fs) c
    → (k : ℕ) × (x : Declaration) × (c ≡ 19 + k) × (slice_get (declarations fs) k ≡ Some x) × ((info : TypeInfo) × (slice_get (world_of built j fs).types c ≡ Some info) × (info.node ≡ Some x.decl.node.id))
declared_clash built j fs bases c below =
    elim (type_at built j fs c below.0 bases.count below.1) [
      | inl h ↦ absurd (not_below_two built.types (world_of built j fs) bases (λ i info e. get_front built.types _ i info e) c (let low = slice_get_within built.types c below.0 h in omega (arith, low, bases.count)) below)
      | inr h ↦ (h.0, h.1, h.2, h.3, (below.0, below.1, ap (λ (i : TypeInfo). i.node) h.4.3))
    ]

node_here : (w : World) (c : ℕ) (info : TypeInfo) → slice_get w.types c ≡ Some info → node_at w c ≡ info.node
node_here w c info e = ap (option_and_then (λ (i : TypeInfo). i.node)) e

-- the first one is named
pub first_clash : (built : BuiltIns) (j : JavaNames) (fs : List File) → AreBases built.types → (r : Option Breach) → IsFirstClash (world_of built j fs) r → IsFirst (ClashBreaches (world_of built j fs)) r
first_clash built j fs bases None (inl none) = λ b h. none h.0 h.3.0
first_clash built j fs bases None (inr (c, first, bare)) =
    absurd (let x = declared_clash built j fs bases c first.0 in cc (sym bare ∙ node_here (world_of built j fs) c x.4.0 x.4.1 ∙ x.4.2))
first_clash built j fs bases (Some b) (c, first, at, rule) = ((c, x.4.0, x.4.1, first, b.node, own, refl, rule), before)
  where
    x : (k : ℕ) × (x : Declaration) × (c ≡ 19 + k) × (slice_get (declarations fs) k ≡ Some x) × ((info : TypeInfo) × (slice_get (world_of built j fs).types c ≡ Some info) × (info.node ≡ Some x.decl.node.id))
    x = declared_clash built j fs bases c first.0

    own : x.4.0.node ≡ Some b.node
    own = sym (node_here (world_of built j fs) c x.4.0 x.4.1) ∙ at

    one : (d : ℕ) → IsFirstBelowTwo (world_of built j fs) (Some d) → d ≡ c
    one d other = compare (λ low. first.1 d low other.0) (λ low. other.1 c low first.0)
      where
        compare : (d < c → ⊥) → (c < d → ⊥) → d ≡ c
        compare f g = grind (arith, f, g)

    before : (b' : Breach) → ClashBreaches (world_of built j fs) b' → IsBefore b b'
    before b' (d, info, there, other, n, has, here, number) =
        let same : info ≡ x.4.0 = one_there (slice_get (world_of built j fs).types c) info x.4.0 (subst (λ m. slice_get (world_of built j fs).types m ≡ Some info) (one d other) there) x.4.1 in
        let is : n ≡ b.node = cc (sym has ∙ ap (λ (i : TypeInfo). i.node) same ∙ own) in
        inr (sym is ∙ sym here, omega (arith, rule, number))

-- where none is named, there is none
pub no_clash : (built : BuiltIns) (j : JavaNames) (fs : List File) → AreBases built.types → IsFirstClash (world_of built j fs) None → (c : ℕ) → IsClassBelowTwo (world_of built j fs) c → ⊥
no_clash built j fs bases (inl none) = none
no_clash built j fs bases (inr (d, first, bare)) =
    absurd (let x = declared_clash built j fs bases d first.0 in cc (sym bare ∙ node_here (world_of built j fs) d x.4.0 x.4.1 ∙ x.4.2))

-- no one of two is named: neither is there
pub none_second : (a b : Option Breach) → IsEarlier a b None → b ≡ None
none_second None b e = sym e
none_second (Some x) None e = refl
none_second (Some x) (Some y) (inl e) = absurd (let h = e.0 in cc h)
none_second (Some x) (Some y) (inr e) = absurd (let h = e.0 in cc h)
