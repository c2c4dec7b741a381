-- Ways in the graphs of supertypes.
use Rattle.std.proofs.Common.{◌≡◌, ℕ, zero, suc, ◌+◌, ◌<◌, ◌≤◌, Bool, true, false, List, [], ◌∷◌, Some, None, Option, Ok, Err, Result, IfOk, map, length, inl, inr, ◌↔◌, refl, sym, ap, ◌∙◌, subst, arith}
use Rattle.std.specs.Prelude.{slice_get, nat_lt}
use Rattle.std.specs.Option.{option_map}
use Rattle.std.proofs.lemmas.Option.{slice_get_within, slice_get-map}
use Rattle.std.proofs.lemmas.Bool.Decides.{Decides-ltb}
use Rattle.class_world.specs.declared.world.TypeInfo.{TypeInfo}
use Rattle.type_names.specs.declared.known.JavaNames.{JavaNames}
use Rattle.type_names.specs.Known.{File}
use Rattle.type_reach.specs.Reach.{IsEdge, Leads, Reaches}
use Rattle.type_reach.specs.Reach as ways
use Rattle.type_headers.specs.Declared.{Declaration, declarations}
use Rattle.super_rules.specs.declared.rows.Edges.{Edges}
use Rattle.super_rules.specs.declared.rows.Edges.TheVariants as edges
use Rattle.super_rules.specs.Rules.{Declares, IsBuiltInSuper, IsSuperOf, IsAbove, IsGenericAbove, SaysSuperclass, IsThrowable}
use Rattle.super_rules.specs.Rules as rule
use Rattle.super_rules.specs.Looks.{IsLed, IsDrawn, Draws, AreFlags}

module _ (j : JavaNames) (fs : List File) (types : List TypeInfo) (few : 19 + length (declarations fs) ≤ length types) where
  declared_within : (c : ℕ) (x : Declaration) → Declares fs c x → c < length types
  declared_within c x h = let lt = slice_get_within (declarations fs) h.0 x h.2 in let e = h.1 in omega (arith, lt, e, few)

  led_within : (classes : Bool) (c g : ℕ) → IsLed j fs types classes c g → c < length types
  led_within false c g (inl b) = slice_get_within types c b.1 b.2
  led_within false c g (inr w) = declared_within c w.0 w.1
  led_within true c g (inl b) = slice_get_within types c b.1 b.2
  led_within true c g (inr w) = declared_within c w.0 w.1

  pub drawn_within : (e : Edges) (c g : ℕ) → IsDrawn j fs types e c g → c < length types
  drawn_within edges.All c g h = led_within false c g h
  drawn_within edges.FromLibraries c g h = led_within false c g h.1
  drawn_within edges.Superclasses c g h = led_within true c g h

  edge_to : (R : ℕ → ℕ → Type 0) (graph : List (List ℕ)) → Draws R types graph → (c g : ℕ) → R c g → g < length types → IsEdge graph c g
  edge_to R graph drawn c g h lt = let e = (drawn.edge c g).1 h in (e.0, e.1, e.2, (let size = drawn.size in omega (arith, lt, size)))

  edge_from : (R : ℕ → ℕ → Type 0) (graph : List (List ℕ)) → Draws R types graph → (c g : ℕ) → IsEdge graph c g → R c g
  edge_from R graph drawn c g e = (drawn.edge c g).0 (e.0, e.1, e.2)

  -- ---- what is above

  above_within : (c g : ℕ) → IsAbove j fs types c g → c < length types
  above_within c g (rule.step a b h) = led_within false a b h
  above_within c g (rule.further a m b h rest) = led_within false a m h

  module _ (graph : List (List ℕ)) (drawn : Draws (IsDrawn j fs types edges.All) types graph) where
    above_leads : (c g : ℕ) → IsAbove j fs types c g → g < length types → Leads graph c g
    above_leads c g (rule.step a b h) lt = ways.step (edge_to (IsDrawn j fs types edges.All) graph drawn a b h lt)
    above_leads c g (rule.further a m b h rest) lt =
        ways.further (edge_to (IsDrawn j fs types edges.All) graph drawn a m h (above_within m b rest)) (above_leads m b rest lt)

    leads_above : (c g : ℕ) → Leads graph c g → IsAbove j fs types c g
    leads_above c g (ways.step {a = a} {b = b} e) = rule.step a b (edge_from (IsDrawn j fs types edges.All) graph drawn a b e)
    leads_above c g (ways.further {a = a} {m = m} {b = b} e rest) = rule.further a m b (edge_from (IsDrawn j fs types edges.All) graph drawn a m e) (leads_above m b rest)

    pub above_flags : (flags : List Bool) → ((c : ℕ) → (slice_get flags c ≡ Some true) ↔ Leads graph c c) → AreFlags flags (λ c. IsAbove j fs types c c)
    above_flags flags says c = (λ set. leads_above c c ((says c).0 set), λ above. (says c).1 (above_leads c c above (above_within c c above)))

  -- flags by what reaches a mark
  by_marks : (graph : List (List ℕ)) (marks flags : List Bool) (P : ℕ → Type 0) → length graph ≡ length types → length flags ≡ length graph
      → ((c : ℕ) → c < length graph → (slice_get flags c ≡ Some true) ↔ Reaches graph marks c) → ((c : ℕ) → P c → c < length types) → ((c : ℕ) → P c ↔ Reaches graph marks c) → AreFlags flags P
  by_marks graph marks flags P size long says within same c = (
    λ set. let lt = slice_get_within flags c true set in (same c).1 ((says c (omega (arith, lt, long))).0 set),
    λ h. let lt = within c h in (says c (omega (arith, lt, size))).1 ((same c).0 h),
  )

  -- ---- generic types

  module _ (graph : List (List ℕ)) (marks : List Bool) (drawn : Draws (IsDrawn j fs types edges.FromLibraries) types graph) (marked : marks ≡ map (λ info. nat_lt 0 info.params) types) where
    abbrev Drawn : ℕ → ℕ → Type 0
    Drawn = IsDrawn j fs types edges.FromLibraries

    abbrev is_generic : TypeInfo → Bool
    is_generic info = nat_lt 0 info.params

    mark_is : (c : ℕ) (info : TypeInfo) → slice_get types c ≡ Some info → 0 < info.params → slice_get marks c ≡ Some true
    mark_is c info is some = ap (λ ms. slice_get ms c) marked ∙ slice_get-map is_generic types c ∙ ap (option_map is_generic) is ∙ ap Some ((Decides-ltb 0 info.params).1 some)

    mark_says : (c : ℕ) → slice_get marks c ≡ Some true → IsGenericAbove j fs types c
    mark_says c e = by (slice_get types c) refl (sym (slice_get-map is_generic types c) ∙ ap (λ ms. slice_get ms c) (sym marked) ∙ e)
      where
        by : (o : Option TypeInfo) → slice_get types c ≡ o → option_map is_generic o ≡ Some true → IsGenericAbove j fs types c
        by None is set = absurd (cc set)
        by (Some info) is set = rule.generic c info is ((Decides-ltb 0 info.params).0 (cc set))

    generic_within : (c : ℕ) → IsGenericAbove j fs types c → c < length types
    generic_within c (rule.generic a info is some) = slice_get_within types a info is
    generic_within c (rule.upwards a g info is lib super rest) = slice_get_within types a info is

    reaches_up : (c g : ℕ) → IsEdge graph c g → Reaches graph marks g → Reaches graph marks c
    reaches_up c g e (inl mark) = inr (g, ways.step e, mark)
    reaches_up c g e (inr way) = inr (way.0, ways.further e way.1, way.2)

    generic_reaches : (c : ℕ) → IsGenericAbove j fs types c → Reaches graph marks c
    generic_reaches c (rule.generic a info is some) = inl (mark_is a info is some)
    generic_reaches c (rule.upwards a g info is lib super rest) = reaches_up a g (edge_to Drawn graph drawn a g ((info, is, lib), super) (generic_within g rest)) (generic_reaches g rest)

    up : (c g : ℕ) → IsEdge graph c g → IsGenericAbove j fs types g → IsGenericAbove j fs types c
    up c g e h = let d = edge_from Drawn graph drawn c g e in rule.upwards c g d.0.0 d.0.1 d.0.2 d.1 h

    leads_generic : (c g : ℕ) → Leads graph c g → IsGenericAbove j fs types g → IsGenericAbove j fs types c
    leads_generic c g (ways.step {a = a} {b = b} e) h = up a b e h
    leads_generic c g (ways.further {a = a} {m = m} {b = b} e rest) h = up a m e (leads_generic m b rest h)

    reaches_generic : (c : ℕ) → Reaches graph marks c → IsGenericAbove j fs types c
    reaches_generic c (inl mark) = mark_says c mark
    reaches_generic c (inr way) = leads_generic c way.0 way.1 (mark_says way.0 way.2)

    pub generic_flags : (flags : List Bool) → length flags ≡ length graph → ((c : ℕ) → c < length graph → (slice_get flags c ≡ Some true) ↔ Reaches graph marks c)
        → AreFlags flags (IsGenericAbove j fs types)
    generic_flags flags long says =
        by_marks graph marks flags (IsGenericAbove j fs types) drawn.size long says generic_within (λ c. (generic_reaches c, reaches_generic c))

  -- ---- Throwable

  module _ (graph : List (List ℕ)) (drawn : Draws (IsDrawn j fs types edges.Superclasses) types graph) where
    abbrev marks_four : List Bool
    marks_four = false ∷ false ∷ false ∷ false ∷ true ∷ []

    only_four : (c : ℕ) → slice_get marks_four c ≡ Some true → c ≡ 4
    only_four zero e = absurd (cc e)
    only_four (suc zero) e = absurd (cc e)
    only_four (suc (suc zero)) e = absurd (cc e)
    only_four (suc (suc (suc zero))) e = absurd (cc e)
    only_four (suc (suc (suc (suc zero)))) e = refl
    only_four (suc (suc (suc (suc (suc c))))) e = absurd (cc e)

    throwable_within : (c : ℕ) → IsThrowable j fs types c → c < length types
    throwable_within c rule.throwable = omega (arith, few)
    throwable_within c (rule.below a g h rest) = led_within true a g h

    reaches_throwable : (c g : ℕ) → IsEdge graph c g → Reaches graph marks_four g → Reaches graph marks_four c
    reaches_throwable c g e (inl mark) = inr (g, ways.step e, mark)
    reaches_throwable c g e (inr way) = inr (way.0, ways.further e way.1, way.2)

    throwable_reaches : (c : ℕ) → IsThrowable j fs types c → Reaches graph marks_four c
    throwable_reaches c rule.throwable = inl refl
    throwable_reaches c (rule.below a g h rest) =
        reaches_throwable a g (edge_to (IsDrawn j fs types edges.Superclasses) graph drawn a g h (throwable_within g rest)) (throwable_reaches g rest)

    leads_throwable : (c g : ℕ) → Leads graph c g → IsThrowable j fs types g → IsThrowable j fs types c
    leads_throwable c g (ways.step {a = a} {b = b} e) h = rule.below a b (edge_from (IsDrawn j fs types edges.Superclasses) graph drawn a b e) h
    leads_throwable c g (ways.further {a = a} {m = m} {b = b} e rest) h =
        rule.below a m (edge_from (IsDrawn j fs types edges.Superclasses) graph drawn a m e) (leads_throwable m b rest h)

    four : (c : ℕ) → slice_get marks_four c ≡ Some true → IsThrowable j fs types c
    four c e = subst (IsThrowable j fs types) (sym (only_four c e)) rule.throwable

    by_four : (c : ℕ) → Reaches graph marks_four c → IsThrowable j fs types c
    by_four c (inl mark) = four c mark
    by_four c (inr way) = leads_throwable c way.0 way.1 (four way.0 way.2)

    pub throwable_flags : (flags : List Bool) → length flags ≡ length graph → ((c : ℕ) → c < length graph → (slice_get flags c ≡ Some true) ↔ Reaches graph marks_four c)
        → AreFlags flags (IsThrowable j fs types)
    throwable_flags flags long says = by_marks graph marks_four flags (IsThrowable j fs types) drawn.size long says throwable_within (λ c. (throwable_reaches c, by_four c))

-- two clauses on a result
pub both_ok : {X E : Type 0} (r : Result X E) (P Q R : X → Type 0) → ((x : X) → P x → Q x → R x) → IfOk r P → IfOk r Q → IfOk r R
both_ok (Ok x) P Q R f p q = f x p q
both_ok (Err e) P Q R f p q = tt
