use Rattle.std.proofs.Common.{◌≡◌, ℕ, ◌+◌, Vec, Global, Result, List, [], ◌↔◌, inl, inr, refl, sym, subst}
use Rattle.std.specs.Prelude.{slice_index_or as get_or, IfOk}
use Rattle.std.specs.List.{Contains}
use Rattle.std.specs.List.Sorted.{IsStrictlyIncreasing}
use Rattle.std.proofs.lemmas.Option.{slice_get-get_or}
use Rattle.java_tree.specs.declared.fault.NoMemory.{NoMemory}
use Rattle.class_world.specs.Overriding.{IsClass}
use Rattle.member_methods.specs.Methods.{AreFromInterfaces, IsFromInterface}
use Rattle.method_ties.specs.declared.Meeting.{Meeting}
use Rattle.method_ties.specs.Sides.{AreSuperclasses, IsInherited, IsOnce, Meets}
use Rattle.method_ties.specs.declared.tables.Tables.{Tables}
use Rattle.method_ties.specs.Tables.{HoldTables, IsKeyedLower}
use Rattle.method_ties.specs.Ties.{AreMeetings}
use Rattle.method_ties.proofs.Firsts.{Among, Gathers, gathers_none, none_in, once_none, gathers_next, gathers_skip, gathers_alone, increasing_new}
use Rattle.method_ties.proofs.Members.{meetings_told, superclasses_are}
use Rattle.method_ties.proofs.Numbering.{tables_none}
use Rattle.method_ties.proofs.meet.meetings_of.Goals as goal
use Rattle.method_ties.proofs.meet.meetings_of.Goals.{then-is_inherited+in_ok-add_meetings, else-is_inherited}

pub add_meetings-requires-clause-supers : goal.add_meetings-requires-clause-supers
add_meetings-requires-clause-supers c =
    let w = c.args.w.now in
    let types = c.in_ok-above.above.items in
    let some = subst (λ (l : List ℕ). (s : ℕ) → Contains c.in_ok-supers.supers.items s ↔ (Contains l s × IsClass w s)) c.as_slice.ensures.value c.in_ok-supers.ensures in
    subst (AreSuperclasses w c.args.c) (sym c.as_slice-then-is_inherited.ensures.value)
    (superclasses_are w c.args.c types c.in_ok-supers.supers.items (c.is_class.ensures.0 c.if-not-is_class.false) c.in_ok-above.ensures some)

pub add_meetings-requires-clause-new : goal.add_meetings-requires-clause-new
add_meetings-requires-clause-new c m h =
    let items = c.deref-k-items.result.now in
    let i = c.loop-k.k-index in
    let x = get_or items i 0 in
    let z : Meeting = record { lower = m; upper = x } in
    let told = subst (λ (r : Result (Vec ℕ Global) NoMemory). IfOk r (λ (v : Vec ℕ Global). AreFromInterfaces c.args.w.now c.args.c v.items)) c.in_ok-upper.was (c.from_interfaces.ensures c.args.w.now c.requires.lists) in
    let rises = subst IsStrictlyIncreasing (sym c.deref-k-items.ensures.value) told.1 in
    elim ((c.loop-k.invariant.0.0 z).0 h) [
      | inl was ↦ none_in [] z refl was
      | inr t ↦ increasing_new items i x rises (slice_get-get_or items i 0 c.loop-k-test.true) (subst (Among items i) (sym t.2.1) t.1)
    ]

pub loop-k-init : goal.loop-k-init
loop-k-init c =
    let w = c.args.w.now in (
      (
        gathers_none (λ (k : ℕ) (p : Meeting). IsInherited w c.args.c k × (p.upper ≡ k) × Meets w c.args.c p.lower k) [] c.deref-k-items.result.now c.new-found.result.items c.new-found.ensures.items,
        once_none c.new-found.result.items c.new-found.ensures.items,
      ),
      tables_none w (IsKeyedLower w) c.new-tables.result c.new-tables.ensures.none,
      c.new-tables.ensures.class,
    )

pub add_meetings-requires-clause-class : goal.add_meetings-requires-clause-class
add_meetings-requires-clause-class c = c.loop-k.invariant.2

pub add_meetings-requires-clause-tables : goal.add_meetings-requires-clause-tables
add_meetings-requires-clause-tables c = c.loop-k.invariant.1

pub loop-k-preserved : goal.loop-k-preserved
loop-k-preserved c =
    let w = c.args.w.now in
    let items = c.deref-k-items.result.now in
    let i = c.loop-k.k-index in
    let x = get_or items i 0 in
    let at = slice_get-get_or items i 0 c.loop-k-test.true in
    let out = c.loop-k.found.items in
    let inv = c.loop-k.invariant.0 in
    let P = λ (k : ℕ) (p : Meeting). IsInherited w c.args.c k × (p.upper ≡ k) × Meets w c.args.c p.lower k in
    elim c.if-is_inherited.branch [
      | then-is_inherited+in_ok-add_meetings v ↦
          let inherited = c.is_inherited.ensures.0 v.if-is_inherited.true in
          let new = v.add_meetings.new.found.items in
          let more = v.in_ok-add_meetings.ensures in
          let tables = subst (λ (t : Tables). HoldTables w (IsKeyedLower w) t × (t.class ≡ c.args.c)) (sym v.tables-is) (more.tables, more.class) in (
            subst (λ (u : Vec Meeting Global). Gathers P [] items u.items (i + 1) × IsOnce u.items) (sym v.found-is) (
              gathers_next P [] items out new i x inv.0 at (λ p. let told = more.has p in (
                λ h. elim (told.0 h) [ inl was ↦ inl was | inr t ↦ inr (inherited, t.0, t.1) ],
                λ h. told.1 (elim h [ inl was ↦ inl was | inr t ↦ inr (t.1, t.2) ]),
              )),
              more.once,
            ),
            tables.0,
            tables.1,
          )
      | else-is_inherited v ↦
          let tables = subst (λ (t : Tables). HoldTables w (IsKeyedLower w) t × (t.class ≡ c.args.c)) (sym v.tables-is) (c.loop-k.invariant.1, c.loop-k.invariant.2) in (
            subst (λ (u : Vec Meeting Global). Gathers P [] items u.items (i + 1) × IsOnce u.items) (sym v.found-is) (
              gathers_skip P [] items out i x inv.0 at (λ p h. let yes = c.is_inherited.ensures.1 h.0 in absurd (cc (yes, v.if-is_inherited.false))),
              inv.1,
            ),
            tables.0,
            tables.1,
          )
    ]

pub returns : goal.returns
returns c =
    let w = c.args.w.now in
    let items = c.deref-k-items.result.now in
    let P = λ (k : ℕ) (p : Meeting). IsInherited w c.args.c k × (p.upper ≡ k) × Meets w c.args.c p.lower k in
    let told = subst (λ (r : Result (Vec ℕ Global) NoMemory). IfOk r (λ (v : Vec ℕ Global). AreFromInterfaces w c.args.c v.items)) c.in_ok-upper.was (c.from_interfaces.ensures w c.requires.lists) in
    let ups = subst (λ (l : List ℕ). (k : ℕ) → Contains l k ↔ IsFromInterface w c.args.c k) (sym c.deref-k-items.ensures.value) told.0 in
    let has = gathers_alone P items c.loop-k.found.items c.loop-k.k-index c.loop-k-test.false c.loop-k.invariant.0.0 in
    subst (λ (ps : List Meeting). AreMeetings w c.args.c ps × IsOnce ps) (sym c.from_vec.ensures) (meetings_told w c.args.c items c.loop-k.found.items ups has, c.loop-k.invariant.0.1)
