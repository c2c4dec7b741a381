use Rattle.std.proofs.Common.{◌≡◌, ◌==◌, ℕ, [], ◌∷◌, ◌++◌, refl, sym, subst, get_or}
use Rattle.std.proofs.lemmas.Option.{slice_get-get_or}
use Rattle.std.proofs.lemmas.Bool.{eqb-true}
use Rattle.std.proofs.lemmas.List.Elements.{Contains-get_or, Contains-push}
use Rattle.shared_maps.specs.Maps.{AreEntries}
use Rattle.overrides.specs.declared.at_once.TheConstants.{FREE, APART}
use Rattle.overrides.specs.declared.links.Link.{Link}
use Rattle.overrides.specs.Tables.{value_at}
use Rattle.overrides.specs.Links.{HasLink}
use Rattle.overrides.proofs.Places.{items_more, items_all}
use Rattle.overrides.proofs.Edges.{entry_tie, tie_entry}
use Rattle.overrides.proofs.Linked.{links_more, link_kept, tie_link}
use Rattle.overrides.proofs.links.add_links.Goals as goal
use Rattle.overrides.proofs.links.add_links.Goals.{After-deref-tie-items, then-tie-ne-APART+in_ok-push, else-tie-ne-APART}

entries_are : (c : After-deref-tie-items) → AreEntries (value_at c.args.ties.now c.args.m) c.deref-tie-items.result.now
entries_are c = subst (AreEntries (value_at c.args.ties.now c.args.m)) (sym c.deref-tie-items.ensures.value) c.in_ok-ties.ensures

pub loop-tie-preserved : goal.loop-tie-preserved
loop-tie-preserved c =
    let entries = c.deref-tie-items.result.now in
    let i = c.loop-tie.tie-index in
    let p = get_or entries i (0, 0) in
    let h = c.loop-tie.invariant in
    let old = c.loop-tie.links.items in
    let m = c.args.m in
    let at = slice_get-get_or entries i (0, 0) c.loop-tie-test.true in
    elim c.if-tie-ne-APART.branch [
      | then-tie-ne-APART+in_ok-push v ↦
          let tie = entry_tie c.args.w.now c.args.ties.now m entries c.requires.ties (entries_are ((goal.at.loop-tie-preserved c).After-deref-tie-items)) p (Contains-get_or entries i (0, 0) c.loop-tie-test.true) in
          let x : Link = record { lower = m; upper = p.0; free = p.1 == FREE } in
          let is = tie_link c.args.w.now m p.0 p.1 (p.1 == FREE) tie v.if-tie-ne-APART.true (eqb-true p.1 FREE) in
          rw (v.links-is, v.in_ok-push.ensures.items) (record {
            links = links_more c.args.w.now old x h.links is;
            kept = λ a t has. link_kept old x a t (h.kept a t has);
            all = items_more {A = ℕ × ℕ} (λ q. (q.1 ≡ APART → ⊥) → HasLink (old ++ x ∷ []) m q.0) entries i p (λ j q lt is_q tied. link_kept old x m q.0 (h.all j q lt is_q tied)) at
                (λ tied. (x, Contains-push old x, refl, refl));
          })
      | else-tie-ne-APART v ↦ rw v.links-is (record {
        links = h.links;
        kept = h.kept;
        all = items_more {A = ℕ × ℕ} (λ q. (q.1 ≡ APART → ⊥) → HasLink old m q.0) entries i p h.all at (λ tied. absurd (tied v.if-tie-ne-APART.false));
      })
    ]

pub returns-clause-all : goal.returns-clause-all
returns-clause-all c t edge =
    let entries = c.deref-tie-items.result.now in
    let tie = tie_entry c.args.w.now c.args.ties.now c.args.m entries c.requires.ties (entries_are ((goal.at.returns-clause-all c).After-deref-tie-items)) t edge in
    items_all {A = ℕ × ℕ} (λ q. (q.1 ≡ APART → ⊥) → HasLink c.loop-tie.links.items c.args.m q.0) entries c.loop-tie.tie-index c.loop-tie.invariant.all c.loop-tie-test.false (t, tie.0) tie.1 tie.2
