use Rattle.std.proofs.Common.{◌+◌, None, ap, ◌∙◌, subst, length, arith, rules, sym}
use Rattle.std.proofs.lemmas.List.{length_push, length-replicate}
use Rattle.method_groups.specs.Constructors.{found_in}
use Rattle.method_groups.proofs.Firsts.{none_only}
use Rattle.method_groups.proofs.Groups.{ArePlaced, constructors_kept, placed_none, places_next}
use Rattle.method_groups.proofs.Takers.{no_takers}
use Rattle.method_groups.proofs.made.all_groups.Goals as goal

pub make_all-requires-clause-ready : goal.make_all-requires-clause-ready
make_all-requires-clause-ready c =
    let rows = c.args.labels.now.rows.items in
    let places = c.in_ok-vec.ensures.items_if_clones_equal (none_only _ (λ n h. h)) in
    let takers = c.in_ok-vec-2.ensures.items_if_clones_equal (λ y e. search rules) in
    record {
      made = record {
        size = ap length places ∙ length-replicate c.len.result None ∙ (omega (arith, c.len.ensures, c.args.labels.now.rows.ok.0));
        each = subst (λ l. ArePlaced c.args.w.now rows l c.args.constructors.lists.items) (sym places) (placed_none c.args.w.now rows c.len.result c.args.constructors.lists.items);
      };
      size = ap length takers ∙ length-replicate c.len-2.result 0 ∙ c.len-2.ensures;
      takers = no_takers c.in_ok-vec.field-0.items c.in_ok-vec-2.field-0.items c.len-2.result takers;
    }

pub loop-m-init : goal.loop-m-init
loop-m-init c =
    let all = c.in_ok-make_all.ensures in
    record {
      size = ap length c.new-places.ensures.items;
      constructors = constructors_kept c.args.w.now (found_in c.args.constructors.places) c.args.constructors.lists.items c.make_all.new.self.groups.items all.kept c.requires.constructors;
      ready = all.ready;
      have = λ m lt. absurd (omega (arith, lt));
    }

pub loop-m-preserved : goal.loop-m-preserved
loop-m-preserved c =
    let h = c.loop-m.invariant in
    let one = c.in_ok-place.ensures in
    record {
      size = ap length c.in_ok-push.ensures.items ∙ length_push c.loop-m.places.items c.in_ok-place.place ∙ ap (λ n. n + 1) h.size;
      constructors = constructors_kept c.args.w.now (found_in c.args.constructors.places) c.loop-m.made.groups.items c.place_of.new.self.groups.items one.kept h.constructors;
      ready = one.ready;
      have = places_next c.args.w.now c.loop-m.places.items c.push.new.self.items c.loop-m.made.groups.items c.place_of.new.self.groups.items c.loop-m.m c.in_ok-place.place h.size h.have one.kept one.has c.in_ok-push.ensures.items;
    }
