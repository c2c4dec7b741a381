use Rattle.std.proofs.Common.{◌≡◌, ◌<◌, ◌++◌, ◌∷◌, [], Some, refl, sym, ap, ◌∙◌, length, arith}
use Rattle.std.specs.Prelude.{slice_get}
use Rattle.std.proofs.lemmas.Option.{slice_get_read}
use Rattle.class_world.proofs.Words.{length_set}
use Rattle.method_groups.specs.Labels.{IsOverload}
use Rattle.method_groups.specs.Groups.{HasList, KeepsLists}
use Rattle.method_groups.proofs.Groups.{push_keeps, list_pushed, placed_next}
use Rattle.method_groups.proofs.Takers.{takers_next}
use Rattle.method_groups.proofs.made.Made.place_of_label.Goals as goal

pub overloads_of-requires-clause-unmade : goal.overloads_of-requires-clause-unmade
overloads_of-requires-clause-unmade c =
    let places = c.args.self.now.by_label.items in
    slice_get_read places (length places) c.args.label c.index.result.now refl (omega (arith, c.requires.within, c.requires.ready.made.size)) c.index.ensures ∙ ap Some c.in_default.is

pushed : (c : goal.After-self-1) → c.push.new.self.items ≡ c.args.self.now.groups.items ++ c.in_ok-group.group.items ∷ []
pushed c = c.in_ok-push.ensures.items ∙ ap (λ l. c.overloads_of.new.self.groups.items ++ l ∷ []) c.from_vec.ensures ∙ ap (λ v. v.items ++ c.in_ok-group.group.items ∷ []) c.in_ok-group.ensures.groups

made_list : (c : goal.After-self-1) → HasList c.push.new.self.items c.in-Ok.place (IsOverload c.args.w.now c.args.labels.now.rows.items c.args.label)
made_list c =
    let groups = c.args.self.now.groups.items in
    let size : length c.overloads_of.new.self.groups.items ≡ length groups = ap (λ v. length v.items) c.in_ok-group.ensures.groups in
    list_pushed groups c.push.new.self.items c.in_ok-group.group.items c.in-Ok.place (IsOverload c.args.w.now c.args.labels.now.rows.items c.args.label) (pushed c)
    (omega (arith, c.in-Ok.ensures, c.len.ensures, c.overloads_of.new.self.groups.ok.0, size)) c.in_ok-group.ensures.has c.in_ok-group.ensures.ascending

keeps : (c : goal.After-self-1) → KeepsLists c.args.self.now.groups.items c.push.new.self.items
keeps c = push_keeps c.args.self.now.groups.items c.push.new.self.items c.in_ok-group.group.items (pushed c)

pub returns-clause-ready : goal.returns-clause-ready
returns-clause-ready c =
    let old = c.args.self.now in
    let new = c.overloads_of.new.self in
    let places = c.in_ok-group.ensures.places in
    let takers = c.in_ok-group.ensures.takers in
    let ready = c.requires.ready in
    let size : length new.by_label.items ≡ length c.args.labels.now.rows.items = ap (λ v. length v.items) places ∙ ready.made.size in
    let lt : c.args.label < length new.by_label.items = omega (arith, c.requires.within, size) in
    record {
      made = record {
        size = length_set new.by_label.items c.args.label _ ∙ size;
        each = placed_next c.args.w.now c.args.labels.now.rows.items new.by_label.items old.groups.items c.push.new.self.items c.args.label c.in-Ok.place lt
            (λ n p at. ready.made.each n p (ap (λ v. slice_get v.items n) (sym places) ∙ at)) (keeps c) (made_list c);
      };
      size = takers.size ∙ ready.size;
      takers = takers_next new.by_label.items old.takers.items new.takers.items c.args.label c.in-Ok.place lt (λ m n at above. let its = ready.takers m n at above in (its.0, ap (λ v. slice_get v.items n) places ∙ its.1)) takers;
    }

pub returns-clause-kept : goal.returns-clause-kept
returns-clause-kept c = keeps c

pub returns-clause-has : goal.returns-clause-has
returns-clause-has c = made_list c
