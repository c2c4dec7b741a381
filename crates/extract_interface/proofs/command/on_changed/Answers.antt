use Rattle.std.proofs.Common.{ℕ, List, refl, sym, subst, ◌∙◌}
use Rattle.extract_interface.specs.Plans.{KeepsCreated}
use Rattle.extract_interface.proofs.command.on_changed.Goals as goal

pub returns : goal.returns
returns c =
    let w = c.args.q.now.world.now in
    let s = c.args.source.now in
    let text = c.as_slice.ensures.value ∙ sym c.from_vec-text.ensures in
    let keeps = c.in_ok-keeps_created.ensures c.if-not-branch.false in
    record {
      plan = c.args.plan.now;
      planned = c.requires.planned;
      changed = c.requires.changed;
      written = record {
        extraction = record {
          world = c.args.q.now.world;
          names = s.names;
          class = c.args.plan.now.class.number;
          methods = c.args.plan.now.methods;
          new_name = c.args.wish.now.name;
          kept = c.args.places;
        };
        is_extraction = record { world = refl; names = refl; class = refl; methods = refl; new_name = refl; kept_places = c.requires.places };
        is_text = c.from_vec-text.ensures ∙ c.in_ok-created.ensures;
      };
      keeps = subst (λ (t : List ℕ). KeepsCreated w s t c.args.new.texts) text (subst (λ (ts : List (List ℕ)). KeepsCreated w s c.as_slice.result.now ts) c.as_slice-2.ensures keeps);
    }
