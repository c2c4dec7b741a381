use Rattle.std.proofs.Common.{◌≡◌, ap, refl, Some, length}
use Rattle.std.specs.Prelude.{slice_get}
use Rattle.std.specs.List.{list_any}
use Rattle.std.specs.HashSet.{contains}
use Rattle.std.proofs.lemmas.Option.{slice_get_read}
use Rattle.method_rules.proofs.Keys.{same_key}
use Rattle.method_rules.proofs.Repeating.{none_held, none_repeated, all_repeated, held_more, repeats_none, repeats_more}
use Rattle.method_rules.proofs.repeats.first_repeated.Goals.{then-not-is_new, else-not-is_new}
use Rattle.method_rules.proofs.repeats.first_repeated.Goals as goal

pub loop-m-init : goal.loop-m-init
loop-m-init c = record {
  held = none_held c.args.methods.now (contains same_key c.new-seen.result) (λ q. ap (list_any (same_key q)) c.new-seen.ensures.empty);
  found = none_repeated c.args.methods.now;
}

pub loop-m-preserved : goal.loop-m-preserved
loop-m-preserved c =
    let ms = c.args.methods.now in
    let i = c.loop-m.m-index in
    let n = c.m-item.result in
    let key = c.in_ok-signature_of.field-0 in
    let held = contains same_key c.loop-m.seen in
    let at : slice_get ms i ≡ Some n = slice_get_read ms (length ms) i n refl c.loop-m-test.true c.m-item.is in
    let is = c.in_ok-signature_of.ensures in
    let holds = c.loop-m.invariant.held in
    let new = c.in_ok-is_new.is_new in
    let added = c.in_ok-is_new.ensures.added in
    record {
      held = held_more ms i n key held at is holds (contains same_key c.insert.new.self) c.in_ok-is_new.ensures.updates.0;
      found = elim c.if-not-is_new.branch [
        | then-not-is_new w ↦
            rw w.first-is (repeats_more ms i n key held at is holds c.loop-m.first w.breach_at.result w.earlier-first.result new added w.if-not-is_new.true w.breach_at.ensures
            w.earlier-first.ensures c.loop-m.invariant.found)
        | else-not-is_new w ↦ rw w.first-is (repeats_none ms i n key held at is holds c.loop-m.first new added w.if-not-is_new.false c.loop-m.invariant.found)
      ];
    }

pub returns : goal.returns
returns c = all_repeated c.args.methods.now c.loop-m.m-index c.loop-m.first c.loop-m-test.false c.loop-m.invariant.found
