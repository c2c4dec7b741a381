use Rattle.std.proofs.Common.{inl, inr, map, refl}
use Rattle.std.specs.String.{string_bytes}
use Rattle.refactor_app.specs.Course as way
use Rattle.refactor_app.specs.Refusals as refusal
use Rattle.refactor_app.proofs.Courses.{made, asks_other}
use Rattle.refactor_app.proofs.call.run.Goals as goal

pub returns-in-Ok-Usage : goal.returns-in-Ok-Usage
returns-in-Ok-Usage g c =
    elim (made c.usage.result _ _ _ _ _ _ _ c.usage.ensures c.put_made.ensures.put c.put_made.ensures.none) [
      | inl ends ↦ way.Course.usages (rw c.in-Ok-Usage.field-0-is at c.in-Ok-Usage.ensures) refl ends
      | inr none ↦ way.Course.no_memory refl none.1 none.0
    ]

pub returns-in-Some : goal.returns-in-Some
returns-in-Some g c =
    let asks = rw c.in-Ok-Asked.field-0-is at c.in-Ok-Asked.ensures in
    c.on_task.ensures (map string_bytes c.args.words.now) (c.in-Some.ensures.some (map string_bytes c.args.words.now) asks)

pub returns-in-None : goal.returns-in-None
returns-in-None g c =
    let asks = rw c.in-Ok-Asked.field-0-is at c.in-Ok-Asked.ensures in
    way.Course.refuses (refusal.Refusal.n1 (asks_other (map string_bytes c.args.words.now) c.in-Ok-Asked.request asks c.in-None.ensures.no_change c.in-None.ensures.no_types c.in-None.ensures.no_check c.in-None.ensures.no_run
    c.in-None.ensures.no_extraction)) refl c.put.ensures
