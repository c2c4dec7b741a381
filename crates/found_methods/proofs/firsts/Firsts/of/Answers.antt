use Rattle.std.proofs.Common.{◌∙◌, ◌<◌, refl, sym, subst, length, get_or, arith}
use Rattle.std.specs.List.{Contains}
use Rattle.std.proofs.lemmas.Option.{IfSome_then, slice_get_read, slice_get-get_or}
use Rattle.shared_maps.specs.Maps.{AreEntries}
use Rattle.overrides.specs.Tables.{value_at}
use Rattle.found_methods.specs.Firsts.{HoldsFirsts}
use Rattle.found_methods.proofs.Overlays.{table_within}
use Rattle.found_methods.proofs.Rises.{only_superclass, only_within, next_holds, above_done, all_done}
use Rattle.found_methods.proofs.firsts.Firsts.of.Goals as goal

pub add-requires-clause-from : goal.add-requires-clause-from
add-requires-clause-from c =
    let w = c.args.w.now in
    let supers = c.args.supers.now in
    let order = c.args.order.now in
    let i = c.loop-c.c-index in
    let d = get_or order i 0 in
    let seq = c.requires.order in
    let known = seq.known i d (slice_get-get_or order i 0 c.loop-c-test.true) in
    let size = c.requires.supers.size in
    let row = slice_get_read supers (length supers) d c.index-supers-c.result refl (omega (arith, known, size)) c.index-supers-c.is in
    let rows = c.loop-c.invariant.sized.rows in
    IfSome_then c.only-from.result c.only-from.ensures (λ s one. subst (λ n. s < n) (sym rows) (only_within w supers d s c.index-supers-c.result c.requires.supers row (sym c.as_slice.ensures ∙ one)))

pub add-requires-clause-ends : goal.add-requires-clause-ends
add-requires-clause-ends c =
    let w = c.args.w.now in
    let supers = c.args.supers.now in
    let order = c.args.order.now in
    let i = c.loop-c.c-index in
    let d = get_or order i 0 in
    let seq = c.requires.order in
    let known = seq.known i d (slice_get-get_or order i 0 c.loop-c-test.true) in
    let size = c.requires.supers.size in
    let row = slice_get_read supers (length supers) d c.index-supers-c.result refl (omega (arith, known, size)) c.index-supers-c.is in
    let ends = c.loop-c.invariant.sized.ends in
    IfSome_then c.only-from.result c.only-from.ensures (λ s one. subst (λ n. s < n) (sym ends) (only_within w supers d s c.index-supers-c.result c.requires.supers row (sym c.as_slice.ensures ∙ one)))

pub add-requires-clause-keys : goal.add-requires-clause-keys
add-requires-clause-keys c = λ l k has.
    let own = c.args.own.now in
    let d = get_or c.args.order.now c.loop-c.c-index 0 in
    let is = (c.in_ok-entries.ensures.each l k).0 (subst (λ xs. Contains xs (l, k)) c.deref.ensures.value has) in
    let lt = table_within own.table d l k is in
    let keys = c.requires.own.1.keys in
    let same = c.loop-c.invariant.sized.keys in
    omega (arith, lt, keys, same)

pub loop-c-preserved : goal.loop-c-preserved
loop-c-preserved c =
    let w = c.args.w.now in
    let own = c.args.own.now in
    let supers = c.args.supers.now in
    let order = c.args.order.now in
    let i = c.loop-c.c-index in
    let d = get_or order i 0 in
    let seq = c.requires.order in
    let at = slice_get-get_or order i 0 c.loop-c-test.true in
    let known = seq.known i d at in
    let size = c.requires.supers.size in
    let row = slice_get_read supers (length supers) d c.index-supers-c.result refl (omega (arith, known, size)) c.index-supers-c.is in
    let old = c.loop-c.firsts in
    let new = c.add.new.self in
    let added = c.in_ok-add.ensures (value_at own.table d) (subst (AreEntries (value_at own.table d)) (sym c.deref.ensures.value) c.in_ok-entries.ensures) in
    record {
      sized = added.sized (length w.types) (length w.methods) c.loop-c.invariant.sized;
      done = λ labels holds.
          next_holds w labels own holds old new d order i c.only-from.result at added
          (IfSome_then c.only-from.result c.only-from.ensures
          (λ s one.
          let only = only_superclass w supers d s c.index-supers-c.result c.requires.supers row (sym c.as_slice.ensures ∙ one) in
          (only, above_done w order (HoldsFirsts w labels old) i d s seq at only.0 (c.loop-c.invariant.done labels holds))))
          (c.loop-c.invariant.done labels holds);
    }

pub returns : goal.returns
returns c = λ labels holds d known. all_done c.args.w.now c.args.order.now (HoldsFirsts c.args.w.now labels c.loop-c.firsts) c.loop-c.c-index c.requires.order c.loop-c-test.false (c.loop-c.invariant.done labels holds) d known
