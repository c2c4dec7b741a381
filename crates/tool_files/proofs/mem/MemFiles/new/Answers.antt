use Rattle.std.proofs.Common.{◌≡◌, ◌++◌, [], ◌∷◌, ◌<◌, ◌≤◌, vec_len, length, length-append, get_or, map, take, ap, sym, ◌∙◌, arith}
use Rattle.std.proofs.lemmas.List.{map_more}
use Rattle.tool_files.specs.Memory.{File, given}
use Rattle.tool_files.proofs.Laid.{AreEntries-more, AreEntries-push, files_of-push}
use Rattle.tool_files.proofs.mem.MemFiles.new.Goals as goal

pub loop-name-preserved : goal.loop-name-preserved
loop-name-preserved c =
    let pool = c.loop-name.pool in
    let entries = c.loop-name.entries.items in
    let items = c.deref-name-items.result.now in
    let i = c.loop-name.name-index in
    let item = c.loop-name-item.result in
    let more = c.as_bytes-name.result.now ++ c.as_slice-bytes.result.now in
    let grown = c.append_file-entry.ensures.items ∙ ap (λ p. p ++ more) c.reserve.ensures.items in
    let are = AreEntries-more _ _ entries (omega (arith, pool.ok.0)) c.loop-name.invariant.entries in
    let laid : File = record { name = c.as_bytes-name.result.now; bytes = c.as_slice-bytes.result.now } in
    let pushed = files_of-push pool.items more c.append_file-entry.new.pool.items grown c.append_file-entry.result laid c.append_file-entry.ensures.file entries are in
    let longer : vec_len pool ≤ vec_len c.append_file-entry.new.pool =
    omega (arith, pool.ok.0, c.append_file-entry.new.pool.ok.0, ap length grown, length-append pool.items more) in
    let within : i < length items = omega arith in
    let read : given (get_or items i item) ≡ laid = ap given (sym c.loop-name-item.is) ∙ cc in
    record {
      entries = rw c.in_ok-push.ensures.items (AreEntries-push _ _ entries c.append_file-entry.result longer c.append_file-entry.ensures.entry c.loop-name.invariant.entries);
      files = rw c.in_ok-push.ensures.items
          (pushed ∙ (ap (λ fs. fs ++ laid ∷ []) c.loop-name.invariant.files
          ∙ sym (map_more given items i item within ∙ ap (λ f. map given (take i items) ++ f ∷ []) read)));
    }
