use Rattle.std.proofs.Common.{refl, arith}
use Rattle.tool_files.proofs.Look.{put_at-new}
use Rattle.tool_files.proofs.Laid.{AreEntries-more, look_up-place, put_at-place, files_of-set, files_of-push}
use Rattle.tool_files.proofs.mem.MemFiles.put_at.Goals as goal

pub returns-in-Some : goal.returns-in-Some
returns-in-Some c =
    let pool = c.self.inside.pool in
    let entries = c.self.inside.entries.items in
    let i = c.in-Some.place in
    let place = rw (c.deref.ensures.value, c.deref-2.ensures.value) at c.in-Some.ensures.some in
    let are = AreEntries-more _ _ entries (omega (arith, pool.ok.0)) c.self.invariant.0 in
    let set_at = files_of-set pool.items _ c.append_file-entry.new.pool.items c.append_file-entry.ensures.items c.append_file-entry.result _ c.append_file-entry.ensures.file entries are i in
    let put = put_at-place pool.items entries c.args.name.now c.args.bytes.now i c.append_file-entry.result place in
    let found = look_up-place pool.items entries c.args.name.now i c.append_file-entry.result place in
    rw (← c.self.view_is, put, found, set_at) refl

pub returns-in-None : goal.returns-in-None
returns-in-None c =
    let pool = c.self.inside.pool in
    let entries = c.self.inside.entries.items in
    let none = rw (c.deref.ensures.value, c.deref-2.ensures.value) at (c.in-None.ensures.none.0 refl) in
    let are = AreEntries-more _ _ entries (omega (arith, pool.ok.0)) c.self.invariant.0 in
    let pushed = files_of-push pool.items _ c.append_file-entry.new.pool.items c.append_file-entry.ensures.items c.append_file-entry.result _ c.append_file-entry.ensures.file entries are in
    let put = put_at-new c.args.name.now c.args.bytes.now _ none in
    rw (← c.self.view_is, put, none, c.push_reserved.ensures.items, pushed) refl
