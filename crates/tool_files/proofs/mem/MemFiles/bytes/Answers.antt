use Rattle.tool_files.proofs.Laid.{look_up-place}
use Rattle.tool_files.proofs.mem.MemFiles.bytes.Goals as goal

pub returns : goal.returns
returns c =
    let found = look_up-place c.deref.result.now c.deref-2.result.now c.as_bytes.result.now c.in_ok-place.place c.index.result.now c.in_ok-place.ensures.some in
    rw (← c.self.view_is) cc
