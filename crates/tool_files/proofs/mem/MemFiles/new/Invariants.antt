use Rattle.std.proofs.Common.{◌≡◌, map, take, vec_len}
use Rattle.tool_files.specs.Memory.{given}
use Rattle.tool_files.specs.Pool.{files_of, AreEntries}
use Rattle.tool_files.proofs.mem.MemFiles.new.Given as goal

-- the entries so far are those of the files so far
abbrev pub invariant-loop-name : goal.invariant-loop-name
invariant-loop-name l = record {
  entries : AreEntries (vec_len l.pool) l.entries.items;
  files : files_of l.pool.items l.entries.items ≡ map given (take l.name-index l.name-items);
}
