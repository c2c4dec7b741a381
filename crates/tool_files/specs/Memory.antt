-- Files in memory and a sink in memory.
use Rattle.std.specs.Prelude.{◌≡◌, ℕ, ◌+◌, ◌-◌, ◌<◌, ◌⊎◌, List, [], ◌∷◌, ◌++◌, length, Option, Some, None, Result, Ok, Err, is_none, bytes_eq, if◌then◌else◌, String, Vec, string_bytes}
use Rattle.tool_files.specs.declared.counts.FileCounts.{FileCounts}
use Rattle.tool_files.specs.declared.traits.FileFault.{FileFault}
use Rattle.tool_files.specs.declared.traits.WriteFailed.{WriteFailed}
use Rattle.tool_files.specs.declared.traits.SinkFailed.{SinkFailed}
use Rattle.tool_files.specs.Counts.{raised, no_counts, counts_after_read, counts_after_write}

-- a file: its name and its bytes
pub record File : Type 0 where
  pub name : List ℕ
  pub bytes : List ℕ

-- files in memory
pub record FileStore : Type 0 where
  pub files : List File
  -- the numbers of the calls that fail, and how many calls there were
  pub fail : List ℕ
  pub calls : ℕ
  -- how many new names, and how many bytes, writes can still take
  pub name_room : ℕ
  pub byte_room : ℕ
  pub counts : FileCounts

-- a sink in memory
pub record SinkStore : Type 0 where
  pub written : List ℕ
  -- the numbers of the calls that fail, and how many calls there were
  pub fail : List ℕ
  pub calls : ℕ
  -- how many bytes puts can still take
  pub room : ℕ
  -- how often a put failed
  pub faults : ℕ

-- a file that is given by its name and its bytes
abbrev pub given : {A : Type 0} → String A × Vec ℕ A → File
given f = record { name = string_bytes f.0; bytes = f.1.items }

-- these files before the first call
abbrev pub file_store : List File → List ℕ → FileStore
file_store files fail = record { files = files; fail = fail; calls = 0; name_room = 0; byte_room = 0; counts = no_counts }

-- an empty sink before the first call
abbrev pub sink_store : List ℕ → SinkStore
sink_store fail = record { written = []; fail = fail; calls = 0; room = 0; faults = 0 }

-- the bytes of a name: of its first file
abbrev pub look_up : List File → List ℕ → Option (List ℕ)
look_up [] name = None
look_up (f ∷ fs) name = if bytes_eq f.name name then Some f.bytes else look_up fs name

-- a name at these bytes, in its place, or last where it is new
abbrev pub put_at : List ℕ → List ℕ → List File → List File
put_at name bytes [] = record { name = name; bytes = bytes } ∷ []
put_at name bytes (f ∷ fs) = if bytes_eq f.name name then record { name = name; bytes = bytes } ∷ fs else f ∷ put_at name bytes fs

-- a write takes more names or bytes than there is room for
abbrev pub LacksRoom : FileStore → List ℕ → List ℕ → Type 0
LacksRoom s name bytes = ((s.name_room ≡ 0) × (look_up s.files name ≡ None)) ⊎ (s.byte_room < length name + length bytes)

-- a name at these bytes; a new name takes a name of room, and each write the bytes of name and content
abbrev pub store_with : FileStore → List ℕ → List ℕ → FileStore
store_with s name bytes = record s {
  files = put_at name bytes s.files;
  name_room = if is_none (look_up s.files name) then s.name_room - 1 else s.name_room;
  byte_room = s.byte_room - (length name + length bytes);
}

-- the files after a read with this answer
abbrev pub store_after_read : FileStore → Result (Unit {0}) FileFault → FileStore
store_after_read s r = record s { calls = raised s.calls; counts = counts_after_read s.counts r }

-- the files after a write of these bytes with this answer; where it fails, each name keeps its bytes
abbrev pub store_after_write : FileStore → List ℕ → List ℕ → Result (Unit {0}) WriteFailed → FileStore
store_after_write s name bytes (Ok _) = record (store_with s name bytes) { calls = raised s.calls }
store_after_write s name bytes (Err e) = record s { calls = raised s.calls; counts = counts_after_write s.counts (Err e) }

-- the sink after a put of these bytes with this answer; where it fails, nothing is appended
abbrev pub sink_after_put : SinkStore → List ℕ → Result (Unit {0}) SinkFailed → SinkStore
sink_after_put s bytes (Ok _) = record s { written = s.written ++ bytes; calls = raised s.calls; room = s.room - length bytes }
sink_after_put s bytes (Err _) = record s { calls = raised s.calls; faults = raised s.faults }
