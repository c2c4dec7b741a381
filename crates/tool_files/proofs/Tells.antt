-- What the calls on files and on a sink in memory tell in the words of the traits.
use Rattle.std.proofs.Common.{◌≡◌, ℕ, ◌+◌, ◌-◌, ◌^◌, ◌≤◌, ◌++◌, List, Some, Result, Ok, Err, refl, sym, inl, inr, arith}
use Rattle.std.proofs.lemmas.Bool.{cond_both, eqb-true}
use Rattle.std.proofs.lemmas.List.{append-nil}
use Rattle.std.specs.Prelude.{OnOk, OnErr, nat_eq}
use Rattle.tool_files.specs.declared.counts.FileCounts.{FileCounts}
use Rattle.tool_files.specs.declared.traits.FileFault.{FileFault}
use Rattle.tool_files.specs.declared.traits.FileFault.TheVariants.{Missing, Failed, NoMemory}
use Rattle.tool_files.specs.declared.traits.WriteFailed.{WriteFailed}
use Rattle.tool_files.specs.declared.traits.SinkFailed.{SinkFailed}
use Rattle.tool_files.specs.Told.{Rose, SameBut, PutsAt, AppendsSome}
use Rattle.tool_files.specs.Memory.{FileStore, SinkStore, look_up, store_after_write, sink_after_put}
use Rattle.tool_files.specs.Counts.{raised, counts_after_read, counts_after_write, faults_after_put}
use Rattle.tool_files.proofs.Look.{look_up-put_at, look_up-put_at_other}

pub raised-grows : (n : ℕ) → n ≤ raised n
raised-grows n = cond_both (nat_eq n (2 ^ 64 - 1)) n (n + 1) (λ m. n ≤ m) (λ _. omega arith) (λ _. omega arith)

pub raised-rose : (n : ℕ) → Rose n (raised n)
raised-rose n = cond_both (nat_eq n (2 ^ 64 - 1)) n (n + 1) (Rose n) (λ e. inr (eqb-true n _ e)) (λ _. inl (omega arith))

-- a read
module _ (c : FileCounts) where
  pub misses-read : (r : Result (Unit {0}) FileFault) → c.misses ≤ (counts_after_read c r).misses
  misses-read (Ok _) = omega arith
  misses-read (Err Missing) = raised-grows c.misses
  misses-read (Err Failed) = omega arith
  misses-read (Err NoMemory) = omega arith

  pub read_faults-read : (r : Result (Unit {0}) FileFault) → c.read_faults ≤ (counts_after_read c r).read_faults
  read_faults-read (Ok _) = omega arith
  read_faults-read (Err Missing) = omega arith
  read_faults-read (Err Failed) = raised-grows c.read_faults
  read_faults-read (Err NoMemory) = omega arith

  pub write_faults-read : (r : Result (Unit {0}) FileFault) → (counts_after_read c r).write_faults ≡ c.write_faults
  write_faults-read (Ok _) = refl
  write_faults-read (Err Missing) = refl
  write_faults-read (Err Failed) = refl
  write_faults-read (Err NoMemory) = refl

  -- a write
  pub misses-write : (r : Result (Unit {0}) WriteFailed) → (counts_after_write c r).misses ≡ c.misses
  misses-write (Ok _) = refl
  misses-write (Err _) = refl

  pub read_faults-write : (r : Result (Unit {0}) WriteFailed) → (counts_after_write c r).read_faults ≡ c.read_faults
  read_faults-write (Ok _) = refl
  read_faults-write (Err _) = refl

  pub write_faults-write : (r : Result (Unit {0}) WriteFailed) → c.write_faults ≤ (counts_after_write c r).write_faults
  write_faults-write (Ok _) = omega arith
  write_faults-write (Err _) = raised-grows c.write_faults

  pub write_faults-failed : (r : Result (Unit {0}) WriteFailed) → OnErr r (Rose c.write_faults (counts_after_write c r).write_faults)
  write_faults-failed (Ok _) = tt
  write_faults-failed (Err _) = raised-rose c.write_faults

-- a write to files in memory
module _ (s : FileStore) (name bytes : List ℕ) where
  pub counts-write : (r : Result (Unit {0}) WriteFailed) → (store_after_write s name bytes r).counts ≡ counts_after_write s.counts r
  counts-write (Ok _) = refl
  counts-write (Err _) = refl

  pub write-ok : (r : Result (Unit {0}) WriteFailed) → OnOk r (PutsAt name bytes (look_up s.files) (look_up (store_after_write s name bytes r).files))
  write-ok (Ok _) = (look_up-put_at name bytes s.files, λ n ne. look_up-put_at_other name bytes n s.files ne)
  write-ok (Err _) = tt

  pub write-err : (r : Result (Unit {0}) WriteFailed) → OnErr r (SameBut name (look_up s.files) (look_up (store_after_write s name bytes r).files))
  write-err (Ok _) = tt
  write-err (Err _) = λ n ne. refl

-- a put
module _ (s : SinkStore) (bytes : List ℕ) where
  pub faults-put : (r : Result (Unit {0}) SinkFailed) → s.faults ≤ (sink_after_put s bytes r).faults
  faults-put (Ok _) = omega arith
  faults-put (Err _) = raised-grows s.faults

  pub put-ok : (r : Result (Unit {0}) SinkFailed) → OnOk r ((sink_after_put s bytes r).written ≡ s.written ++ bytes)
  put-ok (Ok _) = refl
  put-ok (Err _) = tt

  pub put-err : (r : Result (Unit {0}) SinkFailed) → OnErr r (AppendsSome (Some s.written) (Some (sink_after_put s bytes r).written) bytes)
  put-err (Ok _) = tt
  put-err (Err _) = (0, sym (append-nil s.written))

  pub put-failed : (r : Result (Unit {0}) SinkFailed) → OnErr r (Rose s.faults (sink_after_put s bytes r).faults)
  put-failed (Ok _) = tt
  put-failed (Err _) = raised-rose s.faults

-- a put to a sink that tells nothing
module _ (n : ℕ) where
  pub faults-after : (r : Result (Unit {0}) SinkFailed) → n ≤ faults_after_put n r
  faults-after (Ok _) = omega arith
  faults-after (Err _) = raised-grows n

  pub faults-failed : (r : Result (Unit {0}) SinkFailed) → OnErr r (Rose n (faults_after_put n r))
  faults-failed (Ok _) = tt
  faults-failed (Err _) = raised-rose n

-- a fact that always holds
pub OnOk-always : {T E : Type 0} (r : Result T E) (P : Type 0) → P → OnOk r P
OnOk-always (Ok _) P p = p
OnOk-always (Err _) P p = tt

pub OnErr-always : {T E : Type 0} (r : Result T E) (P : Type 0) → P → OnErr r P
OnErr-always (Ok _) P p = tt
OnErr-always (Err _) P p = p
