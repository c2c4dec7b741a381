use Rattle.std.proofs.Common.{◌≡◌, ◌++◌, ap, ◌∙◌, arith, append_assoc}
use Rattle.tool_files.specs.Pool.{part_of}
use Rattle.tool_files.proofs.Laid.{part_of-fresh, part_of-last, file_of-parts}
use Rattle.tool_files.proofs.mem.append_file.Goals as goal

pub returns-clause-items : goal.returns-clause-items
returns-clause-items c =
    c.append-bytes.ensures.items
    ∙ (ap (λ p. p ++ c.args.bytes.now) c.append-name.ensures.items
    ∙ append_assoc c.args.pool.now.items c.args.name.now c.args.bytes.now)

pub returns-clause-file : goal.returns-clause-file
returns-clause-file c =
    let pool = c.args.pool.now in
    let named = c.append-name.new.pool in
    let name = c.args.name.now in
    let bytes = c.args.bytes.now in
    let n : part_of ((pool.items ++ name) ++ bytes) c.append-name.result ≡ name =
    part_of-fresh pool.items name bytes c.append-name.result (omega (arith, pool.ok.0)) (omega (arith, pool.ok.0)) in
    let b : part_of (named.items ++ bytes) c.append-bytes.result ≡ bytes =
    part_of-last named.items bytes c.append-bytes.result (omega (arith, named.ok.0)) (omega (arith, named.ok.0)) in
    let n' : part_of c.append-bytes.new.pool.items c.append-name.result ≡ name = rw (c.append-bytes.ensures.items, c.append-name.ensures.items) n in
    let b' : part_of c.append-bytes.new.pool.items c.append-bytes.result ≡ bytes = rw c.append-bytes.ensures.items b in
    file_of-parts _ name bytes (record { name = c.append-name.result; bytes = c.append-bytes.result }) n' b'
