use Rattle.std.proofs.Common.{List, ℕ, length, map, sym, ap, subst, arith, length-append}
use Rattle.std.proofs.lemmas.List.{length-map}
use Rattle.std.specs.String.{string_bytes}
use Rattle.source_files.specs.Held.{AreSmall}
use Rattle.checked_files.proofs.Held.{held_long, held_small}
use Rattle.compare_programs.proofs.programs.program_of.Goals as goal

pub check_texts-requires-clause-few : goal.check_texts-requires-clause-few
check_texts-requires-clause-few g c =
    let long = held_long _ 0 _ _ c.in-Ok-read_files.ensures.read in
    let many = length-map c.as_slice.result.now string_bytes in
    let slice = ap length c.as_slice.ensures in
    let texts = ap length c.as_slice-2.ensures in
    omega (arith, long, many, slice, texts, c.len.ensures, c.if-len-gt-MOST_FILES.false)

pub check_texts-requires-clause-small : goal.check_texts-requires-clause-small
check_texts-requires-clause-small g c = subst (λ (ts : List (List ℕ)). AreSmall ts) (sym c.as_slice-2.ensures) (held_small _ 0 _ _ c.in-Ok-read_files.ensures.read)

pub check_texts-requires-clause-users : goal.check_texts-requires-clause-users
check_texts-requires-clause-users g c =
    let long = held_long _ 0 _ _ c.in-Ok-read_files.ensures.read in
    let many = length-map c.as_slice.result.now string_bytes in
    let all = length-map c.in-Ok.names string_bytes in
    let slice = ap length c.as_slice.ensures in
    let texts = ap length c.as_slice-2.ensures in
    let names = ap length c.in-Ok.ensures in
    let both = length-append (map string_bytes c.args.files.now) (map string_bytes c.args.libraries.now) in
    let files = length-map c.args.files.now string_bytes in
    omega (arith, long, many, all, slice, texts, names, both, files)
