use Rattle.std.proofs.Common.{◌≡◌, ◌∙◌, ap}
use Rattle.type_names.specs.Known.{lang_package, io_package}
use Rattle.type_names.specs.Sees.{same_path}
use Rattle.type_names.proofs.Tested.{built_in_left, built_in_right}
use Rattle.type_names.proofs.packages.is_built_in.Goals as goal

pub returns-then-eq : goal.returns-then-eq
returns-then-eq c =
    let first : c.eq.result ≡ same_path c.args.path.now (lang_package c.args.java) = c.eq.ensures ∙ ap (same_path c.args.path.now) c.as_slice.ensures in
    built_in_left c.args.java c.args.path.now c.eq.result first c.if-eq.true

pub returns-else-eq : goal.returns-else-eq
returns-else-eq c =
    let first : c.eq.result ≡ same_path c.args.path.now (lang_package c.args.java) = c.eq.ensures ∙ ap (same_path c.args.path.now) c.as_slice.ensures in
    let second : c.eq-else-eq.result ≡ same_path c.args.path.now (io_package c.args.java) = c.eq-else-eq.ensures ∙ ap (same_path c.args.path.now) c.as_slice-else-eq.ensures in
    built_in_right c.args.java c.args.path.now c.eq.result c.eq-else-eq.result first c.if-eq.false second
