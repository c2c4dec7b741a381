use Rattle.std.proofs.Common.{◌≡◌, ◌∷◌, [], ◌++◌, ap, ◌∙◌, map}
use Rattle.std.proofs.lemmas.Result.{IfOk-weaker}
use Rattle.java_tree.specs.View.{unit_plain}
use Rattle.type_names.specs.Known.{files_of}
use Rattle.type_names.specs.Tables.{packages}
use Rattle.type_names.proofs.Homes.{packages_made}
use Rattle.type_names.proofs.known.packages_of.Goals as goal

pub returns : goal.returns
returns c =
    IfOk-weaker c.of.result (λ ps. ps ≡ c.push_packages-2.new.paths) (λ ps. ps ≡ packages c.args.java (files_of (map unit_plain c.args.user.now) (map unit_plain c.args.lib.now)))
    (λ ps same.
    same
    ∙ packages_made c.args.java c.args.user.now c.args.lib.now c.in_ok-from_slice.field-0 c.in_ok-from_slice-2.field-0 c.push.new.self c.push-2.new.self c.push_packages.new.paths c.push_packages-2.new.paths
    c.in_ok-from_slice.ensures c.in_ok-from_slice-2.ensures (c.in_ok-push.ensures.ok ∙ ap (λ x. x ++ c.in_ok-from_slice.field-0 ∷ []) c.new-paths.ensures) c.in_ok-push-2.ensures.ok
    c.in_ok-push_packages.ensures c.in_ok-push_packages-2.ensures)
    c.of.ensures
