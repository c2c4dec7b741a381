use Rattle.std.proofs.Common.{◌≡◌, ◌++◌, List, ap, ◌∙◌, map}
use Rattle.std.proofs.lemmas.Result.{IfOk-weaker}
use Rattle.java_tree.specs.declared.tree.Name.{Name}
use Rattle.java_tree.specs.declared.tree.SourceUnit as declared
use Rattle.java_tree.specs.Plain.{SourceUnit}
use Rattle.java_tree.specs.View.{unit_plain}
use Rattle.type_names.proofs.Homes.{plain_homes}
use Rattle.type_names.proofs.known.library_of.Goals as goal

pub returns : goal.returns
returns c =
    IfOk-weaker c.of.result (λ ps. ps ≡ c.push_packages.new.paths) (λ ps. ps ≡ map (λ (u : SourceUnit). u.«package») (map unit_plain c.args.lib.now))
    (λ ps same.
    same ∙ c.in_ok-push_packages.ensures ∙ ap (λ (x : List (List Name)). x ++ map (λ (u : declared.SourceUnit). u.«package») c.args.lib.now) c.new-paths.ensures ∙ plain_homes c.args.lib.now)
    c.of.ensures
