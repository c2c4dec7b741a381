use Rattle.std.proofs.Common.{◌≡◌, ◌∙◌, ap, map, [], rules, List, true}
use Rattle.std.specs.List.{position_from}
use Rattle.java_tree.specs.declared.tree.Name.{Name}
use Rattle.java_tree.specs.View.{unit_plain}
use Rattle.type_names.specs.Known.{File, files_of, types_of}
use Rattle.type_names.specs.Tables.{packages, homes_in, fits, files_in}
use Rattle.type_names.proofs.Held.{types_held, library_held, user_homes, lib_homes, no_files}
use Rattle.type_names.proofs.table.TypeNames.of.Goals as goal

pub returns : goal.returns
returns c =
    let user = map unit_plain c.args.user.now in
    let lib = map unit_plain c.args.lib.now in
    let fs : List File = files_of user lib in
    let ps : List (List Name) = c.in_ok-packages.packages in
    let same : ps ≡ packages c.args.java fs = c.in_ok-packages.ensures in
    let types = types_held c.args.java fs ps c.in_ok-firsts.firsts same (λ q. c.in_ok-firsts.ensures q ∙ ap (position_from (fits q) 0) (c.deref.ensures.value ∙ c.in_ok-types.ensures)) in
    let empty : c.new-files.result.items ≡ [] = search rules in
    let first = c.in_ok-push_files.ensures (types_of c.args.java fs) [] types (user_homes c.args.java user lib ps same) (no_files ps c.args.java (types_of c.args.java fs) c.new-files.result.items empty) in
    let second = c.in_ok-push_files-2.ensures (types_of c.args.java fs) (files_in true user) types (lib_homes c.args.java user lib ps same) first in
    record { homes = same; library = library_held user lib c.in_ok-library.library c.in_ok-library.ensures; types = types; named = λ x. c.in_ok-named.ensures x ∙ ap (homes_in x) (c.deref-2.ensures.value ∙ c.in_ok-types.ensures); files = second }
