-- The files of a program among lists of units.
use Rattle.std.proofs.Common.{◌≡◌, ℕ, ◌+◌, ◌<◌, Bool, List, map, length, Some, refl, ap, ◌∙◌, subst, arith, get_or}
use Rattle.std.specs.Prelude.{slice_get, true, false}
use Rattle.std.specs.Option.{option_map}
use Rattle.std.proofs.lemmas.List.{length-map}
use Rattle.std.proofs.lemmas.Option.{slice_get-map, slice_get_read}
use Rattle.java_tree.specs.declared.tree.SourceUnit as declared
use Rattle.java_tree.specs.Plain.{SourceUnit}
use Rattle.java_tree.specs.View.{unit_plain}
use Rattle.type_names.specs.Known.{File, files_of}
use Rattle.type_names.specs.Tables.{files_in}
use Rattle.decl_table.specs.Files.{StandAt}
use Rattle.decl_table.proofs.Listed.{get_front, get_behind}

abbrev file_of : Bool → SourceUnit → File
file_of user u = record { unit = u; user = user }

-- a file of a list of units
pub file_at : (user : Bool) (us : List declared.SourceUnit) (i : ℕ) (u : declared.SourceUnit) → i < length us → u ≡ get_or us i u
    → slice_get (files_in user (map unit_plain us)) i ≡ Some (record { unit = unit_plain u; user = user })
file_at user us i u lt is =
    slice_get-map (file_of user) (map unit_plain us) i ∙ ap (option_map (file_of user)) (slice_get-map unit_plain us i ∙ ap (option_map unit_plain) (slice_get_read us (length us) i u refl lt is))

pub user_at : (user lib : List SourceUnit) → StandAt (files_of user lib) 0 (files_in true user)
user_at user lib k f e =
    subst (λ n. slice_get (files_of user lib) n ≡ Some f) (let e : k ≡ 0 + k = omega arith in e) (get_front (files_in true user) (files_in false lib) k f e)

pub lib_at : (user lib : List SourceUnit) → StandAt (files_of user lib) (length user) (files_in false lib)
lib_at user lib k f e =
    subst (λ n. slice_get (files_of user lib) (n + k) ≡ Some f) (length-map user (file_of true)) (get_behind (files_in true user) (files_in false lib) k f e)
