use Rattle.std.proofs.Common.{◌≡◌, [], Option, None, Some, refl, sym, ap, ◌∙◌, length}
use Rattle.std.specs.Prelude.{slice_get}
use Rattle.std.specs.Option.{option_copied}
use Rattle.std.proofs.lemmas.Option.{slice_get_read, slice_get_past}
use Rattle.shared_maps.specs.declared.Map.{Map}
use Rattle.member_methods.specs.declared.tables.Tables.{Tables}
use Rattle.member_methods.specs.Keys.{found_in}
use Rattle.member_methods.specs.Methods.{listed_by}
use Rattle.member_methods.proofs.MethodLists.listed.Goals as goal

no_key : (t : Tables) (o : Option Map) → listed_by t o None ≡ []
no_key t None = refl
no_key t (Some map) = refl

pub returns-in_default : goal.returns-in_default
returns-in_default c =
    let t = c.args.self.now in
    let map = slice_get c.args.maps.now c.args.owner in
    let found : found_in t.keys (record { name = c.args.name.0; arity = c.args.arity }) ≡ None = sym c.get.ensures.value ∙ ap option_copied c.in_default.is in
    sym (ap (listed_by t.tables map) found ∙ no_key t.tables map)

pub returns-in-Some-get : goal.returns-in-Some-get
returns-in-Some-get c =
    let t = c.args.self.now in
    let maps = c.args.maps.now in
    let found : found_in t.keys (record { name = c.args.name.0; arity = c.args.arity }) ≡ Some c.in-Some.key.now = sym c.get.ensures.value ∙ ap option_copied c.in-Some.is in
    let at = c.in-Some-get.ensures.lookup in
    let map : slice_get maps c.args.owner ≡ Some c.in-Some-get.map.now = slice_get_read maps (length maps) c.args.owner c.in-Some-get.map.now refl at.3.0 at.1 in
    c.listed.ensures ∙ sym (ap (λ o. listed_by t.tables o (found_in t.keys (record { name = c.args.name.0; arity = c.args.arity }))) map ∙ ap (listed_by t.tables (Some c.in-Some-get.map.now)) found)

pub returns-in-None : goal.returns-in-None
returns-in-None c =
    let t = c.args.self.now in
    let map : slice_get c.args.maps.now c.args.owner ≡ None = slice_get_past c.args.maps.now c.args.owner c.in-None.ensures.lookup.3 in
    sym (ap (λ o. listed_by t.tables o (found_in t.keys (record { name = c.args.name.0; arity = c.args.arity }))) map)
