use Rattle.std.proofs.Common.{◌≡◌, ℕ, ◌↔◌, None, Some, refl, sym, subst, length}
use Rattle.std.specs.Prelude.{slice_get}
use Rattle.std.specs.List.{Contains}
use Rattle.std.proofs.lemmas.Option.{slice_get_read, slice_get_past}
use Rattle.member_methods.specs.Methods.{IsListedAt}
use Rattle.member_methods.proofs.Maps.{if_ok}
use Rattle.member_methods.proofs.Whole.{of_map, of_no_map}
use Rattle.member_methods.proofs.MethodLists.all_listed.Goals as goal

pub returns-in-Some : goal.returns-in-Some
returns-in-Some c =
    let t = c.args.self.now in
    let maps = c.args.maps.now in
    let at = c.in-Some.ensures.lookup in
    let map : slice_get maps c.args.owner ≡ Some c.in-Some.map.now = slice_get_read maps (length maps) c.args.owner c.in-Some.map.now refl at.3.0 at.1 in
    if_ok c.all_listed.result _ _ (λ v has m. let is = of_map t maps c.args.owner c.in-Some.map.now m map in (λ h. is.0 ((has m).0 h), λ h. (has m).1 (is.1 h))) c.all_listed.ensures

pub returns-in-None : goal.returns-in-None
returns-in-None c =
    let t = c.args.self.now in
    let maps = c.args.maps.now in
    let none : slice_get maps c.args.owner ≡ None = slice_get_past maps c.args.owner c.in-None.ensures.lookup.3 in
    subst (λ l. (m : ℕ) → Contains l m ↔ IsListedAt t maps c.args.owner m) (sym c.new.ensures.items) (λ m. of_no_map t maps c.args.owner m none)
