use Rattle.std.proofs.Common.{◌≡◌, ◌∙◌, inl, inr, nat_eq, sym, ap, refl, length}
use Rattle.std.specs.HashSet.{contains}
use Rattle.std.specs.Prelude.{slice_get}
use Rattle.std.specs.List.{position_from}
use Rattle.std.proofs.lemmas.Option.{slice_get_read}
use Rattle.type_names.specs.Known.{types_of}
use Rattle.type_names.specs.Tables.{first_at, is_open_among}
use Rattle.type_names.proofs.Opens.{open_first}
use Rattle.type_names.proofs.NamedIn.{home_real, both_demanded, both_named}
use Rattle.type_names.proofs.Held.{meant_single, meant_beside, meant_on_demand, among_all}
use Rattle.type_names.proofs.table.TypeNames.meant.Goals as goal

pub returns-in-Some : goal.returns-in-Some
returns-in-Some c = λ j fs f stands at.
    let there = slice_get_read c.deref.result.now (length c.deref.result.now) c.args.file c.in_ok-names.names.now refl c.in_ok-names.ensures.lookup.3.0 c.in_ok-names.ensures.lookup.1 in
    let held = stands.files.files c.args.file c.in_ok-names.names.now f (sym (ap (λ l. slice_get l c.args.file) c.deref.ensures.value) ∙ there) at in
    meant_single j fs f c.args.name c.single.result c.in-Some.at (c.single.ensures ∙ held.singles c.args.name.0) c.in-Some.is

pub returns-in-Some-get : goal.returns-in-Some-get
returns-in-Some-get c = λ j fs f stands at.
    let there = slice_get_read c.deref.result.now (length c.deref.result.now) c.args.file c.in_ok-names.names.now refl c.in_ok-names.ensures.lookup.3.0 c.in_ok-names.ensures.lookup.1 in
    let held = stands.files.files c.args.file c.in_ok-names.names.now f (sym (ap (λ l. slice_get l c.args.file) c.deref.ensures.value) ∙ there) at in
    let beside = open_first c.args.self.now.packages c.args.self.now.firsts (types_of j fs) f c.in_ok-names.names.now.home.«package» c.in_ok-names.names.now.home.«package» c.args.name.0
    c.in_ok-names.names.now.home.user f.unit.«package» stands.types held.home held.user held.home in
    meant_beside j fs f c.args.name c.single.result c.get-2.result c.in-Some-get.at (c.single.ensures ∙ held.singles c.args.name.0) c.in_default.is
    (c.get-2.ensures ∙ ap (first_at c.args.self.now.firsts) c.key.ensures ∙ beside) c.in-Some-get.is

pub returns : goal.returns
returns c = λ j fs f stands at.
    let there = slice_get_read c.deref.result.now (length c.deref.result.now) c.args.file c.in_ok-names.names.now refl c.in_ok-names.ensures.lookup.3.0 c.in_ok-names.ensures.lookup.1 in
    let held = stands.files.files c.args.file c.in_ok-names.names.now f (sym (ap (λ l. slice_get l c.args.file) c.deref.ensures.value) ∙ there) at in
    let ps = c.args.self.now.packages in
    let ts = types_of j fs in
    let has = contains nat_eq c.in_ok-names.names.now.on_demand.seen in
    let d = c.in_ok-names.names.now.on_demand.numbers.items in
    let x = c.args.name.0 in
    let beside = open_first ps c.args.self.now.firsts ts f c.in_ok-names.names.now.home.«package» c.in_ok-names.names.now.home.«package» x c.in_ok-names.names.now.home.user f.unit.«package» stands.types
    held.home held.user held.home in
    let demanded : c.as_slice.result.now ≡ d = c.as_slice.ensures.value in
    let named = c.get-3.ensures ∙ stands.named x in
    let found : c.first_in.result ≡ position_from (is_open_among f ps d x) 0 ts =
    elim c.shorter-packages.ensures [
      | inl all ↦
          c.first_in.ensures ps ts f stands.types held.home held.user (λ k p e. held.demands.real k p (sym (ap (λ l. slice_get l k) (all ∙ demanded)) ∙ e))
          ∙ both_demanded ts f ps has d c.shorter-packages.result.now x held.seen (all ∙ demanded)
      | inr homes ↦
          c.first_in.ensures ps ts f stands.types held.home held.user (λ k p e. home_real ps c.args.self.now.firsts ts x k p stands.types (sym (ap (λ l. slice_get l k) (homes ∙ named)) ∙ e))
          ∙ both_named ts f ps has d c.shorter-packages.result.now x held.seen (homes ∙ named)
    ] in
    meant_on_demand j fs f c.args.name c.single.result c.get-2.result c.first_in.result (c.single.ensures ∙ held.singles x) c.in_default.is
    (c.get-2.ensures ∙ ap (first_at c.args.self.now.firsts) c.key.ensures ∙ beside) c.in_default-get.is
    (found ∙ among_all ps c.args.self.now.firsts ts j f d c.args.name stands.types held.demands)
