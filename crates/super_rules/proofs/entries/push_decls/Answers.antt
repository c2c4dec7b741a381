use Rattle.std.proofs.Common.{◌++◌, map, refl, sym, ap, subst, ◌∙◌}
use Rattle.std.proofs.lemmas.List.{take_all}
use Rattle.java_tree.specs.Plain.{SourceUnit}
use Rattle.type_names.proofs.Held.{append_none}
use Rattle.written_types.specs.Places.{place_in}
use Rattle.super_rules.specs.Looks.{AreEntries}
use Rattle.super_rules.proofs.Files.{declares, decl_next, declared_all}
use Rattle.super_rules.proofs.entries.push_decls.Goals as goal

pub loop-decl-init : goal.loop-decl-init
loop-decl-init c = λ java fs f xs stands at user so_far. subst (AreEntries java fs c.args.types.now c.args.entries.now.items) (sym (append_none xs)) so_far

pub loop-decl-preserved : goal.loop-decl-preserved
loop-decl-preserved c = λ java fs f xs stands at user so_far.
    decl_next java fs c.args.types.now c.loop-decl.entries.items c.push.new.self.items xs c.args.file f c.as_slice-decl-items.result.now c.loop-decl.decl-index c.decl-item.result _ c.loop-decl-test.true
    c.decl-item.is c.in_ok-push.ensures.items
    (record {
      place = record { java = java; files = fs; file = f; stands = stands; at = at; same = ap (place_in java fs f c.args.types.now) (sym c.as_slice.ensures) };
      types_are = refl;
      decl = refl;
      user = sym user;
    }) (c.loop-decl.invariant java fs f xs stands at user so_far)

pub returns : goal.returns
returns c = λ java fs f xs stands at is user so_far.
    let ds = c.as_slice-decl-items.result.now in
    let all = ap (map (declares c.args.file f)) (take_all c.loop-decl.decl-index ds c.loop-decl-test.false ∙ c.as_slice-decl-items.ensures)
    ∙ declared_all c.args.file f c.args.unit.now.types (ap (λ (u : SourceUnit). u.types) is) in
    subst (λ l. AreEntries java fs c.args.types.now c.loop-decl.entries.items (xs ++ l)) all (c.loop-decl.invariant java fs f xs stands at user so_far)
