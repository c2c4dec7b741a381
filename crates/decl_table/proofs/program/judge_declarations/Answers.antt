use Rattle.std.proofs.Common.{◌≡◌, ◌<◌, ◌^◌, map, length, sym, ap, ◌∙◌, subst}
use Rattle.java_tree.specs.View.{unit_plain}
use Rattle.java_tree.specs.declared.fault.Family.TheVariants as family
use Rattle.rule_order.specs.First.{IsFirst, IsEarlier, IsFirstOf}
use Rattle.rule_order.proofs.Firsts.{first_of_both}
use Rattle.class_world.specs.declared.world.World.{World}
use Rattle.class_world.specs.Merged.{IsAboveItself}
use Rattle.class_world.specs.Ordered.{IsClassBelowTwo}
use Rattle.class_world.specs.Sound.{AreSupers, HaveClassSupers}
use Rattle.type_names.specs.Known.{files_of}
use Rattle.type_headers.specs.Declared.{headers}
use Rattle.program_world.specs.ProgramWorld.{world_of}
use Rattle.decl_table.specs.Program.{RuleBreaches, ClashBreaches, DeclarationSet}
use Rattle.decl_table.specs.Clashes.{IsFirstClash}
use Rattle.decl_table.proofs.Orders.{class_supers}
use Rattle.decl_table.proofs.Clashing.{first_clash, no_clash, none_second}
use Rattle.decl_table.proofs.Judging.{count_world, first_of, in_order, not_above, tabled_declared}
use Rattle.decl_table.proofs.program.judge_declarations.Goals as goal

pub first_clash-requires-clause-supers : goal.first_clash-requires-clause-supers
first_clash-requires-clause-supers c =
    let fs = files_of (map unit_plain c.args.user.now) (map unit_plain c.args.lib.now) in
    let is : c.in_ok-world.world ≡ world_of c.args.built c.args.java fs = c.in_ok-world.ensures c.args.java c.requires.bases.count c.requires.stands c.requires.headers in
    subst HaveClassSupers (sym is) (class_supers c.args.built c.args.java fs c.requires.bases)

pub first_clash-requires-clause-few : goal.first_clash-requires-clause-few
first_clash-requires-clause-few c =
    let fs = files_of (map unit_plain c.args.user.now) (map unit_plain c.args.lib.now) in
    let is : c.in_ok-world.world ≡ world_of c.args.built c.args.java fs = c.in_ok-world.ensures c.args.java c.requires.bases.count c.requires.stands c.requires.headers in
    subst (λ n. n < 2 ^ 32) (ap length c.requires.headers ∙ sym (count_world c.args.built c.args.java fs) ∙ sym (ap (λ (w : World). length w.types) is)) c.requires.few

pub with_table-requires-clause-few : goal.with_table-requires-clause-few
with_table-requires-clause-few c =
    let fs = files_of (map unit_plain c.args.user.now) (map unit_plain c.args.lib.now) in
    let is : c.in_ok-world.world ≡ world_of c.args.built c.args.java fs = c.in_ok-world.ensures c.args.java c.requires.bases.count c.requires.stands c.requires.headers in
    subst (λ n. n < 2 ^ 32) (ap length c.requires.headers ∙ sym (count_world c.args.built c.args.java fs) ∙ sym (ap (λ (w : World). length w.types) is)) c.requires.few

pub with_table-requires-clause-supers : goal.with_table-requires-clause-supers
with_table-requires-clause-supers c =
    let b = c.args.built in
    let j = c.args.java in
    let fs = files_of (map unit_plain c.args.user.now) (map unit_plain c.args.lib.now) in
    let is : c.in_ok-world.world ≡ world_of b j fs = c.in_ok-world.ensures j c.requires.bases.count c.requires.stands c.requires.headers in
    let rules : IsFirst (RuleBreaches j fs (headers b.types fs) (world_of b j fs).methods) c.in_ok-in_rules.in_rules =
    subst (λ ms. IsFirst (RuleBreaches j fs (headers b.types fs) ms) c.in_ok-in_rules.in_rules) (c.as_slice-methods.ensures ∙ ap (λ (w : World). w.methods) is)
    (subst (λ ts. IsFirst (RuleBreaches j fs ts c.as_slice-methods.result.now) c.in_ok-in_rules.in_rules) c.requires.headers
    (c.in_ok-in_rules.ensures b.types c.requires.bases.count c.requires.stands c.requires.headers)) in
    let clash = first_clash b j fs c.requires.bases c.in_ok-clash.clash (subst (λ w. IsFirstClash w c.in_ok-clash.clash) is c.in_ok-clash.ensures) in
    let none = subst (IsFirst (DeclarationSet b j fs)) c.in-None.is
    (first_of_both (RuleBreaches j fs (headers b.types fs) (world_of b j fs).methods) (ClashBreaches (world_of b j fs)) c.in_ok-in_rules.in_rules c.in_ok-clash.clash c.earlier.result c.earlier.ensures rules clash) in
    subst AreSupers (sym is) (in_order b j fs c.requires.bases none)

pub with_table-requires-clause-rises : goal.with_table-requires-clause-rises
with_table-requires-clause-rises c =
    let b = c.args.built in
    let j = c.args.java in
    let fs = files_of (map unit_plain c.args.user.now) (map unit_plain c.args.lib.now) in
    let is : c.in_ok-world.world ≡ world_of b j fs = c.in_ok-world.ensures j c.requires.bases.count c.requires.stands c.requires.headers in
    let rules : IsFirst (RuleBreaches j fs (headers b.types fs) (world_of b j fs).methods) c.in_ok-in_rules.in_rules =
    subst (λ ms. IsFirst (RuleBreaches j fs (headers b.types fs) ms) c.in_ok-in_rules.in_rules) (c.as_slice-methods.ensures ∙ ap (λ (w : World). w.methods) is)
    (subst (λ ts. IsFirst (RuleBreaches j fs ts c.as_slice-methods.result.now) c.in_ok-in_rules.in_rules) c.requires.headers
    (c.in_ok-in_rules.ensures b.types c.requires.bases.count c.requires.stands c.requires.headers)) in
    let clash = first_clash b j fs c.requires.bases c.in_ok-clash.clash (subst (λ w. IsFirstClash w c.in_ok-clash.clash) is c.in_ok-clash.ensures) in
    let none = subst (IsFirst (DeclarationSet b j fs)) c.in-None.is
    (first_of_both (RuleBreaches j fs (headers b.types fs) (world_of b j fs).methods) (ClashBreaches (world_of b j fs)) c.in_ok-in_rules.in_rules c.in_ok-clash.clash c.earlier.result c.earlier.ensures rules clash) in
    λ n h. not_above b j fs c.requires.bases none n (subst (λ w. IsAboveItself w n) is h)

pub with_table-requires-clause-single : goal.with_table-requires-clause-single
with_table-requires-clause-single c =
    let b = c.args.built in
    let j = c.args.java in
    let fs = files_of (map unit_plain c.args.user.now) (map unit_plain c.args.lib.now) in
    let is : c.in_ok-world.world ≡ world_of b j fs = c.in_ok-world.ensures j c.requires.bases.count c.requires.stands c.requires.headers in
    let none = none_second c.in_ok-in_rules.in_rules c.in_ok-clash.clash (subst (IsEarlier c.in_ok-in_rules.in_rules c.in_ok-clash.clash) c.in-None.is c.earlier.ensures) in
    let clash = subst (IsFirstClash (world_of b j fs)) none (subst (λ w. IsFirstClash w c.in_ok-clash.clash) is c.in_ok-clash.ensures) in
    λ n h. no_clash b j fs c.requires.bases clash n (subst (λ w. IsClassBelowTwo w n) is h)

pub returns-in-Some : goal.returns-in-Some
returns-in-Some c =
    let b = c.args.built in
    let j = c.args.java in
    let fs = files_of (map unit_plain c.args.user.now) (map unit_plain c.args.lib.now) in
    let is : c.in_ok-world.world ≡ world_of b j fs = c.in_ok-world.ensures j c.requires.bases.count c.requires.stands c.requires.headers in
    let rules : IsFirst (RuleBreaches j fs (headers b.types fs) (world_of b j fs).methods) c.in_ok-in_rules.in_rules =
    subst (λ ms. IsFirst (RuleBreaches j fs (headers b.types fs) ms) c.in_ok-in_rules.in_rules) (c.as_slice-methods.ensures ∙ ap (λ (w : World). w.methods) is)
    (subst (λ ts. IsFirst (RuleBreaches j fs ts c.as_slice-methods.result.now) c.in_ok-in_rules.in_rules) c.requires.headers
    (c.in_ok-in_rules.ensures b.types c.requires.bases.count c.requires.stands c.requires.headers)) in
    let clash = first_clash b j fs c.requires.bases c.in_ok-clash.clash (subst (λ w. IsFirstClash w c.in_ok-clash.clash) is c.in_ok-clash.ensures) in
    let first = subst (IsFirst (DeclarationSet b j fs)) c.in-Some.is
    (first_of_both (RuleBreaches j fs (headers b.types fs) (world_of b j fs).methods) (ClashBreaches (world_of b j fs)) c.in_ok-in_rules.in_rules c.in_ok-clash.clash c.earlier.result c.earlier.ensures rules clash) in
    subst (IsFirstOf family.DR (DeclarationSet b j fs)) (sym c.broken.ensures) (first_of family.DR (DeclarationSet b j fs) c.in-Some.breach first)

pub returns-in-None : goal.returns-in-None
returns-in-None c =
    let b = c.args.built in
    let j = c.args.java in
    let fs = files_of (map unit_plain c.args.user.now) (map unit_plain c.args.lib.now) in
    let is : c.in_ok-world.world ≡ world_of b j fs = c.in_ok-world.ensures j c.requires.bases.count c.requires.stands c.requires.headers in
    let rules : IsFirst (RuleBreaches j fs (headers b.types fs) (world_of b j fs).methods) c.in_ok-in_rules.in_rules =
    subst (λ ms. IsFirst (RuleBreaches j fs (headers b.types fs) ms) c.in_ok-in_rules.in_rules) (c.as_slice-methods.ensures ∙ ap (λ (w : World). w.methods) is)
    (subst (λ ts. IsFirst (RuleBreaches j fs ts c.as_slice-methods.result.now) c.in_ok-in_rules.in_rules) c.requires.headers
    (c.in_ok-in_rules.ensures b.types c.requires.bases.count c.requires.stands c.requires.headers)) in
    let clash = first_clash b j fs c.requires.bases c.in_ok-clash.clash (subst (λ w. IsFirstClash w c.in_ok-clash.clash) is c.in_ok-clash.ensures) in
    let none = subst (IsFirst (DeclarationSet b j fs)) c.in-None.is
    (first_of_both (RuleBreaches j fs (headers b.types fs) (world_of b j fs).methods) (ClashBreaches (world_of b j fs)) c.in_ok-in_rules.in_rules c.in_ok-clash.clash c.earlier.result c.earlier.ensures rules clash) in
    tabled_declared c.args.names.now b j fs c.in_ok-world.world c.with_table.result is none c.with_table.ensures
