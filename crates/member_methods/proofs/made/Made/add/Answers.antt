use Rattle.std.proofs.Common.{◌≡◌, ◌↔◌, ℕ, Some, refl, sym, ap, ◌∙◌, subst, length, arith}
use Rattle.std.specs.Prelude.{slice_get}
use Rattle.std.specs.List.{Contains}
use Rattle.std.proofs.lemmas.Option.{slice_get_within, slice_get_read}
use Rattle.class_world.specs.Inheritance.{DeclaresMethod}
use Rattle.member_methods.specs.Own.{AreGroups, IsInGroup}
use Rattle.member_methods.specs.TypesAbove.{all_above}
use Rattle.member_methods.proofs.Members.{have_maps, among_others, fits, private_own, keys_below, step_done, step_kept, step_making}
use Rattle.member_methods.proofs.made.Made.add.Goals as goal

pub groups-requires : goal.groups-requires
groups-requires c = λ m h.
    let own = c.args.own.now in
    let row : slice_get own c.args.c ≡ Some c.index-own-c.result = slice_get_read own (length own) c.args.c c.index-own-c.result refl c.requires.within c.index-own-c.is in
    let d = (c.requires.own.each c.args.c c.index-own-c.result row m).0 (subst (λ l. Contains l m) c.as_slice.ensures h) in
    let lt = slice_get_within c.args.w.now.methods m d.0 d.1.0 in
    let size = c.requires.keyed.1.size in
    omega (arith, lt, size)

pub from_above-requires : goal.from_above-requires
from_above-requires c =
    have_maps c.args.w.now c.args.keyed.now (length c.args.own.now) c.args.c c.args.self.now c.as_slice-2.result.now (all_above c.in_ok-above.above) c.requires.making c.requires.ready c.requires.within c.as_slice-2.ensures.value c.in_ok-above.ensures.all

pub members_of-requires-clause-apart : goal.members_of-requires-clause-apart
members_of-requires-clause-apart c =
    let all = c.args.own.now in
    let row : slice_get all c.args.c ≡ Some c.index-own-c.result = slice_get_read all (length all) c.args.c c.index-own-c.result refl c.requires.within c.index-own-c.is in
    let own = subst (λ l. (m : ℕ) → Contains l m ↔ DeclaresMethod c.args.w.now c.args.c m) (sym c.as_slice.ensures) (c.requires.own.each c.args.c c.index-own-c.result row) in
    let grouped = subst (AreGroups c.args.keyed.now c.as_slice.result.now) (sym c.as_slice-3.ensures.value) c.in_ok-groups.ensures in
    fits c.args.w.now c.requires.keyed.0 c.args.keyed.now c.requires.keyed.1 c.args.c (length all) c.args.self.now c.requires.making c.requires.ready c.as_slice-2.result.now c.as_slice-2.ensures.value c.as_slice.result.now
    (all_above c.in_ok-above.above) c.as_slice-3.result.now own grouped c.in_ok-above.ensures.all c.from_above.new.tables c.in_ok-from_interfaces.inherited c.in_ok-from_interfaces.ensures.all

pub handed_down-requires-clause-below : goal.handed_down-requires-clause-below
handed_down-requires-clause-below c = λ i g at.
    let all = c.args.own.now in
    let row : slice_get all c.args.c ≡ Some c.index-own-c.result = slice_get_read all (length all) c.args.c c.index-own-c.result refl c.requires.within c.index-own-c.is in
    let own = subst (λ l. (m : ℕ) → Contains l m ↔ DeclaresMethod c.args.w.now c.args.c m) (sym c.as_slice.ensures) (c.requires.own.each c.args.c c.index-own-c.result row) in
    let grouped = subst (AreGroups c.args.keyed.now c.as_slice.result.now) (sym c.as_slice-3.ensures.value) c.in_ok-groups.ensures in
    let same = c.as_slice-3.ensures.value ∙ sym c.as_slice-4.ensures.value in
    keys_below c.args.w.now c.requires.keyed.0 c.args.keyed.now c.requires.keyed.1 c.args.c (length all) c.args.self.now c.requires.making c.requires.ready c.as_slice-2.result.now c.as_slice-2.ensures.value c.as_slice.result.now
    (all_above c.in_ok-above.above) c.as_slice-3.result.now own grouped c.in_ok-above.ensures.all c.from_above.new.tables c.in_ok-from_interfaces.inherited c.in_ok-from_interfaces.ensures.all c.members_of.new.tables c.in_ok-members.members c.in_ok-members.ensures i g (ap (λ l. slice_get l i) same ∙ at)

pub handed_down-requires-clause-private : goal.handed_down-requires-clause-private
handed_down-requires-clause-private c = λ k m has p.
    let all = c.args.own.now in
    let row : slice_get all c.args.c ≡ Some c.index-own-c.result = slice_get_read all (length all) c.args.c c.index-own-c.result refl c.requires.within c.index-own-c.is in
    let own = subst (λ l. (m : ℕ) → Contains l m ↔ DeclaresMethod c.args.w.now c.args.c m) (sym c.as_slice.ensures) (c.requires.own.each c.args.c c.index-own-c.result row) in
    let grouped = subst (AreGroups c.args.keyed.now c.as_slice.result.now) (sym c.as_slice-3.ensures.value) c.in_ok-groups.ensures in
    let same = c.as_slice-3.ensures.value ∙ sym c.as_slice-4.ensures.value in
    subst (λ gs. IsInGroup gs k m) same (private_own c.args.w.now c.requires.keyed.0 c.args.keyed.now c.requires.keyed.1 c.args.c (length all) c.args.self.now c.requires.making c.requires.ready c.as_slice-2.result.now c.as_slice-2.ensures.value c.as_slice.result.now
    (all_above c.in_ok-above.above) c.as_slice-3.result.now own grouped c.in_ok-above.ensures.all c.from_above.new.tables c.in_ok-from_interfaces.inherited c.in_ok-from_interfaces.ensures.all c.members_of.new.tables c.in_ok-members.members c.in_ok-members.ensures k m has p)

pub returns-clause-making : goal.returns-clause-making
returns-clause-making c =
    let all = c.args.own.now in
    let row : slice_get all c.args.c ≡ Some c.index-own-c.result = slice_get_read all (length all) c.args.c c.index-own-c.result refl c.requires.within c.index-own-c.is in
    let own = subst (λ l. (m : ℕ) → Contains l m ↔ DeclaresMethod c.args.w.now c.args.c m) (sym c.as_slice.ensures) (c.requires.own.each c.args.c c.index-own-c.result row) in
    let grouped = subst (AreGroups c.args.keyed.now c.as_slice.result.now) (sym c.as_slice-3.ensures.value) c.in_ok-groups.ensures in
    let above = c.in_ok-above.above in
    let choice = among_others c.args.w.now c.requires.sound c.args.c above.interfaces.items above.others.items c.as_slice-5.result.now c.inheritable.result c.in_ok-handed.handed c.in_ok-from_interfaces.inherited c.as_slice-5.ensures.value c.in_ok-above.ensures.interfaces c.inheritable.ensures in
    step_making c.args.w.now c.requires.keyed.0 c.args.keyed.now c.requires.keyed.1 c.args.c (length all) c.args.self.now c.requires.making c.requires.ready c.as_slice-2.result.now c.as_slice-2.ensures.value c.as_slice.result.now
    (all_above c.in_ok-above.above) c.as_slice-3.result.now own grouped c.in_ok-above.ensures.all c.from_above.new.tables c.in_ok-from_interfaces.inherited c.in_ok-from_interfaces.ensures.all c.members_of.new.tables c.in_ok-members.members c.in_ok-members.ensures
    above.interfaces.items c.in_ok-above.ensures.interfaces c.in_ok-from_interfaces.from_interfaces c.in_ok-from_interfaces.ensures.interfaces _ _ c.in_ok-handed.handed c.in_ok-handed.ensures c.requires.within c.requires.sound choice refl refl refl refl

pub returns-clause-done : goal.returns-clause-done
returns-clause-done c =
    let all = c.args.own.now in
    let row : slice_get all c.args.c ≡ Some c.index-own-c.result = slice_get_read all (length all) c.args.c c.index-own-c.result refl c.requires.within c.index-own-c.is in
    let own = subst (λ l. (m : ℕ) → Contains l m ↔ DeclaresMethod c.args.w.now c.args.c m) (sym c.as_slice.ensures) (c.requires.own.each c.args.c c.index-own-c.result row) in
    let grouped = subst (AreGroups c.args.keyed.now c.as_slice.result.now) (sym c.as_slice-3.ensures.value) c.in_ok-groups.ensures in
    let above = c.in_ok-above.above in
    let choice = among_others c.args.w.now c.requires.sound c.args.c above.interfaces.items above.others.items c.as_slice-5.result.now c.inheritable.result c.in_ok-handed.handed c.in_ok-from_interfaces.inherited c.as_slice-5.ensures.value c.in_ok-above.ensures.interfaces c.inheritable.ensures in
    step_done c.args.w.now c.requires.keyed.0 c.args.keyed.now c.requires.keyed.1 c.args.c (length all) c.args.self.now c.requires.making c.requires.ready c.as_slice-2.result.now c.as_slice-2.ensures.value c.as_slice.result.now
    (all_above c.in_ok-above.above) c.as_slice-3.result.now own grouped c.in_ok-above.ensures.all c.from_above.new.tables c.in_ok-from_interfaces.inherited c.in_ok-from_interfaces.ensures.all c.members_of.new.tables c.in_ok-members.members c.in_ok-members.ensures
    above.interfaces.items c.in_ok-above.ensures.interfaces c.in_ok-from_interfaces.from_interfaces c.in_ok-from_interfaces.ensures.interfaces _ _ c.in_ok-handed.handed c.in_ok-handed.ensures c.requires.within c.requires.sound choice refl refl refl refl

pub returns-clause-kept : goal.returns-clause-kept
returns-clause-kept c =
    let all = c.args.own.now in
    let row : slice_get all c.args.c ≡ Some c.index-own-c.result = slice_get_read all (length all) c.args.c c.index-own-c.result refl c.requires.within c.index-own-c.is in
    let own = subst (λ l. (m : ℕ) → Contains l m ↔ DeclaresMethod c.args.w.now c.args.c m) (sym c.as_slice.ensures) (c.requires.own.each c.args.c c.index-own-c.result row) in
    let grouped = subst (AreGroups c.args.keyed.now c.as_slice.result.now) (sym c.as_slice-3.ensures.value) c.in_ok-groups.ensures in
    let above = c.in_ok-above.above in
    let choice = among_others c.args.w.now c.requires.sound c.args.c above.interfaces.items above.others.items c.as_slice-5.result.now c.inheritable.result c.in_ok-handed.handed c.in_ok-from_interfaces.inherited c.as_slice-5.ensures.value c.in_ok-above.ensures.interfaces c.inheritable.ensures in
    step_kept c.args.w.now c.requires.keyed.0 c.args.keyed.now c.requires.keyed.1 c.args.c (length all) c.args.self.now c.requires.making c.requires.ready c.as_slice-2.result.now c.as_slice-2.ensures.value c.as_slice.result.now
    (all_above c.in_ok-above.above) c.as_slice-3.result.now own grouped c.in_ok-above.ensures.all c.from_above.new.tables c.in_ok-from_interfaces.inherited c.in_ok-from_interfaces.ensures.all c.members_of.new.tables c.in_ok-members.members c.in_ok-members.ensures
    above.interfaces.items c.in_ok-above.ensures.interfaces c.in_ok-from_interfaces.from_interfaces c.in_ok-from_interfaces.ensures.interfaces _ _ c.in_ok-handed.handed c.in_ok-handed.ensures c.requires.within c.requires.sound choice refl refl refl refl
