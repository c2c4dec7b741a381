use Rattle.std.proofs.Common.{refl, subst, sym}
use Rattle.std.specs.Vec.{with_item}
use Rattle.shared_maps.proofs.Kept.{keeps_both}
use Rattle.member_fields.specs.declared.build.Build.{Build}
use Rattle.member_fields.specs.Built.{Grows, IsDone}
use Rattle.member_fields.specs.Sums.{HandsDown, HasMap}
use Rattle.member_fields.proofs.Adding.{added, hands_sums, left_sums, member_sums}
use Rattle.member_fields.proofs.Steps.{sums_kept}
use Rattle.member_fields.proofs.build.Build.add.Goals as goal

pub inherited-requires-clause-above : goal.inherited-requires-clause-above
inherited-requires-clause-above c = λ s above. subst (λ xs. HasMap c.args.self.now.maps xs (HandsDown c.args.w.now s) s) (sym c.as_slice.ensures.value) (c.requires.above s above)

new_build : goal.After-self-2-1 → Build
new_build c = record {
  maps = c.with_fields-2.new.maps;
  members = with_item c.args.self.now.members c.args.c c.in_ok-members.members;
  handed = with_item c.args.self.now.handed c.args.c c.in_ok-handed.handed;
}

both : (c : goal.After-self-2-1) → Grows c.args.w.now c.args.self.now (new_build c) × IsDone c.args.w.now (new_build c) c.args.c
unfolding new_build
both c =
    let w = c.args.w.now in
    let own = c.args.own.now in
    let left = left_sums w c.requires.sound c.args.c own c.requires.own c.in_ok-left.ensures c.in_ok-from_above.ensures.inherits in
    let members = member_sums w c.requires.sound c.args.c own c.requires.own c.in_ok-members.ensures left in
    let handed = hands_sums w c.requires.sound c.args.c own c.requires.own c.in_ok-handed.ensures (sums_kept c.in_ok-members.ensures.kept left) in
    added w c.args.self.now (new_build c) c.args.c c.in_ok-members.members c.in_ok-handed.handed
    (keeps_both c.in_ok-from_above.ensures.kept (keeps_both c.in_ok-left.ensures.kept (keeps_both c.in_ok-members.ensures.kept c.in_ok-handed.ensures.kept))) refl refl c.requires.members c.requires.handed
    (sums_kept c.in_ok-handed.ensures.kept members) handed

pub returns-clause-grows : goal.returns-clause-grows
unfolding new_build
returns-clause-grows c = (both c).0

pub returns-clause-done : goal.returns-clause-done
unfolding new_build
returns-clause-done c = (both c).1
