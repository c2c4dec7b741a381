use Rattle.member_methods.specs.Signed.{IsOwnType}
use Rattle.member_methods.specs.Tables.{IsMapOf}
use Rattle.member_methods.specs.Made.{Lists, IsWithFirst}
use Rattle.member_methods.proofs.made.members_of.Given as goal

abbrev pub invariant-loop-group : goal.invariant-loop-group
invariant-loop-group l = record {
  own : IsOwnType l.fn.w l.fn.c l.own;
  made : IsMapOf l.fn.tables l.tables l.map (IsWithFirst l.fn.w l.fn.c l.fn.groups l.group-index (Lists l.fn.tables l.fn.inherited));
}
