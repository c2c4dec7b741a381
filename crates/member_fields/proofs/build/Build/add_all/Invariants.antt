use Rattle.std.proofs.Common.{◌≡◌, ℕ, ◌<◌, Some, length}
use Rattle.std.specs.Prelude.{slice_get}
use Rattle.member_fields.specs.Built.{IsDone, IsSized}
use Rattle.member_fields.proofs.build.Build.add_all.Given as goal

abbrev pub invariant-loop-c : goal.invariant-loop-c
invariant-loop-c l = record {
  sized : (names : ℕ) → IsSized l.fn.self names (length l.own) → IsSized l.self names (length l.own);
  top : 0 < length l.own → IsDone l.w l.self 0;
  done : (j d : ℕ) → j < l.c-index → slice_get l.order j ≡ Some d → IsDone l.w l.self d;
}

abbrev pub invariant-loop-extra : goal.invariant-loop-extra
invariant-loop-extra l = record {
  sized : (names : ℕ) → IsSized l.fn.self names (length l.own) → IsSized l.self names (length l.own);
  done : (d : ℕ) → d < l.extra → IsDone l.w l.self d;
}
