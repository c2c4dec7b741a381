use Rattle.std.proofs.Common.{◌∙◌, inl, inr, sym, subst, arith}
use Rattle.std.specs.List.{Contains}
use Rattle.overrides.proofs.Places.{low_or_last}
use Rattle.overrides.proofs.order.in_order.Goals as goal

pub loop-m-preserved : goal.loop-m-preserved
loop-m-preserved c =
    let h = c.loop-m.invariant in
    let put = c.in_ok-put.ensures in
    record {
      there = put.there;
      size = put.size ∙ h.size;
      all = λ k lt. elim (low_or_last k c.loop-m.m lt) [
        | inl low ↦ put.kept k (h.all k low)
        | inr last ↦ subst (Contains _) (sym last) (put.put (omega (arith, c.loop-m-test.true, h.size)))
      ];
    }
