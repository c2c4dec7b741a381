use Rattle.std.proofs.Common.{◌≡◌, ℕ, ◌<◌, Some}
use Rattle.std.specs.Prelude.{slice_get}
use Rattle.overrides.specs.declared.at_once.TheConstants.{APART}
use Rattle.overrides.specs.Links.{AreLinks, HasLink}
use Rattle.overrides.proofs.links.add_links.Given as goal

abbrev pub invariant-loop-tie : goal.invariant-loop-tie
invariant-loop-tie l = record {
  links : AreLinks l.w l.links.items;
  kept : (a t : ℕ) → HasLink l.fn.links.items a t → HasLink l.links.items a t;
  all : (j : ℕ) (p : ℕ × ℕ) → j < l.tie-index → slice_get l.tie-items j ≡ Some p → (p.1 ≡ APART → ⊥) → HasLink l.links.items l.m p.0;
}
