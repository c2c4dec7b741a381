use Rattle.std.proofs.Common.{◌≡◌, ℕ, ◌<◌, Some}
use Rattle.std.specs.Prelude.{slice_get}
use Rattle.class_world.specs.Overriding.{OverridesAtOnce}
use Rattle.overrides.specs.Links.{AreLinks, HasLink}
use Rattle.overrides.proofs.links.all_links.Given as goal

abbrev pub invariant-loop-m : goal.invariant-loop-m
invariant-loop-m l = record {
  links : AreLinks l.w l.links.items;
  all : (j m : ℕ) → j < l.m-index → slice_get l.order j ≡ Some m → (t : ℕ) → OverridesAtOnce l.w m t → HasLink l.links.items m t;
}
