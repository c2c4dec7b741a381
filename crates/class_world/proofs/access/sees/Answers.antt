use Rattle.std.proofs.Common.{rules, ◌≡◌, ◌↔◌, IsTrue, Some, slice_get, List, ℕ, Bool, Option, Bor, sym, subst}
use Rattle.std.specs.Option.{option_map}
use Rattle.class_world.specs.declared.world.JavaType.{JavaType}
use Rattle.java_tree.specs.declared.tree.Mod.{Mod}
use Rattle.class_world.specs.declared.world.World.{World}
use Rattle.class_world.specs.declared.world.FieldInfo.{FieldInfo}
use Rattle.class_world.specs.declared.access.Declared.TheVariants as declared
use Rattle.class_world.specs.Access.{IsAccessibleFrom, Sees}
use Rattle.class_world.proofs.access.sees.Goals as goal

field_told : (w : World) (c f : ℕ) (info : FieldInfo) (ms : List Mod) (r : Bool) (through : Option JavaType) → slice_get w.fields f ≡ Some info → ms ≡ info.mods → IsTrue r ↔ IsAccessibleFrom w c info.owner ms
    → IsTrue r ↔ Sees w c (declared.Field f) through
field_told w c f info ms r through at e told = (
  λ h. (info, at, subst (IsAccessibleFrom w c info.owner) e (told.0 h)),
  λ h.
      let i : h.0 ≡ info = cc (h.1, at) in
      told.1 (subst (IsAccessibleFrom w c info.owner) (sym e) (subst (λ (x : FieldInfo). IsAccessibleFrom w c x.owner x.mods) i h.2)),
)

pub returns-in-Some-get : goal.returns-in-Some-get
returns-in-Some-get c =
    subst (λ m. IsTrue c.is_accessible-in-Some-get.result ↔ Sees c.args.w.now c.args.class m (option_map (λ (t : Bor JavaType). t.now) c.args.through)) (sym c.in-Field.is)
    (field_told c.args.w.now c.args.class c.in-Field.f c.in-Some-get.info.now c.as_slice-in-Some-get.result.now c.is_accessible-in-Some-get.result (option_map (λ (t : Bor JavaType). t.now) c.args.through) (search rules) c.as_slice-in-Some-get.ensures
    c.is_accessible-in-Some-get.ensures)
