use Rattle.std.proofs.Common.{rules, ◌≡◌, ◌↔◌, IsTrue, Some, slice_get, List, ℕ, Bool, sym, ap, ◌∙◌}
use Rattle.std.specs.Prelude.{Decides, nat_eq}
use Rattle.std.specs.Cmp.Lexicographic.{pointwise}
use Rattle.std.proofs.lemmas.Bool.Decides.{Decides-eqb}
use Rattle.std.proofs.lemmas.Slice.Eq.{slice_eq-Decides}
use Rattle.java_tree.specs.declared.tree.Name.{Name}
use Rattle.class_world.specs.declared.world.World.{World}
use Rattle.class_world.specs.declared.world.TypeInfo.{TypeInfo}
use Rattle.class_world.specs.Access.{AreOfOnePackage}
use Rattle.class_world.proofs.access.are_of_one_package.Goals as goal

names_decide : (x y : Name) → Decides (nat_eq x.0 y.0) (x ≡ y)
names_decide x y = (λ e. ap (λ n. (λ (r : Name). r) (record { 0 = n })) ((Decides-eqb x.0 y.0).0 e), λ e. (Decides-eqb x.0 y.0).1 (ap (λ (n : Name). n.0) e))

told : (w : World) (c d : ℕ) (a b : TypeInfo) (xs ys : List Name) (r : Bool) → slice_get w.types c ≡ Some a → slice_get w.types d ≡ Some b → xs ≡ a.package → ys ≡ b.package
    → r ≡ pointwise (λ x y. nat_eq x.0 y.0) xs ys → IsTrue r ↔ AreOfOnePackage w c d
told w c d a b xs ys r at there p q e = (
  λ h. (a, b, at, there, sym p ∙ (slice_eq-Decides names_decide xs ys r e).0 h ∙ q),
  λ h.
      let i : h.0 ≡ a = cc (h.2, at) in
      let j : h.1 ≡ b = cc (h.3, there) in
      (slice_eq-Decides names_decide xs ys r e).1 (p ∙ sym (ap (λ (x : TypeInfo). x.package) i) ∙ h.4 ∙ ap (λ (x : TypeInfo). x.package) j ∙ sym q),
)

pub returns : goal.returns
returns c = told c.args.w.now c.args.c c.args.d c.in-Some.a.now c.in-Some-get.b.now _ _ _ (search rules) (search rules) c.as_slice.ensures c.as_slice-2.ensures c.eq.ensures
