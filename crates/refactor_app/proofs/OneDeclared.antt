-- The files of a program declare one program, whose declarations break one rule or none.
use Rattle.std.proofs.Common.{◌≡◌, ℕ, ◌⊎◌, inl, inr, List, take, drop, Some, refl, sym, ◌∙◌, ap, subst, arith}
use Rattle.java_tree.specs.Names.{IsTable}
use Rattle.java_tree.specs.Plain.{SourceUnit}
use Rattle.java_tree.specs.declared.fault.Broken.{Broken}
use Rattle.java_tree.specs.declared.fault.Family.{Family}
use Rattle.java_tree.specs.declared.fault.Family.TheVariants as family
use Rattle.rule_order.specs.declared.Breach.{Breach}
use Rattle.rule_order.specs.First.{Breaches, IsBefore, IsNone, IsFirstOf}
use Rattle.built_in_types.specs.BuiltIns.{with_words}
use Rattle.class_world.specs.declared.world.World.{World}
use Rattle.decl_table.specs.Program.{Program, IsRefusal, IsProgramWorld}
use Rattle.decl_table.proofs.Once as once
use Rattle.checked_files.proofs.Tables.{words_table}
use Rattle.member_table.specs.Table.{MemberBreaches}
use Rattle.checked_files.specs.Declarations.{IsOfFiles, AreDeclared, IsMemberRefusal, IsBroken}
use Rattle.member_table.proofs.SameMembers.{AreAlike, broken_alike}

-- ---- the first rule on members

both_before : (a b : Breach) → IsBefore a b → IsBefore b a → (a.node ≡ b.node) × (a.rule ≡ b.rule)
both_before a b (inl x) (inl y) = absurd (omega (arith, x, y))
both_before a b (inl x) (inr y) = absurd (omega (arith, x, y.0))
both_before a b (inr x) (inl y) = absurd (omega (arith, x.0, y))
both_before a b (inr x) (inr y) = (x.0, omega (arith, x.1, y.1))

same_broken : (b d : Broken) → b.family ≡ d.family → b.number ≡ d.number → b.node ≡ d.node → b ≡ d
same_broken b d family number node = rw (family, number, node) refl

-- of two sets that have the same
same_first : (f : Family) (S T : Breaches) (b d : Broken) → ((x : Breach) → S x → T x) → ((x : Breach) → T x → S x) → IsFirstOf f S b → IsFirstOf f T d → b ≡ d
same_first f S T b d there back x y =
    let a : Breach = record { node = x.1.0; rule = b.number } in
    let c : Breach = record { node = y.1.0; rule = d.number } in
    let first = x.1.2 in
    let other = y.1.2 in
    let same = both_before a c (first.1 c (back c other.0)) (other.1 a (there a first.0)) in
    same_broken b d (x.0 ∙ sym y.0) same.1 (x.1.1 ∙ ap (λ (n : ℕ). Some n) same.0 ∙ sym y.1.1)

alike : (names : List (List ℕ)) (p : Program) (w v : World) → IsProgramWorld names p w → IsProgramWorld names p v → AreAlike w v
alike names p w v a b = record { types = a.same.0 ∙ sym b.same.0; methods = a.same.1 ∙ sym b.same.1 }

module _ (names : List (List ℕ)) (p : Program) where
  one_member_rule : (b d : Broken) → IsMemberRefusal names p b → IsMemberRefusal names p d → b ≡ d
  one_member_rule b d (w, is, first) (v, so, other) =
      same_first family.DR (MemberBreaches w) (MemberBreaches v) b d (broken_alike w v (alike names p w v is so)) (broken_alike v w (alike names p v w so is)) first other

  member_rule_or_none : (b : Broken) (v : World) → IsMemberRefusal names p b → IsProgramWorld names p v → IsNone (MemberBreaches v) → ⊥
  member_rule_or_none b v (w, is, first) so none =
      let breach : Breach = record { node = first.1.0; rule = b.number } in
      none breach (broken_alike w v (alike names p w v is so) breach first.1.2.0)

  one_refusal : (b d : Broken) → IsRefusal names p b ⊎ IsMemberRefusal names p b → IsRefusal names p d ⊎ IsMemberRefusal names p d → b ≡ d
  one_refusal b d (inl x) (inl y) = once.one_refusal names p b d x y
  one_refusal b d (inl x) (inr (w, is, first)) = absurd (once.refused_or_declared names p b w x is)
  one_refusal b d (inr (w, is, first)) (inl y) = absurd (once.refused_or_declared names p d w y is)
  one_refusal b d (inr x) (inr y) = one_member_rule b d x y

  refused_or_declared : (b : Broken) (w : World) → IsRefusal names p b ⊎ IsMemberRefusal names p b → IsProgramWorld names p w → IsNone (MemberBreaches w) → ⊥
  refused_or_declared b w (inl x) is none = once.refused_or_declared names p b w x is
  refused_or_declared b w (inr x) is none = member_rule_or_none b w x is none

-- ---- one rule of a program's files

module _ (users : ℕ) (names : List (List ℕ)) (units : List SourceUnit) (table : IsTable names) where
  one_program : (p r : Program) → IsOfFiles users names units p → IsOfFiles users names units r → p ≡ r
  one_program p r a b = once.one_program (with_words names) (take users units) (drop users units) p r (words_table names table).distinct a b

  pub one_rule : (b d : Broken) → IsBroken users names units b → IsBroken users names units d → b ≡ d
  one_rule b d x y =
      let same = one_program y.program x.program y.files x.files in
      one_refusal (with_words names) x.program b d x.refusal
      (subst (λ (p : Program). IsRefusal (with_words names) p d ⊎ IsMemberRefusal (with_words names) p d) same y.refusal)

  pub broken_or_declared : (b : Broken) → IsBroken users names units b → AreDeclared users names units → ⊥
  broken_or_declared b x y =
      let same = one_program y.program x.program y.files x.files in
      refused_or_declared (with_words names) x.program b y.world x.refusal (subst (λ (p : Program). IsProgramWorld (with_words names) p y.world) same y.holds) y.members
