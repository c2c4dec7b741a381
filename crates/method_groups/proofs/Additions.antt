-- What rows add to the overloads that their rests stand for.
use Rattle.std.proofs.Common.{◌≡◌, ℕ, List, Option, Some, None, ◌⊎◌, inl, inr, ◌↔◌, IfSome, sym, ap, ◌∙◌, subst}
use Rattle.std.specs.Prelude.{slice_get}
use Rattle.std.specs.List.{Contains}
use Rattle.class_world.specs.declared.world.World.{World}
use Rattle.method_groups.specs.declared.differences.Difference.{Difference}
use Rattle.method_groups.specs.declared.labels.Row.{Row}
use Rattle.method_groups.specs.declared.overloads.Overloads.{Overloads}
use Rattle.method_groups.specs.Beside.{AreBeside}
use Rattle.method_groups.specs.Groups.{KeepsLists}
use Rattle.method_groups.specs.Labels.{Adds, AreAdditions, IsAddition, IsDifference, KeepsRows, StandsFor}
use Rattle.method_groups.proofs.Firsts.{some_told}
use Rattle.method_groups.proofs.Rows.{Labelled, stands_kept}

pub additions_none : (w : World) (rows : List Row) (lists : List (List ℕ)) → ((n : ℕ) (row : Row) → slice_get rows n ≡ Some row → row.added ≡ None) → AreAdditions w rows lists
additions_none w rows lists none = record { each = λ n p row at is. let never : None ≡ Some p = sym (none n row at) ∙ is in absurd (cc never) }

pub additions_kept : (w : World) (rows : List Row) (old new : List (List ℕ)) → KeepsLists old new → AreAdditions w rows old → AreAdditions w rows new
additions_kept w rows old new kept h = record { each = λ n p row at is. let a = h.each n p row at is in (a.0, kept p a.0 a.1, a.2) }

addition_kept : (w : World) (old new : List Row) (r : ℕ) (x : Overloads) (list : List ℕ) → KeepsRows old new → IsAddition w old r x list → IsAddition w new r x list
addition_kept w old new r x list kept h = record {
  only = h.only;
  all = λ k its. elim (h.all k its) [ inl has ↦ inl has | inr more ↦ inr (more.0, stands_kept old new r more.0 kept more.1, more.2) ];
}

-- a difference is enough where the rest stands for the overloads that it is from
difference_adds : (w : World) (rows : List Row) (r : ℕ) (x : Overloads) (lists : List (List ℕ)) (methods : List ℕ) (d : Difference) → ((k : ℕ) → Contains methods k ↔ AreBeside w x.member_of x.method k)
    → (h : IsDifference w lists methods d) → StandsFor rows r d.before → IsAddition w rows r x h.list
difference_adds w rows r x lists methods d listed h stands = record {
  only = λ k has. (listed k).0 (h.only k has).0;
  all = λ k its. elim (h.all k ((listed k).1 its)) [ inl has ↦ inl has | inr among ↦ inr (d.before, stands, among) ];
}

-- one more row
pub additions_next : (w : World) (old new : List Row) (lists : List (List ℕ)) (x : Overloads) (fewer : Option Difference) (methods : List ℕ) → KeepsRows old new
    → ((n : ℕ) (row : Row) → slice_get new n ≡ Some row → (slice_get old n ≡ Some row) ⊎ Adds old x fewer row) → ((k : ℕ) → Contains methods k ↔ AreBeside w x.member_of x.method k)
    → IfSome fewer (IsDifference w lists methods) → AreAdditions w old lists → AreAdditions w new lists
additions_next w old new lists x fewer methods kept only listed made h = record {
  each = λ n p row at is. elim (only n row at) [
    | inl was ↦ let a = h.each n p row was is in (a.0, a.1, addition_kept w old new row.rest row.last a.0 kept a.2)
    | inr new_row ↦
        let a = new_row.added p is in
        let d = some_told fewer (IsDifference w lists methods) a.0 made a.1 in
        let adds = difference_adds w new row.rest x lists methods a.0 listed d (stands_kept old new row.rest a.0.before kept a.3) in
        (d.list, ap (slice_get lists) (sym a.2) ∙ d.at, subst (λ y. IsAddition w new row.rest y d.list) (sym new_row.last) adds)
  ];
}

-- the row that is made for a method
pub adds_new : (rows : List Row) (labels : List ℕ) (m rest : ℕ) (x : Overloads) (fewer : Option Difference) (added : Option ℕ) (row : Row) → slice_get labels m ≡ Some rest
    → row ≡ record { rest = rest; last = x; added = added }
    → IfSome added (λ p. (d : Difference) × (fewer ≡ Some d) × (d.place ≡ p) × Labelled labels rows m d.before) → Adds rows x fewer row
adds_new rows labels m rest x fewer added row at is told = record {
  last = ap (λ (r : Row). r.last) is;
  added = λ p has.
      let its = some_told added _ p told (sym (ap (λ (r : Row). r.added) is) ∙ has) in
      let both : Some its.3.0 ≡ Some rest = sym its.3.1 ∙ at in
      let same : its.3.0 ≡ rest = cc both in
      (its.0, its.1, its.2, subst (λ n. StandsFor rows n its.0.before) (same ∙ sym (ap (λ (r : Row). r.rest) is)) its.3.2);
}
