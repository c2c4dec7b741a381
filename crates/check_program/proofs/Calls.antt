-- Calls by this(..) that lead back.
use Rattle.std.proofs.Common.{◌≡◌, ℕ, zero, suc, ◌+◌, ◌-◌, ◌<◌, Bool, true, false, List, Option, Some, None, sym, ap, ◌∙◌, refl, arith}
use Rattle.std.proofs.lemmas.Bool.Decides.{nat_tests}
use Rattle.std.specs.Prelude.{nat_eq, if◌then◌else◌}
use Rattle.check_program.specs.declared.circles.Link.{Link}
use Rattle.check_program.specs.Classes.{linked, leads}

none_leads : (ls : List Link) (n k : ℕ) → leads ls n k None ≡ false
none_leads ls zero k = refl
none_leads ls (suc n) k = refl

abbrev next_call : List Link → ℕ → ℕ → ℕ → Bool → Bool
next_call ls n k at b = if b then true else leads ls n k (linked ls at)

equal : (n k : ℕ) → n ≡ k → nat_eq n k ≡ true
equal n k is = grind (arith, nat_tests, is)

unequal : (n k : ℕ) → (n ≡ k → ⊥) → nat_eq n k ≡ false
unequal n k is = grind (arith, nat_tests, is)

-- `c` calls were followed
pub leads_ended : (ls : List Link) (c calls k : ℕ) (x : Option ℕ) (all : Bool) → c < calls → x ≡ None → ((left : ℕ) → c + left ≡ calls → leads ls left k x ≡ all) → false ≡ all
leads_ended ls c calls k x all low is so_far = sym (none_leads ls (calls - c) k) ∙ sym (ap (leads ls (calls - c) k) is) ∙ so_far (calls - c) (omega (arith, low))

pub leads_met : (ls : List Link) (c calls k at : ℕ) (x : Option ℕ) (all : Bool) → c < calls → x ≡ Some at → at ≡ k → ((left : ℕ) → c + left ≡ calls → leads ls left k x ≡ all) → true ≡ all
leads_met ls c calls k at x all low is met so_far =
    sym (ap (next_call ls (calls - (c + 1)) k at) (equal at k met)) ∙ sym (ap (leads ls (suc (calls - (c + 1))) k) is) ∙ so_far (suc (calls - (c + 1))) (omega (arith, low))

pub leads_step : (ls : List Link) (c calls k at : ℕ) (x next : Option ℕ) (all : Bool) → x ≡ Some at → (at ≡ k → ⊥) → next ≡ linked ls at → ((left : ℕ) → c + left ≡ calls → leads ls left k x ≡ all)
    → (left : ℕ) → c + 1 + left ≡ calls → leads ls left k next ≡ all
leads_step ls c calls k at x next all is other to so_far left counted =
    ap (leads ls left k) to ∙ sym (ap (next_call ls left k at) (unequal at k other)) ∙ sym (ap (leads ls (suc left) k) is) ∙ so_far (suc left) (omega (arith, counted))

pub leads_done : (ls : List Link) (c calls k : ℕ) (x : Option ℕ) (all : Bool) → c ≡ calls → ((left : ℕ) → c + left ≡ calls → leads ls left k x ≡ all) → false ≡ all
leads_done ls c calls k x all is so_far = so_far 0 (omega (arith, is))
