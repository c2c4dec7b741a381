-- A method's family and its group are one list each.
use Rattle.std.proofs.Common.{◌≡◌, true, false, ℕ, ◌<◌, List, [], length, sym, ◌∙◌}
use Rattle.class_world.specs.declared.world.World.{World}
use Rattle.type_facts.proofs.Orders.{same_ascending}
use Rattle.type_constraints.specs.Asked.{Lists, ListsFor}

pub same_list : (w : World) (m : ℕ) (P : ℕ → Type 0) (ks js : List ℕ) → m < length w.methods → Lists P ks → ListsFor w m P js → ks ≡ js
same_list w m P ks js known h are =
    let k = are.0 known in
    same_ascending ks js h.1 k.1 (λ j. (λ i. (k.0 j).1 ((h.0 j).0 i), λ i. (h.0 j).1 ((k.0 j).0 i)))

pub no_list : (w : World) (m : ℕ) (P : ℕ → Type 0) (ks js : List ℕ) → (m < length w.methods → ⊥) → ks ≡ [] → ListsFor w m P js → ks ≡ js
no_list w m P ks js unknown none are = none ∙ sym (are.1 unknown)

pub true_is_not_false : true ≡ false → ⊥
true_is_not_false e = cc e
