-- How `Items` of a type is made from that type, so that a type may contain `Items` of itself. The toolchain asks for each `the_` word below by name.
use mathlib.Core.Path.{◌≡◌, refl, sym}
use mathlib.Core.List.{List, []}
use mathlib.Core.Former.{Former, this, list, via, children}
use base.Stored.{code_map}
use denote.RattleType.{RattleType}
use denote.HoleLaws.{Alike}
use denote.HolePlaces.{Recodes, struct_places, laid}
use denote.Hole.Carrier.{listed, list-listed}
use denote.Hole.Fix.{over}
use denote.Param.Weighed.{Weighed, w_list}
use denote.Model.Placed.{view_places}
use Rattle.std.specs.formers.vec.Vec as vec
use Rattle.std.specs.declared.alloc.Global.{Global}
use Rattle.std.specs.contracts.alloc.Global as global
use Rattle.std.specs.contracts.impls.GlobalAllocator.TheImpl.{ghosts}
use Rattle.java_tree.specs.declared.items.Items.TheInside.{Inside}
use Rattle.java_tree.specs.declared.items.Items.TheView.{view, invariant}
use Rattle.java_tree.specs.contracts.items.Items as whole
use Rattle.java_tree.specs.contracts.items.Items.TheInside as struct

-- contracts see a list, and nothing is in the empty one
abbrev pub the_former : Former {0} → Former {0}
the_former element = list element

abbrev pub the_weighed : {element : Former {0}} → Weighed element → Weighed (the_former element)
the_weighed weight = w_list weight

abbrev pub the_empty : List ⊥
the_empty = []

-- the elements of a value are the list itself
abbrev pub the_items : (X : Type 0) → List X → List X
the_items X xs = xs

pub the_items_listed : (X : Type 0) (xs : List X) → listed _ (children (the_former this) X xs) ≡ the_items X xs
the_items_listed X xs = list-listed X xs

-- the struct behind the view has one field, a `Vec`
abbrev vector : Former {0}
vector = via (vec.the_former this Global) Inside (λ X it. it.items) (λ X v. record { items = v }) (λ X it. refl) (λ X v. refl)

-- a map of the element types keeps where the parts of a value lie, and their codes
module _ (From To : RattleType) (turn : From.Denot → To.Denot) where
  pub the_places : Alike From To turn → Alike (whole.the_row From) (whole.the_row To) ((the_former this).map From.Denot To.Denot turn)
  the_places alike =
      view_places vector (list this) view (λ X Y k it. refl) (λ X it. refl) From.Denot To.Denot turn (whole.the_row From).coded (whole.the_row To).coded
      (invariant From.Denot) (invariant To.Denot) (λ it p q. refl) (λ it p q. refl) (λ it e. tt) (λ it e. tt)
      (over (struct.the_row From)) (over (struct.the_row To))
      (struct_places (struct.the_type From) (struct.the_type To) (vec.mapped turn, tt) _ (λ xs. refl) refl
      (laid _ _ _ (vec.the_places global.the_row ghosts From To turn alike), tt))

  pub the_codes_placed : Recodes From To turn → Recodes (whole.the_row From) (whole.the_row To) ((the_former this).map From.Denot To.Denot turn)
  the_codes_placed recodes xs = sym (code_map From.coded.code To.coded.code turn (λ x. sym (recodes x)) xs)
