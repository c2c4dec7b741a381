-- How `Boxed` of a type is made from that type, so that a type may contain `Boxed` of itself. The toolchain asks for each `the_` word below by name.
use mathlib.Core.Path.{refl}
use mathlib.Core.Former.{Former, this, const, pair, via}
use base.Stored.{gnil}
use base.Fml.{ftrue}
use denote.RattleType.{RattleType}
use denote.Memory.{part_of}
use denote.RawPtr.{Ptr}
use denote.Sharing.{nothing}
use denote.HoleLaws.{Alike}
use denote.HolePlaces.{Recodes, struct_places, laid, one_value}
use denote.Hole.Fix.{over}
use denote.Param.Weighed.{Weighed}
use denote.Model.Placed.{view_places}
use Rattle.std.specs.declared.boxed.Box.{Box}
use Rattle.std.specs.contracts.boxed.Box as std_box
use Rattle.std.specs.declared.alloc.Global.{Global}
use Rattle.std.specs.contracts.alloc.Global as global
use Rattle.std.specs.contracts.impls.GlobalAllocator.TheImpl.{ghosts}
use Rattle.java_tree.specs.declared.boxed.Boxed.TheInside.{Inside}
use Rattle.java_tree.specs.declared.boxed.Boxed.TheView.{view, invariant}
use Rattle.java_tree.specs.contracts.boxed.Boxed as whole
use Rattle.java_tree.specs.contracts.boxed.Boxed.TheInside as struct

-- contracts see the value alone
abbrev pub the_former : Former {0} → Former {0}
the_former held = held

abbrev pub the_weighed : {held : Former {0}} → Weighed held → Weighed (the_former held)
the_weighed weight = weight

-- the struct behind the view has one field, a `Box`: its pointer and allocator, and the value
abbrev pointer_and_value : Former {0}
pointer_and_value = via (pair (const (Ptr × Global)) this) Inside (λ X b. ((b.inner.ptr, b.inner.alloc), b.inner.value))
    (λ X p. record { inner = record { ptr = p.0.0; alloc = p.0.1; value = p.1 } }) (λ X b. refl) (λ X p. refl)

-- the same box, of another value
abbrev holding : {X Y : Type 0} → Box X Global → Y → Box Y Global
holding b y = record { ptr = b.ptr; alloc = b.alloc; value = y }

abbrev box_row : RattleType → RattleType
box_row T = std_box.the_row T global.the_row ghosts

-- a map of the held types keeps where the parts of a value lie, and their codes
module _ (From To : RattleType) (turn : From.Denot → To.Denot) where
  places_of_box : Alike From To turn → Alike (box_row From) (box_row To) (λ b. holding b (turn b.value))
  unfolding part_of
  places_of_box alike = record {
    mir_same = λ i. (box_row (one_value From (alike.mir_same i) (λ _. ftrue) (λ _ _. nothing) gnil)).mir;
    own_same = λ b i. (box_row (one_value From (alike.mir_same i) (alike.own_same b.value i) (alike.shr_same b.value i) gnil)).own_val (holding b tt);
    shr_same = λ b i. (box_row (one_value From (alike.mir_same i) (alike.own_same b.value i) (alike.shr_same b.value i) gnil)).shr_at (holding b tt);
  }

  pub the_places : Alike From To turn → Alike (whole.the_row From) (whole.the_row To) ((the_former this).map From.Denot To.Denot turn)
  the_places alike =
      view_places pointer_and_value this view (λ X Y k b. refl) (λ X b. refl) From.Denot To.Denot turn (whole.the_row From).coded (whole.the_row To).coded
      (invariant From.Denot) (invariant To.Denot) (λ b p q. refl) (λ b p q. refl) (λ b e. tt) (λ b e. tt)
      (over (struct.the_row From)) (over (struct.the_row To))
      (struct_places (struct.the_type From) (struct.the_type To) ((λ b. holding b (turn b.value)), tt) _ (λ x. refl) refl
      (laid _ _ _ (places_of_box alike), tt))

  pub the_codes_placed : Recodes From To turn → Recodes (whole.the_row From) (whole.the_row To) ((the_former this).map From.Denot To.Denot turn)
  the_codes_placed recodes x = recodes x
