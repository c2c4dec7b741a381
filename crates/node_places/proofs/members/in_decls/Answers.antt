use Rattle.std.proofs.Common.{map, refl}
use Rattle.java_tree.specs.View.{decl_plain}
use Rattle.node_places.specs.Seek as seek
use Rattle.node_places.proofs.Turns.{passed, found}
use Rattle.node_places.proofs.members.in_decls.Goals as goal

pub returns-in_err-in_decl : goal.returns-in_err-in_decl
returns-in_err-in_decl c =
    rw c.from_residual.ensures
    (found (λ xs. seek.decls c.args.number (map decl_plain xs)) (λ x. seek.decl c.args.number (decl_plain x)) (λ x xs. refl) c.args.ds.now c.loop-d.d-index c.d-item.result c.in_err-in_decl.field-0.0
    (rw (← c.as_slice-d-items.ensures) c.loop-d-test.true) (rw (← c.as_slice-d-items.ensures) c.d-item.is) (rw c.in_err-in_decl.was at c.in_decl.ensures) c.loop-d.invariant)

pub loop-d-preserved : goal.loop-d-preserved
loop-d-preserved c =
    passed (λ xs. seek.decls c.args.number (map decl_plain xs)) (λ x. seek.decl c.args.number (decl_plain x)) (λ x xs. refl) c.args.ds.now c.loop-d.d-index c.d-item.result
    (rw (← c.as_slice-d-items.ensures) c.loop-d-test.true) (rw (← c.as_slice-d-items.ensures) c.d-item.is) (rw c.in_ok-in_decl.was at c.in_decl.ensures) c.loop-d.invariant
