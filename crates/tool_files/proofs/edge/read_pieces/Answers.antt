use Rattle.std.proofs.Common.{ℕ, ◌≤◌, ◌++◌, ◌∙◌, List, ap, take, rules, arith, length-append, length-take-le, append_assoc}
use Rattle.std.proofs.KnownBytes.{Consumes-trans}
use Rattle.tool_files.proofs.edge.read_pieces.Goals as goal

pub pieces-preserved : goal.pieces-preserved
pieces-preserved g c =
    let ((more, items, left, given), len) = c.pieces.invariant in
    let step = c.in_ok-count.ensures in
    let bs : List ℕ = take c.in_ok-count.count c.read_piece.new.piece in
    let few : c.in_ok-count.count ≤ c.pieces.left = search rules in
    let whole = step.appended ∙ ap (λ l. l ++ bs) items ∙ append_assoc _ more bs in
    let size = length-take-le _ _ step.bound in
    ((more ++ bs, whole, omega (arith, left, few, length-append more bs, size), Consumes-trans _ _ _ _ _ given step.given), len)
