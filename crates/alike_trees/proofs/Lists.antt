-- The lists that are walked.
use Rattle.std.proofs.Common.{Bor, map}
use Rattle.java_core.specs.declared.program.CoreField.{CoreField}
use Rattle.java_core.specs.View.{catch_plain, catch_row, field_plain, group_plain, group_row, plain, plains, stmt_plain, stmts_plain, var_plain}
use Rattle.program_maps.specs.Pairs.{Pair}
use Rattle.program_maps.specs.Trees.{CatchAlike, CatchesAlike, ExprAlike, ExprsAlike, FieldAlike, FieldsAlike, GroupAlike, GroupsAlike, StmtAlike, StmtsAlike, VarAlike, VarsAlike}
use Rattle.alike_trees.proofs.Walks.{IsWalk}

pub exprs_walk : (p : Pair) → IsWalk (λ x y. ExprAlike p (plain x) (plain y)) (λ xs ys. ExprsAlike p (plains xs) (plains ys))
exprs_walk p = record { none = tt; both = λ x xs y ys. (λ h. h, λ h. h); fewer = λ x xs h. h; more = λ y ys h. h }

pub vars_walk : (p : Pair) → IsWalk (λ x y. VarAlike p (var_plain x) (var_plain y)) (λ xs ys. VarsAlike p (map var_plain xs) (map var_plain ys))
vars_walk p = record { none = tt; both = λ x xs y ys. (λ h. h, λ h. h); fewer = λ x xs h. h; more = λ y ys h. h }

pub stmts_walk : (p : Pair) → IsWalk (λ x y. StmtAlike p (stmt_plain x) (stmt_plain y)) (λ xs ys. StmtsAlike p (stmts_plain xs) (stmts_plain ys))
stmts_walk p = record { none = tt; both = λ x xs y ys. (λ h. h, λ h. h); fewer = λ x xs h. h; more = λ y ys h. h }

pub groups_walk : (p : Pair) → IsWalk (λ x y. GroupAlike p (group_plain x) (group_plain y)) (λ xs ys. GroupsAlike p (group_row (map group_plain xs)) (group_row (map group_plain ys)))
groups_walk p = record { none = tt; both = λ x xs y ys. (λ h. h, λ h. h); fewer = λ x xs h. h; more = λ y ys h. h }

pub catches_walk : (p : Pair) → IsWalk (λ x y. CatchAlike p (catch_plain x) (catch_plain y)) (λ xs ys. CatchesAlike p (catch_row (map catch_plain xs)) (catch_row (map catch_plain ys)))
catches_walk p = record { none = tt; both = λ x xs y ys. (λ h. h, λ h. h); fewer = λ x xs h. h; more = λ y ys h. h }

-- of references
pub fields_walk : (p : Pair) → IsWalk {X = Bor CoreField} {Y = Bor CoreField} (λ x y. FieldAlike p (field_plain x.now) (field_plain y.now))
    (λ xs ys. FieldsAlike p (map (λ x. field_plain x.now) xs) (map (λ y. field_plain y.now) ys))
fields_walk p = record { none = tt; both = λ x xs y ys. (λ h. h, λ h. h); fewer = λ x xs h. h; more = λ y ys h. h }
