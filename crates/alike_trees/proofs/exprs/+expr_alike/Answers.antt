use Rattle.std.proofs.Common.{ap, arith, refl, ◌∙◌}
use Rattle.std.specs.Option.{option_map}
use Rattle.std.proofs.lemmas.Result.{err_from_is_err_and}
use Rattle.java_core.specs.declared.expr.CoreForm.TheVariants as v
use Rattle.java_core.specs.declared.expr.CoreForm.TheOpen as o
use Rattle.java_core.specs.Plain as e
use Rattle.java_core.specs.View.{maybe, plain, plains, written}
use Rattle.alike_trees.specs.Compared.{pair}
use Rattle.alike_trees.proofs.Heights.{height, heights}
use Rattle.alike_trees.proofs.Lists.{exprs_walk}
use Rattle.alike_trees.proofs.Walks.{ended, lower, next, short, stopped}
use Rattle.alike_trees.proofs.Forms.{leaf, one_part, refused, shaped, static_call, static_field, through}
use Rattle.alike_trees.proofs.exprs.+expr_alike.Goals as goal

-- ---- forms without parts

pub expr_alike-returns-in-Int : goal.expr_alike-returns-in-Int
expr_alike-returns-in-Int t c =
    let a = c.args in
    let i = c.in-Int in
    leaf a.sides.now a.old.now a.new.now (shaped a.old.now (v.Int i.x) (o.Int i.x) i.is (v.outs-Int i.x)) (c.int_alike.ensures (pair a.sides.now) a.old.now.node a.old.now.ty)

pub expr_alike-returns-in-Long : goal.expr_alike-returns-in-Long
expr_alike-returns-in-Long t c =
    let a = c.args in
    let i = c.in-Long in
    leaf a.sides.now a.old.now a.new.now (shaped a.old.now (v.Long i.x) (o.Long i.x) i.is (v.outs-Long i.x)) (c.long_alike.ensures (pair a.sides.now) a.old.now.node a.old.now.ty)

pub expr_alike-returns-in-Char : goal.expr_alike-returns-in-Char
expr_alike-returns-in-Char t c =
    let a = c.args in
    let i = c.in-Char in
    leaf a.sides.now a.old.now a.new.now (shaped a.old.now (v.Char i.x) (o.Char i.x) i.is (v.outs-Char i.x)) (c.char_alike.ensures (pair a.sides.now) a.old.now.node a.old.now.ty)

pub expr_alike-returns-in-Text : goal.expr_alike-returns-in-Text
expr_alike-returns-in-Text t c =
    let a = c.args in
    let i = c.in-Text in
    leaf a.sides.now a.old.now a.new.now (shaped a.old.now (v.Text i.units) (o.Text i.units) i.is (v.outs-Text i.units)) (c.text_alike.ensures (pair a.sides.now) a.old.now.node a.old.now.ty)

pub expr_alike-returns-in-Truth : goal.expr_alike-returns-in-Truth
expr_alike-returns-in-Truth t c =
    let a = c.args in
    let i = c.in-Truth in
    leaf a.sides.now a.old.now a.new.now (shaped a.old.now (v.Truth i.x) (o.Truth i.x) i.is (v.outs-Truth i.x)) (c.truth_alike.ensures (pair a.sides.now) a.old.now.node a.old.now.ty)

pub expr_alike-returns-in-Null : goal.expr_alike-returns-in-Null
expr_alike-returns-in-Null t c =
    let a = c.args in
    let i = c.in-Null in
    leaf a.sides.now a.old.now a.new.now (shaped a.old.now v.Null o.Null i.is v.outs-Null) (c.null_alike.ensures (pair a.sides.now) a.old.now.node a.old.now.ty)

pub expr_alike-returns-in-This : goal.expr_alike-returns-in-This
expr_alike-returns-in-This t c =
    let a = c.args in
    let i = c.in-This in
    leaf a.sides.now a.old.now a.new.now (shaped a.old.now v.This o.This i.is v.outs-This) (c.this_alike.ensures (pair a.sides.now) a.old.now.node a.old.now.ty)

pub expr_alike-returns-in-Local : goal.expr_alike-returns-in-Local
expr_alike-returns-in-Local t c =
    let a = c.args in
    let i = c.in-Local in
    leaf a.sides.now a.old.now a.new.now (shaped a.old.now (v.Local i.slot) (o.Local i.slot) i.is (v.outs-Local i.slot)) (c.local_alike.ensures (pair a.sides.now) a.old.now.node a.old.now.ty)

pub expr_alike-returns-in-SuperField : goal.expr_alike-returns-in-SuperField
expr_alike-returns-in-SuperField t c =
    let a = c.args in
    let i = c.in-SuperField in
    leaf a.sides.now a.old.now a.new.now (shaped a.old.now (v.SuperField i.field) (o.SuperField i.field) i.is (v.outs-SuperField i.field)) (c.super_field_alike.ensures a.old.now.node a.old.now.ty)

-- ---- forms with parts

pub expr_alike-returns-in_err-in_paren-in-Paren : goal.expr_alike-returns-in_err-in_paren-in-Paren
expr_alike-returns-in_err-in_paren-in-Paren t c =
    let a = c.args in
    let i = c.in-Paren in
    let exit = err_from_is_err_and c.from_residual.result c.from_residual.ensures.1 in
    refused a.sides.now a.old.now a.new.now c.from_residual.result exit
    (shaped a.old.now (v.Paren i.x) (o.Paren i.x) i.is (v.outs-Paren i.x))
    (c.in_err-in_paren-in-Paren.ensures (pair a.sides.now) a.old.now.ty a.old.now.node (plain i.x))

pub expr_alike-returns-in_ok-in_paren-in-Paren : goal.expr_alike-returns-in_ok-in_paren-in-Paren
expr_alike-returns-in_ok-in_paren-in-Paren t c =
    let a = c.args in
    let i = c.in-Paren in
    one_part a.sides.now a.old.now a.new.now e.Paren i.x c.get.result.now
    (shaped a.old.now (v.Paren i.x) (o.Paren i.x) i.is (v.outs-Paren i.x)) c.get.ensures c.expr_alike.ensures
    (c.in_ok-in_paren-in-Paren.ensures (pair a.sides.now) a.old.now.ty)

pub expr_alike-returns-in_err-in_widening-in-Widen : goal.expr_alike-returns-in_err-in_widening-in-Widen
expr_alike-returns-in_err-in_widening-in-Widen t c =
    let a = c.args in
    let i = c.in-Widen in
    let exit = err_from_is_err_and c.from_residual-in_err-in_widening-in-Widen.result c.from_residual-in_err-in_widening-in-Widen.ensures.1 in
    refused a.sides.now a.old.now a.new.now c.from_residual-in_err-in_widening-in-Widen.result exit
    (shaped a.old.now (v.Widen i.x) (o.Widen i.x) i.is (v.outs-Widen i.x))
    (c.in_err-in_widening-in-Widen.ensures (pair a.sides.now) a.old.now.node (plain i.x))

pub expr_alike-returns-in_ok-in_widening-in-Widen : goal.expr_alike-returns-in_ok-in_widening-in-Widen
expr_alike-returns-in_ok-in_widening-in-Widen t c =
    let a = c.args in
    let i = c.in-Widen in
    one_part a.sides.now a.old.now a.new.now e.Widen i.x c.get-in-Widen.result.now
    (shaped a.old.now (v.Widen i.x) (o.Widen i.x) i.is (v.outs-Widen i.x)) c.get-in-Widen.ensures c.expr_alike-in-Widen.ensures
    (c.in_ok-in_widening-in-Widen.ensures (pair a.sides.now))

pub expr_alike-returns-in_err-in_implied_cast-in-Implied : goal.expr_alike-returns-in_err-in_implied_cast-in-Implied
expr_alike-returns-in_err-in_implied_cast-in-Implied t c =
    let a = c.args in
    let i = c.in-Implied in
    let exit = err_from_is_err_and c.from_residual-in_err-in_implied_cast-in-Implied.result c.from_residual-in_err-in_implied_cast-in-Implied.ensures.1 in
    refused a.sides.now a.old.now a.new.now c.from_residual-in_err-in_implied_cast-in-Implied.result exit
    (shaped a.old.now (v.Implied i.x) (o.Implied i.x) i.is (v.outs-Implied i.x))
    (c.in_err-in_implied_cast-in-Implied.ensures a.old.now.node (plain i.x))

pub expr_alike-returns-in_ok-in_implied_cast-in-Implied : goal.expr_alike-returns-in_ok-in_implied_cast-in-Implied
expr_alike-returns-in_ok-in_implied_cast-in-Implied t c =
    let a = c.args in
    let i = c.in-Implied in
    one_part a.sides.now a.old.now a.new.now e.Implied i.x c.get-in-Implied.result.now
    (shaped a.old.now (v.Implied i.x) (o.Implied i.x) i.is (v.outs-Implied i.x)) c.get-in-Implied.ensures c.expr_alike-in-Implied.ensures
    (c.in_ok-in_implied_cast-in-Implied.ensures)

pub expr_alike-returns-in_err-in_field-in-Field : goal.expr_alike-returns-in_err-in_field-in-Field
expr_alike-returns-in_err-in_field-in-Field t c =
    let a = c.args in
    let i = c.in-Field in
    let exit = err_from_is_err_and c.from_residual-in_err-in_field-in-Field.result c.from_residual-in_err-in_field-in-Field.ensures.1 in
    refused a.sides.now a.old.now a.new.now c.from_residual-in_err-in_field-in-Field.result exit
    (shaped a.old.now (v.Field i.of i.simple i.field) (o.Field i.of i.simple i.field) i.is (v.outs-Field i.of i.simple i.field))
    (c.in_err-in_field-in-Field.ensures a.old.now.ty i.simple a.old.now.node (plain i.of))

pub expr_alike-returns-in_ok-in_field-in-Field : goal.expr_alike-returns-in_ok-in_field-in-Field
expr_alike-returns-in_ok-in_field-in-Field t c =
    let a = c.args in
    let i = c.in-Field in
    one_part a.sides.now a.old.now a.new.now (λ x. e.Field x i.simple i.field) i.of c.get-in-Field.result.now
    (shaped a.old.now (v.Field i.of i.simple i.field) (o.Field i.of i.simple i.field) i.is (v.outs-Field i.of i.simple i.field)) c.get-in-Field.ensures c.expr_alike-in-Field.ensures
    (c.in_ok-in_field-in-Field.ensures a.old.now.ty i.simple)

pub expr_alike-returns-in_err-in_length-in-Length : goal.expr_alike-returns-in_err-in_length-in-Length
expr_alike-returns-in_err-in_length-in-Length t c =
    let a = c.args in
    let i = c.in-Length in
    let exit = err_from_is_err_and c.from_residual-in_err-in_length-in-Length.result c.from_residual-in_err-in_length-in-Length.ensures.1 in
    refused a.sides.now a.old.now a.new.now c.from_residual-in_err-in_length-in-Length.result exit
    (shaped a.old.now (v.Length i.x) (o.Length i.x) i.is (v.outs-Length i.x))
    (c.in_err-in_length-in-Length.ensures (pair a.sides.now) a.old.now.ty a.old.now.node (plain i.x))

pub expr_alike-returns-in_ok-in_length-in-Length : goal.expr_alike-returns-in_ok-in_length-in-Length
expr_alike-returns-in_ok-in_length-in-Length t c =
    let a = c.args in
    let i = c.in-Length in
    one_part a.sides.now a.old.now a.new.now e.Length i.x c.get-in-Length.result.now
    (shaped a.old.now (v.Length i.x) (o.Length i.x) i.is (v.outs-Length i.x)) c.get-in-Length.ensures c.expr_alike-in-Length.ensures
    (c.in_ok-in_length-in-Length.ensures (pair a.sides.now) a.old.now.ty)

pub expr_alike-returns-in_err-in_new_filled-in-NewFilled : goal.expr_alike-returns-in_err-in_new_filled-in-NewFilled
expr_alike-returns-in_err-in_new_filled-in-NewFilled t c =
    let a = c.args in
    let i = c.in-NewFilled in
    let exit = err_from_is_err_and c.from_residual-in_err-in_new_filled-in-NewFilled.result c.from_residual-in_err-in_new_filled-in-NewFilled.ensures.1 in
    refused a.sides.now a.old.now a.new.now c.from_residual-in_err-in_new_filled-in-NewFilled.result exit
    (shaped a.old.now (v.NewFilled i.written i.items) (o.NewFilled i.written i.items) i.is (v.outs-NewFilled i.written i.items))
    (c.in_err-in_new_filled-in-NewFilled.ensures (pair a.sides.now) a.old.now.ty (written i.written) a.old.now.node (plain i.items))

pub expr_alike-returns-in_ok-in_new_filled-in-NewFilled : goal.expr_alike-returns-in_ok-in_new_filled-in-NewFilled
expr_alike-returns-in_ok-in_new_filled-in-NewFilled t c =
    let a = c.args in
    let i = c.in-NewFilled in
    one_part a.sides.now a.old.now a.new.now (e.NewFilled (written i.written)) i.items c.get-in-NewFilled.result.now
    (shaped a.old.now (v.NewFilled i.written i.items) (o.NewFilled i.written i.items) i.is (v.outs-NewFilled i.written i.items)) c.get-in-NewFilled.ensures c.expr_alike-in-NewFilled.ensures
    (c.in_ok-in_new_filled-in-NewFilled.ensures (pair a.sides.now) a.old.now.ty (written i.written))

pub expr_alike-returns-in_err-in_unary-in-Unary : goal.expr_alike-returns-in_err-in_unary-in-Unary
expr_alike-returns-in_err-in_unary-in-Unary t c =
    let a = c.args in
    let i = c.in-Unary in
    let exit = err_from_is_err_and c.from_residual-in_err-in_unary-in-Unary.result c.from_residual-in_err-in_unary-in-Unary.ensures.1 in
    refused a.sides.now a.old.now a.new.now c.from_residual-in_err-in_unary-in-Unary.result exit
    (shaped a.old.now (v.Unary i.op i.of) (o.Unary i.op i.of) i.is (v.outs-Unary i.op i.of))
    (c.in_err-in_unary-in-Unary.ensures (pair a.sides.now) a.old.now.ty a.old.now.node (plain i.of))

pub expr_alike-returns-in_ok-in_unary-in-Unary : goal.expr_alike-returns-in_ok-in_unary-in-Unary
expr_alike-returns-in_ok-in_unary-in-Unary t c =
    let a = c.args in
    let i = c.in-Unary in
    one_part a.sides.now a.old.now a.new.now (e.Unary i.op) i.of c.get-in-Unary.result.now
    (shaped a.old.now (v.Unary i.op i.of) (o.Unary i.op i.of) i.is (v.outs-Unary i.op i.of)) c.get-in-Unary.ensures c.expr_alike-in-Unary.ensures
    (c.in_ok-in_unary-in-Unary.ensures (pair a.sides.now) a.old.now.ty)

pub expr_alike-returns-in_err-in_step-in-Step : goal.expr_alike-returns-in_err-in_step-in-Step
expr_alike-returns-in_err-in_step-in-Step t c =
    let a = c.args in
    let i = c.in-Step in
    let exit = err_from_is_err_and c.from_residual-in_err-in_step-in-Step.result c.from_residual-in_err-in_step-in-Step.ensures.1 in
    refused a.sides.now a.old.now a.new.now c.from_residual-in_err-in_step-in-Step.result exit
    (shaped a.old.now (v.Step i.up i.before i.of) (o.Step i.up i.before i.of) i.is (v.outs-Step i.up i.before i.of))
    (c.in_err-in_step-in-Step.ensures (pair a.sides.now) a.old.now.ty a.old.now.node (plain i.of))

pub expr_alike-returns-in_ok-in_step-in-Step : goal.expr_alike-returns-in_ok-in_step-in-Step
expr_alike-returns-in_ok-in_step-in-Step t c =
    let a = c.args in
    let i = c.in-Step in
    one_part a.sides.now a.old.now a.new.now (e.Step i.up i.before) i.of c.get-in-Step.result.now
    (shaped a.old.now (v.Step i.up i.before i.of) (o.Step i.up i.before i.of) i.is (v.outs-Step i.up i.before i.of)) c.get-in-Step.ensures c.expr_alike-in-Step.ensures
    (c.in_ok-in_step-in-Step.ensures (pair a.sides.now) a.old.now.ty)

pub expr_alike-returns-in_err-in_cast-in-Cast : goal.expr_alike-returns-in_err-in_cast-in-Cast
expr_alike-returns-in_err-in_cast-in-Cast t c =
    let a = c.args in
    let i = c.in-Cast in
    let exit = err_from_is_err_and c.from_residual-in_err-in_cast-in-Cast.result c.from_residual-in_err-in_cast-in-Cast.ensures.1 in
    refused a.sides.now a.old.now a.new.now c.from_residual-in_err-in_cast-in-Cast.result exit
    (shaped a.old.now (v.Cast i.written i.close i.of) (o.Cast i.written i.close i.of) i.is (v.outs-Cast i.written i.close i.of))
    (c.in_err-in_cast-in-Cast.ensures a.old.now.ty i.close a.old.now.node (plain i.of))

pub expr_alike-returns-in_ok-in_cast-in-Cast : goal.expr_alike-returns-in_ok-in_cast-in-Cast
expr_alike-returns-in_ok-in_cast-in-Cast t c =
    let a = c.args in
    let i = c.in-Cast in
    one_part a.sides.now a.old.now a.new.now (e.Cast (written i.written) i.close) i.of c.get-in-Cast.result.now
    (shaped a.old.now (v.Cast i.written i.close i.of) (o.Cast i.written i.close i.of) i.is (v.outs-Cast i.written i.close i.of)) c.get-in-Cast.ensures c.expr_alike-in-Cast.ensures
    (c.in_ok-in_cast-in-Cast.ensures a.old.now.ty i.close)

pub expr_alike-returns-in_err-in_instance_of-in-InstanceOf : goal.expr_alike-returns-in_err-in_instance_of-in-InstanceOf
expr_alike-returns-in_err-in_instance_of-in-InstanceOf t c =
    let a = c.args in
    let i = c.in-InstanceOf in
    let exit = err_from_is_err_and c.from_residual-in_err-in_instance_of-in-InstanceOf.result c.from_residual-in_err-in_instance_of-in-InstanceOf.ensures.1 in
    refused a.sides.now a.old.now a.new.now c.from_residual-in_err-in_instance_of-in-InstanceOf.result exit
    (shaped a.old.now (v.InstanceOf i.of i.written) (o.InstanceOf i.of i.written) i.is (v.outs-InstanceOf i.of i.written))
    (c.in_err-in_instance_of-in-InstanceOf.ensures a.old.now.ty a.old.now.node (plain i.of))

pub expr_alike-returns-in_ok-in_instance_of-in-InstanceOf : goal.expr_alike-returns-in_ok-in_instance_of-in-InstanceOf
expr_alike-returns-in_ok-in_instance_of-in-InstanceOf t c =
    let a = c.args in
    let i = c.in-InstanceOf in
    one_part a.sides.now a.old.now a.new.now (λ x. e.InstanceOf x (written i.written)) i.of c.get-in-InstanceOf.result.now
    (shaped a.old.now (v.InstanceOf i.of i.written) (o.InstanceOf i.of i.written) i.is (v.outs-InstanceOf i.of i.written)) c.get-in-InstanceOf.ensures c.expr_alike-in-InstanceOf.ensures
    (c.in_ok-in_instance_of-in-InstanceOf.ensures a.old.now.ty)

pub expr_alike-returns-in_err-in_index-in-Index : goal.expr_alike-returns-in_err-in_index-in-Index
expr_alike-returns-in_err-in_index-in-Index t c =
    let a = c.args in
    let i = c.in-Index in
    let exit = err_from_is_err_and c.from_residual-in_err-in_index-in-Index.result c.from_residual-in_err-in_index-in-Index.ensures.1 in
    refused a.sides.now a.old.now a.new.now c.from_residual-in_err-in_index-in-Index.result exit
    (shaped a.old.now (v.Index i.of i.at) (o.Index i.of i.at) i.is (v.outs-Index i.of i.at))
    (c.in_err-in_index-in-Index.ensures (pair a.sides.now) a.old.now.ty a.old.now.node (plain i.of) (plain i.at))

pub expr_alike-returns-in_ok-in_index-in-Index : goal.expr_alike-returns-in_ok-in_index-in-Index
expr_alike-returns-in_ok-in_index-in-Index t c =
    let a = c.args in
    let i = c.in-Index in
    through a.sides.now a.old.now a.new.now
    (shaped a.old.now (v.Index i.of i.at) (o.Index i.of i.at) i.is (v.outs-Index i.of i.at)) c.two_alike.ensures
    (c.in_ok-in_index-in-Index.ensures (pair a.sides.now) a.old.now.ty a.old.now.node (plain i.of) (plain i.at))

pub expr_alike-returns-in_err-in_binary-in-Binary : goal.expr_alike-returns-in_err-in_binary-in-Binary
expr_alike-returns-in_err-in_binary-in-Binary t c =
    let a = c.args in
    let i = c.in-Binary in
    let exit = err_from_is_err_and c.from_residual-in_err-in_binary-in-Binary.result c.from_residual-in_err-in_binary-in-Binary.ensures.1 in
    refused a.sides.now a.old.now a.new.now c.from_residual-in_err-in_binary-in-Binary.result exit
    (shaped a.old.now (v.Binary i.op i.kind i.left i.right) (o.Binary i.op i.kind i.left i.right) i.is (v.outs-Binary i.op i.kind i.left i.right))
    (c.in_err-in_binary-in-Binary.ensures (pair a.sides.now) a.old.now.ty a.old.now.node (plain i.left) (plain i.right))

pub expr_alike-returns-in_ok-in_binary-in-Binary : goal.expr_alike-returns-in_ok-in_binary-in-Binary
expr_alike-returns-in_ok-in_binary-in-Binary t c =
    let a = c.args in
    let i = c.in-Binary in
    through a.sides.now a.old.now a.new.now
    (shaped a.old.now (v.Binary i.op i.kind i.left i.right) (o.Binary i.op i.kind i.left i.right) i.is (v.outs-Binary i.op i.kind i.left i.right)) c.two_alike-in-Binary.ensures
    (c.in_ok-in_binary-in-Binary.ensures (pair a.sides.now) a.old.now.ty a.old.now.node (plain i.left) (plain i.right))

pub expr_alike-returns-in_err-in_logic-in-Logic : goal.expr_alike-returns-in_err-in_logic-in-Logic
expr_alike-returns-in_err-in_logic-in-Logic t c =
    let a = c.args in
    let i = c.in-Logic in
    let exit = err_from_is_err_and c.from_residual-in_err-in_logic-in-Logic.result c.from_residual-in_err-in_logic-in-Logic.ensures.1 in
    refused a.sides.now a.old.now a.new.now c.from_residual-in_err-in_logic-in-Logic.result exit
    (shaped a.old.now (v.Logic i.both i.left i.right) (o.Logic i.both i.left i.right) i.is (v.outs-Logic i.both i.left i.right))
    (c.in_err-in_logic-in-Logic.ensures (pair a.sides.now) a.old.now.ty a.old.now.node (plain i.left) (plain i.right))

pub expr_alike-returns-in_ok-in_logic-in-Logic : goal.expr_alike-returns-in_ok-in_logic-in-Logic
expr_alike-returns-in_ok-in_logic-in-Logic t c =
    let a = c.args in
    let i = c.in-Logic in
    through a.sides.now a.old.now a.new.now
    (shaped a.old.now (v.Logic i.both i.left i.right) (o.Logic i.both i.left i.right) i.is (v.outs-Logic i.both i.left i.right)) c.two_alike-in-Logic.ensures
    (c.in_ok-in_logic-in-Logic.ensures (pair a.sides.now) a.old.now.ty a.old.now.node (plain i.left) (plain i.right))

pub expr_alike-returns-in_err-in_assign-in-Assign : goal.expr_alike-returns-in_err-in_assign-in-Assign
expr_alike-returns-in_err-in_assign-in-Assign t c =
    let a = c.args in
    let i = c.in-Assign in
    let exit = err_from_is_err_and c.from_residual-in_err-in_assign-in-Assign.result c.from_residual-in_err-in_assign-in-Assign.ensures.1 in
    refused a.sides.now a.old.now a.new.now c.from_residual-in_err-in_assign-in-Assign.result exit
    (shaped a.old.now (v.Assign i.to i.from) (o.Assign i.to i.from) i.is (v.outs-Assign i.to i.from))
    (c.in_err-in_assign-in-Assign.ensures (pair a.sides.now) a.old.now.ty a.old.now.node (plain i.to) (plain i.from))

pub expr_alike-returns-in_ok-in_assign-in-Assign : goal.expr_alike-returns-in_ok-in_assign-in-Assign
expr_alike-returns-in_ok-in_assign-in-Assign t c =
    let a = c.args in
    let i = c.in-Assign in
    through a.sides.now a.old.now a.new.now
    (shaped a.old.now (v.Assign i.to i.from) (o.Assign i.to i.from) i.is (v.outs-Assign i.to i.from)) c.two_alike-in-Assign.ensures
    (c.in_ok-in_assign-in-Assign.ensures (pair a.sides.now) a.old.now.ty a.old.now.node (plain i.to) (plain i.from))

pub expr_alike-returns-in_err-inside-in-Compound : goal.expr_alike-returns-in_err-inside-in-Compound
expr_alike-returns-in_err-inside-in-Compound t c =
    let a = c.args in
    let i = c.in-Compound in
    let exit = err_from_is_err_and c.from_residual-in_err-inside-in-Compound.result c.from_residual-in_err-inside-in-Compound.ensures.1 in
    refused a.sides.now a.old.now a.new.now c.from_residual-in_err-inside-in-Compound.result exit
    (shaped a.old.now (v.Compound i.op i.kind i.to i.from) (o.Compound i.op i.kind i.to i.from) i.is (v.outs-Compound i.op i.kind i.to i.from))
    (c.in_err-inside-in-Compound.ensures (pair a.sides.now) a.old.now.node (plain i.to) (plain i.from))

pub expr_alike-returns-in_ok-inside-in-Compound : goal.expr_alike-returns-in_ok-inside-in-Compound
expr_alike-returns-in_ok-inside-in-Compound t c =
    let a = c.args in
    let i = c.in-Compound in
    through a.sides.now a.old.now a.new.now
    (shaped a.old.now (v.Compound i.op i.kind i.to i.from) (o.Compound i.op i.kind i.to i.from) i.is (v.outs-Compound i.op i.kind i.to i.from)) c.two_alike-in-Compound.ensures
    (c.in_ok-inside-in-Compound.ensures (pair a.sides.now) a.old.now.node (plain i.to) (plain i.from))

pub expr_alike-returns-in_err-in_cond-in-Cond : goal.expr_alike-returns-in_err-in_cond-in-Cond
expr_alike-returns-in_err-in_cond-in-Cond t c =
    let a = c.args in
    let i = c.in-Cond in
    let exit = err_from_is_err_and c.from_residual-in_err-in_cond-in-Cond.result c.from_residual-in_err-in_cond-in-Cond.ensures.1 in
    refused a.sides.now a.old.now a.new.now c.from_residual-in_err-in_cond-in-Cond.result exit
    (shaped a.old.now (v.Cond i.test i.yes i.no) (o.Cond i.test i.yes i.no) i.is (v.outs-Cond i.test i.yes i.no))
    (c.in_err-in_cond-in-Cond.ensures (pair a.sides.now) a.old.now.ty a.old.now.node (plain i.test) (plain i.yes) (plain i.no))

pub expr_alike-returns-in_ok-in_cond-in-Cond : goal.expr_alike-returns-in_ok-in_cond-in-Cond
expr_alike-returns-in_ok-in_cond-in-Cond t c =
    let a = c.args in
    let i = c.in-Cond in
    through a.sides.now a.old.now a.new.now
    (shaped a.old.now (v.Cond i.test i.yes i.no) (o.Cond i.test i.yes i.no) i.is (v.outs-Cond i.test i.yes i.no)) c.cond_alike.ensures
    (c.in_ok-in_cond-in-Cond.ensures (pair a.sides.now) a.old.now.ty a.old.now.node (plain i.test) (plain i.yes) (plain i.no))

pub expr_alike-returns-in_err-in_static_field-in-StaticField : goal.expr_alike-returns-in_err-in_static_field-in-StaticField
expr_alike-returns-in_err-in_static_field-in-StaticField t c =
    let a = c.args in
    let i = c.in-StaticField in
    let exit = err_from_is_err_and c.from_residual-in_err-in_static_field-in-StaticField.result c.from_residual-in_err-in_static_field-in-StaticField.ensures.1 in
    refused a.sides.now a.old.now a.new.now c.from_residual-in_err-in_static_field-in-StaticField.result exit
    (shaped a.old.now (v.StaticField i.before i.of i.field) (o.StaticField i.before i.of i.field) i.is (v.outs-StaticField i.before i.of i.field) ∙ ap (e.At a.old.now.node a.old.now.ty) (static_field i.before i.of i.field))
    (c.in_err-in_static_field-in-StaticField.ensures a.old.now.ty i.before a.old.now.node (maybe (option_map plain i.of)))

pub expr_alike-returns-in_ok-in_static_field-in-StaticField : goal.expr_alike-returns-in_ok-in_static_field-in-StaticField
expr_alike-returns-in_ok-in_static_field-in-StaticField t c =
    let a = c.args in
    let i = c.in-StaticField in
    through a.sides.now a.old.now a.new.now
    (shaped a.old.now (v.StaticField i.before i.of i.field) (o.StaticField i.before i.of i.field) i.is (v.outs-StaticField i.before i.of i.field) ∙ ap (e.At a.old.now.node a.old.now.ty) (static_field i.before i.of i.field)) c.maybe_alike.ensures
    (c.in_ok-in_static_field-in-StaticField.ensures a.old.now.ty i.before a.old.now.node (maybe (option_map plain i.of)))

pub expr_alike-returns-in_err-inside-in-StaticCall : goal.expr_alike-returns-in_err-inside-in-StaticCall
expr_alike-returns-in_err-inside-in-StaticCall t c =
    let a = c.args in
    let i = c.in-StaticCall in
    let exit = err_from_is_err_and c.from_residual-in_err-inside-in-StaticCall.result c.from_residual-in_err-inside-in-StaticCall.ensures.1 in
    refused a.sides.now a.old.now a.new.now c.from_residual-in_err-inside-in-StaticCall.result exit
    (shaped a.old.now (v.StaticCall i.before i.of i.method i.args) (o.StaticCall i.before i.of i.method i.args) i.is (v.outs-StaticCall i.before i.of i.method i.args) ∙ ap (e.At a.old.now.node a.old.now.ty) (static_call i.before i.of i.method i.args))
    (c.in_err-inside-in-StaticCall.ensures a.old.now.ty i.before a.old.now.node (maybe (option_map plain i.of)) (plains i.args))

pub expr_alike-returns-in_ok-inside-in-StaticCall : goal.expr_alike-returns-in_ok-inside-in-StaticCall
expr_alike-returns-in_ok-inside-in-StaticCall t c =
    let a = c.args in
    let i = c.in-StaticCall in
    through a.sides.now a.old.now a.new.now
    (shaped a.old.now (v.StaticCall i.before i.of i.method i.args) (o.StaticCall i.before i.of i.method i.args) i.is (v.outs-StaticCall i.before i.of i.method i.args) ∙ ap (e.At a.old.now.node a.old.now.ty) (static_call i.before i.of i.method i.args)) c.static_call_alike.ensures
    (c.in_ok-inside-in-StaticCall.ensures a.old.now.ty i.before a.old.now.node (maybe (option_map plain i.of)) (plains i.args))

pub expr_alike-returns-in_err-in_call-in-Call : goal.expr_alike-returns-in_err-in_call-in-Call
expr_alike-returns-in_err-in_call-in-Call t c =
    let a = c.args in
    let i = c.in-Call in
    let exit = err_from_is_err_and c.from_residual-in_err-in_call-in-Call.result c.from_residual-in_err-in_call-in-Call.ensures.1 in
    refused a.sides.now a.old.now a.new.now c.from_residual-in_err-in_call-in-Call.result exit
    (shaped a.old.now (v.Call i.of i.simple i.method i.args) (o.Call i.of i.simple i.method i.args) i.is (v.outs-Call i.of i.simple i.method i.args))
    (c.in_err-in_call-in-Call.ensures (pair a.sides.now) a.old.now.ty i.simple a.old.now.node (plain i.of) (plains i.args))

pub expr_alike-returns-in_ok-in_call-in-Call : goal.expr_alike-returns-in_ok-in_call-in-Call
expr_alike-returns-in_ok-in_call-in-Call t c =
    let a = c.args in
    let i = c.in-Call in
    through a.sides.now a.old.now a.new.now
    (shaped a.old.now (v.Call i.of i.simple i.method i.args) (o.Call i.of i.simple i.method i.args) i.is (v.outs-Call i.of i.simple i.method i.args)) c.call_alike.ensures
    (c.in_ok-in_call-in-Call.ensures (pair a.sides.now) a.old.now.ty i.simple a.old.now.node (plain i.of) (plains i.args))

pub expr_alike-returns-in_err-in_super_call-in-SuperCall : goal.expr_alike-returns-in_err-in_super_call-in-SuperCall
expr_alike-returns-in_err-in_super_call-in-SuperCall t c =
    let a = c.args in
    let i = c.in-SuperCall in
    let exit = err_from_is_err_and c.from_residual-in_err-in_super_call-in-SuperCall.result c.from_residual-in_err-in_super_call-in-SuperCall.ensures.1 in
    refused a.sides.now a.old.now a.new.now c.from_residual-in_err-in_super_call-in-SuperCall.result exit
    (shaped a.old.now (v.SuperCall i.method i.args) (o.SuperCall i.method i.args) i.is (v.outs-SuperCall i.method i.args))
    (c.in_err-in_super_call-in-SuperCall.ensures a.old.now.ty a.old.now.node (plains i.args))

pub expr_alike-returns-in_ok-in_super_call-in-SuperCall : goal.expr_alike-returns-in_ok-in_super_call-in-SuperCall
expr_alike-returns-in_ok-in_super_call-in-SuperCall t c =
    let a = c.args in
    let i = c.in-SuperCall in
    through a.sides.now a.old.now a.new.now
    (shaped a.old.now (v.SuperCall i.method i.args) (o.SuperCall i.method i.args) i.is (v.outs-SuperCall i.method i.args)) c.exprs_alike.ensures
    (c.in_ok-in_super_call-in-SuperCall.ensures a.old.now.ty a.old.now.node (plains i.args))

pub expr_alike-returns-in_err-inside-in-New : goal.expr_alike-returns-in_err-inside-in-New
expr_alike-returns-in_err-inside-in-New t c =
    let a = c.args in
    let i = c.in-New in
    let exit = err_from_is_err_and c.from_residual-in_err-inside-in-New.result c.from_residual-in_err-inside-in-New.ensures.1 in
    refused a.sides.now a.old.now a.new.now c.from_residual-in_err-inside-in-New.result exit
    (shaped a.old.now (v.New i.written i.constructor i.args) (o.New i.written i.constructor i.args) i.is (v.outs-New i.written i.constructor i.args))
    (c.in_err-inside-in-New.ensures a.old.now.ty a.old.now.node (plains i.args))

pub expr_alike-returns-in_ok-inside-in-New : goal.expr_alike-returns-in_ok-inside-in-New
expr_alike-returns-in_ok-inside-in-New t c =
    let a = c.args in
    let i = c.in-New in
    through a.sides.now a.old.now a.new.now
    (shaped a.old.now (v.New i.written i.constructor i.args) (o.New i.written i.constructor i.args) i.is (v.outs-New i.written i.constructor i.args)) c.exprs_alike-in-New.ensures
    (c.in_ok-inside-in-New.ensures a.old.now.ty a.old.now.node (plains i.args))

pub expr_alike-returns-in_err-in_new_array-in-NewArray : goal.expr_alike-returns-in_err-in_new_array-in-NewArray
expr_alike-returns-in_err-in_new_array-in-NewArray t c =
    let a = c.args in
    let i = c.in-NewArray in
    let exit = err_from_is_err_and c.from_residual-in_err-in_new_array-in-NewArray.result c.from_residual-in_err-in_new_array-in-NewArray.ensures.1 in
    refused a.sides.now a.old.now a.new.now c.from_residual-in_err-in_new_array-in-NewArray.result exit
    (shaped a.old.now (v.NewArray i.written i.sizes) (o.NewArray i.written i.sizes) i.is (v.outs-NewArray i.written i.sizes))
    (c.in_err-in_new_array-in-NewArray.ensures (written i.written) a.old.now.node (plains i.sizes))

pub expr_alike-returns-in_ok-in_new_array-in-NewArray : goal.expr_alike-returns-in_ok-in_new_array-in-NewArray
expr_alike-returns-in_ok-in_new_array-in-NewArray t c =
    let a = c.args in
    let i = c.in-NewArray in
    through a.sides.now a.old.now a.new.now
    (shaped a.old.now (v.NewArray i.written i.sizes) (o.NewArray i.written i.sizes) i.is (v.outs-NewArray i.written i.sizes)) c.exprs_alike-in-NewArray.ensures
    (c.in_ok-in_new_array-in-NewArray.ensures (written i.written) a.old.now.node (plains i.sizes))

pub expr_alike-returns-in_err-in_filled-in-Filled : goal.expr_alike-returns-in_err-in_filled-in-Filled
expr_alike-returns-in_err-in_filled-in-Filled t c =
    let a = c.args in
    let i = c.in-Filled in
    let exit = err_from_is_err_and c.from_residual-in_err-in_filled-in-Filled.result c.from_residual-in_err-in_filled-in-Filled.ensures.1 in
    refused a.sides.now a.old.now a.new.now c.from_residual-in_err-in_filled-in-Filled.result exit
    (shaped a.old.now (v.Filled i.items) (o.Filled i.items) i.is (v.outs-Filled i.items))
    (c.in_err-in_filled-in-Filled.ensures a.old.now.node (plains i.items))

pub expr_alike-returns-in_ok-in_filled-in-Filled : goal.expr_alike-returns-in_ok-in_filled-in-Filled
expr_alike-returns-in_ok-in_filled-in-Filled t c =
    let a = c.args in
    let i = c.in-Filled in
    through a.sides.now a.old.now a.new.now
    (shaped a.old.now (v.Filled i.items) (o.Filled i.items) i.is (v.outs-Filled i.items)) c.exprs_alike-in-Filled.ensures
    (c.in_ok-in_filled-in-Filled.ensures a.old.now.node (plains i.items))

-- ---- lists

pub exprs_alike-returns-in_default : goal.exprs_alike-returns-in_default
exprs_alike-returns-in_default t c =
    let a = c.args in
    short (exprs_walk (pair a.sides.now)) c.loop-at.at a.old.now c.as_slice-x-items.result.now a.new.now c.as_slice-x-items.ensures _ c.loop-at-test.true c.in_default.ensures.value

pub exprs_alike-expr_alike-requires : goal.exprs_alike-expr_alike-requires
exprs_alike-expr_alike-requires t c =
    let low = lower (λ x. height (plain x)) (λ xs. heights (plains xs)) (λ x xs. refl)
    c.as_slice-x-items.result.now c.loop-at.at c.x-item.result c.loop-at-test.true c.x-item.is in
    (rw (← c.decreases) (omega (arith, low, ap (λ xs. heights (plains xs)) c.as_slice-x-items.ensures)), c.requires)

pub exprs_alike-returns-in_err-expr_alike : goal.exprs_alike-returns-in_err-expr_alike
exprs_alike-returns-in_err-expr_alike t c =
    let a = c.args in
    let exit = err_from_is_err_and c.from_residual.result c.from_residual.ensures.1 in
    stopped (exprs_walk (pair a.sides.now)) c.loop-at.at a.old.now c.as_slice-x-items.result.now a.new.now c.as_slice-x-items.ensures
    c.x-item.result c.in-Some.y.now c.loop-at-test.true c.x-item.is c.in-Some.ensures.value
    c.from_residual.result _ exit c.in_err-expr_alike.ensures c.loop-at.invariant

pub exprs_alike-loop-at-preserved : goal.exprs_alike-loop-at-preserved
exprs_alike-loop-at-preserved t c =
    let a = c.args in
    next (exprs_walk (pair a.sides.now)) c.loop-at.at a.old.now c.as_slice-x-items.result.now a.new.now c.as_slice-x-items.ensures
    c.x-item.result c.in-Some.y.now c.loop-at-test.true c.x-item.is c.in-Some.ensures.value
    c.in_ok-expr_alike.was c.expr_alike.ensures c.loop-at.invariant

pub exprs_alike-returns : goal.exprs_alike-returns
exprs_alike-returns t c =
    let a = c.args in
    ended (exprs_walk (pair a.sides.now)) c.loop-at.at a.old.now c.as_slice-x-items.result.now a.new.now c.as_slice-x-items.ensures
    c.len.result c.len-2.result c.loop-at-test.false c.len.ensures c.len-2.ensures c.check.ensures c.loop-at.invariant
