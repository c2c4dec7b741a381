-- Operators and conversions of primitives (JLS 4.2, 5.1, 15.15 to 15.24), and the identity of references (15.21.3).
use Rattle.std.specs.Prelude.{ℕ, ◌+◌, ◌-◌, ◌/◌, ◌%◌, ◌^◌, ℤ, pos, neg_ℤ, ◌+ℤ◌, ◌-ℤ◌, ◌*ℤ◌, Bool, true, false, not, ◌&&◌, ◌||◌, Option, Some, None, if◌then◌else◌, ◌==◌, int_lt, int_le, int_div, int_rem, unsigned_abs}
use Rattle.std.specs.Int.{Width, w32, w64, cast_signed, cast_unsigned, int_wrap, int_rem_euclid, int_bit_and, int_bit_or, int_bit_xor, int_bit_not, int_shl, int_shr}
use Rattle.std.specs.Ordering.{int_eq}
use Rattle.java_tree.specs.declared.tree.UnOp.{UnOp}
use Rattle.java_tree.specs.declared.tree.UnOp.TheVariants as un
use Rattle.java_tree.specs.declared.tree.BinOp.{BinOp}
use Rattle.java_tree.specs.declared.tree.BinOp.TheVariants as bin
use Rattle.java_tree.specs.declared.tree.Primitive.{Primitive}
use Rattle.java_tree.specs.declared.tree.Primitive.TheVariants as prim
use Rattle.java_core.specs.declared.expr.Kind.{Kind}
use Rattle.java_core.specs.declared.expr.Kind.TheVariants as kind
use Rattle.core_meaning.specs.declared.values.Value.{Value}
use Rattle.core_meaning.specs.declared.values.Value.TheVariants as v
use Rattle.core_meaning.specs.declared.values.Made.{Made}
use Rattle.core_meaning.specs.declared.values.Made.TheVariants.{Makes, ByZero, NoRule}

-- ---- conversions (5.1.2, 5.1.3, 5.5)

-- the low 16 bits
abbrev pub low_char : ℤ → ℕ
low_char z = unsigned_abs (int_rem_euclid z (pos (2 ^ 16)))

-- a number as one of a primitive type: in a smaller one its low bits; and a truth value as itself
abbrev pub as_primitive : Primitive → Value → Option Value
as_primitive prim.Int (v.Int z) = Some (v.Int z)
as_primitive prim.Int (v.Long z) = Some (v.Int (int_wrap w32 z))
as_primitive prim.Int (v.Char c) = Some (v.Int (pos c))
as_primitive prim.Long (v.Int z) = Some (v.Long z)
as_primitive prim.Long (v.Long z) = Some (v.Long z)
as_primitive prim.Long (v.Char c) = Some (v.Long (pos c))
as_primitive prim.Char (v.Int z) = Some (v.Char (low_char z))
as_primitive prim.Char (v.Long z) = Some (v.Char (low_char z))
as_primitive prim.Char (v.Char c) = Some (v.Char c)
as_primitive prim.Boolean (v.Truth b) = Some (v.Truth b)
as_primitive _ _ = None

-- what a variable holds, as the operator of a compound assignment works on it
abbrev pub as_kind : Kind → Value → Option Value
as_kind kind.Int a = as_primitive prim.Int a
as_kind kind.Long a = as_primitive prim.Long a
as_kind kind.Boolean a = as_primitive prim.Boolean a
as_kind kind.Reference a = Some a
as_kind kind.Text a = Some a

-- ---- what operators make

-- Shifts by the low bits of the distance (15.19): 5 of them for int, 6 for long. `bits` are those of the left operand's type.
abbrev pub shifted : Width → (bits : ℕ) → (ℤ → Value) → BinOp → ℤ → (distance : ℕ) → Made
shifted w bits make bin.ShiftLeft x d = Makes (make (int_shl w x (d % bits)))
shifted w bits make bin.ShiftRight x d = Makes (make (int_shr x (d % bits)))
shifted w bits make bin.ShiftRightZero x d = Makes (make (cast_signed w (cast_unsigned w x / 2 ^ (d % bits))))
shifted w bits make _ x d = NoRule

-- unless the divisor is zero (15.17.2, 15.17.3)
abbrev pub unless_zero : ℤ → Value → Made
unless_zero y a = if int_eq y (pos 0) then ByZero else Makes a

-- Two numbers of one type. What does not fit into it wraps around (15.17, 15.18.2); division goes towards zero.
abbrev pub of_numbers : Width → (bits : ℕ) → (ℤ → Value) → BinOp → ℤ → ℤ → Made
of_numbers w bits make bin.Add x y = Makes (make (int_wrap w (x +ℤ y)))
of_numbers w bits make bin.Sub x y = Makes (make (int_wrap w (x -ℤ y)))
of_numbers w bits make bin.Mul x y = Makes (make (int_wrap w (x *ℤ y)))
of_numbers w bits make bin.Div x y = unless_zero y (make (int_wrap w (int_div x y)))
of_numbers w bits make bin.Rem x y = unless_zero y (make (int_rem x y))
of_numbers w bits make bin.BitAnd x y = Makes (make (int_bit_and w x y))
of_numbers w bits make bin.BitOr x y = Makes (make (int_bit_or w x y))
of_numbers w bits make bin.BitXor x y = Makes (make (int_bit_xor w x y))
of_numbers w bits make bin.Less x y = Makes (v.Truth (int_lt x y))
of_numbers w bits make bin.Greater x y = Makes (v.Truth (int_lt y x))
of_numbers w bits make bin.LessEqual x y = Makes (v.Truth (int_le x y))
of_numbers w bits make bin.GreaterEqual x y = Makes (v.Truth (int_le y x))
of_numbers w bits make bin.Equal x y = Makes (v.Truth (int_eq x y))
of_numbers w bits make bin.NotEqual x y = Makes (v.Truth (not (int_eq x y)))
of_numbers w bits make op x y = shifted w bits make op x (cast_unsigned w y)

abbrev pub same_truth : Bool → Bool → Bool
same_truth true b = b
same_truth false b = not b

-- two truth values (15.21.2, 15.22.2); && and || are no such operators
abbrev pub of_truths : BinOp → Bool → Bool → Made
of_truths bin.BitAnd x y = Makes (v.Truth (x && y))
of_truths bin.BitOr x y = Makes (v.Truth (x || y))
of_truths bin.BitXor x y = Makes (v.Truth (not (same_truth x y)))
of_truths bin.Equal x y = Makes (v.Truth (same_truth x y))
of_truths bin.NotEqual x y = Makes (v.Truth (not (same_truth x y)))
of_truths _ x y = NoRule

-- both null, or one object, array or string; none where one is no reference
abbrev pub same_reference : Value → Value → Option Bool
same_reference v.Null v.Null = Some true
same_reference v.Null (v.Ref b) = Some false
same_reference v.Null (v.Text b) = Some false
same_reference (v.Ref a) v.Null = Some false
same_reference (v.Ref a) (v.Ref b) = Some (a == b)
same_reference (v.Ref a) (v.Text b) = Some false
same_reference (v.Text a) v.Null = Some false
same_reference (v.Text a) (v.Ref b) = Some false
same_reference (v.Text a) (v.Text b) = Some (a == b)
same_reference _ _ = None

abbrev pub of_references : BinOp → Option Bool → Made
of_references bin.Equal (Some b) = Makes (v.Truth b)
of_references bin.NotEqual (Some b) = Makes (v.Truth (not b))
of_references _ _ = NoRule

-- A binary operator on two values that are no strings to be joined. The distance of a shift may be of the other type.
abbrev pub operated : BinOp → Value → Value → Made
operated op (v.Int x) (v.Int y) = of_numbers w32 32 v.Int op x y
operated op (v.Int x) (v.Long y) = shifted w32 32 v.Int op x (cast_unsigned w64 y)
operated op (v.Long x) (v.Int y) = shifted w64 64 v.Long op x (cast_unsigned w32 y)
operated op (v.Long x) (v.Long y) = of_numbers w64 64 v.Long op x y
operated op (v.Truth x) (v.Truth y) = of_truths op x y
operated op a b = of_references op (same_reference a b)

-- a prefix operator (15.15.3 to 15.15.6)
abbrev pub prefixed : UnOp → Value → Option Value
prefixed un.Plus (v.Int z) = Some (v.Int z)
prefixed un.Plus (v.Long z) = Some (v.Long z)
prefixed un.Minus (v.Int z) = Some (v.Int (int_wrap w32 (neg_ℤ z)))
prefixed un.Minus (v.Long z) = Some (v.Long (int_wrap w64 (neg_ℤ z)))
prefixed un.Invert (v.Int z) = Some (v.Int (int_bit_not w32 z))
prefixed un.Invert (v.Long z) = Some (v.Long (int_bit_not w64 z))
prefixed un.Not (v.Truth b) = Some (v.Truth (not b))
prefixed _ _ = None

-- one more or one less, in the variable's own type (15.14.2, 15.14.3, 15.15.1, 15.15.2)
abbrev pub stepped : (up : Bool) → Value → Option Value
stepped true (v.Int z) = Some (v.Int (int_wrap w32 (z +ℤ pos 1)))
stepped true (v.Long z) = Some (v.Long (int_wrap w64 (z +ℤ pos 1)))
stepped true (v.Char c) = Some (v.Char ((c + 1) % 2 ^ 16))
stepped false (v.Int z) = Some (v.Int (int_wrap w32 (z -ℤ pos 1)))
stepped false (v.Long z) = Some (v.Long (int_wrap w64 (z -ℤ pos 1)))
stepped false (v.Char c) = Some (v.Char ((c + (2 ^ 16 - 1)) % 2 ^ 16))
stepped _ _ = None
