-- The labels of a switch (JLS 14.11): T12, T18, T19.
use Rattle.std.specs.Prelude.{ℕ, ℤ, pos, neg_ℤ, ◌^◌, Bool, true, false, ◌&&◌, not, nat_eq, List, [], ◌∷◌, ◌++◌, Option, Some, None, if◌then◌else◌}
use Rattle.std.specs.Ordering.{int_eq}
use Rattle.std.specs.List.{list_any}
use Rattle.std.specs.Option.{option_map}
use Rattle.java_tree.specs.declared.tree.Node.{Node}
use Rattle.java_tree.specs.declared.tree.UnOp.TheVariants as un
use Rattle.java_tree.specs.Plain as t
use Rattle.checked.specs.Checked.{Checked, Fine, and_then, under, also}
use Rattle.operator_rules.specs.Constants.{is_in_range, wrapped}
use Rattle.check_stmt.specs.declared.labels.Label.{Label}

-- the value of an int literal, under a minus or not
abbrev pub int_value : (minus : Bool) → ℕ → ℤ
int_value false k = wrapped 32 k
int_value true k = if nat_eq k (2 ^ 31) then wrapped 32 k else neg_ℤ (wrapped 32 k)

-- what is no label, or one with L
abbrev pub no_label : Label
no_label = record { value = pos 0; is_char = false; is_long = true }

-- A literal with L is no label, whatever its value.
abbrev pub number_label : Node → ℕ → (decimal long minus : Bool) → Checked Label
number_label n k decimal true minus = under (is_in_range 64 decimal minus k) n.id 19 (Fine no_label)
number_label n k decimal false minus = under (is_in_range 32 decimal minus k) n.id 18 (Fine (record { value = int_value minus k; is_char = false; is_long = false }))

-- A char under a minus is an int.
abbrev pub char_label : (minus : Bool) → ℕ → Label
char_label true x = record { value = neg_ℤ (pos x); is_char = false; is_long = false }
char_label false x = record { value = pos x; is_char = true; is_long = false }

abbrev pub signed_label : t.Expr → Checked Label
signed_label (t.Number n k d l) = number_label n k d l true
signed_label (t.Char n x) = Fine (char_label true x)
signed_label _ = Fine no_label

abbrev pub label : t.Expr → Checked Label
label (t.Number n k d l) = number_label n k d l false
label (t.Char n x) = Fine (char_label false x)
label (t.Unary n un.Minus e) = signed_label e
label _ = Fine no_label

abbrev pub some_label : Option t.Expr → Checked (Option Label)
some_label None = Fine None
some_label (Some e) = and_then (label e) (λ x. Fine (Some x))

abbrev pub labels : List (Option t.Expr) → Checked (List (Option Label))
labels [] = Fine []
labels (x ∷ xs) = and_then (some_label x) (λ y. also y (labels xs))

-- whether a switch on char, or on int, may have it
abbrev pub is_of_kind : (on_char : Bool) → Option Label → Bool
is_of_kind on_char None = true
is_of_kind true (Some l) = l.is_char
is_of_kind false (Some l) = not l.is_long

abbrev pub value_of : Option Label → Option ℤ
value_of x = option_map (λ l. l.value) x

abbrev pub same_label : Option ℤ → Option ℤ → Bool
same_label None None = true
same_label (Some x) (Some y) = int_eq x y
same_label _ _ = false

abbrev pub is_seen : Option ℤ → List (Option ℤ) → Bool
is_seen x seen = list_any (same_label x) seen

-- Each is of the switch's kind, and none stands before it, among the labels seen or these.
abbrev pub are_labels : (on_char : Bool) → (seen : List (Option ℤ)) → List (Option Label) → Bool
are_labels on_char seen [] = true
are_labels on_char seen (x ∷ xs) = is_of_kind on_char x && not (is_seen (value_of x) seen) && are_labels on_char (seen ++ value_of x ∷ []) xs
