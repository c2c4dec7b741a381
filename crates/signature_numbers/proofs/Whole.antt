-- The numbers of signatures, from the steps.
use Rattle.std.proofs.Common.{◌≡◌, ℕ, ◌+◌, ◌<◌, ◌≤◌, List, [], ◌∷◌, Option, Some, None, sym, ap, ◌∙◌, length, arith}
use Rattle.std.specs.List.{flat_map}
use Rattle.java_tree.specs.declared.tree.Name.{Name}
use Rattle.class_world.specs.declared.world.JavaType.{JavaType}
use Rattle.signature_numbers.specs.declared.codes.Part.TheVariants as part
use Rattle.signature_numbers.specs.Codes.{code, parts}
use Rattle.signature_numbers.specs.Steps.{Steps, HasSteps, Keeps, found_in, next_in, reached}
use Rattle.signature_numbers.specs.Numbers.{number_in, AreApart}
use Rattle.class_world.specs.declared.world.JavaType.TheVariants as ty
use Rattle.signature_numbers.proofs.Rows.{Next, kept_from, one_row, row_below, reached_none, part_first, no_part, row_first, no_row}
use Rattle.signature_numbers.proofs.Decoding.{code_back, parts_class, parts_array}

pub none_numbered : (t : Steps) → t ≡ [] → (a : Name) (ps : List JavaType) → number_in t a ps ≡ None
unfolding number_in
none_numbered t none a ps =
    ap (λ o. reached (next_in t) o (flat_map parts ps)) (ap (λ es. found_in es (record { after = 0; part = part.Named a.0 })) none) ∙ reached_none (next_in t) (flat_map parts ps)

pub numbers_kept : (old new : Steps) → Keeps old new → (a : Name) (ps : List JavaType) (n : ℕ) → number_in old a ps ≡ Some n → number_in new a ps ≡ Some n
unfolding number_in
numbers_kept old new keeps a ps n e = kept_from (next_in old) (next_in new) (λ s p k h. keeps (record { after = s; part = p }) k h) (Some 0) (code a ps) n e

pub numbers_apart : (t : Steps) → HasSteps t → AreApart t
unfolding number_in
numbers_apart t has a b ps qs n e f = code_back a b ps qs (one_row (found_in t) (length t) has (code a ps) (code b qs) n e f)

pub numbers_below : (t : Steps) → HasSteps t → (a : Name) (ps : List JavaType) (n : ℕ) → number_in t a ps ≡ Some n → n < length t + 1
unfolding number_in
numbers_below t has a ps n e =
    let low : n ≤ length t = row_below (found_in t) (length t) has (Some 0) (code a ps) n (λ k h. let zero_first : 0 ≡ k = cc h in omega (arith, zero_first)) e in
    omega (arith, low)

pub is_number : (t : Steps) (a : Name) (ps : List JavaType) (o : Option ℕ) → reached (next_in t) (Some 0) (code a ps) ≡ o → number_in t a ps ≡ o
unfolding number_in
is_number t a ps o e = e

-- ---- a type's parts, and those behind them

pub class_first : (next : Next) (s k : ℕ) (o : Option ℕ) (t : JavaType) (c len : ℕ) (xs ys : List JavaType) → t ≡ ty.Class c xs → len ≡ length xs → ys ≡ xs → next s (part.Class c len) ≡ Some k
    → reached next (Some k) (flat_map parts ys) ≡ o → reached next (Some s) (parts t) ≡ o
class_first next s k o t c len xs ys shape count same e h =
    part_first next s k o (part.Class c len) (parts t) (flat_map parts xs) (parts_class t c xs shape ∙ ap (λ n. part.Class c n ∷ flat_map parts xs) (sym count)) e
    (ap (λ zs. reached next (Some k) (flat_map parts zs)) (sym same) ∙ h)

pub no_class : (next : Next) (s : ℕ) (t : JavaType) (c len : ℕ) (xs : List JavaType) → t ≡ ty.Class c xs → len ≡ length xs → next s (part.Class c len) ≡ None → reached next (Some s) (parts t) ≡ None
no_class next s t c len xs shape count e =
    no_part next s (part.Class c len) (parts t) (flat_map parts xs) (parts_class t c xs shape ∙ ap (λ n. part.Class c n ∷ flat_map parts xs) (sym count)) e

pub array_first : (next : Next) (s k : ℕ) (o : Option ℕ) (t x y : JavaType) → t ≡ ty.Array x → y ≡ x → next s part.Level ≡ Some k → reached next (Some k) (parts y) ≡ o → reached next (Some s) (parts t) ≡ o
array_first next s k o t x y shape same e h = part_first next s k o part.Level (parts t) (parts x) (parts_array t x shape) e (ap (λ z. reached next (Some k) (parts z)) (sym same) ∙ h)

pub no_array : (next : Next) (s : ℕ) (t x : JavaType) → t ≡ ty.Array x → next s part.Level ≡ None → reached next (Some s) (parts t) ≡ None
no_array next s t x shape e = no_part next s part.Level (parts t) (parts x) (parts_array t x shape) e

pub types_first : (next : Next) (s k : ℕ) (o : Option ℕ) (ts : List JavaType) (t : JavaType) (others : List JavaType) → ts ≡ t ∷ others → reached next (Some s) (parts t) ≡ Some k
    → reached next (Some k) (flat_map parts others) ≡ o → reached next (Some s) (flat_map parts ts) ≡ o
types_first next s k o ts t others is e h = row_first next s k o (flat_map parts ts) (parts t) (flat_map parts others) (ap (flat_map parts) is) e h

pub no_types : (next : Next) (s : ℕ) (ts : List JavaType) (t : JavaType) (others : List JavaType) → ts ≡ t ∷ others → reached next (Some s) (parts t) ≡ None → reached next (Some s) (flat_map parts ts) ≡ None
no_types next s ts t others is e = no_row next s (flat_map parts ts) (parts t) (flat_map parts others) (ap (flat_map parts) is) e
