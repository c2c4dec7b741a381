-- Arguments of types that stay equal, and flows, by their parts.
use Rattle.std.proofs.Common.{◌≡◌, ℕ, zero, suc, ◌+◌, ◌<◌, ◌≤◌, List, [], ◌∷◌, Some, length, drop, min, refl, sym, ap, ◌∙◌, arith}
use Rattle.std.specs.Prelude.{slice_get, slice_index_or as get_or}
use Rattle.class_world.specs.declared.world.JavaType.{JavaType}
use Rattle.kept_places.specs.declared.links.Kind.TheVariants as kind
use Rattle.kept_places.specs.declared.links.Link.{Link}
use Rattle.marked_types.specs.Marked.{head_mark, own_mark}
use Rattle.class_places.proofs.Steps.{rest_at}
use Rattle.extract_constraints.specs.Told.{Told, Where}
use Rattle.extract_constraints.specs.Flows as fl

-- the rest of two lists of arguments, behind their first ones
pub equal_step : (xs ys : List JavaType) (i n : ℕ) (x y : JavaType) (now next whole : List Link) → i < length xs → i < length ys → x ≡ get_or xs i x → y ≡ get_or ys i y
    → next ≡ fl.equal (own_mark x) (own_mark y) n kind.Argument now → fl.all_equal (drop i xs) (drop i ys) n now ≡ whole → fl.all_equal (drop (i + 1) xs) (drop (i + 1) ys) n next ≡ whole
equal_step xs ys i n x y now next whole low high first second made so_far =
    ap (fl.all_equal (drop (i + 1) xs) (drop (i + 1) ys) n) made
    ∙ sym (ap (λ zs. fl.all_equal zs (y ∷ drop (i + 1) ys) n now) (rest_at xs i x low first))
    ∙ sym (ap (λ zs. fl.all_equal (drop i xs) zs n now) (rest_at ys i y high second))
    ∙ so_far

none_equal : (xs : List JavaType) (n : ℕ) (ls : List Link) → fl.all_equal xs [] n ls ≡ ls
none_equal [] n ls = refl
none_equal (x ∷ xs) n ls = refl

rest_equal : (xs ys : List JavaType) (i n : ℕ) (ls : List Link) → i ≡ min (length xs) (length ys) → fl.all_equal (drop i xs) (drop i ys) n ls ≡ ls
rest_equal [] ys zero n ls h = refl
rest_equal [] ys (suc i) n ls h = refl
rest_equal (x ∷ xs) [] zero n ls h = refl
rest_equal (x ∷ xs) [] (suc i) n ls h = none_equal (drop i xs) n ls
rest_equal (x ∷ xs) (y ∷ ys) zero n ls h = absurd (omega (arith, h))
rest_equal (x ∷ xs) (y ∷ ys) (suc i) n ls h = rest_equal xs ys i n ls (omega (arith, h))

pub equal_ended : (xs ys : List JavaType) (i n : ℕ) (now whole : List Link) → i ≡ min (length xs) (length ys) → fl.all_equal (drop i xs) (drop i ys) n now ≡ whole → now ≡ whole
equal_ended xs ys i n now whole h so_far = sym (rest_equal xs ys i n now h) ∙ so_far

-- where there are arguments
pub some_args : (k : Told) (s : JavaType) (class : ℕ) (ys : List JavaType) (n : ℕ) (ls : List Link) → 1 ≤ length ys → fl.args_equal (k.facts.super_as s class) ys n ls ≡ fl.arguments_at k s (Some class) ys n ls
some_args k s class [] n ls long = absurd (omega (arith, long))
some_args k s class (y ∷ ys) n ls long = refl

pub some_cast : (k : Told) (a : Where) (s t : JavaType) (ys : List JavaType) (n x : ℕ) (ls : List Link) → 1 ≤ length ys → fl.cast_of (head_mark s) k a s t n x ls ≡ fl.cast_to ys k a s t n x ls
some_cast k a s t [] n x ls long = absurd (omega (arith, long))
some_cast k a s t (y ∷ ys) n x ls long = refl

module _ (k : Told) (a : Where) where
  pub one_below : (s t : JavaType) (c n : ℕ) (now next ls : List Link) → now ≡ fl.equal_below k a s t c n ls
      → next ≡ fl.equal_above (fl.is_generic_info (slice_get (fl.world a).types c)) k s t c n now → next ≡ fl.equal_below k a s t (c + 1) n ls
  one_below s t c n now next ls so_far made =
      let more : suc c ≡ c + 1 = omega arith in
      made ∙ ap (fl.equal_above (fl.is_generic_info (slice_get (fl.world a).types c)) k s t c n) so_far ∙ ap (λ c. fl.equal_below k a s t c n ls) more
