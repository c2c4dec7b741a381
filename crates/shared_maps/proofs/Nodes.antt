-- A list of nodes that gets one more.
use Rattle.std.proofs.Common.{◌≡◌, ℕ, zero, suc, ◌<◌, ◌≤◌, List, [], ◌∷◌, ◌++◌, Option, Some, None, ◌⊎◌, inl, inr, refl, ap, ◌∙◌, sym, subst, length, arith}
use Rattle.std.specs.Prelude.{slice_get}
use Rattle.std.proofs.lemmas.List.{length_push}
use Rattle.std.proofs.lemmas.Option.{slice_get_within, slice_get_past}
use Rattle.shared_maps.specs.declared.trees.Node.{Node}
use Rattle.shared_maps.specs.declared.trees.Node.TheVariants as node
use Rattle.shared_maps.specs.Trees.{AreInside, Grows, HasHalves, IsArena, high_of, low_of, value_of}

at_front : {A : Type 0} (xs ys : List A) (i : ℕ) → i < length xs → slice_get (xs ++ ys) i ≡ slice_get xs i
at_front [] ys i lt = absurd (omega (arith, lt))
at_front (x ∷ xs) ys zero lt = refl
at_front (x ∷ xs) ys (suc i) lt = at_front xs ys i (omega (arith, lt))

pub at_last : {A : Type 0} (xs : List A) (x : A) → slice_get (xs ++ x ∷ []) (length xs) ≡ Some x
at_last [] x = refl
at_last (y ∷ ys) x = at_last ys x

last_cases : {A : Type 0} (xs : List A) (x a : A) (i : ℕ) → slice_get (xs ++ x ∷ []) i ≡ Some a → (slice_get xs i ≡ Some a) ⊎ (x ≡ a)
last_cases [] x a zero e = let same : x ≡ a = cc e in inr same
last_cases [] x a (suc i) e = absurd (cc e)
last_cases (y ∷ ys) x a zero e = inl e
last_cases (y ∷ ys) x a (suc i) e = last_cases ys x a i e

inside_more : (m n : ℕ) (x : Node) → m ≤ n → AreInside m x → AreInside n x
inside_more m n node.Nothing le h = tt
inside_more m n (node.Value v) le h = tt
inside_more m n (node.Fork low high) le h = (omega (arith, h.0, le), omega (arith, h.1, le))

pub grows_none : (nodes : List Node) → Grows nodes nodes
grows_none nodes = record { size = omega arith; kept = λ i lt. refl }

pub grows_both : (a b c : List Node) → Grows a b → Grows b c → Grows a c
grows_both a b c first second = record {
  size = omega (arith, first.size, second.size);
  kept = λ i lt. second.kept i (omega (arith, lt, first.size)) ∙ first.kept i lt;
}

pub grows_one : (nodes : List Node) (x : Node) → Grows nodes (nodes ++ x ∷ [])
grows_one nodes x = record { size = omega (arith, length_push nodes x); kept = at_front nodes (x ∷ []) }

pub arena_more : (nodes : List Node) (x : Node) → IsArena nodes → AreInside (length nodes) x → IsArena (nodes ++ x ∷ [])
arena_more nodes x h inside = record {
  first = at_front nodes (x ∷ []) 0 (slice_get_within nodes 0 node.Nothing h.first) ∙ h.first;
  inside = λ i y is.
      inside_more (length nodes) (length (nodes ++ x ∷ [])) y (omega (arith, length_push nodes x))
      (elim (last_cases nodes x y i is) [ inl old ↦ h.inside i y old | inr same ↦ subst (AreInside (length nodes)) same inside ]);
}

-- one node, which is the tree with no keys
pub arena_first : IsArena (node.Nothing ∷ [])
arena_first = record { first = refl; inside = one }
  where
    one : (i : ℕ) (x : Node) → slice_get (node.Nothing ∷ []) i ≡ Some x → AreInside 1 x
    one zero x is = let same : node.Nothing ≡ x = cc is in subst (AreInside 1) same tt
    one (suc i) x is = absurd (cc is)

pub halves_inside : (nodes : List Node) → IsArena nodes → (root : ℕ) → (low_of (slice_get nodes root) < length nodes) × (high_of (slice_get nodes root) < length nodes)
halves_inside nodes h root = by (slice_get nodes root) refl
  where
    first : 0 < length nodes
    first = slice_get_within nodes 0 node.Nothing h.first

    by : (o : Option Node) → slice_get nodes root ≡ o → (low_of o < length nodes) × (high_of o < length nodes)
    by None is = (first, first)
    by (Some node.Nothing) is = (first, first)
    by (Some (node.Value v)) is = (first, first)
    by (Some (node.Fork low high)) is = h.inside root (node.Fork low high) is

pub has_inside : (nodes : List Node) → IsArena nodes → (root low high : ℕ) → HasHalves nodes root low high → (low < length nodes) × (high < length nodes)
has_inside nodes h root low high has =
    let inside = halves_inside nodes h root in
    (subst (λ n. n < length nodes) (sym has.low) inside.0, subst (λ n. n < length nodes) (sym has.high) inside.1)

-- a number of the tree with no keys, or of no node
pub record IsBare (nodes : List Node) (root : ℕ) : Type 0 where
  pub value : value_of (slice_get nodes root) ≡ None
  pub low : low_of (slice_get nodes root) ≡ 0
  pub high : high_of (slice_get nodes root) ≡ 0

pub bare_first : (nodes : List Node) → IsArena nodes → IsBare nodes 0
bare_first nodes h = record { value = ap value_of h.first; low = ap low_of h.first; high = ap high_of h.first }

pub bare_past : (nodes : List Node) (root : ℕ) → length nodes ≤ root → IsBare nodes root
bare_past nodes root past =
    let none = slice_get_past nodes root past in
    record { value = ap value_of none; low = ap low_of none; high = ap high_of none }
