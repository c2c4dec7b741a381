-- A table in which no text has two numbers has one number for each word.
use Rattle.std.proofs.Common.{◌≡◌, ℕ, suc, List, [], ◌∷◌, length, refl, sym, ap, ◌∙◌, arith}
use Rattle.java_tree.specs.declared.tree.Name.{Name}
use Rattle.java_tree.specs.Names.{AreDistinct}
use Rattle.built_in_types.specs.declared.words.Words.{Words}
use Rattle.built_in_types.specs.BuiltIns.{AreNumbered, AreWords, texts}

-- numbers of as many texts are the same
numbers_once : (names ts : List (List ℕ)) (ns ms : List Name) → AreDistinct names → length ns ≡ length ts → length ms ≡ length ts → AreNumbered names ts ns → AreNumbered names ts ms → ns ≡ ms
numbers_once names [] [] [] d a b x y = refl
numbers_once names [] (n ∷ ns) ms d a b x y = absurd (omega (arith, a))
numbers_once names [] [] (m ∷ ms) d a b x y = absurd (omega (arith, b))
numbers_once names (t ∷ ts) [] ms d a b x y = absurd (omega (arith, a))
numbers_once names (t ∷ ts) (n ∷ ns) [] d a b x y = absurd (omega (arith, b))
numbers_once names (t ∷ ts) (n ∷ ns) (m ∷ ms) d a b x y =
    let p = x 0 t refl in
    let q = y 0 t refl in
    let is : n ≡ p.0 = cc in
    let other : m ≡ q.0 = cc in
    let number : p.0.0 ≡ q.0.0 = d p.0.0 q.0.0 t p.2 q.2 in
    let same : n ≡ m = is ∙ ap (λ (k : ℕ). record { 0 = k }) number ∙ sym other in
    let rest : ns ≡ ms = numbers_once names ts ns ms d (omega (arith, a)) (omega (arith, b)) (λ k u e. x (suc k) u e) (λ k u e. y (suc k) u e) in
    ap (λ k. k ∷ ns) same ∙ ap (λ ks. m ∷ ks) rest

pub words_once : (names : List (List ℕ)) (w v : Words) → AreDistinct names → AreWords names w → AreWords names v → w ≡ v
words_once names w v d a b = ap (λ (ns : List Name). record { names = ns }) (numbers_once names texts w.names v.names d a.0 b.0 a.1 b.1)
