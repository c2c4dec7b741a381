-- Equal parts make equal wholes, and walks over lists, an item at a time.
use Rattle.std.proofs.Common.{◌≡◌, ℕ, zero, suc, ◌+◌, ◌<◌, ◌≤◌, Bool, true, false, cond, List, [], ◌∷◌, ◌++◌, Option, Some, None, length, drop, drop-cons, refl, sym, ap, ◌∙◌, append_assoc, arith}
use Rattle.std.specs.Prelude.{◌||◌, ◌&&◌, slice_index_or as get_or}
use Rattle.std.specs.List.{find, list_all}
use Rattle.std.proofs.lemmas.List.{append-nil}
use Rattle.java_core.specs.declared.expr.CoreExpr.{CoreExpr}
use Rattle.java_core.specs.View.{plain}
use Rattle.java_core.proofs.Views.{plain_at}
use Rattle.type_kinds.specs.Kinds.{node_of}
use Rattle.thrown_exceptions.proofs.Steps.{rest_at}

pub node_at : (x : CoreExpr) → x.node.id ≡ node_of (plain x)
node_at x = sym (ap node_of (plain_at x))

pub three : {X Y Z W : Type 0} (g : X → Y → Z → W) (x x' : X) (y y' : Y) (z z' : Z) → x ≡ x' → y ≡ y' → z ≡ z' → g x y z ≡ g x' y' z'
three g x x' y y' z z' h k l = ap (λ x. g x y z) h ∙ ap (λ y. g x' y z) k ∙ ap (g x' y') l

-- the rest of a list of numbers
pub front : (ks : List ℕ) (i : ℕ) → i < length ks → drop i ks ≡ get_or ks i 0 ∷ drop (i + 1) ks
front ks i low =
    let next : suc i ≡ i + 1 = omega arith in
    drop-cons ks i 0 low ∙ ap (λ j. get_or ks i 0 ∷ drop j ks) next

dropped : {X : Type 0} (xs : List X) (i : ℕ) → length xs ≤ i → drop i xs ≡ []
dropped [] zero past = refl
dropped [] (suc i) past = refl
dropped (x ∷ xs) zero past = absurd (omega (arith, past))
dropped (x ∷ xs) (suc i) past = dropped xs i (omega (arith, past))

-- at the end of a list
pub ended : {X S : Type 0} (g : List X → S → S) → ((s : S) → g [] s ≡ s) → (xs : List X) (i : ℕ) (now whole : S) → length xs ≤ i → g (drop i xs) now ≡ whole → now ≡ whole
ended g none xs i now whole past so_far = sym (ap (λ xs. g xs now) (dropped xs i past) ∙ none now) ∙ so_far

-- a walk g over the rest of a list that knows the place of its first item, of which h makes the state behind it
pub step_at : {X S : Type 0} (g : ℕ → List X → S → S) (h : ℕ → X → S → S) → ((i : ℕ) (x : X) (xs : List X) (s : S) → g i (x ∷ xs) s ≡ g (i + 1) xs (h i x s))
    → (xs : List X) (i : ℕ) (x : X) (now next whole : S) → i < length xs → x ≡ get_or xs i x → next ≡ h i x now → g i (drop i xs) now ≡ whole
    → g (i + 1) (drop (i + 1) xs) next ≡ whole
step_at g h begins xs i x now next whole low is made so_far =
    let rest = drop (i + 1) xs in
    ap (g (i + 1) rest) made ∙ sym (ap (λ xs. g i xs now) (rest_at xs i x low is) ∙ begins i x rest now) ∙ so_far

-- what is gathered of each item, behind what was before
pub gather : {X Y : Type 0} (F : X → List Y) (G : List X → List Y) → ((x : X) (xs : List X) → G (x ∷ xs) ≡ F x ++ G xs) → (xs : List X) (i : ℕ) (x : X) (out new whole : List Y)
    → i < length xs → x ≡ get_or xs i x → new ≡ out ++ F x → out ++ G (drop i xs) ≡ whole → new ++ G (drop (i + 1) xs) ≡ whole
gather F G begins xs i x out new whole low is made so_far =
    let rest = drop (i + 1) xs in
    ap (λ n. n ++ G rest) made ∙ append_assoc out (F x) (G rest) ∙ sym (ap (λ l. out ++ l) (ap G (rest_at xs i x low is) ∙ begins x rest)) ∙ so_far

pub gathered : {X Y : Type 0} (G : List X → List Y) → G [] ≡ [] → (xs : List X) (i : ℕ) (out whole : List Y) → length xs ≤ i → out ++ G (drop i xs) ≡ whole → out ≡ whole
gathered G none xs i out whole past so_far = sym (append-nil out) ∙ ap (λ l. out ++ l) (sym (ap G (dropped xs i past) ∙ none)) ∙ so_far

-- some item passes: the answer so far is that of the rest

some_first : {X : Type 0} (P : X → Bool) (G : List X → Bool) → ((x : X) (xs : List X) → G (x ∷ xs) ≡ (P x || G xs)) → (all rest : List X) (x : X) (b : Bool) → all ≡ x ∷ rest → P x ≡ b → G all ≡ (b || G rest)
some_first P G begins all rest x b here is = ap G here ∙ begins x rest ∙ ap (λ b. b || G rest) is

pub some_hit : {X : Type 0} (P : X → Bool) (G : List X → Bool) → ((x : X) (xs : List X) → G (x ∷ xs) ≡ (P x || G xs)) → (all rest : List X) (x : X) (whole : Bool)
    → all ≡ x ∷ rest → P x ≡ true → G all ≡ whole → true ≡ whole
some_hit P G begins all rest x whole here is so_far = sym (some_first P G begins all rest x true here is) ∙ so_far

pub some_next : {X : Type 0} (P : X → Bool) (G : List X → Bool) → ((x : X) (xs : List X) → G (x ∷ xs) ≡ (P x || G xs)) → (all rest : List X) (x : X) (whole : Bool)
    → all ≡ x ∷ rest → P x ≡ false → G all ≡ whole → G rest ≡ whole
some_next P G begins all rest x whole here is so_far = sym (some_first P G begins all rest x false here is) ∙ so_far

pub some_end : {X : Type 0} (G : List X → Bool) → G [] ≡ false → (xs : List X) (i : ℕ) (whole : Bool) → length xs ≤ i → G (drop i xs) ≡ whole → false ≡ whole
some_end G none xs i whole past so_far = sym (ap G (dropped xs i past) ∙ none) ∙ so_far

-- each number passes

all_first : (P : ℕ → Bool) (ks : List ℕ) (i : ℕ) (b : Bool) → i < length ks → P (get_or ks i 0) ≡ b → list_all P (drop i ks) ≡ (b && list_all P (drop (i + 1) ks))
all_first P ks i b low is = ap (list_all P) (front ks i low) ∙ ap (λ b. b && list_all P (drop (i + 1) ks)) is

pub all_miss : (P : ℕ → Bool) (ks : List ℕ) (i : ℕ) (whole : Bool) → i < length ks → P (get_or ks i 0) ≡ false → list_all P (drop i ks) ≡ whole → false ≡ whole
all_miss P ks i whole low is so_far = sym (all_first P ks i false low is) ∙ so_far

pub all_next : (P : ℕ → Bool) (ks : List ℕ) (i : ℕ) (whole : Bool) → i < length ks → P (get_or ks i 0) ≡ true → list_all P (drop i ks) ≡ whole → list_all P (drop (i + 1) ks) ≡ whole
all_next P ks i whole low is so_far = sym (all_first P ks i true low is) ∙ so_far

pub all_end : (P : ℕ → Bool) (ks : List ℕ) (i : ℕ) (whole : Bool) → length ks ≤ i → list_all P (drop i ks) ≡ whole → true ≡ whole
all_end P ks i whole past so_far = sym (ap (list_all P) (dropped ks i past)) ∙ so_far

-- the first number that passes

find_first : (P : ℕ → Bool) (ks : List ℕ) (i : ℕ) (b : Bool) → i < length ks → P (get_or ks i 0) ≡ b → find P (drop i ks) ≡ cond b (Some (get_or ks i 0)) (find P (drop (i + 1) ks))
find_first P ks i b low is = ap (find P) (front ks i low) ∙ ap (λ b. cond b (Some (get_or ks i 0)) (find P (drop (i + 1) ks))) is

pub find_hit : (P : ℕ → Bool) (ks : List ℕ) (i : ℕ) (whole : Option ℕ) → i < length ks → P (get_or ks i 0) ≡ true → find P (drop i ks) ≡ whole → Some (get_or ks i 0) ≡ whole
find_hit P ks i whole low is so_far = sym (find_first P ks i true low is) ∙ so_far

pub find_next : (P : ℕ → Bool) (ks : List ℕ) (i : ℕ) (whole : Option ℕ) → i < length ks → P (get_or ks i 0) ≡ false → find P (drop i ks) ≡ whole → find P (drop (i + 1) ks) ≡ whole
find_next P ks i whole low is so_far = sym (find_first P ks i false low is) ∙ so_far

pub find_end : (P : ℕ → Bool) (ks : List ℕ) (i : ℕ) (whole : Option ℕ) → length ks ≤ i → find P (drop i ks) ≡ whole → None ≡ whole
find_end P ks i whole past so_far = sym (ap (find P) (dropped ks i past)) ∙ so_far
