-- One more of a list.
use Rattle.std.proofs.Common.{◌≡◌, ℕ, suc, ◌+◌, ◌<◌, Bool, true, false, cond, List, [], ◌∷◌, ◌++◌, Option, Some, Result, Ok, Err, append_assoc, map, length, drop, drop-cons, refl, sym, ap, ◌∙◌, arith}
use Rattle.std.specs.Prelude.{IfOk, filter, slice_get, slice_index_or as get_or}
use Rattle.std.proofs.lemmas.List.{append-nil, length-map}
use Rattle.java_tree.specs.declared.tree.Node.{Node}
use Rattle.class_world.specs.declared.world.JavaType.{JavaType}
use Rattle.class_world.specs.declared.world.MethodInfo.{MethodInfo}
use Rattle.class_world.specs.declared.world.World.{World}
use Rattle.java_core.specs.declared.expr.CoreExpr.{CoreExpr}
use Rattle.java_core.specs.View.{plain}
use Rattle.java_core.specs.Plain as p
use Rattle.type_kinds.specs.Kinds.{converted_all, ty_of}
use Rattle.type_facts.specs.Facts.{Facts}
use Rattle.type_facts.specs.declared.scope.Place.{Place}
use Rattle.method_choice.specs.declared.choice.Candidate.{Candidate}
use Rattle.member_uses.specs.Targets.{Receiver, call_form, call_made, called_as, candidate, candidates, is_static_method, receiver_type, result_seen, seen_params, some_unchecked}

step : {X : Type 0} (F : List ℕ → List X) → ((k : ℕ) (ks : List ℕ) → F (k ∷ ks) ≡ F (k ∷ []) ++ F ks) → (ks : List ℕ) (i : ℕ) (done done' whole : List X)
    → i < length ks → done' ≡ done ++ F (get_or ks i 0 ∷ []) → done ++ F (drop i ks) ≡ whole → done' ++ F (drop (i + 1) ks) ≡ whole
step F split ks i done done' whole low more so_far =
    let next : suc i ≡ i + 1 = omega arith in
    let rest = drop (i + 1) ks in
    let here : drop i ks ≡ get_or ks i 0 ∷ rest = drop-cons ks i 0 low ∙ ap (λ j. get_or ks i 0 ∷ drop j ks) next in
    ap (λ d. d ++ F rest) more ∙ append_assoc done (F (get_or ks i 0 ∷ [])) (F rest) ∙ sym (ap (λ r. done ++ r) (ap F here ∙ split (get_or ks i 0) rest)) ∙ so_far

by_test : (k : ℕ) (xs : List ℕ) (b : Bool) → cond b (k ∷ xs) xs ≡ cond b (k ∷ []) [] ++ xs
by_test k xs true = refl
by_test k xs false = refl

-- one more that is kept or not
pub filter_step : (P : ℕ → Bool) (ks : List ℕ) (i : ℕ) (done done' whole : List ℕ)
    → i < length ks → done' ≡ done ++ filter P (get_or ks i 0 ∷ []) → done ++ filter P (drop i ks) ≡ whole → done' ++ filter P (drop (i + 1) ks) ≡ whole
filter_step P = step (filter P) (λ k ks. by_test k (filter P ks) (P k))

-- one more candidate, or none
pub candidates_step : (f : Facts) (t : JavaType) (ks : List ℕ) (i : ℕ) (done done' whole : List Candidate)
    → i < length ks → done' ≡ done ++ candidate f t (get_or ks i 0) (slice_get f.world.methods (get_or ks i 0)) → done ++ candidates f t (drop i ks) ≡ whole
    → done' ++ candidates f t (drop (i + 1) ks) ≡ whole
candidates_step f t ks i done done' whole low more so_far =
    let one : List Candidate = candidate f t (get_or ks i 0) (slice_get f.world.methods (get_or ks i 0)) in
    step (candidates f t) (λ k ks. ap (λ c. c ++ candidates f t ks) (sym (append-nil (candidate f t k (slice_get f.world.methods k))))) ks i done done' whole low
    (more ∙ ap (λ c. done ++ c) (sym (append-nil one))) so_far

-- a type for each argument
pub length_of_types : (xs : List CoreExpr) → length (map ty_of (map plain xs)) ≡ length xs
length_of_types xs = length-map (map plain xs) ty_of ∙ length-map xs plain

pub length_of_args : (xs : List CoreExpr) → length (map plain xs) ≡ length xs
length_of_args xs = length-map xs plain

abbrev made : ℕ → List JavaType → Candidate
made k ps = record { method = k; params = ps }

pub one_candidate : (f : Facts) (w : World) (t : JavaType) (k : ℕ) (m : MethodInfo) (ps : List JavaType) → f.world ≡ w → Some m ≡ slice_get w.methods k → ps ≡ seen_params f t m
    → made k ps ∷ [] ≡ candidate f t k (slice_get f.world.methods k)
one_candidate f w t k m ps same found put = ap (λ qs. made k qs ∷ []) put ∙ ap (candidate f t k) (found ∙ ap (λ (v : World). slice_get v.methods k) (sym same))

pub if_ok : {A E : Type 0} (r : Result A E) (P Q : A → Type 0) → ((a : A) → P a → Q a) → IfOk r P → IfOk r Q
if_ok (Ok a) P Q h x = h a x
if_ok (Err e) P Q h x = x

-- a call, of its parts
pub call_is : (f : Facts) (g : Place) (n : Node) (r : Receiver) (c : Candidate) (m : MethodInfo) (xs : List CoreExpr) (t : JavaType) (b st : Bool) (ys : List CoreExpr) (ps : List JavaType) (x : p.Form)
    → t ≡ receiver_type g r → ys ≡ xs → ps ≡ c.params → b ≡ some_unchecked f (map plain ys) ps → st ≡ is_static_method m
    → x ≡ call_form g n r st c.method (converted_all c.params (map plain xs)) → called_as f n m.result (result_seen f t m b m.result) x ≡ call_made f g n r c m (map plain xs)
call_is f g n r c m xs t b st ys ps x of args params erases is_static form =
    let flag : b ≡ some_unchecked f (map plain xs) c.params = erases ∙ ap (λ ys. some_unchecked f (map plain ys) ps) args ∙ ap (λ ps. some_unchecked f (map plain xs) ps) params in
    ap (λ t. called_as f n m.result (result_seen f t m b m.result) x) of
    ∙ ap (λ b. called_as f n m.result (result_seen f (receiver_type g r) m b m.result) x) flag
    ∙ ap (λ x. called_as f n m.result (result_seen f (receiver_type g r) m (some_unchecked f (map plain xs) c.params) m.result) x)
    (form ∙ ap (λ s. call_form g n r s c.method (converted_all c.params (map plain xs))) is_static)
