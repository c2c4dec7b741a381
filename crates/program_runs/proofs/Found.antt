-- The first of two lists that does.
use Rattle.std.proofs.Common.{◌≡◌, ℕ, true, false, Option, Some, None, is_some, refl, ap}
use Rattle.std.specs.Prelude.{option_and_then}
use Rattle.java_core.specs.Plain.{Class}
use Rattle.core_meaning.specs.Code.{Code}
use Rattle.core_meaning.specs.Runs.{if_main, main_of}
use Rattle.std.specs.Option.{option_map, option_or}

pub none_found : {A B : Type 0} (f : A → B) (o y : Option A) → is_some (option_map f o) ≡ false → option_or o y ≡ y
none_found f None y e = refl
none_found f (Some x) y e = search e

pub some_found : {A B : Type 0} (f : A → B) (o y : Option A) → is_some (option_map f o) ≡ true → option_map f o ≡ option_map f (option_or o y)
some_found f None y e = search e
some_found f (Some x) y e = refl

-- the main method of a class that was found
pub main_of_found : (c : Code) (o : Option Class) (r : Option ℕ) → r ≡ option_map (λ (x : Class). x.number) o → option_and_then (λ n. option_map (λ (m : ℕ). n) (main_of c n)) r ≡ option_and_then (if_main c) o
main_of_found c None r e = ap (option_and_then (λ n. option_map (λ (m : ℕ). n) (main_of c n))) e
main_of_found c (Some x) r e = ap (option_and_then (λ n. option_map (λ (m : ℕ). n) (main_of c n))) e
