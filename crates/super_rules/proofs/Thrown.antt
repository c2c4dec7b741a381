-- Types of throws clauses.
use Rattle.std.proofs.Common.{◌≡◌, ℕ, Bool, true, false, not, List, [], ◌∷◌, ◌++◌, Option, Some, inl, inr, ◌↔◌, refl, sym, ap, ◌∙◌, subst}
use Rattle.std.specs.Prelude.{slice_get, IsTrue, Decides}
use Rattle.java_tree.specs.declared.tree.TypeExpr as code
use Rattle.java_tree.specs.declared.tree.TypeExpr.{out-TypeExpr}
use Rattle.java_tree.specs.View.{type_plain}
use Rattle.java_tree.proofs.Views.{type_out}
use Rattle.class_world.specs.declared.world.TypeInfo.{TypeInfo}
use Rattle.rule_order.specs.declared.Breach.{Breach}
use Rattle.rule_order.specs.First.{Breaches}
use Rattle.rule_order.specs.Noted.{At, SomeOf, Adds, noted}
use Rattle.rule_order.proofs.Adding.{adds_noted}
use Rattle.rule_order.proofs.Lists.{some_none, some_more, some_append}
use Rattle.type_names.specs.declared.known.JavaNames.{JavaNames}
use Rattle.type_names.specs.Known.{File}
use Rattle.written_types.specs.Breaks.{node_of, head_of, NamesVariable, NamesType}
use Rattle.written_types.specs.declared.scope.Named.{Named}
use Rattle.written_types.specs.declared.scope.Named.TheVariants as named
use Rattle.written_types.specs.Walk.{head_named}
use Rattle.written_types.proofs.Heads.{named_variable, variable_named}
use Rattle.type_headers.specs.Declared.{Declaration, place_of}
use Rattle.super_rules.specs.Rules.{IsThrowable, IsNoThrowable}
use Rattle.super_rules.specs.Looks.{AreFlags}
use Rattle.super_rules.proofs.Edged.{head_is, names_one, names_none}

module _ (j : JavaNames) (fs : List File) (types : List TypeInfo) (x : Declaration) (y : code.TypeExpr) (m : Named) (reads : m ≡ head_named (place_of j fs types x) (out-TypeExpr y).head) where
  head_says : head_named (place_of j fs types x) (head_of (type_plain y)) ≡ m
  head_says = ap (head_named (place_of j fs types x)) (head_is y) ∙ sym reads

  pub thrown_variable : (k : ℕ) → m ≡ named.Variable k → IsNoThrowable j fs types x (type_plain y)
  thrown_variable k is = inl (variable_named (place_of j fs types x) (head_of (type_plain y)) k (head_says ∙ is))

  no_variable : ((k : ℕ) → m ≡ named.Variable k → ⊥) → NamesVariable (place_of j fs types x) (head_of (type_plain y)) → ⊥
  no_variable none h = let v = named_variable (place_of j fs types x) (head_of (type_plain y)) h in none v.0 (sym head_says ∙ v.1)

  pub thrown_type : (flags : List Bool) (n : ℕ) (set : Bool) → AreFlags flags (IsThrowable j fs types) → m ≡ named.Type n → IsTrue set ↔ (slice_get flags n ≡ Some true)
      → IsTrue (not set) ↔ IsNoThrowable j fs types x (type_plain y)
  thrown_type flags n set are is says = by set refl
    where
      one : (g : ℕ) → (n ≡ g) ↔ NamesType (place_of j fs types x) (head_of (type_plain y)) g
      one = names_one (place_of j fs types x) y m n reads is

      by : (b : Bool) → set ≡ b → IsTrue (not b) ↔ IsNoThrowable j fs types x (type_plain y)
      by true e = (
        λ never. absurd (cc never),
        λ h. elim h [
          | inl v ↦ absurd (no_variable (λ k variable. let both : named.Type n ≡ named.Variable k = sym is ∙ variable in cc both) v)
          | inr g ↦ absurd (g.2 (subst (IsThrowable j fs types) ((one g.0).1 g.1) ((are n).0 (says.0 e))))
        ],
      )
      by false e = (
        λ holds. inr (n, (one n).0 refl, λ throwable. let both : false ≡ true = sym e ∙ says.1 ((are n).1 throwable) in cc both),
        λ h. refl,
      )

  pub thrown_other : ((k : ℕ) → m ≡ named.Variable k → ⊥) → ((n : ℕ) → m ≡ named.Type n → ⊥) → IsNoThrowable j fs types x (type_plain y) → ⊥
  thrown_other variable ty (inl v) = no_variable variable v
  thrown_other variable ty (inr g) = names_none (place_of j fs types x) y m reads ty g.0 g.1

-- ---- one more of a list

pub some_push : {A : Type 0} (F : A → Breaches) (xs : List A) (x : A) (a m r : Option Breach) → Adds (SomeOf xs F) a m → Adds (F x) m r → Adds (SomeOf (xs ++ x ∷ []) F) a r
some_push F xs x a m r so_far one = some_append F xs (x ∷ []) a m r so_far (some_more F x [] m r r one (some_none F r))

-- a rule at a written type
pub noted_type : (rule : ℕ) (y : code.TypeExpr) (P : Type 0) (holds : Bool) (m r : Option Breach) → Decides holds P → r ≡ noted m rule (out-TypeExpr y).node holds
    → Adds (At rule (node_of (type_plain y)) P) m r
noted_type rule y P holds m r decides is =
    subst (Adds (At rule (node_of (type_plain y)) P) m) (sym (is ∙ ap (λ n. noted m rule n holds) (sym (ap node_of (type_out y))))) (adds_noted rule (node_of (type_plain y)) P holds m decides)
