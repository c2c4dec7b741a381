-- What is known of each method without the classes.
use Rattle.std.specs.Prelude.{◌≡◌, ℕ, ◌↔◌, ◌⊎◌, true, false, List, Option, Some, None, IsTrue, slice_get, length}
use Rattle.std.specs.List.{Contains}
use Rattle.java_tree.specs.declared.tree.Mod.TheVariants as mods
use Rattle.java_tree.specs.declared.tree.Name.{Name}
use Rattle.class_world.specs.declared.world.World.{World}
use Rattle.class_world.specs.declared.world.MethodInfo.{MethodInfo}
use Rattle.class_world.specs.declared.world.JavaType.{JavaType}
use Rattle.class_world.specs.Overriding.{IsFixed, HaveOneParameterList}
use Rattle.seen_methods.specs.Closed.{AreClosed}
use Rattle.signature_numbers.specs.Steps.{Steps}
use Rattle.signature_numbers.specs.Numbers.{number_in}
use Rattle.found_methods.specs.declared.callees.Callee.{Callee}

-- a constructor, static or private
abbrev pub IsFixedBy : MethodInfo → Type 0
IsFixedBy info = (info.constructor ≡ true) ⊎ Contains info.mods mods.Static ⊎ Contains info.mods mods.Private

abbrev pub no_name : Name
no_name = record { 0 = 0 }

-- The number of a method's parameter types, where these hold no type variable and it is no constructor.
abbrev pub IsNumbered : Steps → MethodInfo → Option ℕ → Type 0
IsNumbered numbers info None = (info.constructor ≡ false) → AreClosed info.params → ⊥
IsNumbered numbers info (Some n) = (info.constructor ≡ false) × AreClosed info.params × (number_in numbers no_name info.params ≡ Some n)

abbrev pub KeepsNumbers : Steps → Steps → Type 0
KeepsNumbers old new = (a : Name) (ps : List JavaType) (n : ℕ) → number_in old a ps ≡ Some n → number_in new a ps ≡ Some n

-- what is known of one method
pub record IsCallee (numbers : Steps) (info : MethodInfo) (x : Callee) : Type 0 where
  pub owner : x.owner ≡ info.owner
  pub name : x.name ≡ info.name
  pub arity : x.arity ≡ length info.params
  pub fixed : IsTrue x.fixed ↔ IsFixedBy info
  pub params : IsNumbered numbers info x.params

-- of the first methods
abbrev pub AreCalleesFirst : World → Steps → List Callee → ℕ → Type 0
AreCalleesFirst w numbers callees i =
    (length callees ≡ i) × ((m : ℕ) (x : Callee) → slice_get callees m ≡ Some x → (info : MethodInfo) × (slice_get w.methods m ≡ Some info) × IsCallee numbers info x)

abbrev pub params_of : Option Callee → Option ℕ
params_of None = None
params_of (Some x) = x.params

-- two methods have one number
abbrev pub ShareNumber : List Callee → ℕ → ℕ → Type 0
ShareNumber callees m k = (n : ℕ) × (params_of (slice_get callees m) ≡ Some n) × (params_of (slice_get callees k) ≡ Some n)

-- what is known of all methods
pub record AreCallees (w : World) (callees : List Callee) : Type 0 where
  pub size : length callees ≡ length w.methods
  pub owner : (m : ℕ) (x : Callee) (info : MethodInfo) → slice_get callees m ≡ Some x → slice_get w.methods m ≡ Some info → x.owner ≡ info.owner
  pub called : (m : ℕ) (x : Callee) (info : MethodInfo) → slice_get callees m ≡ Some x → slice_get w.methods m ≡ Some info → (x.name ≡ info.name) × (x.arity ≡ length info.params)
  pub fixed : (m : ℕ) (x : Callee) → slice_get callees m ≡ Some x → IsTrue x.fixed ↔ IsFixed w m
  pub params : (m k : ℕ) → ShareNumber callees m k ↔ HaveOneParameterList w m k
