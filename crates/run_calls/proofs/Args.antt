-- Built-in members by how many arguments they are given.
use Rattle.std.proofs.Common.{◌≡◌, ◌≢◌, ◌<◌, Bool, true, false, List, [], ◌∷◌, length, get_or, refl, arith}
use Rattle.core_meaning.specs.declared.values.Value.{Value}
use Rattle.core_meaning.specs.declared.values.State.{State}
use Rattle.core_meaning.specs.declared.built_ins.BuiltIn.{BuiltIn}
use Rattle.core_meaning.specs.declared.built_ins.BuiltIn.TheVariants as b
use Rattle.core_meaning.specs.Outcome.{Outcome, misfit}
use Rattle.core_meaning.specs.Variables.{Place}
use Rattle.core_meaning.specs.Members.{performed, plain, speaking, with_one}

pub of_one : {A : Type 0} (xs : List A) (d : A) → length xs ≡ 1 → xs ≡ get_or xs 0 d ∷ []
of_one [] d e = absurd (omega (arith, e))
of_one (x ∷ []) d e = refl
of_one (x ∷ y ∷ xs) d e = absurd (omega (arith, e))

pub of_two : {A : Type 0} (xs : List A) (d : A) → length xs ≡ 2 → xs ≡ get_or xs 0 d ∷ get_or xs 1 d ∷ []
of_two [] d e = absurd (omega (arith, e))
of_two (x ∷ []) d e = absurd (omega (arith, e))
of_two (x ∷ y ∷ []) d e = refl
of_two (x ∷ y ∷ z ∷ xs) d e = absurd (omega (arith, e))

-- none takes more than two
more : (m : BuiltIn) (a x y z : Value) (xs : List Value) (s : State) → plain m a (x ∷ y ∷ z ∷ xs) s ≡ misfit s
more b.NewObject a x y z xs s = refl
more (b.NewThrowable false) a x y z xs s = refl
more (b.NewThrowable true) a x y z xs s = refl
more b.ObjectToString a x y z xs s = refl
more b.ObjectEquals a x y z xs s = refl
more b.ObjectHashCode a x y z xs s = refl
more b.Length a x y z xs s = refl
more b.CharAt a x y z xs s = refl
more b.SubstringFrom a x y z xs s = refl
more b.SubstringBetween a x y z xs s = refl
more b.CompareTo a x y z xs s = refl
more b.StringEquals a x y z xs s = refl
more b.StringHashCode a x y z xs s = refl
more b.StringToString a x y z xs s = refl
more (b.Print line) a x y z xs s = refl
more (b.PrintChars line) a x y z xs s = refl
more b.PrintLine a x y z xs s = refl
more b.GetMessage a x y z xs s = refl
more b.ThrowableToString a x y z xs s = refl

pub of_more : (m : BuiltIn) (a : Value) (xs : List Value) (s : State) → 2 < length xs → plain m a xs s ≡ misfit s
of_more m a [] s h = absurd (omega (arith, h))
of_more m a (x ∷ []) s h = absurd (omega (arith, h))
of_more m a (x ∷ y ∷ []) s h = absurd (omega (arith, h))
of_more m a (x ∷ y ∷ z ∷ xs) s h = more m a x y z xs s

-- none that calls something takes an argument
speaks : (p : Place) (m : BuiltIn) (a x : Value) (xs : List Value) (s : State) → speaking p m a (x ∷ xs) s ≡ plain m a (x ∷ xs) s
speaks p b.NewObject a x xs s = refl
speaks p (b.NewThrowable false) a x xs s = refl
speaks p (b.NewThrowable true) a x xs s = refl
speaks p b.ObjectToString a x xs s = refl
speaks p b.ObjectEquals a x xs s = refl
speaks p b.ObjectHashCode a x xs s = refl
speaks p b.Length a x xs s = refl
speaks p b.CharAt a x xs s = refl
speaks p b.SubstringFrom a x xs s = refl
speaks p b.SubstringBetween a x xs s = refl
speaks p b.CompareTo a x xs s = refl
speaks p b.StringEquals a x xs s = refl
speaks p b.StringHashCode a x xs s = refl
speaks p b.StringToString a x xs s = refl
speaks p (b.Print line) a x xs s = refl
speaks p (b.PrintChars line) a x xs s = refl
speaks p b.PrintLine a x xs s = refl
speaks p b.GetMessage a x xs s = refl
speaks p b.ThrowableToString a x xs s = refl

pub speaks_plain : (p : Place) (m : BuiltIn) (a : Value) (xs : List Value) (s : State) → xs ≢ [] → speaking p m a xs s ≡ plain m a xs s
speaks_plain p m a [] s some = absurd (some refl)
speaks_plain p m a (x ∷ xs) s some = speaks p m a x xs s

pub performs_speaking : (p : Place) (m : BuiltIn) (a : Value) (xs : List Value) (s : State) → ((line : Bool) → m ≢ b.Print line) → performed p m a xs s ≡ speaking p m a xs s
performs_speaking p b.NewObject a xs s other = refl
performs_speaking p (b.NewThrowable false) a xs s other = refl
performs_speaking p (b.NewThrowable true) a xs s other = refl
performs_speaking p b.ObjectToString a xs s other = refl
performs_speaking p b.ObjectEquals a xs s other = refl
performs_speaking p b.ObjectHashCode a xs s other = refl
performs_speaking p b.Length a xs s other = refl
performs_speaking p b.CharAt a xs s other = refl
performs_speaking p b.SubstringFrom a xs s other = refl
performs_speaking p b.SubstringBetween a xs s other = refl
performs_speaking p b.CompareTo a xs s other = refl
performs_speaking p b.StringEquals a xs s other = refl
performs_speaking p b.StringHashCode a xs s other = refl
performs_speaking p b.StringToString a xs s other = refl
performs_speaking p (b.Print line) a xs s other = absurd (other line refl)
performs_speaking p (b.PrintChars line) a xs s other = refl
performs_speaking p b.PrintLine a xs s other = refl
performs_speaking p b.GetMessage a xs s other = refl
performs_speaking p b.ThrowableToString a xs s other = refl

pub not_one : (xs : List Value) (s : State) (f : Value → Outcome Value) → length xs ≢ 1 → with_one xs s f ≡ misfit s
not_one [] s f h = refl
not_one (x ∷ []) s f h = absurd (h refl)
not_one (x ∷ y ∷ xs) s f h = refl

pub speaks_others : (p : Place) (m : BuiltIn) (a : Value) (xs : List Value) (s : State) → m ≢ b.ObjectToString → m ≢ b.ThrowableToString
    → speaking p m a xs s ≡ plain m a xs s
speaks_others p b.NewObject a xs s no_object no_throwable = refl
speaks_others p (b.NewThrowable false) a xs s no_object no_throwable = refl
speaks_others p (b.NewThrowable true) a xs s no_object no_throwable = refl
speaks_others p b.ObjectToString a xs s no_object no_throwable = absurd (no_object refl)
speaks_others p b.ObjectEquals a xs s no_object no_throwable = refl
speaks_others p b.ObjectHashCode a xs s no_object no_throwable = refl
speaks_others p b.Length a xs s no_object no_throwable = refl
speaks_others p b.CharAt a xs s no_object no_throwable = refl
speaks_others p b.SubstringFrom a xs s no_object no_throwable = refl
speaks_others p b.SubstringBetween a xs s no_object no_throwable = refl
speaks_others p b.CompareTo a xs s no_object no_throwable = refl
speaks_others p b.StringEquals a xs s no_object no_throwable = refl
speaks_others p b.StringHashCode a xs s no_object no_throwable = refl
speaks_others p b.StringToString a xs s no_object no_throwable = refl
speaks_others p (b.Print line) a xs s no_object no_throwable = refl
speaks_others p (b.PrintChars line) a xs s no_object no_throwable = refl
speaks_others p b.PrintLine a xs s no_object no_throwable = refl
speaks_others p b.GetMessage a xs s no_object no_throwable = refl
speaks_others p b.ThrowableToString a xs s no_object no_throwable = absurd (no_throwable refl)
