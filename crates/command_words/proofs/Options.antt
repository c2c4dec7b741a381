-- What one clause says of an `Option`, in two.
use Rattle.std.proofs.Common.{Option, Some, None}
use Rattle.std.specs.Prelude.{MatchOption, IfSome, IfNone}

pub match_some : {A : Type 0} (r : Option A) (P : Type 0) (Q : A → Type 0) → MatchOption r P Q → IfSome r Q
match_some None P Q h = tt
match_some (Some x) P Q h = h

pub match_none : {A : Type 0} (r : Option A) (P : Type 0) (Q : A → Type 0) → MatchOption r P Q → IfNone r P
match_none None P Q h = h
match_none (Some x) P Q h = tt

pub none_map : {A : Type 0} (r : Option A) (P Q : Type 0) → (P → Q) → IfNone r P → IfNone r Q
none_map None P Q f h = f h
none_map (Some x) P Q f h = tt
