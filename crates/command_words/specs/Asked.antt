-- A request as the words that it has.
use Rattle.std.specs.Prelude.{◌≡◌, ◌<◌, ℕ, List, [], ◌∷◌, map}
use Rattle.std.specs.String.{string_bytes}
use Rattle.command_words.specs.declared.table.Sections.{Sections}
use Rattle.command_words.specs.declared.request.Request.{Request}
use Rattle.command_words.specs.declared.request.Reading.{Reading}
use Rattle.command_words.specs.declared.request.Reading.TheVariants.{Usage, Asked}
use Rattle.command_words.specs.declared.request.Generalize.{Generalize}
use Rattle.command_words.specs.declared.request.PlaceWords.{PlaceWords}
use Rattle.command_words.specs.declared.request.ExtractWords.{ExtractWords}
use Rattle.command_words.specs.Names.{IsNumber}
use Rattle.command_words.specs.Table.{word_of, takes_files, Parts, parts_of}
use Rattle.command_words.specs.Rules.{Meets, IsLowest}

abbrev pub parts_in : Sections → Parts
parts_in s = record {
  own = map string_bytes s.own.now;
  dashed = s.dashed;
  users = map string_bytes s.users.now;
  libs = map string_bytes s.libs.now;
}

abbrev pub parts : Request → Parts
parts r = record {
  own = map string_bytes r.own.now;
  dashed = takes_files r.command;
  users = map string_bytes r.users.now;
  libs = map string_bytes r.libs.now;
}

-- The words break no rule, and the request has their parts.
pub record Asks (words : List (List ℕ)) (r : Request) : Type 0 where
  pub rest : List (List ℕ)
  pub are : words ≡ word_of r.command ∷ rest
  pub parts_are : parts_of rest ≡ parts r
  pub meets : (n : ℕ) → Meets r.command (parts r) n

-- a rule that is broken, or else the request
abbrev pub MeetsReading : List (List ℕ) → Reading → Type 0
MeetsReading words (Usage n) = IsLowest words n
MeetsReading words (Asked r) = Asks words r

-- the words OUT FILE LINE COL TYPE
pub record AreNamed (own : List (List ℕ)) (g : Generalize) : Type 0 where
  pub line : List ℕ
  pub col : List ℕ
  pub are : own ≡ g.out.now ∷ g.file.now ∷ line ∷ col ∷ g.ty.now ∷ []
  pub at_line : IsNumber line g.line × (0 < g.line)
  pub at_col : IsNumber col g.col × (0 < g.col)

-- the words FILE LINE COL
pub record ArePlaceWords (own : List (List ℕ)) (g : PlaceWords) : Type 0 where
  pub line : List ℕ
  pub col : List ℕ
  pub are : own ≡ g.file.now ∷ line ∷ col ∷ []
  pub at_line : IsNumber line g.line × (0 < g.line)
  pub at_col : IsNumber col g.col × (0 < g.col)

-- the words OUT CLASS NEWNAME METHOD ..
abbrev pub AreExtractWords : (own : List (List ℕ)) → ExtractWords → Type 0
AreExtractWords own g = own ≡ g.out.now ∷ g.class.now ∷ g.name.now ∷ map string_bytes g.methods.now
