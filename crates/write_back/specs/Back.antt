-- What the contracts of `write_back` cite. Assumes nothing.
use Rattle.std.specs.Prelude.{ℕ, ◌≡◌, cond, List, eqb, Result, Ok, Err}
use Rattle.layout.specs.Layout as layout
use Rattle.layout.specs.Transaction as transaction
use Rattle.layout.specs.Outcome.{Tables, Sizes, strict}
use Rattle.layout.specs.Writing.{wrote, written_length, written_bytes}
use Rattle.encode.specs.declared.refusal.Refusal.{Refusal}
use Rattle.encode.specs.Refusal.{number_of}
use Rattle.write_back.specs.declared.Outcome.{Outcome}
use Rattle.write_back.specs.declared.Outcome.TheVariants.{Same, Different, Refused}

-- what is said of a walk along n written bytes, where the source has so many
abbrev pub told_of : Result ℕ ℕ → ℕ → ℕ → Outcome
told_of (Ok at) n there = cond (eqb at there) (Same n) (Different at)
told_of (Err at) n there = Different at

-- Writing refuses nothing and has so many bytes, and they are the source.
pub record Gives (h : transaction.Head) (t : Tables) (source : List ℕ) (n : ℕ) : Type 0 where
  pub passes : written_length h t source ≡ wrote n
  pub same : written_bytes h t source ≡ source

-- Whatever head, tables and source are: where writing gives the source back, Same is said, and nowhere else.
pub record Rewritten (h : transaction.Head) (t : Tables) (source : List ℕ) (r : Outcome) : Type 0 where
  pub says : (n : ℕ) → Gives h t source n → r ≡ Same n
  pub means : (n : ℕ) → r ≡ Same n → Gives h t source n

-- a refusal with number n at p is said
pub record Refuses (n p : ℕ) (r : Outcome) : Type 0 where
  pub refusal : Refusal
  pub said : r ≡ Refused refusal
  pub number : number_of refusal.kind ≡ n
  pub place : refusal.place ≡ p

-- what the program says of a strict reading: finished is Same, with the bytes taken; else its refusal
abbrev pub Says : layout.Answer transaction.Head → ℕ → Outcome → Type 0
Says (layout.finished h) taken r = r ≡ Same taken
Says layout.more taken r = Refuses 1 taken r
Says (layout.refused number place) taken r = Refuses number place r

-- the head of a strict reading that finished, with which the tables that it left give the source
pub record Returned (z : Sizes) (source : List ℕ) (t : Tables) (n : ℕ) : Type 0 where
  pub head : transaction.Head
  pub finished : (strict z source).answer ≡ layout.finished head
  pub gives : Gives head t source n

-- What is said follows from the strict reading alone: never Different, never Unwritten. And where Same is said, writing what the reading left
-- gives the source.
pub record Back (z : Sizes) (source : List ℕ) (t : Tables) (r : Outcome) : Type 0 where
  pub says : Says (strict z source).answer (strict z source).taken r
  pub means : (n : ℕ) → r ≡ Same n → Returned z source t n
