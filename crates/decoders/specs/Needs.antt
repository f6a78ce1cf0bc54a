-- What private functions need of each other: nothing public cites it, and no promise depends on it.
use Rattle.std.specs.Prelude.{ℕ, ◌+◌, ◌-◌, ◌^◌, ◌<◌, ◌≤◌, min, ◌≡◌, Bool, true, false, cond, not, Result, MatchResult, List, eqb, leb, ltb, length, take, Option, MatchOption}
use Rattle.layout.specs.Outcome.{Tables, Outcome}
use Rattle.layout.specs.Number.{value, little, big}
use Rattle.encode.specs.declared.refusal.RefusalKind.{RefusalKind}
use Rattle.encode.specs.Refusal.{number_of}
use Rattle.decoders.specs.declared.Sizes.{Sizes}
use Rattle.decoders.specs.declared.Table.{Table}
use Rattle.decoders.specs.declared.Table.TheVariants.{Input, Output, Item}
use Rattle.decoders.specs.declared.Entered.{Entered}
use Rattle.decoders.specs.declared.Head.{Head}
use Rattle.decoders.specs.declared.Answer.TheVariants.{Refused}
use Rattle.decoders.specs.declared.Fed.{Fed}
use Rattle.layout.specs.Transaction.{limit, least}
use Rattle.decoders.specs.declared.Settled.{Settled}
use Rattle.decoders.specs.Stages.{RANGE_PROOF, FINISHED, REFUSED}
use Rattle.decoders.specs.Machine.{OPAQUE, BIG, State, Machine, machine, fed, first_settled, further_settled}
use Rattle.decoders.specs.Range.{in_range}
use Rattle.decoders.specs.Feeding.{sizes_of, Out, begun, gate, finish}

-- a finished state's head numbers, as the code has them
abbrev pub head_told : State → Head
head_told s =
    record {
      version = s.counts.version;
      flag = s.counts.flag;
      inputs = s.counts.inputs;
      outputs = s.counts.outputs;
      items = s.counts.items;
      locktime = s.counts.locktime;
      bytes = s.taken;
    }

-- a count or length by its form: 0 its further bytes, else its first. Where it starts, what a first byte announces, what is not shortest.
abbrev pub count_start : ℕ → ℕ → ℕ → ℕ
count_start form width taken = cond (eqb form 0) (taken - width - 1) (taken - 1)

abbrev pub count_announces : ℕ → ℕ → Bool
count_announces form n = cond (eqb form 0) false (ltb 252 n)

abbrev pub count_long : ℕ → ℕ → ℕ → Bool
count_long form width n = cond (eqb form 0) (not (leb (least width) n)) false

abbrev pub count_settled : ℕ → State → Settled
count_settled form s = cond (eqb form 0) (further_settled s) (first_settled s)

-- a number, and that it is small, so that sums of such numbers fit
pub record Sized (most r v : ℕ) : Type 0 where
  pub is : r ≡ v
  pub small : r ≤ most

-- what the range test's sums need so that they fit: what a finished state's first tests have shown
pub record Ending (i o n t : ℕ) : Type 0 where
  pub inputs : i ≤ limit
  pub outputs : o ≤ limit
  pub items : n ≤ limit
  pub taken : t ≤ limit

abbrev pub Endable : State → Type 0
Endable s = Ending s.counts.inputs s.counts.outputs s.counts.items s.taken

-- and of a refused state's: its number is a refusal's of a reading, and its place lies within the bytes taken
pub record Numbered (s : State) : Type 0 where
  pub some : 1 ≤ s.field.value
  pub few : s.field.value ≤ 8
  pub place : s.field.have ≤ s.taken

-- how many numbers the table of an entry holds
abbrev pub size_by : Table → Sizes → ℕ
size_by Input z = z.inputs
size_by Output z = z.outputs
size_by Item z = z.items

-- what the code needs of an entry: its places lie in a table of n numbers, and its numbers fit a u32
pub record Storable (e : Entered) (n : ℕ) : Type 0 where
  pub at : e.at < n
  pub number : e.number < 2 ^ 32
  pub next : MatchOption e.next (Unit {0}) (λ m. (e.at + 1 < n) × (m < 2 ^ 32))

abbrev pub Enterable : Option Entered → Sizes → Type 0
Enterable e z = MatchOption e (Unit {0}) (λ x. Storable x (size_by x.table z))

-- what the code needs while it gathers: a number has at most 8 bytes, and its value so far is below 256 ^ have
pub record Worthy (form value have b : ℕ) : Type 0 where
  pub looked : form ≡ OPAQUE → ⊥
  pub number : have < 8
  pub below : value < 256 ^ have
  pub byte : b < 256

pub record Gathers (form value have n : ℕ) : Type 0 where
  pub number : (form ≡ OPAQUE → ⊥) → have + n ≤ 8
  pub below : value < 256 ^ have

-- what all bytes of a number make, by its form
abbrev pub whole : ℕ → List ℕ → ℕ
whole form xs = cond (eqb form BIG) (value big xs) (value little xs)

pub record Fits (k : ℕ) (s : State) : Type 0 where
  pub have : s.field.have + k ≤ limit
  pub taken : s.taken + k ≤ limit

-- and while it feeds: a state within its range that is not ended, tables of its sizes, and a byte at least
pub record Feeds (s : State) (t : Tables) (xs : List ℕ) : Type 0 where
  pub range : in_range s ≡ true
  pub runs : s.field.stage ≤ RANGE_PROOF
  pub sizes : s.sizes ≡ sizes_of t
  pub some : 0 < length xs

pub record Starts (s : State) (t : Tables) : Type 0 where
  pub range : in_range s ≡ true
  pub sizes : s.sizes ≡ sizes_of t

-- the bytes that belong to the field that is open
abbrev pub ours : State → List ℕ → List ℕ
ours s xs = take (min (s.field.width - s.field.have) (length xs)) xs

-- what the code needs to show a head: its numbers fit a u32
pub record Headed (s : State) : Type 0 where
  pub version : s.counts.version < 2 ^ 32
  pub flag : s.counts.flag < 2 ^ 32
  pub inputs : s.counts.inputs < 2 ^ 32
  pub outputs : s.counts.outputs < 2 ^ 32
  pub items : s.counts.items < 2 ^ 32
  pub locktime : s.counts.locktime < 2 ^ 32
  pub bytes : s.taken < 2 ^ 32

-- and to answer: a refused state's number is a kind's
abbrev pub Listed : ℕ → Type 0
Listed n = (kind : RefusalKind) × (number_of kind ≡ n)

pub record Closes (s : State) : Type 0 where
  pub headed : s.field.stage ≡ FINISHED → Headed s
  pub listed : s.field.stage ≡ REFUSED → Listed s.field.value

-- the gate lets a call through, or it refuses a misuse by its kind
abbrev pub Gated : State → Sizes → Result (Unit {0}) RefusalKind → Type 0
Gated s z r = MatchResult r (λ _. gate s z ≡ 0) (λ kind. number_of kind ≡ gate s z)

abbrev pub misused : RefusalKind → State → Fed
misused kind s = record { decoder = s; taken = 0; answer = Refused (record { kind = kind; place = 0 }) }

-- a fresh start fed all bytes at once, and finished
abbrev pub through : Tables → List ℕ → Machine
through t xs = machine (finish (fed (begun t) xs).state) (fed (begun t) xs).tables

-- what a call that ends shows, without its state
abbrev pub outcome_of : Out → Outcome
outcome_of o = record { answer = o.answer; taken = o.taken; tables = o.tables }
