-- The refusals' numbers, as the documents give them.
use Rattle.std.specs.Prelude.{◌≡◌, ℕ, ◌<◌, Result, MatchResult}
use Rattle.encode.specs.declared.refusal.RefusalKind.{RefusalKind}
use Rattle.encode.specs.declared.refusal.RefusalKind.TheVariants.{EndsEarly, LimitPassed, NotShortest, NoRecordLeft, BadPrefix, NullIssuance, BadFlag, EmptyWitnesses, BytesFollow, TablesDiffer, StateForged, OutpointUnclear, BadRecord, OutputShort}
use Rattle.encode.specs.declared.refusal.UnlistedNumber.{UnlistedNumber}

abbrev pub number_of : RefusalKind → ℕ
number_of EndsEarly = 1
number_of LimitPassed = 2
number_of NotShortest = 3
number_of NoRecordLeft = 4
number_of BadPrefix = 5
number_of NullIssuance = 6
number_of BadFlag = 7
number_of EmptyWitnesses = 8
number_of BytesFollow = 9
number_of TablesDiffer = 10
number_of StateForged = 11
number_of OutpointUnclear = 12
number_of BadRecord = 13
number_of OutputShort = 14

-- The kind with this number; an error, with the number, where none has it: 0, and above 14.
abbrev pub Decodes : ℕ → Result RefusalKind UnlistedNumber → Type 0
Decodes n r = MatchResult r (λ kind. number_of kind ≡ n) (λ e. (e.0 ≡ n) × ((kind : RefusalKind) → number_of kind ≡ n → ⊥))
