-- A refusal's kind from its number: numbers tell kinds apart.
use Prim.Native.Nat.{ℕ, zero, suc, ◌<◌, ◌≤◌}
use mathlib.Core.Path.{◌≡◌, refl, sym, ◌∙◌, ap}
use mathlib.Core.List.{List, [], ◌∷◌}
use native.Mathlib.Omega.{arith}
use lib.ListN.{get_or}
use Rattle.encode.specs.declared.refusal.RefusalKind.{RefusalKind}
use Rattle.encode.specs.declared.refusal.RefusalKind.TheVariants.{EndsEarly, LimitPassed, NotShortest, NoRecordLeft, BadPrefix, NullIssuance, BadFlag, EmptyWitnesses, BytesFollow, TablesDiffer, StateForged, OutpointUnclear, BadRecord, OutputShort}
use Rattle.encode.specs.Refusal.{number_of}

-- by number, from 0, which is none's
kinds : List RefusalKind
kinds = EndsEarly ∷ EndsEarly ∷ LimitPassed ∷ NotShortest ∷ NoRecordLeft ∷ BadPrefix ∷ NullIssuance ∷ BadFlag ∷ EmptyWitnesses ∷ BytesFollow ∷ TablesDiffer ∷ StateForged ∷ OutpointUnclear ∷ BadRecord ∷ OutputShort ∷ []

pub kind_of : ℕ → RefusalKind
kind_of n = get_or kinds n EndsEarly

pub kind_of_number : (k : RefusalKind) → kind_of (number_of k) ≡ k
unfolding kind_of kinds
kind_of_number EndsEarly = refl
kind_of_number LimitPassed = refl
kind_of_number NotShortest = refl
kind_of_number NoRecordLeft = refl
kind_of_number BadPrefix = refl
kind_of_number NullIssuance = refl
kind_of_number BadFlag = refl
kind_of_number EmptyWitnesses = refl
kind_of_number BytesFollow = refl
kind_of_number TablesDiffer = refl
kind_of_number StateForged = refl
kind_of_number OutpointUnclear = refl
kind_of_number BadRecord = refl
kind_of_number OutputShort = refl

pub same_kind : (k k' : RefusalKind) → number_of k ≡ number_of k' → k ≡ k'
same_kind k k' e = sym (kind_of_number k) ∙ ap kind_of e ∙ kind_of_number k'

-- each of the fourteen numbers is a kind's
pub number_of_kind : (n : ℕ) → 1 ≤ n → n ≤ 14 → number_of (kind_of n) ≡ n
unfolding kind_of kinds
number_of_kind zero l h = absurd (omega arith)
number_of_kind (suc zero) l h = refl
number_of_kind (suc (suc zero)) l h = refl
number_of_kind (suc (suc (suc zero))) l h = refl
number_of_kind (suc (suc (suc (suc zero)))) l h = refl
number_of_kind (suc (suc (suc (suc (suc zero))))) l h = refl
number_of_kind (suc (suc (suc (suc (suc (suc zero)))))) l h = refl
number_of_kind (suc (suc (suc (suc (suc (suc (suc zero))))))) l h = refl
number_of_kind (suc (suc (suc (suc (suc (suc (suc (suc zero)))))))) l h = refl
number_of_kind (suc (suc (suc (suc (suc (suc (suc (suc (suc zero))))))))) l h = refl
number_of_kind (suc (suc (suc (suc (suc (suc (suc (suc (suc (suc zero)))))))))) l h = refl
number_of_kind (suc (suc (suc (suc (suc (suc (suc (suc (suc (suc (suc zero))))))))))) l h = refl
number_of_kind (suc (suc (suc (suc (suc (suc (suc (suc (suc (suc (suc (suc zero)))))))))))) l h = refl
number_of_kind (suc (suc (suc (suc (suc (suc (suc (suc (suc (suc (suc (suc (suc zero))))))))))))) l h = refl
number_of_kind (suc (suc (suc (suc (suc (suc (suc (suc (suc (suc (suc (suc (suc (suc zero)))))))))))))) l h = refl
number_of_kind (suc (suc (suc (suc (suc (suc (suc (suc (suc (suc (suc (suc (suc (suc (suc n))))))))))))))) l h = absurd (omega arith)

-- and no kind has 0
pub number_some : (k : RefusalKind) → (1 ≤ number_of k) × (number_of k ≤ 14)
number_some EndsEarly = omega arith
number_some LimitPassed = omega arith
number_some NotShortest = omega arith
number_some NoRecordLeft = omega arith
number_some BadPrefix = omega arith
number_some NullIssuance = omega arith
number_some BadFlag = omega arith
number_some EmptyWitnesses = omega arith
number_some BytesFollow = omega arith
number_some TablesDiffer = omega arith
number_some StateForged = omega arith
number_some OutpointUnclear = omega arith
number_some BadRecord = omega arith
number_some OutputShort = omega arith
