-- What the count reader answers: the layout's own reading of one count or length, at once.
use Rattle.std.specs.Prelude.{ℕ, List, Result, Ok, Err}
use Rattle.layout.specs.Layout.{Layout, accept, Answer, finished, refused, run}
use Rattle.layout.specs.Transaction.{compact_at}
use Rattle.layout.specs.Outcome.{finish}
use Rattle.encode.specs.declared.refusal.Refusal.{Refusal}
use Rattle.encode.specs.Refusal.{number_of}

-- 01's answer for each case of the result, and so its number and place: a value is finished, 0 at 0; a refusal has its kind's number, and its place.
abbrev pub answer_of : Result ℕ Refusal → Answer ℕ
answer_of (Ok n) = finished n
answer_of (Err e) = refused (number_of e.kind) e.place

-- A count or length from byte 0 on, and the end.
abbrev pub lone : Layout ℕ
lone = compact_at 0 λ n _. accept n

-- What reading it at once answers.
abbrev pub counted : List ℕ → Answer ℕ
counted bytes = let r = run lone bytes in finish r.answer r.taken
