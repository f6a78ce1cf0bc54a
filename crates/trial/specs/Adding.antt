-- What a reading in pieces keeps of its calls: the state and the answer are the last one's, and the bytes taken add up.
use Rattle.std.specs.Prelude.{ℕ, ◌+◌, ◌%◌, ◌^◌}
use Rattle.decoders.specs.declared.Fed.{Fed}
use Rattle.decoders.specs.declared.Answer.TheVariants.{More}
use Rattle.decoders.specs.Machine.{State, Machine}
use Rattle.decoders.specs.Feeding.{Out, out, out_of}

-- a call behind others that took so many bytes: what it hands back, and what is promised of it
abbrev pub added : ℕ → Fed → Fed
added n r = record { decoder = r.decoder; taken = (n + r.taken) % 2 ^ 64; answer = r.answer }

abbrev pub behind : ℕ → Out → Out
behind n o = out o.state ((n + o.taken) % 2 ^ 64) o.answer o.tables

-- a fresh start
abbrev pub unfed : State → Fed
unfed s = record { decoder = s; taken = 0; answer = More }

abbrev pub fresh_of : Machine → Out
fresh_of m = out_of (unfed m.state) m.tables
