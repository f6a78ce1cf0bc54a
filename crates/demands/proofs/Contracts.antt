-- From the contracts to the page. `Post` is a public function's promise, as the check reads it off its clauses; it speaks of the lifetimes, the
-- arguments, the result, and the arguments at exit. Where it holds, the result and what the function leaves are what our reader or our
-- writer gives: so what is proved of those two is true of the code.
use mathlib.Core.Path.{◌≡◌, ap}
use Rattle.decoders.specs.declared.Fed.{Fed}
use Rattle.decoders.specs.declared.Read.{Read}
use Rattle.decoders.specs.Machine.{State, Machine}
use Rattle.decoders.specs.Feeding.{out_of, tables, whole_of}
use Rattle.decoders.proofs.TransactionDecoder.new.Reads as new
use Rattle.decoders.proofs.TransactionDecoder.push_bytes.Reads as push
use Rattle.decoders.proofs.TransactionDecoder.end.Reads as end
use Rattle.decoders.proofs.TransactionDecoder.read.Reads as read
use Rattle.decoders.proofs.TransactionDecoder.read_strict.Reads as strict
use Prim.Native.Nat.{ℕ}
use Rattle.std.proofs.Common.{Result}
use Rattle.encode.specs.declared.refusal.Refusal.{Refusal}
use Rattle.encoders.specs.Answers as answers
use Rattle.encoders.specs.Answers.{head_numbers}
use Rattle.encoders.proofs.write.Reads as write
use Rattle.encoders.proofs.written_length.Reads as length
use Rattle.demands.specs.Ours.{called, reader, writer}

pub new_is : (κ : _) (args : _) (r : State) (exit : _) → new.Post κ args r exit → record { state = r; tables = tables exit.0.now exit.1.0.now exit.1.1.0.now } ≡ reader.fresh (tables args.0.now args.1.0.now args.1.1.0.now)
new_is κ args r exit p = ap (λ (m : Machine). record { state = m.state; tables = m.tables }) p

pub push_is : (κ : _) (args : _) (r : Fed) (exit : _) → push.Post κ args r exit → called (out_of r (tables exit.1.1.0.now exit.1.1.1.0.now exit.1.1.1.1.0.now)) ≡ reader.push args.0 (tables args.1.1.0.now args.1.1.1.0.now args.1.1.1.1.0.now) args.1.0.now
push_is κ args r exit p = ap called p

pub end_is : (κ : _) (args : _) (r : Fed) (exit : _) → end.Post κ args r exit → called (out_of r (tables exit.1.0.now exit.1.1.0.now exit.1.1.1.0.now)) ≡ reader.end args.0 (tables args.1.0.now args.1.1.0.now args.1.1.1.0.now)
end_is κ args r exit p = ap called p

pub read_is : (κ : _) (args : _) (r : Read) (exit : _) → read.Post κ args r exit → whole_of r (tables exit.1.0.now exit.1.1.0.now exit.1.1.1.0.now) ≡ reader.once (tables args.1.0.now args.1.1.0.now args.1.1.1.0.now) args.0.now
read_is κ args r exit p = p

pub strict_is : (κ : _) (args : _) (r : Read) (exit : _) → strict.Post κ args r exit → whole_of r (tables exit.1.0.now exit.1.1.0.now exit.1.1.1.0.now) ≡ reader.strict (tables args.1.0.now args.1.1.0.now args.1.1.1.0.now) args.0.now
strict_is κ args r exit p = p

pub write_is : (κ : _) (args : _) (r : Result ℕ Refusal) (exit : _) → write.Post κ args r exit → answers.out_of r exit.1.1.1.1.1.0.now ≡ writer.write (head_numbers args.0) (tables args.1.0.now args.1.1.0.now args.1.1.1.0.now) args.1.1.1.1.0.now args.1.1.1.1.1.0.now
write_is κ args r exit p = p

pub length_is : (κ : _) (args : _) (r : Result ℕ Refusal) (exit : _) → length.Post κ args r exit → answers.told r ≡ writer.long (head_numbers args.0) (tables args.1.0.now args.1.1.0.now args.1.1.1.0.now) args.1.1.1.1.0.now
length_is κ args r exit p = p

-- And none asks anything of its caller: "It never trusts the caller."
pub new_asks_nothing : (κ : _) (args : _) → new.Pre κ args
new_asks_nothing κ args = tt

pub push_asks_nothing : (κ : _) (args : _) → push.Pre κ args
push_asks_nothing κ args = tt

pub end_asks_nothing : (κ : _) (args : _) → end.Pre κ args
end_asks_nothing κ args = tt

pub read_asks_nothing : (κ : _) (args : _) → read.Pre κ args
read_asks_nothing κ args = tt

pub strict_asks_nothing : (κ : _) (args : _) → strict.Pre κ args
strict_asks_nothing κ args = tt

pub write_asks_nothing : (κ : _) (args : _) → write.Pre κ args
write_asks_nothing κ args = tt

pub length_asks_nothing : (κ : _) (args : _) → length.Pre κ args
length_asks_nothing κ args = tt
