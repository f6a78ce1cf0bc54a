use Rattle.encoders.specs.Puts.{input_row_bytes, output_row_bytes, witness_row_bytes, output_witness_row_bytes}
use Rattle.encoders.proofs.Taking.{Turn}
use Rattle.encoders.proofs.table.Transaction.put.Given as goal

abbrev pub invariant-loop-r : goal.invariant-loop-r
invariant-loop-r g l = Turn g.S.Sink.step (input_row_bytes l.source) l.r-items l.r-index l.initial.sink l.sink

abbrev pub invariant-loop-r-2 : goal.invariant-loop-r-2
invariant-loop-r-2 g l = Turn g.S.Sink.step (output_row_bytes l.source) l.r-items l.r-index l.initial.sink l.sink

abbrev pub invariant-loop-r-3 : goal.invariant-loop-r-3
invariant-loop-r-3 g l = Turn g.S.Sink.step (witness_row_bytes l.source l.self.items.now) l.r-items l.r-index l.initial.sink l.sink

abbrev pub invariant-loop-r-4 : goal.invariant-loop-r-4
invariant-loop-r-4 g l = Turn g.S.Sink.step (output_witness_row_bytes l.source) l.r-items l.r-index l.initial.sink l.sink
