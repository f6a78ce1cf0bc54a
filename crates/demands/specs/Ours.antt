-- Our reader and writer as the page wants them: the definitions that the contracts cite (decoders/src/lib.rt, encoders/src/lib.rt), which give
-- 01's answers themselves, for the code's by `told`. Between the page and the code stand proofs/Contracts alone: what each public function promises is what
-- these two give (`New-is` to `length_is`), and it asks nothing of its caller (`new_asks_nothing` to `length_asks_nothing`).
use Rattle.layout.specs.Transaction as transaction
use Rattle.layout.specs.Writing as paper
use Rattle.decoders.specs.declared.Head.{Head}
use Rattle.decoders.specs.Machine.{State}
use Rattle.decoders.specs.Feeding.{Out, begun, pushed, ended, read_once, read_strict}
use Rattle.encoders.specs.Answers.{head_numbers}
use Rattle.demands.specs.Demands.{Call, Reader, Writer}

-- new, push_bytes, end, read, read_strict
abbrev pub called : Out → Call State
called o = record { state = o.state; outcome = record { answer = o.answer; taken = o.taken; tables = o.tables } }

abbrev pub reader : Reader State
reader =
    record {
      fresh = λ t. record { state = (begun t).state; tables = (begun t).tables };
      push = λ s t xs. called (pushed s t xs);
      end = λ s t. called (ended s t);
      once = λ t xs. read_once t xs;
      strict = λ t xs. read_strict t xs;
    }

-- head numbers as the code takes them
abbrev pub head_given : transaction.Head → Head
head_given h = record { version = h.version; flag = h.flag; inputs = h.inputs; outputs = h.outputs; items = h.items; locktime = h.locktime; bytes = h.bytes }

-- write, written_length
abbrev pub writer : Writer
writer =
    record {
      write = λ h t source out. paper.writing (head_numbers (head_given h)) t source out;
      long = λ h t source. paper.written_length (head_numbers (head_given h)) t source;
    }
