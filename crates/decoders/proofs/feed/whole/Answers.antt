use mathlib.Core.Path.{◌∙◌}
use Rattle.decoders.proofs.Gather.{two_loaded, four_loaded, eight_loaded, eight_big_loaded}
use Rattle.decoders.proofs.feed.whole.Goals as goal

pub returns-then-form-eq-BIG : goal.returns-then-form-eq-BIG
returns-then-form-eq-BIG c = eight_big_loaded c.args.form c.args.part.now c.in_ok-bytes.bytes.now _ c.if-form-eq-BIG.true c.in_ok-bytes.ensures.cases c.from_be_bytes.ensures

pub returns-in-Some : goal.returns-in-Some
returns-in-Some c = two_loaded c.args.form c.args.part.now c.in-Some.bytes.now _ c.if-form-eq-BIG.false c.in-Some.ensures.cases (c.from.ensures ∙ c.from_le_bytes.ensures)

pub returns-in-Some-as_array : goal.returns-in-Some-as_array
returns-in-Some-as_array c = four_loaded c.args.form c.args.part.now c.in-Some-as_array.bytes.now _ c.if-form-eq-BIG.false c.in-Some-as_array.ensures.cases c.from_le_bytes-in-Some-as_array.ensures

pub returns : goal.returns
returns c = eight_loaded c.args.form c.args.part.now c.in_ok-bytes-2.bytes.now _ c.if-form-eq-BIG.false c.in_ok-bytes-2.ensures.cases c.from_le_bytes-2.ensures
