use Rattle.std.proofs.Common.{sym, ◌∙◌}
use Rattle.decoders.specs.Feeding.{tables}
use Rattle.gate.proofs.Hearing.{fresh_heard, line_ended, line_follows_read, line_refused_read, read_on, read_less}
use Rattle.gate.proofs.listen.Goals as goal

pub loop-n-init : goal.loop-n-init
loop-n-init c = fresh_heard (tables c.args.inputs.now c.args.outputs.now c.args.items.now) _ _ c.new-decoder.ensures

pub returns-then-n-eq0 : goal.returns-then-n-eq0
returns-then-n-eq0 c = line_ended (tables c.args.inputs.now c.args.outputs.now c.args.items.now) _ _ _ _ _ _ _ c.new-decoder.ensures c.loop-n.invariant c.end-last.ensures c.verdict-line.ensures

pub returns-then-fed-n : goal.returns-then-fed-n
returns-then-fed-n c = line_follows_read (tables c.args.inputs.now c.args.outputs.now c.args.items.now) _ (tables c.loop-n.inputs c.loop-n.outputs c.loop-n.items) _ _ _ c.in_ok-n.n _ (λ i. (c.slice_known-in-loop-n-1.given i).fits) _ c.new-decoder.ensures c.loop-n.invariant c.push_bytes-fed.ensures c.in_ok-n.ensures.bound.1 _ c.if-fed-n.true c.verdict-line-then-fed-n.ensures

pub returns-then-is_refused : goal.returns-then-is_refused
returns-then-is_refused c = line_refused_read (tables c.args.inputs.now c.args.outputs.now c.args.items.now) _ (tables c.loop-n.inputs c.loop-n.outputs c.loop-n.items) _ _ _ c.in_ok-n.n _ (λ i. (c.slice_known-in-loop-n-1.given i).fits) _ c.new-decoder.ensures c.loop-n.invariant c.push_bytes-fed.ensures c.in_ok-n.ensures.bound.1 _ (sym c.is_refused.ensures ∙ c.if-is_refused.true) c.verdict-line-then-is_refused.ensures

pub loop-n-smaller : goal.loop-n-smaller
loop-n-smaller c = read_less (tables c.args.inputs.now c.args.outputs.now c.args.items.now) _ (tables c.loop-n.inputs c.loop-n.outputs c.loop-n.items) _ _ _ c.in_ok-n.n _ (λ i. (c.slice_known-in-loop-n-1.given i).fits) _ c.new-decoder.ensures c.loop-n.invariant c.push_bytes-fed.ensures c.in_ok-n.ensures.bound.1 c.if-n-eq0.false c.if-fed-n.false

pub loop-n-preserved : goal.loop-n-preserved
loop-n-preserved c = read_on (tables c.args.inputs.now c.args.outputs.now c.args.items.now) _ (tables c.loop-n.inputs c.loop-n.outputs c.loop-n.items) _ _ _ c.in_ok-n.n _ (λ i. (c.slice_known-in-loop-n-1.given i).fits) _ c.new-decoder.ensures c.loop-n.invariant c.push_bytes-fed.ensures c.in_ok-n.ensures.bound.1 c.if-n-eq0.false c.if-fed-n.false
