use Rattle.decoders.proofs.Gather.{shifted}
use Rattle.decoders.proofs.feed.power.Goals as goal

pub returns : goal.returns
returns c = shifted c.args.j c.requires
