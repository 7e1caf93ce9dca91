use Rattle.aes_planes.proofs.Words.Packing.{together_typed}
use Rattle.aes_planes.proofs.soft.word.word64.columns_together.Goals as goal

pub returns-clause-typed : goal.returns-clause-typed
returns-clause-typed c = together_typed c.args.even c.args.odd
