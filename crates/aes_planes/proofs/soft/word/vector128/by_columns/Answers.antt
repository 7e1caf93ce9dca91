use Rattle.aes_planes.proofs.Words.Packing.{by_columns_typed}
use Rattle.aes_planes.proofs.soft.word.vector128.by_columns.Goals as goal

pub returns-clause-typed : goal.returns-clause-typed
returns-clause-typed c = by_columns_typed c.args.x c.fits-x.0 c.fits-x.1
