use Rattle.aes_permute.proofs.Lookups.{indices_ok, looked_lanes}
use Rattle.aes_permute.proofs.lanes.U8x16Lanes.lookup.Goals as goal

pub swizzle : goal.swizzle
swizzle c = indices_ok c.args.self c.fits-self.0 (c.requires.are_indices 0)

pub returns : goal.returns
returns c i = looked_lanes c.args.table c.args.self c.fits-self.0 (c.requires.are_indices 0)
