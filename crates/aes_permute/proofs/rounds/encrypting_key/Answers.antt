use Rattle.aes_permute.proofs.DeferredRows.{shifted_back_indices, stored_is}
use Rattle.aes_permute.proofs.rounds.encrypting_key.Goals as goal

pub permuted-requires : goal.permuted-requires
permuted-requires c = record { are_indices = shifted_back_indices c.args.number }

pub returns : goal.returns
returns c = stored_is c.args.number c.args.key _ (c.blocks_have_16_bytes.ensures 0).0 (c.permuted.ensures 0)
