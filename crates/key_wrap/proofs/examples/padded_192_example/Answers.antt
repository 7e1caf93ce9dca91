use Rattle.std.proofs.Common.{◌∷◌, [], ap, drop, take}
use Rattle.aes_planes.specs.BigEndian.{bytes}
use Rattle.key_wrap.specs.Padded.{block_or_steps, semiblock_count, headed, heading, padded, semiblocks}
use Rattle.key_wrap.specs.Padded.{wrapped_padded, wrapped_string}
use Rattle.key_wrap.proofs.examples.padded_192_example.Goals as goal

pub returns : goal.returns
unfolding bytes wrapped_padded wrapped_string block_or_steps headed heading padded semiblock_count semiblocks
returns c = ap (λ b. take 8 b ∷ drop 8 b ∷ []) c.encrypted_padded_block.ensures
