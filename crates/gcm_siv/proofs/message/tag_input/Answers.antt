-- The sum of hash and nonce, with the highest bit of its last byte cleared.
use Rattle.std.proofs.Common.{rules, ◌∙◌, ◌%◌, [], ◌∷◌, ◌++◌, ap, replicate, slice_index, take}
use Rattle.aes_planes.specs.Fips197.{add_round_key}
use Rattle.gcm_siv.proofs.Messages.{last_set}
use Rattle.gcm_siv.proofs.message.tag_input.Goals as goal

pub returns : goal.returns
returns c =
    last_set c.sum_of_blocks-block.result (slice_index c.sum_of_blocks-block.result 15 % 128)
    (search rules)
    ∙ ap (λ b. take 15 b ++ slice_index b 15 % 128 ∷ []) (c.sum_of_blocks-block.ensures
    ∙ ap (λ n. add_round_key c.args.sum.now (n ++ replicate 4 0)) c.copy_from_slice.ensures.after)
