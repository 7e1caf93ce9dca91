-- The key that the blocks are read as has as many bytes as the type says.
use Rattle.std.proofs.Common.{◌+◌, ◌/◌, ap, sym, ◌∙◌, length}
use Rattle.aes_permute.specs.Keys.{stored_keys}
use Rattle.aes_permute.proofs.KeyOfLanes.{stored_size}
use Rattle.aes_hybrid.proofs.stored_keys.EncryptionKeysStoredKeys.key_has_its_size.Goals as goal

pub returns-clause-sized : goal.returns-clause-sized
returns-clause-sized g c =
    stored_size _ _ g.K.KeySize.is_size
    (ap (λ v. length (stored_keys _ v)) (sym c.value.ensures)
    ∙ ap (λ n. length (stored_keys n c.value.result.now))
    (sym c.SIZE.ensures)
    ∙ ap length (sym c.keys_in_room.ensures.keys) ∙ c.keys_in_room.ensures.count
    ∙ ap (λ n. n / 4 + 7) c.SIZE.ensures)
    c.requires.keyed
