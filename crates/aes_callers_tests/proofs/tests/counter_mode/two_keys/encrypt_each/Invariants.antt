-- To encrypt the blocks that are left gives every block encrypted.
use Rattle.std.proofs.Common.{◌≡◌, [], ◌∷◌, map}
use Rattle.aes_planes.specs.Fips197.{cipher_with}
use Rattle.aes_cipher.proofs.SliceRuns.{finished}
use Rattle.aes_callers_tests.proofs.tests.counter_mode.two_keys.encrypt_each.Given as goal

abbrev pub invariant-loop-block : goal.invariant-loop-block
invariant-loop-block l =
    let f = cipher_with (l.cipher.first ∷ l.cipher.last ∷ []) in
    finished f l.block-index l.blocks ≡ map f l.fn.blocks
