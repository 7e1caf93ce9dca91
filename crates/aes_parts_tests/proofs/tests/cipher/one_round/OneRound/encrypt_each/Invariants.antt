-- To encrypt the blocks that are left gives every block encrypted.
use Rattle.std.proofs.Common.{◌≡◌, [], ◌∷◌, map}
use Rattle.aes_planes.specs.Fips197.{cipher_with}
use Rattle.aes_cipher.proofs.SliceRuns.{finished}
use Rattle.aes_parts_tests.proofs.tests.cipher.one_round.OneRound.encrypt_each.Given as goal

abbrev pub invariant-loop-block : goal.invariant-loop-block
invariant-loop-block l =
    let f = cipher_with (l.self.first ∷ l.self.last ∷ []) in
    finished f l.block-index l.blocks ≡ map f l.fn.blocks
