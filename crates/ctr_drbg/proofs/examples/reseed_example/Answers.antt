-- The reseed by the three blocks that it encrypts.
use Rattle.std.proofs.Common.{ℕ, List, ap}
use Rattle.aes_planes.specs.BigEndian.{bytes}
use Rattle.aes_planes.specs.Fips197.{build, build_from}
use Rattle.ctr_drbg.specs.CtrDrbg.{State, seed_padded, exclusive_or, v_plus_one, v_after, reseed}
use Rattle.ctr_drbg.proofs.OnLiterals.{updated_by}
use Rattle.ctr_drbg.proofs.examples.reseed_example.Goals as goal

-- the entropy input plus the additional input
abbrev seed_material : List ℕ
seed_material = exclusive_or
    (bytes 48 0xa42407931bfeca70e6ee5dd197021a129525051c07468e8b25587c5ad50abe9204e882fe847b8fd47cf7b4360e5aa034)
    (bytes 48 0xee4c88d1eb05f4853663eada501d2fc4b4984b283a88db579af2113031e03d9bc570de943dd168918f3ba8065581fea7)

pub returns : goal.returns
unfolding bytes build build_from seed_padded exclusive_or v_plus_one v_after reseed
returns c =
    let known = c.encrypted_for_reseed.ensures in
    let count : State → State = λ s. record s { reseed_counter = 1 } in
    ap count (updated_by
    (bytes 32 0xa8f73953b9c86f7beb01c7d26f09e2899a53a3278e3a54ffebdc7ec61d90cb98)
    (bytes 16 0xd8fa421b2aabc209bb641195ebc2a586) seed_material
    (bytes 16 0x2b57fdd2e66e85f4af2d618e99a28dbd) (bytes 16 0xeaaa6a896a31e62af746c8d7c1d22d17)
    (bytes 16 0x484554529c541f47169de3a88c3f4794) 1 known.one known.two known.three)
