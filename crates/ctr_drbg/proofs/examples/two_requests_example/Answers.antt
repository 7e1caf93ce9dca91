-- The instantiation and both requests by the blocks that they encrypt.
use Rattle.std.proofs.Common.{ap, take, replicate}
use Rattle.aes_planes.specs.BigEndian.{bytes}
use Rattle.aes_planes.specs.Fips197.{build, build_from}
use Rattle.ctr_drbg.specs.CtrDrbg.{State, seed_padded, exclusive_or, v_plus_one, v_after, temp_after, blocks_for}
use Rattle.ctr_drbg.specs.CtrDrbg.{output, instantiate, prepared, returned_bits, generate}
use Rattle.ctr_drbg.proofs.OnLiterals.{updated_by}
use Rattle.ctr_drbg.proofs.examples.two_requests_example.Goals as goal

pub returns-clause-seeded : goal.returns-clause-seeded
unfolding bytes build build_from seed_padded exclusive_or v_plus_one v_after instantiate
returns-clause-seeded c =
    let known = c.encrypted_blocks.ensures in
    updated_by (replicate 32 0) (replicate 16 0)
    (bytes 48 0xdf5d73faa468649edda33b5cca79b0b05600419ccb7a879ddfec9db32ee494e5531b51de16a30f769262474c73bec010)
    (bytes 16 0x530f8afbc74536b9a963b4f1c4cb738b) (bytes 16 0xcea7403d4d606b6e074ec5d3baf39d18)
    (bytes 16 0x726003ca37a62a74d1a2f58e7506358e) 1 known.one known.two known.three

pub returns-clause-first : goal.returns-clause-first
unfolding bytes build build_from seed_padded exclusive_or v_plus_one v_after blocks_for prepared generate
returns-clause-first c =
    let known = c.encrypted_blocks.ensures in
    let count : State → State = λ s. record s { reseed_counter = 2 } in
    ap count (updated_by
    (bytes 32 0x8c52f901632d522774c08fad0eb2c33b98a701a1861aecf3d8a25860941709fd)
    (v_after (bytes 16 0x217b52142105250243c0b2c206b8f59e) 4) (replicate 48 0)
    (bytes 16 0x72f4af5c93258eb3eeec8c0cacea6c1d) (bytes 16 0x1978a4fad44312725f1ac43b167f2d52)
    (bytes 16 0xe86f6d07dfb551cebad80e6bf6830ac4) 1 known.five known.six known.seven)

pub returns-clause-second : goal.returns-clause-second
unfolding bytes v_plus_one v_after temp_after blocks_for output prepared returned_bits
returns-clause-second c = ap (take 16) c.encrypted_blocks.ensures.first

pub returns-clause-short : goal.returns-clause-short
unfolding bytes v_plus_one v_after temp_after blocks_for output prepared returned_bits
returns-clause-short c = ap (take 5) c.encrypted_blocks.ensures.first
