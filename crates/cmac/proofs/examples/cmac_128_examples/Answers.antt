-- The subkeys by doubling what zeros are encrypted to, and each tag by the blocks that are
-- encrypted for it.
use Rattle.std.proofs.Common.{List, ℕ, [], ◌++◌, ap, ◌∙◌, refl}
use Rattle.aes_planes.specs.BigEndian.{bytes}
use Rattle.aes_planes.specs.Fips197.{build, build_from, add_round_key, key_expansion}
use Rattle.cmac.specs.Chain.{block_at, chained}
use Rattle.cmac.specs.Cmac.{doubled_block, subkey_1, subkey_2, before_last}
use Rattle.cmac.proofs.OnLiterals.{last_by, by_steps, next_step}
use Rattle.cmac.proofs.examples.cmac_128_examples.Goals as goal

-- the round keys of the examples
abbrev w : List (List ℕ)
w = key_expansion (bytes 16 0x2b7e151628aed2a6abf7158809cf4f3c)

-- what sixteen zeros are encrypted to
abbrev encrypted_zeros : List ℕ
encrypted_zeros = bytes 16 0x7df76b0c1ab899b33e42f047b91b546f

-- the messages, by their lengths: each is a beginning of the next
abbrev sixteen_bytes : List ℕ
sixteen_bytes = bytes 16 0x6bc1bee22e409f96e93d7e117393172a

abbrev thirty_two_bytes : List ℕ
thirty_two_bytes = sixteen_bytes ++ bytes 16 0xae2d8a571e03ac9c9eb76fac45af8e51

abbrev forty_bytes : List ℕ
forty_bytes = thirty_two_bytes ++ bytes 8 0x30c81c46a35ce411

abbrev sixty_four_bytes : List ℕ
sixty_four_bytes = thirty_two_bytes ++ bytes 16 0x30c81c46a35ce411e5fbc1191a0a52ef
    ++ bytes 16 0xf69f2445df4f9b17ad2b417be66c3710

pub returns-clause-first_subkey : goal.returns-clause-first_subkey
unfolding bytes build build_from subkey_1 doubled_block
returns-clause-first_subkey c = ap doubled_block c.encrypted_blocks.ensures.zeros

pub returns-clause-second_subkey : goal.returns-clause-second_subkey
unfolding bytes build build_from subkey_2 subkey_1 doubled_block
returns-clause-second_subkey c =
    ap (λ l. doubled_block (doubled_block l)) c.encrypted_blocks.ensures.zeros

pub returns-clause-of_0 : goal.returns-clause-of_0
unfolding bytes build build_from add_round_key before_last last_by doubled_block chained
returns-clause-of_0 c =
    let known = c.encrypted_blocks.ensures in
    by_steps w [] encrypted_zeros (bytes 16 0) known.zeros refl ∙ known.of_0

pub returns-clause-of_16 : goal.returns-clause-of_16
unfolding bytes build build_from add_round_key before_last last_by doubled_block chained
returns-clause-of_16 c =
    let known = c.encrypted_blocks.ensures in
    by_steps w sixteen_bytes encrypted_zeros (bytes 16 0) known.zeros refl ∙ known.of_16

pub returns-clause-of_40 : goal.returns-clause-of_40
unfolding bytes build build_from add_round_key before_last last_by doubled_block block_at chained
returns-clause-of_40 c =
    let known = c.encrypted_blocks.ensures in
    by_steps w forty_bytes encrypted_zeros (bytes 16 0xb148c17f309ee692287ae57cf12add49) known.zeros
    (next_step w forty_bytes (bytes 16 0x3ad77bb40d7a3660a89ecaf32466ef97) 1 known.first
    ∙ known.second)
    ∙ known.of_40

pub returns-clause-of_64 : goal.returns-clause-of_64
unfolding bytes build build_from add_round_key before_last last_by doubled_block block_at chained
returns-clause-of_64 c =
    let known = c.encrypted_blocks.ensures in
    by_steps w sixty_four_bytes encrypted_zeros
    (bytes 16 0xc93d11bfaf08c5dc4d90b37b4dee002b) known.zeros
    (next_step w sixty_four_bytes (bytes 16 0xb148c17f309ee692287ae57cf12add49) 2
    (next_step w sixty_four_bytes (bytes 16 0x3ad77bb40d7a3660a89ecaf32466ef97) 1 known.first
    ∙ known.second) ∙ known.third)
    ∙ known.of_64
