-- J_0 of a nonce of 12 bytes, and of any other length by its hash.
use Rattle.std.proofs.Common.{ℕ, List, ◌++◌, ◌∙◌, ap, sym, bit_xor, replicate}
use Rattle.std.specs.Int.{w128, from_be_bytes}
use Rattle.gcm.specs.Gcm.{bit_length, hash_subkey, pre_counter, product}
use Rattle.gcm.proofs.Messages.Hashing.{of_twelve, of_others}
use Rattle.gcm.proofs.mode.BorrowedGcm.put_pre_counter.Goals as goal

pub returns-then-nonce-eq12 : goal.returns-then-nonce-eq12
returns-then-nonce-eq12 g c =
    ap (from_be_bytes w128) c.first_counter.ensures
    ∙ sym (of_twelve (hash_subkey c.args.self.now) c.args.nonce.now c.if-nonce-eq12.true)

pub returns-else-nonce-eq12 : goal.returns-else-nonce-eq12
unfolding bit_length
returns-else-nonce-eq12 g c =
    let h : ℕ = c.self.inside.room in
    let iv : List ℕ = c.args.nonce.now in
    c.block_of_number.ensures.back ∙ c.hash_lengths.ensures
    ∙ ap (λ y. product (bit_xor y (from_be_bytes w128 (replicate 8 0 ++ bit_length iv))) h)
    c.hash_on-value.ensures
    ∙ of_others h iv c.if-nonce-eq12.false
    ∙ ap (λ h. pre_counter h iv) (c.self.invariant ∙ ap hash_subkey c.self.view_is)
