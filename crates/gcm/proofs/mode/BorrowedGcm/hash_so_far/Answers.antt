-- Zeros behind the block that isn't whole close the additional data, or the text.
use Rattle.std.proofs.Common.{◌≡◌, ℕ, ◌/◌, ◌%◌, ◌∙◌, List, ap, arith, length, sym, take}
use Rattle.std.specs.Int.{w128, from_be_bytes}
use Rattle.aes_cipher.specs.Blocks.{padded}
use Rattle.gcm.specs.Gcm.{hash_subkey, hashed}
use Rattle.gcm.specs.Pieces.{hashed_padded}
use Rattle.gcm.proofs.Messages.InPieces.{closed}
use Rattle.gcm.proofs.mode.BorrowedGcm.hash_so_far.Goals as goal

pub returns-clause-additional : goal.returns-clause-additional
unfolding hashed_padded
returns-clause-additional g c iv a is =
    let h : ℕ = hash_subkey c.args.self.now in
    let v : ℕ = from_be_bytes w128 c.args.message.now.value in
    let number : c.number_of_block-before.result ≡ v = c.number_of_block-before.ensures.number in
    let rest : List ℕ = c.args.message.now.rest in
    let count : c.rest_length-rest_length.result ≡ length a % 16 =
    omega (arith, c.rest_length-rest_length.ensures.additional is.phase, is.additional) in
    let subkey : c.self.inside.room ≡ h = c.self.invariant ∙ ap hash_subkey c.self.view_is in
    c.hash_on.ensures
    ∙ (λ t. hashed (subkey t) (number t) (padded (take (count t) rest))
    (length (padded (take (count t) rest)) / 16))
    ∙ closed h 0 v a rest is.hashing

pub returns-clause-text : goal.returns-clause-text
returns-clause-text g c phase iv a t other is =
    let h : ℕ = hash_subkey c.args.self.now in
    let v : ℕ = from_be_bytes w128 c.args.message.now.value in
    let number : c.number_of_block-before.result ≡ v = c.number_of_block-before.ensures.number in
    let rest : List ℕ = c.args.message.now.rest in
    let count : c.rest_length-rest_length.result ≡ length t % 16 =
    omega (arith, c.rest_length-rest_length.ensures.text (λ e. other (sym is.phase ∙ e)), is.text) in
    let subkey : c.self.inside.room ≡ h = c.self.invariant ∙ ap hash_subkey c.self.view_is in
    c.hash_on.ensures
    ∙ (λ i. hashed (subkey i) (number i) (padded (take (count i) rest))
    (length (padded (take (count i) rest)) / 16))
    ∙ closed h (hashed_padded h a) v t rest is.hashing
