-- Blocks in GCM's order are hashed as the standard says.
use Rattle.std.proofs.Common.{ℕ, ◌/◌, ◌∙◌, List, length}
use Rattle.aes_cipher.specs.Blocks.{padded}
use Rattle.gcm.proofs.Messages.Hashing.{hashed_is}
use Rattle.gcm.proofs.single_blocks.hash_on_singly.Goals as goal

pub returns : goal.returns
returns g c =
    let x : List ℕ = padded c.args.bytes.now in
    c.hash_singly.ensures ∙ hashed_is (g.F.Factor.subkey c.args.factor.now)
    (g.F.Factor.number c.args.value) x (length x / 16)
