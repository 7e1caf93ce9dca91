-- After one more piece of additional data the message has begun with all of it.
use Rattle.std.proofs.Common.{◌≡◌, ℕ, ◌∙◌, ◌++◌, List, ap, arith, length-append, subst, sym}
use Rattle.std.specs.Int.{w128, from_be_bytes}
use Rattle.gcm.specs.Gcm.{hash_subkey}
use Rattle.gcm.specs.Pieces.{IsHashing}
use Rattle.gcm.proofs.mode.BorrowedGcm.additional_piece.Goals as goal

pub returns-clause-added : goal.returns-clause-added
returns-clause-added g c iv a is =
    let h : ℕ = hash_subkey c.args.self.now in
    let b : List ℕ = c.args.bytes.now in
    let subkey : c.self.inside.room ≡ h = c.self.invariant ∙ ap hash_subkey c.self.view_is in
    let v : ℕ = from_be_bytes w128 c.args.message.now.value in
    let Before : ℕ → Type 0 = λ k. IsHashing k 0 a v c.args.message.now.rest in
    let After : ℕ → Type 0 = λ k. IsHashing k 0 (a ++ b)
    (from_be_bytes w128 c.hash_piece.new.value) c.hash_piece.new.rest in
    record {
      phase = is.phase;
      first = is.first;
      additional = omega (arith, is.additional, length-append a b);
      short = omega (arith, is.additional, length-append a b);
      text = is.text;
      decrypted = is.decrypted;
      hashing = subst After subkey (c.hash_piece.ensures 0 a (omega (arith, is.additional))
          (subst Before (sym subkey) is.hashing));
    }
