-- After one more piece the message has all of its text hashed.
use Rattle.std.proofs.Common.{◌≡◌, ℕ, ◌∙◌, ◌++◌, List, ap, arith, length-append, subst, sym}
use Rattle.std.specs.Int.{w128, from_be_bytes}
use Rattle.gcm.specs.Gcm.{hash_subkey}
use Rattle.gcm.specs.Pieces.{hashed_padded, IsHashing}
use Rattle.gcm.proofs.mode.BorrowedGcm.hash_text.Goals as goal

pub returns : goal.returns
returns g c phase iv a t is =
    let h : ℕ = hash_subkey c.args.self.now in
    let y : ℕ = hashed_padded h a in
    let b : List ℕ = c.args.text.now in
    let subkey : c.self.inside.room ≡ h = c.self.invariant ∙ ap hash_subkey c.self.view_is in
    let v : ℕ = from_be_bytes w128 c.args.message.now.value in
    let Before : ℕ → Type 0 = λ k. IsHashing k y t v c.args.message.now.rest in
    let After : ℕ → Type 0 = λ k. IsHashing k y (t ++ b)
    (from_be_bytes w128 c.hash_piece.new.value) c.hash_piece.new.rest in
    record {
      phase = is.phase;
      first = is.first;
      additional = is.additional;
      short = is.short;
      text = omega (arith, is.text, length-append t b);
      short_text = omega (arith, is.text, length-append t b);
      decrypted = is.decrypted;
      hashing = subst After subkey (c.hash_piece.ensures y t (omega (arith, is.text))
          (subst Before (sym subkey) is.hashing));
    }
