use Rattle.std.proofs.Common.{◌∙◌, ap, map, replicate, length}
use lib.LanesLaws.{map-replicate}
use Rattle.aes_cipher.proofs.Zeros.{bits_of_zero}
use Rattle.aes_cipher.proofs.zeroize.zeroize_words.Goals as goal

pub returns : goal.returns
returns g c =
    let n = length c.args.words.now in
    let bits = g.W.Word.bits in
    let zero = c.zero.result in
    ap (map bits) c.wipe.ensures
    ∙ map-replicate bits n zero
    ∙ ap (replicate n)
    (bits_of_zero g.W.Word.BITS (bits zero) (g.met.W.Word.shape.sized zero) c.zero.ensures)
