use Rattle.std.proofs.Common.{refl}
use Rattle.key_wrap.proofs.Padding.{compared}
use Rattle.key_wrap.proofs.padded.difference.Goals as goal

pub returns : goal.returns
returns c =
    let numbers = c.numbers_of-first in
    compared c.args.check.now c.told-check c.fits-check c.args.others.now
    numbers.result.0 numbers.result.1 _
    c.last_bytes-last.result numbers.ensures.first numbers.ensures.second c.requires.some
    c.requires.few refl
    c.last_bytes-last.ensures
