use Rattle.key_wrap.proofs.Padding.{heading_back}
use Rattle.key_wrap.proofs.padded.length_in.Goals as goal

pub returns : goal.returns
returns c =
    heading_back c.args.check.now c.told-check c.fits-check c.numbers_of-bytes.result.1 c.requires
    c.numbers_of-bytes.ensures.second
