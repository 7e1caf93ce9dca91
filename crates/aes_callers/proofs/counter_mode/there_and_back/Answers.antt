-- Sender and receiver have one keystream, which summed twice gives the message back.
use Rattle.std.proofs.Common.{◌≡◌, ◌∙◌, ap}
use Rattle.aes_planes.specs.Fips197 as fips
use Rattle.aes_ctr.specs.CounterMode.{keystream_byte, plus_stream}
use Rattle.aes_ctr.proofs.Sums.{summed_twice}
use Rattle.aes_callers.proofs.counter_mode.there_and_back.Goals as goal

pub returns-clause-back : goal.returns-clause-back
returns-clause-back g c =
    let w = fips.key_expansion (g.C.KeySizeUser.key_bytes c.args.key.now) in
    let stream = keystream_byte w c.args.iv in
    let sender : c.new-sender.result.round_keys ≡ w =
    c.new-sender.ensures.round_keys ∙ g.met.C.KeyInit.expanded c.new.result
    ∙ ap fips.key_expansion c.new.ensures in
    let receiver : c.new-receiver.result.round_keys ≡ w =
    c.new-receiver.ensures.round_keys ∙ g.met.C.KeyInit.expanded c.new-2.result
    ∙ ap fips.key_expansion c.new-2.ensures
    in
    let there : c.try_apply.new.bytes ≡ plus_stream stream 0 c.args.message.now =
    c.in_ok-try_apply.ensures.added
    ∙ (λ i. plus_stream (keystream_byte (sender i) (c.new-sender.ensures.iv i))
    (c.new-sender.ensures.position i)
    c.args.message.now) in
    let back : c.try_apply-2.new.bytes ≡ plus_stream stream 0 c.try_apply.new.bytes =
    c.in_ok-try_apply-2.ensures.added
    ∙ (λ i. plus_stream (keystream_byte (receiver i) (c.new-receiver.ensures.iv i))
    (c.new-receiver.ensures.position i)
    c.try_apply.new.bytes) in
    back ∙ ap (plus_stream stream 0) there ∙ summed_twice stream 0 c.args.message.now
