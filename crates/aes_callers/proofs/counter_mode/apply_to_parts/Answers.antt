-- The keystream of the second part goes on where that of the first ends, as one over both.
use Rattle.std.proofs.Common.{◌≡◌, ◌∙◌, ◌+◌, ◌++◌, [], ◌∷◌, length, sym, ap, append-nil}
use Rattle.aes_ctr.specs.CounterMode.{keystream_byte, plus_stream, pieces_plus_stream}
use Rattle.aes_callers.proofs.counter_mode.apply_to_parts.Goals as goal

pub returns-clause-added : goal.returns-clause-added
unfolding pieces_plus_stream
returns-clause-added g c =
    let before = c.args.mode.now in
    let stream = keystream_byte before.round_keys before.iv in
    let head = c.args.head.now in
    let rest = c.args.rest.now in
    let first = c.try_apply.ensures in
    let second : c.try_apply-2.new.bytes ≡ plus_stream stream (before.position + length head) rest =
    c.in_ok-try_apply-2.ensures.added
    ∙ (λ i. plus_stream (keystream_byte (first.round_keys i) (first.iv i))
    (c.in_ok-try_apply.ensures.moved i) rest) in
    (λ i. c.in_ok-try_apply.ensures.added i
    ++ (second ∙ sym (append-nil (plus_stream stream (before.position + length head) rest))) i)
    ∙ c.stream_cut.ensures before.round_keys before.iv before.position (head ∷ rest ∷ [])
    ∙ ap (λ l. plus_stream stream before.position (head ++ l)) (append-nil rest)
