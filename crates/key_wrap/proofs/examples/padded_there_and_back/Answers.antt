-- By the law of padding, what is unwrapped is padded, so that nothing refuses it, and has the key.
use Rattle.std.proofs.Common.{◌≡◌, ◌∷◌, ◌∙◌, ap, arith, refl, rules, subst, sym, take}
use Rattle.std.proofs.lemmas.Nat.{from_be_bytes-to_be_bytes_4}
use Rattle.std.specs.List.{concat}
use Rattle.key_wrap.specs.Padded.{semiblock_count, heading, key_in, length_in, unwrapped_string}
use Rattle.key_wrap.specs.Padded.{wrapped_padded, IsPadded}
use Rattle.key_wrap.proofs.examples.padded_there_and_back.Goals as goal

pub returns-in-Ok-clause-back : goal.returns-in-Ok-clause-back
unfolding key_in length_in heading
returns-in-Ok-clause-back g c =
    let w = g.C.RoundKeysUser.round_keys c.args.cipher.now in
    let key = c.args.key.now in
    let fit = c.in_ok-wrap_padded.ensures.done.0 refl in
    let law = c.padding_undone.ensures w key c.round_keys_are_blocks.ensures
    (search rules) fit.least fit.most in
    let whole : heading c.in-Ok.count ∷ c.unwrap_padded.new.output
    ≡ unwrapped_string w (wrapped_padded w key) =
    c.in-Ok.ensures.key ∙ ap (unwrapped_string w) c.in_ok-wrap_padded.ensures.wrapped in
    ap (λ n. take n (concat c.unwrap_padded.new.output))
    (sym (from_be_bytes-to_be_bytes_4 c.in-Ok.count (omega arith)))
    ∙ ap key_in whole ∙ law.1

pub returns-in-Err-clause-done : goal.returns-in-Err-clause-done
unfolding semiblock_count
returns-in-Err-clause-done g c =
    let w = g.C.RoundKeysUser.round_keys c.args.cipher.now in
    let key = c.args.key.now in (
      λ e. absurd (cc e),
      λ both.
          let fit = both.0 in
          let law = c.padding_undone.ensures w key c.round_keys_are_blocks.ensures
          (search rules) fit.least fit.most in
          c.in-Err.ensures.done.1 (
            record {
              least = omega (arith, both.1, fit.least);
              most = omega (arith, both.1, fit.most);
              sized = omega (arith, both.1, fit.sized);
            },
            subst (λ s. IsPadded (unwrapped_string w s))
                (sym c.in_ok-wrap_padded.ensures.wrapped) law.0,
          ),
    )
