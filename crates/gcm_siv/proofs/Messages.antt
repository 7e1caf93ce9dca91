-- A text that is encrypted twice is the text; and a block whose last byte is written anew.
use Rattle.std.proofs.Common.{◌≡◌, ℕ, List, [], ◌∷◌, ◌++◌, length, set, take, sym, ◌∙◌, arith}
use Rattle.std.proofs.lemmas.List.{take_all, take_more_set}
use Rattle.std.proofs.Math.ListN.{length-set}
use Rattle.aes_ctr.proofs.Sums.{summed_twice}
use Rattle.gcm_siv.specs.GcmSiv.{counter_mode, first_counter, keystream_byte, text, text_under}

-- a block whose last byte is written keeps the others
pub last_set : (b : List ℕ) (y : ℕ) → length b ≡ 16 → set b 15 y ≡ take 15 b ++ y ∷ []
last_set b y long =
    sym (take_all 16 (set b 15 y) (omega (arith, long, length-set b 15 y)))
    ∙ take_more_set b 15 y (omega (arith, long))

-- a text is the encryption of its encryption
pub under_twice : (w : List (List ℕ)) (tag x : List ℕ) → text_under w tag (text_under w tag x) ≡ x
unfolding text_under counter_mode
under_twice w tag x = summed_twice (keystream_byte w (first_counter tag)) 0 x

-- a text is the encryption of its encryption, under the key that is derived, as the law states it
pub text_twice : (key nonce tag x : List ℕ) → text key nonce tag (text key nonce tag x) ≡ x
unfolding text
text_twice key nonce tag x = under_twice _ tag x
