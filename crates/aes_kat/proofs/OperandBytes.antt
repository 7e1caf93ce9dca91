-- Lemmas on the words after a command.
use Rattle.std.proofs.Common.{◌≡◌, ◌*◌, ◌%◌, ℕ, List, true, Result, Ok, Err, is_ok, refl, sym, ap}
use Rattle.std.proofs.Common.{◌∙◌, inl, inr, length}
use Rattle.std.specs.List.{list_all}
use Rattle.std.proofs.lemmas.Bool.{cases_Bool}
use Rattle.std.proofs.lemmas.List.Sums.{AllPass-from_list_all, list_all-from_AllPass}
use Rattle.hex.specs.Hex.{decode_of, is_hex_digit}
use Rattle.hex.specs.declared.error.FromHexError.{FromHexError}
use Rattle.hex.proofs.HexLemmas.{decode_of-ok, decode_of-digits}
use Rattle.aes_kat.specs.Private.Steps.{decoded, or_none}

-- a result that is one has a value
ok_value : {A E : Type 0} (r : Result A E) → is_ok r ≡ true → (x : A) × (r ≡ Ok x)
ok_value (Ok x) h = (x, refl)
ok_value (Err e) h = cc h

-- a word is pairs of digits exactly if it has as many digits as pairs need, and nothing else
pub all_digits : (s : List ℕ) → length s % 2 ≡ 0 → list_all is_hex_digit s ≡ is_ok (decode_of s)
all_digits s even =
    elim (cases_Bool (list_all is_hex_digit s)) [
      | inl yes' ↦ yes' ∙ sym
          (ap is_ok (decode_of-digits s even (AllPass-from_list_all is_hex_digit s yes')).1)
      | inr no' ↦
          elim (cases_Bool (is_ok (decode_of s))) [
            | inl ok ↦
                let v = ok_value (decode_of s) ok in
                let all' = list_all-from_AllPass is_hex_digit s (decode_of-ok s v.0 v.1).1 in
                all' ∙ sym ok
            | inr bad ↦ no' ∙ sym bad
          ]
    ]

-- the bytes of a result that has some are those
or_none-ok : (r : Result (List ℕ) FromHexError) (bytes : List ℕ) → r ≡ Ok bytes → or_none r ≡ bytes
or_none-ok r bytes e = rw e refl

-- a word has two digits for a byte
pub length_decoded : (s : List ℕ) → is_ok (decode_of s) ≡ true → length s ≡ 2 * length (decoded s)
length_decoded s ok =
    let v = ok_value (decode_of s) ok in
    let long = decode_of-ok s v.0 v.1 in
    long.2 ∙ ap (λ bytes. 2 * length bytes) (sym (or_none-ok (decode_of s) v.0 v.1))
