-- Keys from the first halves of encrypted blocks, four or six, are those that the RFC derives.
use Rattle.std.proofs.Common.{◌≡◌, ℕ, ◌+◌, ◌/◌, ◌<◌, ◌==◌, if◌then◌else◌, List, [], ◌++◌, length}
use Rattle.std.proofs.Common.{map, slice_index_or, inl, inr, ap, sym, ◌∙◌, arith, take, drop}
use Rattle.std.proofs.lemmas.List.{append-nil, get_or-take, take-take}
use Rattle.aes_planes.specs.Fips197.{cipher_with, key_expansion}
use Rattle.gcm_siv.specs.GcmSiv.{derived, authentication_key, encryption_key, IsSivKeySize}
use Rattle.gcm_siv.specs.Private.{derived_keys, halves_of_six, numbered}

-- two keys are the halves of the ciphers of the first four numbered blocks
two_keys : (w : List (List ℕ)) (nonce : List ℕ) (first keys : List (List ℕ))
    → first ≡ map (cipher_with w) (take 4 (numbered nonce))
    → take 3 keys ≡ halves_of_six (first ++ drop 4 (numbered nonce))
    → take 2 keys ≡ take 2 (derived_keys w nonce)
unfolding numbered halves_of_six derived_keys derived
two_keys w nonce first keys is made =
    sym (take-take 2 3 keys (omega arith)) ∙ ap (take 2) made
    ∙ ap (λ l. take 2 (halves_of_six (l ++ drop 4 (numbered nonce)))) is

-- three keys are the halves of the ciphers of all six numbered blocks
three_keys : (w : List (List ℕ)) (nonce : List ℕ) (first keys : List (List ℕ))
    → first ≡ map (cipher_with w) (take 6 (numbered nonce))
    → take 3 keys ≡ halves_of_six (first ++ drop 6 (numbered nonce))
    → take 3 keys ≡ take 3 (derived_keys w nonce)
unfolding numbered halves_of_six derived_keys derived
three_keys w nonce first keys is made =
    made ∙ ap (λ l. halves_of_six (l ++ drop 6 (numbered nonce))) is

-- four ciphers make the derived keys for a key of 16 bytes, and six those for one of 32
pub derived_is : (w : List (List ℕ)) (nonce : List ℕ) (first keys : List (List ℕ)) (size : ℕ)
    → IsSivKeySize size
    → first ≡ map (cipher_with w) (take (size / 8 + 2) (numbered nonce))
    → take 3 keys ≡ halves_of_six (first ++ drop (size / 8 + 2) (numbered nonce))
    → take (size / 16 + 1) keys ≡ take (size / 16 + 1) (derived_keys w nonce)
derived_is w nonce first keys size (inl e) is made =
    let blocks : size / 8 + 2 ≡ 4 = omega (arith, e) in
    let count : size / 16 + 1 ≡ 2 = omega (arith, e) in
    ap (λ n. take n keys) count
    ∙ two_keys w nonce first keys
    (is ∙ ap (λ n. map (cipher_with w) (take n (numbered nonce))) blocks)
    (made ∙ ap (λ n. halves_of_six (first ++ drop n (numbered nonce))) blocks)
    ∙ sym (ap (λ n. take n (derived_keys w nonce)) count)
derived_is w nonce first keys size (inr e) is made =
    let blocks : size / 8 + 2 ≡ 6 = omega (arith, e) in
    let count : size / 16 + 1 ≡ 3 = omega (arith, e) in
    ap (λ n. take n keys) count
    ∙ three_keys w nonce first keys
    (is ∙ ap (λ n. map (cipher_with w) (take n (numbered nonce))) blocks)
    (made ∙ ap (λ n. halves_of_six (first ++ drop n (numbered nonce))) blocks)
    ∙ sym (ap (λ n. take n (derived_keys w nonce)) count)

-- each of the keys that were derived is the standard's
key_at : (w : List (List ℕ)) (nonce : List ℕ) (keys : List (List ℕ)) (n i : ℕ)
    → take n keys ≡ take n (derived_keys w nonce)
    → i < n → slice_index_or keys i [] ≡ slice_index_or (derived_keys w nonce) i []
key_at w nonce keys n i is inside =
    sym (get_or-take n keys i [] inside) ∙ ap (λ l. slice_index_or l i []) is
    ∙ get_or-take n (derived_keys w nonce) i [] inside

-- the first derived key is the authentication key
pub authentication_is : (key nonce : List ℕ) (w keys : List (List ℕ)) (n : ℕ)
    → w ≡ key_expansion key
    → take (n + 1) keys ≡ take (n + 1) (derived_keys w nonce)
    → slice_index_or keys 0 [] ≡ authentication_key key nonce
unfolding derived_keys authentication_key
authentication_is key nonce w keys n expanded is =
    key_at w nonce keys (n + 1) 0 is (omega arith)
    ∙ ap (λ v. derived v nonce 0 ++ derived v nonce 1) expanded

-- the encryption key of 16 bytes is one block of the derived ones
short_is : (key nonce : List ℕ) (w keys : List (List ℕ)) → w ≡ key_expansion key
    → slice_index_or keys 1 [] ≡ slice_index_or (derived_keys w nonce) 1 []
    → length key ≡ 16 → slice_index_or keys 1 [] ≡ encryption_key key nonce
unfolding derived_keys encryption_key
short_is key nonce w keys expanded is sized =
    let v : List (List ℕ) = key_expansion key in
    is ∙ ap (λ v. derived v nonce 2 ++ derived v nonce 3) expanded
    ∙ sym (append-nil (derived v nonce 2 ++ derived v nonce 3))
    ∙ sym (ap (λ n. derived v nonce 2 ++ derived v nonce 3
    ++ (if n == 32 then derived v nonce 4 ++ derived v nonce 5 else [])) sized)

-- the encryption key of 32 bytes is two blocks of the derived ones
long_is : (key nonce : List ℕ) (w keys : List (List ℕ)) → w ≡ key_expansion key
    → slice_index_or keys 1 [] ≡ slice_index_or (derived_keys w nonce) 1 []
    → slice_index_or keys 2 [] ≡ slice_index_or (derived_keys w nonce) 2 []
    → length key ≡ 32 → slice_index_or keys 1 [] ++ slice_index_or keys 2 []
    ≡ encryption_key key nonce
unfolding derived_keys encryption_key
long_is key nonce w keys expanded second third sized =
    let v : List (List ℕ) = key_expansion key in
    (λ t. second t ++ third t)
    ∙ ap (λ v. derived v nonce 2 ++ derived v nonce 3
    ++ (derived v nonce 4 ++ derived v nonce 5)) expanded
    ∙ sym (ap (λ n. derived v nonce 2 ++ derived v nonce 3
    ++ (if n == 32 then derived v nonce 4 ++ derived v nonce 5 else [])) sized)

-- what is made of the derived keys is the encryption key, under a key of either size
pub encryption_is : (key nonce made : List ℕ) (w keys : List (List ℕ)) (size : ℕ)
    → IsSivKeySize size → length key ≡ size
    → w ≡ key_expansion key → take (size / 16 + 1) keys
    ≡ take (size / 16 + 1) (derived_keys w nonce)
    → (size ≡ 16 → made ≡ slice_index_or keys 1 [])
    → (size ≡ 32 → made ≡ slice_index_or keys 1 [] ++ slice_index_or keys 2 [])
    → made ≡ encryption_key key nonce
encryption_is key nonce made w keys size (inl e) sized expanded is short long =
    short e ∙ short_is key nonce w keys expanded
    (key_at w nonce keys (size / 16 + 1) 1 is (omega (arith, e))) (sized ∙ e)
encryption_is key nonce made w keys size (inr e) sized expanded is short long =
    long e ∙ long_is key nonce w keys expanded
    (key_at w nonce keys (size / 16 + 1) 1 is (omega (arith, e)))
    (key_at w nonce keys (size / 16 + 1) 2 is (omega (arith, e))) (sized ∙ e)
