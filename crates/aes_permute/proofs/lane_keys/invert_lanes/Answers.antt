-- The first and the last round key change places; each between them is inverted.
use Rattle.std.proofs.Common.{◌≡◌, ◌≢◌, ◌≤◌, ℕ, ◌-◌, ◌%◌, List, [], length, map, get_or, set, ap, ◌∙◌}
use Rattle.std.proofs.Common.{arith}
use Rattle.std.proofs.lemmas.List.{get_or-set_same, get_or-set_other, length-set}
use Rattle.aes_planes.specs.Fips197.{inv_shift_times}
use Rattle.aes_permute.specs.Stored.{decryption_untower}
use Rattle.aes_permute.proofs.DecryptionKeys.{inverted_stored}
use Rattle.aes_permute.proofs.lane_keys.invert_lanes.Goals as goal

pub returns-clause-keys : goal.returns-clause-keys
returns-clause-keys c =
    let keys = c.args.keys.now in
    let inverse = c.keys.inverse in
    let last : ℕ = length keys - 1 in
    let two : 2 ≤ length keys = c.requires.two in
    let one : List (List ℕ) = set inverse 0 (get_or keys last []) in
    let both : List (List ℕ) = set one last (get_or keys 0 []) in
    let l1 : length one ≡ length keys = length-set inverse 0 _ ∙ c.keys.invariant.same_length in
    let l2 : length both ≡ length keys = length-set one last _ ∙ l1 in
    inverted_stored keys both two l2
    (λ k some lt.
    let below : k ≢ last = omega arith in
    let above : k ≢ 0 = omega arith in
    ap (λ v. inv_shift_times (k % 4) (map decryption_untower v)) (get_or-set_other one last k _ [] below
    ∙ get_or-set_other inverse 0 k _ [] above)
    ∙ c.keys.invariant.done k some (omega (arith, lt, c.keys-test.false)))
    (let apart : 0 ≢ last = omega (arith, two) in
    get_or-set_other one last 0 _ [] apart
    ∙ get_or-set_same inverse 0 _ [] (omega (arith, c.keys.invariant.same_length, two))
    ∙ ap (λ n. get_or keys n []) (omega arith))
    (get_or-set_same one last _ [] (omega (arith, l1, two))
    ∙ ap (λ n. get_or keys n []) (omega arith))
