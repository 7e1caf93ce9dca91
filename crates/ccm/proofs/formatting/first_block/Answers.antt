use Rattle.std.proofs.Common.{◌≡◌, ◌∙◌, ℕ, List, [], ◌+◌, ◌-◌, ◌∷◌, ◌++◌, length, take, drop}
use Rattle.std.proofs.Common.{replicate, ap, arith}
use Rattle.std.proofs.lemmas.List.{append-nil, drop-replicate}
use Rattle.std.proofs.Math.Seq.{drop-append_seam, take-append_seam}
use Rattle.aes_planes.specs.BigEndian.{bytes}
use Rattle.ccm.specs.Ccm.{first_block, flags}
use Rattle.ccm.proofs.Bytes.{last_of_64}
use Rattle.ccm.proofs.formatting.first_block.Goals as goal

pub returns : goal.returns
unfolding first_block
returns c =
    let nonce = c.args.nonce.now in
    let n : ℕ = length nonce in
    let head : List ℕ = flags n c.args.tag c.args.additional ∷ nonce in
    let zeros : List ℕ = replicate (15 - n) 0 in
    let framed : c.framed-block.result ≡ head ++ zeros =
    c.framed-block.ensures ∙ ap (λ f. f ∷ (nonce ++ zeros)) c.flags.ensures in
    let size : n + 1 ≡ length head = omega arith in
    let front : take (n + 1) c.framed-block.result ≡ head =
    ap (take (n + 1)) framed ∙ ap (λ k. take k (head ++ zeros)) size ∙ take-append_seam head zeros in
    let behind : drop (n + 1) c.framed-block.result ≡ zeros =
    ap (drop (n + 1)) framed ∙ ap (λ k. drop k (head ++ zeros)) size
    ∙ drop-append_seam head zeros in
    let over : 15 - n - (16 - (n + 1)) ≡ 0 = omega arith in
    let none : drop (16 - (n + 1)) (drop (n + 1) c.framed-block.result) ≡ [] =
    ap (drop (16 - (n + 1))) behind ∙ drop-replicate (16 - (n + 1)) (15 - n) 0
    ∙ ap (λ k. replicate k 0) over in
    let left : 8 - (n - 7) ≡ 15 - n =
    omega (arith, c.requires.shortest, c.requires.longest) in
    let all : n - 7 + (8 - (n - 7)) ≡ 8 = omega (arith, c.requires.longest) in
    let text : c.copy_from_slice.new.self ≡ bytes (15 - n) c.args.text =
    c.copy_from_slice.ensures.after
    ∙ last_of_64 (n - 7) (8 - (n - 7)) c.args.text c.to_be_bytes-bytes.result all
    c.to_be_bytes-bytes.ensures
    ∙ ap (λ k. bytes k c.args.text) left in
    (λ t. front t ++ (text t ++ none t))
    ∙ ap (λ l. head ++ l) (append-nil (bytes (15 - n) c.args.text))
