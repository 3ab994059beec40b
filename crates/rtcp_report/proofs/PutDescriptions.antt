-- A description, put from its end: the zeros of its last word, the items, the SSRC, the header.
use Rattle.std.proofs.Common.{◌≡◌, ℕ, suc, ◌+◌, ◌-◌, ◌*◌, ◌/◌, ◌%◌, List, [], ◌∷◌, ◌++◌, length, replicate, sum_by, arith, sym, ap, subst, ◌∙◌, append-nil}
use Rattle.std.specs.List.{flat_map}
use Rattle.rtcp_wire.specs.Puts.{IsPut}
use Rattle.rtcp_wire.specs.Values.{ItemValue, ChunkValue}
use Rattle.rtcp_wire.specs.Writing.{fill_after, written_word, written_item, written_chunk, written_header, written}
use Rattle.rtcp_wire.proofs.Putting.{put_after, put_before, put_filled}
use Rattle.rtcp_report.specs.Reports.{description_of, receiver_with}
use Rattle.rtcp_report.specs.Sizes.{item_size, description_size}
use Rattle.rtcp_report.proofs.ReportSizes.{items_length, description_length}

-- the zeros from the items to the end of the word
zeros_are : (size : ℕ) → replicate (4 * (size / 4 + 1) - size) 0 ≡ 0 ∷ fill_after (size + 1)
zeros_are size =
    let count : 4 * (size / 4 + 1) - size ≡ suc ((4 - (size + 1) % 4) % 4) = omega arith in
    ap (λ (n : ℕ). replicate n 0) count

chunk_put : {first second third new : List ℕ} {at last begin stop end : ℕ} (ssrc : ℕ) (items : List ItemValue) →
    IsPut first second last (0 ∷ 0 ∷ 0 ∷ 0 ∷ []) end → IsPut second third begin (flat_map written_item items) stop →
    IsPut third new at (written_word ssrc) begin → end ≡ begin + 4 * (sum_by item_size items / 4 + 1) →
    IsPut first new at (written_chunk (record { id = ssrc; items = items })) end
chunk_put {first} {second} {third} {new} {at} {last} {begin} {stop} {end} ssrc items zeros put word is =
    let octets : List ℕ = flat_map written_item items in
    let size : length octets ≡ sum_by item_size items = items_length items in
    let whole : end ≡ begin + 4 * (length octets / 4 + 1) =
    is ∙ ap (λ (n : ℕ). begin + 4 * (n / 4 + 1)) (sym size) in
    let left : end - stop ≡ 4 * (length octets / 4 + 1) - length octets = omega (arith, whole, put.ends) in
    let filled : IsPut first third begin (octets ++ replicate (end - stop) 0) end =
    put_filled zeros put (omega (arith, whole, zeros.ends)) (omega (arith, whole, zeros.ends, put.ends))
    (omega (arith, whole, put.ends)) in
    put_before (subst (λ (part : List ℕ). IsPut first third begin (octets ++ part) end)
    (ap (λ (n : ℕ). replicate n 0) left ∙ zeros_are (length octets)) filled) word

pub description_put : {first second third fourth new : List ℕ} {at seam last begin stop end : ℕ} (size ssrc : ℕ)
    (items : List ItemValue) → IsPut first second last (0 ∷ 0 ∷ 0 ∷ 0 ∷ []) end →
    IsPut second third begin (flat_map written_item items) stop → IsPut third fourth seam (written_word ssrc) begin →
    IsPut fourth new at (written_header 1 202 size) seam → end ≡ at + description_size items → size ≡ end - at - 4 →
    IsPut first new at (written (description_of (receiver_with ssrc items))) end
description_put {first} {second} {third} {fourth} {new} {at} {seam} {last} {begin} {stop} {end} size ssrc items zeros
    put
    word header whole is =
    let chunk : ChunkValue = record { id = ssrc; items = items } in
    let body : IsPut first fourth seam (written_chunk chunk) end =
    chunk_put ssrc items zeros put word (omega (arith, whole, word.ends, header.ends)) in
    let same : size ≡ length (written_chunk chunk ++ []) =
    omega (arith, is, whole, description_length (receiver_with ssrc items)) in
    subst (λ (part : List ℕ). IsPut first new at part end)
    (λ i. written_header 1 202 (same i) ++ sym (append-nil (written_chunk chunk)) i) (put_before body header)

-- Two items are put one after the other.
pub items_put : {old mid new : List ℕ} {at seam end : ℕ} (first second : ItemValue) →
    IsPut old mid at (written_item first) seam → IsPut mid new seam (written_item second) end →
    IsPut old new at (flat_map written_item (first ∷ second ∷ [])) end
items_put {old} {mid} {new} {at} {seam} {end} first second one two =
    subst (λ (part : List ℕ). IsPut old new at (written_item first ++ part) end)
    (sym (append-nil (written_item second))) (put_after one two)
