-- A compound that is accepted has 8 octets at least, those of a report without blocks.
use Rattle.std.proofs.Common.{◌≡◌, ℕ, ◌-◌, ◌≤◌, ◌<◌, ◌⊎◌, inl, inr, List, [], ◌∷◌, length, drop, Ok, Err, Result, ap, ◌∙◌, arith, subst}
use Rattle.std.proofs.lemmas.List.{length-append, length-drop, length-take, get_or_append_left}
use Rattle.rtcp_wire.specs.declared.fault.WireFault.{WireFault}
use Rattle.rtcp_wire.specs.Values.{RtcpPacket, sr, rr, sdes, bye, app, other}
use Rattle.rtcp_wire.specs.Grammar.{Joins, IsBody, IsSpelling}
use Rattle.rtcp_wire.specs.Readings.{size_of}
use Rattle.rtcp_wire.specs.Headers.{body_of, count_of, padding_of, type_of}
use Rattle.rtcp_engine.specs.answers.Acts.{IsReading, rtcp_came}
use Rattle.rtcp_session.specs.Windows.{HasSize}

abbrev IsReportType : ℕ → Type 0
IsReportType kind = (kind ≡ 200) ⊎ (kind ≡ 201)

no_report : (kind its_kind : ℕ) → IsReportType kind → kind ≡ its_kind → 202 ≤ its_kind → ⊥
no_report kind its_kind (inl is) same high = omega (arith, is, same, high)
no_report kind its_kind (inr is) same high = omega (arith, is, same, high)

reports_have_bodies : (packet : RtcpPacket) (kind count : ℕ) (body : List ℕ) → IsReportType kind →
    IsBody packet kind count body → 4 ≤ length body
reports_have_bodies (sr sender blocks extension) kind count body report is =
    let parts = is.1 in
    let joined = ap length parts.parts ∙ length-append parts.prefix parts.rest in
    omega (arith, joined, parts.prefix_size)
reports_have_bodies (rr ssrc blocks extension) kind count body report is =
    let parts = is.1 in
    let joined = ap length parts.parts ∙ length-append parts.id parts.rest in
    omega (arith, joined, parts.sender.0)
reports_have_bodies (sdes chunks) kind count body report is = absurd (no_report kind 202 report is.0 (omega arith))
reports_have_bodies (bye ids reason) kind count body report is = absurd (no_report kind 203 report is.0 (omega arith))
reports_have_bodies (app subtype ssrc name content) kind count body report is =
    absurd (no_report kind 204 report is.0 (omega arith))
reports_have_bodies (other its_kind its_count its_body) kind count body report is = absurd (neither report is.0)
  where
    neither : IsReportType kind → (kind < 200) ⊎ (204 < kind) → ⊥
    neither (inl same) (inl low) = omega (arith, same, low)
    neither (inl same) (inr high) = omega (arith, same, high)
    neither (inr same) (inl low) = omega (arith, same, low)
    neither (inr same) (inr high) = omega (arith, same, high)

report_is_large : (packet : RtcpPacket) (octets : List ℕ) → IsReportType (type_of octets) → IsSpelling packet octets →
    8 ≤ length octets
report_is_large packet octets report is =
    let body = reports_have_bodies packet (type_of octets) (count_of octets) (body_of octets) report is.body in
    let taken = length-take (size_of octets - 4 - padding_of octets) (drop 4 octets) in
    let dropped = length-drop 4 octets in
    omega (arith, body, taken, dropped)

word_at_least : (packet : RtcpPacket) (octets : List ℕ) → IsSpelling packet octets → 4 ≤ length octets
word_at_least packet octets is =
    let size = is.size in
    omega (arith, size)

accepted_is_large : (octets : List ℕ) (packets : List RtcpPacket) → IsReportType (type_of octets) →
    Joins IsSpelling packets octets → 8 ≤ length octets
accepted_is_large octets [] report is = absurd (none (subst (λ (o : List ℕ). IsReportType (type_of o)) is report))
  where
    none : IsReportType (type_of []) → ⊥
    none (inl same) = absurd cc
    none (inr same) = absurd cc
accepted_is_large octets (packet ∷ packets) report is =
    let prefix = is.0 in
    let rest = is.1 in
    let word = word_at_least packet prefix is.3 in
    let same : type_of octets ≡ type_of prefix = ap type_of is.2 ∙ get_or_append_left prefix rest 0 1
    (omega (arith, word)) in
    let large = report_is_large packet prefix (subst IsReportType same report) is.3 in
    let joined = ap length is.2 ∙ length-append prefix rest in
    omega (arith, large, joined)

pub read_is_large : (moment peer word : ℕ) (octets : List ℕ) (reading : Result (List RtcpPacket) WireFault) →
    IsReading octets reading → HasSize 36 (rtcp_came moment peer word octets reading)
read_is_large moment peer word octets (Ok packets) is =
    let large = accepted_is_large octets packets is.begins.0 is.joined in
    omega (arith, large)
read_is_large moment peer word octets (Err fault) is = tt
