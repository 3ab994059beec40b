-- Sessions whose reports come within a delay keep to their bandwidth.
use Rattle.std.proofs.Common.{ℕ, ◌+◌, ◌-◌, ◌*◌, ◌≤◌, false, List, length, All, arith}
use Rattle.rtcp_timer.specs.Loads.{with_headers}
use Rattle.rtcp_session.specs.Windows.{Joined, reports_within}
use Rattle.rtcp_session.specs.Crowds.{total_reports, total_octets, total_compounds, Terms}
use Rattle.rtcp_session.specs.Waits.{all_waits, averages_of, rtcp_bw, waits_as, HasAverage, KeepsToAverage}
use Rattle.rtcp_session.specs.Deliveries.{least_wait, carried_after, octets_after, IsDelivered}
use Rattle.rtcp_session.proofs.Stretching.{averages_keep_after, others_keep_after, octets_keep_after, reports_keep_after, compounds_keep_after}
use Rattle.rtcp_session.proofs.Delivering.{delivered_are_counted}

abbrev whole : Terms → Terms
whole terms = record terms { percent = 100 }

hundredth : (less sum b width : ℕ) →
    less * (100 * 100000 * 1000000 * sum) ≤ least_wait * (100 * (2 * 121828 * width * (256 * b))) →
    less * (100000 * 1000000 * sum) ≤ least_wait * (2 * 121828 * width * (256 * b))
hundredth less sum b width h = omega (arith, h)

pub delivered_averages : (delay : ℕ) (terms : Terms) (from width : ℕ) (all : List Joined) →
    IsDelivered delay terms from width all →
    (least_wait - delay) * (100000 * 1000000 * averages_of (all_waits from width all))
    ≤ least_wait * (2 * 121828 * width * (256 * rtcp_bw terms))
delivered_averages delay terms from width all is =
    hundredth (least_wait - delay) (averages_of (all_waits from width all)) (rtcp_bw terms) width
    (averages_keep_after delay (whole terms) from width all is.soon
    (delivered_are_counted delay terms from width all is))

pub delivered_others : (delay : ℕ) (terms : Terms) (from width : ℕ) (all : List Joined) →
    IsDelivered delay terms from width all →
    (least_wait - delay) * (100000 * 1000000 * averages_of (waits_as false (all_waits from width all)))
    ≤ least_wait * (2 * 121828 * width * (256 * terms.receiver_bw))
delivered_others delay terms from width all is =
    hundredth (least_wait - delay) (averages_of (waits_as false (all_waits from width all))) terms.receiver_bw width
    (others_keep_after delay (whole terms) from width all is.soon (delivered_are_counted delay terms from width all is))

pub delivered_reports : (delay : ℕ) (terms : Terms) (from width : ℕ) (all : List Joined) → 1 ≤ terms.size →
    IsDelivered delay terms from width all → All (HasAverage terms.size) (all_waits from width all) →
    total_reports from width all ≤ length all + carried_after delay width (rtcp_bw terms) (whole terms)
delivered_reports delay terms from width all some is averages =
    reports_keep_after delay (whole terms) from width all is.soon some
    (delivered_are_counted delay terms from width all is) averages

pub delivered_compounds : (delay : ℕ) (terms : Terms) (from width : ℕ) (all : List Joined) → 1 ≤ terms.size →
    IsDelivered delay terms from width all → All (HasAverage terms.size) (all_waits from width all) →
    total_compounds from width all ≤ 10 * length all + carried_after delay width (rtcp_bw terms) (whole terms)
delivered_compounds delay terms from width all some is averages =
    compounds_keep_after delay (whole terms) from width all is.soon some
    (delivered_are_counted delay terms from width all is) averages

pub delivered_octets : (delay : ℕ) (terms : Terms) (from width most percent : ℕ) (all : List Joined) →
    IsDelivered delay terms from width all → All (KeepsToAverage percent) (all_waits from width all) →
    All (λ joined. All (λ report. with_headers (length report.out.octets) ≤ most) (reports_within from width joined))
    all →
    total_octets from width all ≤ most * length all + octets_after delay width (rtcp_bw terms) percent (whole terms)
delivered_octets delay terms from width most percent all is keeps at_most =
    octets_keep_after delay (whole terms) from width most percent all is.soon
    (delivered_are_counted delay terms from width all is) keeps at_most
