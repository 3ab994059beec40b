-- What would be wrong: each statement here is a law with a number moved or a part left out, and there is a session
-- where it does not hold.
use Rattle.std.proofs.Common.{◌≡◌, ℕ, ◌+◌, ◌*◌, ◌/◌, ◌≤◌, List, [], ◌∷◌, length, map, All, true, false, Ok, None, refl, arith, nat_le, filter, inr, Result}
use Rattle.std.specs.List.{sum_by, IsDistinct, list_all}
use Rattle.std.proofs.lemmas.Bool.{leb-true}
use Rattle.std.proofs.lemmas.List.Elements.{All-nil, All-cons, All-head, All-map}
use Rattle.rtcp_wire.specs.declared.fault.WireFault.{WireFault}
use Rattle.rtcp_wire.specs.Values.{RtcpPacket, rr, bye}
use Rattle.rtcp_wire.specs.Grammar.{IsSpelling, IsAccepted}
use Rattle.rtcp_members.specs.Entries.{entry_at, is_member, is_such}
use Rattle.rtcp_timer.specs.Loads.{interval_of, with_headers}
use Rattle.rtcp_engine.specs.answers.Setups.{Setup}
use Rattle.rtcp_engine.specs.answers.Acts.{Act, arrived, rtcp, ticked, IsReading, rtcp_came}
use Rattle.rtcp_engine.specs.answers.Outcomes.{Outcome, load_of, nothing_yet}
use Rattle.rtcp_engine.specs.state.Taken.{IsHistory}
use Rattle.rtcp_engine.specs.answers.Histories.{History}
use Rattle.rtcp_engine.specs.bounds.Sent.{Sent, reports_in, sent_at}
use Rattle.rtcp_session.specs.Windows.{in_window, later_ones, intervals_of, Decided, load_at, decided_at, HasSize, Joined, reports_within}
use Rattle.rtcp_session.specs.Crowds.{total_reports, total_octets, alike_in, Paced, IsPaced, total_as, shares_within, AreHeard, Terms, IsCrowd, carried_in}
use Rattle.rtcp_session.specs.Waits.{AreCounted, octets_next, Wait, all_waits, averages_of, open_at, waits_as, rtcp_bw, HasBandwidth, IsCounted, KeepsToAverage, octets_in}
use Rattle.rtcp_session.proofs.examples.WaitRows.{bandwidths, counted_of, such_waits, pair_is_counted, average_of_pair, alone, alone_is_counted, average_of_one, unaware, average_of_unaware, with_one_deaf, average_with_one_deaf}
use Rattle.rtcp_session.proofs.examples.CrowdRows.{each, setup_of, named_came, packet_came, joined_with, who_hears, sender, terms, pair, crowd_of, pair_is_crowd, stands}

-- ---- A number less

abbrev reports_of : History → List Sent
reports_of history = reports_in (sent_at history)

abbrev first : History
first = (who_hears 187 170).history

first_stands : IsHistory first
first_stands = stands first refl

six_seconds : intervals_of (later_ones (in_window 2462489 2462489 (reports_of first))) ≡ 6000000
six_seconds = refl

less_than_243656 : ((history : History) (from width : ℕ) → IsHistory history →
    100000 * intervals_of (later_ones (in_window from width (reports_of history))) ≤ 243655 * width) → ⊥
less_than_243656 law =
    let one = law first 2462489 2462489 first_stands in
    omega (arith, one, six_seconds)

less_of_a_crowd : ((terms : Terms) (from width : ℕ) (all : List Joined) → 1 ≤ terms.size → IsCrowd terms from width all
    → total_as false from width all ≤ terms.percent * (243655 * width * terms.receiver_bw) /
    (100 * 100000 * 1000000 * terms.size)) → ⊥
less_of_a_crowd law =
    let one : total_as false 2462496 2462489 pair ≤ 1 = law terms 2462496 2462489 pair (omega arith) pair_is_crowd in
    let two : total_as false 2462496 2462489 pair ≡ 2 = refl in
    omega (arith, one, two)

-- ---- The oldest report is not left out

no_window_holds_all : ((history : History) (from width : ℕ) → IsHistory history →
    100000 * intervals_of (in_window from width (reports_of history)) ≤ 2 * 121828 * width) → ⊥
no_window_holds_all law =
    let one = law first 2462489 0 first_stands in
    let its : intervals_of (in_window 2462489 0 (reports_of first)) ≡ 6000000 = refl in
    omega (arith, one, its)

all_at_once : IsCrowd terms 2462496 0 pair
all_at_once = crowd_of terms 2462496 0 pair refl

none_besides : ((terms : Terms) (from width : ℕ) (all : List Joined) → 1 ≤ terms.size → IsCrowd terms from width all
    → total_reports from width all ≤ carried_in width (terms.sender_bw + terms.receiver_bw) terms) → ⊥
none_besides law =
    let one : total_reports 2462496 0 pair ≤ 0 = law terms 2462496 0 pair (omega arith) all_at_once in
    let two : total_reports 2462496 0 pair ≡ 2 = refl in
    omega (arith, one, two)

-- ---- Intervals of another report: all but the newest

abbrev earlier_ones : List Sent → List Sent
earlier_ones [] = []
earlier_ones (newest ∷ earlier) = earlier

abbrev bye_came : (moment ssrc : ℕ) → Act
bye_came moment ssrc = arrived moment 1 0 (rtcp 16 (Ok (rr ssrc [] [] ∷ bye (ssrc ∷ []) None ∷ [])))

-- counts three others, which then leave
abbrev left_alone : History
left_alone = (joined_with 170 (ticked 7030000 0 0 ∷ bye_came 4925020 3 ∷ bye_came 4925010 2 ∷ bye_came 4925000
    1 ∷ ticked 4924978 0 0
    ∷ named_came 120 3 ∷ named_came 110 2 ∷ named_came 100 1 ∷ [])).history

left_alone_stands : IsHistory left_alone
left_alone_stands = stands left_alone refl

twelve_then_five : map (λ report. report.interval) (in_window 4924978 2105022 (reports_of left_alone))
    ≡ 5000000 ∷ 12000000 ∷ []
twelve_then_five = refl

not_the_newest : ((history : History) (from width : ℕ) → IsHistory history →
    100000 * intervals_of (earlier_ones (in_window from width (reports_of history))) ≤ 2 * 121828 * width) → ⊥
not_the_newest law =
    let one = law left_alone 4924978 2105022 left_alone_stands in
    let its : intervals_of (earlier_ones (in_window 4924978 2105022 (reports_of left_alone))) ≡ 12000000 = refl in
    omega (arith, one, its)

-- ---- Some are not counted

-- hears nobody
abbrev pub who_is_deaf : (ssrc : ℕ) → Joined
who_is_deaf ssrc = joined_with ssrc
    (ticked 11491615 0 0 ∷ ticked 9439541 0 0 ∷ ticked 7387467 0 0 ∷ ticked 5335393 0 0 ∷ ticked 3283319 0 0 ∷ ticked
    1231245 0 0 ∷ [])

abbrev pub four : List Joined
four = who_is_deaf 1 ∷ who_is_deaf 2 ∷ who_is_deaf 3 ∷ who_is_deaf 4 ∷ []

abbrev pub one_in_four : Terms
one_in_four = record terms { percent = 400 }

deaf_are_crowd : IsCrowd one_in_four 0 11491622 four
deaf_are_crowd = crowd_of one_in_four 0 11491622 four refl

as_if_counted : ((terms : Terms) (from width : ℕ) (all : List Joined) → 1 ≤ terms.size → IsCrowd terms from width all
    → total_reports from width all ≤ length all + carried_in width (terms.sender_bw + terms.receiver_bw)
    (record terms { percent = 100 })) → ⊥
as_if_counted law =
    let bound : total_reports 0 11491622 four ≤ 22 = law one_in_four 0 11491622 four (omega arith) deaf_are_crowd in
    let its : total_reports 0 11491622 four ≡ 24 = refl in
    omega (arith, bound, its)

-- ---- The bandwidth of senders is left out

abbrev listener : Joined
listener = joined_with 187 (ticked 3283319 0 0 ∷ ticked 1231245 0 0 ∷ packet_came 210 170 10 ∷ packet_came 200 170
    9 ∷ named_came 100 170 ∷ [])

abbrev heard : List Joined
heard = sender ∷ listener ∷ []

heard_are_crowd : IsCrowd terms 1231252 2052074 heard
heard_are_crowd = crowd_of terms 1231252 2052074 heard refl

without_senders : ((terms : Terms) (from width : ℕ) (all : List Joined) → 1 ≤ terms.size → IsCrowd terms from width all
    → total_reports from width all ≤ length all + carried_in width terms.receiver_bw terms) → ⊥
without_senders law =
    let bound : total_reports 1231252 2052074 heard ≤ 3 = law terms 1231252 2052074 heard (omega arith)
    heard_are_crowd in
    let its : total_reports 1231252 2052074 heard ≡ 4 = refl in
    omega (arith, bound, its)

-- ---- What the other laws would say

-- the minimum of later reports for the first one too
abbrev with_later_minimum : Decided → ℕ × ℕ
with_later_minimum decided = (decided.report.interval, interval_of (record (load_at decided) { initial = false }))

of_another_load : ((history : History) →
    All (λ decided. decided.report.interval ≡ interval_of (record (load_at decided) { initial = false }))
    (decided_at history)) → ⊥
of_another_load law =
    let history : History = (joined_with 1 (ticked 1231245 0 0 ∷ [])).history in
    let P : ℕ × ℕ → Type 0 = λ (both : ℕ × ℕ). both.0 ≡ both.1 in
    let all : All P ((3000000, 5000000) ∷ []) = All-map P with_later_minimum (decided_at history) (law history) in
    let one : 3000000 ≡ 5000000 = All-head P (3000000, 5000000) [] all in
    omega (arith, one)

without_one_more : ((history : History) (from width least : ℕ) → IsHistory history → 1 ≤ least
    → length (filter (λ report. nat_le least report.interval) (in_window from width (reports_of history)))
    ≤ 2 * 121828 * width / (100000 * least)) → ⊥
without_one_more law =
    let none = law first 2462489 0 6000000 first_stands (omega arith) in
    let one : length (filter (λ report. nat_le 6000000 report.interval) (in_window 2462489 0 (reports_of first))) ≡ 1 =
    refl in
    omega (arith, none, one)

without_one_each : ((all : List Paced) (from width : ℕ) → All (IsPaced from width) all
    → total_reports from width (map (λ paced. paced.joined) all) ≤ sum_by
    (λ paced. 2 * 121828 * width / (100000 * paced.least)) all) → ⊥
without_one_each law =
    let paced : Paced = record { joined = who_hears 187 170; least = 1 } in
    let is : IsPaced 2462496 0 paced =
    record {
      stands = first_stands;
      some = omega arith;
      least = All-nil (λ (decided : Decided). 1 ≤ decided.report.interval);
    } in
    let none : 1 ≤ 0 = law (paced ∷ []) 2462496 0
    (All-cons (IsPaced 2462496 0) paced [] is (All-nil (IsPaced 2462496 0))) in
    omega (arith, none)

of_less_bandwidth : ((joined : Joined) (from width : ℕ) → IsHistory joined.history
    → 100000 * 1000000 * shares_within from width joined
    ≤ 243655 * width * (256 * joined.history.setup.settings.receiver_bw)) →
    ⊥
of_less_bandwidth law =
    let fits = law (who_hears 187 170) 2462496 2462489 first_stands in
    let its : shares_within 2462496 2462489 (who_hears 187 170) ≡ 24576 = refl in
    omega (arith, fits, its)

others_as_if_counted : ((terms : Terms) (from width : ℕ) (all : List Joined) → 1 ≤ terms.size →
    IsCrowd terms from width all
    → total_as false from width all ≤ carried_in width terms.receiver_bw (record terms { percent = 100 })) → ⊥
others_as_if_counted law =
    let bound : total_as false 0 11491622 four ≤ 9 = law one_in_four 0 11491622 four (omega arith) deaf_are_crowd in
    let its : total_as false 0 11491622 four ≡ 20 = refl in
    omega (arith, bound, its)

nobody_heard : AreHeard is_member (setup_of 1) nothing_yet []
unfolding IsDistinct
nobody_heard = record {
  apart = tt;
  heard = All-nil (λ (ssrc : ℕ). is_such is_member (entry_at 1024 [] ssrc) ≡ true);
}

itself_twice : ((setup : Setup) (outcome : Outcome) (ssrcs : List ℕ) → AreHeard is_member setup outcome ssrcs →
    2 + length ssrcs ≤ (load_of setup outcome).members) → ⊥
itself_twice law =
    let two : 2 ≤ 1 = law (setup_of 1) nothing_yet [] nobody_heard in
    omega (arith, two)

-- a receiver report without blocks, alone
abbrev empty_report : List ℕ
empty_report = 128 ∷ 201 ∷ 0 ∷ 1 ∷ 0 ∷ 0 ∷ 0 ∷ 1 ∷ []

is_accepted : IsAccepted empty_report (rr 1 [] [] ∷ [])
is_accepted = record {
  short = omega arith;
  begins = (inr refl, refl);
  joined = (empty_report, [], refl, is_spelled, refl);
}
  where
    is_spelled : IsSpelling (rr 1 [] []) empty_report
    is_spelled = record {
      version = refl;
      size = refl;
      padding = λ padded. absurd cc;
      body = (
        refl,
        record {
          id = 0 ∷ 0 ∷ 0 ∷ 1 ∷ [];
          rest = [];
          parts = refl;
          sender = (refl, refl);
          ends = record { reports = []; parts = refl; counted = refl; each = refl };
        },
      );
    }

least_of_37 : ((moment peer word : ℕ) (octets : List ℕ) (reading : Result (List RtcpPacket) WireFault) →
    IsReading octets reading → HasSize 37 (rtcp_came moment peer word octets reading)) → ⊥
least_of_37 law =
    let large : 37 ≤ 36 = law 0 0 0 empty_report (Ok (rr 1 [] [] ∷ [])) is_accepted in
    omega (arith, large)

-- ---- Those who wait

averages_with_less : ((terms : Terms) (from width : ℕ) (all : List Joined) → IsCounted terms from width all
    → 100 * 100000 * 1000000 * averages_of (all_waits from width all)
    ≤ terms.percent * (243655 * width * (256 * rtcp_bw terms))) → ⊥
averages_with_less law =
    let fits = law terms 4309362 2170710 alone alone_is_counted in
    let its : averages_of (all_waits 4309362 2170710 alone) ≡ 43328 = average_of_one in
    omega (arith, fits, its)

others_with_less : ((terms : Terms) (from width : ℕ) (all : List Joined) → IsCounted terms from width all
    → 100 * 100000 * 1000000 * averages_of (waits_as false (all_waits from width all))
    ≤ terms.percent * (243655 * width * (256 * terms.receiver_bw))) → ⊥
others_with_less law =
    let fits = law terms 2462496 2462489 pair pair_is_counted in
    let its : averages_of (waits_as false (all_waits 2462496 2462489 pair)) ≡ 24576 = average_of_pair in
    omega (arith, fits, its)

deaf_are_counted : IsCounted one_in_four 0 11491622 four
deaf_are_counted = counted_of one_in_four 0 11491622 four refl

waits_as_if_counted : ((terms : Terms) (from width : ℕ) (all : List Joined) → IsCounted terms from width all
    → 100 * 100000 * 1000000 * averages_of (all_waits from width all)
    ≤ 100 * (2 * 121828 * width * (256 * rtcp_bw terms))) → ⊥
waits_as_if_counted law =
    let fits = law one_in_four 0 11491622 four deaf_are_counted in
    let its : averages_of (all_waits 0 11491622 four) ≡ 245760 = refl in
    omega (arith, fits, its)

others_wait_as_if_counted : ((terms : Terms) (from width : ℕ) (all : List Joined) → IsCounted terms from width all
    → 100 * 100000 * 1000000 * averages_of (waits_as false (all_waits from width all))
    ≤ 100 * (2 * 121828 * width * (256 * terms.receiver_bw))) → ⊥
others_wait_as_if_counted law =
    let fits = law one_in_four 0 11491622 four deaf_are_counted in
    let its : averages_of (waits_as false (all_waits 0 11491622 four)) ≡ 245760 = refl in
    omega (arith, fits, its)

-- It does not do to count all that wait, and not those in the same role,
everyone_alone : ((terms : Terms) (from width : ℕ) (all : List Joined) → All (HasBandwidth terms) all →
    All (λ next. All (λ wait. 100 * length (open_at next.until (all_waits from width all))
    ≤ terms.percent * (load_at wait.next).members)
    (open_at next.until (all_waits from width all))) (all_waits from width all) →
    100 * 100000 * 1000000 * averages_of (all_waits from width all)
    ≤ terms.percent * (2 * 121828 * width * (256 * rtcp_bw terms))) → ⊥
everyone_alone law =
    let fits = law terms 8650781 8780619 unaware (bandwidths terms 8650781 8780619 unaware refl)
    (such_waits (λ waits moment load. nat_le (100 * length (open_at moment waits)) (100 * load.members))
    (λ waits moment load. 100 * length (open_at moment waits) ≤ 100 * load.members)
    (λ waits moment load. leb-true (100 * length (open_at moment waits)) (100 * load.members))
    (all_waits 8650781 8780619 unaware) refl) in
    let its : averages_of (all_waits 8650781 8780619 unaware) ≡ 262626 = average_of_unaware in
    omega (arith, fits, its)

-- nor these alone.
alike_alone : ((terms : Terms) (from width : ℕ) (all : List Joined) → All (HasBandwidth terms) all →
    All (λ next. All (λ wait. 100 * length
    (waits_as (load_at wait.next).we_sent (open_at next.until (all_waits from width all)))
    ≤ terms.percent * alike_in (load_at wait.next))
    (open_at next.until (all_waits from width all))) (all_waits from width all) →
    100 * 100000 * 1000000 * averages_of (all_waits from width all)
    ≤ terms.percent * (2 * 121828 * width * (256 * rtcp_bw terms))) → ⊥
alike_alone law =
    let fits = law terms 6464041 13239066 with_one_deaf (bandwidths terms 6464041 13239066 with_one_deaf refl)
    (such_waits (λ waits moment load. nat_le (100 * length (waits_as load.we_sent (open_at moment waits)))
    (100 * alike_in load))
    (λ waits moment load. 100 * length (waits_as load.we_sent (open_at moment waits)) ≤ 100 * alike_in load)
    (λ waits moment load. leb-true (100 * length (waits_as load.we_sent (open_at moment waits))) (100 * alike_in load))
    (all_waits 6464041 13239066 with_one_deaf) refl) in
    let its : averages_of (all_waits 6464041 13239066 with_one_deaf) ≡ 304424 = average_with_one_deaf in
    omega (arith, fits, its)

all_at_most : (most from width : ℕ) (all : List Joined) →
    list_all (λ joined. list_all (λ report. nat_le (with_headers (length report.out.octets)) most)
    (reports_within from width joined)) all ≡ true →
    All (λ joined. All (λ report. with_headers (length report.out.octets) ≤ most) (reports_within from width joined))
    all
all_at_most most from width =
    each (λ (joined : Joined). list_all (λ report. nat_le (with_headers (length report.out.octets)) most)
    (reports_within from width joined))
    (λ (joined : Joined). All (λ report. with_headers (length report.out.octets) ≤ most)
    (reports_within from width joined))
    (λ joined. each (λ (report : Sent). nat_le (with_headers (length report.out.octets)) most)
    (λ (report : Sent). with_headers (length report.out.octets) ≤ most)
    (λ report. leb-true (with_headers (length report.out.octets)) most) (reports_within from width joined))

-- The reports of one that sends alone have more octets than its average.
over_average : ((terms : Terms) (from width most percent : ℕ) (all : List Joined) → IsCounted terms from width all →
    All (KeepsToAverage percent) (all_waits from width all) →
    All (λ joined. All (λ report. with_headers (length report.out.octets) ≤ most) (reports_within from width joined))
    all →
    total_octets from width all ≤ most * length all + octets_in width (rtcp_bw terms) 100 terms) → ⊥
over_average law =
    let less : total_octets 4309362 2170710 alone ≤ 357 = law terms 4309362 2170710 188 112 alone alone_is_counted
    (each (λ (wait : Wait). nat_le (100 * (256 * octets_next wait)) (112 * (load_at wait.next).avg))
    (KeepsToAverage 112)
    (λ wait. leb-true (100 * (256 * octets_next wait)) (112 * (load_at wait.next).avg))
    (all_waits 4309362 2170710 alone) refl)
    (all_at_most 188 4309362 2170710 alone refl) in
    let its : total_octets 4309362 2170710 alone ≡ 376 = refl in
    omega (arith, less, its)

-- ---- A premise left out

uncounted : ((terms : Terms) (from width : ℕ) (all : List Joined) → All (HasBandwidth terms) all →
    100 * 100000 * 1000000 * averages_of (all_waits from width all)
    ≤ terms.percent * (2 * 121828 * width * (256 * rtcp_bw terms))) → ⊥
uncounted law =
    let fits = law terms 0 11491622 four (bandwidths terms 0 0 four refl) in
    let its : averages_of (all_waits 0 11491622 four) ≡ 245760 = refl in
    omega (arith, fits, its)

of_any_bandwidth : ((terms : Terms) (from width : ℕ) (all : List Joined) →
    All (λ joined. IsHistory joined.history) all → AreCounted terms.percent (all_waits from width all) →
    100 * 100000 * 1000000 * averages_of (waits_as false (all_waits from width all))
    ≤ terms.percent * (2 * 121828 * width * (256 * terms.receiver_bw))) → ⊥
of_any_bandwidth law =
    let fits = law (record terms { receiver_bw = 15 }) 2462496 2462489 pair
    (λ k d inside. (pair_is_counted.each k d inside).stands) pair_is_counted.counted in
    let its : averages_of (waits_as false (all_waits 2462496 2462489 pair)) ≡ 24576 = average_of_pair in
    omega (arith, fits, its)

of_any_average : ((terms : Terms) (from width : ℕ) (all : List Joined) → 1 ≤ terms.size →
    IsCounted terms from width all → total_reports from width all
    ≤ length all + carried_in width (rtcp_bw terms) terms) → ⊥
of_any_average law =
    let two : total_reports 2462496 2462489 pair ≤ 2 = law (record terms { size = 480 }) 2462496 2462489 pair
    (omega arith) (counted_of (record terms { size = 480 }) 2462496 2462489 pair refl) in
    let four : total_reports 2462496 2462489 pair ≡ 4 = refl in
    omega (arith, two, four)

of_any_percent : ((terms : Terms) (from width most percent : ℕ) (all : List Joined) → IsCounted terms from width all →
    All (λ joined. All (λ report. with_headers (length report.out.octets) ≤ most) (reports_within from width joined))
    all → total_octets from width all ≤ most * length all + octets_in width (rtcp_bw terms) percent terms) → ⊥
of_any_percent law =
    let less : total_octets 2462496 2462489 pair ≤ 96 = law terms 2462496 2462489 48 0 pair pair_is_counted
    (all_at_most 48 2462496 2462489 pair refl) in
    let its : total_octets 2462496 2462489 pair ≡ 192 = refl in
    omega (arith, less, its)

of_any_octets : ((terms : Terms) (from width most percent : ℕ) (all : List Joined) → IsCounted terms from width all →
    All (KeepsToAverage percent) (all_waits from width all) →
    total_octets from width all ≤ most * length all + octets_in width (rtcp_bw terms) percent terms) → ⊥
of_any_octets law =
    let none : total_octets 2462496 0 pair ≤ 0 = law terms 2462496 0 0 100 pair (counted_of terms 2462496 0 pair refl)
    (All-nil (KeepsToAverage 100)) in
    let its : total_octets 2462496 0 pair ≡ 96 = refl in
    omega (arith, none, its)
