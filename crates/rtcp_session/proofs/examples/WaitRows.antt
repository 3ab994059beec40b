-- Worked rows: who waits when, and whom it counts.
use Rattle.std.proofs.Common.{◌≡◌, ℕ, ◌+◌, ◌*◌, ◌/◌, ◌≤◌, ◌&&◌, List, [], ◌∷◌, nat_le, length, map, replicate, All, Bool, true, false, Ok, None, refl, arith}
use Rattle.std.specs.List.{list_all}
use Rattle.std.proofs.lemmas.Bool.{and_parts, leb-true}
use Rattle.std.proofs.lemmas.List.Elements.{All-head, All-map, All-weaker}
use Rattle.std.proofs.lemmas.List.Sums.{AllPass-from_list_all}
use Rattle.rtcp_wire.specs.Values.{rr, sdes, bye}
use Rattle.rtcp_timer.specs.declared.load.Load.{Load}
use Rattle.rtcp_engine.specs.answers.Setups.{Setup}
use Rattle.rtcp_engine.specs.answers.Acts.{Act, arrived, rtcp, rtp_sent, ticked, left}
use Rattle.rtcp_session.specs.Windows.{Joined, Decided, load_at, decided_at, later_within}
use Rattle.rtcp_session.specs.Crowds.{alike_in, CountsMost, TakesPart, IsCrowd, Terms, total_reports, carried_in}
use Rattle.rtcp_session.specs.Waits.{Wait, all_waits, averages_of, open_at, waits_as, CountsWaiting, AreCounted, HasBandwidth, IsCounted, rtcp_bw}
use Rattle.rtcp_session.proofs.examples.CrowdRows.{crowd_of, setup_of, named_came, packet_came, joined_with, who_hears, terms, pair, stands, is_history, each, keeps_to, bandwidths_of}

-- ---- They count each other, by a test that computes

-- A test that computes, of each moment and load, stands for what is known of those who wait.
pub such_waits : (test : List Wait → (moment : ℕ) → Load → Bool) (P : List Wait → (moment : ℕ) → Load → Type 0) →
    ((waits : List Wait) (moment : ℕ) (load : Load) → test waits moment load ≡ true → P waits moment load) →
    (waits : List Wait) →
    list_all (λ next. list_all (λ wait. test waits next.until (load_at wait.next)) (open_at next.until waits)) waits
    ≡ true →
    All (λ next. All (λ wait. P waits next.until (load_at wait.next)) (open_at next.until waits)) waits
such_waits test P says waits is =
    each (λ (next : Wait). list_all (λ wait. test waits next.until (load_at wait.next)) (open_at next.until waits))
    (λ (next : Wait). All (λ wait. P waits next.until (load_at wait.next)) (open_at next.until waits))
    (λ next. each (λ (wait : Wait). test waits next.until (load_at wait.next))
    (λ (wait : Wait). P waits next.until (load_at wait.next)) (λ wait. says waits next.until (load_at wait.next))
    (open_at next.until waits)) waits is

module _ (percent : ℕ) (waits : List Wait) where
  abbrev counts_waiting : (moment : ℕ) → Load → Bool
  counts_waiting moment load = nat_le (100 * length (open_at moment waits)) (percent * load.members)
      && nat_le (100 * length (waits_as load.we_sent (open_at moment waits))) (percent * alike_in load)

  counts : (moment : ℕ) (load : Load) → counts_waiting moment load ≡ true → CountsWaiting percent waits moment load
  counts moment load is =
      let everyone = length (open_at moment waits) in
      let alike = length (waits_as load.we_sent (open_at moment waits)) in
      let parts = and_parts (nat_le (100 * everyone) (percent * load.members))
      (nat_le (100 * alike) (percent * alike_in load))
      is in
      record {
        everyone = leb-true (100 * everyone) (percent * load.members) parts.0;
        alike = leb-true (100 * alike) (percent * alike_in load) parts.1;
      }

  abbrev pub all_count : Wait → Bool
  all_count next = list_all (λ wait. counts_waiting next.until (load_at wait.next)) (open_at next.until waits)

  pub are_counted : list_all all_count waits ≡ true → AreCounted percent waits
  are_counted =
      each all_count
      (λ (next : Wait). All (λ wait. CountsWaiting percent waits next.until (load_at wait.next))
      (open_at next.until waits))
      (λ next. each (λ (wait : Wait). counts_waiting next.until (load_at wait.next))
      (λ (wait : Wait). CountsWaiting percent waits next.until (load_at wait.next))
      (λ wait. counts next.until (load_at wait.next))
      (open_at next.until waits)) waits

module _ (terms : Terms) (from width : ℕ) (all : List Joined) where
  abbrev waits : List Wait
  waits = all_waits from width all

  abbrev tests : Joined → List Bool
  tests joined = is_history joined.history ∷ keeps_to terms (decided_at joined.history) ∷ []

  abbrev pub goes_by : Joined → Bool
  goes_by joined = list_all (λ passed. passed) (tests joined)

  bandwidth : (joined : Joined) → goes_by joined ≡ true → HasBandwidth terms joined
  bandwidth joined is =
      let passed = AllPass-from_list_all (λ (passed : Bool). passed) (tests joined) is in
      record {
        stands = stands joined.history (passed 0 true (omega arith));
        bandwidth = bandwidths_of terms (decided_at joined.history) (passed 1 true (omega arith));
      }

  pub bandwidths : list_all goes_by all ≡ true → All (HasBandwidth terms) all
  bandwidths = each goes_by (HasBandwidth terms) bandwidth all

  pub counted_of : (list_all goes_by all && list_all (all_count terms.percent waits) waits) ≡ true →
      IsCounted terms from width all
  counted_of is =
      let parts = and_parts (list_all goes_by all) (list_all (all_count terms.percent waits) waits) is in
      record { each = bandwidths parts.0; counted = are_counted terms.percent waits parts.1 }

-- ---- Two that do not send

pub pair_is_counted : IsCounted terms 2462496 2462489 pair
pair_is_counted = counted_of terms 2462496 2462489 pair refl

pub average_of_pair : averages_of (waits_as false (all_waits 2462496 2462489 pair)) ≡ 24576
average_of_pair = refl

-- ---- One that sends, alone

abbrev pub large_setup : (ssrc : ℕ) → Setup
large_setup ssrc = record (setup_of ssrc) { cname = replicate 120 97 }

abbrev pub large_with : (ssrc : ℕ) → List Act → Joined
large_with ssrc acts = record { history = record { setup = large_setup ssrc; word = 0; acts = acts }; start = 7 }

abbrev pub alone : List Joined
alone = large_with 170 (ticked 6480065 0 0 ∷ ticked 4309355 0 0 ∷ rtp_sent 200 0 0 ∷ []) ∷ []

pub average_of_one : averages_of (all_waits 4309362 2170710 alone) ≡ 43328
average_of_one = refl

pub alone_is_counted : IsCounted terms 4309362 2170710 alone
alone_is_counted = counted_of terms 4309362 2170710 alone refl

-- ---- One after another

abbrev bye_came : (moment ssrc : ℕ) → Act
bye_came moment ssrc = arrived moment 1 0 (rtcp 20 (Ok (rr ssrc [] [] ∷ bye (ssrc ∷ []) None ∷ [])))

abbrev stays : Joined
stays = joined_with 170
    (ticked 9880000 0 0 ∷ ticked 7410000 0 0 ∷ named_came 5000200 204 ∷ bye_came 4950100 187 ∷ ticked 4924978 0
    0 ∷ ticked 2462489 0 0 ∷ named_came 100 187 ∷ [])

abbrev goes : Joined
goes = joined_with 187 (left 4950000 0 ∷ ticked 4924978 0 0 ∷ ticked 2462489 0 0 ∷ named_came 100 170 ∷ [])

abbrev comes : Joined
comes = record (who_hears 170 204) { start = 5000007 }

abbrev pub turnover : List Joined
turnover = stays ∷ goes ∷ comes ∷ []

pub turnover_is_counted : IsCounted terms 0 10000000 turnover
turnover_is_counted = counted_of terms 0 10000000 turnover refl

-- All that report are half as many again as each counts.
turnover_is_crowd : IsCrowd (record terms { percent = 150 }) 0 10000000 turnover
turnover_is_crowd = crowd_of (record terms { percent = 150 }) 0 10000000 turnover refl

-- So they are no crowd of which each counts all.
no_crowd : IsCrowd terms 0 10000000 turnover → ⊥
no_crowd crowd =
    let part = All-head (TakesPart terms 0 10000000 turnover) stays (goes ∷ comes ∷ []) crowd in
    let Counts : Decided → Type 0 = λ (decided : Decided). CountsMost 100 0 10000000 turnover (load_at decided) in
    let P : ℕ → Type 0 = λ (members : ℕ). 100 * length turnover ≤ 100 * members in
    let all : All P (2 ∷ 2 ∷ 2 ∷ []) = All-map P (λ (decided : Decided). (load_at decided).members)
    (later_within 0 10000000 stays) (All-weaker Counts (λ (decided : Decided). P (load_at decided).members)
    (λ decided counts. counts.everyone) (later_within 0 10000000 stays) part.counts) in
    let none : 300 ≤ 100 * 2 = All-head P 2 (2 ∷ 2 ∷ []) all in
    omega (arith, none)

-- ---- Two that send and do not know it of each other, and two that hear all

abbrev large_came : (moment ssrc : ℕ) → Act
large_came moment ssrc = arrived moment 1 0
    (rtcp 140 (Ok (rr ssrc [] [] ∷ sdes (record { id = ssrc; items = record { kind = 1; text = 97 ∷ [] } ∷ [] } ∷ [])
    ∷ [])))

abbrev sends_unaware : (ssrc other : ℕ) → Joined
sends_unaware ssrc other = large_with ssrc
    (ticked 17421900 0 0 ∷ rtp_sent 13100000 0 0 ∷ ticked 13022254 0 0 ∷ rtp_sent 8700000 0 0 ∷ ticked 8650774 0
    0 ∷ rtp_sent 4400000 0 0 ∷ ticked 4309355 0 0 ∷ rtp_sent 200 0 0 ∷ large_came 120 204 ∷ large_came 110
    187 ∷ large_came 100 other ∷ [])

abbrev hears_all : (ssrc other : ℕ) → Joined
hears_all ssrc other = record (large_with ssrc
    (ticked 17391400 0 0 ∷ ticked 8618710 0 0 ∷ ticked 4309355 0 0 ∷ packet_came 214 171 10 ∷ packet_came 212 171
    9 ∷ packet_came 210 170 10 ∷ packet_came 200 170 9 ∷ large_came 120 other ∷ large_came 110 171 ∷ large_came
    100 170 ∷ [])) { start = 40000 }

abbrev pub unaware : List Joined
unaware = sends_unaware 170 171 ∷ sends_unaware 171 170 ∷ hears_all 187 204 ∷ hears_all 204 187 ∷ []

pub average_of_unaware : averages_of (all_waits 8650781 8780619 unaware) ≡ 262626
average_of_unaware = refl

-- ---- Two that send, and one that hears nobody

abbrev sends_aware : (ssrc other : ℕ) → Joined
sends_aware ssrc other = large_with ssrc
    (ticked 19703100 0 0 ∷ rtp_sent 13100000 0 0 ∷ ticked 13034000 0 0 ∷ rtp_sent 6500000 0 0 ∷ ticked 6464034 0
    0 ∷ ticked 4309355 0 0 ∷ rtp_sent 220 0 0 ∷ packet_came 210 other 10 ∷ packet_came 200 other 9 ∷ large_came
    110 187 ∷ large_came 100 other ∷ [])

abbrev hears_nobody : Joined
hears_nobody = record (large_with 187
    (ticked 17237420 0 0 ∷ ticked 12928065 0 0 ∷ ticked 8618710 0 0 ∷ ticked 4309355 0 0 ∷ [])) { start = 2160000 }

abbrev pub with_one_deaf : List Joined
with_one_deaf = sends_aware 170 171 ∷ sends_aware 171 170 ∷ hears_nobody ∷ []

pub average_with_one_deaf : averages_of (all_waits 6464041 13239066 with_one_deaf) ≡ 304424
average_with_one_deaf = refl

record Waits : Type 0 where
  room_of_pair : 2 * 121828 * 2462489 * (256 * 16) / (100000 * 1000000) ≡ 24576
  room_of_one : 2 * 121828 * 2170710 * (256 * (16 + 16)) / (100000 * 1000000) ≡ 43328
  -- Its two reports are as many as may be by its average, of 169 octets. By the least size, 48, four might be.
  two_reports : total_reports 4309362 2170710 alone ≡ 2
  two_by_average : length alone + carried_in 2170710 (rtcp_bw terms) (record terms { size = 169 }) ≡ 2
  four_by_size : length alone + carried_in 2170710 (rtcp_bw terms) terms ≡ 4
  -- Three report, at most two wait at a time, and each counts two.
  three_wait : map (λ wait. wait.since ∷ wait.until ∷ (load_at wait.next).members ∷ []) (all_waits 0 10000000 turnover)
      ≡ (7410007 ∷ 9880007 ∷ 2 ∷ []) ∷ (4924985 ∷ 7410007 ∷ 2 ∷ []) ∷ (2462496 ∷ 4924985 ∷ 2 ∷ [])
      ∷ (2462496 ∷ 4924985 ∷ 2 ∷ []) ∷ (7462496 ∷ 9924985 ∷ 2 ∷ []) ∷ []

worked : Waits
worked = search
