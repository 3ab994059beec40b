-- Worked rows: crowds of two and of three, and what would be wrong of them. Bandwidths are 16 octets a second for
-- senders and 16 for the others, and each compound has 48 octets with its headers. Each hears of the others, and
-- reports as soon as it may. Two that do not send RTP send as many reports as a crowd may: with 243,655 in place of
-- 243,656 they would be one too many, as without the one report that each may send besides.
use Rattle.std.proofs.Common.{◌≡◌, ◌<◌, ◌^◌, ℕ, ◌+◌, ◌*◌, ◌/◌, List, [], ◌∷◌, ◌&&◌, not, nat_le, nat_lt, length, map, All, Bool, true, false, Option, Some, None, is_some, Ok, Err, refl, arith}
use Rattle.std.specs.List.{list_all}
use Rattle.std.proofs.lemmas.Bool.{and_parts, leb-true, ltb-true}
use Rattle.std.proofs.lemmas.List.Elements.{All-nil, All-cons, All-weaker}
use Rattle.std.proofs.lemmas.List.Sums.{AllPass-from_list_all}
use Rattle.rtcp_wire.specs.Values.{rr, sdes, RtpValue}
use Rattle.std.specs.List.{IsDistinct}
use Rattle.rtcp_members.specs.Entries.{entry_at, is_member, is_such}
use Rattle.rtcp_timer.specs.declared.load.Load.{Load}
use Rattle.rtcp_timer.specs.Loads.{with_headers}
use Rattle.rtcp_engine.specs.answers.Setups.{Setup}
use Rattle.rtcp_engine.specs.answers.Acts.{Act, arrived, rtcp, rtp, rtp_sent, ticked, left, configured, forgotten}
use Rattle.rtcp_engine.specs.answers.Histories.{History}
use Rattle.rtcp_engine.specs.answers.Outcomes.{Outcome, first_size_of}
use Rattle.rtcp_engine.specs.answers.Refused.{error_in}
use Rattle.rtcp_engine.specs.answers.Answers.{refusal_after}
use Rattle.rtcp_engine.specs.state.Taken.{HasWords, AllTaken, IsHistory}
use Rattle.rtcp_engine.specs.bounds.Sent.{reports_in, sent_at}
use Rattle.rtcp_session.specs.Windows.{in_window, later_ones, intervals_of, Decided, load_at, decided_at, HasSize, Joined, decided_within, later_within}
use Rattle.rtcp_engine.proofs.LawLemmas.{usable_is_unrefused}
use Rattle.rtcp_session.specs.Crowds.{HasAtMost, total_reports, total_as, those_as, alike_in, shares_within, AreHeard, Terms, CountsMost, TakesPart, IsCrowd, carried_in}

-- ---- Participants

abbrev pub setup_of : (ssrc : ℕ) → Setup
setup_of ssrc = record {
  ssrc = ssrc;
  cname = 97 ∷ [];
  capacity = 1024;
  limit = 1472;
  settings = record {
    sender_bw = 16;
    receiver_bw = 16;
    rate = 8000;
    clocks = [];
    ntp_base = 0;
    extras = [];
  };
}

-- a receiver report of a source, and its CNAME
abbrev pub named_came : (moment ssrc : ℕ) → Act
named_came moment ssrc = arrived moment 1 0
    (rtcp 20 (Ok (rr ssrc [] [] ∷ sdes (record { id = ssrc; items = record { kind = 1; text = 97 ∷ [] } ∷ [] } ∷ [])
    ∷ [])))

abbrev pub joined_with : (ssrc : ℕ) → List Act → Joined
joined_with ssrc acts = record { history = record { setup = setup_of ssrc; word = 0; acts = acts }; start = 7 }

-- hears of another, and is asked when a report may go out with the least of draws
abbrev pub who_hears : (other ssrc : ℕ) → Joined
who_hears other ssrc = joined_with ssrc (ticked 4924978 0 0 ∷ ticked 2462489 0 0 ∷ named_came 100 other ∷ [])

abbrev pub terms : Terms
terms = record { sender_bw = 16; receiver_bw = 16; size = 48; percent = 100 }

-- ---- Two that do not send

abbrev pub pair : List Joined
pair = who_hears 187 170 ∷ who_hears 170 187 ∷ []

-- The other is heard, and counted.
hears_other : (outcome : Outcome) → is_such is_member (entry_at 1024 outcome.trace 187) ≡ true →
    AreHeard is_member (setup_of 170) outcome (187 ∷ [])
unfolding IsDistinct
hears_other outcome is = record {
  apart = (tt, tt);
  heard = All-cons (λ (ssrc : ℕ). is_such is_member (entry_at 1024 outcome.trace ssrc) ≡ true) 187 [] is
      (All-nil (λ (ssrc : ℕ). is_such is_member (entry_at 1024 outcome.trace ssrc) ≡ true));
}

-- ---- One that sends, and another

abbrev pub sender : Joined
sender = joined_with 170 (ticked 3283319 0 0 ∷ ticked 1231245 0 0 ∷ rtp_sent 200 0 0 ∷ named_came 100 187 ∷ [])

abbrev mixed : List Joined
mixed = sender ∷ who_hears 170 187 ∷ []

-- ---- Three, of which one sends

abbrev pub packet_of : (ssrc seq : ℕ) → RtpValue
packet_of ssrc seq = record {
  payload_type = 0;
  marker = false;
  sequence = seq;
  timestamp = 0;
  ssrc = ssrc;
  csrcs = [];
  payload = [];
}

abbrev pub packet_came : (moment ssrc seq : ℕ) → Act
packet_came moment ssrc seq = arrived moment 1 0 (rtp (Ok (packet_of ssrc seq)))

abbrev sender_of_three : Joined
sender_of_three = joined_with 170
    (ticked 3283319 0 0 ∷ ticked 1231245 0 0 ∷ rtp_sent 200 0 0 ∷ named_came 110 204 ∷ named_came 100 187 ∷ [])

-- hears of the other two, and two packets of the one that sends, so that it counts a sender
abbrev other_of_three : (other ssrc : ℕ) → Joined
other_of_three other ssrc = joined_with ssrc
    (ticked 5001931 0 0 ∷ ticked 2462489 0 0 ∷ packet_came 210 170 10 ∷ packet_came 200 170 9 ∷ named_came 110
    other ∷ named_came 100 170 ∷ [])

abbrev three : List Joined
three = sender_of_three ∷ other_of_three 204 187 ∷ other_of_three 187 204 ∷ []

-- ---- One that begins to send and ceases, and another

-- It reports as one that does not send, then as a sender, and again as one that does not.
abbrev turning : Joined
turning = joined_with 170 (ticked 12600000 0 0 ∷ ticked 4924978 0 0 ∷ rtp_sent 2500000 0 0 ∷ ticked 2462489 0
    0 ∷ named_came 100 187 ∷ [])

abbrev turning_pair : List Joined
turning_pair = turning ∷ who_hears 170 187 ∷ []

-- ---- They are crowds, by a test that computes

abbrev has_words : Act → Bool
has_words (arrived moment peer word datagram) = nat_lt word (2 ^ 32)
has_words (rtp_sent moment timestamp octets) = nat_lt timestamp (2 ^ 32) && nat_lt octets (2 ^ 32)
has_words (ticked moment first_word second_word) = nat_lt first_word (2 ^ 32) && nat_lt second_word (2 ^ 32)
has_words (left moment word) = nat_lt word (2 ^ 32)
has_words (configured moment settings) = true
has_words (forgotten moment ssrc) = nat_lt ssrc (2 ^ 32)

below : (one other : ℕ) → (nat_lt one (2 ^ 32) && nat_lt other (2 ^ 32)) ≡ true → (one < 2 ^ 32) × (other < 2 ^ 32)
below one other is =
    let parts = and_parts (nat_lt one (2 ^ 32)) (nat_lt other (2 ^ 32)) is in
    (ltb-true one (2 ^ 32) parts.0, ltb-true other (2 ^ 32) parts.1)

words : (act : Act) → has_words act ≡ true → HasWords act
words (arrived moment peer word datagram) is = ltb-true word (2 ^ 32) is
words (rtp_sent moment timestamp octets) is = below timestamp octets is
words (ticked moment first_word second_word) is = below first_word second_word is
words (left moment word) is = ltb-true word (2 ^ 32) is
words (configured moment settings) is = tt
words (forgotten moment ssrc) is = ltb-true ssrc (2 ^ 32) is

none : {A : Type 0} (found : Option A) → not (is_some found) ≡ true → found ≡ None
none None is = refl
none (Some x) is = absurd cc

abbrev are_taken : Setup → (word : ℕ) → List Act → Bool
are_taken setup word [] = true
are_taken setup word (act ∷ earlier) = are_taken setup word earlier
    && (has_words act && not (is_some (refusal_after (record { setup = setup; word = word; acts = earlier }) act)))

all_taken : (setup : Setup) (word : ℕ) (acts : List Act) → are_taken setup word acts ≡ true → AllTaken setup word acts
all_taken setup word [] is = tt
all_taken setup word (act ∷ earlier) is =
    let refusal = refusal_after (record { setup = setup; word = word; acts = earlier }) act in
    let parts = and_parts (are_taken setup word earlier) (has_words act && not (is_some refusal)) is in
    let newest = and_parts (has_words act) (not (is_some refusal)) parts.1 in
    (none refusal newest.1, words act newest.0, all_taken setup word earlier parts.0)

abbrev pub is_history : History → Bool
is_history history = are_taken history.setup history.word history.acts
    && (nat_lt history.word (2 ^ 32) && not (is_some (error_in history.setup)))

pub stands : (history : History) → is_history history ≡ true → IsHistory history
stands history is =
    let refused = not (is_some (error_in history.setup)) in
    let parts = and_parts (are_taken history.setup history.word history.acts) (nat_lt history.word (2 ^ 32) && refused)
    is in
    let first = and_parts (nat_lt history.word (2 ^ 32)) refused parts.1 in
    record {
      usable = (usable_is_unrefused history.setup).1 (none (error_in history.setup) first.1);
      word = ltb-true history.word (2 ^ 32) first.0;
      taken = all_taken history.setup history.word history.acts parts.0;
    }

abbrev is_large : (least : ℕ) → Act → Bool
is_large least (arrived moment peer word (rtcp size (Ok packets))) = nat_le least (with_headers size)
is_large least act = true

large : (least : ℕ) (act : Act) → is_large least act ≡ true → HasSize least act
large least (arrived moment peer word (rtcp size (Ok packets))) is = leb-true least (with_headers size) is
large least (arrived moment peer word (rtcp size (Err fault))) is = tt
large least (arrived moment peer word (rtp reading)) is = tt
large least (rtp_sent moment timestamp octets) is = tt
large least (ticked moment first_word second_word) is = tt
large least (left moment word) is = tt
large least (configured moment settings) is = tt
large least (forgotten moment ssrc) is = tt

-- what a test says of each
pub each : {A : Type 0} (test : A → Bool) (P : A → Type 0) → ((x : A) → test x ≡ true → P x) → (all : List A) →
    list_all test all ≡ true → All P all
each {A} test P says all is = All-weaker (λ (x : A). test x ≡ true) P says all (AllPass-from_list_all test all is)

-- whether a setup has at most this bandwidth
abbrev pub has_at_most : Terms → Setup → Bool
has_at_most terms setup = nat_le setup.settings.sender_bw terms.sender_bw && nat_le setup.settings.receiver_bw
    terms.receiver_bw

pub bandwidth_of : (terms : Terms) (setup : Setup) → has_at_most terms setup ≡ true → HasAtMost terms setup
bandwidth_of terms setup is =
    let parts = and_parts (nat_le setup.settings.sender_bw terms.sender_bw)
    (nat_le setup.settings.receiver_bw terms.receiver_bw) is in
    record {
      for_senders = leb-true setup.settings.sender_bw terms.sender_bw parts.0;
      for_others = leb-true setup.settings.receiver_bw terms.receiver_bw parts.1;
    }

-- the same of each report
abbrev pub keeps_to : Terms → List Decided → Bool
keeps_to terms all = list_all (λ decided. has_at_most terms decided.setup) all

pub bandwidths_of : (terms : Terms) (all : List Decided) → keeps_to terms all ≡ true →
    All (λ decided. HasAtMost terms decided.setup) all
bandwidths_of terms all is =
    each (λ (decided : Decided). has_at_most terms decided.setup)
    (λ (decided : Decided). HasAtMost terms decided.setup) (λ decided. bandwidth_of terms decided.setup) all is

module _ (terms : Terms) (from width : ℕ) (all : List Joined) where
  abbrev counts_most : Load → Bool
  counts_most load = nat_le (100 * length all) (terms.percent * load.members)
      && nat_le (100 * length (those_as load.we_sent from width all)) (terms.percent * alike_in load)

  counts : (load : Load) → counts_most load ≡ true → CountsMost terms.percent from width all load
  counts load is =
      let alike = length (those_as load.we_sent from width all) in
      let parts = and_parts (nat_le (100 * length all) (terms.percent * load.members))
      (nat_le (100 * alike) (terms.percent * alike_in load)) is in
      record {
        everyone = leb-true (100 * length all) (terms.percent * load.members) parts.0;
        alike = leb-true (100 * alike) (terms.percent * alike_in load) parts.1;
      }

  abbrev tests : Joined → List Bool
  tests joined = is_history joined.history
      ∷ keeps_to terms (decided_at joined.history)
      ∷ nat_le terms.size (with_headers (first_size_of joined.history.setup))
      ∷ list_all (is_large terms.size) joined.history.acts
      ∷ list_all (λ decided. counts_most (load_at decided)) (later_within from width joined) ∷ []

  abbrev takes_part : Joined → Bool
  takes_part joined = list_all (λ passed. passed) (tests joined)

  part : (joined : Joined) → takes_part joined ≡ true → TakesPart terms from width all joined
  part joined is =
      let setup = joined.history.setup in
      let passed = AllPass-from_list_all (λ (passed : Bool). passed) (tests joined) is in
      record {
        stands = stands joined.history (passed 0 true (omega arith));
        bandwidth = bandwidths_of terms (decided_at joined.history) (passed 1 true (omega arith));
        own = leb-true terms.size (with_headers (first_size_of setup)) (passed 2 true (omega arith));
        sizes = each (is_large terms.size) (HasSize terms.size) (large terms.size) joined.history.acts
            (passed 3 true (omega arith));
        counts = each (λ (decided : Decided). counts_most (load_at decided))
            (λ (decided : Decided). CountsMost terms.percent from width all (load_at decided))
            (λ decided. counts (load_at decided)) (later_within from width joined) (passed 4 true (omega arith));
      }

  pub crowd_of : list_all takes_part all ≡ true → IsCrowd terms from width all
  crowd_of = each takes_part (TakesPart terms from width all) part all

pub pair_is_crowd : IsCrowd terms 2462496 2462489 pair
pair_is_crowd = crowd_of terms 2462496 2462489 pair refl

mixed_is_crowd : IsCrowd terms 0 5000000 mixed
mixed_is_crowd = crowd_of terms 0 5000000 mixed refl

three_are_crowd : IsCrowd terms 0 5100000 three
three_are_crowd = crowd_of terms 0 5100000 three refl

turning_is_crowd : IsCrowd terms 0 13000000 turning_pair
turning_is_crowd = crowd_of terms 0 13000000 turning_pair refl

record Crowds : Type 0 where
  four_reports : total_reports 2462496 2462489 pair ≡ 4
  two_later : total_as false 2462496 2462489 pair ≡ 2
  four_allowed : length pair + carried_in 2462489 terms.receiver_bw terms ≡ 4
  -- The interval then computed fits into the window, and nothing more does.
  six_seconds_of : intervals_of (later_ones
      (in_window 2462489 2462489 (reports_in (sent_at (who_hears 187 170).history)))) ≡ 6000000
  six_seconds_fit : 2 * 121828 * 2462489 / 100000 ≡ 6000002
  -- So many are allowed by intervals of 6 seconds, and only one by intervals of twice that length.
  two_allowed : 1 + 2 * 121828 * 2462489 / (100000 * 6000000) ≡ 2
  one_by_twice : 1 + 2 * 121828 * 2462489 / (100000 * 12000000) ≡ 1
  -- Each leaves room for two compounds of 48 octets, and no room is left.
  share_of_two : shares_within 2462496 2462489 (who_hears 187 170) ≡ 24576
  room_for_two : 2 * 121828 * 2462489 * (256 * 16) / (100000 * 1000000) ≡ 24576
  did_send : map (λ decided. is_such is_member (entry_at 1024 decided.outcome.trace 187))
      (later_within 2462496 2462489 (who_hears 187 170)) ≡ true ∷ []
  four_of_both : total_reports 0 5000000 mixed ≡ 4
  ten_allowed : length mixed + carried_in 5000000 (terms.sender_bw + terms.receiver_bw) terms ≡ 10
  six_of_three : total_reports 0 5100000 three ≡ 6
  eleven_allowed : length three + carried_in 5100000 (terms.sender_bw + terms.receiver_bw) terms ≡ 11
  roles : map (λ decided. (load_at decided).we_sent) (decided_within 0 13000000 turning) ≡ false ∷ true ∷ false ∷ []

crowds : Crowds
crowds = search
