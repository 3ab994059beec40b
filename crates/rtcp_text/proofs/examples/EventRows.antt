-- Worked examples of the lines of a session.
use Rattle.std.proofs.Common.{◌≡◌, [], ◌∷◌, Ok, Err, codes}
use Rattle.hex.specs.Hex.{decode_pairs}
use Rattle.rtcp_text.specs.declared.fault.LineFault.TheVariants.{Words, Hex, Number}
use Rattle.rtcp_engine.specs.answers.Acts.{rtcp_arrived, rtp_arrived, packet_sent, time_passed, leave_asked, settings_given, forget_asked}
use Rattle.rtcp_text.specs.EventLines.{event_in}

record Lines : Type 0 where
  -- The empty datagram.
  empty_datagram : event_in (codes "rtcp 0 1 00000000 -") ≡ Ok (rtcp_arrived 0 1 0 [])
  -- The greatest moment, and digits of either case.
  greatest_moment : event_in (codes "rtcp 18446744073709551615 1 00000000 80C9f0") ≡ Ok
      (rtcp_arrived 18446744073709551615 1 0 (128 ∷ 201 ∷ 240 ∷ []))
  -- One more.
  moment_too_great : event_in (codes "rtcp 18446744073709551616 1 00000000 -") ≡ Err Number
  -- Twenty digits,
  twenty_digits : event_in (codes "rtp 00000000000000000007 1 00000000 80") ≡ Ok (rtp_arrived 7 1 0 (128 ∷ []))
  -- and one more.
  twenty_one_digits : event_in (codes "rtp 000000000000000000007 1 00000000 80") ≡ Err Number
  greatest_timestamp : event_in (codes "sent 5 4294967295 0") ≡ Ok (packet_sent 5 4294967295 0)
  timestamp_too_great : event_in (codes "sent 5 4294967296 0") ≡ Err Number
  words_of_either_case : event_in (codes "tick 1026037 00000000 fFfFfFfF") ≡ Ok (time_passed 1026037 0 4294967295)
  seven_digits : event_in (codes "tick 5 0000000 00000000") ≡ Err Hex
  nine_digits : event_in (codes "tick 5 00000000 000000000") ≡ Err Hex
  no_digits : event_in (codes "tick 5 zz 00000000") ≡ Err Hex
  leave : event_in (codes "leave 10000000 0000000A") ≡ Ok (leave_asked 10000000 10)
  leave_without_word : event_in (codes "leave 0") ≡ Err Words
  leave_with_two_words : event_in (codes "leave 0 00000000 00000000") ≡ Err Words
  leave_with_seven_digits : event_in (codes "leave 0 0000000") ≡ Err Hex
  -- The first faulty field counts,
  first_fault : event_in (codes "tick five zz 00000000") ≡ Err Number
  -- but the number of fields before it.
  words_first : event_in (codes "tick five zz") ≡ Err Words
  empty_line : event_in (codes "") ≡ Err Words
  unknown : event_in (codes "stay 0 00000000") ≡ Err Words
  upper_case_name : event_in (codes "RTCP 0 -") ≡ Err Words
  too_few : event_in (codes "rtcp 0") ≡ Err Words
  space_at_end : event_in (codes "rtcp 0 1 00000000 - ") ≡ Err Words
  two_spaces : event_in (codes "tick  5 00000000 00000000") ≡ Err Words
  empty_moment : event_in (codes "rtcp  1 00000000 -") ≡ Err Number
  empty_hex : event_in (codes "rtcp 0 1 00000000 ") ≡ Err Hex
  one_digit : event_in (codes "rtcp 0 1 00000000 8") ≡ Err Hex
  odd_digits : event_in (codes "rtcp 0 1 00000000 80c") ≡ Err Hex
  sign : event_in (codes "rtcp +1 1 00000000 -") ≡ Err Number

lines : Lines
unfolding decode_pairs
lines = search

-- ---- Peers

record Peers : Type 0 where
  -- The greatest peer, and a word of either case.
  greatest_peer : event_in (codes "rtcp 5 18446744073709551615 0000000A 80") ≡ Ok
      (rtcp_arrived 5 18446744073709551615 10 (128 ∷ []))
  -- One more.
  peer_too_great : event_in (codes "rtcp 5 18446744073709551616 0000000A 80") ≡ Err Number
  peer_and_word : event_in (codes "rtp 0 7 000000bb 80") ≡ Ok (rtp_arrived 0 7 187 (128 ∷ []))
  no_peer : event_in (codes "rtcp 0  000000bb -") ≡ Err Number
  hex_peer : event_in (codes "rtp 0 0x7 000000bb -") ≡ Err Number
  word_of_seven_digits : event_in (codes "rtp 0 7 00000bb -") ≡ Err Hex
  -- The moment counts before the peer, the peer before the word, and the word before the datagram.
  moment_first : event_in (codes "rtcp x 18446744073709551616 zz zz") ≡ Err Number
  peer_first : event_in (codes "rtcp 0 18446744073709551616 zz zz") ≡ Err Number
  -- A line without a peer and a word.
  short_line : event_in (codes "rtcp 0 80c90001000000aa") ≡ Err Words
  without_word : event_in (codes "rtp 0 7 -") ≡ Err Words

peers : Peers
unfolding decode_pairs
peers = search

-- ---- Settings

record Settings : Type 0 where
  -- Two clocks, an item and one without a text.
  settings : event_in (codes "configure 7 16 1073741824 0:8000,127:90000 2:6A6f,3: 8000 00000000000000ff") ≡ Ok
      (settings_given 7 (record {
        sender_bw = 16;
        receiver_bw = 1073741824;
        rate = 8000;
        clocks = record { payload_type = 0; rate = 8000 } ∷ record { payload_type = 127; rate = 90000 } ∷ [];
        ntp_base = 255;
        extras = record { kind = 2; text = 106 ∷ 111 ∷ [] } ∷ record { kind = 3; text = [] } ∷ [];
      }))
  -- No clocks and no items, and bandwidths that no session may have.
  bare_settings : event_in (codes "configure 0 0 4294967295 - - 8000 00000000000000ff") ≡ Ok
      (settings_given 0 (record {
        sender_bw = 0;
        receiver_bw = 4294967295;
        rate = 8000;
        clocks = [];
        ntp_base = 255;
        extras = [];
      }))
  -- Types that no item and no packet may have.
  greatest_types : event_in (codes "configure 0 16 16 255:4294967295 255:00 8000 00000000000000ff") ≡ Ok
      (settings_given 0 (record {
        sender_bw = 16;
        receiver_bw = 16;
        rate = 8000;
        clocks = record { payload_type = 255; rate = 4294967295 } ∷ [];
        ntp_base = 255;
        extras = record { kind = 255; text = 0 ∷ [] } ∷ [];
      }))
  bandwidth_too_great : event_in (codes "configure 0 16 4294967296 - - 8000 00000000000000ff") ≡ Err Number
  payload_type_too_great : event_in (codes "configure 0 16 16 256:8000 - 8000 00000000000000ff") ≡ Err Number
  rate_too_great : event_in (codes "configure 0 16 16 0:4294967296 - 8000 00000000000000ff") ≡ Err Number
  clock_without_rate : event_in (codes "configure 0 16 16 8000 - 8000 00000000000000ff") ≡ Err Number
  clock_with_two_rates : event_in (codes "configure 0 16 16 0:8000:8000 - 8000 00000000000000ff") ≡ Err Number
  no_clocks : event_in (codes "configure 0 16 16  - 8000 00000000000000ff") ≡ Err Number
  comma_at_end : event_in (codes "configure 0 16 16 0:8000, - 8000 00000000000000ff") ≡ Err Number
  hyphen_among_clocks : event_in (codes "configure 0 16 16 0:8000,- - 8000 00000000000000ff") ≡ Err Number
  sixteen_clocks : event_in
      (codes "configure 0 16 16 0:1,1:1,2:1,3:1,4:1,5:1,6:1,7:1,8:1,9:1,10:1,11:1,12:1,13:1,14:1,15:1 zz 1 0")
      ≡ Err Hex
  seventeen_clocks : event_in
      (codes "configure 0 16 16 0:1,1:1,2:1,3:1,4:1,5:1,6:1,7:1,8:1,9:1,10:1,11:1,12:1,13:1,14:1,15:1,16:1 zz 1 0")
      ≡ Err Number
  kind_too_great : event_in (codes "configure 0 16 16 - 256:61 8000 00000000000000ff") ≡ Err Hex
  odd_text : event_in (codes "configure 0 16 16 - 2:616 8000 00000000000000ff") ≡ Err Hex
  item_without_colon : event_in (codes "configure 0 16 16 - 2 8000 00000000000000ff") ≡ Err Hex
  no_items : event_in (codes "configure 0 16 16 -  8000 00000000000000ff") ≡ Err Hex
  eight_items : event_in (codes "configure 0 16 16 - 2:,3:,4:,5:,6:,7:,8:,2: 8000 00000000000000ff") ≡ Err Hex
  -- The clocks count before the items.
  clocks_first : event_in (codes "configure 0 16 16 x zz 8000 00000000000000ff") ≡ Err Number
  -- The items count before the rate, and the rate before the time of day.
  items_before_rate : event_in (codes "configure 0 16 16 - zz x zz") ≡ Err Hex
  rate_before_time : event_in (codes "configure 0 16 16 - - x zz") ≡ Err Number
  greatest_rate : event_in (codes "configure 0 16 16 - - 4294967296 0000000000000000") ≡ Err Number
  short_time : event_in (codes "configure 0 16 16 - - 8000 000000000000000") ≡ Err Hex
  without_items : event_in (codes "configure 0 16 16 -") ≡ Err Words
  without_time : event_in (codes "configure 0 16 16 - - 8000") ≡ Err Words
  -- as recordings had it before
  without_rate : event_in (codes "configure 0 16 16 - -") ≡ Err Words

settings : Settings
unfolding decode_pairs
settings = search

-- ---- Forgets

record Forgets : Type 0 where
  forget : event_in (codes "forget 18446744073709551615 0000000A") ≡ Ok (forget_asked 18446744073709551615 10)
  forget_without_ssrc : event_in (codes "forget 0") ≡ Err Words
  forget_of_two : event_in (codes "forget 0 0000000A 0000000B") ≡ Err Words
  forget_with_seven_digits : event_in (codes "forget 0 000000A") ≡ Err Hex

forgets : Forgets
unfolding decode_pairs
forgets = search
