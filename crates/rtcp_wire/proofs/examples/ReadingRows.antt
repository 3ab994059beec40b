-- Worked examples: what datagrams say, or their first faults, computed octet by octet. Each value was worked out by
-- hand from RFC 3550.
use Rattle.std.proofs.Common.{◌≡◌, ℕ, ◌<◌, List, [], ◌∷◌, ◌++◌, length, Result, Ok, Err, Some, None, refl}
use Rattle.std.proofs.lemmas.Bool.{lt-ltb}
use Rattle.rtcp_wire.specs.declared.fault.FaultReason.{FaultReason}
use Rattle.rtcp_wire.specs.declared.fault.FaultReason.TheVariants.{Short, Version, FirstType, FirstPadding, Length, Padding, Body, Item, Reason, TooLong}
use Rattle.rtcp_wire.specs.declared.fault.WireFault.{WireFault}
use Rattle.rtcp_wire.specs.Values.{RtcpPacket, sr, rr, sdes, bye, app}
use Rattle.rtcp_wire.specs.Readings.{rtcp_in}

-- 80c90001 00000007: an empty receiver report
abbrev report : List ℕ
report = 0x80 ∷ 0xc9 ∷ 0 ∷ 1 ∷ 0 ∷ 0 ∷ 0 ∷ 7 ∷ []

-- 81ca0002 00000007 01016100: a description of source 7, with the name `a`
abbrev description : List ℕ
description = 0x81 ∷ 0xca ∷ 0 ∷ 2 ∷ 0 ∷ 0 ∷ 0 ∷ 7 ∷ 1 ∷ 1 ∷ 0x61 ∷ 0 ∷ []

abbrev named : RtcpPacket
named = sdes (record { id = 7; items = record { kind = 1; text = 0x61 ∷ [] } ∷ [] } ∷ [])

-- ---- What is read

abbrev says : List RtcpPacket → Result (List RtcpPacket) WireFault
says = Ok

record Readings : Type 0 where
  alone : rtcp_in report ≡ says (rr 7 [] [] ∷ [])
  described : rtcp_in (report ++ description) ≡ says (rr 7 [] [] ∷ named ∷ [])
  -- a sender report half a second after 1970 began, at 100 on the RTP clock, after 3 packets of 400 octets
  of_a_sender : rtcp_in (0x80 ∷ 0xc8 ∷ 0 ∷ 6 ∷ 0 ∷ 0 ∷ 0 ∷ 7 ∷ 0x83 ∷ 0xaa ∷ 0x7e ∷ 0x80 ∷ 0x80 ∷ 0 ∷ 0 ∷ 0
      ∷ 0 ∷ 0 ∷ 0 ∷ 0x64 ∷ 0 ∷ 0 ∷ 0 ∷ 3 ∷ 0 ∷ 0 ∷ 1 ∷ 0x90 ∷ [])
      ≡ says (sr (record { ssrc = 7; ntp = 0x83aa7e8080000000; rtp = 100; packets = 3; octets = 400 }) [] [] ∷ [])
  -- padding of all but the header, and of four octets
  padded : rtcp_in (report ++ 0xa0 ∷ 0xcb ∷ 0 ∷ 2 ∷ 0 ∷ 0 ∷ 0 ∷ 7 ∷ 0 ∷ 0 ∷ 0 ∷ 8 ∷ [])
      ≡ says (rr 7 [] [] ∷ bye [] None ∷ [])
  padded_less : rtcp_in (report ++ 0xa1 ∷ 0xcb ∷ 0 ∷ 2 ∷ 0 ∷ 0 ∷ 0 ∷ 7 ∷ 0xff ∷ 0xff ∷ 0xff ∷ 4 ∷ [])
      ≡ says (rr 7 [] [] ∷ bye (7 ∷ []) None ∷ [])
  -- a reason that fills its word, and one with three octets after it
  full_reason : rtcp_in (report ++ 0x81 ∷ 0xcb ∷ 0 ∷ 2 ∷ 0 ∷ 0 ∷ 0 ∷ 7 ∷ 3 ∷ 0x61 ∷ 0x62 ∷ 0x63 ∷ [])
      ≡ says (rr 7 [] [] ∷ bye (7 ∷ []) (Some (0x61 ∷ 0x62 ∷ 0x63 ∷ [])) ∷ [])
  empty_reason : rtcp_in (report ++ 0x81 ∷ 0xcb ∷ 0 ∷ 2 ∷ 0 ∷ 0 ∷ 0 ∷ 7 ∷ 0 ∷ 0x61 ∷ 0x62 ∷ 0x63 ∷ [])
      ≡ says (rr 7 [] [] ∷ bye (7 ∷ []) (Some []) ∷ [])
  -- three octets after a chunk's zero octet
  filled_chunk : rtcp_in (report ++ 0x81 ∷ 0xca ∷ 0 ∷ 2 ∷ 0 ∷ 0 ∷ 0 ∷ 7 ∷ 0 ∷ 0xff ∷ 0xff ∷ 0xff ∷ [])
      ≡ says (rr 7 [] [] ∷ sdes (record { id = 7; items = [] } ∷ []) ∷ [])
  of_an_application : rtcp_in (report ++ 0x85 ∷ 0xcc ∷ 0 ∷ 2 ∷ 0 ∷ 0 ∷ 0 ∷ 7 ∷ 0x41 ∷ 0x42 ∷ 0x43 ∷ 0x44 ∷ [])
      ≡ says (rr 7 [] [] ∷ app 5 7 (0x41 ∷ 0x42 ∷ 0x43 ∷ 0x44 ∷ []) [] ∷ [])

readings : Readings
readings = search

-- ---- What is refused

abbrev faulty : FaultReason → ℕ → Result (List RtcpPacket) WireFault
faulty reason place = Err (record { reason = reason; place = place })

record Refusals : Type 0 where
  -- no octet, three octets, and one octet after a packet and after two
  empty : rtcp_in [] ≡ faulty Short 0
  three : rtcp_in (0x80 ∷ 0xc9 ∷ 0 ∷ []) ≡ faulty Short 0
  one_more : rtcp_in (report ++ 0x80 ∷ []) ≡ faulty Short 8
  one_after_two : rtcp_in (report ++ description ++ 0x80 ∷ []) ≡ faulty Short 20
  -- version 1, in the first packet and in the second; it is tested before the type
  version : rtcp_in (0x40 ∷ 0xc9 ∷ 0 ∷ 1 ∷ 0 ∷ 0 ∷ 0 ∷ 7 ∷ []) ≡ faulty Version 0
  second_version : rtcp_in (report ++ 0x41 ∷ 0xcb ∷ 0 ∷ 1 ∷ 0 ∷ 0 ∷ 0 ∷ 7 ∷ []) ≡ faulty Version 8
  version_before_type : rtcp_in (0x40 ∷ 0xcb ∷ 0 ∷ 0 ∷ []) ≡ faulty Version 0
  -- a description alone; a padded report
  first_type : rtcp_in description ≡ faulty FirstType 0
  first_padding : rtcp_in (0xa0 ∷ 0xc9 ∷ 0 ∷ 2 ∷ 0 ∷ 0 ∷ 0 ∷ 7 ∷ 0 ∷ 0 ∷ 0 ∷ 4 ∷ []) ≡ faulty FirstPadding 0
  -- seven octets of eight; four of eight in the third packet
  cut : rtcp_in (0x80 ∷ 0xc9 ∷ 0 ∷ 1 ∷ 0 ∷ 0 ∷ 0 ∷ []) ≡ faulty Length 0
  third_cut : rtcp_in (report ++ description ++ 0x81 ∷ 0xcb ∷ 0 ∷ 1 ∷ []) ≡ faulty Length 20
  -- padding of 0, of 5, and of 12 octets, where 8 follow the header
  padding_of_none : rtcp_in (report ++ 0xa1 ∷ 0xcb ∷ 0 ∷ 2 ∷ 0 ∷ 0 ∷ 0 ∷ 7 ∷ 0 ∷ 0 ∷ 0 ∷ 0 ∷ []) ≡ faulty Padding 8
  odd_padding : rtcp_in (report ++ 0xa1 ∷ 0xcb ∷ 0 ∷ 2 ∷ 0 ∷ 0 ∷ 0 ∷ 7 ∷ 0 ∷ 0 ∷ 0 ∷ 5 ∷ []) ≡ faulty Padding 8
  too_much_padding : rtcp_in (report ++ 0xa1 ∷ 0xcb ∷ 0 ∷ 2 ∷ 0 ∷ 0 ∷ 0 ∷ 7 ∷ 0 ∷ 0 ∷ 0 ∷ 12 ∷ []) ≡ faulty Padding 8
  -- padding over the identifier that is counted
  padded_identifier : rtcp_in (report ++ 0xa1 ∷ 0xcb ∷ 0 ∷ 2 ∷ 0 ∷ 0 ∷ 0 ∷ 7 ∷ 0 ∷ 0 ∷ 0 ∷ 8 ∷ []) ≡ faulty Body 8
  -- a report without the block that it counts, one without its sender's numbers, an application's without its name
  no_block : rtcp_in (0x81 ∷ 0xc9 ∷ 0 ∷ 1 ∷ 0 ∷ 0 ∷ 0 ∷ 7 ∷ []) ≡ faulty Body 0
  no_sender : rtcp_in (0x80 ∷ 0xc8 ∷ 0 ∷ 1 ∷ 0 ∷ 0 ∷ 0 ∷ 7 ∷ []) ≡ faulty Body 0
  no_name : rtcp_in (report ++ 0x80 ∷ 0xcc ∷ 0 ∷ 1 ∷ 0 ∷ 0 ∷ 0 ∷ 7 ∷ []) ≡ faulty Body 8
  -- two chunks counted and one there; none counted and one there
  one_chunk_of_two : rtcp_in (report ++ 0x82 ∷ 0xca ∷ 0 ∷ 2 ∷ 0 ∷ 0 ∷ 0 ∷ 7 ∷ 1 ∷ 1 ∷ 0x61 ∷ 0 ∷ []) ≡ faulty Body 8
  chunk_of_none : rtcp_in (report ++ 0x80 ∷ 0xca ∷ 0 ∷ 2 ∷ 0 ∷ 0 ∷ 0 ∷ 7 ∷ 1 ∷ 1 ∷ 0x61 ∷ 0 ∷ []) ≡ faulty Body 8
  -- an item of five octets that has two; one of two octets without a zero octet after it; one without its length; and
  -- an identifier alone
  cut_item : rtcp_in (report ++ 0x81 ∷ 0xca ∷ 0 ∷ 2 ∷ 0 ∷ 0 ∷ 0 ∷ 7 ∷ 1 ∷ 5 ∷ 0x61 ∷ 0 ∷ []) ≡ faulty Item 8
  no_zero_octet : rtcp_in (report ++ 0x81 ∷ 0xca ∷ 0 ∷ 2 ∷ 0 ∷ 0 ∷ 0 ∷ 7 ∷ 1 ∷ 2 ∷ 0x61 ∷ 0x62 ∷ []) ≡ faulty Item 8
  no_item_length : rtcp_in (report ++ 0x81 ∷ 0xca ∷ 0 ∷ 2 ∷ 0 ∷ 0 ∷ 0 ∷ 7 ∷ 1 ∷ 1 ∷ 0x61 ∷ 1 ∷ []) ≡ faulty Item 8
  no_items : rtcp_in (report ++ 0x81 ∷ 0xca ∷ 0 ∷ 1 ∷ 0 ∷ 0 ∷ 0 ∷ 7 ∷ []) ≡ faulty Item 8
  -- a reason of four octets that has three; a word after one of three
  long_reason : rtcp_in (report ++ 0x81 ∷ 0xcb ∷ 0 ∷ 2 ∷ 0 ∷ 0 ∷ 0 ∷ 7 ∷ 4 ∷ 0x61 ∷ 0x62 ∷ 0x63 ∷ []) ≡ faulty Reason 8
  word_after_reason : rtcp_in
      (report ++ 0x81 ∷ 0xcb ∷ 0 ∷ 3 ∷ 0 ∷ 0 ∷ 0 ∷ 7 ∷ 3 ∷ 0x61 ∷ 0x62 ∷ 0x63 ∷ 0 ∷ 0 ∷ 0 ∷ 0 ∷ []) ≡ faulty Reason 8

refusals : Refusals
refusals = search

-- The size is tested before all else.
too_long : (octets : List ℕ) → 65535 < length octets → rtcp_in octets ≡ faulty TooLong 0
too_long octets long = rw (lt-ltb 65535 (length octets) long) refl
