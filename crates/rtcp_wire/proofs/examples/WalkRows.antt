-- Worked examples: what a walk reads, computed octet by octet.
use Rattle.std.proofs.Common.{◌≡◌, ℕ, pos, List, [], ◌∷◌, ◌++◌, Some, None}
use Rattle.rtcp_wire.specs.Values.{ItemValue, rr, sdes, bye, app, other}
use Rattle.rtcp_wire.specs.Walks.{packets_in}

-- 80c90001 00000007: an empty receiver report
abbrev report : List ℕ
report = 0x80 ∷ 0xc9 ∷ 0 ∷ 1 ∷ 0 ∷ 0 ∷ 0 ∷ 7 ∷ []

-- with a description of source 7: CNAME `a`
abbrev name : ItemValue
name = record { kind = 1; text = 0x61 ∷ [] }

record Readings : Type 0 where
  alone : packets_in report ≡ rr 7 [] [] ∷ []
  described : packets_in (report ++ 0x81 ∷ 0xca ∷ 0 ∷ 2 ∷ 0 ∷ 0 ∷ 0 ∷ 7 ∷ 1 ∷ 1 ∷ 0x61 ∷ 0 ∷ [])
      ≡ rr 7 [] [] ∷ sdes (record { id = 7; items = name ∷ [] } ∷ []) ∷ []
  -- two chunks: an item without text and one of two octets, then a word of zeros; and no item at all
  two_chunks : packets_in (report
      ++ 0x82 ∷ 0xca ∷ 0 ∷ 6 ∷ 0 ∷ 0 ∷ 0 ∷ 7 ∷ 7 ∷ 0 ∷ 2 ∷ 2 ∷ 0x62 ∷ 0x63 ∷ 0 ∷ 0xff
      ∷ 0 ∷ 0 ∷ 0 ∷ 8 ∷ 0 ∷ 0xff ∷ 0xff ∷ 0xff ∷ 0 ∷ 0 ∷ 0 ∷ 0 ∷ [])
      ≡ rr 7 [] []
      ∷ sdes (record {
        id = 7;
        items = record { kind = 7; text = [] } ∷ record { kind = 2; text = 0x62 ∷ 0x63 ∷ [] }
            ∷ [];
      }
      ∷ record { id = 8; items = [] } ∷ []) ∷ []
  -- a BYE with four octets of padding
  padded : packets_in (report ++ 0xa1 ∷ 0xcb ∷ 0 ∷ 2 ∷ 0 ∷ 0 ∷ 0 ∷ 7 ∷ 0xff ∷ 0xff ∷ 0xff ∷ 4 ∷ [])
      ≡ rr 7 [] [] ∷ bye (7 ∷ []) None ∷ []
  -- BYEs with a reason, with one that has no text, and with no source
  with_reason : packets_in (report ++ 0x81 ∷ 0xcb ∷ 0 ∷ 2 ∷ 0 ∷ 0 ∷ 0 ∷ 7 ∷ 2 ∷ 0x61 ∷ 0x62 ∷ 0 ∷ [])
      ≡ rr 7 [] [] ∷ bye (7 ∷ []) (Some (0x61 ∷ 0x62 ∷ [])) ∷ []
  empty_reason : packets_in (report ++ 0x81 ∷ 0xcb ∷ 0 ∷ 2 ∷ 0 ∷ 0 ∷ 0 ∷ 7 ∷ 0 ∷ 0 ∷ 0 ∷ 0 ∷ []) ≡ rr 7 [] [] ∷ bye
      (7 ∷ []) (Some []) ∷ []
  no_source : packets_in (report ++ 0x80 ∷ 0xcb ∷ 0 ∷ 0 ∷ []) ≡ rr 7 [] [] ∷ bye [] None ∷ []
  -- an application's packet: name `ABCD`, four octets of data
  of_an_application : packets_in
      (report ++ 0x85 ∷ 0xcc ∷ 0 ∷ 3 ∷ 0 ∷ 0 ∷ 0 ∷ 7 ∷ 0x41 ∷ 0x42 ∷ 0x43 ∷ 0x44 ∷ 1 ∷ 2 ∷ 3 ∷ 4 ∷ [])
      ≡ rr 7 [] [] ∷ app 5 7 (0x41 ∷ 0x42 ∷ 0x43 ∷ 0x44 ∷ []) (1 ∷ 2 ∷ 3 ∷ 4 ∷ []) ∷ []
  -- a packet of another type, kept as it is
  of_another_type : packets_in (report ++ 0x83 ∷ 0xcf ∷ 0 ∷ 1 ∷ 9 ∷ 8 ∷ 7 ∷ 6 ∷ []) ≡ rr 7 [] [] ∷ other 207 3
      (9 ∷ 8 ∷ 7 ∷ 6 ∷ []) ∷ []
  -- a report of source 7 with one block, of fraction 25, lost 3, highest 11
  with_block : packets_in (0x81 ∷ 0xc9 ∷ 0 ∷ 7 ∷ 0 ∷ 0 ∷ 0 ∷ 7 ∷ 0 ∷ 0 ∷ 0 ∷ 0xaa ∷ 0x19 ∷ 0 ∷ 0 ∷ 3 ∷ 0 ∷ 0 ∷ 0 ∷ 0x0b
      ∷ 0 ∷ 0 ∷ 0 ∷ 0
      ∷ 0xb7 ∷ 5 ∷ 0x20 ∷ 0 ∷ 0 ∷ 5 ∷ 0x40 ∷ 0 ∷ [])
      ≡ rr 7 (record {
        ssrc = 0xaa;
        fraction = 25;
        lost = pos 3;
        highest = 11;
        jitter = 0;
        lsr = 0xb7052000;
        dlsr = 0x00054000;
      } ∷ []) [] ∷ []

readings : Readings
readings = search
