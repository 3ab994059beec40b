-- Worked examples of the lines of datagrams.
use Rattle.std.proofs.Common.{◌≡◌, [], ◌∷◌, ◌++◌, Some, None, negsuc, codes, refl}
use Rattle.std.specs.Str.Lossy.{utf8_error_len, utf8_valid_len, utf8_lossy}
use Rattle.std.specs.Char.{encode_utf8}
use Rattle.std.specs.Str.{chars, is_utf8}
use Rattle.std.specs.Fmt.{digits}
use Rattle.hex.specs.Hex.{encode_with}
use Rattle.json.specs.Print.{escape_byte, print_from}
use Rattle.rtcp_wire.specs.Values.{SenderValue, ReportBlock, ChunkValue, sr, rr, sdes, bye, app, other}
use Rattle.rtcp_wire.specs.declared.fault.FaultReason.TheVariants.{Short, TooLong}
use Rattle.rtcp_json.specs.JsonValues.{json_line}
use Rattle.rtcp_json.specs.PacketValues.{datagram_json, fault_json}

abbrev a_sender : SenderValue
a_sender = record { ssrc = 11; ntp = 16750372456547483648; rtp = 160; packets = 1; octets = 160 }

abbrev a_block : ReportBlock
a_block = record { ssrc = 170; fraction = 85; lost = negsuc 0; highest = 65540; jitter = 1; lsr = 131072; dlsr = 32768 }

-- A CNAME, then a note of a quote, a line feed, an octet that is no UTF-8 and a letter, then a type without a name.
abbrev a_chunk : ChunkValue
a_chunk = record {
  id = 7;
  items = record { kind = 1; text = codes "a@b" }
      ∷ record { kind = 7; text = 34 ∷ 10 ∷ 255 ∷ 122 ∷ [] }
      ∷ record { kind = 9; text = [] }
      ∷ [];
}

record Lines : Type 0 where
  sender_report : json_line (datagram_json (sr a_sender (a_block ∷ []) [] ∷ []))
      ≡ codes "{\"packets\":[{\"type\":\"SR\",\"ssrc\":\"0000000b\",\"ntp\":\"e875470080000000\",\"rtp\":160,"
      ++ codes "\"packets\":1,\"octets\":160,\"blocks\":[{\"about\":\"000000aa\",\"fraction\":85,\"lost\":-1,"
      ++ codes "\"highest\":65540,\"jitter\":1,\"lsr\":131072,\"dlsr\":32768}],\"extension\":\"\"}]}" ++ 10 ∷ []
  receiver_report : json_line (datagram_json (rr 7 [] (1 ∷ 2 ∷ 3 ∷ 255 ∷ []) ∷ []))
      ≡ codes "{\"packets\":[{\"type\":\"RR\",\"ssrc\":\"00000007\",\"blocks\":[],\"extension\":\"010203ff\"}]}"
      ++ 10 ∷ []
  -- 239, 191 and 189 are U+FFFD.
  description : json_line (datagram_json (sdes (a_chunk ∷ []) ∷ []))
      ≡ codes "{\"packets\":[{\"type\":\"SDES\",\"chunks\":[{\"ssrc\":\"00000007\",\"items\":["
      ++ codes "{\"type\":\"cname\",\"text\":\"a@b\"},{\"type\":\"note\",\"text\":\"\\\"\\n" ++ 239 ∷ 191 ∷ 189 ∷ []
      ++ codes "z\"},{\"type\":9,\"text\":\"\"}]}]}]}" ++ 10 ∷ []
  goodbye : json_line (datagram_json (bye (7 ∷ 187 ∷ []) (Some (codes "bye")) ∷ []))
      ≡ codes "{\"packets\":[{\"type\":\"BYE\",\"ssrcs\":[\"00000007\",\"000000bb\"],\"reason\":\"bye\"}]}" ++ 10 ∷ []
  goodbye_without_reason : json_line (datagram_json (bye [] None ∷ []))
      ≡ codes "{\"packets\":[{\"type\":\"BYE\",\"ssrcs\":[],\"reason\":null}]}" ++ 10 ∷ []
  others : json_line (datagram_json (app 3 7 (codes "name") (1 ∷ 2 ∷ 3 ∷ 4 ∷ []) ∷ other 206 1 [] ∷ []))
      ≡ codes
      "{\"packets\":[{\"type\":\"APP\",\"ssrc\":\"00000007\",\"subtype\":3,\"name\":\"name\",\"data\":\"01020304\"},"
      ++ codes "{\"type\":206,\"count\":1,\"body\":\"\"}]}" ++ 10 ∷ []
  refused : json_line (fault_json (record { reason = Short; place = 20 }))
      ≡ codes "{\"refused\":\"F1 Short\",\"at\":20}"
      ++ 10 ∷ []
  refused_as_too_long : json_line (fault_json (record { reason = TooLong; place = 0 }))
      ≡ codes "{\"refused\":\"F10 TooLong\",\"at\":0}" ++ 10 ∷ []

lines : Lines
unfolding digits encode_with escape_byte print_from utf8_lossy utf8_valid_len utf8_error_len is_utf8 chars encode_utf8
lines = record {
  sender_report = refl;
  receiver_report = refl;
  description = refl;
  goodbye = refl;
  goodbye_without_reason = refl;
  others = refl;
  refused = refl;
  refused_as_too_long = refl;
}
