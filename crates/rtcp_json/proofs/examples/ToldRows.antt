-- Worked examples of the lines of a session on a link.
use Rattle.std.proofs.Common.{◌≡◌, ℕ, [], ◌∷◌, ◌++◌, Option, Some, None, is_some, is_none, Bool, true, false, Ok, Err, negsuc, codes, refl}
use Rattle.std.specs.Fmt.{digits}
use Rattle.hex.specs.Hex.{encode_with}
use Rattle.json.specs.Json.{null}
use Rattle.json.specs.Print.{escape_byte, print_from}
use Rattle.rtcp_wire.specs.Values.{rr}
use Rattle.rtcp_source.specs.Receptions.{ReceptionValue}
use Rattle.rtcp_members.specs.Listings.{StateValue}
use Rattle.rtcp_engine.specs.answers.Acts.{rtcp_arrived, rtp_arrived, time_passed, leave_asked, StepValue}
use Rattle.rtcp_engine.specs.declared.refusal.Refusal.TheVariants.{TooFar}
use Rattle.rtcp_guarded.specs.declared.untaken.Reason.TheVariants.{Stranger}
use Rattle.rtcp_guarded.specs.declared.untaken.Untaken.TheVariants.{Refused, HeldBack}
use Rattle.rtcp_serve.specs.declared.serving.Cause.TheVariants.{Done}
use Rattle.rtcp_json.specs.JsonValues.{json_line}
use Rattle.rtcp_json.specs.PacketValues.{datagram_json}
use Rattle.rtcp_json.specs.SourceValues.{dated_json}
use Rattle.rtcp_json.specs.ToldValues.{end_json, is_shown, peer_text, told_json, unsent_json}
use Rattle.rtcp_json.specs.Watchers.{is_due}

-- the number of 127.0.0.1:5007
abbrev a_peer : ℕ
a_peer = 139637976798095

-- a step of a participant alone with one other, which says nothing but, if so, a new SSRC or another's role
abbrev a_step : (changed : Option ℕ) → (others_changed : Bool) → StepValue
a_step changed others_changed = record {
  out = None;
  members = 2;
  senders = 0;
  entries = 1;
  next = Some 1026037;
  changed = changed;
  others_changed = others_changed;
}

record Lines : Type 0 where
  held_back : json_line (told_json (rtcp_arrived 250000 a_peer 0 []) (datagram_json (rr 7 [] [] ∷ []))
      (Err (HeldBack Stranger)))
      ≡ codes "{\"moment\":250000,\"event\":\"rtcp\",\"peer\":\"127.0.0.1:5007\",\"datagram\":{\"packets\":["
      ++ codes "{\"type\":\"RR\",\"ssrc\":\"00000007\",\"blocks\":[],\"extension\":\"\"}]},"
      ++ codes "\"answer\":{\"refused\":\"H1 Stranger\"}}" ++ 10 ∷ []
  renamed : json_line (told_json (rtp_arrived 0 0 0 []) null (Ok (a_step (Some 187) false)))
      ≡ codes "{\"moment\":0,\"event\":\"rtp\",\"peer\":\"0.0.0.0:0\",\"datagram\":null,"
      ++ codes "\"answer\":{\"members\":2,\"senders\":0,\"next\":1026037,\"out\":null,"
      ++ codes "\"ssrc\":\"000000bb\"}}" ++ 10 ∷ []
  unsent : json_line (unsent_json 3078111)
      ≡ codes "{\"moment\":3078111,\"event\":\"unsent\",\"peer\":null,\"datagram\":null,\"answer\":null}" ++ 10 ∷ []
  ended : json_line (end_json (record {
    cause = Done;
    received = 137;
    refused = 0;
    sent = 5;
    send_failures = 0;
    recv_failures = 0;
    bye = true;
  })) ≡ codes "{\"end\":\"Done\",\"received\":137,\"refused\":0,\"sent\":5,\"send_failures\":0,"
      ++ codes "\"recv_failures\":0,\"bye\":true}" ++ 10 ∷ []

lines : Lines
unfolding digits encode_with escape_byte print_from
lines = record { held_back = refl; renamed = refl; unsent = refl; ended = refl }

-- a source by its SSRC, and how its packets come
abbrev a_source : (ssrc : ℕ) → (left : Option ℕ) → Option ReceptionValue → StateValue
a_source ssrc left reception = record {
  ssrc = ssrc;
  member = is_none left;
  sender = is_some reception;
  left = left;
  heard = 0;
  reception = reception;
  last_report = None;
  last_block = None;
}

abbrev a_reception : ReceptionValue
a_reception = record { received = 150; octets = 24000; lost = negsuc 1; highest = 150; jitter = 3; rate = 8000 }

record Listings : Type 0 where
  nobody : json_line (dated_json 0 (record { members = 0; senders = 0; sources = [] }))
      ≡ codes "{\"moment\":0,\"members\":0,\"senders\":0,\"sources\":[]}" ++ 10 ∷ []
  two : json_line (dated_json 4000000 (record {
    members = 2;
    senders = 1;
    sources = a_source 7 None (Some a_reception) ∷ a_source 187 (Some 3500000) None ∷ [];
  })) ≡ codes "{\"moment\":4000000,\"members\":2,\"senders\":1,\"sources\":["
      ++ codes "{\"ssrc\":\"00000007\",\"member\":true,\"sender\":true,\"left\":null,"
      ++ codes "\"packets\":150,\"lost\":-2,\"jitter\":3,\"rate\":8000},"
      ++ codes "{\"ssrc\":\"000000bb\",\"member\":false,\"sender\":false,\"left\":3500000,"
      ++ codes "\"packets\":null,\"lost\":null,\"jitter\":null,\"rate\":null}]}" ++ 10 ∷ []

listings : Listings
unfolding digits encode_with escape_byte print_from
listings = record { nobody = refl; two = refl }

record Due : Type 0 where
  first_second : is_due 0 999999 ≡ false
  next_second : is_due 0 1000000 ≡ true
  same_second : is_due 1 1999999 ≡ false

due : Due
due = record { first_second = refl; next_second = refl; same_second = refl }

record Peers : Type 0 where
  least : peer_text 0 ≡ codes "0.0.0.0:0"
  greatest : peer_text 281474976710655 ≡ codes "255.255.255.255:65535"
  octets_in_order : peer_text 1108152156166 ≡ codes "1.2.3.4:6"

peers : Peers
unfolding digits
peers = record { least = refl; greatest = refl; octets_in_order = refl }

record Shown : Type 0 where
  datagram : is_shown (rtcp_arrived 0 0 0 []) (Ok (a_step None false)) ≡ true
  packet : is_shown (rtp_arrived 0 0 0 []) (Ok (a_step None false)) ≡ false
  role : is_shown (rtp_arrived 0 0 0 []) (Ok (a_step None true)) ≡ true
  tick : is_shown (time_passed 0 0 0) (Ok (a_step None false)) ≡ false
  refused : is_shown (leave_asked 0 0) (Err (Refused TooFar)) ≡ true

shown : Shown
shown = record { datagram = refl; packet = refl; role = refl; tick = refl; refused = refl }
