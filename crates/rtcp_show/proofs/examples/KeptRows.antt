-- What is kept of a source: its CNAME, its round trip, and how its packets come.
use Rattle.std.specs.Prelude.{◌≡◌, ℕ, ℤ, pos, negsuc, true, false, List, [], ◌∷◌, Some, None}
use Rattle.rtcp_source.specs.Receptions.{ReceptionValue}
use Rattle.rtcp_wire.specs.Values.{ChunkValue, ReportBlock, RtcpPacket, bye, rr, sdes}
use Rattle.rtcp_show.specs.Listings.{if_listed}
use Rattle.rtcp_show.specs.Flows.{heard_after, loss_of, no_flow, packet_rate_between, reporter_of}
use Rattle.rtcp_show.specs.Notes.{NoteValue, cnames_of, newest_of, note_after_event, nothing, trips_of}

abbrev reception : (received : ℕ) → ℤ → ReceptionValue
reception received lost =
    record { received = received; octets = 0; lost = lost; highest = 0; jitter = 0; rate = 8000 }

abbrev named : (ssrc : ℕ) → (kind : ℕ) → List ℕ → ChunkValue
named ssrc kind text = record { id = ssrc; items = record { kind = kind; text = text } ∷ [] }

abbrev described : List RtcpPacket
described =
    rr 7 [] [] ∷ sdes (named 7 1 (97 ∷ []) ∷ named 8 1 (98 ∷ []) ∷ named 7 2 (99 ∷ []) ∷ [])
    ∷ sdes (named 7 1 (100 ∷ []) ∷ []) ∷ []

abbrev block : (about lsr dlsr : ℕ) → ReportBlock
block about lsr dlsr =
    record { ssrc = about; fraction = 0; lost = pos 0; highest = 0; jitter = 0; lsr = lsr; dlsr = dlsr }

abbrev noted : NoteValue
noted = record { cname = Some (100 ∷ []); trip = Some 32768 }

-- The block about source 9 says nothing of the participant, which is 170.
abbrev reported : List RtcpPacket
reported = rr 7 (block 9 1 1 ∷ block 170 131072 32768 ∷ []) [] ∷ described

record Kept : Type 0 where
  -- Loss: 2 of 152, 1 of 3, all of 5, and more came than were expected
  two_lost : loss_of (reception 150 (pos 2)) ≡ 13
  one_of_three : loss_of (reception 2 (pos 1)) ≡ 333
  all_lost : loss_of (reception 0 (pos 5)) ≡ 1000
  repeated : loss_of (reception 7 (negsuc 2)) ≡ 0
  -- Packets a second: 50 in one, 3 in a second and a half, anew after a restart, and not known yet
  fifty : packet_rate_between 1000000 (Some 100) (Some 150) ≡ Some 500
  two_a_second : packet_rate_between 1500000 (Some 2) (Some 5) ≡ Some 20
  restarted : packet_rate_between 1000000 (Some 100) (Some 3) ≡ None
  first_look : packet_rate_between 1000000 None (Some 3) ≡ None
  -- CNAMEs: of two for one source the second, and none of another type or source
  all_named : cnames_of described ≡ (7, 97 ∷ []) ∷ (8, 98 ∷ []) ∷ (7, 100 ∷ []) ∷ []
  newest : newest_of 7 (cnames_of described) None ≡ Some (100 ∷ [])
  kept_name : newest_of 9 (cnames_of described) (Some (101 ∷ [])) ≡ Some (101 ∷ [])
  -- Round trips: a block of LSR 2 s and DLSR half a second that came at 3 s, and one that names no sender report
  half_a_second : trips_of 196608 ((7, block 170 131072 32768) ∷ (8, block 170 0 32768) ∷ []) ≡ (7, 32768) ∷ []
  told : note_after_event false true 196608 170 reported 7 nothing ≡ noted
  unlisted : note_after_event false false 196608 170 reported 7 nothing ≡ nothing
  forgotten : note_after_event true false 196608 170 [] 7 noted ≡ nothing
  not_yet_forgotten : note_after_event false false 196608 170 [] 7 noted ≡ noted
  -- Peers: of whose report a compound begins with, and of whose RTP packet it was
  first_report : reporter_of (rr 7 [] [] ∷ rr 8 [] [] ∷ []) ≡ Some 7
  no_report : reporter_of (bye (7 ∷ []) None ∷ []) ≡ None
  report_of_it : if_listed true (heard_after 5007 (rr 7 [] [] ∷ []) None 7) no_flow
      ≡ record no_flow { rtcp_peer = Some 5007 }
  report_of_another : if_listed true (heard_after 5007 (rr 8 [] [] ∷ []) None 7) no_flow ≡ no_flow
  packet_of_it : if_listed true (heard_after 5006 [] (Some 7) 7) no_flow ≡ record no_flow { rtp_peer = Some 5006 }
  heard_unlisted : if_listed false (heard_after 5006 [] (Some 7) 7) no_flow ≡ no_flow

kept_rows : Kept
kept_rows = search
