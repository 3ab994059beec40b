-- Worked examples: compounds about one source, and what ends that.
use Rattle.std.proofs.Common.{◌≡◌, true, false, List, [], ◌∷◌, Some, None, ℕ, refl}
use Rattle.rtcp_wire.specs.declared.fact.Fact.TheVariants.{Heard, Told, Named}
use Rattle.rtcp_wire.specs.declared.sole.SoleSource.{SoleSource}
use Rattle.rtcp_wire.specs.Values.{SenderValue, ItemValue, RtcpPacket, sr, rr, sdes, bye, app, other}
use Rattle.rtcp_wire.specs.Facts.{facts_of}
use Rattle.rtcp_wire.specs.Sole.{IsSole, facts_of_sole}
use Rattle.rtcp_wire.specs.Summaries.{all_keep_to}
use Rattle.rtcp_wire.proofs.SoleSources.{sole_keeps}

abbrev sender : SenderValue
sender = record { ssrc = 7; ntp = 5; rtp = 1; packets = 2; octets = 3 }

abbrev cname : ItemValue
cname = record { kind = 1; text = 97 ∷ [] }

abbrev tool : ItemValue
tool = record { kind = 6; text = 98 ∷ [] }

abbrev about : (id : ℕ) → List ItemValue → RtcpPacket
about id items = sdes (record { id = id; items = items } ∷ [])

-- ---- Of one source

-- a receiver report and a CNAME,
named_receiver : IsSole (record { ssrc = 7; timestamps = None; is_named = true })
    (facts_of (rr 7 [] [] ∷ about 7 (tool ∷ cname ∷ []) ∷ []))
named_receiver = record { others = Heard 7 ∷ Named 7 ∷ []; parts = refl; alone = refl; named = refl }

-- a sender report alone,
sender_alone : IsSole (record { ssrc = 7; timestamps = Some (5, 1); is_named = false })
    (facts_of (sr sender [] [] ∷ []))
sender_alone = record { others = []; parts = refl; alone = refl; named = refl }

-- and a sender report, more blocks of it in a receiver report, a CNAME and packets of other types.
named_sender : IsSole (record { ssrc = 7; timestamps = Some (5, 1); is_named = true })
    (facts_of (sr sender [] [] ∷ rr 7 [] [] ∷ about 7 (cname ∷ []) ∷ app 0 7 [] [] ∷ other 205 0 [] ∷ []))
named_sender = record {
  others = Heard 7 ∷ Heard 7 ∷ Named 7 ∷ Heard 7 ∷ [];
  parts = refl;
  alone = refl;
  named = refl;
}

-- ---- What they say

record Said : Type 0 where
  sender_with_name : facts_of_sole (record { ssrc = 7; timestamps = Some (5, 1); is_named = true })
      ≡ Told 7 5 1 ∷ Named 7 ∷ []
  sender_without : facts_of_sole (record { ssrc = 7; timestamps = Some (5, 1); is_named = false }) ≡ Told 7 5 1 ∷ []
  receiver_with_name : facts_of_sole (record { ssrc = 7; timestamps = None; is_named = true }) ≡ Named 7 ∷ []
  receiver_without : facts_of_sole (record { ssrc = 7; timestamps = None; is_named = false }) ≡ Heard 7 ∷ []

said : Said
said = search

-- ---- Of several, or of one that left

record Several : Type 0 where
  two_reporters : all_keep_to 7 true (rr 7 [] [] ∷ rr 8 [] [] ∷ []) ≡ false
  second_chunk : all_keep_to 7 true (rr 7 [] [] ∷ about 7 [] ∷ about 8 [] ∷ []) ≡ false
  other_application : all_keep_to 7 true (rr 7 [] [] ∷ app 0 8 [] [] ∷ []) ≡ false
  goodbye : all_keep_to 7 true (rr 7 [] [] ∷ bye (7 ∷ []) None ∷ []) ≡ false
  -- A second sender report tells of the clock again.
  second_sender_report : all_keep_to 7 true (sr sender [] [] ∷ sr sender [] [] ∷ []) ≡ false
  -- A BYE of no source says nothing.
  empty_goodbye : all_keep_to 7 true (rr 7 [] [] ∷ bye [] None ∷ []) ≡ true

several : Several
several = search

-- No source is the one of two reports.
not_of_two : (source : SoleSource) → IsSole source (facts_of (rr 7 [] [] ∷ rr 8 [] [] ∷ [])) → ⊥
not_of_two source h = sole_of_both (sole_keeps 7 (rr 7 [] []) (rr 8 [] [] ∷ []) source refl h)
  where
    sole_of_both : false ≡ true → ⊥
    sole_of_both e = absurd cc
