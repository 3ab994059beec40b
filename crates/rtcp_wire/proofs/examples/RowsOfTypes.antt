-- Worked examples: sender reports, BYEs and applications' packets, octet by octet.
use Rattle.std.proofs.Common.{ℕ, List, [], ◌∷◌, ◌++◌, drop, Some, None, refl, arith, inl, inr}
use Rattle.rtcp_wire.specs.declared.fault.FaultReason.TheVariants.{Body, Reason}
use Rattle.rtcp_wire.specs.Values.{SenderValue, sr, rr, bye, app}
use Rattle.rtcp_wire.specs.Grammar.{IsSpelling, IsAccepted}
use Rattle.rtcp_wire.specs.Faults.{IsFirstFault}
use Rattle.rtcp_wire.proofs.examples.Rows.{unpadded, of_seven, report, alone_accepted, after_accepted, refused_later}

-- ---- Sender reports

-- 80c80006 00000009 0000b705 20000000 0000000a 00000003 000001e0
abbrev sending : List ℕ
sending = 128 ∷ 200 ∷ 0 ∷ 6 ∷ 0 ∷ 0 ∷ 0 ∷ 9 ∷ 0 ∷ 0 ∷ 183 ∷ 5 ∷ 32 ∷ 0 ∷ 0 ∷ 0 ∷ 0 ∷ 0 ∷ 0 ∷ 10 ∷ 0 ∷ 0 ∷ 0 ∷ 3 ∷ 0 ∷ 0
    ∷ 1 ∷ 224 ∷ []

-- 0x0000b70520000000 is 46853 * 2 ^ 32 + 536870912.
abbrev sender : SenderValue
sender = record { ssrc = 9; ntp = 201232639590400; rtp = 10; packets = 3; octets = 480 }

pub sending_spelled : IsSpelling (sr sender [] []) sending
sending_spelled = unpadded (sr sender [] []) sending refl refl refl (
  refl,
  record {
    prefix = drop 4 sending;
    rest = [];
    parts = refl;
    prefix_size = refl;
    says = refl;
    ends = record { reports = []; parts = refl; counted = refl; each = refl };
  },
)

-- It may be the first packet.
pub sending_accepted : IsAccepted sending (sr sender [] [] ∷ [])
sending_accepted = alone_accepted (sr sender [] []) sending sending_spelled (omega arith) (inl refl, refl)

-- ---- BYEs

-- 81cb0002 00000007 02616200
abbrev leaving : List ℕ
leaving = 129 ∷ 203 ∷ 0 ∷ 2 ∷ 0 ∷ 0 ∷ 0 ∷ 7 ∷ 2 ∷ 97 ∷ 98 ∷ 0 ∷ []

-- The text ends before the word does.
pub leaving_spelled : IsSpelling (bye (7 ∷ []) (Some (97 ∷ 98 ∷ []))) leaving
leaving_spelled = unpadded (bye (7 ∷ []) (Some (97 ∷ 98 ∷ []))) leaving refl refl refl (
  refl,
  of_seven (Some (97 ∷ 98 ∷ [])) (2 ∷ 97 ∷ 98 ∷ 0 ∷ [])
      (record { free = 0 ∷ []; parts = refl; fill = omega arith; aligned = refl }),
)

-- 81cb0002 00000007 00000000
abbrev silent : List ℕ
silent = 129 ∷ 203 ∷ 0 ∷ 2 ∷ 0 ∷ 0 ∷ 0 ∷ 7 ∷ 0 ∷ 0 ∷ 0 ∷ 0 ∷ []

-- A word of zeros is a reason without text.
pub silent_spelled : IsSpelling (bye (7 ∷ []) (Some [])) silent
silent_spelled = unpadded (bye (7 ∷ []) (Some [])) silent refl refl refl (
  refl,
  of_seven (Some []) (0 ∷ 0 ∷ 0 ∷ 0 ∷ [])
      (record { free = 0 ∷ 0 ∷ 0 ∷ []; parts = refl; fill = omega arith; aligned = refl }),
)

-- 80cb0000
abbrev nobody : List ℕ
nobody = 128 ∷ 203 ∷ 0 ∷ 0 ∷ []

-- A BYE may name no source.
pub nobody_spelled : IsSpelling (bye [] None) nobody
nobody_spelled = unpadded (bye [] None) nobody refl refl refl
    (refl, record { prefix = []; rest = []; parts = refl; counted = refl; each = refl; ends = refl })

-- ---- Applications

-- 85cc0003 00000007 41424344 01020304
abbrev applied : List ℕ
applied = 133 ∷ 204 ∷ 0 ∷ 3 ∷ 0 ∷ 0 ∷ 0 ∷ 7 ∷ 65 ∷ 66 ∷ 67 ∷ 68 ∷ 1 ∷ 2 ∷ 3 ∷ 4 ∷ []

-- subtype 5 of the name "ABCD"
pub applied_spelled : IsSpelling (app 5 7 (65 ∷ 66 ∷ 67 ∷ 68 ∷ []) (1 ∷ 2 ∷ 3 ∷ 4 ∷ [])) applied
applied_spelled = unpadded (app 5 7 (65 ∷ 66 ∷ 67 ∷ 68 ∷ []) (1 ∷ 2 ∷ 3 ∷ 4 ∷ [])) applied refl refl refl
    (refl, refl, record { id = 0 ∷ 0 ∷ 0 ∷ 7 ∷ []; parts = refl; source = (refl, refl); name_size = refl })

-- ---- After a report

pub leaving_accepted : IsAccepted (report ++ leaving) (rr 7 [] [] ∷ bye (7 ∷ []) (Some (97 ∷ 98 ∷ [])) ∷ [])
leaving_accepted = after_accepted (bye (7 ∷ []) (Some (97 ∷ 98 ∷ []))) leaving leaving_spelled (omega arith)

pub silent_accepted : IsAccepted (report ++ silent) (rr 7 [] [] ∷ bye (7 ∷ []) (Some []) ∷ [])
silent_accepted = after_accepted (bye (7 ∷ []) (Some [])) silent silent_spelled (omega arith)

pub nobody_accepted : IsAccepted (report ++ nobody) (rr 7 [] [] ∷ bye [] None ∷ [])
nobody_accepted = after_accepted (bye [] None) nobody nobody_spelled (omega arith)

pub applied_accepted : IsAccepted (report ++ applied)
    (rr 7 [] [] ∷ app 5 7 (65 ∷ 66 ∷ 67 ∷ 68 ∷ []) (1 ∷ 2 ∷ 3 ∷ 4 ∷ []) ∷ [])
applied_accepted = after_accepted (app 5 7 (65 ∷ 66 ∷ 67 ∷ 68 ∷ []) (1 ∷ 2 ∷ 3 ∷ 4 ∷ [])) applied applied_spelled
    (omega arith)

-- ---- Refused

-- 81cb0002 00000007 05616263
abbrev long_reason : List ℕ
long_reason = 129 ∷ 203 ∷ 0 ∷ 2 ∷ 0 ∷ 0 ∷ 0 ∷ 7 ∷ 5 ∷ 97 ∷ 98 ∷ 99 ∷ []

-- A text of five octets is no three.
pub long_reason_refused : IsFirstFault (report ++ long_reason) (record { reason = Reason; place = 8 })
long_reason_refused =
    refused_later Reason long_reason (omega arith) (omega arith) refl (omega arith) refl (refl, inl (omega arith))

-- 81cb0003 00000007 02616200 00000000
abbrev word_more : List ℕ
word_more = 129 ∷ 203 ∷ 0 ∷ 3 ∷ 0 ∷ 0 ∷ 0 ∷ 7 ∷ 2 ∷ 97 ∷ 98 ∷ 0 ∷ 0 ∷ 0 ∷ 0 ∷ 0 ∷ []

-- After a reason no word is left.
pub word_more_refused : IsFirstFault (report ++ word_more) (record { reason = Reason; place = 8 })
word_more_refused =
    refused_later Reason word_more (omega arith) (omega arith) refl (omega arith) refl (refl, inr (omega arith))

-- 82cb0001 00000007
abbrev one_id_short : List ℕ
one_id_short = 130 ∷ 203 ∷ 0 ∷ 1 ∷ 0 ∷ 0 ∷ 0 ∷ 7 ∷ []

-- A BYE that counts two identifiers has them.
pub one_id_short_refused : IsFirstFault (report ++ one_id_short) (record { reason = Body; place = 8 })
one_id_short_refused =
    refused_later Body one_id_short (omega arith) (omega arith) refl (omega arith) refl (inl (omega arith))

-- 80cc0001 00000007
abbrev no_name : List ℕ
no_name = 128 ∷ 204 ∷ 0 ∷ 1 ∷ 0 ∷ 0 ∷ 0 ∷ 7 ∷ []

-- An application's packet has a name.
pub no_name_refused : IsFirstFault (report ++ no_name) (record { reason = Body; place = 8 })
no_name_refused =
    refused_later Body no_name (omega arith) (omega arith) refl (omega arith) refl (inl (omega arith))
