-- A compound is about one source where its packets keep to that of its first report.
use Rattle.std.proofs.Common.{◌≡◌, ℕ, ◌==◌, ◌&&◌, ◌||◌, Bool, true, false, if◌then◌else◌, List, [], ◌∷◌, ◌++◌, length, map, Option, Some, None, refl, sym, ap, subst, ◌∙◌, arith}
use Rattle.std.specs.List.{flat_map, list_all, list_any}
use Rattle.std.proofs.lemmas.Bool.{eq-eqb, ne_eqb}
use Rattle.std.proofs.lemmas.List.Folds.{list_all-append, list_any-append}
use Rattle.rtcp_wire.specs.declared.fact.Fact.{Fact}
use Rattle.rtcp_wire.specs.declared.fact.Fact.TheVariants.{Heard, Told, Named, Gone}
use Rattle.rtcp_wire.specs.declared.sole.SoleSource.{SoleSource}
use Rattle.rtcp_wire.specs.declared.validity.summary.Summary.{Summary}
use Rattle.rtcp_wire.specs.Grammar.{IsAccepted}
use Rattle.rtcp_wire.specs.Facts.{facts_of_chunk, facts_of_packet, facts_of}
use Rattle.rtcp_wire.specs.Sole.{is_presence_of, is_name, clock_told, IsSole}
use Rattle.rtcp_wire.specs.Summaries.{gives_name, keeps_to, names, all_keep_to, clock_of, sender_of, SumsUp}
use Rattle.rtcp_wire.specs.Values.{SenderValue, ReportBlock, ChunkValue, RtcpPacket, sr, rr, sdes, bye, app, other}
use Rattle.rtcp_wire.specs.Walks.{packets_in}
use Rattle.rtcp_wire.proofs.Reporters.{IsReportOf, begins_with_report, some_packet}

-- ---- Truth values

and_true : (a : Bool) → (a && true) ≡ a
and_true true = refl
and_true false = refl

and_false : (a : Bool) → (a && false) ≡ false
and_false true = refl
and_false false = refl

right_of : (a b : Bool) → (a && b) ≡ true → b ≡ true
right_of true b both = both
right_of false b both = absurd cc

-- ---- Packets by their facts

module _ (ssrc : ℕ) where
  chunk_keeps : (chunk : ChunkValue) →
      (chunk.id == ssrc) ≡ list_all (is_presence_of ssrc) (facts_of_chunk chunk)
  chunk_keeps chunk = by chunk.id (gives_name chunk)
    where
      alone : (same : Bool) → same ≡ (same && true)
      alone true = refl
      alone false = refl

      twice : (same : Bool) → same ≡ (same && (same && true))
      twice true = refl
      twice false = refl

      by : (id : ℕ) (named : Bool) → (id == ssrc)
          ≡ list_all (is_presence_of ssrc) (Heard id ∷ (if named then Named id ∷ [] else []))
      by id true = twice (id == ssrc)
      by id false = alone (id == ssrc)

  chunks_keep : (chunks : List ChunkValue) → list_all (λ (chunk : ChunkValue). chunk.id == ssrc) chunks
      ≡ list_all (is_presence_of ssrc) (flat_map facts_of_chunk chunks)
  chunks_keep [] = refl
  chunks_keep (chunk ∷ chunks) =
      (λ i. chunk_keeps chunk i && chunks_keep chunks i)
      ∙ sym (list_all-append (is_presence_of ssrc) (facts_of_chunk chunk) (flat_map facts_of_chunk chunks))

  goodbyes_keep : (ids : List ℕ) → (length ids == 0) ≡ list_all (is_presence_of ssrc) (map Gone ids)
  goodbyes_keep [] = refl
  goodbyes_keep (id ∷ ids) = ne_eqb (length (id ∷ ids)) 0 (λ e. omega (arith, e))

  -- A packet that is not the first keeps to a source where each of its facts says that the source is there.
  packet_keeps : (packet : RtcpPacket) →
      keeps_to ssrc false packet ≡ list_all (is_presence_of ssrc) (facts_of_packet packet)
  packet_keeps (sr sender blocks extension) = sym (and_false (sender.ssrc == ssrc))
  packet_keeps (rr own blocks extension) = sym (and_true (own == ssrc))
  packet_keeps (sdes chunks) = chunks_keep chunks
  packet_keeps (bye ids reason) = goodbyes_keep ids
  packet_keeps (app subtype own name content) = sym (and_true (own == ssrc))
  packet_keeps (other kind count body) = refl

  packets_keep : (packets : List RtcpPacket) →
      all_keep_to ssrc false packets ≡ list_all (is_presence_of ssrc) (facts_of packets)
  packets_keep [] = refl
  packets_keep (packet ∷ packets) =
      (λ i. packet_keeps packet i && packets_keep packets i)
      ∙ sym (list_all-append (is_presence_of ssrc) (facts_of_packet packet) (facts_of packets))

chunk_names : (id : ℕ) (named : Bool) → named ≡ list_any is_name (Heard id ∷ (if named then Named id ∷ [] else []))
chunk_names id true = refl
chunk_names id false = refl

chunks_name : (chunks : List ChunkValue) → list_any gives_name chunks ≡ list_any is_name
    (flat_map facts_of_chunk chunks)
chunks_name [] = refl
chunks_name (chunk ∷ chunks) =
    (λ i. chunk_names chunk.id (gives_name chunk) i || chunks_name chunks i)
    ∙ sym (list_any-append is_name (facts_of_chunk chunk) (flat_map facts_of_chunk chunks))

goodbyes_name_none : (ids : List ℕ) → false ≡ list_any is_name (map Gone ids)
goodbyes_name_none [] = refl
goodbyes_name_none (id ∷ ids) = goodbyes_name_none ids

packet_names : (packet : RtcpPacket) → names packet ≡ list_any is_name (facts_of_packet packet)
packet_names (sr sender blocks extension) = refl
packet_names (rr own blocks extension) = refl
packet_names (sdes chunks) = chunks_name chunks
packet_names (bye ids reason) = goodbyes_name_none ids
packet_names (app subtype own name content) = refl
packet_names (other kind count body) = refl

packets_name : (packets : List RtcpPacket) → list_any names packets ≡ list_any is_name (facts_of packets)
packets_name [] = refl
packets_name (packet ∷ packets) =
    (λ i. packet_names packet i || packets_name packets i)
    ∙ sym (list_any-append is_name (facts_of_packet packet) (facts_of packets))

-- ---- Compounds of one source

-- where packets begin with a sender report,
sole_sender : (ssrc : ℕ) (sender : SenderValue) (blocks : List ReportBlock) (extension : List ℕ)
    (packets : List RtcpPacket) (is_named : Bool) → sender.ssrc ≡ ssrc →
    all_keep_to ssrc true (sr sender blocks extension ∷ packets) ≡ true
    → is_named ≡ list_any is_name (facts_of packets)
    → IsSole (record { ssrc = ssrc; timestamps = Some (sender.ntp, sender.rtp); is_named = is_named })
    (facts_of (sr sender blocks extension ∷ packets))
sole_sender ssrc sender blocks extension packets is_named own keep named = record {
  others = facts_of packets;
  parts = ap (λ (n : ℕ). Heard n ∷ Told n sender.ntp sender.rtp ∷ facts_of packets) own;
  alone = sym (packets_keep ssrc packets)
      ∙ right_of (sender.ssrc == ssrc) (all_keep_to ssrc false packets) keep;
  named = sym named;
}

-- and where they begin with a receiver report
sole_receiver : (ssrc own : ℕ) (blocks : List ReportBlock) (extension : List ℕ)
    (packets : List RtcpPacket) (is_named : Bool) → own ≡ ssrc →
    all_keep_to ssrc true (rr own blocks extension ∷ packets) ≡ true
    → is_named ≡ list_any is_name (facts_of packets)
    → IsSole (record { ssrc = ssrc; timestamps = None; is_named = is_named })
    (facts_of (rr own blocks extension ∷ packets))
sole_receiver ssrc own blocks extension packets is_named is keep named = record {
  others = facts_of packets;
  parts = ap (λ (n : ℕ). Heard n ∷ facts_of packets) is;
  alone = sym (packets_keep ssrc packets)
      ∙ right_of (own == ssrc) (all_keep_to ssrc false packets) keep;
  named = sym named;
}

-- ---- The other way round

-- No packet begins with its clock.
told_never_first : (packets : List RtcpPacket) (ssrc ntp rtp : ℕ) (facts : List Fact) →
    facts_of packets ≡ Told ssrc ntp rtp ∷ facts → ⊥
told_never_first [] ssrc ntp rtp facts e = absurd cc
told_never_first (sr sender blocks extension ∷ packets) ssrc ntp rtp facts e = absurd cc
told_never_first (rr own blocks extension ∷ packets) ssrc ntp rtp facts e = absurd cc
told_never_first (sdes [] ∷ packets) ssrc ntp rtp facts e = told_never_first packets ssrc ntp rtp facts e
told_never_first (sdes (chunk ∷ chunks) ∷ packets) ssrc ntp rtp facts e = absurd cc
told_never_first (bye [] reason ∷ packets) ssrc ntp rtp facts e = told_never_first packets ssrc ntp rtp facts e
told_never_first (bye (id ∷ ids) reason ∷ packets) ssrc ntp rtp facts e = absurd cc
told_never_first (app subtype own name content ∷ packets) ssrc ntp rtp facts e = absurd cc
told_never_first (other kind count body ∷ packets) ssrc ntp rtp facts e =
    told_never_first packets ssrc ntp rtp facts e

-- the source of the first fact
heard_first : (ssrc own : ℕ) (facts others : List Fact) → Heard own ∷ facts ≡ Heard ssrc ∷ others → own ≡ ssrc
heard_first ssrc own facts others e = cc

after_heard : (ssrc own : ℕ) (facts others : List Fact) → Heard own ∷ facts ≡ Heard ssrc ∷ others → facts ≡ others
after_heard ssrc own facts others e = cc

after_told : (a b c d e f : ℕ) (facts others : List Fact) → Told a b c ∷ facts ≡ Told d e f ∷ others → facts ≡ others
after_told a b c d e f facts others same = cc

-- After a receiver report all is about the one source.
after_receiver : (ssrc : ℕ) (timestamps : Option (ℕ × ℕ)) (packets : List RtcpPacket) (others : List Fact) →
    facts_of packets ≡ clock_told ssrc timestamps ++ others → list_all (is_presence_of ssrc) others ≡ true →
    list_all (is_presence_of ssrc) (facts_of packets) ≡ true
after_receiver ssrc None packets others e alone = ap (list_all (is_presence_of ssrc)) e ∙ alone
after_receiver ssrc (Some (ntp, rtp)) packets others e alone =
    absurd (told_never_first packets ssrc ntp rtp others e)

-- After a sender report, too.
after_sender : (ssrc own ntp rtp : ℕ) (timestamps : Option (ℕ × ℕ)) (facts others : List Fact) →
    Told own ntp rtp ∷ facts ≡ clock_told ssrc timestamps ++ others → list_all (is_presence_of ssrc) others ≡ true →
    list_all (is_presence_of ssrc) facts ≡ true
after_sender ssrc own ntp rtp None facts others e alone =
    absurd (no_clock (ap (list_all (is_presence_of ssrc)) e ∙ alone))
  where
    no_clock : false ≡ true → ⊥
    no_clock same = absurd cc
after_sender ssrc own ntp rtp (Some (other_ntp, other_rtp)) facts others e alone =
    ap (list_all (is_presence_of ssrc)) (after_told own ntp rtp ssrc other_ntp other_rtp facts others e) ∙ alone

-- Where the facts are of one source, the packets keep to that of the first report.
pub sole_keeps : (ssrc : ℕ) (first : RtcpPacket) (packets : List RtcpPacket) (source : SoleSource) →
    IsReportOf ssrc first → IsSole source (facts_of (first ∷ packets)) → all_keep_to ssrc true (first ∷ packets) ≡ true
sole_keeps ssrc (sr sender blocks extension) packets source own h =
    let is : sender.ssrc ≡ source.ssrc = heard_first source.ssrc sender.ssrc
    (Told sender.ssrc sender.ntp sender.rtp ∷ facts_of packets)
    (clock_told source.ssrc source.timestamps ++ h.others) h.parts in
    let rest = after_heard source.ssrc sender.ssrc (Told sender.ssrc sender.ntp sender.rtp ∷ facts_of packets)
    (clock_told source.ssrc source.timestamps ++ h.others) h.parts in
    let keep : all_keep_to ssrc false packets ≡ true = packets_keep ssrc packets
    ∙ ap (λ (n : ℕ). list_all (is_presence_of n) (facts_of packets)) (sym own ∙ is)
    ∙ after_sender source.ssrc sender.ssrc sender.ntp sender.rtp source.timestamps (facts_of packets) h.others rest
    h.alone in
    (λ i. eq-eqb sender.ssrc ssrc own i && keep i)
sole_keeps ssrc (rr sender blocks extension) packets source own h =
    let is : sender ≡ source.ssrc = heard_first source.ssrc sender (facts_of packets)
    (clock_told source.ssrc source.timestamps ++ h.others) h.parts in
    let rest = after_heard source.ssrc sender (facts_of packets)
    (clock_told source.ssrc source.timestamps ++ h.others) h.parts in
    let keep : all_keep_to ssrc false packets ≡ true = packets_keep ssrc packets
    ∙ ap (λ (n : ℕ). list_all (is_presence_of n) (facts_of packets)) (sym own ∙ is)
    ∙ after_receiver source.ssrc source.timestamps packets h.others rest h.alone in
    (λ i. eq-eqb sender ssrc own i && keep i)
sole_keeps ssrc (sdes chunks) packets source own h = absurd own
sole_keeps ssrc (bye ids reason) packets source own h = absurd own
sole_keeps ssrc (app subtype sender name content) packets source own h = absurd own
sole_keeps ssrc (other kind count body) packets source own h = absurd own

-- ---- At an accepted datagram, and its summary

module _ (octets : List ℕ) (summary : Summary) (accepted : IsAccepted octets (packets_in octets))
    (sums : SumsUp (sender_of octets) true summary (packets_in octets)) (now : List RtcpPacket)
    (view : packets_in octets ≡ now) where
  -- what is seen of the packets, if they are these
  keep_of : (packets : List RtcpPacket) → packets_in octets ≡ packets →
      summary.is_sole ≡ all_keep_to (sender_of octets) true packets
  keep_of packets is = sums.sole ∙ ap (all_keep_to (sender_of octets) true) is

  report_of : (first : RtcpPacket) (packets : List RtcpPacket) → now ≡ first ∷ packets →
      IsReportOf (sender_of octets) first
  report_of first packets is = begins_with_report octets first packets accepted (view ∙ is)

  pub named_now : summary.is_named ≡ true → list_any is_name (facts_of now) ≡ true
  named_now some = sym (packets_name now) ∙ ap (list_any names) (sym view) ∙ sums.named some

  -- Where the packets keep to the source of the first, they are about this one.
  pub sole_now : (ssrc : ℕ) (is_named : Bool) → ssrc ≡ sender_of octets → summary.is_sole ≡ true →
      is_named ≡ list_any is_name (facts_of now)
      → IsSole (record { ssrc = ssrc; timestamps = clock_of now; is_named = is_named }) (facts_of now)
  sole_now ssrc is_named own sole named =
      subst (λ (n : ℕ). IsSole (record { ssrc = n; timestamps = clock_of now; is_named = is_named }) (facts_of now))
      (sym own) (by now refl named)
    where
      by : (these : List RtcpPacket) → now ≡ these → is_named ≡ list_any is_name (facts_of these) →
          IsSole (record { ssrc = sender_of octets; timestamps = clock_of these; is_named = is_named })
          (facts_of these)
      by [] is given = absurd (some_packet octets accepted (view ∙ is))
      by (sr sender blocks extension ∷ packets) is given =
          let first : RtcpPacket = sr sender blocks extension in
          sole_sender (sender_of octets) sender blocks extension packets is_named (report_of first packets is)
          (sym (keep_of (first ∷ packets) (view ∙ is)) ∙ sole) given
      by (rr sender blocks extension ∷ packets) is given =
          let first : RtcpPacket = rr sender blocks extension in
          sole_receiver (sender_of octets) sender blocks extension packets is_named (report_of first packets is)
          (sym (keep_of (first ∷ packets) (view ∙ is)) ∙ sole) given
      by (sdes chunks ∷ packets) is given = absurd (report_of (sdes chunks) packets is)
      by (bye ids reason ∷ packets) is given = absurd (report_of (bye ids reason) packets is)
      by (app subtype sender name content ∷ packets) is given =
          absurd (report_of (app subtype sender name content) packets is)
      by (other kind count body ∷ packets) is given = absurd (report_of (other kind count body) packets is)

  -- Where the packets do not keep to it, they are about no one source.
  pub not_sole : summary.is_sole ≡ false → (source : SoleSource) → IsSole source (facts_of now) → ⊥
  not_sole several source h = by now refl h
    where
      not_both : false ≡ true → ⊥
      not_both e = absurd cc

      by : (packets : List RtcpPacket) → now ≡ packets → IsSole source (facts_of packets) → ⊥
      by [] is h = some_packet octets accepted (view ∙ is)
      by (first ∷ packets) is h =
          not_both (sym several ∙ keep_of (first ∷ packets) (view ∙ is)
          ∙ sole_keeps (sender_of octets) first packets source (report_of first packets is) h)
