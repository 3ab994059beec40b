-- Packets that have one part at most: sender reports, and packets of applications.
use Rattle.std.proofs.Common.{◌≡◌, ℕ, ◌≤◌, inl, inr, true, List, [], ◌∷◌, ◌++◌, Some, None, length, drop, take, flat_map, refl, sym, ap, subst, ◌∙◌, arith}
use Rattle.std.proofs.lemmas.Bool.Decides.{nat_tests}
use Rattle.std.proofs.lemmas.List.{drop_at, length-append, take_at}
use Rattle.byteorder.specs.Endian.{big_number}
use Rattle.rtcp_wire.specs.Contents.{packet_apps, packet_senders}
use Rattle.rtcp_wire.specs.Grammar.{IsApplication, IsBody, Joins, IsSpelling}
use Rattle.rtcp_wire.specs.Readings.{sender_in}
use Rattle.rtcp_parts.specs.Placed.{PlacesApp}
use Rattle.rtcp_wire.specs.Values.{AppValue, RtcpPacket, SenderValue, sr, app}
use Rattle.rtcp_parts.specs.declared.placed.PlacedApp.{PlacedApp}
use Rattle.rtcp_parts.proofs.AppPlaces.{app_places}
use Rattle.rtcp_parts.specs.declared.cursor.Cursor.{Cursor}
use Rattle.rtcp_parts.specs.declared.packet.Packet.{Packet}
use Rattle.rtcp_parts.specs.declared.packet.Wanted.{Wanted}
use Rattle.rtcp_parts.specs.declared.senders.Sender.{Sender}
use Rattle.rtcp_parts.specs.Cursors.{Leaves, LeavesNone, ended_at, is_within}
use Rattle.rtcp_parts.specs.Senders.{ShowsSender}
use Rattle.rtcp_parts.specs.Walks.{ComesNext, IsPlaced, IsUnwanted, ReadsApp, TakesNext}
use Rattle.rtcp_parts.proofs.Calls.{ended_within, is_within_by, within_is}
use Rattle.rtcp_parts.proofs.Entering.{NextOn, after_unwanted, next_on, nothing_left}
use Rattle.rtcp_parts.proofs.OctetParts.{word_first}

-- ---- A walk that is in no packet

-- Its parts left are in the packets from its next on.
in_packets : {Part : Type 0} {parts_of : RtcpPacket → List Part} (datagram : List ℕ) (at : Cursor) (parts : List Part)
    → Leaves parts_of LeavesNone datagram at parts → NextOn parts_of datagram at parts
in_packets datagram at parts h = next_on datagram at parts h (elim h.inside [
  | inl nothing ↦ nothing.0
  | inr some ↦ absurd some.1
])

module _ {Part Given : Type 0} {parts_of : RtcpPacket → List Part} {Shows : Part → Given → Type 0} (datagram : List ℕ)
    (at now : Cursor)
  where
    -- Where no part is left, none is taken.
    pub takes_none : now ≡ ended_at (length datagram)
        → ((packets : List RtcpPacket) → Joins IsSpelling packets (drop at.next datagram)
        → flat_map parts_of packets ≡ [])
        → TakesNext parts_of LeavesNone Shows datagram at now None
    takes_none is nothing = record {
      takes = λ parts h.
          let on = in_packets datagram at parts h in
          (on.all ∙ nothing on.packets on.after, nothing_left datagram now is);
      within = ended_within (length datagram) now is;
      further = tt {0};
      begun = λ octets first. absurd (omega (arith, ap (λ (c : Cursor). c.next) is, octets, first));
    }

    -- Where one is left, it is taken.
    pub takes_one : is_within (length datagram) at ≡ true → (packet : Packet) (given : Given)
        → IsPlaced datagram at.next packet → now ≡ ended_at packet.next
        → ((packets : List RtcpPacket) → Joins IsSpelling packets (drop at.next datagram)
        → (part : Part) × (others : List RtcpPacket) × (flat_map parts_of packets ≡ part ∷ flat_map parts_of others)
        × Shows part given × Joins IsSpelling others (drop packet.next datagram))
        → TakesNext parts_of LeavesNone Shows datagram at now (Some given)
    takes_one within packet given placed is one =
        let next : now.next ≡ packet.next = ap (λ (c : Cursor). c.next) is in
        let place : now.place ≡ 0 = ap (λ (c : Cursor). c.place) is in
        let end : now.end ≡ 0 = ap (λ (c : Cursor). c.end) is in
        let left : now.left ≡ 0 = ap (λ (c : Cursor). c.left) is in
        let kept = within_is (length datagram) at within in
        let begins = placed.begins in
        let ends = placed.ends in
        record {
          takes = λ parts h.
              let on = in_packets datagram at parts h in
              let taken = one on.packets on.after in (
                taken.0,
                flat_map parts_of taken.1,
                on.all ∙ taken.2,
                taken.3,
                record {
                  here = [];
                  packets = taken.1;
                  inside = inl (left, refl);
                  after = subst (λ (n : ℕ). Joins IsSpelling taken.1 (drop n datagram)) (sym next) taken.4;
                  all = refl;
                },
              );
          within = is_within_by (length datagram) now (omega (arith, place)) (omega (arith, end))
              (omega (arith, next, placed.within));
          further = grind (arith, nat_tests, next, left, kept.0, kept.1, begins, ends);
          begun = λ octets first. absurd (omega (arith, next, begins, ends, first));
        }

-- ---- Sender reports

abbrev pub reports : Wanted
reports = record { first = 200; last = 200; least = 0 }

pub no_sender_in : (packet : RtcpPacket) → IsUnwanted reports packet → packet_senders packet ≡ []
no_sender_in (sr sender blocks extension) h =
    absurd (h.4 (omega (arith, h.3.0), omega (arith, h.3.0), omega arith))
no_sender_in packet h = refl

-- A sender report has room for its sender, and begins with it.
pub sender_room : (value : RtcpPacket) (kind count : ℕ) (body : List ℕ) → IsBody value kind count body → kind ≡ 200
    → (24 ≤ length body) × (packet_senders value ≡ sender_in (take 24 body) ∷ [])
sender_room (sr sender blocks extension) kind count body h is = (
  omega (arith, ap length h.1.parts, length-append h.1.prefix h.1.rest, h.1.prefix_size),
  ap (λ (s : SenderValue). s ∷ []) (h.1.says
      ∙ ap sender_in (sym (ap (take 24) h.1.parts ∙ take_at h.1.prefix h.1.rest 24 h.1.prefix_size))),
)
sender_room value kind count body h is = absurd (omega (arith, is, h.0))

-- The next sender report has the next sender.
pub sender_next : (datagram : List ℕ) (packets : List RtcpPacket) (packet : Packet) (given : Sender)
    (next : ComesNext reports datagram packets packet) → packet.kind ≡ 200
    → ShowsSender (sender_in (take 24 packet.body.now)) given
    → (part : SenderValue) × (others : List RtcpPacket)
    × (flat_map packet_senders packets ≡ part ∷ flat_map packet_senders others) × ShowsSender part given
    × Joins IsSpelling others (drop packet.next datagram)
sender_next datagram packets packet given next kind shows = (
  sender_in (take 24 packet.body.now),
  next.others,
  ap (flat_map packet_senders) next.parts
      ∙ after_unwanted reports no_sender_in next.skipped (next.value ∷ next.others) next.unwanted
      ∙ ap (λ (t : List SenderValue). t ++ flat_map packet_senders next.others)
      (sender_room next.value packet.kind packet.count packet.body.now next.first.body kind).1,
  shows,
  next.first.after,
)

-- ---- Packets of applications

abbrev pub applications : Wanted
applications = record { first = 204; last = 204; least = 0 }

pub no_app_in : (packet : RtcpPacket) → IsUnwanted applications packet → packet_apps packet ≡ []
no_app_in (app subtype source name content) h =
    absurd (h.4 (omega (arith, h.3.0), omega (arith, h.3.0), omega arith))
no_app_in packet h = refl

-- What such a packet's body says: it is the packet of that value, and has its SSRC, its name and its data.
pub record Defined (value : RtcpPacket) (count : ℕ) (body : List ℕ) : Type 0 where
  pub part : AppValue
  pub packet : value ≡ app part.subtype part.ssrc part.name part.content
  pub subtype : part.subtype ≡ count
  pub says : IsApplication part.ssrc part.name part.content body

pub defined : (value : RtcpPacket) (kind count : ℕ) (body : List ℕ) → IsBody value kind count body → kind ≡ 204
    → Defined value count body
defined (app subtype source name content) kind count body h is = record {
  part = record { ssrc = source; subtype = subtype; name = name; content = content };
  packet = refl;
  subtype = h.1;
  says = h.2;
}
defined value kind count body h is = absurd (omega (arith, is, h.0))

-- It has room for its SSRC and its name.
pub app_room : (value : RtcpPacket) (count : ℕ) (body : List ℕ) → Defined value count body → 8 ≤ length body
app_room value count body h =
    let said = h.says in
    omega (
      arith,
      ap length said.parts,
      length-append said.id (h.part.name ++ h.part.content),
      length-append h.part.name h.part.content,
      said.source.0,
      said.name_size,
    )

-- The packet of an application has its only part, and says where its data stand.
pub app_next : (datagram : List ℕ) (packets : List RtcpPacket) (packet : Packet) (given : PlacedApp)
    (next : ComesNext applications datagram packets packet) → packet.kind ≡ 204 → ReadsApp packet given
    → (part : AppValue) × (others : List RtcpPacket)
    × (flat_map packet_apps packets ≡ part ∷ flat_map packet_apps others) × PlacesApp datagram part given
    × Joins IsSpelling others (drop packet.next datagram)
app_next datagram packets packet given next kind says =
    let body : List ℕ = packet.body.now in
    let is = defined next.value packet.kind packet.count body next.first.body kind in
    let part : AppValue = is.part in
    let room = app_room next.value packet.count body is in
    let id : take 4 body ≡ is.says.id =
    ap (take 4) is.says.parts ∙ take_at is.says.id (part.name ++ part.content) 4 is.says.source.0 in
    let named : take 4 (drop 4 body) ≡ part.name =
    ap (λ (t : List ℕ). take 4 (drop 4 t)) is.says.parts
    ∙ ap (take 4) (drop_at is.says.id (part.name ++ part.content) 4 is.says.source.0)
    ∙ take_at part.name part.content 4 is.says.name_size in
    let ssrc : big_number 4 body ≡ part.ssrc =
    ap (big_number 4) is.says.parts
    ∙ word_first is.says.id (part.name ++ part.content) (omega (arith, is.says.source.0)) ∙ sym is.says.source.1 in (
      part,
      next.others,
      ap (flat_map packet_apps) next.parts
          ∙ after_unwanted applications no_app_in next.skipped (next.value ∷ next.others) next.unwanted
          ∙ ap (λ (p : RtcpPacket). packet_apps p ++ flat_map packet_apps next.others) is.packet,
      app_places part given next.first.before next.first.octets datagram
          (subst (λ (p : RtcpPacket). IsSpelling p next.first.octets) is.packet next.first.spelled) next.first.stands (
            says.ssrc ∙ ssrc,
            says.subtype ∙ sym is.subtype,
            says.name ∙ named,
            omega (
              arith,
              says.size,
              ap length is.says.parts,
              length-append is.says.id (part.name ++ part.content),
              length-append part.name part.content,
              is.says.source.0,
              is.says.name_size,
            ),
            omega (arith, says.place, next.first.place),
          ),
      next.first.after,
    )
