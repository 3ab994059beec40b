-- The items that a walk takes: a lemma for each step.
use Rattle.std.proofs.Common.{◌≡◌, ◌≢◌, ℕ, suc, ◌+◌, ◌-◌, ◌%◌, ◌<◌, ◌≤◌, Bool, true, false, List, [], ◌∷◌, ◌++◌, length, take, drop, get_or, flat_map, refl, sym, ap, subst, ◌∙◌, append_assoc, arith, inl, inr, Option, Some, None}
use Rattle.std.proofs.lemmas.Bool.Decides.{nat_tests}
use Rattle.std.proofs.Math.Seq.{drop-length}
use Rattle.std.proofs.lemmas.List.{drop_at, get_or-take, length-append, length-drop, length-take-le, nil_from_length, take_at}
use Rattle.byteorder.specs.Endian.{big_number}
use Rattle.rtcp_wire.specs.Contents.{chunk_items, items_by, packet_items}
use Rattle.rtcp_wire.specs.Grammar.{Joins, IsBody, IsChunk, IsItem, IsSpelling}
use Rattle.rtcp_parts.specs.Placed.{PlacesItem}
use Rattle.rtcp_wire.specs.Placed.{StandsIn}
use Rattle.rtcp_parts.specs.declared.placed.PlacedItem.{PlacedItem}
use Rattle.rtcp_wire.specs.Values.{ChunkValue, ItemValue, RtcpPacket, sdes}
use Rattle.rtcp_parts.proofs.Places.{stands_within}
use Rattle.rtcp_wire.proofs.Prefixes.{length_parts}
use Rattle.rtcp_parts.specs.declared.cursor.Cursor.{Cursor}
use Rattle.rtcp_parts.specs.declared.packet.Packet.{Packet}
use Rattle.rtcp_parts.specs.declared.packet.Wanted.{Wanted}
use Rattle.rtcp_parts.specs.Cursors.{Leaves, LeavesHere, LeavesItems, ended_at, is_within, rest_of}
use Rattle.rtcp_parts.specs.Walks.{AreUnwanted, ComesNext, Enters, GoesOn, HasNoItem, IsPlaced, IsUnwanted, IsWanted, Opens, PassesOn, TakesHere, TakesNext, place_from}
use Rattle.rtcp_parts.proofs.Calls.{ended_within, is_within_by, place_within, within_is}
use Rattle.rtcp_parts.proofs.Entering.{leaves_packet, left_inside, none_among, nothing_left}
use Rattle.rtcp_parts.proofs.OctetParts.{word_first}
use Rattle.rtcp_parts.proofs.Rests.{rest_further, rest_size, rest_stands}

-- ---- An item

-- An item is next.
pub record FirstItem (datagram : List ℕ) (was : Cursor) (parts : List (ℕ × ItemValue)) : Type 0 where
  pub item : ItemValue
  pub others : List (ℕ × ItemValue)
  pub more : List ℕ
  pub stand : rest_of datagram was ≡ item.kind ∷ length item.text ∷ (item.text ++ more)
  pub first : parts ≡ (was.ssrc, item) ∷ others
  pub leaves : (now : Cursor) → now.place ≡ was.place + (2 + length item.text) → now.end ≡ was.end →
      now.left ≡ was.left → now.ssrc ≡ was.ssrc → LeavesItems datagram now others

pub first_item : (datagram : List ℕ) (was : Cursor) (parts : List (ℕ × ItemValue)) → LeavesItems datagram was parts →
    get_or (rest_of datagram was) 0 0 ≢ 0 → FirstItem datagram was parts
first_item datagram was parts h some = first h.items h.octets h.stand h.each h.here
  where
    first : (items : List ItemValue) (octets : List ℕ) → rest_of datagram was ≡ octets ++ 0 ∷ (h.fill ++ h.more) →
        Joins IsItem items octets → parts ≡ items_by was.ssrc items ++ flat_map chunk_items h.chunks →
        FirstItem datagram was parts
    first [] octets stand each here =
        let ends = stand ∙ ap (λ (t : List ℕ). t ++ 0 ∷ (h.fill ++ h.more)) each in
        absurd (some (ap (λ (t : List ℕ). get_or t 0 0) ends))
    first (item ∷ items) octets stand each here =
        let more : List ℕ = each.1 ++ 0 ∷ (h.fill ++ h.more) in
        let whole : rest_of datagram was ≡ item.kind ∷ length item.text ∷ (item.text ++ more) =
        stand ∙ ap (λ (t : List ℕ). t ++ 0 ∷ (h.fill ++ h.more)) (each.2 ∙ ap (λ (t : List ℕ). t ++ each.1) each.3.1)
        ∙ ap (λ (t : List ℕ). item.kind ∷ length item.text ∷ t)
        (append_assoc item.text each.1 (0 ∷ (h.fill ++ h.more))) in
        record {
          item = item;
          others = items_by was.ssrc items ++ flat_map chunk_items h.chunks;
          more = more;
          stand = whole;
          first = here;
          leaves = λ now place end left ssrc. record {
            items = items;
            chunks = h.chunks;
            octets = each.1;
            fill = h.fill;
            more = h.more;
            stand =
                rest_further datagram was now (2 + length item.text) place end
                ∙ ap (drop (2 + length item.text)) whole
                ∙ drop_at (item.kind ∷ length item.text ∷ item.text) more (2 + length item.text) (omega arith);
            each = each.4;
            few = h.few;
            others = h.others;
            counted = h.counted ∙ sym left;
            here = ap (λ (id : ℕ). items_by id items ++ flat_map chunk_items h.chunks) (sym ssrc);
          };
        }

-- The walk takes it.
module _ (datagram : List ℕ) (was : Cursor) (parts : List (ℕ × ItemValue)) (rest head texts : List ℕ)
    (within : is_within (length datagram) was ≡ true) (rest_is : rest ≡ rest_of datagram was)
    (head_is : head ≡ take 2 rest) (texts_are : texts ≡ drop 2 rest) (some : get_or head 0 0 ≢ 0)
    (in_chunk : was.left ≢ 0) (h : Leaves packet_items LeavesItems datagram was parts) where
  inside : LeavesItems datagram was h.here
  inside = left_inside datagram was parts h in_chunk

  kind_is : get_or head 0 0 ≡ get_or (rest_of datagram was) 0 0
  kind_is = ap (λ (t : List ℕ). get_or t 0 0) head_is ∙ get_or-take 2 rest 0 0 (omega arith)
      ∙ ap (λ (t : List ℕ). get_or t 0 0) rest_is

  first : FirstItem datagram was h.here
  first = first_item datagram was h.here inside (λ none. some (kind_is ∙ none))

  size_is : get_or head 1 0 ≡ length first.item.text
  size_is = ap (λ (t : List ℕ). get_or t 1 0) head_is ∙ get_or-take 2 rest 1 0 (omega arith)
      ∙ ap (λ (t : List ℕ). get_or t 1 0) (rest_is ∙ first.stand)

  texts_stand : texts ≡ first.item.text ++ first.more
  texts_stand = texts_are ∙ ap (drop 2) (rest_is ∙ first.stand)

  -- Its text fits.
  pub text_fits : get_or head 1 0 ≤ length texts
  text_fits = omega (arith, size_is, length_parts texts first.item.text first.more texts_stand)

  pub item_taken : (text : List ℕ) (now : Cursor) → text ≡ take (get_or head 1 0) texts →
      now.place ≡ was.place + (2 + length text) → now.end ≡ was.end → now.left ≡ was.left → now.ssrc ≡ was.ssrc →
      now.next ≡ was.next
      → (part : ℕ × ItemValue) × (others : List (ℕ × ItemValue)) × (parts ≡ part ∷ others)
      × ((was.ssrc ≡ part.0) × (get_or head 0 0 ≡ part.1.kind)
      × (StandsIn (was.place + 2) part.1.text datagram × (length text ≡ length part.1.text)))
      × Leaves packet_items LeavesItems datagram now others
  item_taken text now text_is place end left ssrc next =
      let own : text ≡ first.item.text =
      text_is ∙ ap (take (get_or head 1 0)) texts_stand
      ∙ take_at first.item.text first.more (get_or head 1 0) (sym size_is) in
      let size : length text ≡ length first.item.text = ap length own in
      let in_rest : StandsIn 2 first.item.text (rest_of datagram was) =
      record {
        before = first.item.kind ∷ length first.item.text ∷ [];
        after = first.more;
        parts = first.stand;
        counted = refl;
      } in (
        (was.ssrc, first.item),
        first.others ++ flat_map packet_items h.packets,
        h.all ∙ ap (λ (t : List (ℕ × ItemValue)). t ++ flat_map packet_items h.packets) first.first,
        (
          refl,
          kind_is ∙ ap (λ (t : List ℕ). get_or t 0 0) first.stand,
          (
            stands_within 2 was.place (was.place + 2) first.item.text (rest_of datagram was) datagram in_rest
                (rest_stands datagram was within) (omega arith),
            size,
          ),
        ),
        record {
          here = first.others;
          packets = h.packets;
          inside = inr (
            omega (arith, left, in_chunk),
            first.leaves now (omega (arith, place, size)) end left ssrc,
          );
          after = subst (λ (n : ℕ). Joins IsSpelling h.packets (drop n datagram)) (sym next) h.after;
          all = refl;
        },
      )

-- The octets of an item are no more than what is left.
pub item_fits : (size : ℕ) (rest texts text : List ℕ) → 2 ≤ length rest → texts ≡ drop 2 rest → size ≤ length texts →
    text ≡ take size texts → 2 + length text ≤ length rest
item_fits size rest texts text begun texts_are room is =
    omega (arith, begun, ap length texts_are, length-drop 2 rest, room, ap length is, length-take-le size texts room)

-- ---- The next chunk

-- No item of a chunk is left, and other chunks may follow.
pub record NoItem (datagram : List ℕ) (was : Cursor) (parts : List (ℕ × ItemValue)) : Type 0 where
  pub chunks : List ChunkValue
  pub fill : List ℕ
  pub more : List ℕ
  pub stand : rest_of datagram was ≡ 0 ∷ (fill ++ more)
  pub few : length fill < 4
  pub others : Joins IsChunk chunks more
  pub counted : length chunks + 1 ≡ was.left
  pub here : parts ≡ flat_map chunk_items chunks

pub no_item : (datagram : List ℕ) (was : Cursor) (parts : List (ℕ × ItemValue)) → LeavesItems datagram was parts →
    get_or (rest_of datagram was) 0 0 ≡ 0 → NoItem datagram was parts
no_item datagram was parts h none = at h.items h.octets h.stand h.each h.here
  where
    at : (items : List ItemValue) (octets : List ℕ) → rest_of datagram was ≡ octets ++ 0 ∷ (h.fill ++ h.more) →
        Joins IsItem items octets → parts ≡ items_by was.ssrc items ++ flat_map chunk_items h.chunks →
        NoItem datagram was parts
    at [] octets stand each here = record {
      chunks = h.chunks;
      fill = h.fill;
      more = h.more;
      stand = stand ∙ ap (λ (t : List ℕ). t ++ 0 ∷ (h.fill ++ h.more)) each;
      few = h.few;
      others = h.others;
      counted = h.counted;
      here = here;
    }
    at (item ∷ items) octets stand each here =
        absurd (each.3.0 (
        sym (ap (λ (t : List ℕ). get_or t 0 0) (stand
        ∙ ap (λ (t : List ℕ). t ++ 0 ∷ (h.fill ++ h.more)) (each.2 ∙ ap (λ (t : List ℕ). t ++ each.1) each.3.1)))
        ∙ none
        ))

-- Chunks are whole words.
chunks_whole : (chunks : List ChunkValue) (octets : List ℕ) → Joins IsChunk chunks octets → length octets % 4 ≡ 0
chunks_whole [] octets h = omega (arith, ap length h)
chunks_whole (chunk ∷ chunks) octets h =
    omega (arith, length_parts octets h.0 h.1 h.2, h.3.aligned, chunks_whole chunks h.1 h.4)

-- So the fill of a word is what the octets left are over whole words.
fill_size : (rest fill more : ℕ) → rest ≡ 1 + (fill + more) → more % 4 ≡ 0 → fill < 4 → (rest - 1) % 4 ≡ fill
fill_size rest fill more is whole few = omega arith

module _ (datagram : List ℕ) (was chunk now : Cursor) (within : is_within (length datagram) was ≡ true)
    (others : 1 < was.left) (place : chunk.place ≡ was.place + 1 + (was.end - was.place - 1) % 4)
    (end : chunk.end ≡ was.end) (left : chunk.left ≡ was.left - 1) (next : chunk.next ≡ was.next)
    (opens : Opens datagram chunk now) where
  chunk_opened : (parts : List (ℕ × ItemValue)) (n : NoItem datagram was parts) →
      LeavesItems datagram now (flat_map chunk_items n.chunks) × (now.left ≡ chunk.left) × (now.next ≡ chunk.next)
  chunk_opened parts n =
      let whole = chunks_whole n.chunks n.more n.others in
      let all : length (rest_of datagram was) ≡ 1 + (length n.fill + length n.more) =
      omega (arith, ap length n.stand, length-append n.fill n.more) in
      let fill : (length (rest_of datagram was) - 1) % 4 ≡ length n.fill =
      fill_size (length (rest_of datagram was)) (length n.fill) (length n.more) all whole n.few in
      let size : was.end - was.place - 1 ≡ length (rest_of datagram was) - 1 =
      omega (arith, rest_size datagram was within) in
      let further : chunk.place ≡ was.place + suc (length n.fill) =
      omega (arith, place, ap (λ (k : ℕ). k % 4) size, fill) in
      let rest : rest_of datagram chunk ≡ n.more =
      rest_further datagram was chunk (suc (length n.fill)) further end ∙ ap (drop (suc (length n.fill))) n.stand
      ∙ drop_at n.fill n.more (length n.fill) refl in
      opens.items n.chunks (subst (Joins IsChunk n.chunks) (sym rest) n.others) (omega (arith, left, others))
      (omega (arith, n.counted, left))

  pub goes_on : GoesOn packet_items LeavesItems HasNoItem datagram was now
  goes_on = record {
    leaves = λ parts h spent.
        let inside = left_inside datagram was parts h (λ out. omega (arith, out, others)) in
        let none : get_or (rest_of datagram was) 0 0 ≡ 0 = elim spent [
          | inl out ↦ absurd (omega (arith, out, others))
          | inr zero_is ↦ zero_is
        ] in
        let n = no_item datagram was h.here inside none in
        let opened = chunk_opened h.here n in (
          record {
            here = flat_map chunk_items n.chunks;
            packets = h.packets;
            inside = inr (omega (arith, opened.1, left, others), opened.0);
            after = subst (λ (n : ℕ). Joins IsSpelling h.packets (drop n datagram)) (sym (opened.2 ∙ next)) h.after;
            all = h.all ∙ ap (λ (t : List (ℕ × ItemValue)). t ++ flat_map packet_items h.packets) n.here;
          },
          λ (out : now.left ≡ 0). omega (arith, out, opened.1, left, others),
        );
    within = opens.within;
    further = λ some. omega (arith, opens.further some, place);
    ended = λ none. elim (opens.ended none) [
      | inl no_chunk ↦ absurd (omega (arith, no_chunk, left, others))
      | inr last ↦ last
    ];
  }

-- ---- The first item of a chunk

-- A chunk is next.
pub record FirstChunk (datagram : List ℕ) (was : Cursor) (chunks : List ChunkValue) : Type 0 where
  pub chunk : ChunkValue
  pub after : List ℕ
  pub id : List ℕ
  pub id_size : length id ≡ 4
  pub source : chunk.id ≡ big_number 4 id
  pub stand : rest_of datagram was ≡ id ++ after
  pub leaves : (now : Cursor) → now.place ≡ was.place + 4 → now.end ≡ was.end → now.left ≡ length chunks →
      now.ssrc ≡ chunk.id → LeavesItems datagram now (flat_map chunk_items chunks)

pub first_chunk : (datagram : List ℕ) (was : Cursor) (chunks : List ChunkValue) →
    Joins IsChunk chunks (rest_of datagram was) → 0 < length chunks → FirstChunk datagram was chunks
first_chunk datagram was [] h some = absurd (omega arith)
first_chunk datagram was (chunk ∷ chunks) h some =
    let own = h.3 in
    let after : List ℕ = own.items ++ 0 ∷ (own.free ++ h.1) in
    let whole : rest_of datagram was ≡ own.id ++ after =
    h.2 ∙ ap (λ (t : List ℕ). t ++ h.1) own.parts ∙ append_assoc own.id (own.items ++ 0 ∷ own.free) h.1
    ∙ ap (λ (t : List ℕ). own.id ++ t) (append_assoc own.items (0 ∷ own.free) h.1) in
    record {
      chunk = chunk;
      after = after;
      id = own.id;
      id_size = own.id_size;
      source = own.source;
      stand = whole;
      leaves = λ now place end left ssrc. record {
        items = chunk.items;
        chunks = chunks;
        octets = own.items;
        fill = own.free;
        more = h.1;
        stand = rest_further datagram was now 4 place end ∙ ap (drop 4) whole ∙ drop_at own.id after 4 own.id_size;
        each = own.each;
        few = own.fill;
        others = h.4;
        counted = omega (arith, left);
        here = ap (λ (id : ℕ). items_by id chunk.items ++ flat_map chunk_items chunks) (sym ssrc);
      };
    }

module _ (datagram : List ℕ) (was now : Cursor) (rest : List ℕ) (within : is_within (length datagram) was ≡ true)
    (rest_is : rest ≡ rest_of datagram was) where
  pub chunk_begins : (chunks : List ChunkValue) → Joins IsChunk chunks (rest_of datagram was) → 0 < length chunks →
      4 ≤ length rest
  chunk_begins chunks h some =
      let first = first_chunk datagram was chunks h some in
      omega (arith, length_parts rest first.id first.after (rest_is ∙ first.stand), first.id_size)

  pub opens : 4 ≤ length rest → now.place ≡ was.place + 4 → now.end ≡ was.end → now.left ≡ was.left →
      now.next ≡ was.next → now.ssrc ≡ big_number 4 (drop 0 rest) → Opens datagram was now
  opens room place end left next ssrc =
      let w = within_is (length datagram) was within in
      let size = rest_size datagram was within in
      let fits : now.place ≤ now.end = omega (arith, ap length rest_is, size, place, end, room) in
      record {
        items = λ chunks h pos counted.
            let first = first_chunk datagram was chunks h (omega (arith, counted, pos)) in
            let source : now.ssrc ≡ first.chunk.id =
            ssrc ∙ ap (λ (t : List ℕ). big_number 4 t) (rest_is ∙ first.stand)
            ∙ word_first first.id first.after (omega (arith, first.id_size)) ∙ sym first.source in (
              first.leaves now place end (left ∙ sym counted) source,
              left,
              next,
            );
        within = is_within_by (length datagram) now fits (omega (arith, end, next, w.1)) (omega (arith, next, w.2));
        further = λ some. omega (arith, place);
        ended = λ none. inl (sym left ∙ none);
      }

-- ---- The next source description

abbrev pub with_chunks : Wanted
with_chunks = record { first = 202; last = 202; least = 1 }

-- Other packets have no items.
no_items_in : (packet : RtcpPacket) → IsUnwanted with_chunks packet → packet_items packet ≡ []
no_items_in (sdes (chunk ∷ chunks)) h =
    absurd (h.4 (omega (arith, h.3.0), omega (arith, h.3.0), omega (arith, h.3.1)))
no_items_in packet h = refl

-- A packet of their type is its chunks.
pub record IsOfChunks (packet : RtcpPacket) (count : ℕ) (body : List ℕ) : Type 0 where
  pub chunks : List ChunkValue
  pub items : packet_items packet ≡ flat_map chunk_items chunks
  pub counted : length chunks ≡ count
  pub each : Joins IsChunk chunks body

of_chunks : (packet : RtcpPacket) (kind count : ℕ) (body : List ℕ) → IsBody packet kind count body → kind ≡ 202 →
    IsOfChunks packet count body
of_chunks (sdes chunks) kind count body h is =
    record { chunks = chunks; items = refl; counted = h.1; each = h.2 }
of_chunks packet kind count body h is = absurd (omega (arith, h.0, is))

module _ (datagram : List ℕ) (from : ℕ) (packet : Packet) (chunk now : Cursor) (placed : IsPlaced datagram from packet)
    (wanted : IsWanted with_chunks packet.kind packet.count)
    (comes : (packets : List RtcpPacket) → Joins IsSpelling packets (drop from datagram)
    → ComesNext with_chunks datagram packets packet)
    (next : chunk.next ≡ packet.next) (place : chunk.place ≡ packet.place)
    (end : chunk.end ≡ packet.place + length packet.body.now) (left : chunk.left ≡ packet.count)
    (opens : Opens datagram chunk now) where
  in_packet : (packets : List RtcpPacket) → ComesNext with_chunks datagram packets packet →
      Leaves packet_items LeavesItems datagram now (flat_map packet_items packets)
  in_packet packets one =
      let own = of_chunks one.value packet.kind packet.count packet.body.now one.first.body
      (omega (arith, wanted.0, wanted.1)) in
      let rest : packet.body.now ≡ rest_of datagram chunk =
      placed.body ∙ (λ i. drop (sym place i) (take (sym end i) datagram)) in
      let opened = opens.items own.chunks (subst (Joins IsChunk own.chunks) rest own.each)
      (omega (arith, left, wanted.2)) (own.counted ∙ sym left) in
      leaves_packet with_chunks no_items_in datagram now packets packet one (opened.2 ∙ next)
      (omega (arith, opened.1, left, wanted.2)) (subst (LeavesItems datagram now) (sym own.items) opened.0)

  pub enters_packet : Enters packet_items LeavesItems datagram from now
  enters_packet = record {
    leaves = λ packets h. in_packet packets (comes packets h);
    within = opens.within;
    further = λ some.
        let w = within_is (length datagram) now opens.within in
        let further : from < now.place = omega (arith, opens.further some, place, placed.begins) in
        (further, omega (arith, w.0, w.1));
    ended = λ none. elim (opens.ended none) [
      | inl no_chunk ↦ absurd (omega (arith, no_chunk, left, wanted.2))
      | inr last ↦ last
    ];
  }

-- Where no other packet is wanted, no item is left.
pub enters_end : (datagram : List ℕ) (from : ℕ) (now : Cursor) → now ≡ ended_at (length datagram)
    → ((packets : List RtcpPacket) → Joins IsSpelling packets (drop from datagram) → AreUnwanted with_chunks packets) →
    Enters packet_items LeavesItems datagram from now
enters_end datagram from now is none = record {
  leaves = λ packets h. subst (Leaves packet_items LeavesItems datagram now)
      (sym (none_among with_chunks no_items_in packets (none packets h))) (nothing_left datagram now is);
  within = ended_within (length datagram) now is;
  further = λ some. absurd (some (ap (λ (c : Cursor). c.left) is));
  ended = λ last. ap (λ (c : Cursor). c.next) is;
}

-- ---- Where no item is left of a chunk

place_in : (was : Cursor) → was.left ≢ 0 → place_from was ≡ was.place
place_in was some = grind (arith, nat_tests)

place_most : (octets : ℕ) (was : Cursor) → is_within octets was ≡ true → place_from was ≤ was.next
place_most octets was within =
    let w = within_is octets was within in
    let place : was.place ≤ was.next = omega (arith, w.0, w.1) in
    grind (arith, nat_tests)

-- Where the octets end, no packet follows.
no_packets : (packets : List RtcpPacket) (octets : List ℕ) → Joins IsSpelling packets octets → octets ≡ [] →
    packets ≡ []
no_packets [] octets h none = refl
no_packets (packet ∷ packets) octets h none =
    absurd (omega (arith, h.3.size, length_parts octets h.0 h.1 h.2, ap length none))

-- After the last packet no item is left.
none_left : (datagram : List ℕ) (now : Cursor) (parts : List (ℕ × ItemValue)) →
    Leaves packet_items LeavesItems datagram now parts → now.left ≡ 0 → now.next ≡ length datagram → parts ≡ []
none_left datagram now parts h out last =
    let here : h.here ≡ [] = elim h.inside [
      | inl none ↦ none.1
      | inr some ↦ absurd (omega (arith, some.0, out))
    ] in
    let packets : h.packets ≡ [] = no_packets h.packets (drop now.next datagram) h.after
    (ap (λ (n : ℕ). drop n datagram) last ∙ drop-length datagram) in
    h.all ∙ (λ i. here i ++ flat_map packet_items (packets i))

-- Before the next packet no item of this one is left.
none_here : (datagram : List ℕ) (was : Cursor) (here : List (ℕ × ItemValue)) → LeavesHere LeavesItems datagram was here
    → HasNoItem datagram was → was.left ≤ 1 → here ≡ []
none_here datagram was here (inl none) spent few = none.1
none_here datagram was here (inr some) (inl out) few = absurd (omega (arith, some.0, out))
none_here datagram was here (inr some) (inr ends) few =
    let n = no_item datagram was here some.1 ends in
    n.here ∙ ap (flat_map chunk_items) (nil_from_length n.chunks (omega (arith, n.counted, few)))

module _ (datagram : List ℕ) (was now : Cursor) (result : Bool) (within : is_within (length datagram) was ≡ true)
    (yes : result ≡ true → now.left ≢ 0) (no : result ≡ false → now.left ≡ 0) where
  pub passes_on_here : 1 < was.left → GoesOn packet_items LeavesItems HasNoItem datagram was now →
      PassesOn packet_items LeavesItems HasNoItem datagram was now result
  passes_on_here others goes = record {
    leaves = λ parts h spent.
        let left = goes.leaves parts h spent in
        (left.0, λ (is : result ≡ false). absurd (left.1 (no is)));
    within = goes.within;
    further = λ is.
        let here = place_in was (λ none. omega (arith, none, others)) in
        (omega (arith, here, goes.further (yes is)), yes is);
    begun = λ is. goes.ended (no is);
  }

  pub passes_on_later : was.left ≤ 1 → Enters packet_items LeavesItems datagram was.next now →
      PassesOn packet_items LeavesItems HasNoItem datagram was now result
  passes_on_later few enters = record {
    leaves = λ parts h spent.
        let here = none_here datagram was h.here h.inside spent few in
        let all : parts ≡ flat_map packet_items h.packets =
        h.all ∙ ap (λ (t : List (ℕ × ItemValue)). t ++ flat_map packet_items h.packets) here in
        let left : Leaves packet_items LeavesItems datagram now parts =
        subst (Leaves packet_items LeavesItems datagram now) (sym all) (enters.leaves h.packets h.after) in
        (left, λ (is : result ≡ false). none_left datagram now parts left (no is) (enters.ended (no is)));
    within = enters.within;
    further = λ is.
        let here = place_most (length datagram) was within in
        (omega (arith, here, (enters.further (yes is)).0), yes is);
    begun = λ is. enters.ended (no is);
  }

-- ---- The walk to the next item

-- The walk has gone from one place to another, and no item was between them.
pub record Follows (datagram : List ℕ) (was now : Cursor) : Type 0 where
  pub within : is_within (length datagram) now ≡ true
  pub leaves : (parts : List (ℕ × ItemValue)) → Leaves packet_items LeavesItems datagram was parts →
      Leaves packet_items LeavesItems datagram now parts
  pub further : place_from was ≤ place_from now

module _ (datagram : List ℕ) (first was taken : Cursor) (result : Option PlacedItem)
    (follows : Follows datagram first was)
    (takes : TakesHere packet_items LeavesItems (PlacesItem datagram) HasNoItem datagram was taken result) where
  pub taken_next : (item : PlacedItem) → result ≡ Some item →
      TakesNext packet_items LeavesItems (PlacesItem datagram) datagram first taken result
  taken_next item is = found result is takes
    where
      found : (result : Option PlacedItem) → result ≡ Some item →
          TakesHere packet_items LeavesItems (PlacesItem datagram) HasNoItem datagram was taken result →
          TakesNext packet_items LeavesItems (PlacesItem datagram) datagram first taken result
      found None is takes = absurd cc
      found (Some other_item) is takes =
          let kept = within_is (length datagram) taken takes.within in
          let on = place_within (length datagram) taken takes.within in
          record {
            takes = λ parts h. takes.takes parts (follows.leaves parts h);
            within = takes.within;
            further = omega (arith, follows.further, place_in was takes.further.0, takes.further.1, on);
            begun = λ octets none. absurd (omega (arith, takes.further.1, kept.0, kept.1, none));
          }

  stayed : result ≡ None → taken ≡ was
  stayed is = takes.none is

  spent : (parts : List (ℕ × ItemValue)) → result ≡ None → Leaves packet_items LeavesItems datagram first parts →
      HasNoItem datagram was
  spent parts is h = none result is takes
    where
      none : (result : Option PlacedItem) → result ≡ None →
          TakesHere packet_items LeavesItems (PlacesItem datagram) HasNoItem datagram was taken result →
          HasNoItem datagram was
      none None is takes = takes.takes parts (follows.leaves parts h)
      none (Some item) is takes = absurd cc

  module _ (now : Cursor) (passed : Bool) (is : result ≡ None)
      (passes : PassesOn packet_items LeavesItems HasNoItem datagram taken now passed) where
    from_was : PassesOn packet_items LeavesItems HasNoItem datagram was now passed
    from_was =
        subst (λ (c : Cursor). PassesOn packet_items LeavesItems HasNoItem datagram c now passed) (stayed is) passes

    -- Where another chunk follows, the next turn has less to walk.
    pub less_left : passed ≡ true → length datagram - place_from now < length datagram - place_from was
    less_left on =
        let further = from_was.further on in
        let most = within_is (length datagram) now passes.within in
        omega (arith, further.0, place_in now further.1, most.0, most.1, most.2)

    -- Where none follows, no item is left.
    pub ended_next : passed ≡ false → TakesNext packet_items LeavesItems (PlacesItem datagram) datagram first now result
    ended_next off = subst (TakesNext packet_items LeavesItems (PlacesItem datagram) datagram first now) (sym is)
        (record {
          takes = λ parts h.
              let left = from_was.leaves parts (follows.leaves parts h) (spent parts is h) in
              let none : parts ≡ [] = left.1 off in
              (none, subst (Leaves packet_items LeavesItems datagram now) none left.0);
          within = passes.within;
          further = tt {0};
          begun = λ octets none. absurd (omega (arith, passes.begun off, octets, none));
        })
