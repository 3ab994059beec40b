-- The summary of what was passed, and of what is left: together they say what all says. A lemma for each step of the
-- tests.
use Rattle.std.proofs.Common.{◌≡◌, ℕ, suc, ◌+◌, ◌-◌, ◌<◌, ◌==◌, ◌&&◌, ◌||◌, Bool, true, false, List, [], ◌∷◌, ◌++◌, length, take, drop, refl, sym, ap, subst, ◌∙◌, append_assoc, arith}
use Rattle.std.specs.List.{list_all, list_any}
use Rattle.std.proofs.lemmas.Bool.{eq-eqb, ne_eqb}
use Rattle.std.proofs.lemmas.List.{nil_from_length}
use Rattle.byteorder.specs.Endian.{big_number}
use Rattle.rtcp_wire.specs.declared.validity.summary.Summary.{Summary}
use Rattle.rtcp_wire.specs.Facts.{is_cname}
use Rattle.rtcp_wire.specs.Grammar.{Joins, IsItem}
use Rattle.rtcp_wire.specs.Parts.{TakesPrefix}
use Rattle.rtcp_wire.specs.Summaries.{gives_name, names, keeps_to, all_keep_to, Adds, AddsChunk, AddsPacket, SumsUp}
use Rattle.rtcp_wire.specs.Validity.{PassesItems, IsSomeChunk}
use Rattle.rtcp_wire.specs.Values.{ItemValue, ChunkValue, RtcpPacket, sdes}
use Rattle.rtcp_wire.specs.Walks.{items_after, chunk_in, chunk_size, chunks_in, packet_in, packets_in}
use Rattle.rtcp_wire.proofs.PacketOrFault.{TakesPacket}
use Rattle.rtcp_wire.proofs.Prefixes.{length_parts}
use Rattle.rtcp_wire.proofs.ReadingWalks.{first_item, after_chunk, packet_read, first_packet}
use Rattle.rtcp_wire.proofs.Spellings.{spelling_length}
use Rattle.rtcp_wire.proofs.Walking.{HasPassed}

-- ---- Truth values

and_assoc : (a b c : Bool) → ((a && b) && c) ≡ (a && (b && c))
and_assoc true b c = refl
and_assoc false b c = refl

and_true : (a : Bool) → (a && true) ≡ a
and_true true = refl
and_true false = refl

or_left : (a b : Bool) → a ≡ true → (a || b) ≡ true
or_left a b is = ap (λ (c : Bool). c || b) is

or_more_right : (a b c : Bool) → (b ≡ true → c ≡ true) → (a || b) ≡ true → (a || c) ≡ true
or_more_right true b c more some = refl
or_more_right false b c more some = more some

-- Since the old summary parts were taken in: with those that are left they say what all say.
pub record Leaves (old now : Summary) (all_keep all_give left_keep left_give : Bool) : Type 0 where
  pub sole : (old.is_sole && all_keep) ≡ (now.is_sole && left_keep)
  pub named : (now.is_named || left_give) ≡ true → (old.is_named || all_give) ≡ true

-- One part more was taken in.
leaves_next : (old now next : Summary) (all_keep all_give keep give one_keeps one_gives left_keep left_give : Bool) →
    Leaves old now all_keep all_give keep give → keep ≡ (one_keeps && left_keep) → give ≡ (one_gives || left_give) →
    Adds now next one_keeps one_gives
    → Leaves old next all_keep all_give left_keep left_give
leaves_next old now next all_keep all_give keep give one_keeps one_gives left_keep left_give h first_keeps first_gives
    one =
    record {
      sole = h.sole ∙ ap (λ (b : Bool). now.is_sole && b) first_keeps
          ∙ sym (and_assoc now.is_sole one_keeps left_keep) ∙ ap (λ (b : Bool). b && left_keep) (sym one.sole);
      named = λ some. h.named (ap (λ (b : Bool). now.is_named || b) first_gives
          ∙ either next.is_named now.is_named one_gives left_give one.named some);
    }
  where
    either : (next now one left : Bool) → (next ≡ true → (now || one) ≡ true) → (next || left) ≡ true →
        (now || (one || left)) ≡ true
    either next true one left h some = refl
    either next false true left h some = refl
    either true false false left h some = absurd (apart (h refl))
      where
        apart : false ≡ true → ⊥
        apart same = cc
    either false false false left h some = some

-- None was taken in.
leaves_all : (old : Summary) (all_keep all_give : Bool) → Leaves old old all_keep all_give all_keep all_give
leaves_all old all_keep all_give = record { sole = refl; named = λ some. some }

-- All were.
adds_all : (old now : Summary) (all_keep all_give : Bool) → Leaves old now all_keep all_give true false →
    Adds old now all_keep all_give
adds_all old now all_keep all_give h = record {
  sole = sym (h.sole ∙ and_true now.is_sole);
  named = λ some. h.named (or_left now.is_named false some);
}

-- ---- Chunks

-- Items that were passed and begin with a CNAME give one.
name_first : (octets left after : List ℕ) → PassesItems octets left → octets ≡ 1 ∷ after →
    list_any is_cname (items_after 0 octets) ≡ true
name_first octets left after passed is = by passed.items passed.middle passed.each passed.parts
  where
    first_octet : (a b : ℕ) (s t : List ℕ) → a ∷ s ≡ b ∷ t → a ≡ b
    first_octet a b s t e = cc

    by : (items : List ItemValue) (middle : List ℕ) → Joins IsItem items middle → octets ≡ middle ++ 0 ∷ left →
        list_any is_cname (items_after 0 octets) ≡ true
    by [] middle each parts = absurd (omega (
      arith,
      first_octet 0 1 left after
          (sym (parts ∙ ap (λ (t : List ℕ). t ++ 0 ∷ left) each) ∙ is),
    ))
    by (item ∷ items) middle each parts =
        let whole : octets ≡ item.kind ∷ length item.text ∷ (item.text ++ (each.1 ++ 0 ∷ left)) =
        parts ∙ ap (λ (t : List ℕ). t ++ 0 ∷ left) (each.2 ∙ ap (λ (t : List ℕ). t ++ each.1) each.3.1)
        ∙ ap (λ (t : List ℕ). item.kind ∷ length item.text ∷ t) (append_assoc item.text each.1 (0 ∷ left)) in
        let kind : item.kind ≡ 1 = first_octet item.kind 1 (length item.text ∷ (item.text ++ (each.1 ++ 0 ∷ left)))
        after (sym whole ∙ is) in
        ap (λ (t : List ℕ). list_any is_cname (items_after 0 t)) whole
        ∙ ap (list_any is_cname) (first_item item (each.1 ++ 0 ∷ left) each.3.0)
        ∙ ap (λ (b : Bool). b || list_any is_cname (items_after 0 (each.1 ++ 0 ∷ left))) (eq-eqb item.kind 1 kind)

pub chunk_summed : (octets after start left : List ℕ) (ssrc : ℕ) (is_kept is_named : Bool) (old kept new : Summary) →
    is_kept ≡ (big_number 4 (take 4 octets) == ssrc) → after ≡ drop 4 octets → start ≡ after → PassesItems after left →
    (is_named ≡ true → (rest : List ℕ) × (start ≡ 1 ∷ rest))
    → kept.is_sole ≡ (old.is_sole && is_kept) → kept.is_named ≡ old.is_named → new.is_sole ≡ kept.is_sole →
    new.is_named ≡ (kept.is_named || is_named) → AddsChunk ssrc old new (chunk_in octets)
chunk_summed octets after start left ssrc is_kept is_named old kept new keeps after_is start_is passed first kept_sole
    kept_named new_sole new_named =
    let gives : is_named ≡ true → gives_name (chunk_in octets) ≡ true = λ some.
    ap (λ (t : List ℕ). list_any is_cname (items_after 0 t)) (sym after_is)
    ∙ name_first after left (first some).0 passed (sym start_is ∙ (first some).1) in
    record {
      sole = new_sole ∙ kept_sole ∙ ap (λ (b : Bool). old.is_sole && b) keeps;
      named = λ some. or_more_right old.is_named is_named (gives_name (chunk_in octets)) gives
          (sym (new_named ∙ ap (λ (b : Bool). b || is_named) kept_named) ∙ some);
    }

abbrev pub LeavesChunks : (ssrc : ℕ) → (old now : Summary) → (all left : List ChunkValue) → Type 0
LeavesChunks ssrc old now all left =
    Leaves old now (list_all (λ chunk. chunk.id == ssrc) all) (list_any gives_name all)
    (list_all (λ chunk. chunk.id == ssrc) left) (list_any gives_name left)

-- one chunk, and those after it
chunks_next : (more : ℕ) (old new : List ℕ) → TakesPrefix old new IsSomeChunk →
    chunks_in (suc more) old ≡ chunk_in old ∷ chunks_in more new
chunks_next more old new one =
    let left : drop (chunk_size (chunk_in old).items) old ≡ new =
    ap (λ (t : List ℕ). drop (chunk_size (chunk_in t).items) t) one.1 ∙ after_chunk one.2.0 one.0 new one.2.1 in
    ap (λ (t : List ℕ). chunk_in old ∷ chunks_in more t) left

pub no_chunk_summed : (ssrc count : ℕ) (old : Summary) (body : List ℕ) →
    LeavesChunks ssrc old old (chunks_in count body) (chunks_in (count - 0) body)
no_chunk_summed ssrc count old body =
    let all : count ≡ count - 0 = omega arith in
    subst (λ (n : ℕ). LeavesChunks ssrc old old (chunks_in count body) (chunks_in n body)) all
    (leaves_all old (list_all (λ (chunk : ChunkValue). chunk.id == ssrc) (chunks_in count body))
    (list_any gives_name (chunks_in count body)))

pub chunk_left : (ssrc count turns : ℕ) (body reader left : List ℕ) (old now next : Summary) → turns < count →
    LeavesChunks ssrc old now (chunks_in count body) (chunks_in (count - turns) reader) →
    TakesPrefix reader left IsSomeChunk →
    AddsChunk ssrc now next (chunk_in reader)
    → LeavesChunks ssrc old next (chunks_in count body) (chunks_in (count - (turns + 1)) left)
chunk_left ssrc count turns body reader left old now next more h taken one =
    let counted : count - turns ≡ suc (count - (turns + 1)) = omega (arith, more) in
    let first : chunks_in (count - turns) reader ≡ chunk_in reader ∷ chunks_in (count - (turns + 1)) left =
    ap (λ (n : ℕ). chunks_in n reader) counted ∙ chunks_next (count - (turns + 1)) reader left taken in
    let others : List ChunkValue = chunks_in (count - (turns + 1)) left in
    leaves_next old now next (list_all (λ (chunk : ChunkValue). chunk.id == ssrc) (chunks_in count body))
    (list_any gives_name (chunks_in count body))
    (list_all (λ (chunk : ChunkValue). chunk.id == ssrc) (chunks_in (count - turns) reader))
    (list_any gives_name (chunks_in (count - turns) reader)) ((chunk_in reader).id == ssrc)
    (gives_name (chunk_in reader))
    (list_all (λ (chunk : ChunkValue). chunk.id == ssrc) others) (list_any gives_name others) h
    (ap (list_all (λ (chunk : ChunkValue). chunk.id == ssrc)) first) (ap (list_any gives_name) first) one

pub all_chunks_summed : (ssrc count turns : ℕ) (body left : List ℕ) (old now : Summary) →
    LeavesChunks ssrc old now (chunks_in count body) (chunks_in (count - turns) left) → turns ≡ count →
    (is_first : Bool) → AddsPacket ssrc is_first old now (sdes (chunks_in count body))
all_chunks_summed ssrc count turns body left old now h all is_first =
    let no_more : count - turns ≡ 0 = omega (arith, all) in
    adds_all old now (list_all (λ (chunk : ChunkValue). chunk.id == ssrc) (chunks_in count body))
    (list_any gives_name (chunks_in count body))
    (subst (λ (n : ℕ). LeavesChunks ssrc old now (chunks_in count body) (chunks_in n left)) no_more h)

-- ---- Packets

abbrev pub LeavesPackets : (ssrc : ℕ) (is_first : Bool) → (old now : Summary) → (all left : List RtcpPacket) → Type 0
LeavesPackets ssrc is_first old now all left =
    Leaves old now (all_keep_to ssrc true all) (list_any names all) (all_keep_to ssrc is_first left)
    (list_any names left)

-- one packet, and those after it
packets_next : (first : Bool) (old new : List ℕ) → TakesPacket first old new →
    packets_in old ≡ packet_in old ∷ packets_in new
packets_next first old new taken =
    let packet : RtcpPacket = taken.2.0.0 in
    let read : packet_in old ≡ packet = ap packet_in taken.1 ∙ packet_read packet taken.0 new taken.2.0.1 in
    ap packets_in taken.1 ∙ first_packet packet taken.0 new taken.2.0.1
    ∙ ap (λ (p : RtcpPacket). p ∷ packets_in new) (sym read)

pub no_packet_summed : (ssrc : ℕ) (old : Summary) (datagram : List ℕ) →
    LeavesPackets ssrc ((length datagram - length datagram) == 0) old old (packets_in datagram) (packets_in datagram)
no_packet_summed ssrc old datagram =
    let first : ((length datagram - length datagram) == 0) ≡ true = eq-eqb (length datagram - length datagram) 0
    (omega arith) in
    subst (λ (b : Bool). LeavesPackets ssrc b old old (packets_in datagram) (packets_in datagram)) (sym first)
    (leaves_all old (all_keep_to ssrc true (packets_in datagram)) (list_any names (packets_in datagram)))

module _ (ssrc : ℕ) (datagram reader : List ℕ) (place : ℕ) (h : HasPassed datagram reader)
    (is : place ≡ length datagram - length reader) (new : List ℕ) (taken : TakesPacket (place == 0) reader new)
    (old now next : Summary)
    (left : LeavesPackets ssrc ((length datagram - length reader) == 0) old now (packets_in datagram)
    (packets_in reader))
    (one : AddsPacket ssrc (place == 0) now next (packet_in reader)) where
  pub packet_left :
      LeavesPackets ssrc ((length datagram - length new) == 0) old next (packets_in datagram) (packets_in new)
  packet_left =
      let first : packets_in reader ≡ packet_in reader ∷ packets_in new = packets_next (place == 0) reader new taken in
      let later : ((length datagram - length new) == 0) ≡ false = ne_eqb (length datagram - length new) 0
      (λ none. omega (
        arith,
        none,
        length_parts datagram h.prefix reader h.parts,
        length_parts reader taken.0 new taken.1,
        spelling_length taken.2.0.0 taken.0 taken.2.0.1,
      )) in
      leaves_next old now next (all_keep_to ssrc true (packets_in datagram)) (list_any names (packets_in datagram))
      (all_keep_to ssrc ((length datagram - length reader) == 0) (packets_in reader))
      (list_any names (packets_in reader)) (keeps_to ssrc (place == 0) (packet_in reader)) (names (packet_in reader))
      (all_keep_to ssrc ((length datagram - length new) == 0) (packets_in new)) (list_any names (packets_in new)) left
      (ap (λ (n : ℕ). all_keep_to ssrc (n == 0) (packets_in reader)) (sym is)
      ∙ ap (all_keep_to ssrc (place == 0)) first
      ∙ (λ i. keeps_to ssrc (place == 0) (packet_in reader) && all_keep_to ssrc (sym later i) (packets_in new)))
      (ap (list_any names) first) one

-- No packet is left.
pub all_packets_summed : (ssrc : ℕ) (is_first : Bool) (datagram left : List ℕ) (old now : Summary) →
    old.is_sole ≡ true → old.is_named ≡ false →
    LeavesPackets ssrc is_first old now (packets_in datagram) (packets_in left) → length left ≡ 0
    → SumsUp ssrc true now (packets_in datagram)
all_packets_summed ssrc is_first datagram left old now sole named h none =
    let empty : packets_in left ≡ [] = ap packets_in (nil_from_length left none) in
    let all : Adds old now (all_keep_to ssrc true (packets_in datagram)) (list_any names (packets_in datagram)) =
    adds_all old now (all_keep_to ssrc true (packets_in datagram)) (list_any names (packets_in datagram))
    (subst (λ (t : List RtcpPacket). LeavesPackets ssrc is_first old now (packets_in datagram) t) empty h) in
    record {
      sole = all.sole ∙ ap (λ (b : Bool). b && all_keep_to ssrc true (packets_in datagram)) sole;
      named = λ some. ap (λ (b : Bool). b || list_any names (packets_in datagram)) (sym named) ∙ all.named some;
    }
