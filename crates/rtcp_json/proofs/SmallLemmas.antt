-- What a packet of an accepted datagram says in one octet is below 256.
use Rattle.std.proofs.Common.{◌≡◌, ℕ, zero, suc, ◌<◌, List, [], ◌∷◌, ◌++◌, All, drop, subst, sym, arith}
use Rattle.std.specs.Prelude.{slice_index}
use Rattle.std.proofs.lemmas.List.Elements.{All-nil, All-cons, All-head, All-tail, All-take, All-drop}
use Rattle.rtcp_wire.specs.Values.{ReportBlock, RtcpPacket, sr, rr, sdes, bye, app, other}
use Rattle.rtcp_wire.specs.Grammar.{AreOctets, Joins, IsBlock, IsReportEnd, IsBody, IsSpelling}
use Rattle.rtcp_wire.specs.Headers.{type_of, count_of, body_of}

-- ---- Octets

octet_at : (octets : List ℕ) → AreOctets octets → (k : ℕ) → slice_index octets k < 256
octet_at [] all k = omega arith
octet_at (x ∷ xs) all zero = All-head (λ o. o < 256) x xs all
octet_at (x ∷ xs) all (suc k) = octet_at xs (All-tail (λ o. o < 256) x xs all) k

left_octets : (xs ys : List ℕ) → AreOctets (xs ++ ys) → AreOctets xs
left_octets [] ys all = All-nil (λ o. o < 256)
left_octets (x ∷ xs) ys all =
    All-cons (λ o. o < 256) x xs (All-head (λ o. o < 256) x (xs ++ ys) all)
    (left_octets xs ys (All-tail (λ o. o < 256) x (xs ++ ys) all))

right_octets : (xs ys : List ℕ) → AreOctets (xs ++ ys) → AreOctets ys
right_octets [] ys all = all
right_octets (x ∷ xs) ys all = right_octets xs ys (All-tail (λ o. o < 256) x (xs ++ ys) all)

both_octets : (b a c : List ℕ) → b ≡ a ++ c → AreOctets b → AreOctets a × AreOctets c
both_octets b a c parts all =
    let joined : AreOctets (a ++ c) = subst (λ (t : List ℕ). AreOctets t) parts all in
    (left_octets a c joined, right_octets a c joined)

each_joined : {A : Type 0} (Spells : A → List ℕ → Type 0) (P : A → Type 0)
    → ((x : A) (octets : List ℕ) → AreOctets octets → Spells x octets → P x)
    → (xs : List A) (octets : List ℕ) → AreOctets octets → Joins Spells xs octets → All P xs
each_joined Spells P each [] octets all h = All-nil P
each_joined Spells P each (x ∷ xs) octets all h =
    let both = both_octets octets h.0 h.1 h.2 all in
    All-cons P x xs (each x h.0 both.0 h.3) (each_joined Spells P each xs h.1 both.1 h.4)

-- ---- Packets

abbrev pub IsSmallBlock : ReportBlock → Type 0
IsSmallBlock block = block.fraction < 256

abbrev pub IsSmall : RtcpPacket → Type 0
IsSmall (sr sender blocks extension) = All IsSmallBlock blocks
IsSmall (rr ssrc blocks extension) = All IsSmallBlock blocks
IsSmall (sdes chunks) = Unit {0}
IsSmall (bye ids reason) = Unit {0}
IsSmall (app subtype ssrc name content) = Unit {0}
IsSmall (other kind count body) = kind < 256

block_small : (block : ReportBlock) (octets : List ℕ) → AreOctets octets → IsBlock block octets → IsSmallBlock block
block_small block octets all is = subst IsSmallBlock (sym is.1) (octet_at octets all 4)

end_small : (blocks : List ReportBlock) (extension : List ℕ) (count : ℕ) (octets : List ℕ)
    → IsReportEnd blocks extension count octets → AreOctets octets → All IsSmallBlock blocks
end_small blocks extension count octets ends all =
    each_joined IsBlock IsSmallBlock block_small blocks ends.reports
    (both_octets octets ends.reports extension ends.parts all).0 ends.each

body_small : (p : RtcpPacket) (kind count : ℕ) (body : List ℕ) → kind < 256 → AreOctets body →
    IsBody p kind count body → IsSmall p
body_small (sr sender blocks extension) kind count body small all h =
    let s = h.1 in
    end_small blocks extension count s.rest s.ends (both_octets body s.prefix s.rest s.parts all).1
body_small (rr ssrc blocks extension) kind count body small all h =
    let r = h.1 in
    end_small blocks extension count r.rest r.ends (both_octets body r.id r.rest r.parts all).1
body_small (sdes chunks) kind count body small all h = tt
body_small (bye ids reason) kind count body small all h = tt
body_small (app subtype ssrc name content) kind count body small all h = tt
body_small (other its_kind its_count its_body) kind count body small all h = omega (arith, h.1)

packet_small : (p : RtcpPacket) (octets : List ℕ) → AreOctets octets → IsSpelling p octets → IsSmall p
packet_small p octets all h =
    body_small p (type_of octets) (count_of octets) (body_of octets) (octet_at octets all 1)
    (All-take (λ o. o < 256) _ (drop 4 octets) (All-drop (λ o. o < 256) 4 octets all)) h.body

pub packets_small : (packets : List RtcpPacket) (octets : List ℕ) → AreOctets octets →
    Joins IsSpelling packets octets → All IsSmall packets
packets_small packets octets all joined = each_joined IsSpelling IsSmall packet_small packets octets all joined
