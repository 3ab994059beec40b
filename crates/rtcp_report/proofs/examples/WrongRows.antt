-- What would be wrong: each statement here is a law with a number moved, and there is a report of which it does not
-- hold.
use Rattle.std.proofs.Common.{◌≡◌, ℕ, ◌≤◌, List, [], ◌∷◌, length, replicate, refl, arith}
use Rattle.rtcp_wire.specs.Writing.{written_all}
use Rattle.rtcp_wire.specs.declared.fact.Fact.TheVariants.{Media}
use Rattle.rtcp_members.specs.Entries.{EntryValue}
use Rattle.rtcp_members.specs.Tables.{entry_after, new_entry}
use Rattle.rtcp_members.specs.Pending.{EntryRow, blocks_of}
use Rattle.rtcp_report.specs.Reports.{Reporter, packets_with, bye_of, receiver_named, report_size, fitting}

-- the longest name
abbrev name : List ℕ
name = replicate 255 97

bye_of_283_octets : ((ssrc : ℕ) (cname : List ℕ) → length cname ≤ 255 →
    length (written_all (bye_of ssrc cname)) ≤ 283) → ⊥
bye_of_283_octets law =
    let fewer : 284 ≤ 283 = law 7 name (omega arith) in
    omega (arith, fewer)

-- Where the limit is greater, a report of 24 sources has more octets than the least limit.
abbrev packet_came : (seq : ℕ) → EntryValue → EntryValue
packet_came seq = entry_after (Media 9 seq 0 0 8000) 0

abbrev rows : List EntryRow
rows = replicate 24 (9, packet_came 11 (packet_came 10 new_entry))

reports_fit_the_least_limit : ((reporter : Reporter) (limit t : ℕ) (rows : List EntryRow) →
    report_size reporter 0 ≤ limit →
    length (written_all (packets_with reporter (blocks_of t (fitting reporter limit rows)))) ≤ 576) → ⊥
reports_fit_the_least_limit law =
    let fits = law (receiver_named 7 (97 ∷ [])) 1472 0 rows (omega arith) in
    let its : length (written_all (packets_with (receiver_named 7 (97 ∷ []))
    (blocks_of 0 (fitting (receiver_named 7 (97 ∷ [])) 1472 rows)))) ≡ 596 = refl in
    omega (arith, fits, its)
