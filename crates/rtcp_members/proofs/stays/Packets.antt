-- An RTP packet gives its source one packet more, and no other fact gives any.
use Rattle.std.proofs.Common.{◌≡◌, ◌<◌, ◌≤◌, ◌+◌, ◌^◌, ℕ, true, false, List, [], ◌∷◌, All, cond, if◌then◌else◌, Option, Some, None, is_some, IfSome, unwrap_or, option_and_then, nat_cmp, arith, refl, sym, subst}
use Rattle.std.specs.Ordering.{eq_by_cmp}
use Rattle.std.specs.Cmp.{nat_cmp_total}
use Rattle.std.specs.FinMap as map
use Rattle.std.proofs.lemmas.List.Elements.{All-head, All-tail}
use Rattle.rtcp_wire.specs.declared.fact.Fact.{Fact}
use Rattle.rtcp_wire.specs.declared.fact.Fact.TheVariants.{Media}
use Rattle.rtcp_clock.specs.Moments.{media_units}
use Rattle.rtcp_source.specs.declared.taken.Taken.{Taken}
use Rattle.rtcp_source.specs.declared.taken.Taken.TheVariants.{Counted}
use Rattle.rtcp_source.specs.Takings.{transit_of}
use Rattle.rtcp_source.specs.Summary.{SourceValue}
use Rattle.rtcp_source.specs.Steps.{source_with, taken_by}
use Rattle.rtcp_wire.specs.Facts.{subject, is_media}
use Rattle.rtcp_members.specs.Traces.{Horizons}
use Rattle.rtcp_members.specs.Stays.{is_removed}
use Rattle.rtcp_members.specs.Entries.{EntryValue, still_sending}
use Rattle.rtcp_members.specs.Tables.{TableValue, HasFew, IsFew, new_entry, entry_after, entry_after_check, entry_for, changes, placed, no_members, after_fact, after_facts, after_check}
use Rattle.rtcp_members.proofs.maps.Updated.{get_updated}

abbrev pub Few : ℕ → Option EntryValue → Type 0
Few packets entry = IfSome entry (λ e. e.source.packets ≤ packets)

one_packet : (taken : Taken) (seq transit octets rate : ℕ) (source : SourceValue) →
    (source_with taken seq transit octets rate source).packets ≡ source.packets + 1
one_packet Counted seq transit octets rate source = refl
one_packet taken seq transit octets rate source = refl

-- how many packets there are with a fact more
abbrev with_fact : (packets : ℕ) → Fact → ℕ
with_fact packets fact = if is_media fact then packets + 1 else packets

few_after : (packets : ℕ) (fact : Fact) (moment : ℕ) (entry : EntryValue) → entry.source.packets ≤ packets →
    (entry_after fact moment entry).source.packets ≤ with_fact packets fact
few_after packets (Media ssrc seq timestamp octets rate) moment entry few =
    omega (
      arith,
      few,
      one_packet (taken_by entry.source seq) seq (transit_of timestamp (media_units moment rate))
          octets rate entry.source,
    )
few_after packets fact moment entry few = few

few_or_new : (packets : ℕ) (entry : Option EntryValue) → Few packets entry →
    (unwrap_or entry new_entry).source.packets ≤ packets
few_or_new packets None few = omega arith
few_or_new packets (Some entry) few = few

few_more : (packets more : ℕ) (entry : Option EntryValue) → packets ≤ more → Few packets entry → Few more entry
few_more packets more None less few = few
few_more packets more (Some entry) less few = omega (arith, less, few)

no_fewer : (packets : ℕ) (fact : Fact) → packets ≤ with_fact packets fact
no_fewer packets fact = elim (is_media fact) as (λ b. packets ≤ (if b then packets + 1 else packets)) [
  | true ↦
      omega arith
  | false ↦ omega arith
]

few_where : (packets : ℕ) (entry : Option EntryValue) →
    ((e : EntryValue) → entry ≡ Some e → e.source.packets ≤ packets) → Few packets entry
few_where packets None each = tt
few_where packets (Some entry) each = each entry refl

pub few_at : (packets : ℕ) (table : TableValue) → HasFew packets table → (ssrc : ℕ) →
    Few packets (map.get table.entries ssrc)
few_at packets table few ssrc = few_where packets (map.get table.entries ssrc) (few ssrc)

pub has_few : (packets : ℕ) (table : TableValue) → ((ssrc : ℕ) → Few packets (map.get table.entries ssrc)) →
    HasFew packets table
has_few packets table each ssrc entry found = subst (Few packets) found (each ssrc)

pub few_none : (capacity : ℕ) → HasFew 0 (no_members capacity)
few_none capacity = has_few 0 (no_members capacity)
    (λ ssrc. subst (Few 0) (sym (map.get-empty nat_cmp ssrc)) tt)

-- So is each of more packets.
pub few_of_more : (packets more : ℕ) (table : TableValue) → packets ≤ more → HasFew packets table → HasFew more table
few_of_more packets more table less few =
    has_few more table (λ ssrc. few_more packets more (map.get table.entries ssrc) less (few_at packets table few ssrc))

fact_few : (packets : ℕ) (table : TableValue) (fact : Fact) (moment : ℕ) → HasFew packets table → (ssrc : ℕ) →
    Few (with_fact packets fact) (map.get (after_fact fact moment table).entries ssrc)
fact_few packets table fact moment few ssrc =
    let entry : EntryValue = entry_after fact moment (entry_for table fact) in
    let still = few_more packets (with_fact packets fact) (map.get table.entries ssrc) (no_fewer packets fact)
    (few_at packets table few ssrc) in
    elim (changes (placed table fact)) as (λ b. Few (with_fact packets fact)
    (map.get (if b then record table { entries = map.insert table.entries (subject fact) entry } else
    table).entries ssrc)) [
      | true ↦ subst (Few (with_fact packets fact))
          (sym (map.get-insert nat_cmp_total table.entries (subject fact) entry ssrc))
          (elim (eq_by_cmp nat_cmp ssrc (subject fact)) as (λ b. Few (with_fact packets fact)
          (cond b (Some entry) (map.get table.entries ssrc))) [
            | true ↦ few_after packets fact moment (entry_for table fact)
                (few_or_new packets (map.get table.entries (subject fact)) (few_at packets table few (subject fact)))
            | false ↦ still
          ])
      | false ↦ still
    ]

pub few_fact : (packets : ℕ) (table : TableValue) (fact : Fact) (moment : ℕ) → HasFew packets table →
    HasFew (with_fact packets fact) (after_fact fact moment table)
few_fact packets table fact moment few = has_few (with_fact packets fact) (after_fact fact moment table)
    (fact_few packets table fact moment few)

-- Facts that are no packets give none.
pub few_facts : (packets : ℕ) (facts : List Fact) (table : TableValue) (moment : ℕ) →
    All (λ fact. is_media fact ≡ false) facts → HasFew packets table → HasFew packets (after_facts facts moment table)
few_facts packets [] table moment none few = few
few_facts packets (fact ∷ facts) table moment none few =
    let P : Fact → Type 0 = λ fact. is_media fact ≡ false in
    let first = subst (λ b. HasFew (if b then packets + 1 else packets) (after_fact fact moment table))
    (All-head P fact facts none) (few_fact packets table fact moment few) in
    few_facts packets facts (after_fact fact moment table) moment (All-tail P fact facts none) first

few_checked : (packets : ℕ) (horizons : Horizons) (entry : Option EntryValue) → Few packets entry →
    Few packets (option_and_then (entry_after_check horizons) entry)
few_checked packets horizons None few = few
few_checked packets horizons (Some entry) few =
    elim (is_removed horizons entry.sighting entry.mark) as (λ b. Few packets
    (if b then None else Some (if is_some entry.mark then entry else record
    entry { sending = still_sending horizons entry.sending }))) [
      | true ↦ tt
      | false ↦ elim (is_some entry.mark) as (λ b.
          (if b then entry else record entry { sending = still_sending horizons entry.sending }).source.packets
          ≤ packets) [ true ↦ few | false ↦ few ]
    ]

pub few_check : (packets : ℕ) (table : TableValue) (horizons : Horizons) → HasFew packets table →
    HasFew packets (after_check horizons table)
few_check packets table horizons few =
    has_few packets (after_check horizons table)
    (λ ssrc. subst (Few packets) (sym (get_updated (entry_after_check horizons) table.entries ssrc))
    (few_checked packets horizons (map.get table.entries ssrc) (few_at packets table few ssrc)))

few_is_few : (packets : ℕ) (entry : Option EntryValue) → packets < 2 ^ 40 → Few packets entry → IfSome entry IsFew
few_is_few packets None small few = tt
few_is_few packets (Some entry) small few = omega (arith, small, few)

-- So a fact can be handed in, as long as no more came than this.
pub may_apply : (packets : ℕ) (table : TableValue) (fact : Fact) → packets < 2 ^ 40 → HasFew packets table →
    IfSome (map.get table.entries (subject fact)) IsFew
may_apply packets table fact small few = few_is_few packets (map.get table.entries (subject fact)) small
    (few_at packets table few (subject fact))
