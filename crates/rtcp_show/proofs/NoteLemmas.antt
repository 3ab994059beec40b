-- What is noted of sources, one thing after the other.
use Rattle.std.proofs.Common.{◌≡◌, ◌++◌, ◌∷◌, [], flat_map, ℕ, List, Bool, true, false, ap, map, filter, refl, sym, ◌∙◌, if◌then◌else◌, nat_eq, Option, Some}
use Rattle.rtcp_wire.specs.Facts.{is_cname}
use Rattle.rtcp_wire.specs.Values.{ItemValue, ReportBlock, RtcpPacket}
use Rattle.rtcp_wire.specs.About.{blocks_about}
use Rattle.rtcp_show.proofs.ListingLemmas.{by_same}
use Rattle.rtcp_show.specs.Listings.{if_listed}
use Rattle.rtcp_show.specs.Notes.{NoteValue, cnames_by, cnames_of, has_lsr, newest_of, noted_after, trip_of, with_cnames, with_trips}

-- ---- What is newest

pub newest-append :
    {A : Type 0} → (ssrc : ℕ) (xs ys : List (ℕ × A)) (before : Option A)
    → newest_of ssrc (xs ++ ys) before ≡ newest_of ssrc ys (newest_of ssrc xs before)
newest-append ssrc [] ys before = refl
newest-append ssrc (x ∷ xs) ys before = newest-append ssrc xs ys (if nat_eq x.0 ssrc then Some x.1 else before)

pub cnames-append :
    (xs ys : List (ℕ × List ℕ)) (ssrc : ℕ) (note : NoteValue)
    → with_cnames (xs ++ ys) ssrc note ≡ with_cnames ys ssrc (with_cnames xs ssrc note)
cnames-append xs ys ssrc note = ap (λ cname. record note { cname = cname }) (newest-append ssrc xs ys note.cname)

pub named-append :
    (listed : Bool) (xs ys : List (ℕ × List ℕ)) (ssrc : ℕ) (note : NoteValue)
    → if_listed listed (with_cnames (xs ++ ys) ssrc) note
    ≡ if_listed listed (with_cnames ys ssrc) (if_listed listed (with_cnames xs ssrc) note)
named-append true xs ys ssrc note = cnames-append xs ys ssrc note
named-append false xs ys ssrc note = refl

-- ---- The first, and then the others

newest_first :
    {A B : Type 0} (f : A → ℕ × B) (test : A → Bool) (x : A) (rest : List A) (ssrc : ℕ) (before : Option B)
    → newest_of ssrc (map f (filter test (x ∷ rest))) before
    ≡ newest_of ssrc (map f (filter test rest)) (newest_of ssrc (map f (filter test (x ∷ []))) before)
newest_first f test x rest ssrc before = elim (test x) as (λ t.
    newest_of ssrc (map f (if t then x ∷ filter test rest else filter test rest)) before
    ≡ newest_of ssrc (map f (filter test rest)) (newest_of ssrc (map f (if t then x ∷ [] else [])) before)) [
      | true ↦ refl
      | false ↦ refl
    ]

-- ---- One thing

-- The items of a source say nothing of another.
others_stay :
    (own : ℕ) (items : List ItemValue) (ssrc : ℕ) (before : Option (List ℕ)) → nat_eq own ssrc ≡ false
    → newest_of ssrc (cnames_by own items) before ≡ before
others_stay own [] ssrc before other = refl
others_stay own (item ∷ items) ssrc before other =
    newest_first (λ (i : ItemValue). (own, i.text)) is_cname item items ssrc before
    ∙ others_stay own items ssrc _ other
    ∙ (elim (is_cname item) as (λ t.
    newest_of ssrc (map (λ (i : ItemValue). (own, i.text)) (if t then item ∷ [] else [])) before ≡ before) [
      | true ↦ ap (λ t. if t then Some item.text else before) other
      | false ↦ refl
    ])

named_other :
    (listed : Bool) (own : ℕ) (items : List ItemValue) (ssrc : ℕ) (note : NoteValue) → nat_eq own ssrc ≡ false
    → if_listed listed (with_cnames (cnames_by own items) ssrc) note ≡ note
named_other true own items ssrc note other =
    ap (λ cname. record note { cname = cname }) (others_stay own items ssrc note.cname other)
named_other false own items ssrc note other = refl

pub unlisted_chunk :
    (listed : ℕ → Bool) (own : ℕ) (items : List ItemValue) (ssrc : ℕ) (note : NoteValue) → listed own ≡ false
    → note ≡ if_listed (listed ssrc) (with_cnames (cnames_by own items) ssrc) note
unlisted_chunk listed own items ssrc note never = by_same own ssrc
    (λ test same. ap (λ t. if_listed t (with_cnames (cnames_by own items) ssrc) note) (sym never ∙ ap listed same))
    (λ test. sym (named_other (listed ssrc) own items ssrc note test))

pub listed_chunk :
    (listed : ℕ → Bool) (own : ℕ) (items : List ItemValue) (ssrc : ℕ) (note : NoteValue) → listed own ≡ true
    → with_cnames (cnames_by own items) ssrc note
    ≡ if_listed (listed ssrc) (with_cnames (cnames_by own items) ssrc) note
listed_chunk listed own items ssrc note holds = by_same own ssrc
    (λ test same. ap (λ t. if_listed t (with_cnames (cnames_by own items) ssrc) note) (sym holds ∙ ap listed same))
    (λ test. named_other true own items ssrc note test ∙ sym (named_other (listed ssrc) own items ssrc note test))

-- ---- One block

tripped_other :
    (listed : Bool) (arrived : ℕ) (x : ℕ × ReportBlock) (ssrc : ℕ) (note : NoteValue) → nat_eq x.0 ssrc ≡ false
    → note ≡ if_listed listed (with_trips arrived (x ∷ []) ssrc) note
tripped_other true arrived x ssrc note other = elim (has_lsr x) as (λ t.
    note ≡ record note { trip = newest_of ssrc (map (trip_of arrived) (if t then x ∷ [] else [])) note.trip }) [
      | true ↦ ap (λ t. record note { trip = if t then Some (trip_of arrived x).1 else note.trip }) (sym other)
      | false ↦ refl
    ]
tripped_other false arrived x ssrc note other = refl

pub listed_block :
    (listed : ℕ → Bool) (arrived : ℕ) (x : ℕ × ReportBlock) (ssrc : ℕ) (note : NoteValue) → listed x.0 ≡ true
    → has_lsr x ≡ true
    → (if nat_eq x.0 ssrc then record note { trip = Some (trip_of arrived x).1 } else note)
    ≡ if_listed (listed ssrc) (with_trips arrived (x ∷ []) ssrc) note
listed_block listed arrived x ssrc note holds has = by_same x.0 ssrc
    (λ test same. rw (sym (ap listed same), holds, has, test) refl)
    (λ test. rw test (tripped_other (listed ssrc) arrived x ssrc note test))

-- ---- A compound

pub noted_both :
    (listed : Bool) (arrived own : ℕ) (packets : List RtcpPacket) (ssrc : ℕ) (before between after : NoteValue)
    → between ≡ if_listed listed (with_trips arrived (blocks_about own packets) ssrc) before
    → after ≡ if_listed listed (with_cnames (cnames_of packets) ssrc) between
    → after ≡ if_listed listed (noted_after arrived own packets ssrc) before
noted_both true arrived own packets ssrc before between after first second =
    second ∙ ap (with_cnames (cnames_of packets) ssrc) first
noted_both false arrived own packets ssrc before between after first second = second ∙ first

-- What the rest names follows what one part of a list named.
pub named_on :
    {A : Type 0} (names : A → List (ℕ × List ℕ)) (listed : Bool) (x : A) (rest whole : List A) (ssrc : ℕ)
    (before after : NoteValue) → whole ≡ x ∷ rest → after ≡ if_listed listed (with_cnames (names x) ssrc) before
    → if_listed listed (with_cnames (flat_map names rest) ssrc) after
    ≡ if_listed listed (with_cnames (flat_map names whole) ssrc) before
named_on names listed x rest whole ssrc before after is named =
    ap (if_listed listed (with_cnames (flat_map names rest) ssrc)) named
    ∙ sym (named-append listed (names x) (flat_map names rest) ssrc before)
    ∙ ap (λ xs. if_listed listed (with_cnames (flat_map names xs) ssrc) before) (sym is)
