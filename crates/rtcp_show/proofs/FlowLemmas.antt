-- What is kept of sources while a listing is gone through: what the sources that are left bring it to.
use Rattle.std.proofs.Common.{◌≡◌, ℕ, Bool, true, false, List, if◌then◌else◌, nat_eq, is_some, unwrap_or, Option, Some, None, refl, sym, ap, ◌∙◌}
use Rattle.std.specs.Option.{option_map_or, option_or}
use Rattle.rtcp_members.specs.Listings.{StateValue}
use Rattle.rtcp_serve.specs.declared.link.Port.TheVariants.{Rtcp, Rtp}
use Rattle.rtcp_show.specs.declared.flows.Flow.{Flow}
use Rattle.rtcp_show.specs.declared.notes.Note.{Note}
use Rattle.rtcp_wire.specs.Values.{RtcpPacket}
use Rattle.rtcp_show.specs.Listings.{if_listed}
use Rattle.rtcp_show.specs.Flows.{flow_looked, heard_after, heard_at, looked_at, no_flow, reporter_of}
use Rattle.rtcp_show.specs.Notes.{kept_if, note_value, nothing}
use Rattle.rtcp_show.proofs.ListingLemmas.{by_same}

-- ---- Flows

-- what is kept of a source in the end, if the rest of a listing has this of it
abbrev pub flow_to_come : (elapsed : ℕ) → (rest : Option StateValue) → (before kept : Flow) → Flow
flow_to_come elapsed None before kept = kept
flow_to_come elapsed (Some state) before kept = looked_at elapsed state before

-- ---- Notes

-- what stays of a note in the end, if the rest of a listing has its source or not
abbrev pub note_to_come : (rest : Bool) → (left kept : Option Note) → Option Note
note_to_come false left kept = kept
note_to_come true left kept = option_or left kept

-- ---- Where packets come from

either : {A : Type 0} {x y : A} (b : Bool) → x ≡ y → x ≡ (if b then y else x)
either true same = same
either false same = refl

pub listed_peer :
    (listed : ℕ → Bool) (set : Flow → Flow) (source : ℕ) (flows : ℕ → Flow) → listed source ≡ true → (ssrc : ℕ)
    → (if nat_eq source ssrc then set (flows source) else flows ssrc)
    ≡ (if listed ssrc then (if nat_eq source ssrc then set (flows ssrc) else flows ssrc) else flows ssrc)
listed_peer listed set source flows holds ssrc = by_same source ssrc
    (λ test same. rw (test, sym (ap listed same), holds) (ap (λ s. set (flows s)) same))
    (λ test. rw test (either (listed ssrc) refl))

-- What is put is what is kept then.
pub flow_put :
    (b : Bool) (flow : Flow) (after before : Option Flow) → after ≡ (if b then Some flow else before)
    → unwrap_or after no_flow ≡ (if b then flow else unwrap_or before no_flow)
flow_put true flow after before is = rw is refl
flow_put false flow after before is = rw is refl

pub heard_both :
    (listed : Bool) (peer : ℕ) (packets : List RtcpPacket) (media : Option ℕ) (ssrc : ℕ) (before between after : Flow)
    → between ≡ if_listed listed (heard_at Rtp media peer ssrc) before
    → after ≡ if_listed listed (heard_at Rtcp (reporter_of packets) peer ssrc) between
    → after ≡ if_listed listed (heard_after peer packets media ssrc) before
heard_both true peer packets media ssrc before between after first second =
    second ∙ ap (heard_at Rtcp (reporter_of packets) peer ssrc) first
heard_both false peer packets media ssrc before between after first second = second ∙ first

-- ---- In the end

or_nothing : {A : Type 0} → (o : Option A) → option_or o None ≡ o
or_nothing None = refl
or_nothing (Some x) = refl

pub notes_kept :
    (told : Option StateValue) (left kept : Option Note) → kept ≡ note_to_come (is_some told) left None
    → option_map_or note_value kept nothing ≡ kept_if (is_some told) (option_map_or note_value left nothing)
notes_kept None left kept is = rw is refl
notes_kept (Some state) left kept is = rw (is, or_nothing left) refl

pub flows_kept :
    (elapsed : ℕ) (told : Option StateValue) (before kept : Flow) → kept ≡ flow_to_come elapsed told before no_flow
    → kept ≡ flow_looked elapsed told before
flows_kept elapsed None before kept is = is
flows_kept elapsed (Some state) before kept is = is
