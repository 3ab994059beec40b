-- How many are members and senders by their stays is how many are by their entries.
use Rattle.std.proofs.Common.{◌≡◌, ℕ, ◌&&◌, Bool, true, false, List, is_some, refl, sym, ap, ◌∙◌}
use Rattle.rtcp_members.specs.Traces.{TraceStep, names}
use Rattle.rtcp_members.specs.Members.{is_valid, sending_of, is_unmarked_with, members_at, senders_at}
use Rattle.rtcp_members.specs.Entries.{entry_at, is_member, is_sender, is_such, count_at}
use Rattle.rtcp_members.specs.Tables.{TableValue, StandsAt, members_in, senders_in}
use Rattle.rtcp_members.proofs.maps.Counting.{same_passing}
use Rattle.rtcp_members.proofs.standing.Following.{count_agrees}
use Rattle.rtcp_members.proofs.stays.Staying.{such_by_stay}

both : (a : Bool) → (a && true) ≡ a
both true = refl
both false = refl

not_both : (a : Bool) → (a && false) ≡ false
not_both true = refl
not_both false = refl

pub members_by_entries : (capacity : ℕ) (trace : List TraceStep) →
    members_at capacity trace ≡ count_at is_member capacity trace
members_by_entries capacity trace =
    same_passing (is_unmarked_with capacity trace is_valid) (λ ssrc. is_such is_member (entry_at capacity trace ssrc))
    (λ ssrc. sym (such_by_stay is_member is_valid ssrc (λ stay. both (is_valid ssrc stay))
    (λ own mark. not_both (is_valid ssrc own)) capacity trace)) (names trace)

pub senders_by_entries : (capacity : ℕ) (trace : List TraceStep) →
    senders_at capacity trace ≡ count_at is_sender capacity trace
senders_by_entries capacity trace =
    let sends : ℕ → List TraceStep → Bool = λ ssrc stay. is_valid ssrc stay && is_some (sending_of ssrc stay) in
    same_passing (is_unmarked_with capacity trace sends) (λ ssrc. is_such is_sender (entry_at capacity trace ssrc))
    (λ ssrc. sym (such_by_stay is_sender sends ssrc
    (λ stay. ap (λ b. b && is_some (sending_of ssrc stay)) (both (is_valid ssrc stay)))
    (λ own mark. ap (λ b. b && is_some (sending_of ssrc own)) (not_both (is_valid ssrc own))) capacity trace))
    (names trace)

-- ---- Those of a table that stands at a trace

pub members_agree : (table : TableValue) (trace : List TraceStep) → StandsAt table trace →
    members_in table ≡ members_at table.capacity trace
members_agree table trace stands =
    count_agrees table trace stands is_member ∙ sym (members_by_entries table.capacity trace)

pub senders_agree : (table : TableValue) (trace : List TraceStep) → StandsAt table trace →
    senders_in table ≡ senders_at table.capacity trace
senders_agree table trace stands =
    count_agrees table trace stands is_sender ∙ sym (senders_by_entries table.capacity trace)
