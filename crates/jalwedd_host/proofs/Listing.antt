-- What a host's structure says of a source is what the participant lists.
use Rattle.std.proofs.Common.{◌≡◌, ◌<◌, ◌==◌, ◌+◌, ◌-◌, ◌^◌, ℕ, not, Bool, true, false, Option, Some, None, is_some, IfSome, refl, ap, arith}
use Rattle.std.proofs.lemmas.Bool.Decides.{nat_tests}
use Rattle.rtcp_members.specs.Listings.{StateValue}
use Rattle.rtcp_listing.specs.Differences.{listed_of, role_of}
use Rattle.jalwedd_host.specs.declared.source.HostSource.{HostSource}
use Rattle.jalwedd_host.specs.Answers.{moment_shown, one_if}
use Rattle.jalwedd_host.specs.Changes.{listed_by}
use Rattle.jalwedd_host.specs.Sources.{IsShown}

yes_if : (b : Bool) (n : ℕ) → n ≡ one_if b → not (n == 0) ≡ b
yes_if true n e = ap (λ (m : ℕ). not (m == 0)) e
yes_if false n e = ap (λ (m : ℕ). not (m == 0)) e

left_if : (start : ℕ) (left : Option ℕ) (n never : ℕ) → never ≡ 2 ^ 64 - 1 → n ≡ moment_shown start left →
    IfSome left (λ moment. start + moment < 2 ^ 64 - 1) → not (n == never) ≡ is_some left
left_if start None n never big e h = grind (arith, nat_tests, big, e)
left_if start (Some moment) n never big e h = grind (arith, nat_tests, big, e, h)

pub listed_as_known : (start : ℕ) (shown : HostSource) (state : StateValue) → IsShown start shown state →
    IfSome state.left (λ moment. start + moment < 2 ^ 64 - 1) → listed_by shown ≡ listed_of state
listed_as_known start shown state is before =
    let member = yes_if state.member shown.member is.member in
    let sender = yes_if state.sender shown.sender is.sender in
    let left = left_if start state.left shown.left (2 ^ 64 - 1) refl is.left before in
    λ i. record { ssrc = is.ssrc i; role = role_of (member i) (sender i); left = left i }
