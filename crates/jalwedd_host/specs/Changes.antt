-- How the changes between two listings are told to a host in C.
use Rattle.std.specs.Prelude.{ℕ, ◌≡◌, ◌==◌, ◌-◌, ◌^◌, ◌&&◌, not, nat_le, Bool, List, map, Option}
use Rattle.std.specs.List.{find}
use Rattle.rtcp_listing.specs.Differences.{ListedValue, role_of, rises_from, changes}
use Rattle.rtcp_listing.specs.declared.change.Role.{Role}
use Rattle.rtcp_listing.specs.declared.change.Role.TheVariants.{Away, Member, Sender}
use Rattle.rtcp_listing.specs.declared.change.Change.{Change}
use Rattle.jalwedd_host.specs.declared.change.RoleChange.{RoleChange}
use Rattle.jalwedd_host.specs.declared.source.HostSource.{HostSource}
use Rattle.jalwedd_host.specs.Answers.{one_if}

-- What a host's structure says of a source: any number but 0 says yes, and any moment but 2^64 - 1 says that
-- it left.
abbrev pub listed_by : HostSource → ListedValue
listed_by source =
    record {
      ssrc = source.ssrc;
      role = role_of (not (source.member == 0)) (not (source.sender == 0));
      left = not (source.left == 2 ^ 64 - 1);
    }

-- Each of two listings has its sources by rising SSRC, each once.
abbrev pub both_rise : (before after : List HostSource) → Bool
both_rise before after = rises_from 0 (map listed_by before) && rises_from 0 (map listed_by after)

-- The sources whose roles differ, by rising SSRC.
abbrev pub changes_between : (before after : List HostSource) → List Change
changes_between before after = changes (map listed_by before) (map listed_by after)

-- Of these, the one of least SSRC from a number on.
abbrev pub change_from : (from : ℕ) → (before after : List HostSource) → Option Change
change_from from before after =
    find (λ (change : Change). nat_le from change.ssrc) (changes_between before after)

abbrev pub number_of_role : Role → ℕ
number_of_role Away = 0
number_of_role Member = 1
number_of_role Sender = 2

-- A change as a host is told it.
abbrev pub ShowsChange : RoleChange → Change → Type 0
ShowsChange shown change =
    (shown.ssrc ≡ change.ssrc)
    × (shown.was ≡ number_of_role change.was)
    × (shown.is ≡ number_of_role change.is)
    × (shown.left ≡ one_if change.has_left)
