-- Worked rows: what changed between two listings.
use Rattle.std.proofs.Common.{◌≡◌, ℕ, [], ◌∷◌, true, false}
use Rattle.rtcp_listing.specs.declared.change.Role.{Role}
use Rattle.rtcp_listing.specs.declared.change.Role.TheVariants.{Away, Member, Sender}
use Rattle.rtcp_listing.specs.declared.change.Change.{Change}
use Rattle.rtcp_listing.specs.Differences.{ListedValue, role_of, changes}

abbrev listed : (ssrc : ℕ) → Role → ListedValue
listed ssrc role = record { ssrc = ssrc; role = role; left = false }

abbrev gone : (ssrc : ℕ) → ListedValue
gone ssrc = record { ssrc = ssrc; role = Away; left = true }

abbrev moved : (ssrc : ℕ) (was is : Role) → Change
moved ssrc was is = record { ssrc = ssrc; was = was; is = is; has_left = false }

record Listings : Type 0 where
  -- A source on probation is away, whatever else is said of it.
  probation : role_of false true ≡ Away
  -- 1 timed out, 2 left, 3 began to send, 4 stopped, 5 is on probation, 6 joined, 7 stays, and 8 joined and sends.
  all_kinds : changes
      (listed 1 Member ∷ listed 2 Sender ∷ listed 3 Member ∷ listed 4 Sender ∷ listed 6 Away ∷ listed 7 Member ∷ [])
      (gone 2 ∷ listed 3 Sender ∷ listed 4 Member ∷ listed 5 Away ∷ listed 6 Member ∷ listed 7 Member ∷ listed 8
      Sender ∷ [])
      ≡ moved 1 Member Away ∷ record { ssrc = 2; was = Sender; is = Away; has_left = true } ∷ moved 3 Member Sender
      ∷ moved 4 Sender Member ∷ moved 6 Away Member ∷ moved 8 Away Sender ∷ []
  -- One that left, and is dropped then, is no change; and one that was not valid when it left is none.
  held_and_dropped : changes (gone 2 ∷ listed 5 Away ∷ []) (gone 5 ∷ []) ≡ []
  -- Equal listings have no changes, and the first listing of all is all changes.
  equal : changes (listed 1 Member ∷ gone 2 ∷ []) (listed 1 Member ∷ gone 2 ∷ []) ≡ []
  first_listing : changes [] (listed 1 Member ∷ gone 2 ∷ listed 9 Sender ∷ []) ≡ moved 1 Away Member ∷ moved 9 Away
      Sender ∷ []

listings : Listings
listings = search
