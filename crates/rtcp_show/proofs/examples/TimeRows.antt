-- How moments are written, worked out by hand.
use Rattle.std.proofs.Common.{refl}
use Rattle.core.specs.Fmt.{digits}
use Rattle.std.specs.Prelude.{◌≡◌, ◌+◌, ◌*◌, ◌^◌, codes}
use Rattle.rtcp_show.specs.Times.{day_text, told_by}
use Rattle.rtcp_show.specs.declared.times.Clock.TheVariants.{Session, Utc}

record TimesShown : Type 0 where
  since_start : told_by Session 250000 ≡ codes "0.250000"
  morning : day_text 29122123456 ≡ codes "08:05:22.123456Z"
  first : day_text 0 ≡ codes "00:00:00.000000Z"
  last : day_text 86399999999 ≡ codes "23:59:59.999999Z"
  -- Half a second before the midnight that begins the day 45,000 of the era, and then at it.
  before_midnight : told_by (Utc (3887999999 * 2 ^ 32 + 2 ^ 31)) 0 ≡ codes "23:59:59.500000Z"
  midnight : told_by (Utc (3887999999 * 2 ^ 32 + 2 ^ 31)) 500000 ≡ codes "00:00:00.000000Z"

times_shown : TimesShown
unfolding digits
times_shown = record {
  since_start = refl;
  morning = refl;
  first = refl;
  last = refl;
  before_midnight = refl;
  midnight = refl;
}
