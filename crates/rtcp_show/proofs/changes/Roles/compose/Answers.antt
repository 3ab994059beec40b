-- The sources are listed, and what changed is told.
use Rattle.std.proofs.Common.{Bool, true, false, List, ℕ, map, refl}
use Rattle.rtcp_engine.specs.answers.Histories.{History, life_at, setup_at}
use Rattle.rtcp_engine.specs.answers.Lives.{WalksInLife}
use Rattle.rtcp_listing.specs.Differences.{ListedValue, listed_of}
use Rattle.rtcp_members.specs.ListViews.{state_value}
use Rattle.rtcp_members.specs.Listings.{StateValue}
use Rattle.rtcp_show.specs.Changes.{ShowsChanges, shown_changes}
use Rattle.rtcp_show.specs.Times.{when_text}
use Rattle.rtcp_show.specs.Watchers.{listed_in}
use Rattle.rtcp_show.proofs.LineLemmas.{map_twice}
use Rattle.rtcp_show.proofs.changes.Roles.compose.Goals as goal

shown :
    (told : Bool) (time : List ℕ) (history : History) (before : List ListedValue) (states : List StateValue)
    → WalksInLife (setup_at history) (life_at history) states
    → ShowsChanges told time history before (shown_changes told time before (map listed_of states))
shown true time history before states walk = (states, walk, refl)
shown false time history before states walk = refl

pub returns-clause-composed : goal.returns-clause-composed
returns-clause-composed g c = λ history stands.
    let listed = c.push_listing.new.listing.items in
    let states = map state_value listed in
    let before = listed_in c.args.self.now in (
      shown_changes c.args.told (when_text c.args.when) before (map listed_of states),
      shown c.args.told (when_text c.args.when) history before states (c.in_ok-push_listing.ensures history stands),
      rw (
        map_twice state_value listed_of listed,
        c.in_ok-push_if_shown.ensures,
        c.deref.ensures.value,
        c.deref-2.ensures.value,
      ) refl,
    )

pub returns-clause-keeps : goal.returns-clause-keeps
returns-clause-keeps g c = λ history stands.
    let listed = c.push_listing.new.listing.items in (
      map state_value listed,
      c.in_ok-push_listing.ensures history stands,
      rw (map_twice state_value listed_of listed, c.swap.ensures.x_after) refl,
    )
