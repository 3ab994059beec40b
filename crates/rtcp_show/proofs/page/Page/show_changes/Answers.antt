-- Where the sources are not listed anew, nothing is told.
use Rattle.std.proofs.Common.{◌≡◌, ◌&&◌, ◌∙◌, [], Bool, List, ℕ, ap, false, not, refl, subst, sym}
use Rattle.std.proofs.KnownBytes.{Appends-nil}
use Rattle.rtcp_engine.specs.answers.Histories.{History}
use Rattle.rtcp_engine.specs.state.Views.{event_value}
use Rattle.rtcp_listing.specs.Differences.{ListedValue}
use Rattle.rtcp_show.specs.Changes.{ShowsChanges, is_forgetting}
use Rattle.rtcp_show.proofs.page.Page.show_changes.Goals as goal

untold : (told : Bool) → (time : List ℕ) → (history : History) → (before : List ListedValue) → told ≡ false
    → ShowsChanges told time history before []
untold told time history before none =
    subst (λ told. ShowsChanges told time history before []) (sym none) refl

pub returns-then-not-lists_anew-clause-written : goal.returns-then-not-lists_anew-clause-written
returns-then-not-lists_anew-clause-written g c = λ history stands. (
  [],
  untold _ _ history _ (
      ap (λ anew. anew && not (is_forgetting (event_value c.args.event.now)))
      (sym c.lists_anew.ensures ∙ c.if-not-lists_anew.true)
      ),
  Appends-nil _,
)
