-- What a watcher writes and keeps, one part after the other.
use Rattle.std.proofs.Common.{◌≡◌, ◌++◌, ◌∙◌, ap, ℕ, List, Bool, true, false, if◌then◌else◌, Option, Result, Ok, Err, OnOk, refl, subst, sym}
use Rattle.std.specs.Result.{is_ok, result_and}
use Rattle.std.proofs.lemmas.Bool.{false≢true}
use Rattle.std.proofs.KnownBytes.{Appends-trans}
use Rattle.std.specs.Io.KnownBytes.{Appends}
use Rattle.rtcp_engine.specs.answers.Acts.{EventValue}
use Rattle.rtcp_engine.specs.answers.Histories.{History, setup_at}
use Rattle.rtcp_guarded.specs.Guarded.{GuardedAnswer}
use Rattle.rtcp_wire.specs.Values.{RtcpPacket}
use Rattle.rtcp_show.specs.declared.board.Board.{Board}
use Rattle.rtcp_show.specs.declared.page.Page.{Page}
use Rattle.rtcp_show.specs.declared.printer.Printer.{Printer}
use Rattle.rtcp_show.specs.Changes.{KeepsListing, ShowsChanges, lists_anew, shows_others}
use Rattle.rtcp_show.specs.Flows.{IsMediaOf, elapsed_since, flow_in, flow_looked, heard_after, peer_of_event}
use Rattle.rtcp_show.specs.Lines.{HasPackets, ShowsBothBy, moment_of_event}
use Rattle.rtcp_show.specs.Listings.{if_listed, lists, state_at}
use Rattle.rtcp_show.specs.Notes.{kept_if, noted_after, noted_in}
use Rattle.rtcp_show.specs.Watchers.{KeepsRows, LooksIf, Watches, arrival_at, held_on, is_due, listed_in, news_text, second_after, terms_of, time_told}
use Rattle.rtcp_show.specs.Times.{told_by}
use Rattle.rtcp_show.specs.Wordings.{shown_in}

-- ---- Results

pub at_ok : {T E P : Type 0} (r : Result T E) → is_ok r ≡ true → OnOk r P → P
at_ok (Ok x) ok given = given
at_ok (Err e) ok given = absurd (false≢true ok)

-- What holds where all four are well holds where their conjunction is.
pub all_ok :
    {T E P : Type 0} (a b c d : Result T E)
    → (is_ok a ≡ true → is_ok b ≡ true → is_ok c ≡ true → is_ok d ≡ true → P)
    → OnOk (result_and (result_and (result_and a b) c) d) P
all_ok (Ok a) (Ok b) (Ok c) (Ok d) given = given refl refl refl refl
all_ok (Ok a) (Ok b) (Ok c) (Err e) given = tt
all_ok (Ok a) (Ok b) (Err e) d given = tt
all_ok (Ok a) (Err e) c d given = tt
all_ok (Err e) b c d given = tt

pub first_ok : {T E : Type 0} (P : Type 0) (a b : Result T E) → OnOk a P → OnOk (result_and a b) P
first_ok P (Ok a) (Ok b) given = given
first_ok P (Ok a) (Err e) given = tt
first_ok P (Err e) b given = tt

pub second_ok : {T E : Type 0} (P : Type 0) (a b : Result T E) → OnOk b P → OnOk (result_and a b) P
second_ok P (Ok a) b given = given
second_ok P (Err e) b given = tt

-- ---- What is kept

-- what an event tells of sources, before the rows are due
pub record Notes
    (event : EventValue) (answer : GuardedAnswer) (history : History) (arrived : ℕ) (before after : Board) : Type
    0 where
  pub noted : (packets : List RtcpPacket) → HasPackets event answer packets → (ssrc : ℕ) →
      noted_in after.notes ssrc ≡ if_listed (lists history ssrc)
      (noted_after arrived (setup_at history).ssrc packets ssrc)
      (noted_in before.notes ssrc)
  pub flowing : (packets : List RtcpPacket) (media : Option ℕ) → HasPackets event answer packets →
      IsMediaOf event answer media → (ssrc : ℕ) →
      flow_in after.flows ssrc ≡ if_listed (lists history ssrc) (heard_after (peer_of_event event) packets media ssrc)
      (flow_in before.flows ssrc)
  pub looked : after.looked ≡ before.looked
  pub rows : after.rows ≡ before.rows
  pub second : after.second ≡ before.second

looked_notes :
    (due : Bool) (now : ℕ) (history : History) (before after : Board) → LooksIf due now history before after →
    (ssrc : ℕ)
    → noted_in after.notes ssrc
    ≡ (if due then kept_if (lists history ssrc) (noted_in before.notes ssrc) else noted_in before.notes ssrc)
looked_notes true now history before after looks ssrc = looks.notes ssrc
looked_notes false now history before after stays ssrc = stays.notes ssrc

looked_flows :
    (due : Bool) (now : ℕ) (history : History) (before after : Board) → LooksIf due now history before after →
    (ssrc : ℕ)
    → flow_in after.flows ssrc
    ≡ (if due then flow_looked (elapsed_since before.looked now) (state_at history ssrc)
    (flow_in before.flows ssrc)
    else flow_in before.flows ssrc)
looked_flows true now history before after looks ssrc = looks.flows ssrc
looked_flows false now history before after stays ssrc = stays.flows ssrc

looked_then :
    (due : Bool) (now : ℕ) (history : History) (before after : Board) → LooksIf due now history before after
    → after.looked ≡ (if due then now else before.looked)
looked_then true now history before after looks = looks.looked
looked_then false now history before after stays = stays.looked

-- ---- The whole

pub watched :
    {W : Type 0} {contents : W → Option (List ℕ)} (event : EventValue) (answer : GuardedAnswer) (history : History)
    (before after : Printer W) (lined told : Page W) (noted : Board)
    → terms_of after ≡ terms_of before
    → (lines : List ℕ) × ShowsBothBy (told_by (terms_of before).clock) (shown_in (terms_of before).wording)
    (terms_of before).to event answer lines
    × Appends (held_on contents before.page) (held_on contents lined) lines
    → Notes event answer history (arrival_at (terms_of before).ntp_base (moment_of_event event)) before.board noted
    → (changes : List ℕ) × ShowsChanges (shows_others event answer) (time_told before (moment_of_event event))
    history
    (listed_in before.roles) changes × Appends (held_on contents lined) (held_on contents told) changes
    → KeepsListing (lists_anew event answer) history (listed_in before.roles) (listed_in after.roles)
    → Appends (held_on contents told) (held_on contents after.page)
    (news_text (is_due noted.second (moment_of_event event)) (time_told before (moment_of_event event)) noted.rows.items
    after.board.rows.items)
    → KeepsRows (terms_of before) (is_due noted.second (moment_of_event event)) history after.board noted.rows.items
    after.board.rows.items
    → LooksIf (is_due noted.second (moment_of_event event)) (moment_of_event event) history noted after.board
    → after.board.second ≡ second_after noted.second (moment_of_event event)
    → Watches contents event answer history before after
watched {contents = contents} event answer history before after lined told noted same shown notes changed listed
    written rows looks second =
    let moment = moment_of_event event in
    let news = news_text (is_due noted.second moment) (time_told before moment) noted.rows.items
    after.board.rows.items in
    let items : noted.rows.items ≡ before.board.rows.items = ap (λ rows. rows.items) notes.rows in
    let same_news : news ≡ news_text (is_due before.board.second moment) (time_told before moment)
    before.board.rows.items after.board.rows.items =
    ap (λ second. news_text (is_due second moment) (time_told before moment) noted.rows.items after.board.rows.items)
    notes.second
    ∙ ap (λ items. news_text (is_due before.board.second moment) (time_told before moment) items
    after.board.rows.items) items in
    record {
      lines = shown.0;
      changes = changed.0;
      terms = same;
      shows = shown.1;
      tells = changed.1;
      writes = subst (λ news. Appends (held_on contents before.page) (held_on contents after.page)
          (shown.0 ++ (changed.0 ++ news))) same_news
          (Appends-trans (held_on contents before.page) (held_on contents lined) (held_on contents after.page) shown.0
          (changed.0 ++ news) shown.2
          (Appends-trans (held_on contents lined) (held_on contents told) (held_on contents after.page) changed.0 news
          changed.2 written));
      listing = listed;
      rows = subst (λ (items : List ℕ). KeepsRows (terms_of before) (is_due before.board.second moment) history
          after.board items after.board.rows.items) items
          (subst (λ second. KeepsRows (terms_of before) (is_due second moment) history after.board noted.rows.items
          after.board.rows.items) notes.second rows);
      second = second ∙ ap (λ s. second_after s moment) notes.second;
      looked = rw (sym notes.second, sym notes.looked) (looked_then _ moment history noted after.board looks);
      notes = λ packets says ssrc.
          rw (sym notes.second, sym (notes.noted packets says ssrc))
          (looked_notes (is_due noted.second moment) moment history noted after.board looks ssrc);
      flows = λ packets media says comes ssrc.
          rw (sym notes.second, sym notes.looked, sym (notes.flowing packets media says comes ssrc))
          (looked_flows (is_due noted.second moment) moment history noted after.board looks ssrc);
    }
