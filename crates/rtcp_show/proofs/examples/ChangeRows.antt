-- When changes of others are told, and when the sources are listed anew.
use Rattle.std.specs.Prelude.{◌≡◌, Bool, true, false, [], ◌∷◌, Some, None, Ok}
use Rattle.rtcp_engine.specs.answers.Acts.{forget_asked, leave_asked, time_passed}
use Rattle.rtcp_guarded.specs.Guarded.{GuardedAnswer}
use Rattle.rtcp_show.specs.Changes.{lists_anew, shows_others}
use Rattle.rtcp_show.specs.Watchers.{is_due, news_text, second_after}

abbrev answered : (others_changed : Bool) → GuardedAnswer
answered others_changed = Ok (record {
  out = None;
  members = 60;
  senders = 0;
  entries = 59;
  next = Some 1;
  changed = None;
  others_changed = others_changed;
})

record ChangesShown : Type 0 where
  -- A tick at which others timed out.
  ticked : shows_others (time_passed 5 0 0) (answered true) ≡ true
  nobody : lists_anew (time_passed 5 0 0) (answered false) ≡ false
  -- The leave among many, after which there is a next moment: that of the BYE.
  left : shows_others (leave_asked 5 0) (answered true) ≡ false
  left_listing : lists_anew (leave_asked 5 0) (answered true) ≡ false
  -- A source that the host forgot is not listed any more, and no line says so.
  forgotten : shows_others (forget_asked 5 7) (answered true) ≡ false
  forgotten_listing : lists_anew (forget_asked 5 7) (answered true) ≡ true
  -- The rows are due once a second, and written if they are others than before.
  second_one : is_due 0 1000000 ≡ true
  too_early : is_due 0 999999 ≡ false
  same_second : is_due 1 1999999 ≡ false
  seconds_on : second_after 1 4000001 ≡ 4
  other_rows : news_text true (49 ∷ []) (97 ∷ []) (98 ∷ []) ≡ 49 ∷ 32 ∷ 98 ∷ []
  same_rows : news_text true (49 ∷ []) (97 ∷ []) (97 ∷ []) ≡ []
  not_due : news_text false (49 ∷ []) (97 ∷ []) (98 ∷ []) ≡ []

changes_shown : ChangesShown
changes_shown = search
