-- Who is there, as it is written once a second.
use Rattle.std.proofs.Common.{◌≡◌, ℕ, ◌∙◌, ap, Bool, true, false, if◌then◌else◌, List, [], ◌∷◌, ◌++◌, inl, inr, append_assoc, codes, sym}
use Rattle.std.specs.Fmt.{decimal}
use Rattle.std.specs.Str.{bytes_eq}
use Rattle.json.specs.Print.{escape_byte, print_from}
use Rattle.json.specs.Tree.{members_tokens}
use Rattle.rtcp_engine.specs.state.States.{ParticipantValue}
use Rattle.rtcp_json.specs.JsonValues.{fields_of, json_line}
use Rattle.rtcp_json.specs.SourceValues.{Listing, Lists, dated_json, listing_fields, listing_json}
use Rattle.rtcp_json.specs.Watchers.{MayList, NewsIf, dated_line, news_text}

placed : (text rest : List ℕ) → (text ++ 44 ∷ []) ++ (rest ++ 10 ∷ []) ≡ (text ++ 44 ∷ rest) ++ 10 ∷ []
placed text rest = append_assoc text (44 ∷ []) (rest ++ 10 ∷ []) ∙ sym (append_assoc text (44 ∷ rest) (10 ∷ []))

-- A moment before the other fields of a line is the first field of its object.
dated : (moment : ℕ) (listing : Listing) →
    dated_line moment (json_line (listing_json listing)) ≡ json_line (dated_json moment listing)
unfolding print_from escape_byte
dated moment listing =
    ap (λ (text : List ℕ). codes "{\"moment\":" ++ text)
    (placed (decimal moment) (print_from false (members_tokens (fields_of (listing_fields listing)))))

pub news_due : (participant : ParticipantValue) (moment : ℕ) (before after : List ℕ)
    → (listing : Listing) × Lists participant listing × (after ≡ json_line (listing_json listing))
    → NewsIf true participant moment before after (news_text moment before after)
news_due participant moment before after (listing, lists, says) = (
  listing,
  lists,
  says,
  ap (λ line. if bytes_eq after before then [] else line) (ap (dated_line moment) says ∙ dated moment listing),
)

pub may_list : (due : Bool) (participant : ParticipantValue) (moment : ℕ) (before after text : List ℕ)
    → NewsIf due participant moment before after text → MayList moment text
may_list false participant moment before after text news = inl news.1
may_list true participant moment before after text (listing, lists, says, shown) = at (bytes_eq after before) shown
  where
    at : (same : Bool) → text ≡ (if same then [] else json_line (dated_json moment listing)) → MayList moment text
    at true none = inl none
    at false some = inr (listing, some)
