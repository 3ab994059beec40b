-- What was composed is what the participant tells.
use Rattle.std.proofs.Common.{◌≡◌, ◌++◌, ◌∙◌, ap, true, subst, sym, arith}
use Rattle.std.proofs.lemmas.Bool.Decides.{nat_tests}
use Rattle.rtcp_json.specs.JsonValues.{json_line}
use Rattle.rtcp_json.specs.SourceValues.{listing_json}
use Rattle.rtcp_json.specs.Watchers.{NewsIf, is_due, news_text}
use Rattle.rtcp_json.proofs.NewsLemmas.{news_due}
use Rattle.rtcp_json.proofs.board.Board.compose.Goals as goal

pub returns-clause-news : goal.returns-clause-news
returns-clause-news g c =
    let moment = c.args.moment in
    let participant = c.args.participant.now in
    let before = c.args.self.now.rows.items in
    let next = c.push_listing.new.out.items in
    let text = news_text moment before next in
    let listed = c.in_ok-push_listing.ensures in
    let due : is_due c.args.self.now.second moment ≡ true = grind (arith, nat_tests, c.if-moment-self.false) in
    let says : next ≡ json_line (listing_json listed.0) =
    listed.2 ∙ ap (λ xs. xs ++ json_line (listing_json listed.0)) c.clear.ensures.items in
    let kept : next ≡ c.swap.new.x.items = ap (λ rows. rows.items) (sym c.swap.ensures.x_after) in (
      text,
      subst (λ is. NewsIf is participant moment before c.swap.new.x.items text) (sym due)
          (subst (λ after. NewsIf true participant moment before after text) kept
          (news_due participant moment before next (listed.0, listed.1, says))),
      c.in_ok-push_news.ensures,
    )
