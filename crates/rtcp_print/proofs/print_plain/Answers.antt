use Rattle.std.proofs.Common.{ℕ, ◌<◌, ◌^◌, List, length, sym, ap, ◌∙◌, arith}
use Rattle.rtcp_print.specs.Pages.{shown_in}
use Rattle.rtcp_print.proofs.PageLemmas.{printed}
use Rattle.rtcp_print.proofs.print_plain.Goals as goal

pub returns : goal.returns
returns c =
    let (text, line, adds) = c.push_plain_line.ensures.adds in
    let fits : length c.args.room.now < 2 ^ 64 = omega arith in
    let over = c.over-page.ensures in
    let (room, count) = printed text over.count (rw over.room fits) adds in
    let named = sym (c.push_plain_line.ensures.same ∙ over.same) in
    let whole = c.end.ensures.room ∙ room ∙ ap (λ (r : List ℕ). shown_in r text) over.room in
    record {
      text = text;
      line = line;
      shown = grind (arith, named, whole);
      whole = c.end.ensures.count ∙ count;
    }
