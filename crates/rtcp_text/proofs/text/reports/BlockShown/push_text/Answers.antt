use Rattle.std.proofs.Common.{rules, w32, ◌≡◌}
use Rattle.std.proofs.lemmas.Int.{to_z-of_z}
use Rattle.std.proofs.lemmas.List.{append-nil}
use Rattle.rtcp_wire.specs.Views.{block_value}
use Rattle.rtcp_text.specs.Text.{block_text}
use Rattle.rtcp_text.proofs.TailLemmas.{appended, seven_parts}
use Rattle.rtcp_text.proofs.text.reports.BlockShown.push_text.Goals as goal

pub returns : goal.returns
returns c =
    let block = c.args.self.now in
    let fraction = rw c.from.ensures at c.put_decimal-3.ensures.text in
    let lost = rw (to_z-of_z w32 block.lost (search rules)) at c.put_signed.ensures.text in
    let whole : c.as_slice.result.now ≡ block_text (block_value block) =
    rw (
      c.as_slice.ensures,
      c.put_word.ensures.text,
      c.put-5.ensures.text,
      fraction,
      c.put-4.ensures.text,
      lost,
      c.put-3.ensures.text,
      c.put_decimal-2.ensures.text,
      c.put-2.ensures.text,
      c.put_decimal.ensures.text,
      c.put.ensures.text,
      c.put_words.ensures.text,
      c.new-text.ensures.text,
      append-nil,
    )
    (seven_parts 47 _ _ _ _ _ _ _) in
    appended c.extend_from_slice.result c.args.out.now.items _ _ _ c.extend_from_slice.ensures.items whole
