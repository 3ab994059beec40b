use Rattle.std.proofs.Common.{append_assoc, arith}
use Rattle.rtcp_wire.specs.WriterViews.{item_ref_of}
use Rattle.rtcp_text.specs.Text.{item_text}
use Rattle.rtcp_text.proofs.Joined.{texts_given}
use Rattle.rtcp_text.proofs.text.descriptions.ChunkShown.push_text.Goals as goal

pub returns : goal.returns
returns c =
    let joined = c.in_ok-push_joined.ensures in
    let texts = texts_given item_ref_of item_text c.items.result joined.0 joined.1 in
    grind (arith, append_assoc, texts, joined.2)
