-- The CNAME, and the extra item after it.
use Rattle.std.proofs.Common.{ℕ, List, subst}
use Rattle.rtcp_wire.specs.Puts.{IsPut}
use Rattle.rtcp_wire.specs.Writing.{written_item}
use Rattle.rtcp_report.specs.Reports.{cname_item, item_value}
use Rattle.rtcp_report.proofs.PutDescriptions.{items_put}
use Rattle.rtcp_report.proofs.description.put_items.Goals as goal

pub returns-in-Some : goal.returns-in-Some
returns-in-Some c =
    let kind = c.in-Some.item.now.kind in
    let second = subst (λ (text : List ℕ). IsPut c.put_item-end.new.octets c.put_item.new.octets c.put_item-end.result
    (written_item (record { kind = kind; text = text })) c.put_item.result) c.as_slice.ensures.value
    c.put_item.ensures in
    rw c.in-Some.is (items_put (cname_item c.args.cname.now) (item_value c.in-Some.item.now) c.put_item-end.ensures
    second)
