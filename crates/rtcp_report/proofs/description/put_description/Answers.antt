-- Each part stands before the ones that were written before it.
use Rattle.std.proofs.Common.{ℕ, [], ◌∷◌, ◌≡◌, ◌+◌, ◌-◌, refl, subst, arith}
use Rattle.rtcp_wire.specs.Puts.{IsPut}
use Rattle.rtcp_wire.specs.Writing.{written_word, written_header}
use Rattle.rtcp_report.specs.Sizes.{description_size}
use Rattle.rtcp_report.specs.Views.{extra_of}
use Rattle.rtcp_report.specs.Reports.{items_of}
use Rattle.rtcp_report.proofs.PutDescriptions.{description_put}
use Rattle.rtcp_report.proofs.description.put_description.Goals as goal

pub returns-clause-put : goal.returns-clause-put
returns-clause-put c =
    let items = items_of c.args.cname.now (extra_of c.args.extra) in
    let end : ℕ = c.args.at + c.description_size.result in
    let whole : end ≡ c.args.at + description_size items = omega (arith, c.description_size.ensures.value) in
    let last : c.put_word.result ≡ end = omega (arith, c.put_word.ensures.put.ends, whole) in
    let begin : c.put_word-2.result ≡ c.args.at + 8 = omega (arith, c.put_word-2.ensures.put.ends) in
    let seam : c.put_header.result ≡ c.args.at + 4 = omega (arith, c.put_header.ensures.ends) in
    let zeros = subst (IsPut c.args.octets.now c.put_word.new.octets (end - 4) (0 ∷ 0 ∷ 0 ∷ 0 ∷ [])) last
    c.put_word.ensures.put in
    let word = subst (IsPut c.put_items.new.octets c.put_word-2.new.octets (c.args.at + 4) (written_word c.args.ssrc))
    begin c.put_word-2.ensures.put in
    let header = subst (IsPut c.put_word-2.new.octets c.put_header.new.octets c.args.at
    (written_header 1 202 (end - c.args.at - 4))) seam c.put_header.ensures in
    description_put (end - c.args.at - 4) c.args.ssrc items zeros c.put_items.ensures word header whole refl
