-- What names a source says that it is heard.
use Rattle.std.proofs.Common.{◌≡◌, true, [], ◌∷◌, if◌then◌else◌, sym, ap, ◌∙◌}
use Rattle.std.specs.List.{list_any}
use Rattle.rtcp_wire.specs.declared.fact.Fact.TheVariants.{Heard, Named}
use Rattle.rtcp_wire.specs.Facts.{is_cname}
use Rattle.rtcp_members.specs.Roles.{facts_move}
use Rattle.rtcp_members.specs.Tables.{after_facts}
use Rattle.rtcp_members.proofs.LawLemmas as tables
use Rattle.rtcp_engine.proofs.sayings.apply_chunk.Goals as goal

pub returns-then-has_cname-clause-content : goal.returns-then-has_cname-clause-content
returns-then-has_cname-clause-content g c =
    let id = c.args.chunk.now.id in
    let table = g.T.MemberTable.content c.args.table.now in
    let named : list_any is_cname c.args.chunk.now.items ≡ true = sym c.has_cname.ensures ∙ c.if-has_cname.true in
    c.apply_one.ensures.content ∙ ap (λ ssrc. after_facts (Named ssrc ∷ []) c.args.t table) c.id.ensures
    ∙ sym (tables.heard_by_what_it_says-named id c.args.t table)
    ∙ ap (λ b. after_facts (Heard id ∷ (if b then Named id ∷ [] else [])) c.args.t table) (sym named)

pub returns-then-has_cname-clause-moved : goal.returns-then-has_cname-clause-moved
returns-then-has_cname-clause-moved g c =
    let id = c.args.chunk.now.id in
    let table = g.T.MemberTable.content c.args.table.now in
    let named : list_any is_cname c.args.chunk.now.items ≡ true = sym c.has_cname.ensures ∙ c.if-has_cname.true in
    c.apply_one.ensures.moved ∙ ap (λ ssrc. facts_move (Named ssrc ∷ []) c.args.t table) c.id.ensures
    ∙ sym (tables.heard_by_what_it_says-named_moves id c.args.t table)
    ∙ ap (λ b. facts_move (Heard id ∷ (if b then Named id ∷ [] else [])) c.args.t table) (sym named)
