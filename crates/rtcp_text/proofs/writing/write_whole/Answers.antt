-- What is written is the prefix so far, and what the call took.
use Rattle.std.proofs.Common.{◌≡◌, ◌++◌, append_assoc, take, take-append-drop, ap, sym, ◌∙◌}
use Rattle.std.proofs.KnownBytes.{Appends-trans}
use Rattle.rtcp_text.proofs.CountedLemmas.{count_after-took}
use Rattle.rtcp_text.proofs.writing.write_whole.Goals as goal

pub loop-rest-preserved : goal.loop-rest-preserved
loop-rest-preserved g c =
    let count = c.in-Ok.count in
    let rest = c.loop-rest.rest.now in
    let written = c.loop-rest.invariant.written in
    let left : rest ≡ take count rest ++ c.split_at.result.1.now =
    sym (take-append-drop count rest) ∙ ap (λ octets. take count rest ++ octets) (sym c.split_at.ensures.back) in
    record {
      unfailed = count_after-took _ count rest _ _ c.in-Ok.is c.if-count-eq0.false c.write.ensures.counted
          ∙ c.loop-rest.invariant.unfailed;
      written = (
        written.0 ++ take count rest,
        written.1 ∙ ap (λ octets. written.0 ++ octets) left
            ∙ sym (append_assoc written.0 (take count rest) c.split_at.result.1.now),
        Appends-trans _ _ _ written.0 (take count rest) written.2 c.in-Ok.ensures.bytes,
      );
    }
