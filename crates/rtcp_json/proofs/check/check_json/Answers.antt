-- Each promise is one case of what the blocks' answers leave.
use Rattle.rtcp_text.specs.Counted.{inner_of}
use Rattle.rtcp_text.specs.Lines.{IsPrefixBy, AnswersUpToBlockBy, AnswersLinesBeforeBy}
use Rattle.rtcp_text.specs.Progress.{RunLeaves}
use Rattle.rtcp_text.specs.declared.fault.TextFault.TheVariants.{Text, Read, Memory}
use Rattle.rtcp_text.proofs.ClauseLemmas.{IsPrefixBy-leaves, AnswersLinesBeforeBy-block, Writes-weaker, Writes-whole, Writes-refused}
use Rattle.rtcp_json.specs.CheckJson.{IsJsonText}
use Rattle.rtcp_json.proofs.CheckJsonLemmas.{check_leaves, check_text_continues}
use Rattle.rtcp_json.proofs.check.check_json.Goals as goal

pub returns-clause-checks : goal.returns-clause-checks
returns-clause-checks g c =
    let most = c.args.lines in
    let IsText = IsJsonText most in
    let result = c.answer_blocks.result in
    let left = g.R.Read.remaining (inner_of c.answer_blocks.new.reader) in
    let leaves = check_leaves most _ result _ _ _ left c.answer_blocks.ensures.leaves in
    record {
      prefix = Writes-weaker _ _ _ (RunLeaves IsText result left) (IsPrefixBy IsText)
          (IsPrefixBy-leaves IsText (check_text_continues most) result left) leaves;
      whole = Writes-whole IsText _ _ _ left result leaves;
      refused = λ line fault is. Writes-refused IsText _ _ _ left result leaves (Text line fault) is;
      read = λ is. Writes-refused IsText _ _ _ left result leaves Read is;
      memory = λ is. Writes-weaker _ _ _ (AnswersUpToBlockBy IsText left) (AnswersLinesBeforeBy IsText)
          (AnswersLinesBeforeBy-block IsText left) (Writes-refused IsText _ _ _ left result leaves Memory is);
      memory_block = λ is. Writes-refused IsText _ _ _ left result leaves Memory is;
    }
