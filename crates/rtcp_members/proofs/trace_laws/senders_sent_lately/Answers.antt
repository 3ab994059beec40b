use Rattle.rtcp_members.proofs.stays.SenderLaws.{kept_is_newest, newest_is_kept, sender_sends, who_sends_is_sender}
use Rattle.rtcp_members.proofs.trace_laws.senders_sent_lately.Goals as goal

pub returns : goal.returns
returns c = record {
  sending = λ ssrc own moment. (
    kept_is_newest ssrc own moment,
    newest_is_kept ssrc own moment,
  );
  sender = λ capacity trace ssrc. (
    sender_sends capacity trace ssrc,
    who_sends_is_sender capacity trace ssrc,
  );
}
