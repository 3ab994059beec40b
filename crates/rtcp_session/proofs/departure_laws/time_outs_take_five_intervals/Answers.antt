use Rattle.rtcp_engine.specs.answers.Histories.{setup_at}
use Rattle.rtcp_session.proofs.TimingOut.{dropped_were_silent, fall_times_out, heard_lately_stay, silence_is_long}
use Rattle.rtcp_session.proofs.departure_laws.time_outs_take_five_intervals.Goals as goal

pub returns-clause-falls : goal.returns-clause-falls
returns-clause-falls c = λ setup t first_word second_word outcome. fall_times_out setup t outcome first_word second_word

pub returns-clause-silent : goal.returns-clause-silent
returns-clause-silent c = dropped_were_silent

pub returns-clause-least : goal.returns-clause-least
returns-clause-least c = silence_is_long

pub returns-clause-heard : goal.returns-clause-heard
returns-clause-heard c = λ history outcome t ssrc at peer word datagram is same there named member lately.
    heard_lately_stay (setup_at history) t outcome ssrc at member
    (c.those_heard_stay_members.ensures.sighted history outcome ssrc at peer word datagram is same there named) lately
