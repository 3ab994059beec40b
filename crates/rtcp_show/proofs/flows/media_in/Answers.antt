-- What was taken has a head.
use Rattle.rtcp_show.proofs.flows.media_in.Goals as goal

pub returns-in-Err-read : goal.returns-in-Err-read
returns-in-Err-read c = λ media is.
    let said = rw c.in-Ok.is at is in
    absurd (c.in-Err-read.ensures.reads said.0 said.1)
