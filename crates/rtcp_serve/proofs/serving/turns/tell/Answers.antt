-- The observer is told an event, and then the compound of its answer goes out, if it has one.
use Rattle.rtcp_serve.proofs.serving.turns.tell.Goals as goal

pub returns-clause-leads : goal.returns-clause-leads
returns-clause-leads g c = λ run next refused kept words s holds stage.
    c.hand_over.ensures.leads run next refused kept words s (holds _ c.told.ensures) stage
