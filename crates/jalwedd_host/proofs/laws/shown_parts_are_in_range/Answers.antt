use Rattle.jalwedd_host.proofs.Ranges as range
use Rattle.jalwedd_host.proofs.laws.shown_parts_are_in_range.Goals as goal

pub returns-clause-item : goal.returns-clause-item
returns-clause-item c = range.item

pub returns-clause-goodbye : goal.returns-clause-goodbye
returns-clause-goodbye c = range.goodbye

pub returns-clause-app : goal.returns-clause-app
returns-clause-app c = range.application

pub returns-clause-block : goal.returns-clause-block
returns-clause-block c = range.block

pub returns-clause-head : goal.returns-clause-head
returns-clause-head c = range.rtp_head
