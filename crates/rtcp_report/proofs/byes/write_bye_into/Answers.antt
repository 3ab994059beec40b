-- The three packets stand at the start, one after the other.
use Rattle.std.proofs.Common.{arith}
use Rattle.rtcp_wire.proofs.Putting.{after_part}
use Rattle.rtcp_report.specs.Reports.{bye_of}
use Rattle.rtcp_report.proofs.PutReports.{octets_are, read_back}
use Rattle.rtcp_report.proofs.PutByes.{bye_put}
use Rattle.rtcp_report.proofs.byes.write_bye_into.Goals as goal

pub returns-clause-octets : goal.returns-clause-octets
returns-clause-octets c =
    octets_are (bye_of c.args.ssrc c.args.cname.now) (bye_put c.args.ssrc c.args.cname.now c.requires
    c.put_receiver_head-end.ensures.in_range c.put_receiver_head-end.ensures.put c.put_description-end.ensures.put
    c.put_goodbye.ensures)

pub returns-clause-reads_back : goal.returns-clause-reads_back
returns-clause-reads_back c =
    read_back (bye_of c.args.ssrc c.args.cname.now) (bye_put c.args.ssrc c.args.cname.now c.requires
    c.put_receiver_head-end.ensures.in_range c.put_receiver_head-end.ensures.put c.put_description-end.ensures.put
    c.put_goodbye.ensures) (tt {0}) (omega (arith, c.put_goodbye.ensures.room))

pub returns-clause-rest : goal.returns-clause-rest
returns-clause-rest c =
    after_part (bye_put c.args.ssrc c.args.cname.now c.requires c.put_receiver_head-end.ensures.in_range
    c.put_receiver_head-end.ensures.put c.put_description-end.ensures.put c.put_goodbye.ensures).put
    c.put_goodbye.result (omega arith)
