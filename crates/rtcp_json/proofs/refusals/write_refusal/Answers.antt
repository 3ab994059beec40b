use Rattle.rtcp_json.proofs.refusals.write_refusal.Goals as goal

pub returns-in-Backwards : goal.returns-in-Backwards
returns-in-Backwards c = rw c.in-Backwards.is c.write_rule-in-Backwards.ensures

pub returns-in-TooFar : goal.returns-in-TooFar
returns-in-TooFar c = rw c.in-TooFar.is c.write_rule-in-TooFar.ensures

pub returns-in-TooMany : goal.returns-in-TooMany
returns-in-TooMany c = rw c.in-TooMany.is c.write_rule-in-TooMany.ensures

pub returns-in-Settings : goal.returns-in-Settings
returns-in-Settings c = rw c.in-Settings.is (rw c.config_name.ensures at c.write_caused-in-Settings.ensures)
