-- A text that is UTF-8 reads as itself.
use Rattle.std.proofs.lemmas.Str.{utf8_lossy-IsUtf8}
use Rattle.rtcp_json.proofs.fields.write_text.Goals as goal

pub returns-in-Ok : goal.returns-in-Ok
returns-in-Ok c =
    rw (utf8_lossy-IsUtf8 c.args.octets.now c.in-Ok.ensures.cases.1, ← c.in-Ok.ensures.cases.0) c.write_name.ensures
