use Rattle.std.proofs.Common.{append_assoc, codes}
use Rattle.rtcp_text.proofs.text.answers.push_settings_refusal.Goals as goal

pub returns : goal.returns
returns c =
    rw (
      c.in_ok-extend_from_slice-2.ensures.items,
      c.in_ok-extend_from_slice.ensures.items,
      c.as_bytes.ensures.value,
      c.config_name.ensures,
    )
    (append_assoc c.args.out.now.items (codes "E8 Settings: ") _)
