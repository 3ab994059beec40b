use Rattle.std.proofs.Common.{[], ◌∷◌, ap, sym, ◌∙◌, option_map, codes}
use Rattle.std.proofs.lemmas.List.{map-append}
use Rattle.rtcp_command.specs.Options.{item_in, text_given}
use Rattle.rtcp_text.specs.Numerals.{hex_text_in}
use Rattle.rtcp_command.proofs.OptionLemmas.{item_in-given}
use Rattle.rtcp_command.proofs.options.add_private.Goals as goal

pub returns-clause-added : goal.returns-clause-added
returns-clause-added c =
    let octets = c.in_ok-text.text.items in
    let read = rw c.as_bytes.ensures.value
    at (sym c.read_hex_text.ensures ∙ ap (option_map (λ text. text.items)) c.in_ok-text.ensures.ok_part) in (
      record { kind = 8; text = octets } ∷ [],
      ap (λ given. item_in 8 (codes "priv") hex_text_in (text_given given)) c.in-Some.is
          ∙ item_in-given 8 (codes "priv") c.in-Some.given.now octets hex_text_in read,
      rw (c.push.ensures.items, map-append),
    )
