-- Memory is asked for only where a file is named.
use Rattle.std.proofs.Common.{rules, ◌≡◌, inl, inr, Ok, codes, sym, ◌∙◌}
use Rattle.clap.specs.Matches.{found_of, first_value}
use Rattle.rtcp_command.specs.Listening.{listen_in, listening_of}
use Rattle.rtcp_command.proofs.options.read_listen.Goals as goal

pub returns-in-Err-clause-read : goal.returns-in-Err-clause-read
returns-in-Err-clause-read c =
    let found = found_of c.args.matches.now in
    let recording = first_value found (codes "record") in
    let stop = first_value found (codes "stop") in
    let read : listen_in found ≡ Ok (listening_of c.in_ok-order.order recording stop) = search rules in
    let (path, named) = c.in-Err.ensures.given in (
      listening_of c.in_ok-order.order recording stop,
      path,
      read,
      elim named [
        | inl first ↦ inl (sym c.get_str-recording.ensures ∙ first)
        | inr second ↦ inr (sym c.get_str-stop.ensures ∙ second)
      ],
    )
