use Rattle.jalwedd_host.proofs.app.PlacedAppShown.shown.Goals as goal

pub returns-clause-own : goal.returns-clause-own
returns-clause-own c datagram own = record { before = own.before; offset = own.place; boundary = own.begins }
