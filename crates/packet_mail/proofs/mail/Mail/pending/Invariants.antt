use Rattle.std.proofs.Common.{◌≡◌, take}
use Rattle.packet_mail.proofs.Listing.{listing}
use Rattle.packet_mail.proofs.mail.Mail.pending.Given as goal

abbrev pub invariant-loop-number : goal.invariant-loop-number
invariant-loop-number l = l.pending ≡ listing l.self-inside.ends.items l.self-inside.log (take l.number l.self-inside.queue.underway)
