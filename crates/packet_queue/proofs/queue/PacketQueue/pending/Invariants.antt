use Rattle.std.proofs.Common.{◌≡◌, take}
use Rattle.packet_queue.specs.Queues.{numbers_of}
use Rattle.packet_queue.proofs.queue.PacketQueue.pending.Given as goal

abbrev pub invariant-loop-k : goal.invariant-loop-k
invariant-loop-k l = l.made.items ≡ numbers_of 0 (take l.k l.self-inside.underway.items)
