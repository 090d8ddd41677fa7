use Rattle.std.proofs.Common.{List, ℕ, map, sym, ap, subst, ◌∙◌}
use Rattle.std.specs.List.{AllByRecursion}
use Rattle.wire_messages.specs.declared.packet.Packet.{Packet}
use Rattle.packet_order.specs.Orders.{together}
use Rattle.packet_mail.specs.Letters.{packet_of_bytes, IsSpelled}
use Rattle.packet_mail.specs.Posts.{posts}
use Rattle.run_book.proofs.PartLetters.{spelled_all, packets_back}
use Rattle.run_book.proofs.measures.send_all.Goals as goal

pub put_all-requires : goal.put_all-requires
put_all-requires c = subst (λ (ls : List (List ℕ)). AllByRecursion IsSpelled ls) (sym c.requires.letters) (spelled_all (together c.args.parts.now).packets c.requires.packets)

pub returns-in-Ok-clause-ok : goal.returns-in-Ok-clause-ok
returns-in-Ok-clause-ok c =
    c.in-Ok.ensures.ok
    ∙ ap (λ (ps : List Packet). posts ps c.args.mail.now) (ap (λ (ls : List (List ℕ)). map packet_of_bytes ls) c.requires.letters ∙ packets_back (together c.args.parts.now).packets c.requires.packets)
