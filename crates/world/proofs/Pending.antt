-- The packets under way are listed.
use Rattle.std.proofs.Common.{◌≡◌, ℕ, List, [], map, sym, ap, ◌∙◌}
use Rattle.trace_book.specs.declared.record.Record.{Record}
use Rattle.wire_messages.specs.Outboxes.{Outgoing}
use Rattle.site_frame.specs.Printed.{printed}
use Rattle.the_run.specs.Runs.{packet_record, lists_pending}
use Rattle.packet_mail.specs.declared.mail.PendingPacket.{PendingPacket}
use Rattle.packet_mail.specs.Posts.{Post, pending_of}
use Rattle.run_book.specs.Ledgers.{books}
use Rattle.world.specs.States.{WorldState}
use Rattle.world.specs.Shown.{FollowsWithin}
use Rattle.world.specs.Listed.{listed}
use Rattle.world.proofs.Events.{event_alone}
use Rattle.world.proofs.Letters.{listed_all}

pub pending_follows : (n : ℕ) (x y : WorldState) (ps qs : List PendingPacket) (out : Outgoing) → ps ≡ map pending_of x.book.post.underway → qs ≡ ps → out ≡ record { packets = []; records = map listed qs } → y.config ≡ x.config → y.places ≡ x.places → y.circuits ≡ x.circuits → y.book ≡ books n out.packets out.records x.book → FollowsWithin (λ c w. lists_pending n w) x y
pending_follows n x y ps qs out es eq eo ec ep ek eb c taken w o sh =
    let records : map listed qs ≡ printed (map packet_record w.underway) = ap (map listed) (eq ∙ es ∙ ap (λ (m : Post). map pending_of m.underway) (sh.book.whole o).post) ∙ sym (listed_all w.underway) in
    event_alone c taken w x y n [] (map packet_record w.underway) sh ec ep ek
    (eb ∙ (ap (λ (q : Outgoing). books n q.packets q.records x.book) eo ∙ ap (λ (rs : List Record). books n [] rs x.book) records))
