-- An event of a site: what it does, the adoption that it tries, and its end.
use Rattle.std.proofs.Common.{◌≡◌, List, [], ◌++◌, append_assoc, sym, ap, ◌∙◌, subst}
use Rattle.disk_model.specs.Disk.{Moment}
use Rattle.wire_messages.specs.Outboxes.{Outgoing}
use Rattle.wire_messages.specs.declared.packet.Packet.{Packet}
use Rattle.trace_book.specs.declared.record.Record.{Record}
use Rattle.site_frame.specs.Printed.{printed}
use Rattle.site_frame.proofs.Printing.{printed_append}
use Rattle.role_steps.specs.Views.{SiteView, Outcome, quiet}
use Rattle.site_parts.specs.of_using_site.Steps.{Gives}
use Rattle.packet_order.specs.Orders.{behind, sorted_out}
use Rattle.the_run.specs.Steps.{ended, in_order, tick_ended}
use Rattle.site_node.specs.Repeats.{Adds}
use Rattle.site_node.specs.Views.{view_of, Moves}
use Rattle.site_node.specs.declared.node.SiteNode.{SiteNode}
use Rattle.site_node.proofs.Moving.{places_then}

pub record IsEmpty (o : Outgoing) : Type 0 where
  pub packets : o.packets ≡ []
  pub records : o.records ≡ []

pub is_empty : (o : Outgoing) → o.packets ≡ [] → o.records ≡ [] → IsEmpty o
is_empty o p r = record { packets = p; records = r }

given_packets : (o : Outcome SiteView) (v : SiteView) (a b : Outgoing) → IsEmpty a → Gives o v a b → b.packets ≡ o.sent
given_packets o v a b e g = g.packets ∙ ap (λ xs. xs ++ o.sent) e.packets

given_records : (o : Outcome SiteView) (v : SiteView) (a b : Outgoing) → IsEmpty a → Gives o v a b → b.records ≡ printed o.told
given_records o v a b e g = g.records ∙ ap (λ xs. xs ++ printed o.told) e.records

-- the event's own part and its end, in one outbox
pub own_packets : (o last : Outcome SiteView) (v w : SiteView) (a b c : Outgoing) → IsEmpty a → Gives o v a b → Gives last w b c → c.packets ≡ o.sent ++ last.sent
own_packets o last v w a b c e g h = h.packets ∙ ap (λ xs. xs ++ last.sent) (given_packets o v a b e g)

own_records : (o last : Outcome SiteView) (v w : SiteView) (a b c : Outgoing) → IsEmpty a → Gives o v a b → Gives last w b c → c.records ≡ printed (o.told ++ last.told)
own_records o last v w a b c e g h = h.records ∙ (ap (λ xs. xs ++ printed last.told) (given_records o v a b e g) ∙ sym (printed_append o.told last.told))

-- an event that tries no adoption
ended_alone : (o last : Outcome SiteView) (v w : SiteView) (a b c out now : Outgoing) → IsEmpty a → Gives o v a b → Gives last w b c → now ≡ behind out (sorted_out c) → Gives (ended o (quiet o.view) last) w out now
ended_alone o last v w a b c out now e g h n = record {
  view = h.view;
  packets = ap (λ (x : Outgoing). x.packets) n ∙ ap (λ (xs : List Packet). out.packets ++ in_order xs) (own_packets o last v w a b c e g h);
  records = ap (λ (x : Outgoing). x.records) n ∙ ap (λ (xs : List Record). out.records ++ xs) (own_records o last v w a b c e g h);
}

pub event_alone : (f g : SiteView → Outcome SiteView) (old mid new : SiteNode) (m n o : Moment) (a b c out now : Outgoing) → a.packets ≡ [] → a.records ≡ [] → Moves f old m mid n a b → Moves g mid n new o b c → now ≡ behind out (sorted_out c)
    → Moves (λ v. ended (f v) (quiet (f v).view) (g (f v).view)) old m new o out now
event_alone f g old mid new m n o a b c out now p r w x e = record {
  gives = ended_alone (f (view_of old m.seen)) (g (f (view_of old m.seen)).view) (view_of mid n.seen) (view_of new o.seen) a b c out now (is_empty a p r) w.gives (subst (λ v. Gives (g v) (view_of new o.seen) b c) w.gives.view x.gives) e;
  stands = x.stands;
  places = places_then old.packs mid.packs new.packs w.places x.places;
  config = x.config ∙ w.config;
  me = x.me ∙ w.me;
}

-- an event with an adoption
ended_adopting : (o adopted last : Outcome SiteView) (v w x : SiteView) (a b c d e out mid now : Outgoing) → IsEmpty a → IsEmpty d → Gives o v a b → Gives adopted w d e → Gives last x b c → mid ≡ behind out e → now ≡ behind mid (sorted_out c) → Gives (ended o adopted last) x out now
ended_adopting o adopted last v w x a b c d e out mid now i j g h k m n = record {
  view = k.view;
  packets = ap (λ (y : Outgoing). y.packets) n ∙ (ap (λ (xs : List Packet). mid.packets ++ in_order xs) (own_packets o last v x a b c i g k) ∙ (ap (λ (y : Outgoing). y.packets ++ in_order (o.sent ++ last.sent)) m
      ∙ (append_assoc out.packets e.packets (in_order (o.sent ++ last.sent)) ∙ ap (λ (xs : List Packet). out.packets ++ (xs ++ in_order (o.sent ++ last.sent))) (given_packets adopted w d e j h))));
  records = ap (λ (y : Outgoing). y.records) n ∙ (ap (λ (xs : List Record). mid.records ++ xs) (own_records o last v x a b c i g k) ∙ (ap (λ (y : Outgoing). y.records ++ printed (o.told ++ last.told)) m
      ∙ (append_assoc out.records e.records (printed (o.told ++ last.told)) ∙ (ap (λ (xs : List Record). out.records ++ (xs ++ printed (o.told ++ last.told))) (given_records adopted w d e j h) ∙ ap (λ (xs : List Record). out.records ++ xs) (sym (printed_append adopted.told (o.told ++ last.told)))))));
}

pub event_adopting : (f t g : SiteView → Outcome SiteView) (old mid late new : SiteNode) (m n o p : Moment) (a b c d e out first now : Outgoing) → a.packets ≡ [] → a.records ≡ [] → d.packets ≡ [] → d.records ≡ []
    → Moves f old m mid n a b → Moves t mid n late o d e → Moves g late o new p b c → first ≡ behind out e → now ≡ behind first (sorted_out c)
    → Moves (λ v. ended (f v) (t (f v).view) (g (t (f v).view).view)) old m new p out now
event_adopting f t g old mid late new m n o p a b c d e out first now ap_ ar dp dr w x y i j = record {
  gives = ended_adopting (f v0) (t (f v0).view) (g (t (f v0).view).view) (view_of mid n.seen) (view_of late o.seen) (view_of new p.seen) a b c d e out first now (is_empty a ap_ ar) (is_empty d dp dr) w.gives tried ends i j;
  stands = y.stands;
  places = places_then old.packs late.packs new.packs (places_then old.packs mid.packs late.packs w.places x.places) y.places;
  config = y.config ∙ (x.config ∙ w.config);
  me = y.me ∙ (x.me ∙ w.me);
} where
  v0 : SiteView
  v0 = view_of old m.seen

  tried : Gives (t (f v0).view) (view_of late o.seen) d e
  tried = subst (λ v. Gives (t v) (view_of late o.seen) d e) w.gives.view x.gives

  ends : Gives (g (t (f v0).view).view) (view_of new p.seen) b c
  ends = subst (λ v. Gives (g v) (view_of new p.seen) b c) tried.view y.gives

-- ---- a tick ----

pub ticked : (adopted last : Outcome SiteView) (again : List Packet) (v w : SiteView) (a b c d out first mid now : Outgoing) → IsEmpty a → IsEmpty c → Gives adopted v a b → Gives last w c d → first ≡ behind out b → Adds again first mid → now ≡ behind mid (sorted_out d) → Gives (tick_ended adopted again last) w out now
ticked adopted last again v w a b c d out first mid now i j g h m r n = record {
  view = h.view;
  packets = ap (λ (y : Outgoing). y.packets) n ∙ (ap (λ (xs : List Packet). mid.packets ++ in_order xs) (given_packets last w c d j h) ∙ (ap (λ (xs : List Packet). xs ++ in_order last.sent) (r.packets ∙ ap (λ (y : Outgoing). y.packets ++ again) m)
      ∙ (append_assoc (out.packets ++ b.packets) again (in_order last.sent) ∙ (append_assoc out.packets b.packets (again ++ in_order last.sent) ∙ ap (λ (xs : List Packet). out.packets ++ (xs ++ (again ++ in_order last.sent))) (given_packets adopted v a b i g)))));
  records = ap (λ (y : Outgoing). y.records) n ∙ (ap (λ (xs : List Record). mid.records ++ xs) (given_records last w c d j h) ∙ (ap (λ (xs : List Record). xs ++ printed last.told) (r.records ∙ ap (λ (y : Outgoing). y.records) m)
      ∙ (append_assoc out.records b.records (printed last.told) ∙ (ap (λ (xs : List Record). out.records ++ (xs ++ printed last.told)) (given_records adopted v a b i g) ∙ ap (λ (xs : List Record). out.records ++ xs) (sym (printed_append adopted.told last.told))))));
}
