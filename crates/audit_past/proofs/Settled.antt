-- A reply to the one call of a name is settled by its parts.
use Rattle.std.proofs.Common.{◌≡◌, ◌≤◌, List, [], ◌∷◌, length, filter, map, None, refl, sym, ap, ◌∙◌}
use Rattle.std.specs.List.{find}
use Rattle.locus_ids.specs.declared.ids.CallId.{CallId}
use Rattle.trace_book.specs.declared.descriptor.Descriptor.{Descriptor}
use Rattle.trace_book.specs.declared.reply.Reply.{Reply}
use Rattle.trace_book.specs.declared.reply.Reply.TheVariants as reply
use Rattle.tree_model.specs.Working.{list_of}
use Rattle.promises.specs.Past.{Past, CallSoFar, Named as Row}
use Rattle.promises.specs.After.{is_id, replied_to}
use Rattle.past_laws.proofs.Changing.{find_filter, found_passes, only_one}
use Rattle.past_laws.proofs.Names.{call_eq}
use Rattle.audit_past.specs.declared.replying.Replied.{Replied}
use Rattle.audit_past.specs.declared.replying.Replied.TheVariants.{Named, Again, Lost, Plain}
use Rattle.audit_past.specs.Replying.{IsReplied, IsReplyTo, replied_all, settled}
use Rattle.audit_past.proofs.Replies.{replied_again, replied_lost, replied_named, replied_plain}

-- a list of one is not that of none
none_more : {A : Type 0} (f : Descriptor → Row) (xs : List Descriptor) (d : Descriptor) → map f xs ≡ [] → xs ≡ d ∷ [] → A
none_more f [] d e h = absurd (cc)
none_more f (x ∷ xs) d e h = absurd (cc)

settled_so : (m : Replied) (r : Reply) (k : CallSoFar) (p : Past) → IsReplied m r k → settled m k.id p ≡ replied_to r k p
settled_so (Named process fd d) (reply.Opened n) k p h = sym (replied_named n k p (record { process = process; fd = fd; names = d }) h.0 h.2)
settled_so (Named process fd d) _ k p h = absurd (cc h.0)
settled_so (Again process fd d) (reply.Data bytes) k p h = sym (replied_again bytes k p process fd d h.0 h.3)
settled_so (Again process fd d) (reply.Opened n) k p h = none_more (λ (o : Descriptor). record { process = k.process; fd = n; names = o }) (list_of k.granted) d h.1 h.3
settled_so (Again process fd d) _ k p h = absurd (cc h.3)
settled_so (Lost home f) (reply.No why) k p h = ap (λ o. settled (Lost o f) k.id p) h.2 ∙ sym (replied_lost why k p f h.1)
settled_so (Lost home f) _ k p h = absurd (cc h.1)
settled_so Plain r k p h = sym (replied_plain r k p h.0 h.2 h.1)

pub replied_one : (m : Replied) (id : CallId) (r : Reply) (p : Past) → length (filter (is_id id) p.calls) ≤ 1 → IsReplyTo p.calls id r m → settled m id p ≡ replied_all id r p
replied_one m id r p few h = ap (λ d. settled m d p) (sym (call_eq h.call.id id (found_passes (is_id id) p.calls h.call h.found))) ∙ (settled_so m r h.call p h.parts ∙ sym (rw (only_one (is_id id) p.calls h.call few h.found) refl))

pub replied_none : (id : CallId) (r : Reply) (p : Past) → find (is_id id) p.calls ≡ None → p ≡ replied_all id r p
replied_none id r p lost = rw (find_filter (is_id id) p.calls lost) refl
