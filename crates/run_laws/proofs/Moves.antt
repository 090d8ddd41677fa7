-- What is told, in parts, and the parts of every handler for the law of epochs and of what packets name.
use Rattle.std.proofs.Common.{◌≡◌, ℕ, ◌==◌, Bool, false, cond, List, [], ◌∷◌, ◌++◌, Option, Some, None, refl, sym, ◌∙◌, ap, subst, inl, inr}
use Rattle.the_run.proofs.of_plain_facts.Numbers.{equal_self}
use Rattle.locus_ids.specs.declared.ids.EpochId.{EpochId}
use Rattle.trace_book.specs.declared.record.Record.{Record}
use Rattle.trace_book.specs.declared.record.Record.TheVariants as says
use Rattle.wire_messages.specs.declared.packet.Packet.{Packet}
use Rattle.wire_messages.specs.declared.body.Body.{Body}
use Rattle.wire_messages.specs.declared.body.Body.TheVariants.{Poll, Promise, Refuse}
use Rattle.the_run.specs.of_role_steps.Own.{Every}
use Rattle.the_run.specs.of_role_steps.Views.{SiteView, Told, Shown, Promises, DiskWrite, Outcome, quiet, sends, joined_to, and_then, first_written}
use Rattle.the_run.specs.of_role_steps.declared.rounds.InEpoch.{InEpoch}
use Rattle.the_run.proofs.of_role_steps.Sending.{every_append}
use Rattle.the_run.specs.Joins.{NoClaim, Unclaimed, Plain}
use Rattle.the_run.specs.Steps.{in_order, epoch_id}
use Rattle.the_run.proofs.Boots.{every_weaker}
use Rattle.the_run.proofs.StepSends.{order_sent}
use Rattle.run_laws.specs.Words.{InsideRecord, Inside, Works, InsideWrite}
use Rattle.run_laws.specs.Standing.{Standing, after_record, after_told, standing_of, moves, OwnRecord, OwnMove, OwnMoves}
use Rattle.run_laws.specs.Naming.{Deed, Promised, Joined, Deeds, Names, Tells, Now, PacketNames, ViewOk, Fine, IsInEpoch, Inner}

-- ---- moves ----

pub own_case : (s : ℕ) (a b : Standing) → cond (s == s) a b ≡ a
own_case s a b = subst (λ (t : Bool). cond t a b ≡ a) (sym (equal_self s)) refl

pub moves_append : (s : ℕ) (a b : List Told) (now : Standing) → moves s (a ++ b) now ≡ moves s b (moves s a now)
moves_append s [] b now = refl
moves_append s (x ∷ xs) b now = moves_append s xs b (after_told s x now)

pub own_append : (s : ℕ) (now : Standing) (a b : List Told) → OwnMoves s now a → OwnMoves s (moves s a now) b → OwnMoves s now (a ++ b)
own_append s now [] b h g = g
own_append s now (x ∷ xs) b h g = (h.0, own_append s (after_told s x now) xs b h.1 g)

inside_record : (s : ℕ) (r : Record) (now : Standing) → InsideRecord r → after_record s r now ≡ now
inside_record s (says.Up t boot) now h = absurd h
inside_record s (says.Join t id members) now h = absurd h
inside_record s (says.Leave t id) now h = absurd h
inside_record s _ now h = refl

inside_told : (s : ℕ) (x : Told) (now : Standing) → Inside x → after_told s x now ≡ now
inside_told s (Shown r) now h = inside_record s r now h
inside_told s (Promises t id reach) now h = absurd h
inside_told s _ now h = refl

pub inside_moves : (s : ℕ) (xs : List Told) (now : Standing) → Every Inside xs → moves s xs now ≡ now
inside_moves s [] now h = refl
inside_moves s (x ∷ xs) now h = ap (moves s xs) (inside_told s x now h.0) ∙ inside_moves s xs now h.1

own_record : (s : ℕ) (now : Standing) (r : Record) → InsideRecord r → OwnRecord s now r
own_record s now (says.Up t boot) h = absurd h
own_record s now (says.Join t id members) h = absurd h
own_record s now (says.Leave t id) h = absurd h
own_record s now _ h = tt

own_told : (s : ℕ) (now : Standing) (x : Told) → Inside x → OwnMove s now x
own_told s now (Shown r) h = own_record s now r h
own_told s now (Promises t id reach) h = absurd h
own_told s now _ h = tt

pub inside_own : (s : ℕ) (now : Standing) (xs : List Told) → Every Inside xs → OwnMoves s now xs
inside_own s now [] h = tt
inside_own s now (x ∷ xs) h = (own_told s now x h.0, inside_own s (after_told s x now) xs h.1)

-- ---- what is known ----

left : (d : Deed) (s : ℕ) (id : EpochId) (a b : List Told) → Tells d s id a → Tells d s id (a ++ b)
left d s id [] b h = absurd h
left d s id (x ∷ xs) b (inl h) = inl h
left d s id (x ∷ xs) b (inr h) = inr (left d s id xs b h)

right : (d : Deed) (s : ℕ) (id : EpochId) (a b : List Told) → Tells d s id b → Tells d s id (a ++ b)
right d s id [] b h = h
right d s id (x ∷ xs) b h = inr (right d s id xs b h)

-- whatever is known in the one way is known in the other
abbrev pub Leads : Deeds → Deeds → Type 0
Leads K L = (d : Deed) (id : EpochId) → K d id → L d id

pub now_old : (K : Deeds) (s : ℕ) (told : List Told) → Leads K (Now K s told)
now_old K s told d id h = inl h

pub now_first : (K : Deeds) (s : ℕ) (a b : List Told) → Leads (Now K s a) (Now K s (a ++ b))
now_first K s a b d id (inl h) = inl h
now_first K s a b d id (inr h) = inr (left d s id a b h)

pub now_last : (K : Deeds) (s : ℕ) (a b : List Told) → Leads (Now K s b) (Now K s (a ++ b))
now_last K s a b d id (inl h) = inl h
now_last K s a b d id (inr h) = inr (right d s id a b h)

pub now_both : (K : Deeds) (s : ℕ) (a b : List Told) → Leads (Now (Now K s a) s b) (Now K s (a ++ b))
now_both K s a b d id (inl h) = now_first K s a b d id h
now_both K s a b d id (inr h) = inr (right d s id a b h)

pub names_weaker : (K L : Deeds) → Leads K L → (id : EpochId) (b : Body) → Names K id b → Names L id b
names_weaker K L f id Poll h = f Promised id h
names_weaker K L f id (Promise reach) h = f Promised id h
names_weaker K L f id (Refuse theirs) h = h
names_weaker K L f id _ h = f Joined id h

pub packets_weaker : (K L : Deeds) → Leads K L → (ps : List Packet) → Every (PacketNames K) ps → Every (PacketNames L) ps
packets_weaker K L f ps h = every_weaker (PacketNames K) (PacketNames L) ps (λ p. names_weaker K L f p.epoch p.body) h

pub view_leads : (K L : Deeds) (v : SiteView) → Leads K L → ViewOk K v → ViewOk L v
view_leads K L v f h = record {
  round_is = h.round_is;
  waits = λ e. (let k : (v.epoch ≡ None) × K Promised v.promised = h.waits e in (k.0, f Promised v.promised k.1));
  joined = λ e here. (let k : K Joined e.id × K Promised e.id = h.joined e here in (f Joined e.id k.0, f Promised e.id k.1));
  tables = h.tables;
}

-- ---- outcomes ----

write_then : (a b : Option DiskWrite) → InsideWrite a → InsideWrite b → InsideWrite (first_written a b)
write_then None b h g = g
write_then (Some d) b h g = h

-- one thing, and then another from a view that stands as the first one left it
pub joined_fine : (K : Deeds) (s : ℕ) (v u : SiteView) (o p : Outcome SiteView) → Fine K s v o → standing_of u ≡ standing_of o.view → u.boot ≡ o.view.boot → Fine (Now K s o.told) s u p → Fine K s v (joined_to o p)
joined_fine K s v u o p h stands boot g = record {
  boot = g.boot ∙ (boot ∙ h.boot);
  view = view_leads (Now (Now K s o.told) s p.told) (Now K s (o.told ++ p.told)) p.view (now_both K s o.told p.told) g.view;
  stands = moves_append s o.told p.told (standing_of v) ∙ (ap (moves s p.told) between ∙ g.stands);
  law = own_append s (standing_of v) o.told p.told h.law (subst (λ (now : Standing). OwnMoves s now p.told) (sym between) g.law);
  sent = every_append (PacketNames (Now K s (o.told ++ p.told))) o.sent p.sent
      (packets_weaker (Now K s o.told) (Now K s (o.told ++ p.told)) (now_first K s o.told p.told) o.sent h.sent)
      (packets_weaker (Now (Now K s o.told) s p.told) (Now K s (o.told ++ p.told)) (now_both K s o.told p.told) p.sent g.sent);
  written = write_then o.written p.written h.written g.written;
}
  where
    between : moves s o.told (standing_of v) ≡ standing_of u
    between = h.stands ∙ sym stands

pub then_fine : (K : Deeds) (s : ℕ) (v : SiteView) (o : Outcome SiteView) (f : SiteView → Outcome SiteView) → Fine K s v o → (ViewOk (Now K s o.told) o.view → Fine (Now K s o.told) s o.view (f o.view)) → Fine K s v (and_then o f)
then_fine K s v o f h g = joined_fine K s v o.view o (f o.view) h refl refl (g h.view)

-- packets that name their epoch, and a view that stands as before
pub sends_fine : (K : Deeds) (s : ℕ) (ps : List Packet) (v u : SiteView) → standing_of u ≡ standing_of v → u.boot ≡ v.boot → ViewOk K u → Every (PacketNames K) ps → Fine K s v (sends ps u)
sends_fine K s ps v u stands boot h e = record {
  boot = boot;
  view = view_leads K (Now K s []) u (now_old K s []) h;
  stands = sym stands;
  law = tt;
  sent = packets_weaker K (Now K s []) (now_old K s []) ps e;
  written = tt;
}

pub quiet_fine : (K : Deeds) (s : ℕ) (v : SiteView) → ViewOk K v → Fine K s v (quiet v)
quiet_fine K s v h = sends_fine K s [] v v refl refl h tt

-- ---- what a site does inside its epoch ----

pub standing_same : (a b : SiteView) → a.promised ≡ b.promised → a.installed ≡ b.installed → a.epoch ≡ b.epoch → standing_of a ≡ standing_of b
standing_same a b e f g = λ i. record { promised = e i; installed = f i; epoch = epoch_id (g i) }

pub inner_stands : (v : SiteView) (o : Outcome SiteView) → Plain v o → Inner v o → standing_of o.view ≡ standing_of v
inner_stands v o p i = standing_same o.view v p.promised i.installed p.epoch

pub inner_view : (K : Deeds) (v : SiteView) (o : Outcome SiteView) → Plain v o → Inner v o → ViewOk K v → ViewOk K o.view
inner_view K v o p i h = record {
  round_is = λ r e. (let k : (r.id ≡ v.promised) × (v.installed ≡ false) = h.round_is r (sym p.round ∙ e) in (k.0 ∙ sym p.promised, i.installed ∙ k.1));
  waits = λ e. (let k : (v.epoch ≡ None) × K Promised v.promised = h.waits (sym i.installed ∙ e) in (p.epoch ∙ k.0, subst (λ (id : EpochId). K Promised id) (sym p.promised) k.1));
  joined = λ e here. h.joined e (sym p.epoch ∙ here);
  tables = p.tables;
}

pub names_of : (K : Deeds) (id : EpochId) (b : Body) → NoClaim b → K Joined id → K Promised id → Names K id b
names_of K id Poll c j p = p
names_of K id (Promise reach) c j p = p
names_of K id (Refuse theirs) c j p = absurd c
names_of K id _ c j p = j

in_epoch : (K : Deeds) (v : SiteView) (e : Option InEpoch) → v.epoch ≡ e → ViewOk K v → (p : Packet) → IsInEpoch e p → NoClaim p.body → PacketNames K p
in_epoch K v None here h p k c = absurd k
in_epoch K v (Some e) here h p k c =
    let j : K Joined e.id × K Promised e.id = h.joined e here in
    subst (λ (id : EpochId). Names K id p.body) (sym k) (names_of K e.id p.body c j.0 j.1)

every_both : {A : Type 0} (P Q R : A → Type 0) (xs : List A) → ((x : A) → P x → Q x → R x) → Every P xs → Every Q xs → Every R xs
every_both P Q R [] f h g = tt
every_both P Q R (x ∷ xs) f h g = (f x h.0 g.0, every_both P Q R xs f h.1 g.1)

pub epoch_names : (K : Deeds) (v : SiteView) (ps : List Packet) → ViewOk K v → Every (IsInEpoch v.epoch) ps → Every Unclaimed ps → Every (PacketNames K) ps
epoch_names K v ps h e c = every_both (IsInEpoch v.epoch) Unclaimed (PacketNames K) ps (in_epoch K v v.epoch refl h) e c

pub inner_names : (K : Deeds) (v : SiteView) (o : Outcome SiteView) → Plain v o → Inner v o → ViewOk K v → Every (PacketNames K) o.sent
inner_names K v o p i h = epoch_names K v o.sent h i.sent p.still.0

pub inner_fine : (K : Deeds) (s : ℕ) (v : SiteView) (o : Outcome SiteView) → Plain v o → Inner v o → ViewOk K v → Fine K s v o
inner_fine K s v o p i h = record {
  boot = p.boot;
  view = view_leads K (Now K s o.told) o.view (now_old K s o.told) (inner_view K v o p i h);
  stands = inside_moves s o.told (standing_of v) i.works.0 ∙ sym (inner_stands v o p i);
  law = inside_own s (standing_of v) o.told i.works.0;
  sent = packets_weaker K (Now K s o.told) (now_old K s o.told) o.sent (inner_names K v o p i h);
  written = i.works.1;
}

-- an outcome with what one inside the epoch told and sent before it, all other packets in their order
pub after_inner : (K : Deeds) (s : ℕ) (v : SiteView) (a o : Outcome SiteView) → Works a → Every (PacketNames (Now K s o.told)) a.sent → Fine K s v o →
    Fine K s v (record { view = o.view; sent = a.sent ++ in_order o.sent; told = a.told ++ o.told; written = first_written a.written o.written })
after_inner K s v a o w names h = record {
  boot = h.boot;
  view = view_leads (Now K s o.told) (Now K s (a.told ++ o.told)) o.view (now_last K s a.told o.told) h.view;
  stands = moves_append s a.told o.told (standing_of v) ∙ (ap (moves s o.told) still ∙ h.stands);
  law = own_append s (standing_of v) a.told o.told (inside_own s (standing_of v) a.told w.0) (subst (λ (now : Standing). OwnMoves s now o.told) (sym still) h.law);
  sent = every_append (PacketNames (Now K s (a.told ++ o.told))) a.sent (in_order o.sent)
      (packets_weaker (Now K s o.told) (Now K s (a.told ++ o.told)) (now_last K s a.told o.told) a.sent names)
      (order_sent (PacketNames (Now K s (a.told ++ o.told))) o.sent (packets_weaker (Now K s o.told) (Now K s (a.told ++ o.told)) (now_last K s a.told o.told) o.sent h.sent));
  written = write_then a.written o.written w.1 h.written;
}
  where
    still : moves s a.told (standing_of v) ≡ standing_of v
    still = inside_moves s a.told (standing_of v) w.0
