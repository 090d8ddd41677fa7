-- The parts of every handler, for the laws of joins and of promised ids.
use Rattle.std.proofs.Common.{◌≡◌, ℕ, ◌≤◌, nat_lt, true, List, [], ◌∷◌, ◌++◌, refl, sym, ◌∙◌, subst, ◌⊎◌, inl, inr, arith}
use Rattle.std.proofs.lemmas.Bool.Decides.{nat_tests}
use Rattle.locus_ids.specs.declared.ids.EpochId.{EpochId}
use Rattle.locus_ids.specs.declared.sites.Members.{Members}
use Rattle.role_steps.specs.of_trace_book.declared.record.Record.{Record}
use Rattle.role_steps.specs.of_trace_book.declared.record.Record.TheVariants as says
use Rattle.role_steps.specs.of_wire_messages.declared.packet.Packet.{Packet}
use Rattle.role_steps.specs.of_wire_messages.declared.body.Body.{Body}
use Rattle.role_steps.specs.of_wire_messages.declared.body.Body.TheVariants as body
use Rattle.role_steps.specs.Epochs.{is_epoch_below}
use Rattle.role_steps.specs.Own.{Every}
use Rattle.role_steps.specs.Views.{SiteView, Told, Shown, Outcome, quiet, sends, joined_to, and_then, first_written}
use Rattle.role_steps.proofs.Sending.{every_append}
use Rattle.the_run.specs.Steps.{in_order}
use Rattle.the_run.specs.Joins.{Knowledge, IsJoin, IsJoinRecord, TellsJoin, Now, MayJoin, LawfulRecord, LawfulOne, And, LawfulTold, BodyFact, PacketFact, NoClaim, Unclaimed, NoJoinRecord, NoJoin, Still, TableOk, Plain, IsAtMost, RoundOk, ViewOk, At, Fine}
use Rattle.the_run.proofs.Boots.{every_weaker}
use Rattle.the_run.proofs.InsideSync.{no_first}
use Rattle.the_run.proofs.Rows.{order_sent}

-- ---- ids ----

pub same_at_most : (a : EpochId) → IsAtMost a a
same_at_most a = grind (arith, nat_tests)

pub below_at_most : (low a b : EpochId) → IsAtMost low a → is_epoch_below a b ≡ true → IsAtMost low b
below_at_most low a b h g = grind (arith, nat_tests)

pub higher_at_most : (low a b : EpochId) → IsAtMost low a → nat_lt a.number b.number ≡ true → IsAtMost low b
higher_at_most low a b h g = grind (arith, nat_tests)

-- ---- what is told, in two ways ----

left : (s : ℕ) (id : EpochId) (m : Members) (a b : List Told) → TellsJoin s id m a → TellsJoin s id m (a ++ b)
left s id m [] b h = absurd h
left s id m (x ∷ xs) b (inl h) = inl h
left s id m (x ∷ xs) b (inr h) = inr (left s id m xs b h)

right : (s : ℕ) (id : EpochId) (m : Members) (a b : List Told) → TellsJoin s id m b → TellsJoin s id m (a ++ b)
right s id m [] b h = h
right s id m (x ∷ xs) b h = inr (right s id m xs b h)

either : (s : ℕ) (id : EpochId) (m : Members) (a b : List Told) → TellsJoin s id m (a ++ b) → TellsJoin s id m a ⊎ TellsJoin s id m b
either s id m [] b h = inr h
either s id m (x ∷ xs) b (inl h) = inl (inl h)
either s id m (x ∷ xs) b (inr h) = pick (either s id m xs b h)
  where
    pick : TellsJoin s id m xs ⊎ TellsJoin s id m b → TellsJoin s id m (x ∷ xs) ⊎ TellsJoin s id m b
    pick (inl g) = inl (inr g)
    pick (inr g) = inr g

now_first : (J : Knowledge) (a b : List Told) (s : ℕ) (id : EpochId) (m : Members) → Now J a s id m → Now J (a ++ b) s id m
now_first J a b s id m (inl h) = inl h
now_first J a b s id m (inr h) = inr (left s id m a b h)

now_both : (J : Knowledge) (a b : List Told) (s : ℕ) (id : EpochId) (m : Members) → Now (Now J a) b s id m → Now J (a ++ b) s id m
now_both J a b s id m (inl h) = now_first J a b s id m h
now_both J a b s id m (inr h) = inr (right s id m a b h)

now_split : (J : Knowledge) (a b : List Told) (s : ℕ) (id : EpochId) (m : Members) → Now J (a ++ b) s id m → Now (Now J a) b s id m
now_split J a b s id m (inl h) = inl (inl h)
now_split J a b s id m (inr h) = pick (either s id m a b h)
  where
    pick : TellsJoin s id m a ⊎ TellsJoin s id m b → Now (Now J a) b s id m
    pick (inl g) = inl (inr g)
    pick (inr g) = inr g

-- ---- facts along equal knowledge ----

-- whatever is known in the one way is known in the other
abbrev pub Leads : Knowledge → Knowledge → Type 0
Leads J L = (s : ℕ) (id : EpochId) (m : Members) → J s id m → L s id m

pub fact_weaker : (J L : Knowledge) → Leads J L → (id : EpochId) (b : Body) → BodyFact J id b → BodyFact L id b
fact_weaker J L f id (body.Install m) h = f id.site id m h
fact_weaker J L f id (body.Refuse theirs) h = h
fact_weaker J L f id _ h = tt

pub packets_weaker : (J L : Knowledge) → Leads J L → (ps : List Packet) → Every (PacketFact J) ps → Every (PacketFact L) ps
packets_weaker J L f ps h = every_weaker (PacketFact J) (PacketFact L) ps (λ p. fact_weaker J L f p.epoch p.body) h

pub view_same : (J L : Knowledge) (s : ℕ) (v : SiteView) → Leads J L → ((id : EpochId) (m : Members) → L s id m → J s id m) → ViewOk J s v → ViewOk L s v
view_same J L s v f g h = record {
  round_ok = λ r e. let k : RoundOk J s v.boot v.promised r.id = h.round_ok r e in record { id_is = k.id_is; site_is = k.site_is; boot_is = k.boot_is; fresh = λ m j. k.fresh m (g r.id m j) };
  risen = λ id m j. h.risen id m (g id m j);
  epoch_ok = λ e k. f e.id.site e.id e.members (h.epoch_ok e k);
  epoch_is = h.epoch_is;
  tables_ok = h.tables_ok;
}

pub at_same : (J L : Knowledge) (s boot : ℕ) (low : EpochId) (v : SiteView) → Leads J L → Leads L J → At J s boot low v → At L s boot low v
at_same J L s boot low v f g h = record { boot_is = h.boot_is; rises = h.rises; view = view_same J L s v f (g s) h.view }

may_same : (J L : Knowledge) (s boot : ℕ) (id : EpochId) (m : Members) → Leads J L → Leads L J → MayJoin J s boot id m → MayJoin L s boot id m
may_same J L s boot id m f g (inl h) = inl (f id.site id m h)
may_same J L s boot id m f g (inr h) = inr (h.0, h.1, λ n j. h.2 n (g s id n j))

record_same : (J L : Knowledge) (s boot : ℕ) (r : Record) → Leads J L → Leads L J → LawfulRecord J s boot r → LawfulRecord L s boot r
record_same J L s boot (says.Join t id m) f g h = (h.0, may_same J L s boot id m f g h.1)
record_same J L s boot _ f g h = tt

one_same : (J L : Knowledge) (s boot : ℕ) (x : Told) → Leads J L → Leads L J → LawfulOne J s boot x → LawfulOne L s boot x
one_same J L s boot (Shown r) f g h = record_same J L s boot r f g h
one_same J L s boot _ f g h = tt

and_same : (J L : Knowledge) (x : Told) → Leads J L → Leads (And J x) (And L x)
and_same J L x f t i n (inl h) = inl (f t i n h)
and_same J L x f t i n (inr h) = inr h

lawful_same : (J L : Knowledge) (s boot : ℕ) (xs : List Told) → Leads J L → Leads L J → LawfulTold J s boot xs → LawfulTold L s boot xs
lawful_same J L s boot [] f g h = tt
lawful_same J L s boot (x ∷ xs) f g h = (one_same J L s boot x f g h.0, lawful_same (And J x) (And L x) s boot xs (and_same J L x f) (and_same L J x g) h.1)

lawful_append : (J : Knowledge) (s boot : ℕ) (a b : List Told) → LawfulTold J s boot a → LawfulTold (Now J a) s boot b → LawfulTold J s boot (a ++ b)
lawful_append J s boot [] b h g = lawful_same (Now J []) J s boot b back (λ t i n. inl) g
  where
    back : Leads (Now J []) J
    back t i n (inl k) = k
    back t i n (inr k) = absurd k
lawful_append J s boot (x ∷ xs) b h g = (h.0, lawful_append (And J x) s boot xs b h.1 (lawful_same (Now J (x ∷ xs)) (Now (And J x) xs) s boot b there back g))
  where
    there : Leads (Now J (x ∷ xs)) (Now (And J x) xs)
    there t i n (inl k) = inl (inl k)
    there t i n (inr (inl k)) = inl (inr k)
    there t i n (inr (inr k)) = inr k

    back : Leads (Now (And J x) xs) (Now J (x ∷ xs))
    back t i n (inl (inl k)) = inl k
    back t i n (inl (inr k)) = inr (inl k)
    back t i n (inr k) = inr (inr k)

-- ---- where nothing is joined ----

no_record : (s : ℕ) (id : EpochId) (m : Members) (r : Record) → NoJoinRecord r → IsJoinRecord s id m r → ⊥
no_record s id m (says.Join t i n) h g = h
no_record s id m _ h g = absurd g

no_one : (s : ℕ) (id : EpochId) (m : Members) (x : Told) → NoJoin x → IsJoin s id m x → ⊥
no_one s id m (Shown r) h g = no_record s id m r h g
no_one s id m _ h g = absurd g

no_tells : (s : ℕ) (id : EpochId) (m : Members) (xs : List Told) → Every NoJoin xs → TellsJoin s id m xs → ⊥
no_tells s id m [] h g = g
no_tells s id m (x ∷ xs) h (inl g) = no_one s id m x h.0 g
no_tells s id m (x ∷ xs) h (inr g) = no_tells s id m xs h.1 g

pub now_old : (J : Knowledge) (told : List Told) → Every NoJoin told → Leads (Now J told) J
now_old J told h s id m (inl g) = g
now_old J told h s id m (inr g) = absurd (no_tells s id m told h g)

pub old_now : (J : Knowledge) (told : List Told) → Leads J (Now J told)
old_now J told s id m g = inl g

lawful_record : (J : Knowledge) (s boot : ℕ) (r : Record) → NoJoinRecord r → LawfulRecord J s boot r
lawful_record J s boot (says.Join t i n) h = absurd h
lawful_record J s boot _ h = tt

lawful_one : (J : Knowledge) (s boot : ℕ) (x : Told) → NoJoin x → LawfulOne J s boot x
lawful_one J s boot (Shown r) h = lawful_record J s boot r h
lawful_one J s boot _ h = tt

pub lawful_none : (J : Knowledge) (s boot : ℕ) (xs : List Told) → Every NoJoin xs → LawfulTold J s boot xs
lawful_none J s boot [] h = tt
lawful_none J s boot (x ∷ xs) h = (lawful_one J s boot x h.0, lawful_none (And J x) s boot xs h.1)

pub no_claim : (J : Knowledge) (id : EpochId) (b : Body) → NoClaim b → BodyFact J id b
no_claim J id (body.Install m) h = absurd h
no_claim J id (body.Refuse theirs) h = absurd h
no_claim J id _ h = tt

pub unclaimed_facts : (J : Knowledge) (ps : List Packet) → Every Unclaimed ps → Every (PacketFact J) ps
unclaimed_facts J ps h = every_weaker Unclaimed (PacketFact J) ps (λ p. no_claim J p.epoch p.body) h

-- ---- outcomes ----

pub joined_fine : (J : Knowledge) (s boot : ℕ) (low : EpochId) (o p : Outcome SiteView) → Fine J s boot low o → Fine (Now J o.told) s boot low p → Fine J s boot low (joined_to o p)
joined_fine J s boot low o p h g = record {
  now = at_same (Now (Now J o.told) p.told) (Now J (o.told ++ p.told)) s boot low p.view (now_both J o.told p.told) (now_split J o.told p.told) g.now;
  law = lawful_append J s boot o.told p.told h.law g.law;
  sent = every_append (PacketFact (Now J (o.told ++ p.told))) o.sent p.sent
      (packets_weaker (Now J o.told) (Now J (o.told ++ p.told)) (now_first J o.told p.told) o.sent h.sent)
      (packets_weaker (Now (Now J o.told) p.told) (Now J (o.told ++ p.told)) (now_both J o.told p.told) p.sent g.sent);
  written = no_first o.written p.written h.written g.written;
}

pub then_fine : (J : Knowledge) (s boot : ℕ) (low : EpochId) (o : Outcome SiteView) (f : SiteView → Outcome SiteView) → Fine J s boot low o → (At (Now J o.told) s boot low o.view → Fine (Now J o.told) s boot low (f o.view)) → Fine J s boot low (and_then o f)
then_fine J s boot low o f h g = joined_fine J s boot low o (f o.view) h (g h.now)

-- packets that carry their fact, and nothing else
pub sends_fine : (J : Knowledge) (s boot : ℕ) (low : EpochId) (ps : List Packet) (v : SiteView) → At J s boot low v → Every (PacketFact J) ps → Fine J s boot low (sends ps v)
sends_fine J s boot low ps v h e = record {
  now = at_same J (Now J []) s boot low v (old_now J []) (now_old J [] tt) h;
  law = tt;
  sent = packets_weaker J (Now J []) (old_now J []) ps e;
  written = tt;
}

pub quiet_fine : (J : Knowledge) (s boot : ℕ) (low : EpochId) (v : SiteView) → At J s boot low v → Fine J s boot low (quiet v)
quiet_fine J s boot low v h = sends_fine J s boot low [] v h tt

-- ---- outcomes that leave what the laws speak of ----

pub plain_quiet : (v : SiteView) → Every TableOk v.tables → Plain v (quiet v)
plain_quiet v h = record { boot = refl; round = refl; promised = refl; epoch = refl; tables = h; still = (tt, tt, tt) }

pub plain_at : (J : Knowledge) (s boot : ℕ) (low : EpochId) (v : SiteView) (o : Outcome SiteView) → Plain v o → At J s boot low v → At J s boot low o.view
plain_at J s boot low v o p h = record {
  boot_is = p.boot ∙ h.boot_is;
  rises = subst (λ (i : EpochId). IsAtMost low i) (sym p.promised) h.rises;
  view = record {
    round_ok = λ r e. let k : RoundOk J s v.boot v.promised r.id = h.view.round_ok r (sym p.round ∙ e) in record { id_is = k.id_is ∙ sym p.promised; site_is = k.site_is; boot_is = k.boot_is ∙ sym p.boot; fresh = k.fresh };
    risen = λ id m j f g. subst (λ (i : EpochId). id.number ≤ i.number) (sym p.promised) (h.view.risen id m j f (g ∙ p.boot));
    epoch_ok = λ e k. h.view.epoch_ok e (sym p.epoch ∙ k);
    epoch_is = λ e k. h.view.epoch_is e (sym p.epoch ∙ k) ∙ sym p.promised;
    tables_ok = p.tables;
  };
}

pub plain_fine : (J : Knowledge) (s boot : ℕ) (low : EpochId) (v : SiteView) (o : Outcome SiteView) → At J s boot low v → Plain v o → Fine J s boot low o
plain_fine J s boot low v o h p = record {
  now = at_same J (Now J o.told) s boot low o.view (old_now J o.told) (now_old J o.told p.still.1) (plain_at J s boot low v o p h);
  law = lawful_none J s boot o.told p.still.1;
  sent = unclaimed_facts (Now J o.told) o.sent p.still.0;
  written = p.still.2;
}

-- an outcome with what a plain one told and sent before it
pub after_plain : (J : Knowledge) (s boot : ℕ) (low : EpochId) (a o : Outcome SiteView) → Still a → Fine J s boot low o →
    Fine J s boot low (record { view = o.view; sent = a.sent ++ in_order o.sent; told = a.told ++ o.told; written = first_written a.written o.written })
after_plain J s boot low a o p h = record {
  now = at_same (Now J o.told) (Now J (a.told ++ o.told)) s boot low o.view more less h.now;
  law = lawful_append J s boot a.told o.told (lawful_none J s boot a.told p.1) (lawful_same J (Now J a.told) s boot o.told (old_now J a.told) (now_old J a.told p.1) h.law);
  sent = every_append (PacketFact (Now J (a.told ++ o.told))) a.sent (in_order o.sent) (unclaimed_facts (Now J (a.told ++ o.told)) a.sent p.0)
      (order_sent (PacketFact (Now J (a.told ++ o.told))) o.sent (packets_weaker (Now J o.told) (Now J (a.told ++ o.told)) more o.sent h.sent));
  written = no_first a.written o.written p.2 h.written;
}
  where
    more : Leads (Now J o.told) (Now J (a.told ++ o.told))
    more t i n (inl k) = inl k
    more t i n (inr k) = inr (right t i n a.told o.told k)

    less : Leads (Now J (a.told ++ o.told)) (Now J o.told)
    less t i n (inl k) = inl k
    less t i n (inr k) = pick (either t i n a.told o.told k)
      where
        pick : TellsJoin t i n a.told ⊎ TellsJoin t i n o.told → Now J o.told t i n
        pick (inl g) = absurd (no_tells t i n a.told p.1 g)
        pick (inr g) = inr g
