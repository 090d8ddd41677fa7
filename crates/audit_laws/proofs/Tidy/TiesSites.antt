-- Sites find what they refer to, by each record that may follow.
use Rattle.std.proofs.Common.{◌≡◌, ℕ, ◌==◌, ◌&&◌, ◌||◌, not, Bool, true, false, cond, List, [], ◌∷◌, ◌++◌, map, Option, Some, None, refl, sym, ap, subst}
use Rattle.std.specs.List.{list_any, list_all, AllByRecursion}
use Rattle.locus_ids.specs.declared.config.Config.{Config}
use Rattle.locus_ids.specs.declared.ids.CallId.{CallId}
use Rattle.locus_ids.specs.declared.ids.EpochId.{EpochId}
use Rattle.locus_ids.specs.declared.ids.Serial.{Serial}
use Rattle.commit_graph.specs.Vectors.{numbers_from}
use Rattle.trace_book.specs.Same.{same_call}
use Rattle.trace_book.specs.declared.descriptor.Descriptor.{Descriptor}
use Rattle.trace_book.specs.declared.call.Call.{Call}
use Rattle.trace_book.specs.declared.call.Call.TheVariants as call
use Rattle.trace_book.specs.declared.reply.Reply.{Reply}
use Rattle.trace_book.specs.declared.reply.Reply.TheVariants as reply
use Rattle.trace_book.specs.declared.record.Record.{Record}
use Rattle.trace_book.specs.declared.record.Record.TheVariants as rec
use Rattle.tree_model.specs.declared.instance.Granted.{Granted}
use Rattle.tree_model.specs.Epochs.{is_in}
use Rattle.tree_model.specs.Working.{list_of}
use Rattle.promises.specs.Past.{Past, Site, Epoch, CallSoFar, Instance, Named, first_site, no_site, nothing_yet, site_at, is_named}
use Rattle.promises.specs.After.{after, change, is_epoch, is_id, is_freed, held_again, held_by, is_read_by, is_reading, named_by, once_named, taken_by, left_unmended, with_epoch, with_all_known}
use Rattle.promises.specs.Rows.{may_follow}
use Rattle.plain_facts.proofs.Tests.{and_true, or_first, or_second}
use Rattle.past_laws.proofs.Names.{none_some, some_same, number_own, epoch_eq, epoch_test, false_true}
use Rattle.past_laws.proofs.CallsLists.{each_more, each_filter, each_found}
use Rattle.audit_laws.proofs.Tidy.Epochs.{once_is_named}
use Rattle.audit_laws.proofs.Tidy.Naming.{takes_there}
use Rattle.audit_laws.specs.Tidy.Epochs.{is_grant}
use Rattle.audit_laws.specs.Tidy.Ties.{has_epoch, has_member, has_granted, has_named, is_named_there, SiteTied, CallTied, TiesStand}
use Rattle.audit_laws.specs.Tidy.Tidy.{IsTidy}
use Rattle.audit_laws.proofs.Tidy.Lists.{each_first}
use Rattle.audit_laws.proofs.Tidy.Each.{SiteSteps, sites_each}
use Rattle.audit_laws.proofs.Tidy.Later.{EpochsLater, later_next}
use Rattle.audit_laws.proofs.Tidy.TiesParts.{member_lasts, named_lasts, changed_has, with_there}

-- the epochs grow
pub site_later : (old new : List Epoch) → EpochsLater old new → (s : Site) → SiteTied old s → SiteTied new s
site_later old new later s k = record {
  inside = λ e h. later (has_member s.number) (member_lasts s.number) e (k.inside e h);
  names = each_more (λ (d : Named). has_epoch (has_named d.names.inst) d.names.epoch old ≡ true) (λ (d : Named). has_epoch (has_named d.names.inst) d.names.epoch new ≡ true) (λ d h. later (has_named d.names.inst) (named_lasts d.names.inst) d.names.epoch h) s.descriptors k.names;
}

pub site_tied : (p : Past) → TiesStand p → (site : ℕ) → SiteTied p.epochs (site_at p site)
site_tied p ties site = each_first (SiteTied p.epochs) no_site (λ (s : Site). s.number == site) p.sites (record { inside = λ e h. none_some e h; names = tt }) ties.sites

-- ---- a reply names what it opened ----

each_joined : {X : Type 0} (P : X → Type 0) (xs ys : List X) → AllByRecursion P xs → AllByRecursion P ys → AllByRecursion P (xs ++ ys)
each_joined P [] ys h k = k
each_joined P (x ∷ xs) ys h k = (h.0, each_joined P xs ys h.1 k)

-- the epoch as a reply leaves it
abbrev answered_epoch : Reply → CallSoFar → Epoch → Epoch
answered_epoch r k t = record t { opened = change (takes_there (named_by r k) t) (once_named r) t.opened; unmended = cond (is_in k.epoch t.id) (left_unmended r k.words) [] ++ t.unmended }

-- an instance that was granted is named, once a descriptor is one of it
names_it : (r : Reply) (d : Descriptor) (t : Epoch) → is_epoch d.epoch t ≡ true → (xs : List Instance) → list_all (is_named_there d.inst) (change (takes_there (d ∷ []) t) (once_named r) xs) ≡ true
names_it r d t e [] = refl
names_it r d t e (x ∷ xs) = and_true _ (list_all (is_named_there d.inst) (change (takes_there (d ∷ []) t) (once_named r) xs)) (at (is_named d.inst x) refl) (names_it r d t e xs)
  where
    own : is_in (Some d.epoch) t.id ≡ true
    own = epoch_test d.epoch t.id (sym (epoch_eq t.id d.epoch e))

    named : is_named_there d.inst (once_named r x) ≡ true
    named = or_second (not (is_named d.inst (once_named r x))) (once_named r x).named (once_is_named r x)

    at : (b : Bool) → is_named d.inst x ≡ b → is_named_there d.inst (cond (takes_there (d ∷ []) t x) (once_named r x) x) ≡ true
    at true h = rw (own, h) named
    at false h = kept (takes_there (d ∷ []) t x)
      where
        kept : (b : Bool) → is_named_there d.inst (cond b (once_named r x) x) ≡ true
        kept true = named
        kept false = rw h refl

has_granted_grant : (i : Serial) (id : CallId) (gs : List Granted) → list_any (λ (g : Granted). is_grant i g && same_call g.call id) gs ≡ true → list_any (is_grant i) gs ≡ true
has_granted_grant i id [] h = h
has_granted_grant i id (g ∷ gs) h = at (has_granted_grant i id gs) (is_grant i g) (same_call g.call id) h
  where
    at : (list_any (λ (x : Granted). is_grant i x && same_call x.call id) gs ≡ true → list_any (is_grant i) gs ≡ true) → (a b : Bool) → ((a && b) || list_any (λ (x : Granted). is_grant i x && same_call x.call id) gs) ≡ true → (a || list_any (is_grant i) gs) ≡ true
    at later true b k = refl
    at later false b k = later k

-- it is so in the epoch that is left by the reply
opened_named : (r : Reply) (k : CallSoFar) (d : Descriptor) (id : CallId) → named_by r k ≡ d ∷ [] → (epochs : List Epoch) → has_epoch (has_granted d.inst id) d.epoch epochs ≡ true → has_epoch (has_named d.inst) d.epoch (change (λ t. true) (answered_epoch r k) epochs) ≡ true
opened_named r k d id is [] h = h
opened_named r k d id is (t ∷ ts) h = at (opened_named r k d id is ts) (is_epoch d.epoch t) (has_granted d.inst id t) refl refl h
  where
    rest : Bool
    rest = has_epoch (has_named d.inst) d.epoch (change (λ u. true) (answered_epoch r k) ts)

    at : (has_epoch (has_granted d.inst id) d.epoch ts ≡ true → has_epoch (has_named d.inst) d.epoch (change (λ u. true) (answered_epoch r k) ts) ≡ true) → (a b : Bool) → is_epoch d.epoch t ≡ a → has_granted d.inst id t ≡ b
        → ((a && b) || has_epoch (has_granted d.inst id) d.epoch ts) ≡ true → has_epoch (has_named d.inst) d.epoch (change (λ u. true) (answered_epoch r k) (t ∷ ts)) ≡ true
    at later true true e g j = or_first _ rest (and_true (is_epoch d.epoch t) (has_named d.inst (answered_epoch r k t)) e (and_true (list_any (is_grant d.inst) t.granted) (list_all (is_named_there d.inst) (answered_epoch r k t).opened) (has_granted_grant d.inst id t.granted g)
        (subst (λ (ds : List Descriptor). list_all (is_named_there d.inst) (change (takes_there ds t) (once_named r) t.opened) ≡ true) (sym is) (names_it r d t e t.opened))))
    at later true false e g j = or_second _ rest (later j)
    at later false b e g j = or_second _ rest (later j)

-- what a reply takes
taken_names : (epochs : List Epoch) (r : Reply) (k : CallSoFar) → CallTied epochs k → AllByRecursion (λ (d : Named). has_epoch (has_named d.names.inst) d.names.epoch (change (λ t. true) (answered_epoch r k) epochs) ≡ true) (taken_by r k)
taken_names epochs (reply.Opened fd) k tied = at k.granted refl
  where
    at : (o : Option Descriptor) → k.granted ≡ o → AllByRecursion (λ (d : Named). has_epoch (has_named d.names.inst) d.names.epoch (change (λ t. true) (answered_epoch (reply.Opened fd) k) epochs) ≡ true) (map (λ d. record { process = k.process; fd = fd; names = d }) (list_of o))
    at None g = tt
    at (Some d) g = (opened_named (reply.Opened fd) k d k.id (ap list_of g) epochs (tied.has_it d g), tt)
taken_names epochs r k tied = tt

-- and what a read makes held again
reads_so : (words : Call) (process : ℕ) (d : Named) → is_read_by words process d ≡ true → is_reading words ≡ true
reads_so (call.Read fd at len) process d h = refl
reads_so _ process d h = false_true h

abbrev NamesThere : List Epoch → Reply → CallSoFar → Named → Type 0
NamesThere epochs r k d = has_epoch (has_named d.names.inst) d.names.epoch (change (λ t. true) (answered_epoch r k) epochs) ≡ true

held_names : (epochs : List Epoch) (r : Reply) (k : CallSoFar) → CallTied epochs k → (ds : List Named) → AllByRecursion (NamesThere epochs r k) ds → AllByRecursion (NamesThere epochs r k) (held_again r k ds)
held_names epochs (reply.Data bytes) k tied ds h = each ds h
  where
    one : (d : Named) → NamesThere epochs (reply.Data bytes) k d → (b : Bool) → is_read_by k.words k.process d ≡ b → NamesThere epochs (reply.Data bytes) k (cond b (held_by k.granted d) d)
    one d n false e = n
    one d n true e = by k.granted refl
      where
        by : (o : Option Descriptor) → k.granted ≡ o → NamesThere epochs (reply.Data bytes) k (held_by o d)
        by None g = n
        by (Some opening) g = opened_named (reply.Data bytes) k opening k.id (rw (reads_so k.words k.process d e, g) refl) epochs (tied.has_it opening g)

    each : (xs : List Named) → AllByRecursion (NamesThere epochs (reply.Data bytes) k) xs → AllByRecursion (NamesThere epochs (reply.Data bytes) k) (change (is_read_by k.words k.process) (held_by k.granted) xs)
    each [] n = tt
    each (d ∷ rest) n = (one d n.0 (is_read_by k.words k.process d) refl, each rest n.1)
held_names epochs r k tied ds h = h

-- ---- the records ----

site_steps : (c : Config) (p : Past) (r : Record) → IsTidy c p → TiesStand p → may_follow c p r ≡ true → SiteSteps (SiteTied (after c r p).epochs) c p r
site_steps c p (rec.Up site boot) tidy ties may = λ s k. record { inside = k.inside; names = k.names }
site_steps c p (rec.Stopped site cause) tidy ties may = λ s k. record { inside = λ e h. none_some e h; names = tt }
site_steps c p (rec.Leave site e) tidy ties may = λ s k. record { inside = λ d h. none_some d h; names = k.names }
site_steps c p (rec.Join site e members) tidy ties may = λ s n k. record { inside = λ d h. subst (λ (x : EpochId). has_epoch (has_member s.number) x (after c (rec.Join site e members) p).epochs ≡ true) (some_same e d h) (here s n); names = k.names }
  where
    here : (s : Site) → s.number ≡ site → has_epoch (has_member s.number) e (after c (rec.Join site e members) p).epochs ≡ true
    here s n = changed_has (has_member s.number) e (λ (t : Epoch). record t { joined = site ∷ t.joined; known = with_all_known (site_at p site).held t.known }) (λ t. refl) (λ t. or_first (site == s.number) _ (subst (λ m. (site == m) ≡ true) (sym n) (number_own site))) (with_epoch e members p).epochs (with_there e members p)
site_steps c p (rec.Start e group copies) tidy ties may = tt
site_steps c p (rec.Accept site process id words) tidy ties may = λ s k. record { inside = k.inside; names = each_filter _ (λ d. not (is_freed words process d)) s.descriptors k.names }
site_steps c p (rec.Look e id request f w result) tidy ties may = tt
site_steps c p (rec.Grant e id request i m f stamp ss) tidy ties may = tt
site_steps c p (rec.Refuse e id request i m f why) tidy ties may = tt
site_steps c p (rec.Act e i n o result) tidy ties may = tt
site_steps c p (rec.Commit f site stamp parents content) tidy ties may = λ s vs k. record { inside = k.inside; names = k.names }
site_steps c p (rec.Release e i f stamp) tidy ties may = tt
site_steps c p (rec.Adopt f site stamp) tidy ties may = λ s vs k. record { inside = k.inside; names = k.names }
site_steps c p (rec.Answer site process id r) tidy ties may = λ it s k. record {
  inside = k.inside;
  names = each_joined (λ (d : Named). has_epoch (has_named d.names.inst) d.names.epoch (after c (rec.Answer site process id r) p).epochs ≡ true) (taken_by r it.call) (held_again r it.call s.descriptors)
      (subst (λ (q : Past). AllByRecursion (λ (d : Named). has_epoch (has_named d.names.inst) d.names.epoch q.epochs ≡ true) (taken_by r it.call)) (sym it.told) (taken_names p.epochs r it.call (each_found (CallTied p.epochs) (is_id id) p.calls it.call it.found ties.calls).0))
      (subst (λ (q : Past). AllByRecursion (λ (d : Named). has_epoch (has_named d.names.inst) d.names.epoch q.epochs ≡ true) (held_again r it.call s.descriptors)) (sym it.told) (held_names p.epochs r it.call (each_found (CallTied p.epochs) (is_id id) p.calls it.call it.found ties.calls).0 s.descriptors (subst (λ (q : Past). AllByRecursion (λ (d : Named). has_epoch (has_named d.names.inst) d.names.epoch q.epochs ≡ true) s.descriptors) it.told k.names)));
}
site_steps c p (rec.Packet number from to kind) tidy ties may = tt
site_steps c p rec.Void tidy ties may = tt
site_steps c p rec.Budget tidy ties may = tt

pub tied_sites : (c : Config) (p : Past) (r : Record) → IsTidy c p → TiesStand p → may_follow c p r ≡ true → AllByRecursion (SiteTied (after c r p).epochs) (after c r p).sites
tied_sites c p r tidy ties may = sites_each (SiteTied (after c r p).epochs) c p r tidy may (site_steps c p r tidy ties may)
    (each_more (SiteTied p.epochs) (SiteTied (after c r p).epochs) (site_later p.epochs (after c r p).epochs (later_next c p r tidy may)) p.sites ties.sites)

pub tied_sites_first : (c : Config) → AllByRecursion (SiteTied (nothing_yet c).epochs) (nothing_yet c).sites
tied_sites_first c = all (numbers_from 1 c.sites)
  where
    all : (ns : List ℕ) → AllByRecursion (SiteTied []) (map (first_site c) ns)
    all [] = tt
    all (n ∷ ns) = (record { inside = λ e h. none_some e h; names = tt }, all ns)
