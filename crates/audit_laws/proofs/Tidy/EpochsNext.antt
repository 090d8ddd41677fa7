-- Epochs stand by each record that may follow: the records one by one.
use Rattle.std.proofs.Common.{◌≡◌, ℕ, ◌+◌, ◌==◌, ◌&&◌, ◌≤◌, not, Bool, true, false, cond, [], ◌∷◌, ◌++◌, length, filter, map, Option, Some, refl, sym, ap, subst, ◌∙◌, arith}
use Rattle.std.specs.Prelude.{fold}
use Rattle.std.specs.List.{list_any}
use Rattle.locus_ids.specs.declared.config.Config.{Config}
use Rattle.locus_ids.specs.declared.sites.Members.{Members}
use Rattle.locus_ids.specs.declared.ids.CallId.{CallId}
use Rattle.locus_ids.specs.declared.ids.EpochId.{EpochId}
use Rattle.locus_ids.specs.declared.ids.FileId.{FileId}
use Rattle.locus_ids.specs.declared.ids.Mode.{Mode}
use Rattle.locus_ids.specs.declared.ids.Serial.{Serial}
use Rattle.locus_ids.specs.declared.ids.Stamp.{Stamp}
use Rattle.file_effects.specs.Works.{committed}
use Rattle.trace_book.specs.Same.{same_call}
use Rattle.trace_book.specs.declared.descriptor.Descriptor.{Descriptor}
use Rattle.trace_book.specs.declared.record.Record.{Record}
use Rattle.trace_book.specs.declared.record.Record.TheVariants as rec
use Rattle.tree_model.specs.declared.instance.Granted.{Granted}
use Rattle.tree_model.specs.Epochs.{is_in}
use Rattle.tree_model.specs.State.{is_make}
use Rattle.tree_model.specs.Working.{list_of}
use Rattle.promises.specs.Past.{Past, Epoch, CallSoFar, Instance, Make, Named, nothing_yet, site_at, epoch_at, unformed, is_named, is_number, is_writer, table}
use Rattle.promises.specs.After.{after, told_by, change, is_epoch, is_home_of, with_epoch, with_all_known, acted, begun_make, released, uses, begun_call, taken_by, left_unmended, opened_as, process_of, is_ender, named_by, once_named}
use Rattle.promises.specs.Tree.{work_after}
use Rattle.promises.specs.Rows.{may_follow, may_join, may_grant, is_synced}
use Rattle.call_rules.specs.Descriptors.{beginning}
use Rattle.plain_facts.proofs.Tests.{and_first, and_second, not_true}
use Rattle.past_laws.proofs.Names.{epoch_eq}
use Rattle.past_laws.proofs.TreesAt.{formed_with}
use Rattle.row_lists.proofs.ByPlace.{once_more}
use Rattle.audit_laws.specs.Tidy.Epochs.{EpochsStand, is_grant}
use Rattle.audit_laws.specs.Tidy.Tidy.{IsTidy}
use Rattle.audit_laws.proofs.Tidy.Sites.{site_stands}
use Rattle.audit_laws.proofs.Tidy.Answers.{AnswersOne, answers_one, closed_as}
use Rattle.audit_laws.proofs.Tidy.Epochs.{unformed_stands, epochs_moved, epoch_moved, instances_moved, others_moved, left_epoch, joined_epoch, granted_epoch, released_epoch, once_grant}

-- an epoch that is listed from its first join on
pub with_epoch_stands : (e : EpochId) (members : Members) (p : Past) → EpochsStand p.epochs → EpochsStand (with_epoch e members p).epochs
with_epoch_stands e members p st = at (list_any (is_epoch e) p.epochs) refl
  where
    new : Epoch
    new = record (unformed e) { members = members }

    once : list_any (is_epoch e) p.epochs ≡ false → (d : EpochId) (b : Bool) → is_epoch d new ≡ b → length (filter (is_epoch d) (new ∷ p.epochs)) ≤ 1
    once none d true h = once_more (is_epoch d) new p.epochs (subst (λ (x : EpochId). list_any (is_epoch x) p.epochs ≡ false) (epoch_eq e d h) none)
    once none d false h = rw h (st.once d)

    at : (b : Bool) → list_any (is_epoch e) p.epochs ≡ b → EpochsStand (cond b p (record p { epochs = new ∷ p.epochs })).epochs
    at true h = st
    at false h = record { once = λ d. once h d (is_epoch d new) refl; each = (unformed_stands e members, st.each) }

-- who has joined an epoch
pub joins_new : (p : Past) (site : ℕ) (e : EpochId) (members : Members) → may_join p site e members ≡ true → is_number (epoch_at p e).joined site ≡ false
joins_new p site e members may = not_true (is_number (epoch_at p e).joined site) (and_first (not (is_number (epoch_at p e).joined site)) _ (and_second _ _ (and_second _ _ may)))

pub grants_new : (c : Config) (p : Past) (t : Epoch) (id : CallId) (request : ℕ) (i : Serial) (m : Mode) (f : FileId) (stamp : Option Stamp) (ss : ℕ) → may_grant c p t id request i m f stamp ss ≡ true → list_any (is_grant i) t.granted ≡ false
grants_new c p t id request i m f stamp ss may = not_true (list_any (is_grant i) t.granted) (and_first (not (list_any (is_grant i) t.granted)) _ (and_second (i.us == id.site) _ (and_second (is_number t.joined ss) _ (and_second (is_synced c t f.group) _ (and_second (is_number t.started f.group) _ may)))))

left_epochs : (c : Config) (p : Past) (site : ℕ) → IsTidy c p → EpochsStand (change (is_home_of p site) (λ (t : Epoch). record t { left = record { site = site; held = (site_at p site).held } ∷ t.left }) p.epochs)
left_epochs c p site tidy = epochs_moved p.epochs (is_home_of p site) (λ (t : Epoch). record t { left = record { site = site; held = (site_at p site).held } ∷ t.left }) (λ t. refl)
    (λ t k. left_epoch t (record { site = site; held = (site_at p site).held }) (site_stands c p.sites tidy.sites site).held k) tidy.epochs

pub epochs_next : (c : Config) (p : Past) (r : Record) → IsTidy c p → may_follow c p r ≡ true → EpochsStand (after c r p).epochs
epochs_next c p (rec.Up site boot) tidy may = tidy.epochs
epochs_next c p (rec.Stopped site cause) tidy may = left_epochs c p site tidy
epochs_next c p (rec.Leave site e) tidy may = left_epochs c p site tidy
epochs_next c p (rec.Join site e members) tidy may = epoch_moved (with_epoch e members p) e (λ (t : Epoch). record t { joined = site ∷ t.joined; known = with_all_known (site_at p site).held t.known }) (λ t. refl)
    (λ t h k. joined_epoch t site (site_at p site).held (ap (λ (u : Epoch). is_number u.joined site) (sym h) ∙ (ap (λ ns. is_number ns site) (formed_with (λ (u : Epoch). u.joined) (λ u m. refl) e e members p) ∙ joins_new p site e members may)) k)
    (with_epoch_stands e members p tidy.epochs)
epochs_next c p (rec.Start e group copies) tidy may = epochs_moved p.epochs (is_epoch e) (λ (t : Epoch). record t { started = group ∷ t.started }) (λ t. refl) (λ t k. others_moved t (group ∷ t.started) t.makes k) tidy.epochs
epochs_next c p (rec.Accept site process id words) tidy may = epochs_moved p.epochs (λ (t : Epoch). is_in k.epoch t.id) (λ (t : Epoch). record t { opened = change (uses k.begins words t.id) (λ (x : Instance). record x { uses = x.uses + 1 }) t.opened }) (λ t. refl)
    (λ t h. instances_moved t (uses k.begins words t.id) (λ (x : Instance). record x { uses = x.uses + 1 }) t.started t.makes t.unmended (λ x. refl) h) tidy.epochs
  where
    k : CallSoFar
    k = begun_call p site process id words (beginning (table p site process) (site_at p site).epoch id words)
epochs_next c p (rec.Look e id request f w result) tidy may = tidy.epochs
epochs_next c p (rec.Grant e id request i m f stamp ss) tidy may = epoch_moved p e (λ (t : Epoch). record t { granted = g ∷ t.granted; opened = t.opened ++ opened_as p g stamp ∷ [] }) (λ t. refl)
    (λ t h k. granted_epoch t g (opened_as p g stamp) refl (ap (λ (u : Epoch). list_any (is_grant i) u.granted) (sym h) ∙ grants_new c p (epoch_at p e) id request i m f stamp ss may) k) tidy.epochs
  where
    g : Granted
    g = record { inst = i; call = id; process = process_of p id; mode = m; file = f; ss = ss }
epochs_next c p (rec.Refuse e id request i m f why) tidy may = epochs_moved p.epochs (is_epoch e) (λ (t : Epoch). record t { makes = filter (λ (k : Make). not (is_make m && ((k.group == f.group) && same_call k.call id))) t.makes }) (λ t. refl)
    (λ t k. others_moved t t.started (filter (λ (d : Make). not (is_make m && ((d.group == f.group) && same_call d.call id))) t.makes) k) tidy.epochs
epochs_next c p (rec.Act e i n o result) tidy may = epochs_moved p.epochs (is_epoch e) (acted i o result p) (λ t. refl)
    (λ t k. instances_moved t (is_named i) (λ (x : Instance). record x { work = work_after p t o result x }) t.started (fold (λ old x. begun_make o result x ++ old) t.makes (filter (is_named i) t.opened)) t.unmended (λ x. refl) k) tidy.epochs
epochs_next c p (rec.Commit f site stamp parents content) tidy may = epochs_moved p.epochs (is_home_of p site) (λ (t : Epoch). record t { opened = change (is_writer f site) (λ (x : Instance). record x { work = committed stamp x.work }) t.opened }) (λ t. refl)
    (λ t k. instances_moved t (is_writer f site) (λ (x : Instance). record x { work = committed stamp x.work }) t.started t.makes t.unmended (λ x. refl) k) tidy.epochs
epochs_next c p (rec.Release e i f stamp) tidy may = subst (λ (q : Past). EpochsStand (change (is_epoch e) (released i f stamp) q.epochs)) (sym (closed_as (is_ender (epoch_at p e) i) stamp p (filter (is_named i) (epoch_at p e).opened)))
    (epochs_moved p.epochs (is_epoch e) (released i f stamp) (λ t. refl)
    (λ t k. released_epoch t (λ x. not (is_named i x)) (map (λ s. record { file = f; stamp = s }) (list_of stamp)) (released i f stamp t).makes k) tidy.epochs)
epochs_next c p (rec.Adopt f site stamp) tidy may = tidy.epochs
epochs_next c p (rec.Answer site process id r) tidy may = of (answers_one c p site process id r tidy.calls may)
  where
    of : AnswersOne c p site process id r → EpochsStand (told_by c (rec.Answer site process id r) p).epochs
    of it = subst (λ (q : Past). EpochsStand q.epochs) (sym it.told) (epochs_moved p.epochs (λ t. true) answer (λ t. refl)
        (λ t k. instances_moved t (takes t) (once_named r) t.started t.makes (cond (is_in it.call.epoch t.id) (left_unmended r it.call.words) [] ++ t.unmended) (once_grant r) k) tidy.epochs)
      where
        takes : Epoch → Instance → Bool
        takes t x = list_any (λ (d : Descriptor). is_in (Some d.epoch) t.id && is_named d.inst x) (named_by r it.call)

        answer : Epoch → Epoch
        answer t = record t { opened = change (takes t) (once_named r) t.opened; unmended = cond (is_in it.call.epoch t.id) (left_unmended r it.call.words) [] ++ t.unmended }
epochs_next c p (rec.Packet number from to kind) tidy may = tidy.epochs
epochs_next c p rec.Void tidy may = tidy.epochs
epochs_next c p rec.Budget tidy may = tidy.epochs

pub epochs_first : (c : Config) → EpochsStand (nothing_yet c).epochs
epochs_first c = record { once = λ e. omega arith; each = tt }
