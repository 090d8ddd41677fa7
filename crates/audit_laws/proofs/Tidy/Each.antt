-- What is true of each site, of each call and of each epoch stays true, where it does by each change that a record makes.
use Rattle.std.proofs.Common.{◌≡◌, ℕ, ◌+◌, ◌-◌, ◌==◌, ◌&&◌, not, Bool, true, false, cond, List, [], ◌∷◌, ◌++◌, filter, take, Option, Some, None, refl, sym, subst}
use Rattle.std.specs.Prelude.{fold}
use Rattle.std.specs.List.{list_any, AllByRecursion}
use Rattle.locus_ids.specs.declared.config.Config.{Config}
use Rattle.locus_ids.specs.declared.sites.Members.{Members}
use Rattle.commit_graph.specs.Versions.{same_file}
use Rattle.locus_ids.specs.declared.ids.EpochId.{EpochId}
use Rattle.locus_ids.specs.declared.ids.FileId.{FileId}
use Rattle.locus_ids.specs.declared.ids.Stamp.{Stamp}
use Rattle.trace_book.specs.declared.descriptor.Descriptor.{Descriptor}
use Rattle.trace_book.specs.declared.descriptor.OneVersion.{OneVersion}
use Rattle.trace_book.specs.declared.record.Record.{Record}
use Rattle.trace_book.specs.declared.record.Record.TheVariants as rec
use Rattle.call_rules.specs.declared.answer.Answer.{Answer}
use Rattle.call_rules.specs.declared.answer.Answer.TheVariants.{Refused}
use Rattle.call_rules.specs.Descriptors.{beginning}
use Rattle.call_rules.specs.Opening.{is_steady}
use Rattle.tree_model.specs.Calls.{version_at}
use Rattle.lawful_trace.specs.Progress.{granted_answer, outcome_answer}
use Rattle.file_effects.specs.Works.{committed}
use Rattle.file_effects.specs.declared.work.Work.{Work}
use Rattle.trace_book.specs.Same.{same_call}
use Rattle.tree_model.specs.declared.instance.Granted.{Granted}
use Rattle.tree_model.specs.Epochs.{is_in}
use Rattle.tree_model.specs.State.{is_make}
use Rattle.promises.specs.Tree.{work_after}
use Rattle.promises.specs.Past.{Past, Site, Epoch, CallSoFar, Instance, Left, Make, Copy, Named, site_at, epoch_at, unformed, kept_in, is_named, is_writer, table}
use Rattle.promises.specs.After.{after, told_by, change, is_id, is_epoch, is_actor, is_ender, is_freed, begun_call, look_answer, close_answer, taken_by, with_epoch, with_all_known, is_home_of, uses, opened_as, process_of, acted, begun_make, released, left_unmended, named_by, once_named, held_again}
use Rattle.promises.specs.Rows.{may_follow}
use Rattle.past_laws.proofs.Names.{number_eq, call_eq}
use Rattle.row_lists.proofs.Truth.{true_false}
use Rattle.past_laws.proofs.CallsLists.{each_both, each_changed, each_found}
use Rattle.past_laws.proofs.SitesSay.{has_number, change_twice}
use Rattle.audit_laws.specs.Tidy.Ties.{CallTied}
use Rattle.audit_laws.specs.Tidy.Tidy.{IsTidy}
use Rattle.audit_laws.proofs.Tidy.Epochs.{epochs_are}
use Rattle.audit_laws.proofs.Tidy.Naming.{epochs_own, fresh, IsFresh, takes_there}
use Rattle.audit_laws.proofs.Tidy.Answers.{AnswersOne, answers_one, closed_as, epoch_sites, epoch_calls}

changed_each : {X : Type 0} (P : X → Type 0) (which : X → Bool) (f : X → X) → ((x : X) → which x ≡ true → P x → P (f x)) → (xs : List X) → AllByRecursion P xs → AllByRecursion P (change which f xs)
changed_each P which f again xs h = each_changed P P which f again (λ x e k. k) xs h

-- ---- sites ----

abbrev pub SiteSteps : (Site → Type 0) → Config → Past → Record → Type 0
SiteSteps P c p (rec.Up site boot) = (s : Site) → P s → P (record s { up = true; boot = boot; joined = None; accepted = 0 })
SiteSteps P c p (rec.Stopped site cause) = (s : Site) → P s → P (record s { epoch = None; up = false; descriptors = [] })
SiteSteps P c p (rec.Leave site e) = (s : Site) → P s → P (record s { epoch = None })
SiteSteps P c p (rec.Join site e members) = (s : Site) → s.number ≡ site → P s → P (record s { epoch = Some e; joined = Some e })
SiteSteps P c p (rec.Accept site process id words) = (s : Site) → P s → P (record s { accepted = s.accepted + 1; descriptors = filter (λ d. not (is_freed words process d)) s.descriptors })
SiteSteps P c p (rec.Commit f site stamp parents content) = (s : Site) (vs : List Copy) → P s → P (record s { held = vs })
SiteSteps P c p (rec.Adopt f site stamp) = (s : Site) (vs : List Copy) → P s → P (record s { held = vs })
SiteSteps P c p (rec.Answer site process id r) = (it : AnswersOne c p site process id r) (s : Site) → P s → P (record s { descriptors = taken_by r it.call ++ held_again r it.call s.descriptors })
SiteSteps P c p _ = Unit {0}

has_now_each : (P : Site → Type 0) (site : ℕ) (new : Copy) (sites : List Site) → ((s : Site) (vs : List Copy) → P s → P (record s { held = vs })) → AllByRecursion P sites
    → AllByRecursion P (change (has_number site) (λ s. record s { held = new ∷ filter (λ (v : Copy). not (same_file v.file new.file)) s.held }) sites)
has_now_each P site new sites steps h = changed_each P (has_number site) (λ s. record s { held = new ∷ filter (λ (v : Copy). not (same_file v.file new.file)) s.held }) (λ s e k. steps s (new ∷ filter (λ (v : Copy). not (same_file v.file new.file)) s.held) k) sites h

pub sites_each : (P : Site → Type 0) (c : Config) (p : Past) (r : Record) → IsTidy c p → may_follow c p r ≡ true → SiteSteps P c p r → AllByRecursion P p.sites → AllByRecursion P (after c r p).sites
sites_each P c p (rec.Up site boot) tidy may steps h = changed_each P (has_number site) (λ s. record s { up = true; boot = boot; joined = None; accepted = 0 }) (λ s e k. steps s k) p.sites h
sites_each P c p (rec.Stopped site cause) tidy may steps h = subst (AllByRecursion P) (sym (change_twice site (λ s. record s { epoch = None }) (λ s. record s { up = false; descriptors = [] }) (λ s. refl) p.sites)) (changed_each P (has_number site) (λ s. record s { epoch = None; up = false; descriptors = [] }) (λ s e k. steps s k) p.sites h)
sites_each P c p (rec.Leave site e) tidy may steps h = changed_each P (has_number site) (λ s. record s { epoch = None }) (λ s i k. steps s k) p.sites h
sites_each P c p (rec.Join site e members) tidy may steps h = subst (λ ss. AllByRecursion P (change (has_number site) (λ s. record s { epoch = Some e; joined = Some e }) ss)) (sym (epoch_sites e members p)) (changed_each P (has_number site) (λ s. record s { epoch = Some e; joined = Some e }) (λ s i k. steps s (number_eq s.number site i) k) p.sites h)
sites_each P c p (rec.Start e group copies) tidy may steps h = h
sites_each P c p (rec.Accept site process id words) tidy may steps h = changed_each P (has_number site) (λ s. record s { accepted = s.accepted + 1; descriptors = filter (λ d. not (is_freed words process d)) s.descriptors }) (λ s e k. steps s k) p.sites h
sites_each P c p (rec.Look e id request f w result) tidy may steps h = h
sites_each P c p (rec.Grant e id request i m f stamp ss) tidy may steps h = h
sites_each P c p (rec.Refuse e id request i m f why) tidy may steps h = h
sites_each P c p (rec.Act e i n o result) tidy may steps h = h
sites_each P c p (rec.Commit f site stamp parents content) tidy may steps h = has_now_each P site (record { file = f; stamp = stamp }) p.sites steps h
sites_each P c p (rec.Release e i f stamp) tidy may steps h = subst (λ (q : Past). AllByRecursion P q.sites) (sym (closed_as (is_ender (epoch_at p e) i) stamp p (filter (is_named i) (epoch_at p e).opened))) h
sites_each P c p (rec.Adopt f site stamp) tidy may steps h = has_now_each P site (record { file = f; stamp = stamp }) p.sites steps h
sites_each P c p (rec.Answer site process id r) tidy may steps h = of (answers_one c p site process id r tidy.calls may)
  where
    of : AnswersOne c p site process id r → AllByRecursion P (told_by c (rec.Answer site process id r) p).sites
    of it = subst (λ (q : Past). AllByRecursion P q.sites) (sym it.told) (changed_each P (has_number it.call.id.site) (λ s. record s { descriptors = taken_by r it.call ++ held_again r it.call s.descriptors })
        (λ s e k. steps it s k) p.sites h)
sites_each P c p (rec.Packet number from to kind) tidy may steps h = h
sites_each P c p rec.Void tidy may steps h = h
sites_each P c p rec.Budget tidy may steps h = h

-- ---- calls ----

abbrev pub CallSteps : (CallSoFar → Type 0) → Past → Record → Type 0
CallSteps P p (rec.Stopped site cause) = (k : CallSoFar) → P k → P (record k { waits = false })
CallSteps P p (rec.Accept site process id words) = P (begun_call p site process id words (beginning (table p site process) (site_at p site).epoch id words))
CallSteps P p (rec.Look e id request f w result) = (k : CallSoFar) (answers : List Answer) → P k → P (record k { answers = answers })
CallSteps P p (rec.Grant e id request i m f stamp ss) = (k : CallSoFar) (steady : Option OneVersion) (answers : List Answer) → k.id ≡ id → P k → P (record k { granted = Some (record { mode = m; epoch = e; inst = i; steady = steady }); answers = answers })
CallSteps P p (rec.Refuse e id request i m f why) = (k : CallSoFar) (answers : List Answer) → P k → P (record k { answers = answers })
CallSteps P p (rec.Act e i n o result) = (k : CallSoFar) (answers : List Answer) → P k → P (record k { answers = answers })
CallSteps P p (rec.Release e i f stamp) = (k : CallSoFar) (answers : List Answer) → P k → P (record k { answers = answers })
CallSteps P p (rec.Answer site process id r) = (k : CallSoFar) → P k → P (record k { waits = false })
CallSteps P p _ = Unit {0}

answered_each : (P : CallSoFar → Type 0) (which : CallSoFar → Bool) (g : CallSoFar → List Answer) (calls : List CallSoFar) → ((k : CallSoFar) (answers : List Answer) → P k → P (record k { answers = answers })) → AllByRecursion P calls → AllByRecursion P (change which (λ (k : CallSoFar). record k { answers = g k }) calls)
answered_each P which g calls steps h = changed_each P which (λ (k : CallSoFar). record k { answers = g k }) (λ k e s. steps k (g k) s) calls h

closed_each : (P : CallSoFar → Type 0) (which : CallSoFar → Bool) (stamp : Option Stamp) (xs : List Instance) (calls : List CallSoFar) → ((k : CallSoFar) (answers : List Answer) → P k → P (record k { answers = answers })) → AllByRecursion P calls
    → AllByRecursion P (fold (λ (ks : List CallSoFar) (x : Instance). change which (λ (k : CallSoFar). record k { answers = k.answers ++ close_answer stamp x ∷ [] }) ks) calls xs)
closed_each P which stamp [] calls steps h = h
closed_each P which stamp (x ∷ xs) calls steps h = closed_each P which stamp xs (change which (λ (k : CallSoFar). record k { answers = k.answers ++ close_answer stamp x ∷ [] }) calls) steps (answered_each P which (λ k. k.answers ++ close_answer stamp x ∷ []) calls steps h)

pub calls_each : (P : CallSoFar → Type 0) (c : Config) (p : Past) (r : Record) → IsTidy c p → may_follow c p r ≡ true → CallSteps P p r → AllByRecursion P p.calls → AllByRecursion P (after c r p).calls
calls_each P c p (rec.Up site boot) tidy may steps h = h
calls_each P c p (rec.Stopped site cause) tidy may steps h = changed_each P (λ (k : CallSoFar). k.id.site == site) (λ (k : CallSoFar). record k { waits = false }) (λ k e s. steps k s) p.calls h
calls_each P c p (rec.Leave site e) tidy may steps h = h
calls_each P c p (rec.Join site e members) tidy may steps h = subst (AllByRecursion P) (sym (epoch_calls e members p)) h
calls_each P c p (rec.Start e group copies) tidy may steps h = h
calls_each P c p (rec.Accept site process id words) tidy may steps h = (steps, h)
calls_each P c p (rec.Look e id request f w result) tidy may steps h = answered_each P (is_id id) (λ k. take (request - 1) k.answers ++ look_answer p f w result ∷ []) p.calls steps h
calls_each P c p (rec.Grant e id request i m f stamp ss) tidy may steps h = changed_each P (is_id id) (λ (k : CallSoFar). record k { granted = Some (record { mode = m; epoch = e; inst = i; steady = cond (is_steady k.words) (version_at f stamp) None }); answers = k.answers ++ granted_answer m i f stamp (kept_in p (epoch_at p e) f) ∷ [] })
    (λ k t s. steps k (cond (is_steady k.words) (version_at f stamp) None) (k.answers ++ granted_answer m i f stamp (kept_in p (epoch_at p e) f) ∷ []) (call_eq k.id id t) s) p.calls h
calls_each P c p (rec.Refuse e id request i m f why) tidy may steps h = answered_each P (is_id id) (λ k. k.answers ++ Refused why ∷ []) p.calls steps h
calls_each P c p (rec.Act e i n o result) tidy may steps h = answered_each P (is_actor (epoch_at p e) i n) (λ k. k.answers ++ outcome_answer result ∷ []) p.calls steps h
calls_each P c p (rec.Commit f site stamp parents content) tidy may steps h = h
calls_each P c p (rec.Release e i f stamp) tidy may steps h = subst (λ (q : Past). AllByRecursion P q.calls) (sym (closed_as (is_ender (epoch_at p e) i) stamp p (filter (is_named i) (epoch_at p e).opened))) (closed_each P (is_ender (epoch_at p e) i) stamp (filter (is_named i) (epoch_at p e).opened) p.calls steps h)
calls_each P c p (rec.Adopt f site stamp) tidy may steps h = h
calls_each P c p (rec.Answer site process id r) tidy may steps h = of (answers_one c p site process id r tidy.calls may)
  where
    of : AnswersOne c p site process id r → AllByRecursion P (told_by c (rec.Answer site process id r) p).calls
    of it = subst (λ (q : Past). AllByRecursion P q.calls) (sym it.told) (changed_each P (is_id it.call.id) (λ (k : CallSoFar). record k { waits = false }) (λ k e s. steps k s) p.calls h)
calls_each P c p (rec.Packet number from to kind) tidy may steps h = h
calls_each P c p rec.Void tidy may steps h = h
calls_each P c p rec.Budget tidy may steps h = h

-- ---- epochs ----

abbrev pub EpochSteps : (Epoch → Type 0) → Past → Record → Type 0
EpochSteps P p (rec.Stopped site cause) = (t : Epoch) (left : List Left) → P t → P (record t { left = left })
EpochSteps P p (rec.Leave site e) = (t : Epoch) (left : List Left) → P t → P (record t { left = left })
EpochSteps P p (rec.Join site e members) = P (record (unformed e) { members = members }) × ((t : Epoch) (joined : List ℕ) (known : List Copy) → P t → P (record t { joined = joined; known = known }))
EpochSteps P p (rec.Start e group copies) = (t : Epoch) (started : List ℕ) → P t → P (record t { started = started })
EpochSteps P p (rec.Accept site process id words) = (t : Epoch) (which : Instance → Bool) → P t → P (record t { opened = change which (λ (x : Instance). record x { uses = x.uses + 1 }) t.opened })
EpochSteps P p (rec.Grant e id request i m f stamp ss) = (t : Epoch) → epoch_at p e ≡ t → (g : Granted) → g ≡ record { inst = i; call = id; process = process_of p id; mode = m; file = f; ss = ss } → P t → P (record t { granted = g ∷ t.granted; opened = t.opened ++ opened_as p g stamp ∷ [] })
EpochSteps P p (rec.Refuse e id request i m f why) = (t : Epoch) (makes : List Make) → P t → P (record t { makes = makes })
EpochSteps P p (rec.Act e i n o result) = (t : Epoch) (which : Instance → Bool) (work : Instance → Work) (makes : List Make) → P t → P (record t { opened = change which (λ (x : Instance). record x { work = work x }) t.opened; makes = makes })
EpochSteps P p (rec.Commit f site stamp parents content) = (t : Epoch) (which : Instance → Bool) (work : Instance → Work) → P t → P (record t { opened = change which (λ (x : Instance). record x { work = work x }) t.opened })
EpochSteps P p (rec.Release e i f stamp) = (t : Epoch) (known : List Copy) (which : Instance → Bool) (makes : List Make) → P t → P (record t { known = known; opened = filter which t.opened; makes = makes })
EpochSteps P p (rec.Answer site process id r) = (t : Epoch) (which : Instance → Bool) (unmended : List FileId) → AllByRecursion (λ (x : Instance). which x ≡ true → IsFresh p.calls t.id id x) t.opened → P t → P (record t { opened = change which (once_named r) t.opened; unmended = unmended })
EpochSteps P p _ = Unit {0}

left_each : (P : Epoch → Type 0) (p : Past) (site : ℕ) → ((t : Epoch) (left : List Left) → P t → P (record t { left = left })) → AllByRecursion P p.epochs
    → AllByRecursion P (change (is_home_of p site) (λ (t : Epoch). record t { left = record { site = site; held = (site_at p site).held } ∷ t.left }) p.epochs)
left_each P p site steps h = changed_each P (is_home_of p site) (λ (t : Epoch). record t { left = record { site = site; held = (site_at p site).held } ∷ t.left }) (λ t e k. steps t (record { site = site; held = (site_at p site).held } ∷ t.left) k) p.epochs h

with_each : (P : Epoch → Type 0) (e : EpochId) (members : Members) (p : Past) → P (record (unformed e) { members = members }) → AllByRecursion P p.epochs → AllByRecursion P (with_epoch e members p).epochs
with_each P e members p new h = at (list_any (is_epoch e) p.epochs)
  where
    at : (b : Bool) → AllByRecursion P (cond b p (record p { epochs = record (unformed e) { members = members } ∷ p.epochs })).epochs
    at true = h
    at false = (new, h)

pub epochs_each : (P : Epoch → Type 0) (c : Config) (p : Past) (r : Record) → IsTidy c p → may_follow c p r ≡ true → EpochSteps P p r → AllByRecursion P p.epochs → AllByRecursion P (after c r p).epochs
epochs_each P c p (rec.Up site boot) tidy may steps h = h
epochs_each P c p (rec.Stopped site cause) tidy may steps h = left_each P p site steps h
epochs_each P c p (rec.Leave site e) tidy may steps h = left_each P p site steps h
epochs_each P c p (rec.Join site e members) tidy may steps h = changed_each P (is_epoch e) (λ (t : Epoch). record t { joined = site ∷ t.joined; known = with_all_known (site_at p site).held t.known }) (λ t i k. steps.1 t (site ∷ t.joined) (with_all_known (site_at p site).held t.known) k) (with_epoch e members p).epochs (with_each P e members p steps.0 h)
epochs_each P c p (rec.Start e group copies) tidy may steps h = changed_each P (is_epoch e) (λ (t : Epoch). record t { started = group ∷ t.started }) (λ t i k. steps t (group ∷ t.started) k) p.epochs h
epochs_each P c p (rec.Accept site process id words) tidy may steps h = changed_each P (λ (t : Epoch). is_in k.epoch t.id) (λ (t : Epoch). record t { opened = change (uses k.begins words t.id) (λ (x : Instance). record x { uses = x.uses + 1 }) t.opened }) (λ t i s. steps t (uses k.begins words t.id) s) p.epochs h
  where
    k : CallSoFar
    k = begun_call p site process id words (beginning (table p site process) (site_at p site).epoch id words)
epochs_each P c p (rec.Look e id request f w result) tidy may steps h = h
epochs_each P c p (rec.Grant e id request i m f stamp ss) tidy may steps h = each_changed (λ (t : Epoch). (is_epoch e t ≡ true → epoch_at p e ≡ t) × P t) P (is_epoch e) (λ (t : Epoch). record t { granted = g ∷ t.granted; opened = t.opened ++ opened_as p g stamp ∷ [] }) (λ t w k. steps t (k.0 w) g refl k.1) (λ t w k. k.1) p.epochs
    (each_both (λ (t : Epoch). is_epoch e t ≡ true → epoch_at p e ≡ t) P (λ (t : Epoch). (is_epoch e t ≡ true → epoch_at p e ≡ t) × P t) (λ t a b. (a, b)) p.epochs (epochs_are p e tidy.epochs) h)
  where
    g : Granted
    g = record { inst = i; call = id; process = process_of p id; mode = m; file = f; ss = ss }
epochs_each P c p (rec.Refuse e id request i m f why) tidy may steps h = changed_each P (is_epoch e) (λ (t : Epoch). record t { makes = filter (λ (k : Make). not (is_make m && ((k.group == f.group) && same_call k.call id))) t.makes })
    (λ t w k. steps t (filter (λ (d : Make). not (is_make m && ((d.group == f.group) && same_call d.call id))) t.makes) k) p.epochs h
epochs_each P c p (rec.Act e i n o result) tidy may steps h = changed_each P (is_epoch e) (acted i o result p) (λ t w k. steps t (is_named i) (λ (x : Instance). work_after p t o result x) (fold (λ old x. begun_make o result x ++ old) t.makes (filter (is_named i) t.opened)) k) p.epochs h
epochs_each P c p (rec.Commit f site stamp parents content) tidy may steps h = changed_each P (is_home_of p site) (λ (t : Epoch). record t { opened = change (is_writer f site) (λ (x : Instance). record x { work = committed stamp x.work }) t.opened }) (λ t w k. steps t (is_writer f site) (λ (x : Instance). committed stamp x.work) k) p.epochs h
epochs_each P c p (rec.Release e i f stamp) tidy may steps h = subst (λ (q : Past). AllByRecursion P (change (is_epoch e) (released i f stamp) q.epochs)) (sym (closed_as (is_ender (epoch_at p e) i) stamp p (filter (is_named i) (epoch_at p e).opened)))
    (changed_each P (is_epoch e) (released i f stamp) (λ t w k. steps t (released i f stamp t).known (λ x. not (is_named i x)) (released i f stamp t).makes k) p.epochs h)
epochs_each P c p (rec.Adopt f site stamp) tidy may steps h = h
epochs_each P c p (rec.Answer site process id r) tidy may steps h = of (answers_one c p site process id r tidy.calls may)
  where
    of : AnswersOne c p site process id r → AllByRecursion P (told_by c (rec.Answer site process id r) p).epochs
    of it = subst (λ (q : Past). AllByRecursion P q.epochs) (sym it.told) (each_changed Own P (λ t. true) answer (λ t w k. steps t (takes t) (cond (is_in it.call.epoch t.id) (left_unmended r it.call.words) [] ++ t.unmended) (fresh c p site process id r tidy it tied t k.0) k.1) (λ t w k. true_false w) p.epochs
        (each_both (λ (t : Epoch). epoch_at p t.id ≡ t) P Own (λ t a b. (a, b)) p.epochs (epochs_own p tidy.epochs) h))
      where
        Own : Epoch → Type 0
        Own t = (epoch_at p t.id ≡ t) × P t

        tied : CallTied p.epochs it.call
        tied = (each_found (CallTied p.epochs) (is_id id) p.calls it.call it.found tidy.ties.calls).0

        takes : Epoch → Instance → Bool
        takes t x = takes_there (named_by r it.call) t x

        answer : Epoch → Epoch
        answer t = record t { opened = change (takes t) (once_named r) t.opened; unmended = cond (is_in it.call.epoch t.id) (left_unmended r it.call.words) [] ++ t.unmended }
epochs_each P c p (rec.Packet number from to kind) tidy may steps h = h
epochs_each P c p rec.Void tidy may steps h = h
epochs_each P c p rec.Budget tidy may steps h = h
