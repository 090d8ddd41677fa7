-- Each record keeps what stands of the files that are made.
use Rattle.std.proofs.Common.{◌≡◌, ℕ, ◌+◌, ◌==◌, ◌||◌, ◌&&◌, not, Bool, true, false, cond, List, [], ◌∷◌, ◌++◌, filter, fold, map, Option, Some, None, refl, sym, ap, subst, ◌∙◌}
use Rattle.std.specs.List.{find, list_any, list_all}
use Rattle.std.specs.Option.{is_none}
use Rattle.locus_ids.specs.declared.config.Config.{Config}
use Rattle.locus_ids.specs.declared.sites.Members.{Members}
use Rattle.locus_ids.specs.declared.ids.CallId.{CallId}
use Rattle.locus_ids.specs.declared.ids.EpochId.{EpochId}
use Rattle.locus_ids.specs.declared.ids.FileId.{FileId}
use Rattle.trace_book.specs.Same.{same_call, same_epoch}
use Rattle.trace_book.specs.declared.call.Call.{Call}
use Rattle.trace_book.specs.declared.record.Record.{Record}
use Rattle.trace_book.specs.declared.record.Record.TheVariants as rec
use Rattle.call_rules.specs.Descriptors.{beginning}
use Rattle.call_rules.specs.Walks.{root_of}
use Rattle.commit_graph.specs.Vectors.{numbers_from}
use Rattle.tree_model.specs.Packs.{has_pack}
use Rattle.trace_book.specs.declared.descriptor.Beginning.{Beginning}
use Rattle.tree_model.specs.of_file_effects.Works.{committed}
use Rattle.commit_graph.specs.Grants.{is_read}
use Rattle.tree_model.specs.declared.instance.Granted.{Granted}
use Rattle.tree_model.specs.declared.instance.Instance.{Instance as TreeInstance}
use Rattle.tree_model.specs.Epochs.{is_in}
use Rattle.tree_model.specs.Given.{gives_release}
use Rattle.tree_model.specs.Histories.{format_stamp, history}
use Rattle.tree_model.specs.State.{has_stamp}
use Rattle.tree_model.specs.Tree.{tree_of}
use Rattle.tree_model.specs.Working.{list_of}
use Rattle.call_rules.specs.declared.answer.Answer.{Answer}
use Rattle.promises.specs.of_lawful_trace.Progress.{outcome_answer}
use Rattle.promises.specs.of_lawful_trace.TreeRows.{MayCommit, is_writing}
use Rattle.trace_book.specs.declared.reply.Reply.{Reply}
use Rattle.locus_ids.specs.declared.ids.Stamp.{Stamp}
use Rattle.commit_graph.specs.Versions.{same_file}
use Rattle.past_laws.proofs.Names.{both, both_parts, epoch_own, file_eq, number_own}
use Rattle.tree_model.specs.Folds.{Trace}
use Rattle.promises.specs.of_lawful_trace.Lawful.{MayCome}
use Rattle.promises.specs.Past.{CallSoFar, Copy, Epoch, Instance, Making, Past, Site, epoch_at, first_site, groups, is_named, is_writer, no_site, nothing_yet, site_at, table}
use Rattle.promises.specs.After.{acted, after, answered, begun_call, change, close_answer, is_actor, is_ender, is_epoch, is_home_of, is_id, left_unmended, opened_as, process_of, released, replied_to, uses, with_all_known, with_epoch, with_making, named_by, once_named}
use Rattle.promises.specs.Tree.{work_after}
use Rattle.trace_book.specs.declared.descriptor.Descriptor.{Descriptor}
use Rattle.trace_book.specs.declared.reply.Reply.TheVariants as reply
use Rattle.past_laws.specs.Agreement.{Agrees, SaysGiven}
use Rattle.past_laws.specs.Made.{AreMade, are_made, is_called, is_made, is_sound}
use Rattle.past_laws.proofs.Changing.{any_changed}
use Rattle.past_laws.proofs.Alls.{all_changed, all_filtered, all_first_or, all_found, all_images, all_mapped, all_joined, all_more, all_weaker}
use Rattle.past_laws.proofs.MadeFinds.{accepted_there, commit_makes, makings_more, open_here, opened_at, OpenHere}
use Rattle.past_laws.proofs.MadeGranted.{granted_sound}
use Rattle.past_laws.proofs.MadeKnown.{candidate_made, candidates_alike, filter_finds, home_found, known_at, release_made}
use Rattle.past_laws.proofs.MadeParts.{MoreFiles, all_known_made, called_more, copies_more, sound_more, work_kept}
use Rattle.past_laws.proofs.Sites.{Caller, caller_of}
use Rattle.past_laws.proofs.SitesSay.{has_number}

pub record MadeSay (sites : List Site) (epochs : List Epoch) (calls : List CallSoFar) (files : List Making) : Type 0 where
  pub held : list_all (λ (s : Site). are_made files s.held) sites ≡ true
  pub known : list_all (λ (t : Epoch). are_made files t.known) epochs ≡ true
  pub opened : list_all (λ (t : Epoch). list_all (is_sound files) t.opened) epochs ≡ true
  pub called : list_all (λ (t : Epoch). list_all (is_called calls) t.opened) epochs ≡ true

pub made_of_past : (p : Past) → AreMade p → MadeSay p.sites p.epochs p.calls p.files
made_of_past p a = record { held = a.held; known = a.known; opened = a.opened; called = a.called }

pub made_as_said : (p : Past) → MadeSay p.sites p.epochs p.calls p.files → AreMade p
made_as_said p a = record { held = a.held; known = a.known; opened = a.opened; called = a.called }

-- Parts that are changed.

sites_kept : (files : List Making) (epochs : List Epoch) (calls : List CallSoFar) (sites : List Site) (which : Site → Bool) (f : Site → Site) → ((s : Site) → (f s).held ≡ s.held) → MadeSay sites epochs calls files → MadeSay (change which f sites) epochs calls files
sites_kept files epochs calls sites which f keep a = record {
  held = all_changed (λ (s : Site). are_made files s.held) which f (λ s e k. ap (are_made files) (keep s) ∙ k) sites a.held;
  known = a.known;
  opened = a.opened;
  called = a.called;
}

-- a site has one version more, of a file that is made
site_has : (files : List Making) (epochs : List Epoch) (calls : List CallSoFar) (sites : List Site) (which : Site → Bool) (new : Copy) (kept : Copy → Bool) → is_made files new.file ≡ true → MadeSay sites epochs calls files → MadeSay (change which (λ (s : Site). record s { held = new ∷ filter kept s.held }) sites) epochs calls files
site_has files epochs calls sites which new kept made a = record {
  held = all_changed (λ (s : Site). are_made files s.held) which (λ (s : Site). record s { held = new ∷ filter kept s.held })
      (λ s e k. all_more (λ (v : Copy). is_made files v.file) new (filter kept s.held) made (all_filtered (λ (v : Copy). is_made files v.file) kept s.held k)) sites a.held;
  known = a.known;
  opened = a.opened;
  called = a.called;
}

-- an epoch that keeps what it knows and what is open
epochs_kept : (files : List Making) (sites : List Site) (calls : List CallSoFar) (ts : List Epoch) (which : Epoch → Bool) (f : Epoch → Epoch) → ((t : Epoch) → (f t).known ≡ t.known) → ((t : Epoch) → (f t).opened ≡ t.opened) → MadeSay sites ts calls files → MadeSay sites (change which f ts) calls files
epochs_kept files sites calls ts which f known opened a = record {
  held = a.held;
  known = all_changed (λ (t : Epoch). are_made files t.known) which f (λ t e k. ap (are_made files) (known t) ∙ k) ts a.known;
  opened = all_changed (λ (t : Epoch). list_all (is_sound files) t.opened) which f (λ t e k. ap (list_all (is_sound files)) (opened t) ∙ k) ts a.opened;
  called = all_changed (λ (t : Epoch). list_all (is_called calls) t.opened) which f (λ t e k. ap (list_all (is_called calls)) (opened t) ∙ k) ts a.called;
}

-- an epoch in which open instances are other, and stand again
epochs_opened : (files : List Making) (sites : List Site) (calls : List CallSoFar) (ts : List Epoch) (which : Epoch → Bool) (f : Epoch → Epoch)
    → ((t : Epoch) → which t ≡ true → are_made files t.known ≡ true → are_made files (f t).known ≡ true) → ((t : Epoch) → which t ≡ true → list_all (is_sound files) t.opened ≡ true → list_all (is_sound files) (f t).opened ≡ true)
    → ((t : Epoch) → which t ≡ true → list_all (is_called calls) t.opened ≡ true → list_all (is_called calls) (f t).opened ≡ true) → MadeSay sites ts calls files → MadeSay sites (change which f ts) calls files
epochs_opened files sites calls ts which f known opened called a = record {
  held = a.held;
  known = all_changed (λ (t : Epoch). are_made files t.known) which f known ts a.known;
  opened = all_changed (λ (t : Epoch). list_all (is_sound files) t.opened) which f opened ts a.opened;
  called = all_changed (λ (t : Epoch). list_all (is_called calls) t.opened) which f called ts a.called;
}

-- instances that keep what they were granted and what they committed
instances_sound : (files : List Making) (q : Instance → Bool) (g : Instance → Instance) → ((x : Instance) → (g x).grant ≡ x.grant) → ((x : Instance) → (g x).work.committed ≡ x.work.committed) → (xs : List Instance) → list_all (is_sound files) xs ≡ true → list_all (is_sound files) (change q g xs) ≡ true
instances_sound files q g grant work xs h = all_changed (is_sound files) q g (λ x e k. ap (λ o. (is_none o && not ((g x).grant.file.ino == 1)) || is_made files (g x).grant.file) (work x) ∙ (ap (λ n. (is_none x.work.committed && not (n.file.ino == 1)) || is_made files n.file) (grant x) ∙ k)) xs h

instances_called : (calls : List CallSoFar) (q : Instance → Bool) (g : Instance → Instance) → ((x : Instance) → (g x).grant ≡ x.grant) → (xs : List Instance) → list_all (is_called calls) xs ≡ true → list_all (is_called calls) (change q g xs) ≡ true
instances_called calls q g grant xs h = all_changed (is_called calls) q g (λ x e k. ap (λ n. list_any (is_id n.call) calls) (grant x) ∙ k) xs h

-- calls that keep their names, and one more
calls_kept : (files : List Making) (sites : List Site) (ts : List Epoch) (calls : List CallSoFar) (which : CallSoFar → Bool) (f : CallSoFar → CallSoFar) → ((k : CallSoFar) → (f k).id ≡ k.id) → MadeSay sites ts calls files → MadeSay sites ts (change which f calls) files
calls_kept files sites ts calls which f keep a = record {
  held = a.held;
  known = a.known;
  opened = a.opened;
  called = called_more calls (change which f calls) (λ id h. any_changed (is_id id) which f (λ k e. ap (λ i. same_call i id) (keep k)) calls ∙ h) ts a.called;
}

call_more : (files : List Making) (sites : List Site) (ts : List Epoch) (calls : List CallSoFar) (k : CallSoFar) → MadeSay sites ts calls files → MadeSay sites ts (k ∷ calls) files
call_more files sites ts calls k a = record {
  held = a.held;
  known = a.known;
  opened = a.opened;
  called = called_more calls (k ∷ calls) (λ id h. later (is_id id k) (list_any (is_id id) calls) h) ts a.called;
}
  where
    later : (x y : Bool) → y ≡ true → (x || y) ≡ true
    later true y h = refl
    later false y h = h

-- more files are made
files_more : (old new : List Making) (sites : List Site) (ts : List Epoch) (calls : List CallSoFar) → MoreFiles old new → MadeSay sites ts calls old → MadeSay sites ts calls new
files_more old new sites ts calls more a = record {
  held = all_weaker (λ (s : Site). are_made old s.held) (λ (s : Site). are_made new s.held) (λ s h. copies_more old new more s.held h) sites a.held;
  known = all_weaker (λ (t : Epoch). are_made old t.known) (λ (t : Epoch). are_made new t.known) (λ t h. copies_more old new more t.known h) ts a.known;
  opened = all_weaker (λ (t : Epoch). list_all (is_sound old) t.opened) (λ (t : Epoch). list_all (is_sound new) t.opened) (λ t h. sound_more old new more t.opened h) ts a.opened;
  called = a.called;
}

-- An epoch is formed.

formed_made : (e : EpochId) (members : Members) (p : Past) → AreMade p → AreMade (with_epoch e members p)
formed_made e members p a = over (list_any (is_epoch e) p.epochs) refl
  where
    over : (b : Bool) → list_any (is_epoch e) p.epochs ≡ b → AreMade (with_epoch e members p)
    over true h = rw h a
    over false h = rw h (record { held = a.held; known = a.known; opened = a.opened; called = a.called })

pub formed_files : (e : EpochId) (members : Members) (p : Past) → (with_epoch e members p).files ≡ p.files
formed_files e members p = over (list_any (is_epoch e) p.epochs) refl
  where
    over : (b : Bool) → list_any (is_epoch e) p.epochs ≡ b → (with_epoch e members p).files ≡ p.files
    over true h = rw h refl
    over false h = rw h refl

-- what a site has is made
pub site_made : (p : Past) (site : ℕ) → AreMade p → are_made p.files (site_at p site).held ≡ true
site_made p site a = all_first_or (λ (s : Site). are_made p.files s.held) (has_number site) no_site p.sites refl a.held

-- What becomes of an epoch by some records.

abbrev begins_at : Past → ℕ → ℕ → CallId → Call → Beginning
begins_at p site process id words = beginning (table p site process) (site_at p site).epoch id words

abbrev once_used : Past → ℕ → ℕ → CallId → Call → Epoch → Epoch
once_used p site process id words t = record t { opened = change (uses (begins_at p site process id words) words t.id) (λ (x : Instance). record x { uses = x.uses + 1 }) t.opened }

abbrev once_granted : Past → Granted → Option Stamp → Epoch → Epoch
once_granted p g stamp t = record t { granted = g ∷ t.granted; opened = t.opened ++ opened_as p g stamp ∷ [] }

abbrev once_committed : FileId → ℕ → Stamp → Epoch → Epoch
once_committed f site stamp t = record t { opened = change (is_writer f site) (λ (x : Instance). record x { work = committed stamp x.work }) t.opened }

-- a descriptor that the answered call takes names the instance
abbrev is_taken : Reply → CallSoFar → Epoch → Instance → Bool
is_taken r k t x = list_any (λ (d : Descriptor). is_in (Some d.epoch) t.id && is_named d.inst x) (named_by r k)

-- what a reply makes of an instance keeps whose it is, and its work
pub once_grant : (r : Reply) (x : Instance) → (once_named r x).grant ≡ x.grant
once_grant (reply.Data bytes) x = refl
once_grant _ x = refl

once_kept : (r : Reply) (x : Instance) → (once_named r x).work.committed ≡ x.work.committed
once_kept (reply.Data bytes) x = refl
once_kept _ x = refl

abbrev once_replied : Reply → CallSoFar → Epoch → Epoch
once_replied r k t = record t { opened = change (is_taken r k t) (once_named r) t.opened; unmended = cond (is_in k.epoch t.id) (left_unmended r k.words) [] ++ t.unmended }

-- Other parts of what becomes of the past.

answered_made : {X : Type 0} (which : X → CallSoFar → Bool) (b : X → Answer) (xs : List X) (p : Past) → AreMade p → AreMade (fold (λ old x. answered (which x) (b x) old) p xs)
answered_made which b [] p a = a
answered_made which b (x ∷ xs) p a = answered_made which b xs (answered (which x) (b x) p)
    (made_as_said (answered (which x) (b x) p) (calls_kept p.files p.sites p.epochs p.calls (which x) (λ (k : CallSoFar). record k { answers = k.answers ++ b x ∷ [] }) (λ k. refl) (made_of_past p a)))

pub answered_files : {X : Type 0} (which : X → CallSoFar → Bool) (b : X → Answer) (xs : List X) (p : Past) → (fold (λ old x. answered (which x) (b x) old) p xs).files ≡ p.files
answered_files which b [] p = refl
answered_files which b (x ∷ xs) p = answered_files which b xs (answered (which x) (b x) p)

-- a committed file is made
pub committed_made : (c : Config) (before : Trace) (p : Past) (f : FileId) (site : ℕ) (stamp : Stamp) (parents : List Stamp) (content : List ℕ) → MayCommit c before f site stamp parents content → Agrees c before p → is_made (with_making c f site p) f ≡ true
committed_made c before p f site stamp parents content may a =
    over (home_found p may.epoch (a.epochs.inside site may.epoch may.inside)) (open_here c before p may.epoch f.group (is_writing f) may.instance a (filter_finds (is_writing f) (tree_of c may.epoch f.group before).instances may.instance [] may.one))
  where
    over : ((epoch_at p may.epoch).id ≡ may.epoch) × (find (is_epoch (epoch_at p may.epoch).id) p.epochs ≡ Some (epoch_at p may.epoch)) → OpenHere (epoch_at p may.epoch) f.group (is_writing f) may.instance → is_made (with_making c f site p) f ≡ true
    over home it = commit_makes c p f site (epoch_at p may.epoch) _ it.one
        (ap (λ o. is_in o (epoch_at p may.epoch).id) (a.sites.epoch site ∙ may.inside) ∙ (ap (λ i. same_epoch may.epoch i) home.0 ∙ epoch_own may.epoch))
        home.1 it.found
        (writes (both_parts (same_file it.one.grant.file f) _ it.passes))
        (all_found (is_called p.calls) _ (epoch_at p may.epoch).opened it.one it.found (opened_at p may.epoch (is_called p.calls) a.made.called))
      where
        at : it.one.grant.ss ≡ site
        at = ap (λ (y : TreeInstance). y.grant.ss) it.is ∙ may.at

        writes : (same_file it.one.grant.file f ≡ true) × (not (is_read it.one.grant.mode) ≡ true) → is_writer f site it.one ≡ true
        writes parts = both (same_file it.one.grant.file f) _ parts.0 (both (it.one.grant.ss == site) _ (ap (λ n. n == site) at ∙ number_own site) parts.1)

-- Each record.

pub made_step : (c : Config) (what : Record) (before : Trace) (p : Past) → MayCome c before what → SaysGiven c before what → Agrees c before p → AreMade (after c what p)
made_step c (rec.Up site boot) before p may given a = made_as_said (after c (rec.Up site boot) p) (sites_kept p.files p.epochs p.calls p.sites (has_number site) _ (λ s. refl) (made_of_past p a.made))
made_step c (rec.Stopped site why) before p may given a = made_as_said (after c (rec.Stopped site why) p)
    (sites_kept p.files _ _ _ (has_number site) _ (λ s. refl) (calls_kept p.files _ _ p.calls (λ k. k.id.site == site) _ (λ k. refl) (sites_kept p.files _ p.calls p.sites (has_number site) _ (λ s. refl) (epochs_kept p.files p.sites p.calls p.epochs (is_home_of p site) _ (λ t. refl) (λ t. refl) (made_of_past p a.made)))))
made_step c (rec.Leave site e) before p may given a = made_as_said (after c (rec.Leave site e) p)
    (sites_kept p.files _ p.calls p.sites (has_number site) _ (λ s. refl) (epochs_kept p.files p.sites p.calls p.epochs (is_home_of p site) _ (λ t. refl) (λ t. refl) (made_of_past p a.made)))
made_step c (rec.Join site e members) before p may given a = made_as_said (after c (rec.Join site e members) p) (joins (with_epoch e members p) (formed_made e members p a.made) (subst (λ files. are_made files (site_at p site).held ≡ true) (sym (formed_files e members p)) (site_made p site a.made)))
  where
    joins : (q : Past) → AreMade q → are_made q.files (site_at p site).held ≡ true
        → MadeSay (change (has_number site) (λ (s : Site). record s { epoch = Some e; joined = Some e }) q.sites) (change (is_epoch e) (λ (t : Epoch). record t { joined = site ∷ t.joined; known = with_all_known (site_at p site).held t.known }) q.epochs) q.calls q.files
    joins q b own = sites_kept q.files _ q.calls q.sites (has_number site) _ (λ s. refl)
        (epochs_opened q.files q.sites q.calls q.epochs (is_epoch e) (λ (t : Epoch). record t { joined = site ∷ t.joined; known = with_all_known (site_at p site).held t.known })
        (λ t h k. all_known_made q.files (site_at p site).held t.known own k) (λ t h k. k) (λ t h k. k) (made_of_past q b))
made_step c (rec.Start e group copies) before p may given a = made_as_said (after c (rec.Start e group copies) p) (epochs_kept p.files p.sites p.calls p.epochs (is_epoch e) _ (λ t. refl) (λ t. refl) (made_of_past p a.made))
made_step c (rec.Accept site process id words) before p may given a = made_as_said (after c (rec.Accept site process id words) p)
    (sites_kept p.files _ _ p.sites (has_number site) _ (λ s. refl)
    (epochs_opened p.files p.sites _ p.epochs (λ t. is_in (site_at p site).epoch t.id) (once_used p site process id words)
    (λ t h k. k)
    (λ t h k. instances_sound p.files (uses (begins_at p site process id words) words t.id) (λ x. record x { uses = x.uses + 1 }) (λ x. refl) (λ x. refl) t.opened k)
    (λ t h k. instances_called (begun_call p site process id words (begins_at p site process id words) ∷ p.calls) (uses (begins_at p site process id words) words t.id) (λ x. record x { uses = x.uses + 1 }) (λ x. refl) t.opened k)
    (call_more p.files p.sites p.epochs p.calls (begun_call p site process id words (begins_at p site process id words)) (made_of_past p a.made))))
made_step c (rec.Look e id request f w result) before p may given a = made_as_said (after c (rec.Look e id request f w result) p) (calls_kept p.files p.sites p.epochs p.calls (is_id id) _ (λ k. refl) (made_of_past p a.made))
made_step c (rec.Grant e id request i m f stamp ss) before p may given a = made_as_said (after c (rec.Grant e id request i m f stamp ss) p)
    (calls_kept p.files p.sites _ p.calls (is_id id) _ (λ k. refl)
    (epochs_opened p.files p.sites p.calls p.epochs (is_epoch e) (once_granted p (record { inst = i; call = id; process = process_of p id; mode = m; file = f; ss = ss }) stamp)
    (λ t h k. k)
    (λ t h k. all_joined (is_sound p.files) t.opened (opened_as p (record { inst = i; call = id; process = process_of p id; mode = m; file = f; ss = ss }) stamp ∷ []) k
    (all_more (is_sound p.files) (opened_as p (record { inst = i; call = id; process = process_of p id; mode = m; file = f; ss = ss }) stamp) [] (granted_sound c before p e id request i m f stamp ss may a) refl))
    (λ t h k. all_joined (is_called p.calls) t.opened (opened_as p (record { inst = i; call = id; process = process_of p id; mode = m; file = f; ss = ss }) stamp ∷ []) k
    (all_more (is_called p.calls) (opened_as p (record { inst = i; call = id; process = process_of p id; mode = m; file = f; ss = ss }) stamp) [] (accepted_there c before p id may.opens.step.accepted a.calls may.opens.step.named) refl))
    (made_of_past p a.made)))
made_step c (rec.Refuse e id request i m f why) before p may given a = made_as_said (after c (rec.Refuse e id request i m f why) p)
    (calls_kept p.files p.sites _ p.calls (is_id id) _ (λ k. refl) (epochs_kept p.files p.sites p.calls p.epochs (is_epoch e) _ (λ t. refl) (λ t. refl) (made_of_past p a.made)))
made_step c (rec.Act e i n o result) before p may given a = made_as_said (after c (rec.Act e i n o result) p)
    (epochs_opened p.files p.sites _ p.epochs (is_epoch e) (acted i o result p)
    (λ t h k. k)
    (λ t h k. instances_sound p.files (is_named i) (λ x. record x { work = work_after p t o result x }) (λ x. refl) (work_kept p t o result) t.opened k)
    (λ t h k. instances_called (change (is_actor (epoch_at p e) i n) (λ (k : CallSoFar). record k { answers = k.answers ++ outcome_answer result ∷ [] }) p.calls) (is_named i) (λ x. record x { work = work_after p t o result x }) (λ x. refl) t.opened k)
    (calls_kept p.files p.sites p.epochs p.calls (is_actor (epoch_at p e) i n) (λ (k : CallSoFar). record k { answers = k.answers ++ outcome_answer result ∷ [] }) (λ k. refl) (made_of_past p a.made)))
made_step c (rec.Commit f site stamp parents content) before p may given a = made_as_said (after c (rec.Commit f site stamp parents content) p)
    (epochs_opened (with_making c f site p) _ p.calls p.epochs (is_home_of p site) (once_committed f site stamp)
    (λ t h k. k)
    (λ t h k. all_changed (is_sound (with_making c f site p)) (is_writer f site) (λ x. record x { work = committed stamp x.work })
    (λ x w l. subst (λ g. is_made (with_making c f site p) g ≡ true) (sym (file_eq x.grant.file f (both_parts (same_file x.grant.file f) _ w).0)) (committed_made c before p f site stamp parents content may a)) t.opened k)
    (λ t h k. instances_called p.calls (is_writer f site) (λ x. record x { work = committed stamp x.work }) (λ x. refl) t.opened k)
    (site_has (with_making c f site p) p.epochs p.calls p.sites (has_number site) (record { file = f; stamp = stamp }) (λ v. not (same_file v.file f)) (committed_made c before p f site stamp parents content may a)
    (files_more p.files (with_making c f site p) p.sites p.epochs p.calls (makings_more c p f site) (made_of_past p a.made))))
made_step c (rec.Release e i f stamp) before p may given a = made_as_said (after c (rec.Release e i f stamp) p)
    (releases (fold (λ old x. answered (is_ender (epoch_at p e) i) (close_answer stamp x) old) p (filter (is_named i) (epoch_at p e).opened))
    (answered_made (λ x. is_ender (epoch_at p e) i) (close_answer stamp) (filter (is_named i) (epoch_at p e).opened) p a.made)
    (subst (λ files. are_made files (map (λ s. record { file = f; stamp = s }) (list_of stamp)) ≡ true) (sym (answered_files (λ x. is_ender (epoch_at p e) i) (close_answer stamp) (filter (is_named i) (epoch_at p e).opened) p))
    (published stamp may.gives)))
  where
    releases : (q : Past) → AreMade q → are_made q.files (map (λ s. record { file = f; stamp = s }) (list_of stamp)) ≡ true → MadeSay q.sites (change (is_epoch e) (released i f stamp) q.epochs) q.calls q.files
    releases q b own = epochs_opened q.files q.sites q.calls q.epochs (is_epoch e) (released i f stamp)
        (λ t h k. all_known_made q.files (map (λ s. record { file = f; stamp = s }) (list_of stamp)) t.known own k)
        (λ t h k. all_filtered (is_sound q.files) (λ x. not (is_named i x)) t.opened k)
        (λ t h k. all_filtered (is_called q.calls) (λ x. not (is_named i x)) t.opened k)
        (made_of_past q b)

    published : (o : Option Stamp) → gives_release (history c before) (tree_of c e f.group before) i f o ≡ true → are_made p.files (map (λ s. record { file = f; stamp = s }) (list_of o)) ≡ true
    published None h = refl
    published (Some s) h = all_more (λ (v : Copy). is_made p.files v.file) (record { file = f; stamp = s }) [] (release_made c before p e i f s a a.made h) refl
made_step c (rec.Adopt f site stamp) before p may given a = made_as_said (after c (rec.Adopt f site stamp) p)
    (site_has p.files p.epochs p.calls p.sites (has_number site) (record { file = f; stamp = stamp }) (λ v. not (same_file v.file f))
    (candidate_made p.files f stamp (epoch_at p may.epoch).known (ap (λ ss. has_stamp ss stamp) (sym (candidates_alike c before p may.epoch f a)) ∙ may.known) (known_at p may.epoch a.made)) (made_of_past p a.made))
made_step c (rec.Answer site process id r) before p may given a = made_as_said (after c (rec.Answer site process id r) p) (over (caller_of c before p site process id may.caller a.calls may.waits))
  where
    over : Caller before p site process id may.caller → MadeSay (after c (rec.Answer site process id r) p).sites (after c (rec.Answer site process id r) p).epochs (after c (rec.Answer site process id r) p).calls (after c (rec.Answer site process id r) p).files
    over by = subst (λ (ks : List CallSoFar). MadeSay (fold (λ old k. replied_to r k old) p ks).sites (fold (λ old k. replied_to r k old) p ks).epochs (fold (λ old k. replied_to r k old) p ks).calls (fold (λ old k. replied_to r k old) p ks).files) (sym by.only)
        (sites_kept p.files _ _ p.sites (has_number by.k.id.site) _ (λ s. refl)
        (epochs_opened p.files p.sites _ p.epochs (λ t. true) (once_replied r by.k)
        (λ t h k. k)
        (λ t h k. instances_sound p.files (is_taken r by.k t) (once_named r) (once_grant r) (once_kept r) t.opened k)
        (λ t h k. instances_called (change (is_id by.k.id) (λ (x : CallSoFar). record x { waits = false }) p.calls) (is_taken r by.k t) (once_named r) (once_grant r) t.opened k)
        (calls_kept p.files p.sites p.epochs p.calls (is_id by.k.id) (λ (x : CallSoFar). record x { waits = false }) (λ k. refl) (made_of_past p a.made))))
made_step c what before p may given a = made_as_said (after c what p) (made_of_past p a.made)

-- Before the first record.

first_made : (c : Config) (ns : List ℕ) → list_all (λ (s : Site). are_made (nothing_yet c).files s.held) (map (first_site c) ns) ≡ true
first_made c ns = all_mapped (λ (s : Site). are_made (nothing_yet c).files s.held) (first_site c) roots ns
  where
    roots : (n : ℕ) → are_made (nothing_yet c).files (first_site c n).held ≡ true
    roots n = all_images (λ (v : Copy). is_made (nothing_yet c).files v.file) (λ group. record { file = root_of group; stamp = format_stamp }) (filter (λ group. has_pack c group n) groups)
        (all_filtered (λ group. is_made (nothing_yet c).files (root_of group)) (λ group. has_pack c group n) groups refl)

pub made_begin : (c : Config) → AreMade (nothing_yet c)
made_begin c = record { held = first_made c (numbers_from 1 c.sites); known = refl; opened = refl; called = refl }
