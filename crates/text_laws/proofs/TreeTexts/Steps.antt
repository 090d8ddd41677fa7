-- A past of texts is one again by each change that a record makes.
use Rattle.std.proofs.Common.{◌≡◌, ℕ, ◌==◌, not, Bool, true, false, cond, List, [], ◌∷◌, ◌++◌, filter, map, take, Option, Some, None, refl}
use Rattle.std.specs.Prelude.{fold}
use Rattle.std.specs.List.{list_all, list_any, AllByRecursion}
use Rattle.locus_ids.specs.declared.config.Config.{Config}
use Rattle.locus_ids.specs.declared.sites.Members.{Members}
use Rattle.locus_ids.specs.declared.ids.CallId.{CallId}
use Rattle.locus_ids.specs.declared.ids.EpochId.{EpochId}
use Rattle.locus_ids.specs.declared.ids.FileId.{FileId}
use Rattle.locus_ids.specs.declared.ids.Serial.{Serial}
use Rattle.locus_ids.specs.declared.ids.Stamp.{Stamp}
use Rattle.commit_graph.specs.Versions.{same_file}
use Rattle.commit_graph.specs.declared.history.Version.{Version}
use Rattle.trace_book.specs.Same.{same_call}
use Rattle.trace_book.specs.declared.operation.Op.{Op}
use Rattle.trace_book.specs.declared.operation.Outcome.{Outcome}
use Rattle.call_rules.specs.declared.answer.Answer.{Answer}
use Rattle.text_laws.specs.CallTexts.Wants.{is_answer, is_asked_op}
use Rattle.file_effects.specs.Works.{committed}
use Rattle.tree_model.specs.Files.{kind_made}
use Rattle.tree_model.specs.Opening.{sites_made}
use Rattle.tree_model.specs.Packs.{packs_of}
use Rattle.tree_model.specs.Working.{list_of}
use Rattle.promises.specs.Past.{Past, Site, Epoch, Instance, CallSoFar, Copy, Make, Making, is_named, is_writer, site_at, unformed}
use Rattle.promises.specs.After.{acted, answered, change, close_answer, committed_at, departed, has_now, is_copy_below, is_epoch, is_home_of, is_id, joined, released, stopped, with_all_known, with_epoch, with_known, with_making, writers_of}
use Rattle.promises.specs.Tree.{work_after}
use Rattle.past_laws.proofs.Alls.{all_filtered, all_first, all_joined, all_mapped, all_more}
use Rattle.past_laws.proofs.CallsLists.{each_changed, each_filter}
use Rattle.past_laws.proofs.Names.{both}
use Rattle.record_reading.specs.Ranges as range
use Rattle.text_laws.proofs.TreeTexts.Answering.{close_text}
use Rattle.text_laws.proofs.TreeTexts.Texts.{CallText, EpochText, InstanceText, PastText, SiteText, are_left, has_data, is_copy, is_making, site_held}
use Rattle.text_laws.proofs.TreeTexts.Works.{acted_text}

pub each_again : {X : Type 0} (P : X → Type 0) (which : X → Bool) (f : X → X) → ((x : X) → P x → P (f x)) → (xs : List X) → AllByRecursion P xs → AllByRecursion P (change which f xs)
each_again P which f again xs h = each_changed P P which f (λ x e k. again x k) (λ x e k. k) xs h

-- ---- sites come and go ----

pub booted_text : (p : Past) (site boot : ℕ) → PastText p → AllByRecursion SiteText (change (λ (s : Site). s.number == site) (λ (s : Site). record s { up = true; boot = boot; joined = None; accepted = 0 }) p.sites)
booted_text p site boot h = each_again SiteText (λ (s : Site). s.number == site) (λ (s : Site). record s { up = true; boot = boot; joined = None; accepted = 0 }) (λ s k. record { number = k.number; epoch = k.epoch; names = k.names; held = k.held }) p.sites h.sites

pub departed_text : (p : Past) (site : ℕ) → PastText p → PastText (departed site p)
departed_text p site h = record {
  sites = each_again SiteText (λ (s : Site). s.number == site) (λ (s : Site). record s { epoch = None }) (λ s k. record { number = k.number; epoch = refl; names = k.names; held = k.held }) p.sites h.sites;
  epochs = each_again EpochText (is_home_of p site) (λ (t : Epoch). record t { left = record { site = site; held = (site_at p site).held } ∷ t.left })
      (λ t k. record { id = k.id; joined = k.joined; left = all_more are_left (record { site = site; held = (site_at p site).held }) t.left (site_held p site h) k.left; known = k.known; started = k.started; opened = k.opened }) p.epochs h.epochs;
  calls = h.calls;
  history = h.history;
  files = h.files;
}

pub unwaited : (k : CallSoFar) → CallText k → CallText (record k { waits = false })
unwaited k h = record { id = h.id; process = h.process; words = h.words; epoch = h.epoch; begins = h.begins; free = h.free; granted = h.granted; answers = h.answers }

pub stopped_text : (p : Past) (site : ℕ) → PastText p → PastText (stopped site p)
stopped_text p site h = let k : PastText (departed site p) = departed_text p site h in record {
  sites = each_again SiteText (λ (s : Site). s.number == site) (λ (s : Site). record s { up = false; descriptors = [] }) (λ s j. record { number = j.number; epoch = j.epoch; names = refl; held = j.held }) (departed site p).sites k.sites;
  epochs = k.epochs;
  calls = each_again CallText (λ (c : CallSoFar). c.id.site == site) (λ (c : CallSoFar). record c { waits = false }) unwaited p.calls h.calls;
  history = k.history;
  files = k.files;
}

-- ---- versions that are known ----

known_one : (new : Copy) (vs : List Copy) → is_copy new ≡ true → list_all is_copy vs ≡ true → list_all is_copy (with_known new vs) ≡ true
known_one new [] h k = all_more is_copy new [] h refl
known_one new (v ∷ vs) h k = let parts = all_first is_copy v vs k in over parts.0 (known_one new vs h parts.1) (is_copy_below new v) (is_copy_below v new)
  where
    over : is_copy v ≡ true → list_all is_copy (with_known new vs) ≡ true → (a b : Bool) → list_all is_copy (cond a (new ∷ v ∷ vs) (cond b (v ∷ with_known new vs) (v ∷ vs))) ≡ true
    over own later true b = all_more is_copy new (v ∷ vs) h k
    over own later false true = all_more is_copy v (with_known new vs) own later
    over own later false false = k

known_text : (news vs : List Copy) → list_all is_copy news ≡ true → list_all is_copy vs ≡ true → list_all is_copy (with_all_known news vs) ≡ true
known_text [] vs h k = k
known_text (new ∷ news) vs h k = let parts = all_first is_copy new news h in known_text news (with_known new vs) parts.1 (known_one new vs parts.0 k)

-- ---- joins ----

listed_text : (p : Past) (e : EpochId) (members : Members) → range.is_epoch e ≡ true → PastText p → PastText (with_epoch e members p)
listed_text p e members named h = over (list_any (is_epoch e) p.epochs)
  where
    new : EpochText (record (unformed e) { members = members })
    new = record { id = named; joined = refl; left = refl; known = refl; started = refl; opened = tt }

    over : (b : Bool) → PastText (cond b p (record p { epochs = record (unformed e) { members = members } ∷ p.epochs }))
    over true = h
    over false = record { sites = h.sites; epochs = (new, h.epochs); calls = h.calls; history = h.history; files = h.files }

pub joined_text : (p : Past) (site : ℕ) (e : EpochId) (members : Members) → range.is_any_site site ≡ true → range.is_epoch e ≡ true → PastText p → PastText (joined site e members p)
joined_text p site e members there named h = let k : PastText (with_epoch e members p) = listed_text p e members named h in record {
  sites = each_again SiteText (λ (s : Site). s.number == site) (λ (s : Site). record s { epoch = Some e; joined = Some e }) (λ s j. record { number = j.number; epoch = named; names = j.names; held = j.held }) (with_epoch e members p).sites k.sites;
  epochs = each_again EpochText (is_epoch e) (λ (t : Epoch). record t { joined = site ∷ t.joined; known = with_all_known (site_at p site).held t.known })
      (λ t j. record { id = j.id; joined = all_more range.is_any_site site t.joined there j.joined; left = j.left; known = known_text (site_at p site).held t.known (site_held p site h) j.known; started = j.started; opened = j.opened }) (with_epoch e members p).epochs k.epochs;
  calls = k.calls;
  history = k.history;
  files = k.files;
}

pub started_text : (p : Past) (e : EpochId) (group : ℕ) → range.is_group group ≡ true → PastText p → AllByRecursion EpochText (change (is_epoch e) (λ (t : Epoch). record t { started = group ∷ t.started }) p.epochs)
started_text p e group good h = each_again EpochText (is_epoch e) (λ (t : Epoch). record t { started = group ∷ t.started }) (λ t j. record { id = j.id; joined = j.joined; left = j.left; known = j.known; started = all_more range.is_group group t.started good j.started; opened = j.opened }) p.epochs h.epochs

-- ---- answers ----

with_answers : (k : CallSoFar) (xs : List Answer) → CallText k → list_all is_answer xs ≡ true → CallText (record k { answers = xs })
with_answers k xs h good = record { id = h.id; process = h.process; words = h.words; epoch = h.epoch; begins = h.begins; free = h.free; granted = h.granted; answers = good }

pub one_answer : (xs : List Answer) (a : Answer) → list_all is_answer xs ≡ true → is_answer a ≡ true → list_all is_answer (xs ++ a ∷ []) ≡ true
one_answer xs a h k = all_joined is_answer xs (a ∷ []) h (both (is_answer a) true k refl)

pub answered_text : (which : CallSoFar → Bool) (a : Answer) (p : Past) → is_answer a ≡ true → PastText p → PastText (answered which a p)
answered_text which a p good h = record {
  sites = h.sites;
  epochs = h.epochs;
  calls = each_again CallText which (λ (k : CallSoFar). record k { answers = k.answers ++ a ∷ [] }) (λ k own. with_answers k (k.answers ++ a ∷ []) own (one_answer k.answers a own.answers good)) p.calls h.calls;
  history = h.history;
  files = h.files;
}

pub looked_text : (p : Past) (id : CallId) (n : ℕ) (a : Answer) → ((xs : List Answer) → list_all is_answer xs ≡ true → list_all is_answer (take n xs) ≡ true) → is_answer a ≡ true → PastText p → AllByRecursion CallText (change (is_id id) (λ (k : CallSoFar). record k { answers = take n k.answers ++ a ∷ [] }) p.calls)
looked_text p id n a taken good h = each_again CallText (is_id id) (λ (k : CallSoFar). record k { answers = take n k.answers ++ a ∷ [] }) (λ k own. with_answers k (take n k.answers ++ a ∷ []) own (one_answer (take n k.answers) a (taken k.answers own.answers) good)) p.calls h.calls

-- what an instance that ends answers
pub closed_text : (which : CallSoFar → Bool) (stamp : Option Stamp) (xs : List Instance) (p : Past) → range.is_optional_stamp stamp ≡ true → PastText p → PastText (fold (λ (old : Past) (x : Instance). answered which (close_answer stamp x) old) p xs)
closed_text which stamp [] p good h = h
closed_text which stamp (x ∷ xs) p good h = closed_text which stamp xs (answered which (close_answer stamp x) p) good (answered_text which (close_answer stamp x) p (close_text stamp x good) h)

-- ---- operations and releases ----

pub refused_text : (p : Past) (e : EpochId) (q : Make → Bool) → PastText p → AllByRecursion EpochText (change (is_epoch e) (λ (t : Epoch). record t { makes = filter q t.makes }) p.epochs)
refused_text p e q h = each_again EpochText (is_epoch e) (λ (t : Epoch). record t { makes = filter q t.makes }) (λ t j. record { id = j.id; joined = j.joined; left = j.left; known = j.known; started = j.started; opened = j.opened }) p.epochs h.epochs

pub acted_epochs : (p : Past) (e : EpochId) (i : Serial) (o : Op) (result : Outcome) → is_asked_op o ≡ true → PastText p → AllByRecursion EpochText (change (is_epoch e) (acted i o result p) p.epochs)
acted_epochs p e i o result words h = each_again EpochText (is_epoch e) (acted i o result p)
    (λ t j. record { id = j.id; joined = j.joined; left = j.left; known = j.known; started = j.started; opened = each_again InstanceText (is_named i) (λ (x : Instance). record x { work = work_after p t o result x }) (λ x own. acted_text p t o result x h words own) t.opened j.opened }) p.epochs h.epochs

stamps_copies : (f : FileId) (stamp : Option Stamp) → range.is_file f ≡ true → range.is_optional_stamp stamp ≡ true → list_all is_copy (map (λ s. record { file = f; stamp = s }) (list_of stamp)) ≡ true
stamps_copies f None h k = refl
stamps_copies f (Some s) h k = all_more is_copy (record { file = f; stamp = s }) [] (both (range.is_file f) (range.is_stamp s) h k) refl

pub released_epochs : (i : Serial) (e : EpochId) (f : FileId) (stamp : Option Stamp) (epochs : List Epoch) → range.is_file f ≡ true → range.is_optional_stamp stamp ≡ true → AllByRecursion EpochText epochs → AllByRecursion EpochText (change (is_epoch e) (released i f stamp) epochs)
released_epochs i e f stamp epochs good named h = each_again EpochText (is_epoch e) (released i f stamp)
    (λ t j. record { id = j.id; joined = j.joined; left = j.left; known = known_text (map (λ s. record { file = f; stamp = s }) (list_of stamp)) t.known (stamps_copies f stamp good named) j.known; started = j.started; opened = each_filter InstanceText (λ x. not (is_named i x)) t.opened j.opened }) epochs h

-- ---- versions on disks ----

pub held_now : (p : Past) (site : ℕ) (new : Copy) → is_copy new ≡ true → PastText p → PastText (has_now site new p)
held_now p site new good h = record {
  sites = each_again SiteText (λ (s : Site). s.number == site) (λ (s : Site). record s { held = new ∷ filter (λ (v : Copy). not (same_file v.file new.file)) s.held })
      (λ s k. record { number = k.number; epoch = k.epoch; names = k.names; held = all_more is_copy new (filter (λ (v : Copy). not (same_file v.file new.file)) s.held) good (all_filtered is_copy (λ (v : Copy). not (same_file v.file new.file)) s.held k.held) }) p.sites h.sites;
  epochs = h.epochs;
  calls = h.calls;
  history = h.history;
  files = h.files;
}

makings_text : (c : Config) (f : FileId) (site : ℕ) (p : Past) → range.is_file f ≡ true → PastText p → list_all is_making (with_making c f site p) ≡ true
makings_text c f site p good h = over (list_any (λ (m : Making). same_file m.file f) p.files)
  where
    made : CallSoFar → Making
    made k = record { file = f; kind = kind_made (Some k.words); set = sites_made (packs_of c f.group) (Some k.words) }

    owners : List CallSoFar
    owners = filter (λ (k : CallSoFar). list_any (λ (x : Instance). same_call x.grant.call k.id) (writers_of p f site)) p.calls

    over : (b : Bool) → list_all is_making (cond b p.files (map made owners ++ p.files)) ≡ true
    over true = h.files
    over false = all_joined is_making (map made owners) p.files (all_mapped is_making made (λ k. good) owners) h.files

pub committed_text : (c : Config) (v : Version) (p : Past) → range.is_file v.file ≡ true → range.is_stamp v.stamp ≡ true → has_data v ≡ true → PastText p → PastText (committed_at c v p)
committed_text c v p good named content h =
    let k : PastText (has_now v.site (record { file = v.file; stamp = v.stamp }) p) = held_now p v.site (record { file = v.file; stamp = v.stamp }) (both (range.is_file v.file) (range.is_stamp v.stamp) good named) h in
    record {
      sites = k.sites;
      epochs = each_again EpochText (is_home_of p v.site) (λ (t : Epoch). record t { opened = change (is_writer v.file v.site) (λ (x : Instance). record x { work = committed v.stamp x.work }) t.opened })
          (λ t j. record {
            id = j.id;
            joined = j.joined;
            left = j.left;
            known = j.known;
            started = j.started;
            opened = each_again InstanceText (is_writer v.file v.site) (λ (x : Instance). record x { work = committed v.stamp x.work })
                (λ x own. record { inst = own.inst; call = own.call; process = own.process; file = own.file; content = own.content; last = named; committed = named }) t.opened j.opened;
          }) p.epochs h.epochs;
      calls = k.calls;
      history = all_more has_data v p.history content h.history;
      files = makings_text c v.file v.site p good h;
    }
