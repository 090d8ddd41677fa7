-- What the past of texts tells is in range: of sites, epochs, open instances, calls, versions and files.
use Rattle.std.proofs.Common.{◌≡◌, ℕ, ◌==◌, Bool, true, false, cond, ◌&&◌, ◌||◌, List, [], ◌∷◌, filter, Option, Some, None, refl, subst}
use Rattle.std.specs.List.{find, list_all, list_any, AllByRecursion}
use Rattle.std.specs.Option.{option_map}
use Rattle.locus_ids.specs.Sizes.{file_bytes_max}
use Rattle.locus_ids.specs.declared.ids.EpochId.{EpochId}
use Rattle.locus_ids.specs.declared.ids.FileId.{FileId}
use Rattle.locus_ids.specs.declared.ids.Stamp.{Stamp}
use Rattle.commit_graph.specs.Versions.{content_of, is_version, same_file}
use Rattle.commit_graph.specs.declared.history.Version.{Version}
use Rattle.trace_book.specs.declared.descriptor.Descriptor.{Descriptor}
use Rattle.trace_book.specs.declared.descriptor.OneVersion.{OneVersion}
use Rattle.text_laws.specs.CallTexts.Wants.{is_answer, is_begun, is_free}
use Rattle.record_reading.specs.Ranges as range
use Rattle.tree_model.specs.Epochs.{is_in}
use Rattle.tree_model.specs.Histories.{stamped_content}
use Rattle.promises.specs.Past.{Past, Site, Epoch, Instance, CallSoFar, Copy, Left, Making, Named, first_or, no_site, unformed, site_at, epoch_at, candidates, kept_in, copies_in, held_in, stamp_in, table}
use Rattle.promises.specs.After.{is_epoch}
use Rattle.past_laws.proofs.Alls.{all_filtered, all_first, all_first_or, all_found, all_images, all_weaker}
use Rattle.past_laws.proofs.Names.{both_parts, epoch_eq, false_true, number_eq}

-- ---- parts ----

abbrev pub is_copy : Copy → Bool
is_copy v = range.is_file v.file && range.is_stamp v.stamp

abbrev pub is_optional_epoch : Option EpochId → Bool
is_optional_epoch None = true
is_optional_epoch (Some e) = range.is_epoch e

-- a version that a descriptor keeps is of a file
abbrev pub is_kept_version : Option OneVersion → Bool
is_kept_version None = true
is_kept_version (Some version) = range.is_file version.file

-- it is of an epoch that there can be
abbrev pub is_descriptor : Descriptor → Bool
is_descriptor d = range.is_epoch d.epoch && is_kept_version d.steady

abbrev pub is_optional_descriptor : Option Descriptor → Bool
is_optional_descriptor None = true
is_optional_descriptor (Some d) = is_descriptor d

abbrev pub is_name_of : Named → Bool
is_name_of d = is_descriptor d.names

abbrev pub are_left : Left → Bool
are_left l = list_all is_copy l.held

abbrev pub has_data : Version → Bool
has_data v = range.is_data file_bytes_max v.content

abbrev pub is_making : Making → Bool
is_making m = range.is_file m.file

pub record SiteText (s : Site) : Type 0 where
  pub number : range.is_any_site s.number ≡ true
  pub epoch : is_optional_epoch s.epoch ≡ true
  pub names : list_all is_name_of s.descriptors ≡ true
  pub held : list_all is_copy s.held ≡ true

pub record InstanceText (x : Instance) : Type 0 where
  pub inst : range.is_instance x.grant.inst ≡ true
  pub call : range.is_call_id x.grant.call ≡ true
  pub process : range.is_process x.grant.process ≡ true
  pub file : range.is_file x.grant.file ≡ true
  pub content : range.is_data file_bytes_max x.work.content ≡ true
  pub last : range.is_optional_stamp x.work.last ≡ true
  pub committed : range.is_optional_stamp x.work.committed ≡ true

pub record EpochText (t : Epoch) : Type 0 where
  pub id : range.is_epoch t.id ≡ true
  pub joined : list_all range.is_any_site t.joined ≡ true
  pub left : list_all are_left t.left ≡ true
  pub known : list_all is_copy t.known ≡ true
  pub started : list_all range.is_group t.started ≡ true
  pub opened : AllByRecursion InstanceText t.opened

pub record CallText (k : CallSoFar) : Type 0 where
  pub id : range.is_call_id k.id ≡ true
  pub process : range.is_process k.process ≡ true
  pub words : range.is_words k.process k.words ≡ true
  pub epoch : is_optional_epoch k.epoch ≡ true
  pub begins : is_begun k.begins ≡ true
  pub free : is_free k.free ≡ true
  pub granted : is_optional_descriptor k.granted ≡ true
  pub answers : list_all is_answer k.answers ≡ true

pub record PastText (p : Past) : Type 0 where
  pub sites : AllByRecursion SiteText p.sites
  pub epochs : AllByRecursion EpochText p.epochs
  pub calls : AllByRecursion CallText p.calls
  pub history : list_all has_data p.history ≡ true
  pub files : list_all is_making p.files ≡ true

-- ---- what is found in it ----

-- the first that passes, or the other value
pub each_or : {X : Type 0} (P Q : X → Type 0) (d : X) (q : X → Bool) (xs : List X) → Q d → ((x : X) → q x ≡ true → P x → Q x) → AllByRecursion P xs → Q (first_or d q xs)
each_or P Q d q [] other of k = other
each_or {X} P Q d q (x ∷ xs) other of k = at (q x) refl (each_or P Q d q xs other of k.1)
  where
    at : (b : Bool) → q x ≡ b → Q (first_or d q xs) → Q (cond b x (first_or d q xs))
    at true e later = of x e k.0
    at false e later = later

-- one of them that passes
pub each_any : {X : Type 0} (P : X → Type 0) (A : Type 0) (q : X → Bool) (xs : List X) → ((x : X) → q x ≡ true → P x → A) → AllByRecursion P xs → list_any q xs ≡ true → A
each_any P A q [] of k h = false_true h
each_any {X} P A q (x ∷ xs) of k h = at (q x) refl (each_any P A q xs of k.1) h
  where
    at : (b : Bool) → q x ≡ b → (list_any q xs ≡ true → A) → (b || list_any q xs) ≡ true → A
    at true e later g = of x e k.0
    at false e later g = later g

pub at_site : (Q : Site → Type 0) (p : Past) (site : ℕ) → PastText p → Q no_site → ((s : Site) → s.number ≡ site → SiteText s → Q s) → Q (site_at p site)
at_site Q p site h other of = each_or SiteText Q no_site (λ (s : Site). s.number == site) p.sites other (λ s e k. of s (number_eq s.number site e) k) h.sites

pub at_epoch : (Q : Epoch → Type 0) (p : Past) (e : EpochId) → PastText p → Q (unformed e) → ((t : Epoch) → t.id ≡ e → EpochText t → Q t) → Q (epoch_at p e)
at_epoch Q p e h other of = each_or EpochText Q (unformed e) (is_epoch e) p.epochs other (λ t w k. of t (epoch_eq t.id e w) k) h.epochs

in_text : (o : Option EpochId) (e : EpochId) → is_in o e ≡ true → is_optional_epoch o ≡ true → range.is_epoch e ≡ true
in_text None e h k = false_true h
in_text (Some now) e h k = subst (λ (d : EpochId). range.is_epoch d ≡ true) (epoch_eq now e h) k

pub call_epoch : (k : CallSoFar) (e : EpochId) → CallText k → is_in k.epoch e ≡ true → range.is_epoch e ≡ true
call_epoch k e h inside = in_text k.epoch e inside h.epoch

number_text : (s : Site) (site : ℕ) → s.number ≡ site → SiteText s → range.is_any_site site ≡ true
number_text s site e k = subst (λ (n : ℕ). range.is_any_site n ≡ true) e k.number

-- a site that runs, that is in an epoch, or that is there
pub up_site : (p : Past) (site : ℕ) → PastText p → (site_at p site).up ≡ true → range.is_any_site site ≡ true
up_site p site h = at_site (λ s. s.up ≡ true → range.is_any_site site ≡ true) p site h (λ e. false_true e) (λ s e k up. number_text s site e k)

pub home_site : (p : Past) (site : ℕ) (e : EpochId) → PastText p → is_in (site_at p site).epoch e ≡ true → range.is_any_site site ≡ true
home_site p site e h = at_site (λ s. is_in s.epoch e ≡ true → range.is_any_site site ≡ true) p site h (λ k. false_true k) (λ s f k i. number_text s site f k)

pub home_epoch : (p : Past) (site : ℕ) (e : EpochId) → PastText p → is_in (site_at p site).epoch e ≡ true → range.is_epoch e ≡ true
home_epoch p site e h = at_site (λ s. is_in s.epoch e ≡ true → range.is_epoch e ≡ true) p site h (λ k. false_true k) (λ s f k i. in_text s.epoch e i k.epoch)

pub there_site : (p : Past) (site : ℕ) → PastText p → list_any (λ (s : Site). s.number == site) p.sites ≡ true → range.is_any_site site ≡ true
there_site p site h = each_any SiteText (range.is_any_site site ≡ true) (λ (s : Site). s.number == site) p.sites (λ s e k. number_text s site (number_eq s.number site e) k) h.sites

pub site_epoch : (p : Past) (site : ℕ) → PastText p → is_optional_epoch (site_at p site).epoch ≡ true
site_epoch p site h = at_site (λ s. is_optional_epoch s.epoch ≡ true) p site h refl (λ s e k. k.epoch)

pub site_held : (p : Past) (site : ℕ) → PastText p → list_all is_copy (site_at p site).held ≡ true
site_held p site h = at_site (λ s. list_all is_copy s.held ≡ true) p site h refl (λ s e k. k.held)

site_names : (p : Past) (site : ℕ) → PastText p → list_all is_name_of (site_at p site).descriptors ≡ true
site_names p site h = at_site (λ s. list_all is_name_of s.descriptors ≡ true) p site h refl (λ s e k. k.names)

-- what a number of a process stands for
pub table_text : (p : Past) (site process fd : ℕ) → PastText p → is_optional_descriptor (table p site process fd) ≡ true
table_text p site process fd h = over (find q (site_at p site).descriptors) refl
  where
    q : Named → Bool
    q d = (d.process == process) && (d.fd == fd)

    over : (o : Option Named) → find q (site_at p site).descriptors ≡ o → is_optional_descriptor (option_map (λ (d : Named). d.names) o) ≡ true
    over None e = refl
    over (Some d) e = all_found is_name_of q (site_at p site).descriptors d e (site_names p site h)

-- ---- versions ----

copies_stamps : (vs : List Copy) → list_all is_copy vs ≡ true → list_all (λ (v : Copy). range.is_stamp v.stamp) vs ≡ true
copies_stamps vs h = all_weaker is_copy (λ v. range.is_stamp v.stamp) (λ v k. (both_parts (range.is_file v.file) (range.is_stamp v.stamp) k).1) vs h

pub candidates_text : (t : Epoch) (f : FileId) → EpochText t → list_all range.is_stamp (candidates t f) ≡ true
candidates_text t f h = all_images range.is_stamp (λ (v : Copy). v.stamp) (filter (λ (v : Copy). same_file v.file f) t.known) (copies_stamps (filter (λ (v : Copy). same_file v.file f) t.known) (all_filtered is_copy (λ (v : Copy). same_file v.file f) t.known h.known))

pub kept_text : (p : Past) (t : Epoch) (f : FileId) → EpochText t → list_all range.is_stamp (kept_in p t f) ≡ true
kept_text p t f h = all_filtered range.is_stamp _ (candidates t f) (candidates_text t f h)

copies_text : (p : Past) (t : Epoch) (site : ℕ) → PastText p → EpochText t → list_all is_copy (copies_in p t site) ≡ true
copies_text p t site h k = over (is_in (site_at p site).epoch t.id)
  where
    over : (b : Bool) → list_all is_copy (cond b (site_at p site).held (first_or (record { site = site; held = [] }) (λ (l : Left). l.site == site) t.left).held) ≡ true
    over true = site_held p site h
    over false = all_first_or are_left (λ (l : Left). l.site == site) (record { site = site; held = [] }) t.left refl k.left

stamp_found : (vs : List Copy) (f : FileId) → list_all is_copy vs ≡ true → range.is_optional_stamp (stamp_in vs f) ≡ true
stamp_found vs f h = over (find (λ (v : Copy). same_file v.file f) vs) refl
  where
    over : (o : Option Copy) → find (λ (v : Copy). same_file v.file f) vs ≡ o → range.is_optional_stamp (option_map (λ (v : Copy). v.stamp) o) ≡ true
    over None e = refl
    over (Some v) e = (both_parts (range.is_file v.file) (range.is_stamp v.stamp) (all_found is_copy (λ (v : Copy). same_file v.file f) vs v e h)).1

pub held_text : (p : Past) (t : Epoch) (site : ℕ) (f : FileId) → PastText p → EpochText t → range.is_optional_stamp (held_in p t site f) ≡ true
held_text p t site f h k = stamp_found (copies_in p t site) f (copies_text p t site h k)

pub content_text : (h : List Version) (f : FileId) (s : Stamp) → list_all has_data h ≡ true → range.is_data file_bytes_max (content_of h f s) ≡ true
content_text [] f s k = refl
content_text (v ∷ older) f s k = let parts = all_first has_data v older k in over parts.0 (content_text older f s parts.1) (is_version f s v)
  where
    over : range.is_data file_bytes_max v.content ≡ true → range.is_data file_bytes_max (content_of older f s) ≡ true → (b : Bool) → range.is_data file_bytes_max (cond b v.content (content_of older f s)) ≡ true
    over own later true = own
    over own later false = later

pub stamped_text : (h : List Version) (f : FileId) (o : Option Stamp) → list_all has_data h ≡ true → range.is_data file_bytes_max (stamped_content h f o) ≡ true
stamped_text h f None k = refl
stamped_text h f (Some s) k = content_text h f s k
