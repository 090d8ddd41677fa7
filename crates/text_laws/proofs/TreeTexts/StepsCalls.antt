-- A past of texts is one again by each call that is accepted, granted or answered.
use Rattle.std.proofs.Common.{◌≡◌, ℕ, ◌+◌, ◌==◌, ◌&&◌, not, Bool, true, false, cond, List, [], ◌∷◌, ◌++◌, filter, map, Option, Some, None, refl}
use Rattle.std.specs.Prelude.{fold}
use Rattle.std.specs.List.{list_all, list_any, AllByRecursion}
use Rattle.locus_ids.specs.declared.ids.CallId.{CallId}
use Rattle.locus_ids.specs.declared.ids.EpochId.{EpochId}
use Rattle.locus_ids.specs.declared.ids.FileId.{FileId}
use Rattle.locus_ids.specs.declared.ids.Stamp.{Stamp}
use Rattle.trace_book.specs.declared.call.Call.{Call}
use Rattle.trace_book.specs.declared.descriptor.Descriptor.{Descriptor}
use Rattle.trace_book.specs.declared.reply.Reply.{Reply}
use Rattle.trace_book.specs.declared.reply.Reply.TheVariants as reply
use Rattle.call_rules.specs.Descriptors.{beginning}
use Rattle.call_rules.specs.Opening.{is_steady}
use Rattle.call_rules.specs.declared.answer.Answer.{Answer}
use Rattle.lawful_trace.specs.Progress.{granted_answer}
use Rattle.tree_model.specs.declared.instance.Granted.{Granted}
use Rattle.tree_model.specs.Calls.{version_at}
use Rattle.tree_model.specs.Epochs.{is_in}
use Rattle.tree_model.specs.Working.{list_of}
use Rattle.promises.specs.Past.{Past, Site, Epoch, Instance, CallSoFar, Named, epoch_at, is_named, kept_in, site_at, table}
use Rattle.promises.specs.After.{accepted, begun_call, change, granted, held_again, held_by, is_epoch, is_freed, is_id, is_read_by, left_unmended, named_by, once_named, opened_as, replied_to, taken_by, uses}
use Rattle.past_laws.proofs.Alls.{all_filtered, all_first, all_joined, all_more}
use Rattle.past_laws.proofs.CallsLists.{each_added, each_mapped}
use Rattle.past_laws.proofs.Names.{both, both_parts}
use Rattle.record_reading.specs.Ranges as range
use Rattle.text_laws.proofs.TreeTexts.Answering.{beginning_text, free_text, granted_text}
use Rattle.text_laws.proofs.TreeTexts.Steps.{each_again, one_answer, unwaited}
use Rattle.text_laws.proofs.TreeTexts.Texts.{CallText, EpochText, InstanceText, PastText, SiteText, at_epoch, is_kept_version, is_name_of, is_optional_descriptor, kept_text, site_epoch, stamped_text, table_text}

-- ---- accepted calls ----

pub begun_text : (p : Past) (site process : ℕ) (id : CallId) (words : Call) → range.is_process process ≡ true → range.is_call_id id ≡ true → range.is_words process words ≡ true → PastText p → CallText (begun_call p site process id words (beginning (table p site process) (site_at p site).epoch id words))
begun_text p site process id words a b d h = record {
  id = b;
  process = a;
  words = d;
  epoch = site_epoch p site h;
  begins = beginning_text (table p site process) (site_at p site).epoch id words b (λ fd. table_text p site process fd h);
  free = free_text (table p site process);
  granted = refl;
  answers = refl;
}

pub accepted_text : (p : Past) (site : ℕ) (k : CallSoFar) → CallText k → PastText p → PastText (accepted site k p)
accepted_text p site k new h = record {
  sites = each_again SiteText (λ (s : Site). s.number == site) (λ (s : Site). record s { accepted = s.accepted + 1; descriptors = filter (λ d. not (is_freed k.words k.process d)) s.descriptors })
      (λ s j. record { number = j.number; epoch = j.epoch; names = all_filtered is_name_of (λ d. not (is_freed k.words k.process d)) s.descriptors j.names; held = j.held }) p.sites h.sites;
  epochs = each_again EpochText (λ (t : Epoch). is_in k.epoch t.id) (λ (t : Epoch). record t { opened = change (uses k.begins k.words t.id) (λ (x : Instance). record x { uses = x.uses + 1 }) t.opened })
      (λ t j. record {
        id = j.id;
        joined = j.joined;
        left = j.left;
        known = j.known;
        started = j.started;
        opened = each_again InstanceText (uses k.begins k.words t.id) (λ (x : Instance). record x { uses = x.uses + 1 })
            (λ x own. record { inst = own.inst; call = own.call; process = own.process; file = own.file; content = own.content; last = own.last; committed = own.committed }) t.opened j.opened;
      }) p.epochs h.epochs;
  calls = (new, h.calls);
  history = h.history;
  files = h.files;
}

-- ---- grants ----

kept_at : (p : Past) (e : EpochId) (f : FileId) → PastText p → list_all range.is_stamp (kept_in p (epoch_at p e) f) ≡ true
kept_at p e f h = at_epoch (λ t. list_all range.is_stamp (kept_in p t f) ≡ true) p e h refl (λ t is own. kept_text p t f own)

-- what a grant says is in range, and so is the process of its call
pub record GrantText (g : Granted) (stamp : Option Stamp) : Type 0 where
  pub inst : range.is_instance g.inst ≡ true
  pub call : range.is_call_id g.call ≡ true
  pub process : range.is_process g.process ≡ true
  pub file : range.is_file g.file ≡ true
  pub named : range.is_optional_stamp stamp ≡ true

version_text : (steady : Bool) (f : FileId) (stamp : Option Stamp) → range.is_file f ≡ true → is_kept_version (cond steady (version_at f stamp) None) ≡ true
version_text true f None h = refl
version_text true f (Some stamp) h = h
version_text false f stamp h = refl

pub granted_past : (p : Past) (e : EpochId) (g : Granted) (stamp : Option Stamp) → range.is_epoch e ≡ true → GrantText g stamp → PastText p → PastText (granted e g stamp p)
granted_past p e g stamp there good h = record {
  sites = h.sites;
  epochs = each_again EpochText (is_epoch e) (λ (t : Epoch). record t { granted = g ∷ t.granted; opened = t.opened ++ opened_as p g stamp ∷ [] })
      (λ t j. record { id = j.id; joined = j.joined; left = j.left; known = j.known; started = j.started; opened = each_added InstanceText t.opened (opened_as p g stamp) j.opened new }) p.epochs h.epochs;
  calls = each_again CallText (is_id g.call) grants (λ k own. record { id = own.id; process = own.process; words = own.words; epoch = own.epoch; begins = own.begins; free = own.free; granted = both (range.is_epoch e) (is_kept_version (cond (is_steady k.words) (version_at g.file stamp) None)) there (version_text (is_steady k.words) g.file stamp good.file); answers = one_answer k.answers answer own.answers (granted_text g.mode g.inst g.file stamp (kept_in p (epoch_at p e) g.file) good.file good.named (kept_at p e g.file h)) }) p.calls h.calls;
  history = h.history;
  files = h.files;
}
  where
    answer : Answer
    answer = granted_answer g.mode g.inst g.file stamp (kept_in p (epoch_at p e) g.file)

    grants : CallSoFar → CallSoFar
    grants k = record k { granted = Some (record { mode = g.mode; epoch = e; inst = g.inst; steady = cond (is_steady k.words) (version_at g.file stamp) None }); answers = k.answers ++ granted_answer g.mode g.inst g.file stamp (kept_in p (epoch_at p e) g.file) ∷ [] }

    new : InstanceText (opened_as p g stamp)
    new = record { inst = good.inst; call = good.call; process = good.process; file = good.file; content = stamped_text p.history g.file stamp h.history; last = good.named; committed = refl }

-- ---- replies ----

taken_names : (r : Reply) (k : CallSoFar) → CallText k → list_all is_name_of (taken_by r k) ≡ true
taken_names (reply.Opened fd) k h = over k.granted h.granted
  where
    over : (o : Option Descriptor) → is_optional_descriptor o ≡ true → list_all is_name_of (map (λ d. record { process = k.process; fd = fd; names = d }) (list_of o)) ≡ true
    over None g = refl
    over (Some d) g = all_more is_name_of (record { process = k.process; fd = fd; names = d }) [] g refl
taken_names _ k h = refl

-- a descriptor that a read has opened again keeps its version
held_name : (o : Option Descriptor) (d : Named) → is_optional_descriptor o ≡ true → is_name_of d ≡ true → is_name_of (held_by o d) ≡ true
held_name None d g h = h
held_name (Some opening) d g h = both (range.is_epoch opening.epoch) (is_kept_version d.names.steady) (both_parts (range.is_epoch opening.epoch) (is_kept_version opening.steady) g).0 (both_parts (range.is_epoch d.names.epoch) (is_kept_version d.names.steady) h).1

changed_names : (which : Named → Bool) (o : Option Descriptor) (ds : List Named) → is_optional_descriptor o ≡ true → list_all is_name_of ds ≡ true → list_all is_name_of (change which (held_by o) ds) ≡ true
changed_names which o [] g h = refl
changed_names which o (d ∷ ds) g h = all_more is_name_of (cond (which d) (held_by o d) d) (change which (held_by o) ds) (over (which d)) (changed_names which o ds g parts.1)
  where
    parts : (is_name_of d ≡ true) × (list_all is_name_of ds ≡ true)
    parts = all_first is_name_of d ds h

    over : (b : Bool) → is_name_of (cond b (held_by o d) d) ≡ true
    over true = held_name o d g parts.0
    over false = parts.0

held_names : (r : Reply) (k : CallSoFar) (ds : List Named) → CallText k → list_all is_name_of ds ≡ true → list_all is_name_of (held_again r k ds) ≡ true
held_names (reply.Data bytes) k ds own h = changed_names (is_read_by k.words k.process) k.granted ds own.granted h
held_names _ k ds own h = h

once_text : (r : Reply) (x : Instance) → InstanceText x → InstanceText (once_named r x)
once_text (reply.Data bytes) x it = record { inst = it.inst; call = it.call; process = it.process; file = it.file; content = it.content; last = it.last; committed = it.committed }
once_text _ x it = record { inst = it.inst; call = it.call; process = it.process; file = it.file; content = it.content; last = it.last; committed = it.committed }

replied_one : (r : Reply) (k : CallSoFar) (p : Past) → CallText k → PastText p → PastText (replied_to r k p)
replied_one r k p own h = record {
  sites = each_again SiteText (λ (s : Site). s.number == k.id.site) (λ (s : Site). record s { descriptors = taken_by r k ++ held_again r k s.descriptors })
      (λ s j. record { number = j.number; epoch = j.epoch; names = all_joined is_name_of (taken_by r k) (held_again r k s.descriptors) (taken_names r k own) (held_names r k s.descriptors own j.names); held = j.held }) p.sites h.sites;
  epochs = each_mapped EpochText EpochText answers (λ t j. record {
    id = j.id;
    joined = j.joined;
    left = j.left;
    known = j.known;
    started = j.started;
    opened = each_again InstanceText (takes t) (once_named r) (once_text r) t.opened j.opened;
  }) p.epochs h.epochs;
  calls = each_again CallText (is_id k.id) (λ (x : CallSoFar). record x { waits = false }) unwaited p.calls h.calls;
  history = h.history;
  files = h.files;
}
  where
    takes : Epoch → Instance → Bool
    takes t x = list_any (λ (d : Descriptor). is_in (Some d.epoch) t.id && is_named d.inst x) (named_by r k)

    answers : Epoch → Epoch
    answers t = record t { opened = change (takes t) (once_named r) t.opened; unmended = cond (is_in k.epoch t.id) (left_unmended r k.words) [] ++ t.unmended }

pub replied_text : (r : Reply) (ks : List CallSoFar) (p : Past) → AllByRecursion CallText ks → PastText p → PastText (fold (λ (old : Past) (k : CallSoFar). replied_to r k old) p ks)
replied_text r [] p own h = h
replied_text r (k ∷ ks) p own h = replied_text r ks (replied_to r k p) own.1 (replied_one r k p own.0 h)
