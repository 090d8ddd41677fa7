-- Records of operations, of commits and of releases are texts.
use Rattle.std.proofs.Common.{◌≡◌, ℕ, ◌+◌, ◌==◌, ◌&&◌, ◌||◌, not, Bool, true, false, cond, List, [], ◌∷◌, filter, Option, Some, None, refl, subst}
use Rattle.std.specs.List.{list_all, list_any, AllByRecursion}
use Rattle.std.specs.Option.{is_none}
use Rattle.std.specs.Str.{bytes_eq}
use Rattle.locus_ids.specs.declared.config.Config.{Config}
use Rattle.locus_ids.specs.declared.ids.EpochId.{EpochId}
use Rattle.locus_ids.specs.declared.ids.FileId.{FileId}
use Rattle.locus_ids.specs.declared.ids.Serial.{Serial}
use Rattle.locus_ids.specs.declared.ids.Stamp.{Stamp}
use Rattle.commit_graph.specs.Grants.{is_read}
use Rattle.commit_graph.specs.Counters.{next_number}
use Rattle.commit_graph.specs.Versions.{same_file, same_stamp}
use Rattle.trace_book.specs.declared.operation.Op.{Op}
use Rattle.trace_book.specs.declared.operation.Op.TheVariants as op
use Rattle.trace_book.specs.declared.operation.Outcome.{Outcome}
use Rattle.trace_book.specs.declared.record.Record.TheVariants as rec
use Rattle.schedule_lines.specs.Ranges.{is_between}
use Rattle.locus_ids.specs.Sizes.{file_bytes_max}
use Rattle.trace_book.specs.Names.{is_name}
use Rattle.wire_fields.specs.Components.{is_component}
use Rattle.call_rules.specs.declared.want.Want.TheVariants as want
use Rattle.text_laws.specs.CallTexts.Wants.{is_asked_op, is_mount}
use Rattle.tree_model.specs.Epochs.{is_in}
use Rattle.tree_model.specs.Same.{is_given, same_version}
use Rattle.tree_model.specs.Working.{list_of, merges}
use Rattle.promises.specs.Past.{Past, Epoch, Instance, CallSoFar, acts, asks, ends, epoch_at, is_named, is_number, kept_in, site_at, unformed}
use Rattle.promises.specs.Rows.{is_asked, is_synced, is_the_one, is_writing, may_act, may_commit, may_release}
use Rattle.promises.specs.Same.{same_list, same_request}
use Rattle.promises.specs.Tree.{is_spent, parents_of, result_on}
use Rattle.past_laws.proofs.CallsLists.{each_filter, each_passing}
use Rattle.past_laws.proofs.Names.{both, both_parts, false_true, file_eq, serial_eq}
use Rattle.record_reading.specs.Ranges as range
use Rattle.text_laws.proofs.TreeTexts.Asking.{asks_text}
use Rattle.text_laws.proofs.TreeTexts.Effects.{may_give}
use Rattle.text_laws.proofs.TreeTexts.RowsCalls.{epoch_text}
use Rattle.text_laws.proofs.TreeTexts.Same.{data_same, do_same, stamps_turned, version_turned}
use Rattle.text_laws.proofs.TreeTexts.Texts.{CallText, EpochText, InstanceText, PastText, at_epoch, each_any, home_site, kept_text}
use Rattle.text_laws.proofs.TreeTexts.Works.{gave_text}

inst_text : (x : Instance) (i : Serial) → is_named i x ≡ true → InstanceText x → range.is_instance i ≡ true
inst_text x i e h = subst (λ (s : Serial). range.is_instance s ≡ true) (serial_eq x.grant.inst i e) h.inst

file_text : (x : Instance) (f : FileId) → same_file x.grant.file f ≡ true → InstanceText x → range.is_file f ≡ true
file_text x f e h = subst (λ (g : FileId). range.is_file g ≡ true) (file_eq x.grant.file f e) h.file

-- ---- operations ----

-- an operation with good words, that gives what it may
act_text : (o : Op) (result : Outcome) → is_asked_op o ≡ true → may_give o result ≡ true → range.is_act o result ≡ true
act_text (op.Probe name) r h k = both (is_name name) (range.is_done r) h k
act_text (op.Find component) r h k = both (is_component component) (range.is_found r) h k
act_text (op.Insert name ino kind) r h k = (let parts = both_parts (is_name name) (range.is_inode ino) h in both (is_name name) (range.is_inode ino && range.is_done r) parts.0 (both (range.is_inode ino) (range.is_done r) parts.1 k))
act_text (op.Remove name ino) r h k = (let parts = both_parts (is_name name) (range.is_inode ino) h in both (is_name name) (range.is_inode ino && range.is_done r) parts.0 (both (range.is_inode ino) (range.is_done r) parts.1 k))
act_text (op.Rename component name) r h k = (let parts = both_parts (is_component component) (is_name name) h in both (is_component component) (is_name name && range.is_done r) parts.0 (both (is_name name) (range.is_done r) parts.1 k))
act_text op.Empty r h k = k
act_text (op.Read at len) r h k = (let parts = both_parts (is_between 0 file_bytes_max at) (is_between 0 4096 len) h in both (is_between 0 file_bytes_max at) (is_between 0 4096 len && range.is_read r) parts.0 (both (is_between 0 4096 len) (range.is_read r) parts.1 k))
act_text (op.Write at bytes) r h k = (let parts = both_parts (is_between 0 file_bytes_max at) (range.is_some_data 4096 bytes) h in both (is_between 0 file_bytes_max at) (range.is_some_data 4096 bytes && range.is_done r) parts.0 (both (range.is_some_data 4096 bytes) (range.is_done r) parts.1 k))
act_text (op.Cut len) r h k = both (is_between 0 file_bytes_max len) (range.is_done r) h k
act_text op.Commit r h k = k
act_text op.Abort r h k = k
act_text op.Mend r h k = k

-- the operation that some call asks
asked_text : (c : Config) (p : Past) (t : Epoch) (which : CallSoFar → Bool) (i : Serial) (o : Op) → list_all is_mount c.mounts ≡ true → PastText p → is_asked c p t which (want.Do i o) ≡ true → is_asked_op o ≡ true
asked_text c p t which i o mounts h asked = each_any CallText (is_asked_op o ≡ true) (λ k. which k && (is_in k.epoch t.id && same_request (asks c p k) (want.Do i o))) p.calls
    (λ k m own. do_same (asks c p k) i o (both_parts (is_in k.epoch t.id) _ (both_parts (which k) _ m).1).1 (asks_text c p k mounts own)) h.calls asked

act_in : (c : Config) (p : Past) (t : Epoch) (e : EpochId) (i : Serial) (n : ℕ) (o : Op) (result : Outcome) → list_all is_mount c.mounts ≡ true → PastText p → range.is_counted n ≡ true → t.id ≡ e → EpochText t → may_act c p t i n o result ≡ true → range.is_record (rec.Act e i n o result) ≡ true
act_in c p t e i n o result mounts h new is own may = each_any InstanceText (range.is_record (rec.Act e i n o result) ≡ true) test t.opened one own.opened may
  where
    test : Instance → Bool
    test x = is_named i x && ((n == x.work.ops + 1) && (is_number t.joined x.grant.ss && (is_given (result_on p t o x) result && is_asked c p t (acts t.id x n) (want.Do i o))))

    one : (x : Instance) → test x ≡ true → InstanceText x → range.is_record (rec.Act e i n o result) ≡ true
    one x m k =
        let a = both_parts (is_named i x) _ m in
        let b = both_parts (is_number t.joined x.grant.ss) _ (both_parts (n == x.work.ops + 1) _ a.1).1 in
        let d = both_parts (is_given (result_on p t o x) result) (is_asked c p t (acts t.id x n) (want.Do i o)) b.1 in
        let words : is_asked_op o ≡ true = asked_text c p t (acts t.id x n) i o mounts h d.1 in
        both (range.is_epoch e) _ (epoch_text t e is own) (both (range.is_instance i) _ (inst_text x i a.0 k) (both (range.is_counted n) (range.is_act o result) new (act_text o result words (gave_text p t o x result words k d.0))))

pub act_row : (c : Config) (p : Past) (e : EpochId) (i : Serial) (n : ℕ) (o : Op) (result : Outcome) → list_all is_mount c.mounts ≡ true → PastText p → range.is_counted n ≡ true → may_act c p (epoch_at p e) i n o result ≡ true → range.is_record (rec.Act e i n o result) ≡ true
act_row c p e i n o result mounts h new = at_epoch (λ t. may_act c p t i n o result ≡ true → range.is_record (rec.Act e i n o result) ≡ true) p e h
    (λ may. false_true may)
    (λ t is own may. act_in c p t e i n o result mounts h new is own may)

-- ---- releases ----

release_in : (c : Config) (p : Past) (t : Epoch) (e : EpochId) (i : Serial) (f : FileId) (stamp : Option Stamp) → t.id ≡ e → EpochText t → may_release c p t i f stamp ≡ true → range.is_record (rec.Release e i f stamp) ≡ true
release_in c p t e i f stamp is own may = each_any InstanceText (range.is_record (rec.Release e i f stamp) ≡ true) test t.opened one own.opened (both_parts (is_synced c t f.group) (list_any test t.opened) may).1
  where
    test : Instance → Bool
    test x = is_named i x && (same_file x.grant.file f && (same_version stamp x.work.committed && ((not x.work.owes || is_spent p t x) && is_asked c p t (ends t.id x) (want.Close i))))

    one : (x : Instance) → test x ≡ true → InstanceText x → range.is_record (rec.Release e i f stamp) ≡ true
    one x m k =
        let a = both_parts (is_named i x) _ m in
        let b = both_parts (same_file x.grant.file f) _ a.1 in
        let d = both_parts (same_version stamp x.work.committed) _ b.1 in
        both (range.is_epoch e) _ (epoch_text t e is own) (both (range.is_instance i) _ (inst_text x i a.0 k) (both (range.is_file f) (range.is_optional_stamp stamp) (file_text x f b.0 k) (version_turned stamp x.work.committed d.0 k.committed)))

pub release_row : (c : Config) (p : Past) (e : EpochId) (i : Serial) (f : FileId) (stamp : Option Stamp) → PastText p → may_release c p (epoch_at p e) i f stamp ≡ true → range.is_record (rec.Release e i f stamp) ≡ true
release_row c p e i f stamp h = at_epoch (λ t. may_release c p t i f stamp ≡ true → range.is_record (rec.Release e i f stamp) ≡ true) p e h
    (λ may. false_true (both_parts (is_synced c (unformed e) f.group) false may).1)
    (λ t is own may. release_in c p t e i f stamp is own may)

-- ---- commits ----

-- the only one of those that pass
the_one : (P : Instance → Type 0) (A : Type 0) (q ok : Instance → Bool) (xs : List Instance) → ((x : Instance) → P x → q x ≡ true → ok x ≡ true → A) → AllByRecursion P xs → is_the_one ok (filter q xs) ≡ true → A
the_one P A q ok xs of h = over (filter q xs) (each_filter P q xs h) (each_passing (λ x. q x ≡ true) q (λ x e. e) xs)
  where
    over : (ys : List Instance) → AllByRecursion P ys → AllByRecursion (λ x. q x ≡ true) ys → is_the_one ok ys ≡ true → A
    over [] k l one = false_true one
    over (y ∷ []) k l one = of y k.0 l.0 one
    over (y ∷ z ∷ ys) k l one = false_true one

parents_text : (p : Past) (t : Epoch) (x : Instance) → EpochText t → InstanceText x → list_all range.is_stamp (parents_of p t x) ≡ true
parents_text p t x own h = over (merges x.grant.mode && is_none x.work.committed)
  where
    last : (s : Option Stamp) → range.is_optional_stamp s ≡ true → list_all range.is_stamp (list_of s) ≡ true
    last None k = refl
    last (Some s) k = both (range.is_stamp s) true k refl

    over : (b : Bool) → list_all range.is_stamp (cond b (kept_in p t x.grant.file) (list_of x.work.last)) ≡ true
    over true = kept_text p t x.grant.file own
    over false = last x.work.last h.last

pub commit_row : (p : Past) (f : FileId) (site : ℕ) (stamp : Stamp) (parents : List Stamp) (content : List ℕ) → PastText p → range.is_stamp stamp ≡ true → list_any (may_commit p f site stamp parents content) p.epochs ≡ true → range.is_record (rec.Commit f site stamp parents content) ≡ true
commit_row p f site stamp parents content h new may = each_any EpochText (range.is_record (rec.Commit f site stamp parents content) ≡ true) (may_commit p f site stamp parents content) p.epochs one h.epochs may
  where
    passes : Epoch → Instance → Bool
    passes t x = (x.grant.ss == site) && (x.work.owes && (bytes_eq content x.work.content && (same_list same_stamp parents (parents_of p t x) && same_stamp stamp (record { site = site; n = next_number p.history f parents site }))))

    by_instance : (t : Epoch) → EpochText t → range.is_any_site site ≡ true → (x : Instance) → InstanceText x → is_writing f x ≡ true → passes t x ≡ true → range.is_record (rec.Commit f site stamp parents content) ≡ true
    by_instance t own there x k writing m =
        let a = both_parts x.work.owes _ (both_parts (x.grant.ss == site) _ m).1 in
        let b = both_parts (bytes_eq content x.work.content) _ a.1 in
        let d = both_parts (same_list same_stamp parents (parents_of p t x)) _ b.1 in
        both (range.is_file f) _ (file_text x f (both_parts (same_file x.grant.file f) (not (is_read x.grant.mode)) writing).0 k) (both (range.is_any_site site) _ there (both (range.is_stamp stamp) _ new (both (list_all range.is_stamp parents) (range.is_data file_bytes_max content) (stamps_turned parents (parents_of p t x) d.0 (parents_text p t x own k)) (data_same content x.work.content b.0 k.content))))

    one : (t : Epoch) → may_commit p f site stamp parents content t ≡ true → EpochText t → range.is_record (rec.Commit f site stamp parents content) ≡ true
    one t m own =
        let a = both_parts (is_in (site_at p site).epoch t.id) (is_the_one (passes t) (filter (is_writing f) t.opened)) m in
        the_one InstanceText (range.is_record (rec.Commit f site stamp parents content) ≡ true) (is_writing f) (passes t) t.opened (by_instance t own (home_site p site t.id h a.0)) own.opened a.1
